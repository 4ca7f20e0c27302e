-- The first numbers of texts among entries.
use Rattle.std.proofs.Common.{◌≡◌, ℕ, zero, suc, ◌+◌, ◌-◌, ◌<◌, Bool, true, false, cond, List, [], ◌∷◌, ◌++◌, length, take, ◌==◌, Option, None, Some, refl, sym, ap, ◌∙◌, arith, map, Ordering}
use Rattle.std.proofs.lemmas.Bool.{eqb-true, false≢true}
use Rattle.std.proofs.lemmas.Bool.Decides.{Decides-eqb}
use Rattle.std.proofs.lemmas.Map.Text.{is_eq-slice_cmp}
use Rattle.std.proofs.lemmas.Option.{none-some, same_Some, slice_get-map}
use Rattle.std.proofs.lemmas.Slice.Eq.{bytes_eq-Decides}
use Rattle.std.specs.Cmp.{nat_cmp_is, both_ways}
use Rattle.std.specs.Cmp.Lexicographic.{slice_cmp}
use Rattle.std.specs.Option.{option_and_then, option_flatten, option_map, unwrap_or}
use Rattle.std.specs.Ordering.{nat_cmp, ordering_then, is_eq}
use Rattle.std.specs.declared.cmp.Ordering.TheVariants.{Less, Equal, Greater}
use Rattle.std.specs.Prelude.{slice_get}
use Rattle.jvms_file.specs.declared.class_file.Constant.{Constant}
use Rattle.jvms_file.specs.declared.class_file.Constant.TheVariants as constant
use Rattle.jvms_file.specs.Names.{same_text}
use Rattle.jvms_file.specs.ConstantPool.{utf8_of, utf8_at, entry}
use Rattle.jvms_file.specs.Members.{is_text_with, same_entry_text}
use Rattle.const_pool.specs.declared.scanned.Text.{Text}
use Rattle.const_pool.specs.Texts.{is_this, first_from, first_number, known_after, text_with, text_of, forms_of, canonical, is_one_number}

same_here : (a : List ℕ) → same_text a a ≡ true
same_here a = (bytes_eq-Decides a a).1 refl

-- ---- Keys

unlike : (o s : Ordering) → is_eq s ≡ false → is_eq (ordering_then o s) ≡ false
unlike Less s h = refl
unlike Equal s h = h
unlike Greater s h = refl

alike : (m n : ℕ) (s : Ordering) → m ≡ n → is_eq (ordering_then (nat_cmp m n) s) ≡ is_eq s
alike m n s e = rw (← nat_cmp_is m n Equal e) refl

by_texts : (f : List ℕ → ℕ) (a b : List ℕ) (t : Bool) → same_text a b ≡ t → is_eq (ordering_then (nat_cmp (f a) (f b)) (slice_cmp nat_cmp a b)) ≡ t
by_texts f a b true is = alike (f a) (f b) (slice_cmp nat_cmp a b) (ap f ((bytes_eq-Decides a b).0 is)) ∙ (is_eq-slice_cmp a b ∙ is)
by_texts f a b false is = unlike (nat_cmp (f a) (f b)) (slice_cmp nat_cmp a b) (is_eq-slice_cmp a b ∙ is)

-- Keys in the order of a hash of the text, and then in that of the texts, are equal exactly if the texts are.
pub one_key : (f : List ℕ → ℕ) (a b : List ℕ) → is_eq (ordering_then (nat_cmp (f a) (f b)) (slice_cmp nat_cmp a b)) ≡ same_text a b
one_key f a b = by_texts f a b (same_text a b) refl

-- ---- One more entry

more_by : (n : ℕ) (here : Bool) (r s : Option ℕ) (m : ℕ) (text : List ℕ) (c : Constant) → r ≡ known_after s m text c → cond here (Some n) r ≡ known_after (cond here (Some n) s) m text c
more_by n true r s m text c h = refl
more_by n false r s m text c h = h

pub first_more : (n : ℕ) (cs : List Constant) (c : Constant) (text : List ℕ) → first_from n (cs ++ c ∷ []) text ≡ known_after (first_from n cs text) (n + length cs) text c
first_more n [] c text = let here : n ≡ n + 0 = omega arith in ap (λ m. cond (is_this text c) (Some m) None) here
first_more n (x ∷ xs) c text =
    let far : n + 1 + length xs ≡ n + suc (length xs) = omega arith in
    more_by n (is_this text x) (first_from (n + 1) (xs ++ c ∷ []) text) (first_from (n + 1) xs text) (n + suc (length xs)) text c
    (first_more (n + 1) xs c text ∙ ap (λ m. known_after (first_from (n + 1) xs text) m text c) far)

-- ---- The number that an entry gets is the least

here_by : (n : ℕ) (here : Bool) (r s : Option ℕ) (m : ℕ) → unwrap_or r m ≡ unwrap_or s 0 → unwrap_or (cond here (Some n) r) m ≡ unwrap_or (cond here (Some n) s) 0
here_by n true r s m h = refl
here_by n false r s m h = h

pub placed : (n : ℕ) (pool : List Constant) (i : ℕ) (text : List ℕ) → slice_get pool i ≡ Some (constant.Utf8 text) → unwrap_or (first_from n (take i pool) text) (n + i) ≡ unwrap_or (first_from n pool text) 0
placed n [] i text is = absurd (none-some (constant.Utf8 text) is)
placed n (x ∷ xs) zero text is =
    rw (same_Some x (constant.Utf8 text) is, same_here text) (omega arith)
placed n (x ∷ xs) (suc i) text is =
    let far : n + 1 + i ≡ n + suc i = omega arith in
    here_by n (is_this text x) (first_from (n + 1) (take i xs) text) (first_from (n + 1) xs text) (n + suc i)
    (ap (λ m. unwrap_or (first_from (n + 1) (take i xs) text) m) (sym far) ∙ placed (n + 1) xs i text is)

-- The first number of an entry's text, found among the entries before it, is the one of the definition.
pub placed_text : (pool : List Constant) (i : ℕ) (c : Constant) (known : List ℕ → Option ℕ) → slice_get pool i ≡ Some c → ((text : List ℕ) → known text ≡ first_number (take i pool) text) → text_with (λ text. unwrap_or (known text) (i + 1)) c ≡ text_of pool c
placed_text pool i (constant.Utf8 text) known is h =
    let next : i + 1 ≡ 1 + i = omega arith in
    ap (λ n. Some (record { canonical = n; forms = forms_of text })) (ap (λ r. unwrap_or r (i + 1)) (h text) ∙ ap (λ m. unwrap_or (first_number (take i pool) text) m) next ∙ placed 1 pool i text is)
placed_text pool i (constant.Integer n) known is h = refl
placed_text pool i (constant.Float n) known is h = refl
placed_text pool i (constant.Long n) known is h = refl
placed_text pool i (constant.Double n) known is h = refl
placed_text pool i (constant.Class n) known is h = refl
placed_text pool i (constant.String n) known is h = refl
placed_text pool i (constant.Field m n) known is h = refl
placed_text pool i (constant.Method m n) known is h = refl
placed_text pool i (constant.InterfaceMethod m n) known is h = refl
placed_text pool i (constant.NameAndType m n) known is h = refl
placed_text pool i constant.Unusable known is h = refl

-- ---- Equal texts have one number

this_text : (a : List ℕ) (u : Option (List ℕ)) → is_text_with (same_text a) u ≡ true → u ≡ Some a
this_text a None h = absurd (false≢true h)
this_text a (Some t) h = ap (λ s. Some s) (sym ((bytes_eq-Decides a t).0 h))

is_there : (a : List ℕ) (u : Option (List ℕ)) → u ≡ Some a → is_text_with (same_text a) u ≡ true
is_there a u is = rw is (same_here a)

-- The place of the first entry that is a text.
record IsFirst (n : ℕ) (pool : List Constant) (a : List ℕ) : Type 0 where
  place : ℕ
  number : first_from n pool a ≡ Some (n + place)
  names : option_and_then utf8_of (slice_get pool place) ≡ Some a

first_by : (n : ℕ) (x : Constant) (xs : List Constant) (i : ℕ) (a : List ℕ) (here : Bool) → is_this a x ≡ here → option_and_then utf8_of (slice_get (x ∷ xs) i) ≡ Some a → ((j : ℕ) → option_and_then utf8_of (slice_get xs j) ≡ Some a → IsFirst (n + 1) xs a) → IsFirst n (x ∷ xs) a
first_by n x xs i a true here is more =
    let at : n ≡ n + 0 = omega arith in
    record { place = 0; number = rw here (ap (λ m. Some m) at); names = this_text a (utf8_of x) here }
first_by n x xs zero a false here is more = absurd (false≢true (sym here ∙ is_there a (utf8_of x) is))
first_by n x xs (suc i) a false here is more =
    let first = more i is in
    let at : n + 1 + first.place ≡ n + suc first.place = omega arith in
    record { place = suc first.place; number = rw here (first.number ∙ ap (λ m. Some m) at); names = first.names }

first_is : (n : ℕ) (pool : List Constant) (i : ℕ) (a : List ℕ) → option_and_then utf8_of (slice_get pool i) ≡ Some a → IsFirst n pool a
first_is n [] i a is = absurd (none-some a is)
first_is n (x ∷ xs) i a is = first_by n x xs i a (is_this a x) refl is (λ j there. first_is (n + 1) xs j a there)

first_at : (pool : List Constant) (m : ℕ) (a : List ℕ) → utf8_at pool m ≡ Some a → IsFirst 1 pool a
first_at pool zero a is = absurd (none-some a is)
first_at pool (suc i) a is = first_is 1 pool i a is

one_place : (pool : List Constant) (a b : List ℕ) (f : IsFirst 1 pool a) (g : IsFirst 1 pool b) → (1 + f.place) == (1 + g.place) ≡ true → a ≡ b
one_place pool a b f g h =
    let numbers : 1 + f.place ≡ 1 + g.place = eqb-true (1 + f.place) (1 + g.place) h in
    let places : f.place ≡ g.place = omega arith in
    same_Some a b (sym f.names ∙ ap (λ i. option_and_then utf8_of (slice_get pool i)) places ∙ g.names)

one_text : (pool : List Constant) (a b : List ℕ) → IsFirst 1 pool a → IsFirst 1 pool b → unwrap_or (first_number pool a) 0 == unwrap_or (first_number pool b) 0 ≡ same_text a b
one_text pool a b f g =
    rw (f.number, g.number)
    (both_ways ((1 + f.place) == (1 + g.place)) (same_text a b)
    (λ h. (bytes_eq-Decides a b).1 (one_place pool a b f g h))
    (λ h.
    let e : Some (1 + f.place) ≡ Some (1 + g.place) = sym f.number ∙ ap (first_number pool) ((bytes_eq-Decides a b).0 h) ∙ g.number in
    (Decides-eqb (1 + f.place) (1 + g.place)).1 (same_Some (1 + f.place) (1 + g.place) e)))

one_by : (pool : List Constant) (m n : ℕ) (u v : Option (List ℕ)) → utf8_at pool m ≡ u → utf8_at pool n ≡ v → is_one_number (canonical pool m) (canonical pool n) ≡ same_entry_text pool m n
one_by pool m n None v is are = rw is refl
one_by pool m n (Some a) None is are = rw (is, are) refl
one_by pool m n (Some a) (Some b) is are = rw (is, are) (one_text pool a b (first_at pool m a is) (first_at pool n b are))

-- Two numbers have the same canonical number exactly if their texts are equal.
pub one_canonical : (pool : List Constant) (m n : ℕ) → is_one_number (canonical pool m) (canonical pool n) ≡ same_entry_text pool m n
one_canonical pool m n = one_by pool m n (utf8_at pool m) (utf8_at pool n) refl refl

-- ---- The number that a text keeps

known_at : (pool : List Constant) (number : ℕ) → 0 < number → slice_get (map (text_of pool) pool) (number - 1) ≡ option_map (text_of pool) (entry pool number)
known_at pool zero some = absurd (omega arith)
known_at pool (suc i) some = let place : suc i - 1 ≡ i = omega arith in rw place (slice_get-map (text_of pool) pool i)

flat : {A B : Type 0} (f : A → Option B) (x : Option A) → option_flatten (option_map f x) ≡ option_and_then f x
flat f None = refl
flat f (Some x) = refl

pub text_known : (pool : List Constant) (texts : List (Option Text)) (number : ℕ) (got : Option (Option Text)) → 0 < number → texts ≡ map (text_of pool) pool → got ≡ slice_get texts (number - 1) → option_flatten got ≡ option_and_then (text_of pool) (entry pool number)
text_known pool texts number got some are is =
    ap (λ o. option_flatten o) (is ∙ ap (λ ts. slice_get ts (number - 1)) are ∙ known_at pool number some) ∙ flat (text_of pool) (entry pool number)
