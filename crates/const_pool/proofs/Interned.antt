-- Entries numbered by first use, followed by one more.
use Rattle.std.proofs.Common.{◌≡◌, ℕ, ℤ, zero, suc, ◌+◌, ◌-◌, ◌<◌, ◌≤◌, Bool, true, false, cond, List, [], ◌∷◌, ◌++◌, length, ◌==◌, ◌&&◌, Option, None, Some, Ok, Err, refl, sym, ap, ◌∙◌, rules, arith, nat_le, lit<}
use Rattle.std.proofs.lemmas.Bool.{and_parts, eqb-true, false≢true}
use Rattle.std.proofs.lemmas.Bool.Decides.{nat_tests}
use Rattle.std.proofs.lemmas.List.Concat.{flat_map-append}
use Rattle.std.proofs.lemmas.Option.{same_Some, none-some}
use Rattle.std.specs.Cmp.{signed_Decides}
use Rattle.std.specs.Cmp.Lexicographic.{same_text as texts_are_same}
use Rattle.std.specs.Ordering.{int_eq}
use Rattle.std.specs.Prelude.{slice_get, IfSome}
use Rattle.std.specs.Map.{lookup, keys_of}
use Rattle.jvms_file.specs.declared.class_file.Constant.{Constant}
use Rattle.jvms_file.specs.declared.class_file.Constant.TheVariants as constant
use Rattle.jvms_file.specs.ConstantPool.{takes_two, entry as entry_at}
use Rattle.jvms_file.specs.Spelling.{IsNumbered}
use Rattle.const_pool.specs.declared.entry.Entry.{Entry}
use Rattle.const_pool.specs.declared.entry.Entry.TheVariants as entry
use Rattle.const_pool.specs.declared.builder.PoolFault.TheVariants as pool_fault
use Rattle.const_pool.specs.Interning.{constant_of, constants_of, pool_of, is_same, width, total_width, number_from, numbered_from, intern, IsNumbering}
use Rattle.const_pool.specs.contracts.entry.EntryPartialEq as derived

-- The equality that `==` uses.
abbrev pub same : Entry → Entry → Bool
same = derived.TheImpl.eq-value.it

pub same-is : (a b : Entry) → same a b ≡ is_same a b
same-is a b = search rules

-- The number that is stored with an entry is its number.
pub lookup-numbered_from : (n : ℕ) (es : List Entry) (e : Entry) → lookup (same e) (numbered_from n es) ≡ number_from n es e
lookup-numbered_from n [] e = refl
lookup-numbered_from n (x ∷ xs) e = rw (same-is e x) (ap (cond (is_same e x) (Some n)) (lookup-numbered_from (n + width x) xs e))

pub found_number : (entries : List (Entry × ℕ)) (es : List Entry) (e : Entry) → entries ≡ numbered_from 1 (keys_of entries) → keys_of entries ≡ es → lookup (same e) entries ≡ number_from 1 es e
found_number entries es e numbered are = ap (lookup (same e)) numbered ∙ lookup-numbered_from 1 (keys_of entries) e ∙ ap (λ ks. number_from 1 ks e) are

pub taken-push : (es : List Entry) (e : Entry) → total_width (es ++ e ∷ []) ≡ total_width es + width e
taken-push [] e = omega arith
taken-push (x ∷ xs) e = let more : total_width (xs ++ e ∷ []) ≡ total_width xs + width e = taken-push xs e in omega arith

pub numbered_from-push : (n : ℕ) (es : List Entry) (e : Entry) (m : ℕ) → m ≡ n + total_width es → numbered_from n (es ++ e ∷ []) ≡ numbered_from n es ++ (e, m) ∷ []
numbered_from-push n [] e m is = let here : n ≡ m = omega arith in ap (λ k. (e, k) ∷ []) here
numbered_from-push n (x ∷ xs) e m is =
    let there : m ≡ n + width x + total_width xs = omega arith in
    ap (λ more. (x, n) ∷ more) (numbered_from-push (n + width x) xs e m there)

pub keys_of-push : (entries : List (Entry × ℕ)) (e : Entry) (m : ℕ) → keys_of (entries ++ (e, m) ∷ []) ≡ keys_of entries ++ e ∷ []
keys_of-push [] e m = refl
keys_of-push (x ∷ xs) e m = ap (λ more. x.0 ∷ more) (keys_of-push xs e m)

pub width-some : (e : Entry) → 0 < width e
width-some e = elim (takes_two (constant_of e)) as (λ two. 0 < cond two 2 1) [ true ↦ lit< tt | false ↦ lit< tt ]

-- One more entry, with the next number, keeps entries numbered.
pub one_more : (old new : List (Entry × ℕ)) (e : Entry) (next w : ℕ) → IsNumbering old next → w ≡ width e → w ≤ 65535 - next → new ≡ old ++ (e, next) ∷ [] → IsNumbering new (next + w)
one_more old new e next w so_far wide fits made =
    let keys : keys_of new ≡ keys_of old ++ e ∷ [] = ap keys_of made ∙ keys_of-push old e next in
    let place : next ≡ 1 + total_width (keys_of old) = let is : next ≡ total_width (keys_of old) + 1 = so_far.next_is in omega arith in
    let more : total_width (keys_of old ++ e ∷ []) ≡ total_width (keys_of old) + width e = taken-push (keys_of old) e in
    let some : 0 < width e = width-some e in
    record {
      in_order = made ∙ ap (λ es. es ++ (e, next) ∷ []) so_far.in_order ∙ sym (numbered_from-push 1 (keys_of old) e next place) ∙ ap (numbered_from 1) (sym keys);
      next_is = rw keys (omega arith);
      few = rw keys (omega arith);
    }

-- ---- Interning

pub interned-known : (es : List Entry) (e : Entry) (n : ℕ) → Some n ≡ number_from 1 es e → intern es e ≡ Ok (n, es)
unfolding intern
interned-known es e n is = rw (← is) refl

pub interned-full : (es keys : List Entry) (e : Entry) (next w : ℕ) → keys ≡ es → next ≡ total_width keys + 1 → w ≡ width e → 65535 - next < w → None ≡ number_from 1 es e → intern es e ≡ Err pool_fault.PoolFull
unfolding intern
interned-full es keys e next w are is wide over new =
    let all : total_width keys ≡ total_width es = ap total_width are in
    let full : nat_le (total_width es + width e) 65534 ≡ false = grind (arith, nat_tests) in
    rw (← new, full) refl

pub interned-new : (es keys : List Entry) (e : Entry) (next w : ℕ) → keys ≡ es → next ≡ total_width keys + 1 → w ≡ width e → w ≤ 65535 - next → 0 < w → None ≡ number_from 1 es e → intern es e ≡ Ok (next, es ++ e ∷ [])
unfolding intern
interned-new es keys e next w are is wide fits some new =
    let all : total_width keys ≡ total_width es = ap total_width are in
    let free : nat_le (total_width es + width e) 65534 ≡ true = grind (arith, nat_tests) in
    let here : total_width es + 1 ≡ next = omega arith in
    rw (← new, free) (ap (λ n. Ok (n, es ++ e ∷ [])) here)

-- An entry that isn't there takes the next number, if one is left.
pub interned-next : (es keys : List Entry) (e : Entry) (next w : ℕ) → keys ≡ es → next ≡ total_width keys + 1 → w ≡ width e → w ≤ 65535 - next → 0 < w → None ≡ number_from 1 es e → intern es e ≡ Ok (total_width es + 1, es ++ e ∷ [])
unfolding intern
interned-next es keys e next w are is wide fits some new =
    let all : total_width keys ≡ total_width es = ap total_width are in
    let free : nat_le (total_width es + width e) 65534 ≡ true = grind (arith, nat_tests) in
    rw (← new, free) refl

-- ---- The pool of entries

-- An unusable entry follows each long and double, and is nowhere else.
pub numbered_pool : (es : List Entry) → IsNumbered false (pool_of es)
numbered_pool [] = refl
numbered_pool (entry.Utf8 text ∷ es) = numbered_pool es
numbered_pool (entry.Integer n ∷ es) = numbered_pool es
numbered_pool (entry.Float n ∷ es) = numbered_pool es
numbered_pool (entry.Long n ∷ es) = numbered_pool es
numbered_pool (entry.Double n ∷ es) = numbered_pool es
numbered_pool (entry.Class name ∷ es) = numbered_pool es
numbered_pool (entry.String text ∷ es) = numbered_pool es
numbered_pool (entry.Field class name_and_type ∷ es) = numbered_pool es
numbered_pool (entry.Method class name_and_type ∷ es) = numbered_pool es
numbered_pool (entry.InterfaceMethod class name_and_type ∷ es) = numbered_pool es
numbered_pool (entry.NameAndType name descriptor ∷ es) = numbered_pool es

-- A pool has as many numbers as its entries take.
length-constants_of : (e : Entry) (cs : List Constant) → length (constants_of e ++ cs) ≡ width e + length cs
length-constants_of e cs =
    elim (takes_two (constant_of e)) as (λ two. length (cond two (constant_of e ∷ constant.Unusable ∷ []) (constant_of e ∷ []) ++ cs) ≡ cond two 2 1 + length cs) [ true ↦ omega arith | false ↦ omega arith ]

pub length-pool_of : (es : List Entry) → length (pool_of es) ≡ total_width es
length-pool_of [] = refl
length-pool_of (e ∷ es) = length-constants_of e (pool_of es) ∙ ap (λ n. width e + n) (length-pool_of es)

-- Equal entries are equal constants.
signed_is : (a b : ℤ) → int_eq a b ≡ true → a ≡ b
signed_is a b h = (signed_Decides a b).0 h

two_are : (make : ℕ → ℕ → Constant) (a b m n : ℕ) → (a == b && m == n) ≡ true → make a m ≡ make b n
two_are make a b m n h =
    let parts = and_parts (a == b) (m == n) h in
    ap (λ x. make x m) (eqb-true a b parts.0) ∙ ap (make b) (eqb-true m n parts.1)

same_constant : (a b : Entry) → is_same a b ≡ true → constant_of a ≡ constant_of b
same_constant (entry.Utf8 a) (entry.Utf8 b) h = ap (λ text. constant.Utf8 text) (texts_are_same a.items b.items (sym h))
same_constant (entry.Integer a) (entry.Integer b) h = ap (λ n. constant.Integer n) (signed_is a b h)
same_constant (entry.Float a) (entry.Float b) h = ap (λ n. constant.Float n) (eqb-true a b h)
same_constant (entry.Long a) (entry.Long b) h = ap (λ n. constant.Long n) (signed_is a b h)
same_constant (entry.Double a) (entry.Double b) h = ap (λ n. constant.Double n) (eqb-true a b h)
same_constant (entry.Class a) (entry.Class b) h = ap (λ n. constant.Class n) (eqb-true a b h)
same_constant (entry.String a) (entry.String b) h = ap (λ n. constant.String n) (eqb-true a b h)
same_constant (entry.Field a m) (entry.Field b n) h = two_are (λ x y. constant.Field x y) a b m n h
same_constant (entry.Method a m) (entry.Method b n) h = two_are (λ x y. constant.Method x y) a b m n h
same_constant (entry.InterfaceMethod a m) (entry.InterfaceMethod b n) h = two_are (λ x y. constant.InterfaceMethod x y) a b m n h
same_constant (entry.NameAndType a m) (entry.NameAndType b n) h = two_are (λ x y. constant.NameAndType x y) a b m n h
same_constant a b h = absurd (false≢true h)

-- The constants after those of an entry follow them in the pool.
behind_entry : (e : Entry) (cs : List Constant) (i : ℕ) → slice_get (constants_of e ++ cs) (width e + i) ≡ slice_get cs i
behind_entry e cs i =
    elim (takes_two (constant_of e)) as (λ two. slice_get (cond two (constant_of e ∷ constant.Unusable ∷ []) (constant_of e ∷ []) ++ cs) (cond two 2 1 + i) ≡ slice_get cs i) [ true ↦ rw two_more refl | false ↦ rw one_more_place refl ]
  where
    two_more : 2 + i ≡ suc (suc i)
    two_more = omega arith

    one_more_place : 1 + i ≡ suc i
    one_more_place = omega arith

first_number : (e : Entry) (cs : List Constant) → slice_get (constants_of e ++ cs) 0 ≡ Some (constant_of e)
first_number e cs =
    elim (takes_two (constant_of e)) as (λ two. slice_get (cond two (constant_of e ∷ constant.Unusable ∷ []) (constant_of e ∷ []) ++ cs) 0 ≡ Some (constant_of e)) [ true ↦ refl | false ↦ refl ]

-- The number of an entry, less those before, is its place.
pub record IsAt (es : List Entry) (e : Entry) (n m : ℕ) : Type 0 where
  pub place : ℕ
  pub sum : m ≡ n + place
  pub names : slice_get (pool_of es) place ≡ Some (constant_of e)

at_here : (n : ℕ) (x : Entry) (xs : List Entry) (e : Entry) (m : ℕ) → is_same e x ≡ true → n ≡ m → IsAt (x ∷ xs) e n m
at_here n x xs e m same here =
    record { place = 0; sum = omega arith; names = first_number x (pool_of xs) ∙ ap (λ c. Some c) (sym (same_constant e x same)) }

at_behind : (n : ℕ) (x : Entry) (xs : List Entry) (e : Entry) (m : ℕ) → IsAt xs e (n + width x) m → IsAt (x ∷ xs) e n m
at_behind n x xs e m at =
    let far : m ≡ n + width x + at.place = at.sum in
    record { place = width x + at.place; sum = omega arith; names = behind_entry x (pool_of xs) at.place ∙ at.names }

at_by : (n : ℕ) (x : Entry) (xs : List Entry) (e : Entry) (m : ℕ) (here : Bool) → is_same e x ≡ here → (number_from (n + width x) xs e ≡ Some m → IsAt xs e (n + width x) m)
    → cond here (Some n) (number_from (n + width x) xs e) ≡ Some m → IsAt (x ∷ xs) e n m
at_by n x xs e m true same more is = at_here n x xs e m same (same_Some n m is)
at_by n x xs e m false same more is = at_behind n x xs e m (more is)

number_at : (n : ℕ) (es : List Entry) (e : Entry) (m : ℕ) → number_from n es e ≡ Some m → IsAt es e n m
number_at n [] e m is = absurd (none-some m is)
number_at n (x ∷ xs) e m is = at_by n x xs e m (is_same e x) refl (number_at (n + width x) xs e m) is

-- The number of an entry names it in the pool.
pub number_names : (es : List Entry) (e : Entry) (m : ℕ) → number_from 1 es e ≡ Some m → entry_at (pool_of es) m ≡ Some (constant_of e)
number_names es e m is =
    let at = number_at 1 es e m is in
    let next : m ≡ suc at.place = let far : m ≡ 1 + at.place = at.sum in omega arith in
    rw next at.names

-- ---- One more entry in the pool

last_number : (es : List Entry) (e : Entry) → slice_get (pool_of (es ++ e ∷ [])) (total_width es) ≡ Some (constant_of e)
last_number [] e = first_number e []
last_number (x ∷ xs) e = behind_entry x (pool_of (xs ++ e ∷ [])) (total_width xs) ∙ last_number xs e

-- The next number names the entry that takes it.
pub next_names : (es keys : List Entry) (e : Entry) (next : ℕ) → keys ≡ es → next ≡ total_width keys + 1 → entry_at (pool_of (es ++ e ∷ [])) next ≡ Some (constant_of e)
next_names es keys e next are is =
    let all : total_width keys ≡ total_width es = ap total_width are in
    let behind : next ≡ suc (total_width es) = omega arith in
    rw behind (last_number es e)

get_in_front : (xs ys : List Constant) (i : ℕ) (c : Constant) → slice_get xs i ≡ Some c → slice_get (xs ++ ys) i ≡ Some c
get_in_front [] ys i c is = absurd (none-some c is)
get_in_front (x ∷ xs) ys zero c is = is
get_in_front (x ∷ xs) ys (suc i) c is = get_in_front xs ys i c is

-- The entries that numbers name are kept.
pub names_kept : (es : List Entry) (e : Entry) (n : ℕ) (c : Constant) → entry_at (pool_of es) n ≡ Some c → entry_at (pool_of (es ++ e ∷ [])) n ≡ Some c
names_kept es e zero c is = is
names_kept es e (suc i) c is = rw (flat_map-append constants_of es (e ∷ [])) (get_in_front (pool_of es) (pool_of (e ∷ [])) i c is)

-- ---- What callers use

pub number_named : (es : List Entry) (e : Entry) (r : Option ℕ) → r ≡ number_from 1 es e → IfSome r (λ n. entry_at (pool_of es) n ≡ Some (constant_of e))
number_named es e None is = tt
number_named es e (Some n) is = number_names es e n (sym is)

-- No number is above 65534.
pub few_numbers : (es keys : List Entry) → keys ≡ es → total_width keys ≤ 65534 → length (pool_of es) ≤ 65534
few_numbers es keys are few =
    let all : total_width keys ≡ total_width es = ap total_width are in
    let len : length (pool_of es) ≡ total_width es = length-pool_of es in
    omega arith
