-- Proves what the index of one entry names.
use Rattle.std.proofs.Common.{◌≡◌, ℕ, ℤ, zero, suc, ◌+◌, ◌<◌, ◌≤◌, true, false, cond, List, [], ◌∷◌, ◌++◌, length, ◌==◌, ◌&&◌, Option, None, Some, Result, Ok, Err, refl, sym, ap, ◌∙◌, subst, arith, nat_le}
use Rattle.std.proofs.lemmas.Bool.{and_parts, eqb-true, false≢true}
use Rattle.std.proofs.lemmas.Bool.Decides.{nat_tests}
use Rattle.std.proofs.lemmas.List.{length-append}
use Rattle.std.proofs.lemmas.Option.{same_Some, none-some, slice_get_within}
use Rattle.std.specs.Cmp.{signed_Decides}
use Rattle.std.specs.Cmp.Lexicographic.{same_text as texts_are_same}
use Rattle.std.specs.Ordering.{int_eq}
use Rattle.std.specs.Prelude.{slice_get}
use Rattle.jvms_file.specs.declared.class_file.Constant.{Constant}
use Rattle.jvms_file.specs.declared.class_file.Constant.TheVariants as constant
use Rattle.jvms_file.specs.ConstantPool.{takes_two, entry, utf8_at, class_name_at, name_and_type_at}
use Rattle.jvms_file.specs.Results.{◌>>=◌}
use Rattle.pool_entries.specs.declared.fault.EntryFault.{EntryFault}
use Rattle.pool_entries.specs.declared.fault.EntryFault.TheVariants as fault
use Rattle.pool_entries.specs.declared.kind.MethodKind.{MethodKind}
use Rattle.pool_entries.specs.Entries.{is_same, numbers_of, number_from, constant_entry, is_short, text_entry, class_entry, string_entry, integer_entry, long_entry, name_and_type_entry, member_entry, field_entry, method_constant, method_entry}
use Rattle.pool_entries.specs.Named.{IsString, IsMember}
use Rattle.pool_entries.proofs.Lookups.{IsKept-reflexive, IsKept-transitive, utf8_at-kept, class_name_at-kept, name_and_type_at-kept}
use Rattle.assembled_entry_laws.specs.Entered.{IsEntered}
use Rattle.assembled_entry_laws.proofs.Steps.{step, want_step, choose, no_answer, same_Ok}

-- ---- Equal entries

signed_is : (a b : ℤ) → int_eq a b ≡ true → a ≡ b
signed_is a b h = (signed_Decides a b).0 h

two_are : (make : ℕ → ℕ → Constant) (a b m n : ℕ) → (a == b && m == n) ≡ true → make a m ≡ make b n
two_are make a b m n h =
    let parts = and_parts (a == b) (m == n) h in
    ap (λ x. make x m) (eqb-true a b parts.0) ∙ ap (make b) (eqb-true m n parts.1)

-- Entries that pass the test of equality are equal.
same_constant : (a b : Constant) → is_same a b ≡ true → a ≡ b
same_constant (constant.Utf8 a) (constant.Utf8 b) h = ap (λ text. constant.Utf8 text) (texts_are_same a b (sym h))
same_constant (constant.Integer a) (constant.Integer b) h = ap (λ n. constant.Integer n) (signed_is a b h)
same_constant (constant.Float a) (constant.Float b) h = ap (λ n. constant.Float n) (eqb-true a b h)
same_constant (constant.Long a) (constant.Long b) h = ap (λ n. constant.Long n) (signed_is a b h)
same_constant (constant.Double a) (constant.Double b) h = ap (λ n. constant.Double n) (eqb-true a b h)
same_constant (constant.Class a) (constant.Class b) h = ap (λ n. constant.Class n) (eqb-true a b h)
same_constant (constant.String a) (constant.String b) h = ap (λ n. constant.String n) (eqb-true a b h)
same_constant (constant.Field a m) (constant.Field b n) h = two_are (λ x y. constant.Field x y) a b m n h
same_constant (constant.Method a m) (constant.Method b n) h = two_are (λ x y. constant.Method x y) a b m n h
same_constant (constant.InterfaceMethod a m) (constant.InterfaceMethod b n) h = two_are (λ x y. constant.InterfaceMethod x y) a b m n h
same_constant (constant.NameAndType a m) (constant.NameAndType b n) h = two_are (λ x y. constant.NameAndType x y) a b m n h
same_constant a b h = absurd (false≢true h)

-- ---- The index of an entry that is present

-- The entry is at this place of the pool, and its index is the place plus the indices before.
record IsAt (pool : List Constant) (c : Constant) (n m : ℕ) : Type 0 where
  place : ℕ
  sum : m ≡ n + place
  names : slice_get pool place ≡ Some c

at_here : (n : ℕ) (x : Constant) (pool : List Constant) (c : Constant) (m : ℕ) → is_same c x ≡ true → n ≡ m → IsAt (x ∷ pool) c n m
at_here n x pool c m same here =
    record { place = 0; sum = omega arith; names = ap (λ k. Some k) (sym (same_constant c x same)) }

at_behind : (n : ℕ) (x : Constant) (pool : List Constant) (c : Constant) (m : ℕ) → IsAt pool c (n + 1) m → IsAt (x ∷ pool) c n m
at_behind n x pool c m at =
    let far : m ≡ n + 1 + at.place = at.sum in
    record { place = suc at.place; sum = omega arith; names = at.names }

number_at : (n : ℕ) (pool : List Constant) (c : Constant) (m : ℕ) → number_from n pool c ≡ Some m → IsAt pool c n m
number_at n [] c m is = absurd (none-some m is)
number_at n (x ∷ pool) c m is =
    choose (is_same c x) (Some n) (number_from (n + 1) pool c) (Some m) is
    (λ same here. at_here n x pool c m same (same_Some n m here))
    (λ same more. at_behind n x pool c m (number_at (n + 1) pool c m more))

-- ---- The index of an entry that is appended

get_in_front : (xs ys : List Constant) (i : ℕ) (c : Constant) → slice_get xs i ≡ Some c → slice_get (xs ++ ys) i ≡ Some c
get_in_front [] ys i c is = absurd (none-some c is)
get_in_front (x ∷ xs) ys zero c is = is
get_in_front (x ∷ xs) ys (suc i) c is = get_in_front xs ys i c is

get_behind : (xs ys : List Constant) → slice_get (xs ++ ys) (length xs) ≡ slice_get ys 0
get_behind [] ys = refl
get_behind (x ∷ xs) ys = get_behind xs ys

entry_in_front : (xs ys : List Constant) (n : ℕ) (c : Constant) → entry xs n ≡ Some c → entry (xs ++ ys) n ≡ Some c
entry_in_front xs ys zero c is = is
entry_in_front xs ys (suc i) c is = get_in_front xs ys i c is

first_number : (c : Constant) → slice_get (numbers_of c) 0 ≡ Some c
first_number c =
    elim (takes_two c) as (λ two. slice_get (cond two (c ∷ constant.Unusable ∷ []) (c ∷ [])) 0 ≡ Some c) [ true ↦ refl | false ↦ refl ]

-- ---- One entry

known : (pool : List Constant) (c : Constant) (m : ℕ) → length pool ≤ 65534 → number_from 1 pool c ≡ Some m → IsEntered pool m pool × (entry pool m ≡ Some c)
known pool c m few is =
    let at = number_at 1 pool c m is in
    let sum : m ≡ 1 + at.place = at.sum in
    let next : m ≡ suc at.place = omega arith in
    let within : at.place < length pool = slice_get_within pool at.place c at.names in
    (record { some = omega arith; fits = omega arith; kept = IsKept-reflexive pool; few = few }, rw next at.names)

behind : (pool : List Constant) (c : Constant) → nat_le (length pool + length (numbers_of c)) 65534 ≡ true
    → IsEntered pool (length pool + 1) (pool ++ numbers_of c) × (entry (pool ++ numbers_of c) (length pool + 1) ≡ Some c)
behind pool c test =
    let room : length pool + length (numbers_of c) ≤ 65534 = grind (arith, nat_tests) in
    let all : length (pool ++ numbers_of c) ≡ length pool + length (numbers_of c) = length-append pool (numbers_of c) in
    let named : slice_get (pool ++ numbers_of c) (length pool) ≡ Some c = get_behind pool (numbers_of c) ∙ first_number c in
    let within : length pool < length (pool ++ numbers_of c) = slice_get_within (pool ++ numbers_of c) (length pool) c named in
    let next : length pool + 1 ≡ suc (length pool) = omega arith in
    (record { some = omega arith; fits = omega arith; kept = record { stays = entry_in_front pool (numbers_of c) }; few = omega arith }, rw next named)

entered_by : (pool new : List Constant) (c : Constant) (n : ℕ) (r : Option ℕ) → length pool ≤ 65534 → r ≡ number_from 1 pool c → constant_entry pool c ≡ Ok (n, new)
    → IsEntered pool n new × (entry new n ≡ Some c)
unfolding constant_entry
entered_by pool new c n (Some m) few is gives =
    let given : ◌≡◌ {A = Result (ℕ × List Constant) EntryFault} (Ok (m, pool)) (Ok (n, new)) = rw (← is) at gives in
    subst (λ (r : ℕ × List Constant). IsEntered pool r.0 r.1 × (entry r.1 r.0 ≡ Some c)) (same_Ok (m, pool) (n, new) given) (known pool c m few (sym is))
entered_by pool new c n None few is gives =
    let given : ◌≡◌ {A = Result (ℕ × List Constant) EntryFault} (cond (nat_le (length pool + length (numbers_of c)) 65534) (Ok (length pool + 1, pool ++ numbers_of c)) (Err fault.PoolFull)) (Ok (n, new)) = rw (← is) at gives in
    choose (nat_le (length pool + length (numbers_of c)) 65534) (Ok (length pool + 1, pool ++ numbers_of c)) (Err fault.PoolFull) (Ok (n, new)) given
    (λ test made. subst (λ (r : ℕ × List Constant). IsEntered pool r.0 r.1 × (entry r.1 r.0 ≡ Some c)) (same_Ok (length pool + 1, pool ++ numbers_of c) (n, new) made) (behind pool c test))
    (λ test none. no_answer fault.PoolFull (n, new) none)

pub constant_is_entered : (pool new : List Constant) (c : Constant) (n : ℕ) → length pool ≤ 65534 → constant_entry pool c ≡ Ok (n, new)
    → IsEntered pool n new × (entry new n ≡ Some c)
constant_is_entered pool new c n few gives = entered_by pool new c n (number_from 1 pool c) few refl gives

-- ---- Texts, names and constants

-- An index in a pool that grew from another is one for the first pool too.
after : (a b c : List Constant) (m n : ℕ) → IsEntered a m b → IsEntered b n c → IsEntered a n c
after a b c m n first second =
    record { some = second.some; fits = second.fits; kept = IsKept-transitive a b c first.kept second.kept; few = second.few }

pub text_is_entered : (pool new : List Constant) (units : List ℕ) (n : ℕ) → length pool ≤ 65534 → text_entry pool units ≡ Ok (n, new)
    → IsEntered pool n new × (utf8_at new n ≡ Some units)
unfolding text_entry
text_is_entered pool new units n few gives =
    want_step (is_short units) fault.TooLong (λ _. constant_entry pool (constant.Utf8 units)) (n, new) gives λ short made.
    let here = constant_is_entered pool new (constant.Utf8 units) n few made in
    (here.0, rw here.1 refl)

pub class_is_entered : (pool new : List Constant) (name : List ℕ) (n : ℕ) → length pool ≤ 65534 → class_entry pool name ≡ Ok (n, new)
    → IsEntered pool n new × (class_name_at new n ≡ Some name)
unfolding class_entry
class_is_entered pool new name n few gives =
    step (text_entry pool name) (λ text. constant_entry text.1 (constant.Class text.0)) (n, new) gives λ text named made.
    let first = text_is_entered pool text.1 name text.0 few named in
    let here = constant_is_entered text.1 new (constant.Class text.0) n first.0.few made in
    (after pool text.1 new text.0 n first.0 here.0, rw here.1 (utf8_at-kept text.1 new text.0 name here.0.kept first.1))

pub string_is_entered : (pool new : List Constant) (units : List ℕ) (n : ℕ) → length pool ≤ 65534 → string_entry pool units ≡ Ok (n, new)
    → IsEntered pool n new × IsString new n units
unfolding string_entry
string_is_entered pool new units n few gives =
    step (text_entry pool units) (λ text. constant_entry text.1 (constant.String text.0)) (n, new) gives λ text named made.
    let first = text_is_entered pool text.1 units text.0 few named in
    let here = constant_is_entered text.1 new (constant.String text.0) n first.0.few made in
    (after pool text.1 new text.0 n first.0 here.0, record { number = text.0; here = here.1; names = utf8_at-kept text.1 new text.0 units here.0.kept first.1 })

pub integer_is_entered : (pool new : List Constant) (k : ℤ) (n : ℕ) → length pool ≤ 65534 → integer_entry pool k ≡ Ok (n, new)
    → IsEntered pool n new × (entry new n ≡ Some (constant.Integer k))
integer_is_entered pool new k n few gives = constant_is_entered pool new (constant.Integer k) n few gives

pub long_is_entered : (pool new : List Constant) (k : ℤ) (n : ℕ) → length pool ≤ 65534 → long_entry pool k ≡ Ok (n, new)
    → IsEntered pool n new × (entry new n ≡ Some (constant.Long k))
long_is_entered pool new k n few gives = constant_is_entered pool new (constant.Long k) n few gives

-- ---- Members

pub name_and_type_is_entered : (pool new : List Constant) (name descriptor : List ℕ) (n : ℕ) → length pool ≤ 65534 → name_and_type_entry pool name descriptor ≡ Ok (n, new)
    → IsEntered pool n new × (name_and_type_at new n ≡ Some (name, descriptor))
unfolding name_and_type_entry
name_and_type_is_entered pool new name descriptor n few gives =
    step (text_entry pool name) (λ first. text_entry first.1 descriptor >>= λ second. constant_entry second.1 (constant.NameAndType first.0 second.0)) (n, new) gives λ first named more.
    step (text_entry first.1 descriptor) (λ second. constant_entry second.1 (constant.NameAndType first.0 second.0)) (n, new) more λ second described made.
    let a = text_is_entered pool first.1 name first.0 few named in
    let b = text_is_entered first.1 second.1 descriptor second.0 a.0.few described in
    let here = constant_is_entered second.1 new (constant.NameAndType first.0 second.0) n b.0.few made in
    let kept = IsKept-transitive first.1 second.1 new b.0.kept here.0.kept in
    let is_name = utf8_at-kept first.1 new first.0 name kept a.1 in
    let is_descriptor = utf8_at-kept second.1 new second.0 descriptor here.0.kept b.1 in
    (after pool second.1 new second.0 n (after pool first.1 second.1 first.0 second.0 a.0 b.0) here.0, rw (here.1, is_name, is_descriptor) refl)

member_is_entered : (make : ℕ → ℕ → Constant) (pool new : List Constant) (class name descriptor : List ℕ) (n : ℕ) → length pool ≤ 65534 → member_entry make pool class name descriptor ≡ Ok (n, new)
    → IsEntered pool n new × IsMember make new n class name descriptor
unfolding member_entry
member_is_entered make pool new class name descriptor n few gives =
    step (class_entry pool class) (λ owner. name_and_type_entry owner.1 name descriptor >>= λ member. constant_entry member.1 (make owner.0 member.0)) (n, new) gives λ owner owned more.
    step (name_and_type_entry owner.1 name descriptor) (λ member. constant_entry member.1 (make owner.0 member.0)) (n, new) more λ member named made.
    let a = class_is_entered pool owner.1 class owner.0 few owned in
    let b = name_and_type_is_entered owner.1 member.1 name descriptor member.0 a.0.few named in
    let here = constant_is_entered member.1 new (make owner.0 member.0) n b.0.few made in
    let kept = IsKept-transitive owner.1 member.1 new b.0.kept here.0.kept in (
      after pool member.1 new member.0 n (after pool owner.1 member.1 owner.0 member.0 a.0 b.0) here.0,
      record {
        class_number = owner.0;
        member_number = member.0;
        here = here.1;
        names_class = class_name_at-kept owner.1 new owner.0 class kept a.1;
        names_member = name_and_type_at-kept member.1 new member.0 (name, descriptor) here.0.kept b.1;
      },
    )

pub field_is_entered : (pool new : List Constant) (class name descriptor : List ℕ) (n : ℕ) → length pool ≤ 65534 → field_entry pool class name descriptor ≡ Ok (n, new)
    → IsEntered pool n new × IsMember (λ c m. constant.Field c m) new n class name descriptor
field_is_entered pool new class name descriptor n few gives = member_is_entered (λ c m. constant.Field c m) pool new class name descriptor n few gives

pub method_is_entered : (how : MethodKind) (pool new : List Constant) (class name descriptor : List ℕ) (n : ℕ) → length pool ≤ 65534 → method_entry how pool class name descriptor ≡ Ok (n, new)
    → IsEntered pool n new × IsMember (method_constant how) new n class name descriptor
method_is_entered how pool new class name descriptor n few gives = member_is_entered (method_constant how) pool new class name descriptor n few gives
