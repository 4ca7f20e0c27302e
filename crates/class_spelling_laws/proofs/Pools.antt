-- Proves that no entry of an assembled class's pool has a fault (JVMS 4.4), as the pool grows.
use Rattle.std.proofs.Common.{◌≡◌, ℕ, ◌+◌, ◌≤◌, Bool, true, false, cond, not, ◌&&◌, List, [], ◌∷◌, ◌++◌, length, Option, Some, None, is_some, Result, Ok, Err, refl, sym, ap, ◌∙◌, subst, arith, nat_le, inl, inr, ⊎_elim, ◌⊎◌}
use Rattle.std.specs.Prelude.{IsTrue, nat_lt}
use Rattle.std.specs.List.{AllByRecursion}
use Rattle.std.specs.Option.{option_and_then}
use Rattle.std.proofs.lemmas.Bool.{and_from, true≢false, not_from_false, lt-ltb, leb-true}
use Rattle.std.proofs.lemmas.List.{length-append}
use Rattle.std.proofs.lemmas.Option.{none-some}
use Rattle.jvms_file.specs.declared.class_file.Constant.{Constant}
use Rattle.jvms_file.specs.declared.class_file.Constant.TheVariants as constant
use Rattle.jvms_file.specs.declared.fault.ClassFault.TheVariants as class_fault
use Rattle.jvms_file.specs.ConstantPool.{entry, utf8_at, class_name_number, class_name_at, name_and_type_numbers, name_and_type_at, both, is_utf8, is_class, is_name_and_type, is_entry_name, is_entry_member, names_sort, begins_as_method, is_member, takes_two, reference_fault, entry_fault, entries_fault}
use Rattle.jvms_file.specs.Descriptors.{is_class_entry_name}
use Rattle.jvms_file.specs.Spelling.{IsU2, IsNumbered}
use Rattle.pool_entries.specs.declared.fault.EntryFault.{EntryFault}
use Rattle.pool_entries.specs.declared.fault.EntryFault.TheVariants as fault
use Rattle.pool_entries.specs.Entries.{is_short, numbers_of, number_from, constant_entry}
use Rattle.pool_entries.specs.Kept.{IsKept}
use Rattle.pool_entries.proofs.Lookups.{utf8_at-kept, class_name_at-kept, name_and_type_at-kept}
use Rattle.source_form_laws.specs.Formed.{IsSigned}
use Rattle.classfile_laws.proofs.Constants.{IsUsable}
use Rattle.classfile_laws.proofs.Steps.{choose}
use Rattle.assembled_entry_laws.proofs.Entries.{constant_is_entered}
use Rattle.class_spelling_laws.proofs.Steps.{same_Ok, no_answer, wanted, both_wanted}
use Rattle.class_spelling_laws.proofs.Lists.{all_push, all_map}

-- ---- An entry without a fault

-- The indices in a member's entry name a class, and a name with the descriptor of a method or of a field (JVMS 4.4.2).
pub record IsReference (method : Bool) (pool : List Constant) (class member : ℕ) : Type 0 where
  pub class_fits : IsU2 class
  pub member_fits : IsU2 member
  pub class_name : List ℕ
  pub names_class : class_name_at pool class ≡ Some class_name
  pub name : List ℕ
  pub descriptor : List ℕ
  pub names_member : name_and_type_at pool member ≡ Some (name, descriptor)
  pub sort : begins_as_method descriptor ≡ method

-- An entry has no fault: its text is short, its number is in range, and its indices name what they have to.
abbrev pub IsWell : List Constant → Constant → Type 0
IsWell pool (constant.Utf8 text) = IsTrue (is_short text)
IsWell pool (constant.Integer n) = IsSigned 31 n
IsWell pool (constant.Long n) = IsSigned 63 n
IsWell pool (constant.Class n) = IsU2 n × (name : List ℕ) × (utf8_at pool n ≡ Some name) × IsTrue (is_class_entry_name name)
IsWell pool (constant.String n) = IsU2 n × (text : List ℕ) × (utf8_at pool n ≡ Some text)
IsWell pool (constant.Field c m) = IsReference false pool c m
IsWell pool (constant.Method c m) = IsReference true pool c m
IsWell pool (constant.InterfaceMethod c m) = IsReference true pool c m
IsWell pool (constant.NameAndType n d) =
    IsU2 n × IsU2 d × (name : List ℕ) × (descriptor : List ℕ) × (utf8_at pool n ≡ Some name) × (utf8_at pool d ≡ Some descriptor)
    × IsTrue (is_member name descriptor)
IsWell pool constant.Unusable = Unit {0}
IsWell pool _ = ⊥

reference_kept : (method : Bool) (old new : List Constant) (c m : ℕ) → IsKept old new → IsReference method old c m → IsReference method new c m
reference_kept method old new c m kept is = record {
  class_fits = is.class_fits;
  member_fits = is.member_fits;
  class_name = is.class_name;
  names_class = class_name_at-kept old new c is.class_name kept is.names_class;
  name = is.name;
  descriptor = is.descriptor;
  names_member = name_and_type_at-kept old new m (is.name, is.descriptor) kept is.names_member;
  sort = is.sort;
}

well_kept : (old new : List Constant) → IsKept old new → (c : Constant) → IsWell old c → IsWell new c
well_kept old new kept (constant.Utf8 text) is = is
well_kept old new kept (constant.Integer n) is = is
well_kept old new kept (constant.Long n) is = is
well_kept old new kept (constant.Class n) is = (is.0, is.1, utf8_at-kept old new n is.1 kept is.2, is.3)
well_kept old new kept (constant.String n) is = (is.0, is.1, utf8_at-kept old new n is.1 kept is.2)
well_kept old new kept (constant.Field c m) is = reference_kept false old new c m kept is
well_kept old new kept (constant.Method c m) is = reference_kept true old new c m kept is
well_kept old new kept (constant.InterfaceMethod c m) is = reference_kept true old new c m kept is
well_kept old new kept (constant.NameAndType n d) is =
    (is.0, is.1, is.2, is.3, utf8_at-kept old new n is.2 kept is.4, utf8_at-kept old new d is.3 kept is.5, is.6)
well_kept old new kept constant.Unusable is = tt
well_kept old new kept (constant.Float n) is = absurd is
well_kept old new kept (constant.Double n) is = absurd is

-- ---- Absence of faults

-- An optional value is present if a further step from it has a result.
pub some_inside : {A B : Type 0} (f : A → Option B) (r : Option A) (x : B) → option_and_then f r ≡ Some x → is_some r ≡ true
some_inside f None x e = absurd (none-some x e)
some_inside f (Some a) x e = refl

sort_asked : (method begins : Bool) → begins ≡ method → cond method begins (not begins) ≡ true
sort_asked true begins is = is
sort_asked false begins is = not_from_false begins is

reference_sound : (method : Bool) (pool : List Constant) (c m : ℕ) → IsReference method pool c m → reference_fault method pool c m ≡ Ok tt
reference_sound method pool c m is =
    let class = some_inside (utf8_at pool) (option_and_then class_name_number (entry pool c)) is.class_name is.names_class in
    let member = some_inside (λ numbers. both (utf8_at pool numbers.0) (utf8_at pool numbers.1)) (option_and_then name_and_type_numbers (entry pool m)) (is.name, is.descriptor) is.names_member in
    let sort : names_sort method pool m ≡ true = rw is.names_member (sort_asked method (begins_as_method is.descriptor) is.sort) in
    both_wanted (is_class pool c && is_name_and_type pool m) (names_sort method pool m) class_fault.Index class_fault.Descriptor (and_from (is_class pool c) (is_name_and_type pool m) class member) sort

-- One more entry follows an entry that takes two indices.
some_behind : (behind : List Constant) → IsNumbered true behind → nat_lt 0 (length behind) ≡ true
some_behind [] is = absurd (true≢false is)
some_behind (c ∷ behind) is = lt-ltb 0 (length (c ∷ behind)) (omega arith)

entry_sound : (pool : List Constant) (c : Constant) (behind : List Constant) → IsNumbered (takes_two c) behind → IsWell pool c → entry_fault pool c behind ≡ Ok tt
unfolding entry_fault
entry_sound pool (constant.Utf8 text) behind are is = refl
entry_sound pool (constant.Integer n) behind are is = refl
entry_sound pool (constant.Long n) behind are is = wanted (nat_lt 0 (length behind)) class_fault.Index (some_behind behind are)
entry_sound pool (constant.Class n) behind are is =
    both_wanted (is_utf8 pool n) (is_entry_name (utf8_at pool n)) class_fault.Index class_fault.Descriptor (ap is_some is.2) (ap is_entry_name is.2 ∙ is.3)
entry_sound pool (constant.String n) behind are is = wanted (is_utf8 pool n) class_fault.Index (ap is_some is.2)
entry_sound pool (constant.Field c m) behind are is = reference_sound false pool c m is
entry_sound pool (constant.Method c m) behind are is = reference_sound true pool c m is
entry_sound pool (constant.InterfaceMethod c m) behind are is = reference_sound true pool c m is
entry_sound pool (constant.NameAndType n d) behind are is =
    let texts : both (utf8_at pool n) (utf8_at pool d) ≡ Some (is.2, is.3) = rw (is.4, is.5) refl in
    both_wanted (is_utf8 pool n && is_utf8 pool d) (is_entry_member (both (utf8_at pool n) (utf8_at pool d))) class_fault.Index class_fault.Descriptor
    (and_from (is_utf8 pool n) (is_utf8 pool d) (ap is_some is.4) (ap is_some is.5)) (ap is_entry_member texts ∙ is.6)
entry_sound pool constant.Unusable behind are is = refl
entry_sound pool (constant.Float n) behind are is = absurd is
entry_sound pool (constant.Double n) behind are is = absurd is

entries_sound : (pool : List Constant) (two : Bool) (cs : List Constant) → IsNumbered two cs → AllByRecursion (IsWell pool) cs → entries_fault pool cs ≡ Ok tt
unfolding entries_fault
entries_sound pool two [] are is = refl
entries_sound pool true (constant.Unusable ∷ cs) are is = rw (entry_sound pool constant.Unusable cs are tt) (entries_sound pool false cs are is.1)
entries_sound pool true (c ∷ cs) are is = absurd are
entries_sound pool false (constant.Unusable ∷ cs) are is = absurd are
entries_sound pool false (c ∷ cs) are is = rw (entry_sound pool c cs are is.0) (entries_sound pool (takes_two c) cs are is.1)

-- ---- A pool without a fault

pub record IsGood (pool : List Constant) : Type 0 where
  pub few : length pool ≤ 65534
  pub numbered : IsNumbered false pool
  pub well : AllByRecursion (IsWell pool) pool

pub none_good : IsGood []
none_good = record { few = omega arith; numbered = refl; well = tt }

pub good_is_sound : (pool : List Constant) → IsGood pool → entries_fault pool pool ≡ Ok tt
good_is_sound pool good = entries_sound pool false pool good.numbered good.well

-- ---- One more entry

numbered_alone : (c : Constant) → IsUsable c → IsNumbered false (numbers_of c)
numbered_alone constant.Unusable usable = absurd usable
numbered_alone c usable = refl

numbered_push : (two : Bool) (cs : List Constant) (c : Constant) → IsNumbered two cs → IsUsable c → IsNumbered two (cs ++ numbers_of c)
numbered_push two [] c are usable = subst (λ b. IsNumbered b (numbers_of c)) (sym are) (numbered_alone c usable)
numbered_push true (constant.Unusable ∷ cs) c are usable = numbered_push false cs c are usable
numbered_push true (d ∷ cs) c are usable = absurd are
numbered_push false (constant.Unusable ∷ cs) c are usable = absurd are
numbered_push false (d ∷ cs) c are usable = numbered_push (takes_two d) cs c are usable

well_alone : (pool : List Constant) (c : Constant) → IsWell pool c → AllByRecursion (IsWell pool) (numbers_of c)
well_alone pool c is =
    elim (takes_two c) as (λ two. AllByRecursion (IsWell pool) (cond two (c ∷ constant.Unusable ∷ []) (c ∷ []))) [ true ↦ (is, (tt, tt)) | false ↦ (is, tt) ]

grown : (pool : List Constant) (c : Constant) → IsGood pool → IsKept pool (pool ++ numbers_of c) → length pool + length (numbers_of c) ≤ 65534
    → IsUsable c → IsWell pool c → IsGood (pool ++ numbers_of c)
grown pool c good kept room usable is =
    let new : List Constant = pool ++ numbers_of c in
    let size : length new ≡ length pool + length (numbers_of c) = length-append pool (numbers_of c) in
    record {
      few = omega arith;
      numbered = numbered_push false pool c good.numbered usable;
      well = all_push (IsWell new) pool (numbers_of c) (all_map (IsWell pool) (IsWell new) (well_kept pool new kept) pool good.well) (well_alone new c (well_kept pool new kept c is));
    }

-- The pool with an entry is the pool before, or has the entry appended.
abbrev IsSameOrMore : List Constant → Constant → List Constant → Type 0
IsSameOrMore pool c new = (new ≡ pool) ⊎ ((new ≡ pool ++ numbers_of c) × (length pool + length (numbers_of c) ≤ 65534))

same_or_more_by : (pool new : List Constant) (c : Constant) (n : ℕ) (r : Option ℕ) → r ≡ number_from 1 pool c → constant_entry pool c ≡ Ok (n, new) → IsSameOrMore pool c new
unfolding constant_entry
same_or_more_by pool new c n (Some m) is gives =
    let given : ◌≡◌ {A = Result (ℕ × List Constant) EntryFault} (Ok (m, pool)) (Ok (n, new)) = rw (← is) at gives in
    inl (sym (ap (λ (r : ℕ × List Constant). r.1) (same_Ok (m, pool) (n, new) given)))
same_or_more_by pool new c n None is gives =
    let given : ◌≡◌ {A = Result (ℕ × List Constant) EntryFault} (cond (nat_le (length pool + length (numbers_of c)) 65534) (Ok (length pool + 1, pool ++ numbers_of c)) (Err fault.PoolFull)) (Ok (n, new)) = rw (← is) at gives in
    choose (nat_le (length pool + length (numbers_of c)) 65534) (Ok (length pool + 1, pool ++ numbers_of c)) (Err fault.PoolFull) (Ok (n, new)) given
    (λ room made. inr (sym (ap (λ (r : ℕ × List Constant). r.1) (same_Ok (length pool + 1, pool ++ numbers_of c) (n, new) made)), leb-true (length pool + length (numbers_of c)) 65534 room))
    (λ room none. no_answer fault.PoolFull (n, new) none)

-- A pool without a fault stays so with an entry without a fault.
pub constant_good : (pool new : List Constant) (c : Constant) (n : ℕ) → IsGood pool → IsUsable c → IsWell pool c → constant_entry pool c ≡ Ok (n, new) → IsGood new
constant_good pool new c n good usable well gives =
    let entered = constant_is_entered pool new c n good.few gives in
    ⊎_elim
    (λ (same : new ≡ pool). subst IsGood (sym same) good)
    (λ (more : (new ≡ pool ++ numbers_of c) × (length pool + length (numbers_of c) ≤ 65534)). subst IsGood (sym more.0) (grown pool c good (subst (IsKept pool) more.0 entered.0.kept) more.1 usable well))
    (same_or_more_by pool new c n (number_from 1 pool c) refl gives)
