-- Objects that a comparison finds equal, and lists of such objects.
use Rattle.std.proofs.Common.{◌≡◌, ℕ, Bool, true, false, ◌&&◌, List, [], ◌∷◌, length, map, Result, Ok, Err, IfOk, Vec, Global, refl, sym, ap, subst, ◌∙◌, arith}
use Rattle.std.specs.List.{AllByRecursion}
use Rattle.std.specs.Cmp.Lexicographic.{pointwise}
use Rattle.jvms_program.specs.declared.program.Class.{Class}
use Rattle.heap.specs.declared.stored_object.StoredObject.{StoredObject}
use Rattle.jvms_machine.specs.declared.value.Value.{Value}
use Rattle.jvms_machine.specs.contracts.value.ValuePartialEq as derived
use Rattle.jvms_machine.specs.State.{instance, instance_fields}
use Rattle.heap.specs.declared.stored_object.StoredObject.TheVariants as stored
use Rattle.heap.specs.Stored.{name_at, with_values, object_of, AreAlike, AllAlike, IsKept}

-- ---- One object

-- The equality of values that `==` uses.
abbrev same_value : Value → Value → Bool
same_value = derived.TheImpl.eq-value.it

value_is : (a b : Value) → same_value a b ≡ true → a ≡ b
value_is a b same = grind arith

both : (a b : Bool) → (a && b) ≡ true → (a ≡ true) × (b ≡ true)
both true b is = (refl, is)
both false b is = (cc)

values_are : (xs ys : List Value) → pointwise same_value xs ys ≡ true → xs ≡ ys
values_are [] [] same = refl
values_are [] (y ∷ ys) same = (cc)
values_are (x ∷ xs) [] same = (cc)
values_are (x ∷ xs) (y ∷ ys) same =
    let are = both (same_value x y) (pointwise same_value xs ys) same in
    ap (λ v. v ∷ xs) (value_is x y are.0) ∙ ap (λ l. y ∷ l) (values_are xs ys are.1)

pub instances_alike : (a b : StoredObject) (class other_class : ℕ) (values other_values : Vec Value Global) (same : Bool) → a ≡ stored.Instance class values → b ≡ stored.Instance other_class other_values → class ≡ other_class
    → same ≡ pointwise same_value values.items other_values.items → same ≡ true → AreAlike a b
instances_alike a b class other_class values other_values same a_is b_is is found holds =
    let are : values.items ≡ other_values.items = values_are values.items other_values.items (sym found ∙ holds) in
    record {
      show = λ program. ap (object_of program) a_is ∙ ap (λ c. instance (name_at program c) (with_values (instance_fields program (name_at program c)) values.items)) is
          ∙ ap (λ l. instance (name_at program other_class) (with_values (instance_fields program (name_at program other_class)) l)) are ∙ sym (ap (object_of program) b_is);
      kept = λ program has. subst (IsKept program) (sym b_is) (subst (λ l. length l ≡ length (instance_fields program (name_at program other_class))) are
          (subst (λ c. length values.items ≡ length (instance_fields program (name_at program c))) is (subst (IsKept program) a_is has)));
    }

-- ---- Groups

pub shown_alike : (program : List Class) (objects others : List StoredObject) → AllAlike objects others → map (object_of program) others ≡ map (object_of program) objects
shown_alike program [] [] all = refl
shown_alike program [] (y ∷ ys) all = absurd all
shown_alike program (x ∷ xs) [] all = absurd all
shown_alike program (x ∷ xs) (y ∷ ys) all = ap (λ o. o ∷ map (object_of program) ys) (sym (all.0.show program)) ∙ ap (λ l. object_of program x ∷ l) (shown_alike program xs ys all.1)

pub kept_alike : (program : List Class) (objects others : List StoredObject) → AllAlike objects others → AllByRecursion (IsKept program) objects → AllByRecursion (IsKept program) others
kept_alike program [] [] all kept = tt
kept_alike program [] (y ∷ ys) all kept = absurd all
kept_alike program (x ∷ xs) [] all kept = absurd all
kept_alike program (x ∷ xs) (y ∷ ys) all kept = (all.0.kept program kept.0, kept_alike program xs ys all.1 kept.1)

-- A shared group with equal objects.
pub shared_shown : {E : Type 0} (program : List Class) (objects others : List StoredObject) (result : Result (List StoredObject) E) → AllAlike objects others → IfOk result (λ group. group ≡ others)
    → IfOk result (λ group. map (object_of program) group ≡ map (object_of program) objects)
shared_shown program objects others (Ok group) all is = ap (map (object_of program)) is ∙ shown_alike program objects others all
shared_shown program objects others (Err e) all is = tt

pub shared_kept : {E : Type 0} (program : List Class) (objects others : List StoredObject) (result : Result (List StoredObject) E) → AllAlike objects others → AllByRecursion (IsKept program) objects
    → IfOk result (λ group. group ≡ others) → IfOk result (λ group. AllByRecursion (IsKept program) group)
shared_kept program objects others (Ok group) all kept is = subst (AllByRecursion (IsKept program)) (sym is) (kept_alike program objects others all kept)
shared_kept program objects others (Err e) all kept is = tt
