-- The built-in classes of a program, and their instances.
use Rattle.std.proofs.Common.{◌≡◌, ℕ, zero, suc, List, [], ◌∷◌, ◌++◌, Option, Some, None, slice_get, refl, ap, ◌∙◌}
use Rattle.std.specs.Option.{option_map, unwrap_or}
use Rattle.std.proofs.lemmas.Option.{none-some}
use Rattle.jvms_program.specs.declared.program.Class.{Class}
use Rattle.jvms_program.specs.BuiltIn.{built_in_classes}
use Rattle.jvms_program.specs.Program.{IsProgram}
use Rattle.jvms_machine.specs.State.{first_instance}
use Rattle.machine_thread.specs.heap.Stored.{name_at}

-- ---- The built-in classes

-- An item at an index of a list is at the same index of a longer list.
get_front : {X : Type 0} (xs ys : List X) (i : ℕ) (x : X) → slice_get xs i ≡ Some x → slice_get (xs ++ ys) i ≡ Some x
get_front [] ys i x at = absurd (none-some x at)
get_front (y ∷ xs) ys zero x at = at
get_front (y ∷ xs) ys (suc i) x at = get_front xs ys i x at

-- The class at an index of the built-in classes is at the same index of every program.
pub named_there : (program : List Class) (place : ℕ) (name : List ℕ) → IsProgram program → option_map (λ c. c.name) (slice_get built_in_classes place) ≡ Some name
    → option_map (λ c. c.name) (slice_get program place) ≡ Some name
named_there program place name has is = by (slice_get built_in_classes place) refl is
  where
    by : (o : Option Class) → slice_get built_in_classes place ≡ o → option_map (λ c. c.name) o ≡ Some name → option_map (λ c. c.name) (slice_get program place) ≡ Some name
    by None at is = absurd (none-some name is)
    by (Some c) at is = ap (λ l. option_map (λ (d : Class). d.name) (slice_get l place)) has.built_ins.1 ∙ ap (option_map (λ (d : Class). d.name)) (get_front built_in_classes has.built_ins.0 place c at) ∙ is

-- An instance of a class by its number is one by its name.
pub of_its_name : (program : List Class) (number : ℕ) (name : List ℕ) → option_map (λ c. c.name) (slice_get program number) ≡ Some name → first_instance program (name_at program number) ≡ first_instance program name
of_its_name program number name is = ap (λ o. first_instance program (unwrap_or o [])) is
