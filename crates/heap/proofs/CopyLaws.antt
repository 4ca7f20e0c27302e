-- Objects that are copied one after another.
use Rattle.std.proofs.Common.{◌≡◌, ℕ, suc, ◌+◌, ◌<◌, List, [], ◌∷◌, ◌++◌, length, map, take, get_or, Some, slice_get, sym, ap, ◌∙◌, subst, append_assoc, arith}
use Rattle.std.specs.List.{AllByRecursion}
use Rattle.std.proofs.Math.Seq.{take-suc}
use Rattle.std.proofs.lemmas.List.{map-append}
use Rattle.std.proofs.lemmas.Option.{slice_get-get_or}
use Rattle.jvms_program.specs.declared.program.Class.{Class}
use Rattle.jvms_machine.specs.State.{Object}
use Rattle.jvms_machine.proofs.ListLaws.{all_append, all_at}
use Rattle.heap.specs.declared.stored_object.StoredObject.{StoredObject}
use Rattle.heap.specs.Stored.{object_of, IsKept}

-- The copies so far, followed by that of the next object.
module _ (program : List Class) (objects copies new : List StoredObject) (i : ℕ) (o x : StoredObject) (within : i < length objects) (at : o ≡ get_or objects i o) (put : new ≡ copies ++ x ∷ []) where
  pub shown_more : (front : List Object) → map (object_of program) copies ≡ front ++ map (object_of program) (take i objects) → object_of program x ≡ object_of program o
      → map (object_of program) new ≡ front ++ map (object_of program) (take (i + 1) objects)
  shown_more front before same =
      let so_far = map (object_of program) (take i objects) in
      let one : suc i ≡ i + 1 = omega arith in
      ap (map (object_of program)) put
      ∙ map-append (object_of program) copies (x ∷ [])
      ∙ ap (λ l. l ++ object_of program x ∷ []) before
      ∙ append_assoc front so_far (object_of program x ∷ [])
      ∙ ap (λ s. front ++ (so_far ++ s ∷ [])) same
      ∙ ap (λ p. front ++ (so_far ++ object_of program p ∷ [])) at
      ∙ ap (λ l. front ++ l) (sym (map-append (object_of program) (take i objects) (get_or objects i o ∷ [])))
      ∙ ap (λ l. front ++ map (object_of program) l) (sym (take-suc objects i o within))
      ∙ ap (λ n. front ++ map (object_of program) (take n objects)) one

  pub kept_more : AllByRecursion (IsKept program) objects → AllByRecursion (IsKept program) copies → (IsKept program o → IsKept program x) → AllByRecursion (IsKept program) new
  kept_more all before same =
      let there : slice_get objects i ≡ Some o = slice_get-get_or objects i o within ∙ ap (λ (p : StoredObject). Some p) (sym at) in
      subst (AllByRecursion (IsKept program)) (sym put) (all_append (IsKept program) copies (x ∷ []) before (same (all_at (IsKept program) objects i o there all), tt))
