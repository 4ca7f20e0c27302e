-- The heap at the opening.
use Rattle.std.proofs.Common.{◌≡◌, ℕ, List, [], ◌∷◌, ◌++◌, replicate, codes, refl, ap, ◌∙◌}
use Rattle.jvms_program.specs.declared.program.Class.{Class}
use Rattle.jvms_program.specs.Program.{IsProgram}
use Rattle.jvms_program.specs.BuiltIn.{built_in_classes}
use Rattle.jvms_machine.specs.State.{array, first_instance}
use Rattle.jvms_machine.specs.Heap.{first_element}
use Rattle.jvms_machine.specs.Opening.{opening_heap}
use Rattle.heap.specs.Objects.{Heap, with_new, with_arrays}
use Rattle.heap.specs.Stored.{name_at}

out_of_memory_name : (own : List Class) → name_at (built_in_classes ++ own) 35 ≡ codes "java/lang/OutOfMemoryError"
unfolding built_in_classes
out_of_memory_name own = refl

stack_overflow_name : (own : List Class) → name_at (built_in_classes ++ own) 36 ≡ codes "java/lang/StackOverflowError"
unfolding built_in_classes
stack_overflow_name own = refl

print_stream_name : (own : List Class) → name_at (built_in_classes ++ own) 4 ≡ codes "java/io/PrintStream"
unfolding built_in_classes
print_stream_name own = refl

-- One more instance, of the class of a number.
abbrev one_more : ℕ → Heap → Heap
one_more n h = with_new (first_instance h.program (name_at h.program n) ∷ []) h

-- Three instances of classes of these names, and an array of a class.
abbrev four : List Class → List ℕ → List ℕ → List ℕ → List ℕ → Heap
four program a b c d =
    record { program = program; objects = first_instance program a ∷ first_instance program b ∷ first_instance program c ∷ array d [] ∷ []; elements = 0 }

pub opened : (program : List Class) → IsProgram program → (h0 h1 h2 h3 h4 : Heap) (class : List ℕ) → h0 ≡ record { program = program; objects = []; elements = 0 } → h1 ≡ one_more 35 h0 → h2 ≡ one_more 36 h1
    → h3 ≡ one_more 4 h2 → h4 ≡ with_arrays (array class (replicate 0 (first_element class)) ∷ []) 0 h3 → class ≡ codes "[Ljava/lang/String;" → h4 ≡ record { program = program; objects = opening_heap program; elements = 0 }
opened program has h0 h1 h2 h3 h4 class e0 e1 e2 e3 e4 is =
    let first = ap (λ l. name_at l 35) has.built_ins.1 ∙ out_of_memory_name has.built_ins.0 in
    let second = ap (λ l. name_at l 36) has.built_ins.1 ∙ stack_overflow_name has.built_ins.0 in
    let third = ap (λ l. name_at l 4) has.built_ins.1 ∙ print_stream_name has.built_ins.0 in
    e4 ∙ ap (with_arrays (array class [] ∷ []) 0) (e3 ∙ ap (one_more 4) (e2 ∙ ap (one_more 36) (e1 ∙ ap (one_more 35) e0)))
    ∙ ap (λ a. four program a (name_at program 36) (name_at program 4) class) first ∙ ap (λ b. four program (codes "java/lang/OutOfMemoryError") b (name_at program 4) class) second
    ∙ ap (λ c. four program (codes "java/lang/OutOfMemoryError") (codes "java/lang/StackOverflowError") c class) third
    ∙ ap (λ d. four program (codes "java/lang/OutOfMemoryError") (codes "java/lang/StackOverflowError") (codes "java/io/PrintStream") d) is
