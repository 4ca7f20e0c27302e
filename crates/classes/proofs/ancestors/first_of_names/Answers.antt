use Rattle.std.proofs.Common.{◌≡◌, ℕ, List, Option, None, Some, ap, refl, subst, sym, ◌∙◌, arith}
use Rattle.std.specs.List.{flat_map}
use Rattle.jvms_program.specs.declared.program.Class.{Class}
use Rattle.jvms_program.specs.Program.{class_number}
use Rattle.jvms_program.specs.Resolution.{ancestry, first_in}
use Rattle.classes.specs.Marks.{is_marked}
use Rattle.classes.specs.Places.{match_with_number}
use Rattle.classes.proofs.NamesLaws.{goes_past, not_there, nth_passes, stops_here}
use Rattle.classes.proofs.ancestors.first_of_names.Goals as goal
use Rattle.classes.proofs.ancestors.first_of_names.Goals.{in-Some+else-is_marked, in_default}

none : (o : Option ℕ) → ((x : ℕ) → o ≡ Some x → ⊥) → o ≡ None
none None never = refl
none (Some x) never = absurd (never x refl)

pub first_above-requires-clause-itself : goal.first_above-requires-clause-itself
first_above-requires-clause-itself g c =
    nth_passes c.args.program.now (is_marked c.args.reached.now) c.args.names.now c.loop-name.name-index c.name-item.result c.in-Some.class c.requires.reached (omega arith) c.name-item.is
    (ap (class_number c.args.program.now) (sym c.as_slice.ensures) ∙ sym c.class_number.ensures ∙ c.in-Some.is)

pub returns-then-is_marked : goal.returns-then-is_marked
returns-then-is_marked g c =
    let program = c.args.program.now in
    let gives = g.L.Look.gives c.args.look.now in
    let number : class_number program c.name-item.result ≡ Some c.in-Some.class = ap (class_number program) (sym c.as_slice.ensures) ∙ sym c.class_number.ensures ∙ c.in-Some.is in
    let reached = nth_passes program (is_marked c.args.reached.now) c.args.names.now c.loop-name.name-index c.name-item.result c.in-Some.class c.requires.reached (omega arith) c.name-item.is number in
    subst
    (λ (classes : List Class). class_number classes c.name-item.result ≡ Some c.in-Some.class → c.first_above.result ≡ first_in (match_with_number classes gives) (ancestry classes c.name-item.result))
    c.ranked.ensures (c.first_above.ensures c.name-item.result) number
    ∙ stops_here program (match_with_number program gives) c.args.names.now c.loop-name.name-index c.name-item.result (first_in (match_with_number program gives) (flat_map (ancestry program) c.args.names.now)) (omega arith) c.name-item.is
    (sym (c.requires.useful.exact c.name-item.result c.in-Some.class number reached) ∙ sym c.is_marked.ensures ∙ c.if-is_marked.true) c.loop-name.invariant

pub loop-name-preserved : goal.loop-name-preserved
loop-name-preserved g c =
    let program = c.args.program.now in
    let look = match_with_number program (g.L.Look.gives c.args.look.now) in
    let names = c.args.names.now in
    let i = c.loop-name.name-index in
    let name = c.name-item.result in
    let number = ap (class_number program) (sym c.as_slice.ensures) ∙ sym c.class_number.ensures in
    elim c.match-class_number.branch [
      | in-Some+else-is_marked w ↦
          let here : class_number program name ≡ Some w.in-Some.class = number ∙ w.in-Some.is in
          let reached = nth_passes program (is_marked c.args.reached.now) names i name w.in-Some.class c.requires.reached (omega arith) c.name-item.is here in
          goes_past program look names i name (first_in look (flat_map (ancestry program) names)) (omega arith) c.name-item.is
          (sym (c.requires.useful.exact name w.in-Some.class here reached) ∙ sym w.is_marked.ensures ∙ w.if-is_marked.false) c.loop-name.invariant
      | in_default w ↦
          goes_past program look names i name (first_in look (flat_map (ancestry program) names)) (omega arith) c.name-item.is
          (not_there program look name (number ∙ none c.class_number.result w.in_default.not-Some)) c.loop-name.invariant
    ]
