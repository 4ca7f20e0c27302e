use Rattle.std.proofs.Common.{rules, ◌≡◌, ℕ, List, Option, None, Some, ap, refl, sym, ◌∙◌, arith}
use Rattle.std.specs.List.{flat_map}
use Rattle.jvms_program.specs.Program.{class_named}
use Rattle.jvms_program.specs.Resolution.{ancestry, first_in}
use Rattle.classes.specs.Places.{match_with_number}
use Rattle.classes.proofs.AlongLaws.{as_one, in_interfaces, interfaces_reached, superclass_reached}
use Rattle.classes.proofs.NamesLaws.{along_end, along_found, along_missing, along_next, along_top}
use Rattle.classes.proofs.ancestors.first_along.Goals as goal

none : (o : Option (ℕ × ℕ)) → ((x : ℕ × ℕ) → o ≡ Some x → ⊥) → o ≡ None
none None never = refl
none (Some x) never = absurd (never x refl)

pub returns-in_default : goal.returns-in_default
returns-in_default g c =
    let program = c.args.program.now in
    let look = match_with_number program (g.L.Look.gives c.args.look.now) in
    let missing : None ≡ class_named program c.loop-left.name.now = search rules in
    sym (as_one program look c.args.name.now ∙ c.loop-left.invariant.nothing ∙ along_missing program (in_interfaces program look) c.loop-left.left c.loop-left.name.now (sym missing))

pub first_of_names-requires-clause-reached : goal.first_of_names-requires-clause-reached
first_of_names-requires-clause-reached g c =
    interfaces_reached c.args.program.now c.args.reached.now c.requires.closed c.loop-left.name.now c.in-Some.field-0-0 c.in-Some.class.now c.loop-left.invariant.reached
    c.in-Some.ensures.number c.in-Some.ensures.class c.as_slice-interfaces.result.now c.as_slice-interfaces.ensures

pub returns-in-Some-first_of_names : goal.returns-in-Some-first_of_names
returns-in-Some-first_of_names g c =
    let program = c.args.program.now in
    let look = match_with_number program (g.L.Look.gives c.args.look.now) in
    let found : in_interfaces program look c.in-Some.class.now ≡ Some c.in-Some-first_of_names.found =
    ap (λ (names : List (List ℕ)). first_in look (flat_map (ancestry program) names)) (sym c.as_slice-interfaces.ensures) ∙ sym c.first_of_names.ensures ∙ c.in-Some-first_of_names.is in
    sym
    (as_one program look c.args.name.now ∙ c.loop-left.invariant.nothing
    ∙ along_found program (in_interfaces program look) c.loop-left.left c.loop-left.name.now c.in-Some.class.now c.in-Some-first_of_names.found (omega arith) (sym c.in-Some.ensures.class) found)

pub returns-in_default-superclass_name : goal.returns-in_default-superclass_name
returns-in_default-superclass_name g c =
    let program = c.args.program.now in
    let look = match_with_number program (g.L.Look.gives c.args.look.now) in
    let not : in_interfaces program look c.in-Some.class.now ≡ None =
    ap (λ (names : List (List ℕ)). first_in look (flat_map (ancestry program) names)) (sym c.as_slice-interfaces.ensures) ∙ sym c.first_of_names.ensures ∙ none c.first_of_names.result c.in_default-first_of_names.not-Some in
    let top : None ≡ c.in-Some.class.now.superclass = search rules in
    sym
    (as_one program look c.args.name.now ∙ c.loop-left.invariant.nothing
    ∙ along_top program (in_interfaces program look) c.loop-left.left c.loop-left.name.now c.in-Some.class.now (sym c.in-Some.ensures.class) not (sym top))

pub loop-left-preserved : goal.loop-left-preserved
loop-left-preserved g c =
    let program = c.args.program.now in
    let look = match_with_number program (g.L.Look.gives c.args.look.now) in
    let not : in_interfaces program look c.in-Some.class.now ≡ None =
    ap (λ (names : List (List ℕ)). first_in look (flat_map (ancestry program) names)) (sym c.as_slice-interfaces.ensures) ∙ sym c.first_of_names.ensures ∙ none c.first_of_names.result c.in_default-first_of_names.not-Some in
    let super : Some c.in-Some-superclass_name.superclass.now ≡ c.in-Some.class.now.superclass = search rules in
    record {
      nothing =
          c.loop-left.invariant.nothing
          ∙ along_next program (in_interfaces program look) c.loop-left.left c.loop-left.name.now c.in-Some-superclass_name.superclass.now c.in-Some.class.now (omega arith) (sym c.in-Some.ensures.class) not (sym super);
      reached =
          superclass_reached program c.args.reached.now c.requires.closed c.loop-left.name.now c.in-Some.field-0-0 c.in-Some.class.now c.loop-left.invariant.reached
          c.in-Some.ensures.number c.in-Some.ensures.class c.in-Some-superclass_name.superclass.now super;
    }

pub returns : goal.returns
returns g c =
    let program = c.args.program.now in
    let look = match_with_number program (g.L.Look.gives c.args.look.now) in
    let done : c.loop-left.left ≡ 0 = omega arith in
    sym (as_one program look c.args.name.now ∙ c.loop-left.invariant.nothing ∙ along_end program (in_interfaces program look) c.loop-left.left c.loop-left.name.now done)
