-- One more class is the one that its name finds.
use Rattle.std.proofs.Common.{rules, ◌≡◌, Some, ap, get_or, subst, true, ◌∙◌}
use Rattle.std.proofs.lemmas.Option.{get_or_from_slice_get, slice_get_within}
use Rattle.jvms_program.specs.declared.program.Class.{Class}
use Rattle.jvms_program.specs.Program.{class_number}
use Rattle.needs.proofs.UnmatchedLaws.{below, one_more}
use Rattle.needs.proofs.unmatched.finds_each.Goals as goal

pub loop-number-preserved : goal.loop-number-preserved
loop-number-preserved c = one_more c.args.program.now c.loop-number.number c.loop-number.invariant (λ class there.
    let items = c.classes-class-items.ensures in
    let same : c.class-item.result ≡ class = c.class-item.is ∙ ap (λ l. get_or l c.loop-number.number c.class-item.result) items ∙ get_or_from_slice_get c.args.program.now c.loop-number.number class _ there in
    let finds : c.finds_itself.result ≡ true = search rules in
    subst (λ (x : Class). class_number c.args.program.now x.name ≡ Some c.loop-number.number) same (c.finds_itself.ensures finds))

pub returns : goal.returns
returns c = λ _.
    record {
      found = λ n class there.
          let within = slice_get_within c.args.program.now n class there in
          c.loop-number.invariant n class (below c.classes-class-items.ensures c.loop-number-test.false within) there;
    }
