use Rattle.std.proofs.Common.{◌<◌, sym, subst, ap, ◌∙◌}
use Rattle.linker.specs.Supers.{is_in, Numbers}
use Rattle.linker.proofs.SetLaws.{one_marked}
use Rattle.linker.proofs.number_set.NumberSet.add.Goals as goal

pub invariant_of-self-2 : goal.invariant_of-self-2
invariant_of-self-2 c =
    let seen = sym c.self.view_is in
    rw c.in_ok-push.ensures.items
    (one_marked c.self.inside.marks.items c.self.inside.order.items c.args.number
    (subst (λ (s : Numbers). c.args.number < s.limit) seen c.requires)
    (ap (λ (s : Numbers). is_in s.numbers c.args.number) c.self.view_is ∙ sym c.has.ensures ∙ c.if-has.false)
    c.self.invariant)
