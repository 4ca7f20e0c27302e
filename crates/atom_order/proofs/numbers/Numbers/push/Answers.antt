-- One more number.
use Rattle.std.proofs.Common.{ℕ, ◌++◌, ◌∷◌, [], List, sym, ap, subst, ◌∙◌}
use Rattle.atom_order.specs.Marking.{HasMarks}
use Rattle.atom_order.proofs.Marked.{marks_push}
use Rattle.atom_order.proofs.numbers.Numbers.push.Goals as goal

pub invariant_of-self-2 : goal.invariant_of-self-2
invariant_of-self-2 c =
    subst (λ (l : List ℕ). HasMarks c.insert.new.self.keys l)
    (sym (c.push_reserved.ensures.items ∙ ap (λ (l : List ℕ). l ++ c.args.number ∷ []) c.reserve.ensures.items))
    (marks_push c.self.inside.set.keys c.insert.new.self.keys c.self.inside.list.items c.args.number c.self.invariant c.in_ok-insert.ensures.updates.0)
