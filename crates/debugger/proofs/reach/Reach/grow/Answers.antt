use Rattle.std.proofs.Common.{◌+◌, ◌-◌, ◌*◌, ◌%◌, ◌≤◌, arith, ap, ◌∙◌, sym, subst}
use Rattle.std.proofs.Math.Nat.{mul_assoc}
use Rattle.debugger.specs.Marks.{mark_at}
use Rattle.debugger.specs.States.{setting_of}
use Rattle.debugger.proofs.SpacingLaws.{near_wider, next_within, spacing_doubles}
use Rattle.debugger.proofs.reach.Reach.grow.Goals as goal

pub returns-then-far-self-2-clause-reach : goal.returns-then-far-self-2-clause-reach
returns-then-far-self-2-clause-reach c =
    let old = c.args.self.now in
    let new = c.widen.new.self in
    let is = c.requires.reach in
    let wider = c.widen.ensures in
    let within : c.args.far ≤ 64 * old.spacing = next_within old.most old.spacing old.far c.args.far is.spacing is.most c.requires.near in
    record {
      from = omega (arith, is.from, wider.places.0, wider.places.1);
      far = omega (arith, is.far, wider.places.1);
      most = omega (arith, is.most, wider.places.1, wider.places.2);
      spacing = spacing_doubles old.most old.spacing new.most new.spacing (omega (arith, within, wider.places.2)) wider.spacing (omega (arith, wider.places.2, c.if-far-self-2.true)) is.spacing;
      ratio = wider.spacing ∙ ap (λ x. 2 * x) is.ratio ∙ sym (mul_assoc 2 old.ratio old.base) ∙ ap (λ x. x * old.base) (sym wider.ratio) ∙ ap (λ x. new.ratio * x) (sym wider.places.3);
      ratio_positive = omega (arith, is.ratio_positive, wider.ratio);
      ratio_small = omega (arith, is.ratio_small, wider.ratio, wider.spacing);
      base_small = omega (arith, is.base_small, wider.spacing, wider.places.3);
      fresh = wider.fresh (mark_at (setting_of c.args.mark.now.machine) c.args.choices.now) is.fresh;
    }

pub returns-then-far-self-2-clause-near : goal.returns-then-far-self-2-clause-near
returns-then-far-self-2-clause-near c =
    let old = c.args.self.now in
    let new = c.widen.new.self in
    let is = c.requires.reach in
    let wider = c.widen.ensures in
    subst (λ n. c.args.far ≤ n + (new.spacing - n % new.spacing)) (sym wider.places.1)
    (near_wider old.most old.spacing old.far c.args.far new.spacing is.spacing is.most c.requires.near c.if-far-self-2.true wider.spacing)
