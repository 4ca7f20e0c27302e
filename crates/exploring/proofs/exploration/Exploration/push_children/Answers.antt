use Rattle.std.proofs.Common.{Some, ap, arith, length, subst, sym, take, ◌+◌, ◌∙◌, ◌≡◌}
use Rattle.std.specs.Prelude.{slice_get}
use Rattle.exploring.proofs.Grows.{next_children}
use Rattle.exploring.specs.Explorations.{Explored, children_of_all}
use Rattle.exploring.specs.Growths.{IsGrowthOf}
use Rattle.exploring.proofs.exploration.Exploration.push_children.Goals as goal

pub loop-place-init : goal.loop-place-init
loop-place-init c = (
  c.requires.each,
  λ start begun adds is.
      let same : c.args.from ≡ c.args.from + 0 = omega arith in
      subst (λ n. IsGrowthOf c.args.room (children_of_all c.args.self.now.program c.args.self.now.plan start (take n c.args.self.now.jobs.jobs)) c.args.growth.now) same is,
)

pub add-requires : goal.add-requires
add-requires c =
    record {
      each = ap (λ n. n + 1) (c.get.ensures.long ∙ ap (λ (x : Explored). x.jobs.each) c.self.view_is) ∙ sym c.loop-place.invariant.0;
    }

pub returns-in_err-add-clause-each : goal.returns-in_err-add-clause-each
returns-in_err-add-clause-each c = c.in_err-add.ensures.each ∙ c.loop-place.invariant.0 ∙ sym c.requires.each

pub loop-place-preserved : goal.loop-place-preserved
loop-place-preserved c = (
  c.in_ok-add.ensures.each ∙ c.loop-place.invariant.0,
  λ start begun adds is.
      let e = c.args.self.now in
      let job : slice_get e.jobs.jobs (c.args.from + c.loop-place.place) ≡ Some c.get.result.now = subst (λ (x : Explored). slice_get x.jobs.jobs (c.args.from + c.loop-place.place) ≡ Some c.get.result.now) c.self.view_is c.get.ensures.job in
      next_children e.program e.plan start e.jobs.jobs c.args.from c.loop-place.place c.args.room c.args.added.now c.index-added-place.result c.loop-place.growth c.add.new.self c.get.result.now c.as_slice.result.now
      begun adds c.loop-place-test.true c.requires.jobs job (sym c.index-added-place.is) c.as_slice.ensures.value c.in_ok-add.ensures.grows (c.loop-place.invariant.1 start begun adds is),
)

pub returns-clause-each : goal.returns-clause-each
returns-clause-each c = c.loop-place.invariant.0 ∙ sym c.requires.each

pub returns-clause-grows : goal.returns-clause-grows
returns-clause-grows c =
    λ start begun adds is.
    let end : c.loop-place.place ≡ length c.args.added.now = omega (arith, c.loop-place-test.false, c.loop-place.auto.place-end) in
    subst (λ n. IsGrowthOf c.args.room (children_of_all c.args.self.now.program c.args.self.now.plan start (take (c.args.from + n) c.args.self.now.jobs.jobs)) c.loop-place.growth) end
    (c.loop-place.invariant.1 start begun adds is)
