use Rattle.std.proofs.Common.{◌≡◌, ◌+◌, ◌<◌, ◌++◌, Some, length, arith, ap, ◌∙◌, sym, subst}
use Rattle.std.proofs.lemmas.List.{append_assoc, length-append}
use Rattle.std.proofs.lemmas.Option.{same_Some}
use Rattle.trace.specs.Recording.{with_items}
use Rattle.debugger.specs.States.{items_at, setting_of}
use Rattle.debugger.specs.Walks.{IsReach, items_between}
use Rattle.debugger.proofs.RunLaws.{items_split}
use Rattle.debugger.proofs.walk.Walk.advance_beyond.Goals as goal

pub returns-clause-walk : goal.returns-clause-walk
returns-clause-walk c =
    let old = c.args.self.now in
    let g = setting_of old.replay.mark.machine in
    let cs = c.args.choices.now in
    let is = c.requires.walk in
    let gone = c.in_ok-advance.ensures in
    let extended = c.in_ok-extend.ensures in
    let n = old.replay.position in
    let m = c.advance.new.self.position in
    let from = old.reach.from in
    let new = c.give_back.new.trace in
    let here : old.reach.far ≡ n = omega (arith, is.far, c.requires.far) in
    let between = items_between g cs n m in
    let kept : Some new ≡ Some (old.items ++ between) = sym c.give_back.ensures ∙ gone.items ∙ ap (λ r. with_items r between) c.taken_from-recording.ensures in
    let items : new ≡ old.items ++ between = same_Some new (old.items ++ between) kept in
    let all : items_at g cs m ≡ items_at g cs from ++ new =
    items_split g cs n m (omega (arith, gone.some)) ∙ ap (λ l. l ++ between) (ap (items_at g cs) (sym here) ∙ is.items) ∙ append_assoc (items_at g cs from) old.items between
    ∙ ap (λ l. items_at g cs from ++ l) (sym items) in
    let many : length (items_at g cs m) ≡ length (items_at g cs from) + length new = ap length all ∙ length-append (items_at g cs from) new in
    record {
      replay = gone.replay (omega (arith, many, is.few, c.len.ensures.few, c.len.ensures.count));
      reach = subst (λ s. IsReach s cs c.extend.new.self) gone.setting extended.reach;
      far = omega (arith, is.far, extended.places.0, extended.places.1, gone.some, here);
      few = subst (λ k. length (items_at g cs k) < 9223372036854775808) (sym extended.places.0) is.few;
      items = ap (items_at g cs) extended.places.1 ∙ all ∙ ap (λ k. items_at g cs k ++ new) (sym extended.places.0);
    }
