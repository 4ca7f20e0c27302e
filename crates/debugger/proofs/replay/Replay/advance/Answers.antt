use Rattle.std.proofs.Common.{◌≡◌, ◌+◌, ◌++◌, take, replicate, Some, refl, ap, ◌∙◌, arith, sym}
use Rattle.trace.specs.Recording.{with_items}
use Rattle.debugger.specs.States.{setting_of}
use Rattle.debugger.proofs.RunLaws.{between_more, count_added, count_more, mark_more}
use Rattle.debugger.proofs.replay.Replay.advance.Goals as goal

pub returns-clause-replay : goal.returns-clause-replay
returns-clause-replay c = λ fits.
    let mark = c.args.self.now.mark in
    let g = setting_of mark.machine in
    let cs = c.args.choices.now in
    let n = c.args.self.now.position in
    let k = c.in_ok-turns.turns.count in
    let t = c.at-t.result in
    let turns = c.in_ok-turns.ensures in
    let some = c.consecutive-most.ensures in
    let same : take (n + k) cs ≡ take n cs ++ replicate k t = some.same k turns.most ∙ ap (λ x. take n cs ++ replicate k x) (sym c.at-t.ensures) in
    let many = count_more g cs n (n + k) k t mark same c.requires.replay.mark in
    let added = count_added c.args.recording.now c.take_turns.new.recording _ c.requires.kept turns.items in
    record {
      within = omega (arith, some.within, turns.most, c.requires.within);
      made = omega (arith, c.requires.replay.made);
      mark = mark_more g cs n (n + k) k t mark c.take_turns.new.machine c.saturating_add-self.result (Some c.in_ok-turns.turns.outcome) c.in_ok-turns.turns.outcome same c.requires.replay.mark turns.state refl turns.outcome
          (omega (arith, many, added, fits, c.len.ensures, c.len-before.ensures, c.saturating_add-self.ensures));
    }

pub returns-clause-items : goal.returns-clause-items
returns-clause-items c =
    let mark = c.args.self.now.mark in
    let g = setting_of mark.machine in
    let cs = c.args.choices.now in
    let n = c.args.self.now.position in
    let k = c.in_ok-turns.turns.count in
    let t = c.at-t.result in
    let turns = c.in_ok-turns.ensures in
    let same : take (n + k) cs ≡ take n cs ++ replicate k t = c.consecutive-most.ensures.same k turns.most ∙ ap (λ x. take n cs ++ replicate k x) (sym c.at-t.ensures) in
    turns.items ∙ ap (with_items c.args.recording.now) (between_more g cs n (n + k) k t mark same c.requires.replay.mark)
