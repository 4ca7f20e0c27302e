use Rattle.std.proofs.Common.{◌∙◌, ap, arith, rules, not, set}
use Rattle.std.proofs.lemmas.Fn.{filter_same}
use Rattle.debugger.specs.declared.breakpoints.Slot.{Slot}
use Rattle.debugger.specs.Breakpoints.{breakpoints_of}
use Rattle.debugger.proofs.BreakpointLaws.{deleted_slot, deleted_slots, dropped_slots, kept_dropped, removed}
use Rattle.debugger.proofs.breakpoints.delete_at.Goals as goal

pub returns-then-deleted-len-clause-slots : goal.returns-then-deleted-len-clause-slots
returns-then-deleted-len-clause-slots c =
    let few = c.if-deleted-len.true in
    let count = c.len-then-len-gt-FEW_SLOTS.ensures in
    deleted_slots c.args.k c.args.i c.args.deleted c.args.next c.args.slots.now.items c.index_mut.result.now c.requires.slots c.requires.slot c.index_mut.ensures.value
    (omega (arith, few, count, c.args.slots.now.ok.0))

pub returns-then-deleted-len-clause-removed : goal.returns-then-deleted-len-clause-removed
returns-then-deleted-len-clause-removed c = removed c.args.k c.args.i c.args.slots.now.items c.index_mut.result.now c.requires.slot c.index_mut.ensures.value

pub returns-clause-slots : goal.returns-clause-slots
returns-clause-slots c =
    dropped_slots c.args.k c.args.i c.args.next c.args.slots.now.items c.retain.new.self.items c.index_mut.result.now c.requires.slots.rising c.requires.slot c.index_mut.ensures.value
    (filter_same _ (λ (s : Slot). not s.is_deleted) _ (λ x b f k. search rules) _ _ c.retain.ensures.filtered)

pub returns-clause-removed : goal.returns-clause-removed
returns-clause-removed c =
    let all = removed c.args.k c.args.i c.args.slots.now.items c.index_mut.result.now c.requires.slot c.index_mut.ensures.value in
    let left = filter_same _ (λ (s : Slot). not s.is_deleted) _ (λ x b f k. search rules) _ _ c.retain.ensures.filtered in
    (all.0, all.1, ap breakpoints_of left ∙ kept_dropped (set c.args.slots.now.items c.args.i (deleted_slot c.index_mut.result.now)) ∙ all.2)
