use Rattle.std.proofs.Common.{◌≡◌, ◌<◌, ◌++◌, ◌∷◌, [], ℕ, List, ap, ◌∙◌, sym, subst, set, length, arith}
use Rattle.std.proofs.lemmas.Grind.{common_steps}
use Rattle.std.proofs.lemmas.List.{get_or_read}
use Rattle.accesses.specs.ByThread.{AreFound, IsEnd, linked_in, no_node, notes_of, thread_in}
use Rattle.accesses.specs.Kept.{with_access}
use Rattle.accesses.specs.declared.by_thread.Node.{Node}
use Rattle.accesses.proofs.Ways.{added, found_with_new, found_with_note, fresh, notes_added, notes_with_access, with_note}
use Rattle.accesses.proofs.by_thread.note_in.Goals as goal

pub find-requires : goal.find-requires
find-requires c = subst (λ (ns : List Node). AreFound ns) (sym c.as_slice.ensures.value) c.requires.found

pub returns-in-At-clause-found : goal.returns-in-At-clause-found
returns-in-At-clause-found c =
    let ns = c.args.nodes.now.items in
    let i = c.in-At.index in
    let there = subst (λ (ms : List Node). (i < length ms) × (thread_in ms i ≡ c.args.noted.thread)) c.as_slice.ensures.value c.in-At.ensures in
    let read = get_or_read ns i c.index_mut.result.now there.0 c.index_mut.ensures.value no_node in
    subst (λ (n : Node). AreFound (set ns i (with_note n c.args.noted))) (sym read) (found_with_note ns i c.args.noted c.requires.found there.1)

pub returns-in-At-clause-noted : goal.returns-in-At-clause-noted
returns-in-At-clause-noted c =
    let ns = c.args.nodes.now.items in
    let i = c.in-At.index in
    let there = subst (λ (ms : List Node). (i < length ms) × (thread_in ms i ≡ c.args.noted.thread)) c.as_slice.ensures.value c.in-At.ensures in
    let read = get_or_read ns i c.index_mut.result.now there.0 c.index_mut.ensures.value no_node in
    subst (λ (n : Node). notes_of (set ns i (with_note n c.args.noted)) ≡ with_access c.args.noted (notes_of ns)) (sym read) (notes_with_access ns i c.args.noted c.requires.found there.0 there.1)

pub returns-in-Behind-clause-found : goal.returns-in-Behind-clause-found
returns-in-Behind-clause-found c =
    let ns = c.args.nodes.now.items in
    let index = c.in-Behind.index in
    let side = c.in-Behind.is_odd in
    let end = subst (λ (ms : List Node). IsEnd ms c.args.noted.thread index side) c.as_slice.ensures.value c.in-Behind.ensures in
    let long : c.len-count.result ≡ length ns = grind (arith, common_steps) in
    let whole : c.push_reserved.new.self.items ≡ added ns index side c.args.noted =
    c.push_reserved.ensures.items ∙ ap (λ (ms : List Node). ms ++ fresh c.args.noted ∷ []) (c.link.ensures.items ∙ ap (λ (n : ℕ). linked_in ns index side n) long) in
    subst (λ (ms : List Node). AreFound ms) (sym whole) (found_with_new ns index side c.args.noted c.requires.found end)

pub returns-in-Behind-clause-noted : goal.returns-in-Behind-clause-noted
returns-in-Behind-clause-noted c =
    let ns = c.args.nodes.now.items in
    let index = c.in-Behind.index in
    let side = c.in-Behind.is_odd in
    let end = subst (λ (ms : List Node). IsEnd ms c.args.noted.thread index side) c.as_slice.ensures.value c.in-Behind.ensures in
    let long : c.len-count.result ≡ length ns = grind (arith, common_steps) in
    let whole : c.push_reserved.new.self.items ≡ added ns index side c.args.noted =
    c.push_reserved.ensures.items ∙ ap (λ (ms : List Node). ms ++ fresh c.args.noted ∷ []) (c.link.ensures.items ∙ ap (λ (n : ℕ). linked_in ns index side n) long) in
    ap (λ (ms : List Node). notes_of ms) whole ∙ notes_added ns index side c.args.noted end
