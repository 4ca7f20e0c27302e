use Rattle.std.proofs.Common.{ℕ, List, ◌∷◌, [], Option, refl, sym, ap, subst, ◌∙◌}
use Rattle.jvms_machine.specs.Events.{thread_of}
use Rattle.atom_order.specs.declared.link.Link.{Link}
use Rattle.accesses.specs.Accesses.{OfThread, accesses_beside, main_at}
use Rattle.accesses.specs.Links.{AreAdded}
use Rattle.accesses.specs.Rooms.{AreReady, IsReady, Remembered, kept_of}
use Rattle.accesses.specs.declared.slot.Slot.{Slot}
use Rattle.accesses.proofs.Entries.{on_ok}
use Rattle.accesses.proofs.Found.{all_links}
use Rattle.accesses.proofs.Ready.{added_none, added_ready}
use Rattle.accesses.proofs.accesses.Accesses.ready_links.Goals as goal

pub returns-in-Some : goal.returns-in-Some
returns-in-Some c =
    let now = c.args.self.now in
    let kept = kept_of now in
    let item = c.args.item.now in
    let own = main_at (OfThread (thread_of item)) in
    let mid = c.push_at.new.links.items in
    let at_own = subst (λ (n : ℕ). IsReady now.entries n own) (sym (ap (λ (r : Remembered). r.own) c.self.view_is)) c.requires.own in
    let ready = subst (λ (t : Option Slot). AreReady now.entries t (accesses_beside item)) (sym (ap (λ (r : Remembered). r.touched) c.self.view_is) ∙ c.in-Some.is) c.requires.touched in
    let first = subst (λ (ls : List Link). AreAdded kept c.args.number (own ∷ []) ls mid) c.clear.ensures.items (c.in_ok-push_at.ensures own at_own refl) in
    on_ok c.push_at-in-Some.result
    (λ at. all_links kept c.args.number item mid c.push_at-in-Some.new.links.items first
    (added_ready now.entries kept c.args.number c.in-Some.slot (accesses_beside item) mid c.push_at-in-Some.new.links.items ready at))
    c.push_at-in-Some.ensures

pub returns-in-None : goal.returns-in-None
returns-in-None c =
    let now = c.args.self.now in
    let kept = kept_of now in
    let item = c.args.item.now in
    let own = main_at (OfThread (thread_of item)) in
    let mid = c.push_at.new.links.items in
    let at_own = subst (λ (n : ℕ). IsReady now.entries n own) (sym (ap (λ (r : Remembered). r.own) c.self.view_is)) c.requires.own in
    let ready = subst (λ (t : Option Slot). AreReady now.entries t (accesses_beside item)) (sym (ap (λ (r : Remembered). r.touched) c.self.view_is) ∙ c.in-None.is) c.requires.touched in
    let first = subst (λ (ls : List Link). AreAdded kept c.args.number (own ∷ []) ls mid) c.clear.ensures.items (c.in_ok-push_at.ensures own at_own refl) in
    all_links kept c.args.number item mid mid first (added_none now.entries kept c.args.number (accesses_beside item) mid ready)
