use Rattle.std.proofs.Common.{◌≡◌, ℕ, List, [], ◌∷◌, ◌++◌, All, sym, ap, ◌∙◌, subst, arith, append_assoc}
use Rattle.std.proofs.lemmas.List.{map_push}
use Rattle.campaign_desk.specs.declared.knowledge.Knowledge.{Knowledge}
use Rattle.campaign_desk.specs.Desk.{SeatValue, knowledge_of}
use Rattle.campaign_desk.proofs.TableSteps.{pass_joins, all-push}
use Rattle.campaign_desk.proofs.seat.join_seats.Goals as goal

abbrev Me' : Type 0
Me' = List Knowledge × List (ℕ × Unit {0})

pub join_seat-requires : goal.join_seat-requires
join_seat-requires c =
    let i = c.loop-seat.invariant in
    let of_table = λ (s : SeatValue). s.table ≡ c.args.words.now.table_id in
    let tables = all-push of_table c.pop.new.self.items c.in-Some.seat (subst (λ xs. All of_table xs) c.in-Some.ensures.items i.seats) in
    let no_slots = ap (λ (m : Me'). m.1) c.seat.invariant.0 in
    let words = c.requires.words in
    (i.table, ap (λ (s : SeatValue). s.table) c.seat.view_is ∙ tables.1, no_slots, omega arith, pass_joins _ _ _ _ _ _)

pub loop-seat-preserved : goal.loop-seat-preserved
loop-seat-preserved c =
    let i = c.loop-seat.invariant in
    let of_table = λ (s : SeatValue). s.table ≡ c.args.words.now.table_id in
    let tables = all-push of_table c.pop.new.self.items c.in-Some.seat (subst (λ xs. All of_table xs) c.in-Some.ensures.items i.seats) in
    let j = c.join_seat.ensures in
    let rest = knowledge_of c.pop.new.self.items in
    let all = c.loop-seat.all.me.0 in
    let popped = c.in-Some.seat.knowledge ∷ [] in
    let one : c.seat.inside.pass.me.0 ≡ popped = ap (λ (m : Me'). m.0) c.seat.invariant.0 ∙ ap (λ (s : SeatValue). s.knowledge ∷ []) c.seat.view_is in
    let me : c.join_seat.new.seat.me.0 ≡ popped ++ all = ap (λ (m : Me'). m.0) j.2 ∙ ap (λ us. us ++ all) one in
    let seats : rest ++ popped ≡ knowledge_of c.loop-seat.seats.items = sym (map_push (λ (s : SeatValue). s.knowledge) c.pop.new.self.items c.in-Some.seat) ∙ ap knowledge_of (sym c.in-Some.ensures.items) in
    record {
      table = j.0 ∙ i.table;
      seats = tables.0;
      no_slots = ap (λ (m : Me'). m.1) j.2 ∙ i.no_slots;
      knowledge = ap (λ us. rest ++ us) me ∙ sym (append_assoc rest popped all) ∙ ap (λ us. us ++ all) seats ∙ i.knowledge;
    }
