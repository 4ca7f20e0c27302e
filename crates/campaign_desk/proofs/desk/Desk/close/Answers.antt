use Rattle.std.proofs.Common.{◌≡◌, ℕ, List, length, sym, ap, ◌∙◌, subst}
use mathlib.Core.Option.{some-injective}
use lib.ListN.{get_elem?}
use Rattle.std.proofs.lemmas.List.{map_push, length-map}
use Rattle.atomic_table.specs.Table.{Me}
use Rattle.campaign_desk.specs.declared.knowledge.Knowledge.{Knowledge}
use Rattle.campaign_desk.specs.Desk.{SeatValue, DeskValue, knowledge_of}
use Rattle.campaign_desk.specs.Reached.{IsReached}
use Rattle.campaign_desk.proofs.ReachedLaws.{is_desk}
use Rattle.campaign_desk.proofs.TableSteps.{table_closes}
use Rattle.campaign_desk.proofs.desk.Desk.close.Goals as goal

pub returns : goal.returns
returns c =
    let pass = c.join_seats-all.result in
    let key = c.self.inside.table.shared.key in
    let seats : pass.me.0 ≡ knowledge_of c.args.seats.items =
    ap (λ (m : Me (Unit {0}) (List Knowledge)). m.0) c.join_seats-all.ensures.seats
    ∙ sym (map_push (λ (s : SeatValue). s.knowledge) c.pop.new.self.items c.in-Some.last)
    ∙ ap knowledge_of (sym c.in-Some.ensures.items) in
    let jobs : key.jobs ≡ c.args.self.jobs = c.self.invariant.0 ∙ ap (λ (d : DeskValue). d.jobs) c.self.view_is in
    let workers : key.workers ≡ c.args.self.workers = c.self.invariant.1 ∙ ap (λ (d : DeskValue). d.workers) c.self.view_is in
    let all : length pass.me.0 ≡ key.workers =
    ap length seats ∙ length-map _ _ ∙ sym c.args.seats.ok.0 ∙ c.requires.all ∙ sym workers in
    let end = table_closes _ key pass.id pass.me.0 _ _ all c.close_with-closed.ensures.values.2 in
    let next : end.0 ≡ c.word.result = some-injective _ _ (sym (ap (λ ws. get_elem? ws 0) end.2) ∙ c.word.ensures) in
    let bound : end.1 ≡ c.word-2.result = some-injective _ _ (sym (ap (λ ws. get_elem? ws 1) end.2) ∙ c.word-2.ensures) in
    let P = λ (p : (ℕ × ℕ) × ((ℕ × ℕ) × List Knowledge)). IsReached p.0.0 p.0.1 p.1.0.0 p.1.0.1 p.1.1 in
    let reached = subst P (λ i. ((jobs i, workers i), ((next i, bound i), seats i))) end.3 in
    record { reached = reached; facts = is_desk _ _ _ _ _ reached }
