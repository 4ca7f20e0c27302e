use Rattle.std.proofs.Common.{◌≡◌, ◌+◌, ◌-◌, List, [], ◌∷◌, ◌++◌, length, replicate, refl, sym, ap, ◌∙◌, arith}
use Rattle.std.proofs.lemmas.List.{length-replicate}
use Rattle.std.proofs.lemmas.Grind.{replicate_next}
use Rattle.atomic_table.specs.Table.{Me}
use Rattle.campaign_desk.specs.declared.knowledge.Knowledge.{Knowledge}
use Rattle.campaign_desk.specs.Knowledge.{first_knowledge}
use Rattle.campaign_desk.specs.Views.{seat_of, one_seat, first_seat, other_seats}
use Rattle.campaign_desk.specs.Desk.{seat_at, new_seats}
use Rattle.campaign_desk.proofs.TableSteps.{pass_splits, other_seats-replicate, first_seat-replicate, holds_one, seat_of-one_seat}
use Rattle.campaign_desk.proofs.seat.split_seats.Goals as goal

abbrev Pass : Type 0
Pass = Me (Unit {0}) (List Knowledge)

pub loop-init : goal.loop-init
loop-init c =
    let r = c.requires.room in
    let none_yet : c.args.seats.items ≡ new_seats c.args.words.now.table_id c.args.words.now.key.jobs 0 = r.0 in
    record { table = c.requires.words.0; left = (c.args.workers, refl, c.requires.all); made = (0, omega arith, none_yet); room = r.2 }

pub split_seat-requires : goal.split_seat-requires
split_seat-requires c =
    let i = c.loop.invariant in
    let left = i.left in
    let more = c.loop-test.true in
    let words = c.requires.words.1 in
    (i.table, omega arith, pass_splits _ _ _ _ (first_knowledge c.args.words.now.key.jobs) left.0 (omega (arith, left.1)) (ap (λ (m : Pass). m.0) left.2))

pub invariant_of-push_reserved : goal.invariant_of-push_reserved
invariant_of-push_reserved c =
    let left = c.loop.invariant.left in
    let more = c.loop-test.true in
    let v = first_knowledge c.args.words.now.key.jobs in
    let one : c.split_seat.result.me ≡ one_seat v = c.split_seat.ensures.4 ∙ ap (λ (m : Pass). (first_seat m.0, [])) left.2 ∙ ap (λ us. (us, [])) (first_seat-replicate v left.0 (omega (arith, left.1))) in
    (holds_one _ v one, sym (ap (λ (u : Knowledge). u.is_done) (seat_of-one_seat _ v one)))

pub push_reserved-requires : goal.push_reserved-requires
push_reserved-requires c =
    let i = c.loop.invariant in
    let made = i.made in
    let room = i.room in
    let more = c.loop-test.true in
    let len = ap length made.2 in
    omega (arith, len, length-replicate made.0 (seat_at c.args.words.now.table_id (first_knowledge c.args.words.now.key.jobs)), made.1, c.loop.seats.ok.0)

pub loop-preserved : goal.loop-preserved
loop-preserved c =
    let i = c.loop.invariant in
    let left = i.left in
    let made = i.made in
    let more = c.loop-test.true in
    let t = c.args.words.now.table_id in
    let v = first_knowledge c.args.words.now.key.jobs in
    let s = seat_at t v in
    let e = c.split_seat.ensures in
    let pass = c.split_seat.result in
    let one : pass.me ≡ one_seat v = e.4 ∙ ap (λ (m : Pass). (first_seat m.0, [])) left.2 ∙ ap (λ us. (us, [])) (first_seat-replicate v left.0 (omega (arith, left.1))) in
    let rest : c.split_seat.new.seat.me ≡ (replicate (left.0 - 1) v, []) = e.2 ∙ ap (λ (m : Pass). (other_seats m.0, m.1)) left.2 ∙ ap (λ us. (us, [])) (other_seats-replicate v left.0 (omega (arith, left.1))) in
    let new : seat_at pass.table_id (seat_of pass.me.0) ≡ s = ap (λ t. seat_at t (seat_of pass.me.0)) (e.3 ∙ i.table) ∙ ap (λ u. seat_at t u) (seat_of-one_seat _ v one) in
    record {
      table = e.0 ∙ i.table;
      left = (left.0 - 1, omega (arith, left.1), rest);
      made = (made.0 + 1, omega (arith, made.1), c.push_reserved.ensures.items ∙ ap (λ ss. ss ++ seat_at pass.table_id (seat_of pass.me.0) ∷ []) made.2 ∙ ap (λ x. replicate made.0 s ++ x ∷ []) new ∙ sym (replicate_next made.0 s));
      room = (let capacity = c.push_reserved.ensures.capacity in let room = i.room in omega arith);
    }

pub invariant_of-push_reserved-2 : goal.invariant_of-push_reserved-2
invariant_of-push_reserved-2 c =
    let left = c.loop.invariant.left in
    let v = first_knowledge c.args.words.now.key.jobs in
    let room = c.requires.room in
    let end = c.loop-test.false in
    let far = c.loop.auto.counter-end in
    let n : left.0 ≡ 1 = omega (arith, left.1) in
    let one : c.loop.pass.me ≡ one_seat v = left.2 ∙ ap (λ k. (replicate k v, [])) n in
    (holds_one _ v one, sym (ap (λ (u : Knowledge). u.is_done) (seat_of-one_seat _ v one)))

pub push_reserved-requires-2 : goal.push_reserved-requires-2
push_reserved-requires-2 c =
    let i = c.loop.invariant in
    let made = i.made in
    let room = i.room in
    let r = c.requires.room in
    let end = c.loop-test.false in
    let far = c.loop.auto.counter-end in
    let len = ap length made.2 in
    omega (arith, len, length-replicate made.0 (seat_at c.args.words.now.table_id (first_knowledge c.args.words.now.key.jobs)), made.1, c.loop.seats.ok.0)

pub returns : goal.returns
returns c =
    let i = c.loop.invariant in
    let left = i.left in
    let made = i.made in
    let t = c.args.words.now.table_id in
    let v = first_knowledge c.args.words.now.key.jobs in
    let s = seat_at t v in
    let r = c.requires.room in
    let end = c.loop-test.false in
    let far = c.loop.auto.counter-end in
    let pass = c.loop.pass in
    let n : left.0 ≡ 1 = omega (arith, left.1) in
    let one : pass.me ≡ one_seat v = left.2 ∙ ap (λ k. (replicate k v, [])) n in
    let new : seat_at pass.table_id (seat_of pass.me.0) ≡ s = ap (λ t. seat_at t (seat_of pass.me.0)) i.table ∙ ap (λ u. seat_at t u) (seat_of-one_seat _ v one) in
    let m : made.0 + 1 ≡ c.args.workers = omega (arith, made.1) in
    c.push_reserved-2.ensures.items ∙ ap (λ ss. ss ++ seat_at pass.table_id (seat_of pass.me.0) ∷ []) made.2 ∙ ap (λ x. replicate made.0 s ++ x ∷ []) new ∙ sym (replicate_next made.0 s) ∙ ap (λ k. replicate k s) m
