-- The order of runs that fail is a strict weak order.
use Rattle.std.proofs.Common.{◌≡◌, ℕ, ◌+◌, ◌<◌, ◌≤◌, ◌==◌, ◌⊎◌, inl, inr, Bool, true, false, cond, List, [], ◌∷◌, Option, None, Some, drop, get_or, length, nat_lt, refl, sym, ap, ◌∙◌, arith}
use Rattle.std.proofs.lemmas.Bool.{cases_lt, eq-eqb, false≢true, le-ltb, lt-ltb, true≢false}
use Rattle.std.proofs.lemmas.List.{at_drop_all, at_drop_more}
use Rattle.std.proofs.lemmas.Cmp.{lists_total, nat_cmp_total, on_total, then_total}
use Rattle.std.proofs.lemmas.List.MinMax.{ranks_by}
use Rattle.std.specs.Cmp.{IsStrictWeakOrder, IsTotalOrder}
use Rattle.std.specs.Cmp.Lexicographic.{slice_cmp}
use Rattle.std.specs.Ordering.{nat_cmp, ordering_then}
use Rattle.std.specs.declared.cmp.Ordering.{Ordering}
use Rattle.std.specs.declared.cmp.Ordering.TheVariants.{Equal, Greater, Less}
use Rattle.departures.specs.declared.departure.Departure.{Departure}
use Rattle.exploration_joins.specs.Orders.{comes_before, departure_order, failing_below, is_sooner, run_order}
use Rattle.exploration_joins.specs.declared.part.PartText.{PartText}

abbrev pub part_is_sooner : ℕ → PartText → PartText → Bool
part_is_sooner levels one other = is_sooner (failing_below levels one.found) (failing_below levels other.found)

departures_rank : IsTotalOrder departure_order
departures_rank = then_total (on_total (λ (d : Departure). d.position) nat_cmp_total) (on_total (λ (d : Departure). d.thread) nat_cmp_total)

runs_rank : IsTotalOrder run_order
runs_rank = then_total (on_total (λ (run : List Departure). length run) nat_cmp_total) (lists_total departures_rank)

pub runs_order : IsStrictWeakOrder comes_before
runs_order = ranks_by runs_rank (λ (run : List Departure). run)

one_way : (x y : Option (List Departure)) → is_sooner x y ≡ true → is_sooner y x ≡ false
one_way None y h = absurd (false≢true h)
one_way (Some a) None h = refl
one_way (Some a) (Some b) h = runs_order.one_way a b h

chain : (x y z : Option (List Departure)) → is_sooner x y ≡ false → is_sooner y z ≡ false → is_sooner x z ≡ false
chain None y z h g = refl
chain (Some a) None z h g = absurd (true≢false h)
chain (Some a) (Some b) None h g = absurd (true≢false g)
chain (Some a) (Some b) (Some c) h g = runs_order.chain a b c h g

pub parts_order : (levels : ℕ) → IsStrictWeakOrder (part_is_sooner levels)
parts_order levels =
    record {
      one_way = λ x y h. one_way (failing_below levels x.found) (failing_below levels y.found) h;
      chain = λ x y z h g. chain (failing_below levels x.found) (failing_below levels y.found) (failing_below levels z.found) h g;
    }

-- ---- two runs, departure by departure

module _ (one other : List Departure) (k : ℕ) where
  -- The first departures after the same ones decide, unless they are the same.
  pub both : (d e : Departure) → k < length one → k < length other
      → slice_cmp departure_order (drop k one) (drop k other)
      ≡ ordering_then (departure_order (get_or one k d) (get_or other k e)) (slice_cmp departure_order (drop (k + 1) one) (drop (k + 1) other))
  both d e in_one in_other =
      at_drop_more (λ l. slice_cmp departure_order l (drop k other)) one k d in_one
      ∙ at_drop_more (λ l. slice_cmp departure_order (get_or one k d ∷ drop (k + 1) one) l) other k e in_other

  pub longer : (d : Departure) → k < length one → length other ≤ k → slice_cmp departure_order (drop k one) (drop k other) ≡ Greater
  longer d in_one past =
      at_drop_more (λ l. slice_cmp departure_order l (drop k other)) one k d in_one
      ∙ at_drop_all (λ l. slice_cmp departure_order (get_or one k d ∷ drop (k + 1) one) l) other k past

  pub ended : (d : Departure) → k ≡ length one → k ≤ length other → slice_cmp departure_order (drop k one) (drop k other) ≡ nat_cmp (length one) (length other)
  ended d all within = at_drop_all (λ l. slice_cmp departure_order l (drop k other)) one k (omega (arith, all)) ∙ from (cases_lt k (length other))
    where
      from : (k < length other) ⊎ (length other ≤ k) → slice_cmp departure_order [] (drop k other) ≡ nat_cmp (length one) (length other)
      from (inl less) =
          at_drop_more (slice_cmp departure_order []) other k d less
          ∙ sym (ap (λ b. cond b Less (cond (length one == length other) Equal Greater)) (lt-ltb (length one) (length other) (omega (arith, less, all))))
      from (inr more) =
          at_drop_all (slice_cmp departure_order []) other k more
          ∙ sym (
          ap (λ b. cond b Less (cond (length one == length other) Equal Greater)) (le-ltb (length one) (length other) (omega (arith, more, all)))
          ∙ ap (λ b. cond b Equal Greater) (eq-eqb (length one) (length other) (omega (arith, more, within, all)))
          )

-- An order that isn't the same is that of the first departures.
pub decides : (o rest : Ordering) → (o ≡ Equal → ⊥) → ordering_then o rest ≡ o
decides Less rest not = refl
decides Equal rest not = absurd (not refl)
decides Greater rest not = refl
