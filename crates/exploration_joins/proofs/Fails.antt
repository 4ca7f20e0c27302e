-- The first of the runs that parts found to fail.
use Rattle.std.proofs.Common.{◌≡◌, ℕ, ◌<◌, Bool, true, false, if◌then◌else◌, List, All, IfOk, IfSome, Result, Ok, Err, Option, Some, None, get_or, is_some, length, nat_lt, refl, sym, ap, ◌∙◌, subst, arith}
use Rattle.std.proofs.lemmas.Bool.{false≢true, true≢false, ltb-true}
use Rattle.std.proofs.lemmas.List.{get_or_default}
use Rattle.std.specs.List.{IsFirstBest}
use Rattle.std.specs.String.{string_bytes}
use Rattle.departures.specs.declared.departure.Departure.{Departure}
use Rattle.exploration_joins.proofs.Orders.{part_is_sooner}
use Rattle.exploration_joins.specs.Joins.{AreSame, IsCoveredBy, IsFirstFailing, IsFoundBy, IsRun, NoneFails}
use Rattle.exploration_joins.specs.Orders.{comes_before, failing_below, is_sooner}
use Rattle.exploration_joins.specs.declared.found.Found.{Found}
use Rattle.exploration_joins.specs.declared.found.Found.TheVariants as variant
use Rattle.exploration_joins.specs.declared.part.PartText.{PartText}

-- A run that is found isn't before that of the first part.
not_before : (o : Option (List Departure)) (run : List Departure) → is_sooner o (Some run) ≡ false → IfSome o (λ other. comes_before other run ≡ false)
not_before None run not = tt
not_before (Some other) run not = not

none_at : (o : Option (List Departure)) → is_sooner o None ≡ false → o ≡ None
none_at None not = refl
none_at (Some run) not = absurd (true≢false not)

module _ (parts : List PartText) (levels place : ℕ) (first : PartText) (is : first ≡ get_or parts place first) (best : IsFirstBest (part_is_sooner levels) parts (length parts) place) where
  same_part : (d : PartText) → get_or parts place d ≡ first
  same_part d = get_or_default parts place d first best.0 ∙ sym is

  -- No run comes before that of the first part.
  against : (k : ℕ) (d : PartText) → k < length parts → is_sooner (failing_below levels (get_or parts k d).found) (failing_below levels first.found) ≡ false
  against k d within =
      subst (λ p. is_sooner (failing_below levels (get_or parts k d).found) (failing_below levels p.found) ≡ false) (same_part d)
      (best.1 k d within)

  pub none_fails : failing_below levels first.found ≡ None → NoneFails parts levels
  none_fails none k d within =
      none_at (failing_below levels (get_or parts k d).found)
      (subst (λ o. is_sooner (failing_below levels (get_or parts k d).found) o ≡ false) none (against k d within))

  pub covered_found : failing_below levels first.found ≡ None → (result : Found) → IsCoveredBy parts result → IsFoundBy parts levels result
  covered_found none (variant.Failing departures words) so = absurd so
  covered_found none (variant.Covered words) so = (none_fails none, so)
  covered_found none variant.Stopped so = (none_fails none, so)

  first_run : (run : List Departure) (words : List ℕ) → IsRun run words first.found → failing_below levels first.found ≡ Some run → length run < levels → IsFirstFailing parts levels run words
  first_run run words here fails below =
      record {
        below = below;
        one = (place, first, best.0, sym is, here);
        first = λ k d within.
            not_before (failing_below levels (get_or parts k d).found) run
            (subst (λ o. is_sooner (failing_below levels (get_or parts k d).found) o ≡ false) fails (against k d within));
      }

  pub first_found : (one : Found) → first.found ≡ one → is_some (failing_below levels one) ≡ true → (result : Found) → AreSame one result → IsFoundBy parts levels result
  first_found (variant.Failing ds ws) same fails (variant.Failing departures words) copy = from (nat_lt (length ds.items) levels) refl
    where
      from : (b : Bool) → nat_lt (length ds.items) levels ≡ b → IsFirstFailing parts levels departures.items (string_bytes words)
      from false less =
          let none : failing_below levels (variant.Failing ds ws) ≡ None = ap (λ b. if b then Some ds.items else None) less in
          absurd (false≢true (ap is_some (sym none) ∙ fails))
      from true less =
          let whole : failing_below levels (variant.Failing ds ws) ≡ Some ds.items = ap (λ b. if b then Some ds.items else None) less in
          let run : departures.items ≡ ds.items = copy.0 in
          first_run departures.items (string_bytes words)
          (subst (IsRun departures.items (string_bytes words)) (sym same) (sym copy.0, sym copy.1))
          (ap (failing_below levels) same ∙ whole ∙ ap (λ l. Some l) (sym run))
          (subst (λ l. length l < levels) (sym run) (ltb-true (length ds.items) levels less))
  first_found (variant.Failing ds ws) same fails (variant.Covered words) copy = absurd copy
  first_found (variant.Failing ds ws) same fails variant.Stopped copy = absurd copy
  first_found (variant.Covered ws) same fails result copy = absurd (false≢true fails)
  first_found variant.Stopped same fails result copy = absurd (false≢true fails)

  pub ok_found : {E : Type 0} (r : Result Found E) → is_some (failing_below levels first.found) ≡ true → IfOk r (AreSame first.found) → IfOk r (IsFoundBy parts levels)
  ok_found (Ok result) fails copy = first_found first.found refl fails result copy
  ok_found (Err e) fails copy = tt

  pub ok_covered : {E : Type 0} (r : Result Found E) → is_some (failing_below levels first.found) ≡ false → IfOk r (IsCoveredBy parts) → IfOk r (IsFoundBy parts levels)
  ok_covered (Ok result) none so = covered_found (from (failing_below levels first.found) none) result so
    where
      from : (o : Option (List Departure)) → is_some o ≡ false → o ≡ None
      from None none = refl
      from (Some run) none = absurd (true≢false none)
  ok_covered (Err e) none so = tt
