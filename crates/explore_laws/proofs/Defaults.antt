-- The default of a chooser of departures is that of the machine's turns.
use Rattle.std.proofs.Common.{Bool, None, Option, Some, ap, arith, cond, false, inl, inr, refl, sym, true, ℕ, suc, zero, nat_eq, nat_lt, ◌&&◌, ◌+◌, ◌-◌, ◌<◌, ◌≤◌, ◌∙◌, ◌≡◌}
use Rattle.std.proofs.lemmas.Bool.{and_parts, cases_lt, false≢true, ltb-true}
use Rattle.std.specs.Prelude.{if◌then◌else◌}
use Rattle.std.proofs.lemmas.Bool.Decides.{nat_tests}
use Rattle.std.specs.List.{find, list_any, range_with_len}
use Rattle.std.specs.Option.{option_or}
use Rattle.departures.proofs.Walks.{first_found, first_none, first_skip}
use Rattle.departures.specs.Departures.{default_of, first_in, or_else, this_or}
use Rattle.departures.specs.Turns.{Turns}
use Rattle.schedule.proofs.Ranges.{any_of_range, find-append, next_of_beyond, next_of_within, range-+}
use Rattle.schedule.specs.Choosers.{default, enabled_of, next_of}

or_else_is : (a b : Option ℕ) → or_else a b ≡ option_or a b
or_else_is None b = refl
or_else_is (Some t) b = refl

either_order : (a b : Option ℕ) → option_or a (option_or b a) ≡ option_or a b
either_order None None = refl
either_order None (Some y) = refl
either_order (Some x) b = refl

this_or_is : (b : Bool) (t : ℕ) (rest : Option ℕ) → this_or b t rest ≡ cond b (Some t) rest
this_or_is true t rest = refl
this_or_is false t rest = refl

module _ {S : Type 0} (sys : Turns S) (s : S) where
  first_is_find : (t n : ℕ) → first_in sys s t n ≡ find (sys.is_enabled s) (range_with_len t n)
  unfolding first_in
  first_is_find t zero = refl
  first_is_find t (suc n) = ap (this_or (sys.is_enabled s t) t) (first_is_find (t + 1) n) ∙ this_or_is (sys.is_enabled s t) t (find (sys.is_enabled s) (range_with_len (t + 1) n))

  default_by : (last : ℕ) → default_of sys s last ≡ option_or (first_in sys s last (sys.threads s - last)) (first_in sys s 0 (sys.threads s))
  unfolding default_of
  default_by last = or_else_is (first_in sys s last (sys.threads s - last)) (first_in sys s 0 (sys.threads s))

  -- All threads are the first ones up to this, and the others.
  all_threads : (last count : ℕ) → last < count → find (sys.is_enabled s) (range_with_len 0 count) ≡ option_or (find (sys.is_enabled s) (range_with_len 0 (last + 1))) (find (sys.is_enabled s) (range_with_len (last + 1) (count - (last + 1))))
  all_threads last count less =
      let parts : last + 1 + (count - (last + 1)) ≡ count = omega arith in
      let from : 0 + (last + 1) ≡ last + 1 = omega arith in
      ap (λ n. find (sys.is_enabled s) (range_with_len 0 n)) (sym parts)
      ∙ ap (find (sys.is_enabled s)) (range-+ 0 (last + 1) (count - (last + 1)))
      ∙ find-append (sys.is_enabled s) (range_with_len 0 (last + 1)) (range_with_len (0 + (last + 1)) (count - (last + 1)))
      ∙ ap (λ n. option_or (find (sys.is_enabled s) (range_with_len 0 (last + 1))) (find (sys.is_enabled s) (range_with_len n (count - (last + 1))))) from

  -- Whether the last thread is among the enabled ones.
  pub is_on : (t count : ℕ) → list_any (λ u. nat_eq u t) (enabled_of (sys.is_enabled s) count) ≡ (nat_lt t count && sys.is_enabled s t)
  is_on t count = any_of_range (sys.is_enabled s) t 0 count ∙ grind (arith, nat_tests)

  default_on : (last : ℕ) → list_any (λ t. nat_eq t last) (enabled_of (sys.is_enabled s) (sys.threads s)) ≡ true → default last (enabled_of (sys.is_enabled s) (sys.threads s)) ≡ default_of sys s last
  default_on last on =
      let both = and_parts (nat_lt last (sys.threads s)) (sys.is_enabled s last) (sym (is_on last (sys.threads s)) ∙ on) in
      let found = first_found sys s last (sys.threads s) (ltb-true last (sys.threads s) both.0) both.1 in
      ap (λ b. if b then Some last else next_of last (enabled_of (sys.is_enabled s) (sys.threads s))) on
      ∙ sym (default_by last ∙ ap (λ o. option_or o (first_in sys s 0 (sys.threads s))) found)

  next_within : (last : ℕ) → last < sys.threads s → sys.is_enabled s last ≡ false → next_of last (enabled_of (sys.is_enabled s) (sys.threads s)) ≡ default_of sys s last
  next_within last less off =
      let n = sys.threads s in
      let above = find (sys.is_enabled s) (range_with_len (last + 1) (n - (last + 1))) in
      let below = find (sys.is_enabled s) (range_with_len 0 (last + 1)) in
      let skipped = first_skip sys s last n less off ∙ first_is_find (last + 1) (n - (last + 1)) in
      let all = first_is_find 0 n ∙ all_threads last n less in
      next_of_within (sys.is_enabled s) last n less
      ∙ sym (default_by last ∙ ap (λ o. option_or o (first_in sys s 0 n)) skipped ∙ ap (option_or above) all ∙ either_order above below)

  next_beyond : (last : ℕ) → sys.threads s ≤ last → next_of last (enabled_of (sys.is_enabled s) (sys.threads s)) ≡ default_of sys s last
  next_beyond last most =
      let n = sys.threads s in
      next_of_beyond (sys.is_enabled s) last n most
      ∙ sym (default_by last ∙ ap (λ o. option_or o (first_in sys s 0 n)) (first_none sys s last n most) ∙ first_is_find 0 n)

  off_by : (a b : Bool) → (a && b) ≡ false → a ≡ true → b ≡ false
  off_by true b is on = is
  off_by false b is on = absurd (false≢true on)

  default_off : (last : ℕ) → list_any (λ t. nat_eq t last) (enabled_of (sys.is_enabled s) (sys.threads s)) ≡ false → default last (enabled_of (sys.is_enabled s) (sys.threads s)) ≡ default_of sys s last
  default_off last off =
      ap (λ b. if b then Some last else next_of last (enabled_of (sys.is_enabled s) (sys.threads s))) off
      ∙ elim (cases_lt last (sys.threads s)) [
        | inl less ↦ next_within last less (off_by (nat_lt last (sys.threads s)) (sys.is_enabled s last) (sym (is_on last (sys.threads s)) ∙ off) (grind (arith, nat_tests, less)))
        | inr most ↦ next_beyond last most
      ]

  default_cases : (last : ℕ) (b : Bool) → list_any (λ t. nat_eq t last) (enabled_of (sys.is_enabled s) (sys.threads s)) ≡ b → default last (enabled_of (sys.is_enabled s) (sys.threads s)) ≡ default_of sys s last
  default_cases last true on = default_on last on
  default_cases last false off = default_off last off

  -- The default among the enabled threads is the default of the turns.
  pub default_is : (last : ℕ) → default last (enabled_of (sys.is_enabled s) (sys.threads s)) ≡ default_of sys s last
  default_is last = default_cases last (list_any (λ t. nat_eq t last) (enabled_of (sys.is_enabled s) (sys.threads s))) refl
