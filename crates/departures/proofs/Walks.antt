-- Steps of loops over threads and turns.
use Rattle.std.proofs.Common.{drop, length-drop, Bool, List, None, Option, Some, [], ap, arith, false, refl, subst, sym, true, ℕ, suc, zero, ◌++◌, ◌+◌, ◌-◌, ◌<◌, ◌==◌, ◌∙◌, ◌≡◌, ◌≤◌, ◌∷◌, length, append_assoc, append-nil}
use Rattle.std.proofs.lemmas.Bool.{false≢true}
use Rattle.std.specs.Option.{is_none, is_some}
use Rattle.departures.specs.declared.departure.Departure.{Departure}
use Rattle.departures.proofs.Names.{choices_end, choices_step}
use Rattle.departures.specs.Departures.{choices_of, chosen_at, default_of, first_in, left_at}
use Rattle.departures.specs.Jobs.{children_here, children_in, other_if, others_in}
use Rattle.departures.specs.Turns.{Turns, end_of}

pub one_fewer : (t to : ℕ) → t < to → to - t ≡ suc (to - (t + 1))
one_fewer t to less = omega arith

pub none_from : (t to : ℕ) → to ≤ t → to - t ≡ 0
none_from t to past = omega arith

module _ {S : Type 0} (sys : Turns S) where
  step_off : (s : S) (t n : ℕ) → sys.is_enabled s t ≡ false → first_in sys s t (suc n) ≡ first_in sys s (t + 1) n
  unfolding first_in
  step_off s t n off = rw off refl

  step_on : (s : S) (t n : ℕ) → sys.is_enabled s t ≡ true → first_in sys s t (suc n) ≡ Some t
  unfolding first_in
  step_on s t n on = rw on refl

  pub first_skip : (s : S) (t to : ℕ) → t < to → sys.is_enabled s t ≡ false → first_in sys s t (to - t) ≡ first_in sys s (t + 1) (to - (t + 1))
  first_skip s t to less off = rw (one_fewer t to less) (step_off s t (to - (t + 1)) off)

  pub first_found : (s : S) (t to : ℕ) → t < to → sys.is_enabled s t ≡ true → first_in sys s t (to - t) ≡ Some t
  first_found s t to less on = rw (one_fewer t to less) (step_on s t (to - (t + 1)) on)

  zero_none : (s : S) (t : ℕ) → first_in sys s t 0 ≡ None
  unfolding first_in
  zero_none s t = refl

  pub first_none : (s : S) (t to : ℕ) → to ≤ t → first_in sys s t (to - t) ≡ None
  first_none s t to past = rw (none_from t to past) (zero_none s t)

other_front : (e b : Bool) (child : List Departure) (rest : List (List Departure)) → other_if e b child [] ++ rest ≡ other_if e b child rest
other_front true false child rest = refl
other_front true true child rest = refl
other_front false b child rest = refl

module _ {S : Type 0} (sys : Turns S) (is_local : S → ℕ → Bool) where
  others_suc : (ds : List Departure) (k : ℕ) (s : S) (t u n : ℕ) → others_in sys is_local ds k s t u (suc n) ≡ other_if (sys.is_enabled s u) (u == t) (ds ++ record { position = k; thread = u } ∷ []) [] ++ others_in sys is_local ds k s t (u + 1) n
  unfolding others_in
  others_suc ds k s t u n = sym (other_front (sys.is_enabled s u) (u == t) (ds ++ record { position = k; thread = u } ∷ []) (others_in sys is_local ds k s t (u + 1) n))

  pub others_step : (ds : List Departure) (k : ℕ) (s : S) (t u to : ℕ) → u < to → others_in sys is_local ds k s t u (to - u) ≡ other_if (sys.is_enabled s u) (u == t) (ds ++ record { position = k; thread = u } ∷ []) [] ++ others_in sys is_local ds k s t (u + 1) (to - (u + 1))
  others_step ds k s t u to less = rw (one_fewer u to less) (others_suc ds k s t u (to - (u + 1)))

  others_zero : (ds : List Departure) (k : ℕ) (s : S) (t u : ℕ) → others_in sys is_local ds k s t u 0 ≡ []
  unfolding others_in
  others_zero ds k s t u = refl

  pub others_end : (ds : List Departure) (k : ℕ) (s : S) (t u to : ℕ) → to ≤ u → others_in sys is_local ds k s t u (to - u) ≡ []
  others_end ds k s t u to past = rw (none_from u to past) (others_zero ds k s t u)

-- One more part of a list that is appended part by part.
pub part_more : {A : Type 0} (old now later part rest all : List A) → now ++ (part ++ rest) ≡ all → later ≡ now ++ part → later ++ rest ≡ all
part_more old now later part rest all before is = ap (λ x. x ++ rest) is ∙ (append_assoc now part rest ∙ before)

pub part_end : {A : Type 0} (now rest all : List A) → now ++ rest ≡ all → rest ≡ [] → now ≡ all
part_end now rest all before none = sym (append-nil now) ∙ (ap (λ x. now ++ x) (sym none) ∙ before)

module _ {S : Type 0} (sys : Turns S) where
  -- One turn of a run.
  pub ahead_step : (k to : ℕ) (s : S) (last : ℕ) (rest later : List Departure) (usual t : ℕ) → k < to → default_of sys s last ≡ Some usual → t ≡ chosen_at k usual rest → later ≡ left_at k rest → choices_of sys (to - k) k s last rest ≡ t ∷ choices_of sys (to - (k + 1)) (k + 1) (sys.after s t) t later
  ahead_step k to s last rest later usual t less is chosen left =
      ap (λ n. choices_of sys n k s last rest) (one_fewer k to less)
      ∙ choices_step sys (to - (k + 1)) k s last rest usual t is (sym chosen)
      ∙ ap (λ x. t ∷ choices_of sys (to - (k + 1)) (k + 1) (sys.after s t) t x) (sym left)

  none_ahead : (n k : ℕ) (s : S) (last : ℕ) (rest : List Departure) → default_of sys s last ≡ None → choices_of sys n k s last rest ≡ []
  unfolding choices_of
  none_ahead zero k s last rest is = refl
  none_ahead (suc n) k s last rest is = choices_end sys n k s last rest is

  pub ahead_none : (k to : ℕ) (s : S) (last : ℕ) (rest : List Departure) → default_of sys s last ≡ None → choices_of sys (to - k) k s last rest ≡ []
  ahead_none k to s last rest is = none_ahead (to - k) k s last rest is

  zero_ahead : (k : ℕ) (s : S) (last : ℕ) (rest : List Departure) → choices_of sys 0 k s last rest ≡ []
  unfolding choices_of
  zero_ahead k s last rest = refl

  pub ahead_end : (k to : ℕ) (s : S) (last : ℕ) (rest : List Departure) → to ≤ k → choices_of sys (to - k) k s last rest ≡ []
  ahead_end k to s last rest past = ap (λ n. choices_of sys n k s last rest) (none_from k to past) ∙ zero_ahead k s last rest

  pub state_more : (s : S) (t : ℕ) (ahead later : List ℕ) (end : S) → end_of sys s ahead ≡ end → ahead ≡ t ∷ later → end_of sys (sys.after s t) later ≡ end
  unfolding end_of
  state_more s t ahead later end is step = subst (λ x. end_of sys s x ≡ end) step is

  pub state_end : (s : S) (ahead : List ℕ) (end : S) → end_of sys s ahead ≡ end → ahead ≡ [] → s ≡ end
  unfolding end_of
  state_end s ahead end is none = subst (λ x. end_of sys s x ≡ end) none is

pub size_more : (k t : ℕ) (ahead later : List ℕ) (all : ℕ) → k + length ahead ≡ all → ahead ≡ t ∷ later → k + 1 + length later ≡ all
size_more k t ahead later all is step = let long = ap length step in omega arith

pub size_end : (k : ℕ) (ahead : List ℕ) (all : ℕ) → k + length ahead ≡ all → ahead ≡ [] → k ≡ all
size_end k ahead all is none = let long = ap length none in omega arith

module _ {S : Type 0} (sys : Turns S) (is_local : S → ℕ → Bool) where
  children_cons : (ds : List Departure) (k : ℕ) (s : S) (last t : ℕ) (later : List ℕ) (rest : List Departure) → children_in sys is_local ds k s last (t ∷ later) rest ≡ children_here sys is_local ds k s last t rest ++ children_in sys is_local ds (k + 1) (sys.after s t) t later (left_at k rest)
  unfolding children_in
  children_cons ds k s last t later rest = refl

  children_nil : (ds : List Departure) (k : ℕ) (s : S) (last : ℕ) (rest : List Departure) → children_in sys is_local ds k s last [] rest ≡ []
  unfolding children_in
  children_nil ds k s last rest = refl

  pub children_more : (ds : List Departure) (k : ℕ) (s : S) (last t : ℕ) (ahead later : List ℕ) (rest left : List Departure) (now new all : List (List Departure))
      → now ++ children_in sys is_local ds k s last ahead rest ≡ all → ahead ≡ t ∷ later → left ≡ left_at k rest
      → new ≡ now ++ children_here sys is_local ds k s last t rest
      → new ++ children_in sys is_local ds (k + 1) (sys.after s t) t later left ≡ all
  children_more ds k s last t ahead later rest left now new all is step same pushed =
      let here = children_here sys is_local ds k s last t rest in
      let next = children_in sys is_local ds (k + 1) (sys.after s t) t later (left_at k rest) in
      let whole = subst (λ x. now ++ x ≡ all) (children_cons ds k s last t later rest) (subst (λ x. now ++ children_in sys is_local ds k s last x rest ≡ all) step is) in
      subst (λ x. new ++ children_in sys is_local ds (k + 1) (sys.after s t) t later x ≡ all) (sym same)
      (part_more [] now new here next all whole pushed)

  pub children_end : (ds : List Departure) (k : ℕ) (s : S) (last : ℕ) (ahead : List ℕ) (rest : List Departure) (now all : List (List Departure))
      → now ++ children_in sys is_local ds k s last ahead rest ≡ all → ahead ≡ [] → now ≡ all
  children_end ds k s last ahead rest now all is none =
      part_end now (children_in sys is_local ds k s last ahead rest) all is
      (ap (λ x. children_in sys is_local ds k s last x rest) none ∙ children_nil ds k s last rest)

pub other_is : (e b : Bool) (child : List Departure) → e ≡ true → b ≡ false → other_if e b child [] ≡ child ∷ []
other_is true false child on other = refl
other_is true true child on other = absurd (false≢true (sym other))
other_is false b child on other = absurd (false≢true on)

pub some_by : {A : Type 0} (o : Option A) → is_none o ≡ false → is_some o ≡ true
some_by None is = absurd (false≢true (sym is))
some_by (Some x) is = refl

module _ {S : Type 0} (sys : Turns S) (is_local : S → ℕ → Bool) where
  here_by : (ds : List Departure) (k : ℕ) (s : S) (last t : ℕ) (rest : List Departure) → 0 < length rest → children_here sys is_local ds k s last t rest ≡ []
  here_by ds k s last t [] some = absurd (omega arith)
  here_by ds k s last t (d ∷ rest) some = refl

  -- There are no children before the last departure.
  pub here_none : (ds : List Departure) (k : ℕ) (s : S) (last t n : ℕ) → n < length ds → children_here sys is_local ds k s last t (drop n ds) ≡ []
  here_none ds k s last t n less = here_by ds k s last t (drop n ds) (let long = length-drop n ds in omega arith)

pub part_step : {A : Type 0} (now later part rest next all : List A) → now ++ rest ≡ all → rest ≡ part ++ next → later ≡ now ++ part → later ++ next ≡ all
part_step now later part rest next all before step is = part_more [] now later part next all (subst (λ x. now ++ x ≡ all) step before) is

module _ {S : Type 0} (sys : Turns S) where
  pub step_to : (k to : ℕ) (s : S) (last : ℕ) (rest later : List Departure) (usual t : ℕ) (next : S) → k < to → default_of sys s last ≡ Some usual → t ≡ chosen_at k usual rest → later ≡ left_at k rest → next ≡ sys.after s t → choices_of sys (to - k) k s last rest ≡ t ∷ choices_of sys (to - (k + 1)) (k + 1) next t later
  step_to k to s last rest later usual t next less is chosen left moved =
      subst (λ x. choices_of sys (to - k) k s last rest ≡ t ∷ choices_of sys (to - (k + 1)) (k + 1) x t later) (sym moved) (ahead_step sys k to s last rest later usual t less is chosen left)

  pub state_to : (s : S) (t : ℕ) (next : S) (ahead later : List ℕ) (end : S) → next ≡ sys.after s t → end_of sys s ahead ≡ end → ahead ≡ t ∷ later → end_of sys next later ≡ end
  state_to s t next ahead later end moved is step = subst (λ x. end_of sys x later ≡ end) (sym moved) (state_more sys s t ahead later end is step)

module _ {S : Type 0} (sys : Turns S) (is_local : S → ℕ → Bool) where
  pub children_to : (ds : List Departure) (k : ℕ) (s : S) (last t : ℕ) (next : S) (ahead later : List ℕ) (rest left : List Departure) (now new all : List (List Departure))
      → next ≡ sys.after s t
      → now ++ children_in sys is_local ds k s last ahead rest ≡ all → ahead ≡ t ∷ later → left ≡ left_at k rest
      → new ≡ now ++ children_here sys is_local ds k s last t rest
      → new ++ children_in sys is_local ds (k + 1) next t later left ≡ all
  children_to ds k s last t next ahead later rest left now new all moved is step same pushed =
      subst (λ x. new ++ children_in sys is_local ds (k + 1) x t later left ≡ all) (sym moved)
      (children_more sys is_local ds k s last t ahead later rest left now new all is step same pushed)
