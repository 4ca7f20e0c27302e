-- The children of consecutive jobs are added to the jobs of the next level.
use Rattle.std.proofs.Common.{Bool, List, Ok, [], Some, ap, arith, drop, length, refl, subst, sym, take, ℕ, suc, zero, ◌+◌, ◌<◌, ◌≤◌, ◌∙◌, ◌∷◌, ◌++◌, ◌≡◌}
use Rattle.std.proofs.lemmas.List.{append_assoc, append-nil, get_or-drop, get_or-take, take_more}
use Rattle.std.proofs.lemmas.Slice.Zip.{AllZip-long}
use Rattle.std.specs.List.{AllZip}
use Rattle.std.specs.declared.alloc.Global.{Global}
use Rattle.std.specs.declared.vec.Vec.{Vec}
use Rattle.std.specs.Prelude.{get_or, slice_get}
use Rattle.departures.specs.Jobs.{all_children, children_of}
use Rattle.departures.specs.Turns.{Turns}
use Rattle.departures.specs.declared.departure.Departure.{Departure}
use Rattle.explore_jobs.specs.declared.plan.Plan.{Plan}
use Rattle.exploring.specs.Batches.{AddsChildrenOf}
use Rattle.exploring.specs.Explorations.{children_at, children_of_all}
use Rattle.exploring.specs.Growths.{IsGrowthOf}
use Rattle.jvms_machine.specs.Opening.{opening, start_of_entry}
use Rattle.jvms_machine.specs.Start.{Start}
use Rattle.jvms_program.specs.declared.program.Class.{Class}
use Rattle.explore_jobs.specs.Stays.{stays}
use Rattle.local_turns.specs.Turns.{turns_of}
use Rattle.explore_jobs.specs.Children.{with_each}
use Rattle.exploring.specs.declared.growth.Growth.{Growth}

pub zip_at : {A B : Type 0} (R : A → B → Type 0) (xs : List A) (ys : List B) (i : ℕ) (d : A) (e : B) → AllZip R xs ys → i < length xs → R (get_or xs i d) (get_or ys i e)
zip_at R [] ys i d e are less = absurd (omega (arith, less))
zip_at R (x ∷ xs) [] i d e are less = absurd are
zip_at R (x ∷ xs) (y ∷ ys) zero d e are less = are.0
zip_at R (x ∷ xs) (y ∷ ys) (suc i) d e are less = zip_at R xs ys i d e are.1 (omega (arith, less))

weaker : {A B : Type 0} (P Q : A → B → Type 0) → ((a : A) (b : B) → P a b → Q a b) → (xs : List A) (ys : List B) → AllZip P xs ys → AllZip Q xs ys
weaker P Q by [] [] are = tt
weaker P Q by [] (y ∷ ys) are = absurd are
weaker P Q by (x ∷ xs) [] are = absurd are
weaker P Q by (x ∷ xs) (y ∷ ys) are = (by x y are.0, weaker P Q by xs ys are.1)

get_some : {X : Type 0} (xs : List X) (i : ℕ) (x d : X) → slice_get xs i ≡ Some x → get_or xs i d ≡ x
get_some [] i x d is = absurd (cc)
get_some (y ∷ ys) zero x d is = cc
get_some (y ∷ ys) (suc i) x d is = get_some ys i x d is

module _ {S : Type 0} (sys : Turns S) (is_local : S → ℕ → Bool) (turns : ℕ) (s : S) (last : ℕ) where
  abbrev all : List (List Departure) → List (List Departure)
  all jobs = all_children sys is_local turns s last jobs

  abbrev children : List Departure → List (List Departure)
  children job = children_of sys is_local turns s last job

  all_joined : (xs ys : List (List Departure)) → all (xs ++ ys) ≡ all xs ++ all ys
  unfolding all_children
  all_joined [] ys = refl
  all_joined (x ∷ xs) ys = ap (λ l. children x ++ l) (all_joined xs ys) ∙ sym (append_assoc (children x) (all xs) (all ys))

  pub one_more : (jobs : List (List Departure)) (n : ℕ) (d : List Departure) → n < length jobs → all (take (n + 1) jobs) ≡ all (take n jobs) ++ children (get_or jobs n d)
  unfolding all_children
  one_more jobs n d less =
      ap all (take_more jobs n d less) ∙ all_joined (take n jobs) (get_or jobs n d ∷ []) ∙ ap (λ l. all (take n jobs) ++ l) (append-nil (children (get_or jobs n d)))

  -- These departures are what the children of a job add.
  abbrev Adds : List Departure → Vec Departure Global → Type 0
  Adds job added = with_each job added.items ≡ children job

  pub grown_step : (jobs : List (List Departure)) (from place room : ℕ) (found : List (Vec Departure Global)) (one : Vec Departure Global) (old new : Growth) (parent : List Departure)
      → AllZip Adds (take (length found) (drop from jobs)) found → place < length found → from + length found ≤ length jobs
      → slice_get jobs (from + place) ≡ Some parent
      → ((js : List (List Departure)) → IsGrowthOf room js old → IsGrowthOf room (js ++ with_each parent (get_or found place one).items) new)
      → IsGrowthOf room (all (take (from + place) jobs)) old → IsGrowthOf room (all (take (from + (place + 1)) jobs)) new
  grown_step jobs from place room found one old new parent are less within is grows before =
      let below : from + place < length jobs = omega (arith, less, within) in
      let here : get_or jobs (from + place) parent ≡ parent = get_some jobs (from + place) parent parent is in
      let long = AllZip-long Adds (take (length found) (drop from jobs)) found are in
      let part : place < length (take (length found) (drop from jobs)) = omega (arith, long, less) in
      let read : get_or (take (length found) (drop from jobs)) place parent ≡ parent = get_or-take (length found) (drop from jobs) place parent less ∙ get_or-drop from jobs place parent ∙ here in
      let adds : with_each parent (get_or found place one).items ≡ children parent = subst (λ job. Adds job (get_or found place one)) read (zip_at Adds (take (length found) (drop from jobs)) found place parent one are part) in
      let next : from + place + 1 ≡ from + (place + 1) = omega arith in
      let whole : all (take (from + (place + 1)) jobs) ≡ all (take (from + place) jobs) ++ with_each parent (get_or found place one).items =
      ap (λ n. all (take n jobs)) (sym next) ∙ one_more jobs (from + place) parent below ∙ ap (λ job. all (take (from + place) jobs) ++ children job) here ∙ ap (λ l. all (take (from + place) jobs) ++ l) (sym adds)
      in
      subst (λ js. IsGrowthOf room js new) (sym whole) (grows (all (take (from + place) jobs)) before)

-- The same of an exploration's jobs.
pub next_children : (program : List Class) (plan : Plan) (start : Start) (jobs : List (List Departure)) (from place room : ℕ) (found : List (Vec Departure Global)) (one : Vec Departure Global) (old new : Growth) (parent added : List Departure)
    → start_of_entry program plan.limits plan.entry ≡ Ok start → AllZip (AddsChildrenOf program plan) (take (length found) (drop from jobs)) found
    → place < length found → from + length found ≤ length jobs → slice_get jobs (from + place) ≡ Some parent → get_or found place one ≡ one → added ≡ one.items
    → ((js : List (List Departure)) → IsGrowthOf room js old → IsGrowthOf room (js ++ with_each parent added) new)
    → IsGrowthOf room (children_of_all program plan start (take (from + place) jobs)) old → IsGrowthOf room (children_of_all program plan start (take (from + (place + 1)) jobs)) new
next_children program plan start jobs from place room found one old new parent added begun adds less within job read same grows before =
    let sys = turns_of program plan.limits start in
    let kept = stays program plan.limits start plan.within in
    let items : added ≡ (get_or found place one).items = same ∙ ap (λ (v : Vec Departure Global). v.items) (sym read) in
    grown_step sys kept plan.most (opening program) 0 jobs from place room found one old new parent
    (weaker (AddsChildrenOf program plan) (λ job v. with_each job v.items ≡ children_at program plan start job) (λ job v is. is start begun) (take (length found) (drop from jobs)) found adds)
    less within job (λ js grown. subst (λ ds. IsGrowthOf room (js ++ with_each parent ds) new) items (grows js grown)) before
