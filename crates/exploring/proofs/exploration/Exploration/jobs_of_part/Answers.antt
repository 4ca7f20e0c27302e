use Rattle.std.proofs.Common.{List, [], ◌∷◌, ◌++◌, ap, arith, refl, subst, sym, ◌∙◌, ◌≡◌}
use Rattle.std.proofs.lemmas.List.{take_all}
use Rattle.departures.specs.declared.departure.Departure.{Departure}
use Rattle.exploration_parts.proofs.Parts.{those_of_map}
use Rattle.exploration_parts.specs.Parts.{those_of}
use Rattle.explore_jobs.specs.Children.{with_each}
use Rattle.exploring.specs.Explorations.{children_at}
use Rattle.exploring.specs.Growths.{IsGrowthOf}
use Rattle.exploring.specs.declared.growth.Growth.{Growth}
use Rattle.exploring.proofs.exploration.Exploration.jobs_of_part.Goals as goal

pub returns-clause-jobs : goal.returns-clause-jobs
returns-clause-jobs c =
    λ start begun.
    let e = c.args.self.now in
    let part = c.args.part in
    let alone : Departure → List Departure = λ d. [] ++ d ∷ [] in
    let own = c.as_slice-2.ensures.value ∙ c.in_ok-own.ensures ∙ ap (λ (ds : List Departure). those_of part 0 ds) c.as_slice.ensures.value in
    let same : with_each [] c.as_slice-2.result.now ≡ those_of part 0 (children_at e.program e.plan start []) =
    ap (λ (ds : List Departure). with_each [] ds) own
    ∙ those_of_map part 0 alone c.in_ok-departures.departures.items
    ∙ ap (λ (jobs : List (List Departure)). those_of part 0 jobs) (c.in_ok-departures.ensures start begun)
    in
    let none : IsGrowthOf c.args.room [] c.new-growth.result =
    subst (λ (growth : Growth). IsGrowthOf c.args.room [] growth) (sym c.new-growth.ensures)
    (record { kept = sym (take_all c.args.room [] (omega arith)); count = refl })
    in
    subst (λ (jobs : List (List Departure)). IsGrowthOf c.args.room jobs c.add.new.self) same (c.in_ok-add.ensures.grows [] none)
