use Rattle.std.proofs.Common.{Err, ap, sym, refl}
use Rattle.schedule.specs.Schedules.{Listed, Ranked, RoundRobin, Seeded, Staying}
use Rattle.schedule.specs.Choosers as choosers
use Rattle.schedule.proofs.Spelling.{begins, list_kind, list_only, none_of, rank_kind, rank_only, round_kind, seed_kind, seed_only, stay_kind}
use Rattle.schedule.proofs.chooser.rule_of.Goals as goal

pub returns-in_err-list-clause-syntax : goal.returns-in_err-list-clause-syntax
returns-in_err-list-clause-syntax c =
    let a = c.in-Some.ensures.cases in
    let whole = begins list_kind c.args.text.now c.in-Some.threads.now a.0 a.1.1 a.2 in
    λ h schedule spelled.
    let found = list_only c.args.text.now c.in-Some.threads.now schedule whole spelled in
    let same = rw h at c.from_residual.ensures.1 in
    c.in_err-list.ensures.syntax (ap Err (sym same)) found.0 found.2

pub returns-in-Some-clause-rule : goal.returns-in-Some-clause-rule
returns-in-Some-clause-rule c =
    let a = c.in-Some.ensures.cases in
    let whole = begins list_kind c.args.text.now c.in-Some.threads.now a.0 a.1.1 a.2 in
    (Listed c.in_ok-list.list, (c.in-Some.threads.now, c.in_ok-list.ensures.list, whole), refl)

pub returns-in-Some-strip_prefix-clause-rule : goal.returns-in-Some-strip_prefix-clause-rule
returns-in-Some-strip_prefix-clause-rule c =
    let a = c.in-Some-strip_prefix.ensures.cases in
    let whole = begins stay_kind c.args.text.now c.in-Some-strip_prefix.departures.now a.0 a.1.1 a.2 in
    let found = c.in_ok-staying.ensures.staying in
    (Staying found.0, (c.in-Some-strip_prefix.departures.now, found.1, whole), found.2)

pub returns-in-Some-strip_prefix-2-clause-rule : goal.returns-in-Some-strip_prefix-2-clause-rule
returns-in-Some-strip_prefix-2-clause-rule c =
    let a = c.in-Some-strip_prefix-2.ensures.cases in
    let whole = begins round_kind c.args.text.now c.in-Some-strip_prefix-2.number.now a.0 a.1.1 a.2 in
    let written = rw c.in_ok-quantum.ensures.ok_part at c.quantum.ensures in
    (RoundRobin c.in_ok-quantum.quantum, (c.in-Some-strip_prefix-2.number.now, written, whole), refl)

pub returns-in_err-ranked-clause-syntax : goal.returns-in_err-ranked-clause-syntax
returns-in_err-ranked-clause-syntax c =
    let a = c.in-Some-strip_prefix-3.ensures.cases in
    let whole = begins rank_kind c.args.text.now c.in-Some-strip_prefix-3.numbers.now a.0 a.1.1 a.2 in
    let never = none_of _ _ c.parse-in-Some-strip_prefix-3.result c.parse-in-Some-strip_prefix-3.ensures (sym c.in_err-ranked.ensures.variant) in
    λ _ schedule spelled.
    let found = rank_only c.args.text.now c.in-Some-strip_prefix-3.numbers.now schedule whole spelled in
    never found.0 found.1 found.2 found.3 found.5

pub returns-in-Some-strip_prefix-3-clause-rule : goal.returns-in-Some-strip_prefix-3-clause-rule
returns-in-Some-strip_prefix-3-clause-rule c =
    let a = c.in-Some-strip_prefix-3.ensures.cases in
    let whole = begins rank_kind c.args.text.now c.in-Some-strip_prefix-3.numbers.now a.0 a.1.1 a.2 in
    let ranked = rw c.in_ok-ranked.ensures.ok_part at c.parse-in-Some-strip_prefix-3.ensures in
    (Ranked ranked.0 ranked.1 ranked.2 ranked.3, (c.in-Some-strip_prefix-3.numbers.now, ranked.4, whole), ap choosers.Ranked ranked.5)

pub returns-in_err-generator-clause-syntax : goal.returns-in_err-generator-clause-syntax
returns-in_err-generator-clause-syntax c =
    let a = c.in-Some-strip_prefix-4.ensures.cases in
    let whole = begins seed_kind c.args.text.now c.in-Some-strip_prefix-4.seed.now a.0 a.1.1 a.2 in
    let never = none_of _ _ c.generator.result c.generator.ensures (sym c.in_err-generator.ensures.variant) in
    λ _ schedule spelled.
    let found = seed_only c.args.text.now c.in-Some-strip_prefix-4.seed.now schedule whole spelled in
    never found.0 found.1 found.3

pub returns-clause-rule : goal.returns-clause-rule
returns-clause-rule c =
    let a = c.in-Some-strip_prefix-4.ensures.cases in
    let whole = begins seed_kind c.args.text.now c.in-Some-strip_prefix-4.seed.now a.0 a.1.1 a.2 in
    let seeded = rw c.in_ok-generator.ensures.ok_part at c.generator.ensures in
    (Seeded seeded.0 seeded.1, (c.in-Some-strip_prefix-4.seed.now, seeded.2, whole), ap choosers.Seeded seeded.3)
