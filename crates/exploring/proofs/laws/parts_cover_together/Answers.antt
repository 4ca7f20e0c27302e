use Rattle.exploring.proofs.Whole.{parts_cover}
use Rattle.exploring.proofs.laws.parts_cover_together.Goals as goal

pub returns : goal.returns
returns c =
    λ program plan start is begun count some end each.
    parts_cover c.jobs_speak_for_all_runs.ensures c.jobs_speak_for_reduced_runs.ensures program plan start is begun count some end each
