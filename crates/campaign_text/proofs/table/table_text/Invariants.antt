-- The lines so far.
use Rattle.std.proofs.Common.{◌≡◌, take}
use Rattle.std.specs.String.{string_bytes}
use Rattle.campaign_text.specs.TableTexts.{job_lines}
use Rattle.campaign_text.proofs.table.table_text.Given as goal

abbrev pub invariant-loop-place : goal.invariant-loop-place
invariant-loop-place l = string_bytes l.text ≡ job_lines l.first (take l.place l.results)
