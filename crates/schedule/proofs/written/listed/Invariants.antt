use Rattle.std.proofs.Common.{length, vec_items}
use Rattle.std.specs.Option.{option_map}
use denote.Text.{Utf8}
use denote.Shadow.{shadow}
use Rattle.schedule.proofs.Texts.{IsRead}
use Rattle.schedule.proofs.written.listed.Given as goal

abbrev pub invariant-loop-part : goal.invariant-loop-part
invariant-loop-part g l =
    shadow (Utf8 l.rest) × IsRead g.T.Written.writes g.T.Written.are_ordered l.text l.rest l.last (option_map vec_items l.values)

abbrev pub decreases-loop-part : goal.decreases-loop-part
decreases-loop-part g l = length l.rest
