use Rattle.std.proofs.Common.{◌≡◌, ◌-◌, ◌++◌, length, take}
use Rattle.schedule.specs.Choosers.{after_words, changes_at, words_of}
use Rattle.schedule.proofs.ranked.draw.Given as goal

abbrev pub invariant-loop-place : goal.invariant-loop-place
invariant-loop-place l =
    (take l.place l.changes ++ changes_at l.place l.turns (words_of (length l.fn.changes - l.place) l.generator)
    ≡ changes_at 0 l.turns (words_of (length l.fn.changes) l.fn.generator))
    × (after_words (length l.fn.changes - l.place) l.generator ≡ after_words (length l.fn.changes) l.fn.generator)
