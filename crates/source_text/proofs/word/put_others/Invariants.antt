-- The words so far are written, each after a space.
use Rattle.std.proofs.Common.{◌≡◌, ◌++◌, ◌∷◌, take, flat_map}
use Rattle.source_text.specs.Words.{units_in}
use Rattle.source_text.proofs.word.put_others.Given as goal

abbrev pub invariant-loop-word : goal.invariant-loop-word
invariant-loop-word l = l.out.items ≡ l.initial.out.items ++ flat_map (λ w. 32 ∷ units_in w) (take l.word-index l.words)
