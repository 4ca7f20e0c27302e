use Rattle.std.proofs.Common.{◌≡◌, ℕ, List, map, take}
use Rattle.const_pool.specs.Firsts.{number_at}
use Rattle.const_pool.specs.Texts.{text_of, first_number}
use Rattle.const_pool.proofs.scanned.texts_of.Given as goal

-- each entry so far has its text's data, and each text among them has the least of their numbers
abbrev pub invariant-loop-entry : goal.invariant-loop-entry
invariant-loop-entry l =
    record {
      done : l.texts.items ≡ map (text_of l.entries) (take l.entry-index l.entries);
      known : (text : List ℕ) → number_at l.firsts text ≡ first_number (take l.entry-index l.entries) text;
    }
