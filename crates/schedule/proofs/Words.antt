-- The thread that a random word names, of a list of threads.
use Rattle.std.proofs.Common.{List, None, [], arith, length, refl, slice_get, ℕ, ◌%◌, ◌<◌, ◌∷◌, ◌≡◌}
use Rattle.rand_pcg.specs.Lcg.{Lcg}
use Rattle.rand_pcg.specs.Pcg.{pcg32}
use Rattle.schedule.specs.Choosers.{Seeded, by_word}

pub no_word : (generator : Lcg) (threads : List ℕ) → length threads ≡ 0 → by_word generator threads ≡ (None, Seeded generator)
no_word generator [] none = refl
no_word generator (t ∷ threads) none = absurd (omega (arith, none))

pub word_names : (generator : Lcg) (threads : List ℕ) → 0 < length threads → by_word generator threads ≡ (slice_get threads ((pcg32 generator).0 % length threads), Seeded (pcg32 generator).1)
word_names generator [] some = absurd (omega (arith, some))
word_names generator (t ∷ threads) some = refl
