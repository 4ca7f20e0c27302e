-- Consecutive writes.
use Rattle.std.proofs.Common.{◌≡◌, ℕ, ◌+◌, ◌-◌, ◌≤◌, List, ◌++◌, length, take, drop, sym, ◌∙◌, ap, arith, Option, Some, None}
use Rattle.std.proofs.Math.Seq.{take-add, take-length}
use Rattle.std.proofs.lemmas.List.{length-drop, append_assoc}
use Rattle.std.specs.Io.KnownBytes.{Appends, Keeps}

all_behind : (at : ℕ) (bytes : List ℕ) → take (length bytes - at) (drop at bytes) ≡ drop at bytes
all_behind at bytes = rw (← length-drop at bytes) (take-length (drop at bytes))

-- A prefix was written, and then a prefix of what was left.
pub appended_more : (old mid new : Option (List ℕ)) (at n : ℕ) (bytes : List ℕ) → Appends old mid (take at bytes) → Appends mid new (take n (take (length bytes - at) (drop at bytes))) → Appends old new (take (at + n) bytes)
appended_more None mid new at n bytes first second = tt
appended_more (Some xs) None new at n bytes first second = absurd first
appended_more (Some xs) (Some ys) None at n bytes first second = absurd second
appended_more (Some xs) (Some ys) (Some zs) at n bytes first second =
    let behind = ap (λ bs. ys ++ take n bs) (all_behind at bytes) in
    let joined = ap (λ bs. bs ++ take n (drop at bytes)) first in
    let regrouped = append_assoc xs (take at bytes) (take n (drop at bytes)) in
    second ∙ behind ∙ joined ∙ regrouped ∙ ap (λ bs. xs ++ bs) (sym (take-add at n bytes))

-- A prefix was written, and then nothing.
pub appended_no_more : (old mid new : Option (List ℕ)) (bytes : List ℕ) → Appends old mid bytes → Keeps mid new → Appends old new bytes
appended_no_more None mid new bytes first second = tt
appended_no_more (Some xs) None new bytes first second = absurd first
appended_no_more (Some xs) (Some ys) None bytes first second = absurd second
appended_no_more (Some xs) (Some ys) (Some zs) bytes first second = second ∙ first

-- A write never writes more than there is.
pub within : (at n : ℕ) (bytes : List ℕ) → at ≤ length bytes → n ≤ length (take (length bytes - at) (drop at bytes)) → at + n ≤ length bytes
within at n bytes start some =
    let left : length (take (length bytes - at) (drop at bytes)) ≡ length bytes - at = ap length (all_behind at bytes) ∙ length-drop at bytes in
    omega arith
