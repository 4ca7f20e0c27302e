use Rattle.std.proofs.Common.{◌≡◌, ℕ, ◌<◌, false, List, take, Bor}
use Rattle.std.specs.BTreeSet.{contains}
use Rattle.std.specs.Cmp.Lexicographic.{slice_cmp}
use Rattle.std.specs.List.{list_any}
use Rattle.std.specs.Ordering.{nat_cmp}
use Rattle.jvms_file.specs.Names.{same_text}
use Rattle.linker.specs.Linking.{names_of, repeats}
use Rattle.linker.proofs.refusals.repeated_name.Given as goal

-- the names so far, none of which is that of one before it
abbrev pub invariant-loop-place : goal.invariant-loop-place
invariant-loop-place l = record {
  seen : (q : Bor (List ℕ)) → contains (λ x y. slice_cmp nat_cmp x.now y.now) l.names q ≡ list_any (same_text q.now) (take l.place (names_of l.classes));
  fresh : (k : ℕ) → k < l.place → repeats (names_of l.classes) k ≡ false;
}
