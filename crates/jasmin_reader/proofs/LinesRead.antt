-- Proves that a loop reads lines one at a time.
use Rattle.std.proofs.Common.{◌≡◌, ◌≢◌, ◌+◌, ◌<◌, ℕ, suc, List, [], ◌∷◌, length, drop, get_or, Result, Ok, Err, refl, sym, ap, ◌∙◌, arith, add-one, drop-cons}
use Rattle.std.proofs.Math.ListN.{drop_of_length-le}
use Rattle.jasmin.specs.declared.statement.Flaw.{Flaw}
use Rattle.jasmin.specs.declared.reading.Reading.{Reading}
use Rattle.jasmin.specs.Sources.{units_of}
use Rattle.jasmin.specs.Reading.{with_line, with_lines, last_line}
use Rattle.jasmin_instructions.specs.declared.fault.LineFault.{LineFault}
use Rattle.jasmin_instructions.specs.declared.fault.LineFault.TheVariants as line_fault
use Rattle.jasmin_instructions.specs.Saying.{Says}
use Rattle.jasmin_reader.specs.Readings.{Reads, source_fault}

no_line : (n : ℕ) (r : Reading) → with_lines n r [] ≡ Ok r
unfolding with_lines
no_line n r = refl

one_line : (n : ℕ) (r s : Reading) (line : List ℕ) (others : List (List ℕ)) → with_line r (units_of line) ≡ Ok s → with_lines n r (line ∷ others) ≡ with_lines (suc n) s others
unfolding with_lines
one_line n r s line others e = rw e refl

flawed_line : (n : ℕ) (r : Reading) (f : Flaw) (line : List ℕ) (others : List (List ℕ)) → with_line r (units_of line) ≡ Err f → with_lines n r (line ∷ others) ≡ Err (suc n, f)
unfolding with_lines
flawed_line n r f line others e = rw e refl

-- The rest of the lines at a line is that line followed by the rest after it.
line_there : (all : List (List ℕ)) (n : ℕ) (line : List ℕ) → n < length all → line ≡ get_or all n line → drop n all ≡ line ∷ drop (suc n) all
line_there all n line below is = rw (drop-cons all n line) (ap (λ l. l ∷ drop (suc n) all) (sym is))

-- The state after the rest at a line is the state after the rest that follows it.
pub line_more : (all : List (List ℕ)) (n : ℕ) (line : List ℕ) (r s : Reading) (total : Result Reading (ℕ × Flaw)) → n < length all → line ≡ get_or all n line → with_line r (units_of line) ≡ Ok s → with_lines n r (drop n all) ≡ total → with_lines (n + 1) s (drop (n + 1) all) ≡ total
line_more all n line r s total below is read so_far =
    rw add-one (sym (one_line n r s line (drop (suc n) all) read) ∙ sym (ap (with_lines n r) (line_there all n line below is)) ∙ so_far)

-- The fault of a line that can't be read is that of the text.
pub line_fails : {X : Type 0} (view : X → Reading) (all : List (List ℕ)) (n : ℕ) (line : List ℕ) (r : Reading) (e : LineFault) (total : Result Reading (ℕ × Flaw)) → n < length all → line ≡ get_or all n line → Says {X = Reading} (Err e) (with_line r (units_of line)) → with_lines n r (drop n all) ≡ total → Reads view (Err (source_fault (n + 1) e)) total
line_fails view all n line r (line_fault.Flaw f) total below is read so_far =
    rw add-one (sym so_far ∙ ap (with_lines n r) (line_there all n line below is) ∙ flawed_line n r f line (drop (suc n) all) read)
line_fails view all n line r line_fault.Memory total below is read so_far = tt

-- After the last line, all lines are read.
pub lines_done : (all : List (List ℕ)) (n : ℕ) (r : Reading) (total : Result Reading (ℕ × Flaw)) → n ≡ length all → with_lines n r (drop n all) ≡ total → total ≡ Ok r
lines_done all n r total is so_far =
    let none : drop n all ≡ [] = drop_of_length-le all (omega arith) in
    sym so_far ∙ ap (with_lines n r) none ∙ no_line n r

-- In a text without lines, the line that is reported is 1.
pub last_of_none : (ls : List (List ℕ)) → 0 ≡ length ls → 1 ≡ last_line ls
last_of_none [] is = refl
last_of_none (l ∷ ls) is = absurd (omega (arith, is))

pub last_of_some : (ls : List (List ℕ)) (n : ℕ) → n ≡ length ls → n ≢ 0 → n ≡ last_line ls
last_of_some [] n is some = absurd (some is)
last_of_some (l ∷ ls) n is some = is
