-- Lines that are read one after another.
use Rattle.std.proofs.Common.{◌≡◌, ◌≢◌, ℕ, suc, ◌+◌, ◌<◌, ◌≤◌, ◌==◌, Bool, true, false, cond, List, [], ◌∷◌, ◌++◌, length, refl, sym, ap, subst, ◌∙◌, append_assoc, length-append, arith}
use Rattle.std.specs.List.{slice_split, onto_first}
use Rattle.std.proofs.lemmas.Bool.{or_parts}
use Rattle.escapes.specs.Cuts.{has}
use Rattle.velodrome.specs.declared.specification.SpecificationLine.{SpecificationLine}
use Rattle.atom_spec.specs.Specs.{lines_of, AreLines, IsFaulty}
use Rattle.atom_spec.specs.Parts.{IsNoLine, Adds, IsReadUpTo}

abbrev Lines : Type 0
Lines = List (List ℕ)

-- ---- One line

none_step : (x : ℕ) (xs : List ℕ) → (x == 10) ≡ false → lines_of xs ≡ xs ∷ [] → lines_of (x ∷ xs) ≡ (x ∷ xs) ∷ []
none_step x xs isnt further = rw (isnt, further) refl

pub one_line_alone : (xs : List ℕ) → has 10 xs ≡ false → lines_of xs ≡ xs ∷ []
one_line_alone [] none = refl
one_line_alone (x ∷ xs) none =
    let both = or_parts (x == 10) (has 10 xs) none in
    none_step x xs both.0 (one_line_alone xs both.1)

first_step : (x : ℕ) (xs ys : List ℕ) → (x == 10) ≡ false → lines_of (xs ++ 10 ∷ ys) ≡ xs ∷ lines_of ys → lines_of ((x ∷ xs) ++ 10 ∷ ys) ≡ (x ∷ xs) ∷ lines_of ys
first_step x xs ys isnt further = rw (isnt, further) refl

pub first_line : (xs ys : List ℕ) → has 10 xs ≡ false → lines_of (xs ++ 10 ∷ ys) ≡ xs ∷ lines_of ys
first_line [] ys none = refl
first_line (x ∷ xs) ys none =
    let both = or_parts (x == 10) (has 10 xs) none in
    first_step x xs ys both.0 (first_line xs ys both.1)

-- ---- The next line

added : (line : List ℕ) (b : Bool) (old new : List SpecificationLine) (before : Lines) → b ≡ true → Adds line b old new → AreLines before old → AreLines (before ++ line ∷ []) new
added line true old new before is adds are = adds before are
added line false old new before is adds are = absurd cc

pub one_further : (text rest line behind : List ℕ) (number : ℕ) (b : Bool) (old new : List SpecificationLine) → IsReadUpTo text rest number old → rest ≡ line ++ 10 ∷ behind → has 10 line ≡ false
    → length behind < length rest → b ≡ true → Adds line b old new → IsReadUpTo text behind (number + 1) new
one_further text rest line behind number b old new read split clear shorter is adds =
    let lines : lines_of rest ≡ line ∷ lines_of behind = ap lines_of split ∙ first_line line behind clear in
    let size = length-append read.before (line ∷ []) in
    let before = read.count in
    let within = read.within in
    record {
      before = read.before ++ line ∷ [];
      split = read.split ∙ ap (λ (x : Lines). read.before ++ x) lines ∙ sym (append_assoc read.before (line ∷ []) (lines_of behind));
      count = omega arith;
      are = added line b old new read.before is adds read.are;
      within = omega arith;
    }

no_line : (line : List ℕ) (b : Bool) (old new : List SpecificationLine) → b ≡ false → Adds line b old new → IsNoLine line
no_line line true old new isnt adds = absurd cc
no_line line false old new isnt adds = adds

faulty : (text rest line : List ℕ) (others : Lines) (number : ℕ) (b : Bool) (old new : List SpecificationLine) → IsReadUpTo text rest number old → lines_of rest ≡ line ∷ others → b ≡ false → Adds line b old new → IsFaulty text number
faulty text rest line others number b old new read lines isnt adds =
    let no = no_line line b old new isnt adds in
    record {
      before = read.before;
      here = line;
      after = others;
      specification = old;
      split = read.split ∙ ap (λ (x : Lines). read.before ++ x) lines;
      count = read.count;
      first = read.are;
      kept = no.kept;
      none = no.none;
    }

pub faulty_line : (text rest line behind : List ℕ) (number : ℕ) (b : Bool) (old new : List SpecificationLine) → IsReadUpTo text rest number old → rest ≡ line ++ 10 ∷ behind → has 10 line ≡ false → b ≡ false → Adds line b old new → IsFaulty text number
faulty_line text rest line behind number b old new read split clear isnt adds =
    faulty text rest line (lines_of behind) number b old new read (ap lines_of split ∙ first_line line behind clear) isnt adds

pub faulty_last : (text rest : List ℕ) (number : ℕ) (b : Bool) (old new : List SpecificationLine) → IsReadUpTo text rest number old → has 10 rest ≡ false → b ≡ false → Adds rest b old new → IsFaulty text number
faulty_last text rest number b old new read none isnt adds =
    faulty text rest rest [] number b old new read (one_line_alone rest none) isnt adds

pub whole_text : (text rest : List ℕ) (number : ℕ) (b : Bool) (old new : List SpecificationLine) → IsReadUpTo text rest number old → has 10 rest ≡ false → b ≡ true → Adds rest b old new → AreLines (lines_of text) new
whole_text text rest number b old new read none is adds =
    let P : Lines → Type 0 = λ ls. AreLines ls new in
    subst P (sym (read.split ∙ ap (λ (x : Lines). read.before ++ x) (one_line_alone rest none))) (added rest b old new read.before is adds read.are)
