-- A text to which something was appended may be truncated to what it was.
use Rattle.std.proofs.Common.{◌≡◌, ℕ, ◌<◌, Bool, true, false, cond, List, [], ◌∷◌, ◌++◌, length, length-append, take, refl, sym, ap, subst, ◌∙◌, append_assoc, arith}
use Rattle.std.specs.Prelude.{slice_index, Result, Ok, Err, OnErr}
use Rattle.std.specs.String.Boundary.{IsSplitPoint}
use Rattle.std.proofs.Math.Seq.{take-append_seam}
use Rattle.std.proofs.lemmas.List.{append-nil}
use Rattle.std.proofs.lemmas.Bool.Decides.{nat_tests}
use Rattle.escapes.specs.Behind.{BeginsInAscii, IsAppended}
use Rattle.escapes.specs.Escapes.{is_plain, four_digits, unit_text, name_text}

-- ---- Beginnings in ASCII

pub ascii_append : (xs ys : List ℕ) → BeginsInAscii xs → BeginsInAscii ys → BeginsInAscii (xs ++ ys)
ascii_append [] ys left right = right
ascii_append (x ∷ xs) ys left right = left

escaped_by_cases : (u : ℕ) (plain : Bool) → is_plain u ≡ plain → BeginsInAscii (cond plain (u ∷ []) (92 ∷ 117 ∷ four_digits u))
escaped_by_cases u true is = grind (arith, nat_tests)
escaped_by_cases u false is = omega arith

pub spelled_ascii : (us : List ℕ) → BeginsInAscii (name_text us)
spelled_ascii [] = tt
spelled_ascii (u ∷ us) = ascii_append (unit_text u) (name_text us) (escaped_by_cases u (is_plain u) refl) (spelled_ascii us)

-- ---- One text after another

pub nothing_behind : (before now : List ℕ) → now ≡ before → IsAppended before now
nothing_behind before now same = record { put = []; ascii = tt; split = same ∙ sym (append-nil before) }

pub more_behind : (before now later more : List ℕ) → IsAppended before now → BeginsInAscii more → later ≡ now ++ more → IsAppended before later
more_behind before now later more is ascii e = record {
  put = is.put ++ more;
  ascii = ascii_append is.put more is.ascii ascii;
  split = e ∙ ap (λ (xs : List ℕ). xs ++ more) is.split ∙ append_assoc before is.put more;
}

pub still_behind : (before now later : List ℕ) → IsAppended before now → later ≡ now → IsAppended before later
still_behind before now later is same = record { put = is.put; ascii = is.ascii; split = same ∙ is.split }

-- A name, followed by a dot.
pub name_appended : (before now later name : List ℕ) → IsAppended before now → later ≡ now ++ name_text name → IsAppended before later
name_appended before now later name is e = more_behind before now later (name_text name) is (spelled_ascii name) e

pub dot_behind : (before now later : List ℕ) → IsAppended before now → later ≡ now ++ 46 ∷ [] → IsAppended before later
dot_behind before now later is e = more_behind before now later (46 ∷ []) is (omega arith) e

-- ---- Truncated again

first_behind : (before put : List ℕ) → BeginsInAscii put → length before < length (before ++ put) → slice_index (before ++ put) (length before) < 128
first_behind [] [] ascii within = absurd (omega arith)
first_behind [] (x ∷ xs) ascii within = ascii
first_behind (b ∷ before) put ascii within = first_behind before put ascii (omega arith)

split_behind : (before put : List ℕ) → BeginsInAscii put → IsSplitPoint (before ++ put) (length before)
split_behind before put ascii = (let whole = length-append before put in omega arith, λ some within high. absurd (let low = first_behind before put ascii within in omega arith))

pub may_be_shortened : (before now : List ℕ) (n : ℕ) → n ≡ length before → IsAppended before now → IsSplitPoint now n
may_be_shortened before now n size is =
    let P : List ℕ → ℕ → Type 0 = λ xs k. IsSplitPoint xs k in
    subst (P now) (sym size) (subst (λ (xs : List ℕ). P xs (length before)) (sym is.split) (split_behind before is.put is.ascii))

on_err : {T E : Type 0} (r : Result T E) (P : Type 0) → P → OnErr r P
on_err (Ok x) P p = tt
on_err (Err e) P p = p

-- A failed append keeps the form of the text.
pub refused : {T E : Type 0} (r : Result T E) (before now later : List ℕ) → IsAppended before now → later ≡ now → OnErr r (IsAppended before later)
refused r before now later is same = on_err r (IsAppended before later) (still_behind before now later is same)
