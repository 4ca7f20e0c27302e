-- The lines of the bytes of code, by marks that are filled upward.
use Rattle.std.proofs.Common.{◌≡◌, ◌≢◌, ℕ, zero, suc, ◌<◌, ◌≤◌, true, false, List, [], ◌∷◌, length, map, get_or, replicate, Option, Some, None, refl, sym, ap, ◌∙◌, inl, inr, arith, get_or-set_other, get_or-set_same, ◌==◌}
use Rattle.std.proofs.Math.Bool.{and-false}
use Rattle.std.proofs.Math.ListN.{length-set}
use Rattle.std.proofs.lemmas.List.{get_or-replicate, length-replicate}
use Rattle.std.proofs.lemmas.Bool.{cases_lt, cases_order}
use Rattle.std.proofs.lemmas.Bool.Decides.{nat_tests}
use Rattle.std.specs.Prelude.{if◌then◌else◌, nat_le}
use Rattle.std.specs.List.{fold}
use Rattle.std.specs.Option.{IfSome, option_map, option_or}
use Rattle.source_lines.specs.Lines.{AreBelow, filled, lines_of_bytes, with_start}
use Rattle.source_lines.specs.SourceLines.{later_start, line_of_byte}
use Rattle.source_lines.specs.declared.table.LineStart.{LineStart}

-- ---- Marks

-- The line of the last start at a byte.
abbrev mark_at : ℕ → Option ℕ → LineStart → Option ℕ
mark_at byte last s = if s.start == byte then Some s.line else last

one_mark : (lines : List (Option ℕ)) (s : LineStart) (byte : ℕ) → byte < length lines →
    get_or (with_start lines s) byte None ≡ mark_at byte (get_or lines byte None) s
one_mark lines s byte below = grind (arith, nat_tests, get_or-set_other, get_or-set_same)

-- A mark is the line of the last start at its byte.
pub marked : (starts : List LineStart) (lines : List (Option ℕ)) (byte : ℕ) → byte < length lines →
    get_or (fold with_start lines starts) byte None ≡ fold (mark_at byte) (get_or lines byte None) starts
marked [] lines byte below = refl
marked (s ∷ starts) lines byte below =
    marked starts (with_start lines s) byte (rw length-set below)
    ∙ ap (λ m. fold (mark_at byte) m starts) (one_mark lines s byte below)

pub marks_length : (starts : List LineStart) (lines : List (Option ℕ)) → length (fold with_start lines starts) ≡ length lines
marks_length [] lines = refl
marks_length (s ∷ starts) lines = marks_length starts (with_start lines s) ∙ length-set lines s.start (Some s.line)

-- ---- Filling

filled_length : (lines : List (Option ℕ)) (last : Option ℕ) → length (filled last lines) ≡ length lines
filled_length [] last = refl
filled_length (line ∷ lines) last = ap suc (filled_length lines (option_or line last))

first_filled : (lines : List (Option ℕ)) (last : Option ℕ) → 0 < length lines →
    get_or (filled last lines) 0 None ≡ option_or (get_or lines 0 None) last
first_filled [] last below = absurd (omega (arith, below))
first_filled (line ∷ lines) last below = refl

next_filled : (lines : List (Option ℕ)) (last : Option ℕ) (byte : ℕ) → suc byte < length lines →
    get_or (filled last lines) (suc byte) None ≡ option_or (get_or lines (suc byte) None) (get_or (filled last lines) byte None)
next_filled [] last byte below = absurd (omega (arith, below))
next_filled (line ∷ lines) last zero below = first_filled lines (option_or line last) (omega (arith, below))
next_filled (line ∷ lines) last (suc byte) below = next_filled lines (option_or line last) byte (omega (arith, below))

-- ---- The latest start of a byte, by that of the byte before

-- The latest start of a byte, and of the byte before it: they are one, or the first is at the byte itself.
abbrev AreLatest : ℕ → Option ℕ → Option LineStart → Option LineStart → Type 0
AreLatest byte None None None = Unit {0}
AreLatest byte None (Some x) (Some y) = (x ≡ y) × (y.start ≤ byte)
AreLatest byte (Some m) (Some x) y = (x.start ≡ suc byte) × (x.line ≡ m)
AreLatest byte m x y = ⊥

is_after : (byte : ℕ) (x : Option LineStart) (s : LineStart) → byte < s.start → later_start byte x s ≡ x
is_after byte None s after = let e : nat_le s.start byte ≡ false = grind (arith, nat_tests) in rw e refl
is_after byte (Some x) s after = let e : nat_le s.start byte ≡ false = grind (arith, nat_tests) in rw e refl

is_first : (byte : ℕ) (s : LineStart) → s.start ≤ byte → later_start byte None s ≡ Some s
is_first byte s reached = let e : nat_le s.start byte ≡ true = grind (arith, nat_tests) in rw e refl

is_later : (byte : ℕ) (x s : LineStart) → s.start ≤ byte → x.start ≤ s.start → later_start byte (Some x) s ≡ Some s
is_later byte x s reached order =
    let e : nat_le s.start byte ≡ true = grind (arith, nat_tests) in
    let f : nat_le x.start s.start ≡ true = grind (arith, nat_tests) in
    rw (e, f) refl

is_earlier : (byte : ℕ) (x s : LineStart) → s.start < x.start → later_start byte (Some x) s ≡ Some x
is_earlier byte x s order =
    let f : nat_le x.start s.start ≡ false = grind (arith, nat_tests) in
    rw (f, and-false) refl

is_marked : (byte : ℕ) (m : Option ℕ) (s : LineStart) → s.start ≡ byte → mark_at byte m s ≡ Some s.line
is_marked byte m s same = let e : (s.start == byte) ≡ true = grind (arith, nat_tests) in rw e refl

is_unmarked : (byte : ℕ) (m : Option ℕ) (s : LineStart) → s.start ≢ byte → mark_at byte m s ≡ m
is_unmarked byte m s other = let e : (s.start == byte) ≡ false = grind (arith, nat_tests) in rw e refl

-- A start after the bytes.
next_after : (byte : ℕ) (s : LineStart) (m : Option ℕ) (x y : Option LineStart) → suc byte < s.start → AreLatest byte m x y →
    AreLatest byte (mark_at (suc byte) m s) (later_start (suc byte) x s) (later_start byte y s)
next_after byte s m x y after so_far =
    rw (is_unmarked (suc byte) m s (λ e. omega arith), is_after (suc byte) x s after, is_after byte y s (omega arith)) so_far

-- A start at the byte itself.
is_latest : (byte : ℕ) (s : LineStart) (m : Option ℕ) (x y : Option LineStart) → s.start ≡ suc byte →
    later_start (suc byte) x s ≡ Some s →
    AreLatest byte (mark_at (suc byte) m s) (later_start (suc byte) x s) (later_start byte y s)
is_latest byte s m x y same later = rw (is_marked (suc byte) m s same, later) (same, refl)

next_at : (byte : ℕ) (s : LineStart) (m : Option ℕ) (x y : Option LineStart) → s.start ≡ suc byte → AreLatest byte m x y →
    AreLatest byte (mark_at (suc byte) m s) (later_start (suc byte) x s) (later_start byte y s)
next_at byte s None None None same so_far = is_latest byte s None None None same (is_first (suc byte) s (omega arith))
next_at byte s None None (Some y) same so_far = elim so_far [ ]
next_at byte s None (Some x) None same so_far = elim so_far [ ]
next_at byte s None (Some x) (Some y) same so_far =
    let e = ap (λ (z : LineStart). z.start) so_far.0 in
    is_latest byte s None (Some x) (Some y) same (is_later (suc byte) x s (omega arith) (omega arith))
next_at byte s (Some m) None y same so_far = elim so_far [ ]
next_at byte s (Some m) (Some x) y same so_far = is_latest byte s (Some m) (Some x) y same (is_later (suc byte) x s (omega arith) (omega arith))

-- A start before the byte.
both_later : (byte : ℕ) (s x y : LineStart) → s.start ≤ byte → x ≡ y → y.start ≤ byte →
    AreLatest byte None (later_start (suc byte) (Some x) s) (later_start byte (Some y) s)
both_later byte s x y before same at =
    let e = ap (λ (z : LineStart). z.start) same in
    elim (cases_lt s.start y.start) [
      | inl earlier ↦ rw (is_earlier (suc byte) x s (omega arith), is_earlier byte y s earlier) (same, at)
      | inr later ↦ rw (is_later (suc byte) x s (omega arith) (omega arith), is_later byte y s before later) (refl, before)
    ]

next_before : (byte : ℕ) (s : LineStart) (m : Option ℕ) (x y : Option LineStart) → s.start ≤ byte → AreLatest byte m x y →
    AreLatest byte (mark_at (suc byte) m s) (later_start (suc byte) x s) (later_start byte y s)
next_before byte s None None None before so_far =
    rw (is_unmarked (suc byte) None s (λ e. omega arith), is_first (suc byte) s (omega arith), is_first byte s before) (refl, before)
next_before byte s None None (Some y) before so_far = elim so_far [ ]
next_before byte s None (Some x) None before so_far = elim so_far [ ]
next_before byte s None (Some x) (Some y) before so_far =
    rw (is_unmarked (suc byte) None s (λ e. omega arith)) (both_later byte s x y before so_far.0 so_far.1)
next_before byte s (Some m) None y before so_far = elim so_far [ ]
next_before byte s (Some m) (Some x) y before so_far =
    rw (is_unmarked (suc byte) (Some m) s (λ e. omega arith), is_earlier (suc byte) x s (omega arith)) so_far

next_latest : (byte : ℕ) (s : LineStart) (m : Option ℕ) (x y : Option LineStart) → AreLatest byte m x y →
    AreLatest byte (mark_at (suc byte) m s) (later_start (suc byte) x s) (later_start byte y s)
next_latest byte s m x y so_far = elim (cases_order s.start (suc byte)) [
  | inl same ↦ next_at byte s m x y same so_far
  | inr other ↦ elim other [
    | inl before ↦ next_before byte s m x y (omega arith) so_far
    | inr after ↦ next_after byte s m x y after so_far
  ]
]

-- The latest start of a byte is at the byte itself, or it is that of the byte before.
all_latest : (byte : ℕ) (starts : List LineStart) (m : Option ℕ) (x y : Option LineStart) → AreLatest byte m x y →
    AreLatest byte (fold (mark_at (suc byte)) m starts) (fold (later_start (suc byte)) x starts) (fold (later_start byte) y starts)
all_latest byte [] m x y so_far = so_far
all_latest byte (s ∷ starts) m x y so_far =
    all_latest byte starts (mark_at (suc byte) m s) (later_start (suc byte) x s) (later_start byte y s) (next_latest byte s m x y so_far)

line_of_latest : (byte : ℕ) (m : Option ℕ) (x y : Option LineStart) → AreLatest byte m x y →
    option_map (λ s. s.line) x ≡ option_or m (option_map (λ s. s.line) y)
line_of_latest byte None None None so_far = refl
line_of_latest byte None None (Some y) so_far = elim so_far [ ]
line_of_latest byte None (Some x) None so_far = elim so_far [ ]
line_of_latest byte None (Some x) (Some y) so_far = ap (λ s. Some s.line) so_far.0
line_of_latest byte (Some m) None y so_far = elim so_far [ ]
line_of_latest byte (Some m) (Some x) y so_far = ap Some so_far.1

next_line : (byte : ℕ) (starts : List LineStart) →
    line_of_byte (suc byte) starts ≡ option_or (fold (mark_at (suc byte)) None starts) (line_of_byte byte starts)
next_line byte starts = line_of_latest byte _ _ _ (all_latest byte starts None None None tt)

or_none : (m : Option ℕ) → option_or m None ≡ m
or_none None = refl
or_none (Some line) = refl

-- ---- Byte 0

first_later : (s : LineStart) (x : Option LineStart) (m : Option ℕ) → option_map (λ s. s.line) x ≡ m → IfSome x (λ x. x.start ≡ 0) →
    (option_map (λ s. s.line) (later_start 0 x s) ≡ mark_at 0 m s) × IfSome (later_start 0 x s) (λ x. x.start ≡ 0)
first_later s None m same at = elim (cases_lt 0 s.start) [
  | inl after ↦ rw (is_after 0 None s after, is_unmarked 0 m s (λ e. omega arith)) (same, at)
  | inr here ↦ rw (is_first 0 s here, is_marked 0 m s (omega arith)) (refl, omega arith)
]
first_later s (Some x) m same at = elim (cases_lt 0 s.start) [
  | inl after ↦ rw (is_after 0 (Some x) s after, is_unmarked 0 m s (λ e. omega arith)) (same, at)
  | inr here ↦ rw (is_later 0 x s here (omega (arith, at)), is_marked 0 m s (omega arith)) (refl, omega arith)
]

first_lines : (starts : List LineStart) (x : Option LineStart) (m : Option ℕ) → option_map (λ s. s.line) x ≡ m → IfSome x (λ x. x.start ≡ 0) →
    option_map (λ s. s.line) (fold (later_start 0) x starts) ≡ fold (mark_at 0) m starts
first_lines [] x m same at = same
first_lines (s ∷ starts) x m same at =
    let next = first_later s x m same at in
    first_lines starts (later_start 0 x s) (mark_at 0 m s) next.0 next.1

-- ---- All bytes

mark_of_none : (count byte : ℕ) (starts : List LineStart) → byte < count →
    get_or (fold with_start (replicate count None) starts) byte None ≡ fold (mark_at byte) None starts
mark_of_none count byte starts below =
    marked starts (replicate count None) byte (rw length-replicate below)
    ∙ ap (λ m. fold (mark_at byte) m starts) (get_or-replicate count byte None None below)

line_filled : (count byte : ℕ) (starts : List LineStart) → byte < count →
    get_or (filled None (fold with_start (replicate count None) starts)) byte None ≡ line_of_byte byte starts
line_filled count zero starts below =
    let marks = fold with_start (replicate count None) starts in
    first_filled marks None (rw (marks_length, length-replicate) below)
    ∙ or_none (get_or marks 0 None)
    ∙ mark_of_none count 0 starts below
    ∙ sym (first_lines starts None None refl tt)
line_filled count (suc byte) starts below =
    let marks = fold with_start (replicate count None) starts in
    next_filled marks None byte (rw (marks_length, length-replicate) below)
    ∙ ap (λ m. option_or m (get_or (filled None marks) byte None)) (mark_of_none count (suc byte) starts below)
    ∙ ap (option_or (fold (mark_at (suc byte)) None starts)) (line_filled count byte starts (omega (arith, below)))
    ∙ sym (next_line byte starts)

pub bytes_length : (count : ℕ) (starts : List LineStart) → length (lines_of_bytes count starts) ≡ count
bytes_length count starts =
    filled_length (fold with_start (replicate count None) starts) None ∙ marks_length starts (replicate count None) ∙ length-replicate count None

-- ---- The lines of instructions

pub each_line : (count : ℕ) (starts : List LineStart) (bytes : List ℕ) → AreBelow count bytes →
    map (λ byte. get_or (lines_of_bytes count starts) byte None) bytes ≡ map (λ byte. line_of_byte byte starts) bytes
each_line count starts [] below = refl
each_line count starts (byte ∷ bytes) below =
    ap (λ l. l ∷ map (λ byte. get_or (lines_of_bytes count starts) byte None) bytes) (line_filled count byte starts (below 0 (omega arith)))
    ∙ ap (λ ls. line_of_byte byte starts ∷ ls) (each_line count starts bytes (λ k h. below (suc k) (omega (arith, h))))
