-- Proves that a mark is set exactly if something refers to its place.
use Rattle.std.proofs.Common.{◌≡◌, ℕ, suc, ◌<◌, ◌≤◌, Bool, true, false, cond, ◌||◌, ◌==◌, nat_lt, List, [], ◌∷◌, length, get_or, replicate, refl, sym, ap, ◌∙◌, arith, ⊎_elim}
use Rattle.std.specs.Prelude.{slice_get, slice_set}
use Rattle.std.specs.Option.{unwrap_or}
use Rattle.std.specs.List.{list_any}
use Rattle.std.proofs.lemmas.Bool.{cases_eq}
use Rattle.std.proofs.lemmas.Bool.Decides.{nat_tests}
use Rattle.std.proofs.lemmas.List.{get_or-set_same, get_or-set_other, get_or-replicate, length-set, length-replicate}
use Rattle.std.proofs.lemmas.Option.{unwrap_or-slice_get}
use Rattle.jvms_file.specs.declared.class_file.Handler.{Handler}
use Rattle.jvms_file.specs.declared.class_file.Code.{Code}
use Rattle.jvms_file.specs.declared.insn.Insn.{Insn}
use Rattle.listing_spec.specs.TreeOf.{targets_of, is_bound, is_referred}
use Rattle.class_tree.specs.Marks.{with_mark, with_marks, with_insn_marks, with_bound_marks, with_handler_marks, marks_of}

or-true : (b : Bool) → (b || true) ≡ true
or-true true = refl
or-true false = refl

or-false : (b : Bool) → (b || false) ≡ b
or-false true = refl
or-false false = refl

or_assoc : (a b c : Bool) → ((a || b) || c) ≡ (a || (b || c))
or_assoc true b c = refl
or_assoc false b c = refl

-- ---- One place

set_length : (test : Bool) (place : ℕ) (marks : List Bool) → length (cond test (slice_set marks place true) marks) ≡ length marks
set_length true place marks = length-set marks place true
set_length false place marks = refl

marked_length : (place : ℕ) (marks : List Bool) → length (with_mark place marks) ≡ length marks
marked_length place marks = set_length (nat_lt place (length marks)) place marks

marked_same : (p : ℕ) (marks : List Bool) → p < length marks → get_or (with_mark p marks) p false ≡ true
marked_same p marks within =
    let test : nat_lt p (length marks) ≡ true = grind (arith, nat_tests) in rw test (get_or-set_same marks p true false within)

set_other : (test : Bool) (place p : ℕ) (marks : List Bool) → (p ≡ place → ⊥) → get_or (cond test (slice_set marks place true) marks) p false ≡ get_or marks p false
set_other true place p marks other = get_or-set_other marks place p true false other
set_other false place p marks other = refl

-- A mark is set if it was or its place is marked.
marked_at : (place p : ℕ) (marks : List Bool) → p < length marks → get_or (with_mark place marks) p false ≡ (get_or marks p false || (place == p))
marked_at place p marks within =
    ⊎_elim
    (λ (same : place ≡ p).
    let test : (place == p) ≡ true = grind (arith, nat_tests) in
    rw test (rw same (marked_same p marks within ∙ sym (or-true (get_or marks p false)))))
    (λ (other : place ≡ p → ⊥).
    let test : (place == p) ≡ false = grind (arith, nat_tests) in
    rw test (set_other (nat_lt place (length marks)) place p marks (λ e. other (sym e)) ∙ sym (or-false (get_or marks p false))))
    (cases_eq place p)

-- ---- Places

all_length : (places : List ℕ) (marks : List Bool) → length (with_marks places marks) ≡ length marks
all_length [] marks = refl
all_length (place ∷ places) marks = all_length places (with_mark place marks) ∙ marked_length place marks

all_at : (places : List ℕ) (p : ℕ) (marks : List Bool) → p < length marks → get_or (with_marks places marks) p false ≡ (get_or marks p false || list_any (λ t. t == p) places)
all_at [] p marks within = sym (or-false (get_or marks p false))
all_at (place ∷ places) p marks within =
    let there : p < length (with_mark place marks) = rw (marked_length place marks) within in
    all_at places p (with_mark place marks) there
    ∙ ap (λ b. b || list_any (λ t. t == p) places) (marked_at place p marks within)
    ∙ or_assoc (get_or marks p false) (place == p) (list_any (λ t. t == p) places)

-- ---- Instructions

abbrev leads_to : ℕ → Insn → Bool
leads_to p i = list_any (λ t. t == p) (targets_of i)

insns_length : (is : List Insn) (marks : List Bool) → length (with_insn_marks is marks) ≡ length marks
insns_length [] marks = refl
insns_length (i ∷ is) marks = insns_length is (with_marks (targets_of i) marks) ∙ all_length (targets_of i) marks

insns_at : (is : List Insn) (p : ℕ) (marks : List Bool) → p < length marks → get_or (with_insn_marks is marks) p false ≡ (get_or marks p false || list_any (leads_to p) is)
insns_at [] p marks within = sym (or-false (get_or marks p false))
insns_at (i ∷ is) p marks within =
    let there : p < length (with_marks (targets_of i) marks) = rw (all_length (targets_of i) marks) within in
    insns_at is p (with_marks (targets_of i) marks) there
    ∙ ap (λ b. b || list_any (leads_to p) is) (all_at (targets_of i) p marks within)
    ∙ or_assoc (get_or marks p false) (leads_to p i) (list_any (leads_to p) is)

-- ---- Handlers

-- The bounds of a handler are three places.
bounds_length : (h : Handler) (marks : List Bool) → length (with_bound_marks h marks) ≡ length marks
bounds_length h marks = all_length (h.start ∷ h.end ∷ h.target ∷ []) marks

bounds_at : (h : Handler) (p : ℕ) (marks : List Bool) → p < length marks → get_or (with_bound_marks h marks) p false ≡ (get_or marks p false || is_bound p h)
bounds_at h p marks within =
    all_at (h.start ∷ h.end ∷ h.target ∷ []) p marks within
    ∙ ap (λ b. get_or marks p false || (h.start == p || (h.end == p || b))) (or-false (h.target == p))

handlers_at : (hs : List Handler) (p : ℕ) (marks : List Bool) → p < length marks → get_or (with_handler_marks hs marks) p false ≡ (get_or marks p false || list_any (is_bound p) hs)
handlers_at [] p marks within = sym (or-false (get_or marks p false))
handlers_at (h ∷ hs) p marks within =
    let there : p < length (with_bound_marks h marks) = rw (bounds_length h marks) within in
    handlers_at hs p (with_bound_marks h marks) there
    ∙ ap (λ b. b || list_any (is_bound p) hs) (bounds_at h p marks within)
    ∙ or_assoc (get_or marks p false) (is_bound p h) (list_any (is_bound p) hs)

-- ---- Code

-- The mark of a place within code, or after its last instruction, is set exactly if something refers to the place.
pub mark_at : (c : Code) (place : ℕ) → place ≤ length c.insns → unwrap_or (slice_get (marks_of c) place) false ≡ is_referred c place
unfolding marks_of
mark_at c place within =
    let none = replicate (suc (length c.insns)) false in
    let first : place < suc (length c.insns) = omega arith in
    let sized : length none ≡ suc (length c.insns) = length-replicate (suc (length c.insns)) false in
    let there : place < length none = rw sized first in
    let led = with_insn_marks c.insns none in
    let behind : place < length led = rw (insns_length c.insns none) there in
    unwrap_or-slice_get (with_handler_marks c.handlers led) place false
    ∙ handlers_at c.handlers place led behind
    ∙ ap (λ b. b || list_any (is_bound place) c.handlers) (insns_at c.insns place none there)
    ∙ ap (λ b. (b || list_any (leads_to place) c.insns) || list_any (is_bound place) c.handlers) (get_or-replicate (suc (length c.insns)) place false false first)
