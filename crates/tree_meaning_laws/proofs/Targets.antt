-- Proves that the places that spelled instructions and handlers refer to are those of instructions, or the one after
-- the last.
use Rattle.std.proofs.Common.{◌≡◌, ℕ, suc, ◌+◌, ◌<◌, ◌≤◌, Bool, true, false, ◌==◌, ◌||◌, List, [], ◌∷◌, ◌++◌, length, map, Some, refl, ap, ◌∙◌, inl, inr, arith}
use Rattle.std.specs.Prelude.{slice_get}
use Rattle.std.specs.List.{list_any, AllByRecursion}
use Rattle.std.proofs.lemmas.Bool.{eq-eqb}
use Rattle.std.proofs.lemmas.List.{length-append}
use Rattle.std.proofs.lemmas.Option.{slice_get_within}
use Rattle.jvms_file.specs.declared.class_file.Constant.{Constant}
use Rattle.jvms_file.specs.declared.class_file.Handler.{Handler}
use Rattle.jvms_file.specs.declared.class_file.Code.{Code}
use Rattle.jvms_file.specs.declared.insn.Insn.{Insn}
use Rattle.jvms_file.specs.declared.insn.Insn.TheVariants as insn
use Rattle.jvms_file.specs.declared.insn.SwitchCase.{SwitchCase}
use Rattle.jvms_file.specs.Spelling.{InOrder, SpellsTarget, SpellsCase, SpellsInsn, SpellsFrom, SpellsHandler}
use Rattle.classfile_laws.proofs.InsnStarts.{insn_takes}
use Rattle.listing_spec.specs.TreeOf.{targets_of, is_bound, is_referred}
use Rattle.tree_meaning_laws.proofs.Lists.{any_passes}

-- ---- Places within code

-- A place is that of an instruction, or the one after the last.
abbrev IsPlace : List ℕ → ℕ → Type 0
IsPlace pcs place = place ≤ length pcs

started : (pcs : List ℕ) (place pc : ℕ) → slice_get pcs place ≡ Some pc → IsPlace pcs place
started pcs place pc is = let inside : place < length pcs = slice_get_within pcs place pc is in omega arith

targets_within : (pcs : List ℕ) (pc : ℕ) (bytes : List ℕ) (places : List ℕ) → InOrder (SpellsTarget pcs pc) bytes places → AllByRecursion (IsPlace pcs) places
targets_within pcs pc bytes [] order = tt
targets_within pcs pc bytes (place ∷ places) (first, rest, whole, (m, leads, spelt), behind) =
    (started pcs place _ leads.1, targets_within pcs pc rest places behind)

cases_within : (pcs : List ℕ) (pc : ℕ) (bytes : List ℕ) (cases : List SwitchCase) → InOrder (SpellsCase pcs pc) bytes cases → AllByRecursion (IsPlace pcs) (map (λ c. c.target) cases)
cases_within pcs pc bytes [] order = tt
cases_within pcs pc bytes (c ∷ cases) (first, rest, whole, (m, fits, value, n, leads, spelt), behind) =
    (started pcs c.target _ leads.1, cases_within pcs pc rest cases behind)

-- The targets of an instruction are such places.
pub insn_within : (pool : List Constant) (major : ℕ) (pcs : List ℕ) (pc : ℕ) (bytes : List ℕ) (i : Insn) → SpellsInsn pool major pcs pc bytes i → AllByRecursion (IsPlace pcs) (targets_of i)
insn_within pool major pcs pc bytes (insn.Branch how place) (inl (code, is, m, lt, at, b)) = (started pcs place _ at, tt)
insn_within pool major pcs pc bytes (insn.Branch how place) (inr (code, is, m, leads, b)) = (started pcs place _ leads.1, tt)
insn_within pool major pcs pc bytes (insn.Table s) (code, is, pads, padded, default, leads, low, lows, is_low, high, highs, le, count, rest, targets, b) =
    (started pcs s.default _ leads.1, targets_within pcs pc rest s.targets targets)
insn_within pool major pcs pc bytes (insn.Lookup s) (code, is, pads, padded, default, leads, few, rises, rest, cases, b) =
    (started pcs s.default _ leads.1, cases_within pcs pc rest s.cases cases)
insn_within pool major pcs pc bytes (insn.Simple s) spelt = tt
insn_within pool major pcs pc bytes (insn.Constant n) spelt = tt
insn_within pool major pcs pc bytes (insn.Field how n) spelt = tt
insn_within pool major pcs pc bytes (insn.Invoke how n) spelt = tt
insn_within pool major pcs pc bytes (insn.Class how n) spelt = tt
insn_within pool major pcs pc bytes (insn.MultiNewArray n count) spelt = tt

-- The targets of an instruction are places within code.
abbrev pub AreWithin : List ℕ → Insn → Type 0
AreWithin pcs i = AllByRecursion (IsPlace pcs) (targets_of i)

pub insns_within : (pool : List Constant) (major : ℕ) (pcs : List ℕ) (pc : ℕ) (bytes : List ℕ) (is : List Insn) (begun : List ℕ) → SpellsFrom pool major pcs pc bytes is begun → AllByRecursion (AreWithin pcs) is
insns_within pool major pcs pc bytes [] begun spelt = tt
insns_within pool major pcs pc bytes (i ∷ is) begun (first, rest, later, whole, starts, here, behind) =
    (insn_within pool major pcs pc first i here, insns_within pool major pcs (pc + length first) rest is later behind)

-- The places that a handler refers to are within code.
abbrev pub IsWithin : List ℕ → Handler → Type 0
IsWithin pcs h = IsPlace pcs h.start × IsPlace pcs h.end × IsPlace pcs h.target

pub handler_within : (pool : List Constant) (pcs : List ℕ) (code_length : ℕ) (bytes : List ℕ) (h : Handler) → SpellsHandler pool pcs code_length bytes h → IsWithin pcs h
handler_within pool pcs code_length bytes h s =
    let inside : h.end < length (pcs ++ code_length ∷ []) = slice_get_within (pcs ++ code_length ∷ []) h.end s.1 s.9 in
    let one_more : length (pcs ++ code_length ∷ []) ≡ length pcs + 1 = length-append pcs (code_length ∷ []) in
    (started pcs h.start s.0 s.8, omega arith, started pcs h.target s.2 s.10)

-- ---- Counts

-- There are as many starts as instructions, and at most as many as bytes.
pub as_many_starts : (pool : List Constant) (major : ℕ) (pcs : List ℕ) (pc : ℕ) (bytes : List ℕ) (is : List Insn) (begun : List ℕ) → SpellsFrom pool major pcs pc bytes is begun
    → (length begun ≡ length is) × (length begun ≤ length bytes)
as_many_starts pool major pcs pc bytes [] begun (none, nothing) = rw (none, nothing) (refl, omega arith)
as_many_starts pool major pcs pc bytes (i ∷ is) begun (first, rest, later, whole, starts, here, behind) =
    let takes : 0 < length first = insn_takes pool major pcs pc first i here in
    let others = as_many_starts pool major pcs (pc + length first) rest is later behind in
    let few : length later ≤ length rest = others.1 in
    let size : length bytes ≡ length first + length rest = ap length whole ∙ length-append first rest in
    let count : length begun ≡ suc (length later) = ap length starts in
    (count ∙ ap suc others.0, omega arith)

-- ---- Places that are referred to

-- Decides whether an instruction has a place as a target.
abbrev leads_to : ℕ → Insn → Bool
leads_to place i = list_any (λ t. t == place) (targets_of i)

either_first : (a b : Bool) → a ≡ true → (a || b) ≡ true
either_first true b is = refl
either_first false b is = absurd cc

either_second : (a b : Bool) → b ≡ true → (a || b) ≡ true
either_second true b is = refl
either_second false b is = is

by_insn : (c : Code) (place : ℕ) → list_any (leads_to place) c.insns ≡ true → is_referred c place ≡ true
by_insn c place is = either_first (list_any (leads_to place) c.insns) (list_any (is_bound place) c.handlers) is

by_handler : (c : Code) (place : ℕ) → list_any (is_bound place) c.handlers ≡ true → is_referred c place ≡ true
by_handler c place is = either_second (list_any (leads_to place) c.insns) (list_any (is_bound place) c.handlers) is

-- Something refers to each target of an instruction.
each_referred : (c : Code) (all places : List ℕ) → ((place : ℕ) → list_any (λ t. t == place) all ≡ true → is_referred c place ≡ true)
    → ((place : ℕ) → list_any (λ t. t == place) places ≡ true → list_any (λ t. t == place) all ≡ true) → AllByRecursion (λ place. is_referred c place ≡ true) places
each_referred c all [] tells within = tt
each_referred c all (place ∷ places) tells within = (
  tells place (within place (either_first (place == place) (list_any (λ t. t == place) places) (eq-eqb place place refl))),
  each_referred c all places tells (λ other is. within other (either_second (place == other) (list_any (λ t. t == other) places) is)),
)

abbrev pub AreReferred : Code → Insn → Type 0
AreReferred c i = AllByRecursion (λ place. is_referred c place ≡ true) (targets_of i)

referred_of : (c : Code) (is : List Insn) → AllByRecursion (λ i. (place : ℕ) → leads_to place i ≡ true → list_any (leads_to place) c.insns ≡ true) is → AllByRecursion (AreReferred c) is
referred_of c [] tells = tt
referred_of c (i ∷ is) tells =
    (each_referred c (targets_of i) (targets_of i) (λ place leads. by_insn c place (tells.0 place leads)) (λ place leads. leads), referred_of c is tells.1)

pub insns_referred : (c : Code) → AllByRecursion (AreReferred c) c.insns
insns_referred c = referred_of c c.insns (any_passes leads_to c.insns c.insns (λ place is. is))

-- Something refers to a handler's bounds and to its target.
abbrev pub IsReferred : Code → Handler → Type 0
IsReferred c h = (is_referred c h.start ≡ true) × (is_referred c h.end ≡ true) × (is_referred c h.target ≡ true)

handler_referred : (c : Code) (h : Handler) → ((place : ℕ) → is_bound place h ≡ true → list_any (is_bound place) c.handlers ≡ true) → IsReferred c h
handler_referred c h tells = (
  by_handler c h.start (tells h.start (either_first (h.start == h.start) (h.end == h.start || h.target == h.start) (eq-eqb h.start h.start refl))),
  by_handler c h.end (tells h.end (either_second (h.start == h.end) (h.end == h.end || h.target == h.end) (either_first (h.end == h.end) (h.target == h.end) (eq-eqb h.end h.end refl)))),
  by_handler c h.target (tells h.target (either_second (h.start == h.target) (h.end == h.target || h.target == h.target) (either_second (h.end == h.target) (h.target == h.target) (eq-eqb h.target h.target refl)))),
)

referred_by : (c : Code) (hs : List Handler) → AllByRecursion (λ h. (place : ℕ) → is_bound place h ≡ true → list_any (is_bound place) c.handlers ≡ true) hs → AllByRecursion (IsReferred c) hs
referred_by c [] tells = tt
referred_by c (h ∷ hs) tells = (handler_referred c h tells.0, referred_by c hs tells.1)

pub handlers_referred : (c : Code) → AllByRecursion (IsReferred c) c.handlers
handlers_referred c = referred_by c c.handlers (any_passes is_bound c.handlers c.handlers (λ place is. is))
