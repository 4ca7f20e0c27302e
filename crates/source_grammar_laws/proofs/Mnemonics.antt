-- Proves that the mnemonic of an opcode is read as this opcode, and no other word is.
use Rattle.std.proofs.Common.{◌≡◌, ◌⊎◌, inl, inr, ℕ, zero, suc, ◌<◌, ◌≤◌, ◌&&◌, ◌||◌, Bool, true, false, not, eqb, List, [], ◌∷◌, length, map, get_or, Option, Some, None, refl, sym, ap, subst, ◌∙◌, arith, codes}
use Rattle.std.specs.Prelude.{slice_get, position}
use Rattle.std.specs.Option.{unwrap_or}
use Rattle.std.proofs.lemmas.Bool.{agree_below, agree_below_at, and_parts, eqb-true, not-true, true≢false}
use Rattle.std.proofs.lemmas.Option.{slice_get_within, slice_get_cases, none-some, same_Some}
use Rattle.std.proofs.lemmas.List.Quantifiers.{position-Some}
use Rattle.jvms_file.specs.Names.{same_text, begins_with}
use Rattle.jvms_file.specs.declared.insn.TheConstants.{OPCODES}
use Rattle.jvms_file.specs.declared.insn.Opcode.{Opcode}
use Rattle.jvms_file.specs.declared.insn.Opcode.TheVariants as opcode
use Rattle.jvms_file.specs.Spelling.{IsOpcode}
use Rattle.jasmin.specs.declared.mnemonic.TheConstants.{MNEMONICS}
use Rattle.jasmin.specs.LineKinds.{opcode_named}
use Rattle.source_form_laws.proofs.Judged.{choose}
use Rattle.source_grammar_laws.specs.Instructions.{IsMnemonic}
use Rattle.source_grammar_laws.proofs.Places.{text_is}

-- ---- From the word

map_at : {X : Type 0} (now : X → List ℕ) (xs : List X) (k : ℕ) (x : X) → slice_get xs k ≡ Some x → slice_get (map now xs) k ≡ Some (now x)
map_at now [] k x e = absurd (none-some x e)
map_at {X} now (y ∷ ys) zero x e = ap (λ (z : X). Some (now z)) (same_Some y x e)
map_at now (y ∷ ys) (suc k) x e = map_at now ys k x e

found : {X : Type 0} (now : X → List ℕ) (names : List X) (w : List ℕ) (code : ℕ) → code < length names → position (λ name. same_text (now name) w) names ≡ Some code → slice_get (map now names) code ≡ Some w
found {X} now names w code small e = by (slice_get_cases names code).1
  where
    by : ((x : X) × (code < length names) × (slice_get names code ≡ Some x) × (get_or names code x ≡ x)) ⊎ ((length names ≤ code) × (slice_get names code ≡ None)) → slice_get (map now names) code ≡ Some w
    by (inl (x, inside, at, same)) =
        let is = (position-Some (λ name. same_text (now name) w) names code x e).1 in
        let text = text_is (now x) w (subst (λ (y : X). same_text (now y) w ≡ true) same is) in
        map_at now names code x at ∙ ap (λ (v : List ℕ). Some v) text
    by (inr (outside, none)) = absurd (omega arith)

pub mnemonic_said : (w : List ℕ) (code : ℕ) (form : Opcode) → opcode_named w ≡ Some code → IsOpcode code form → IsMnemonic w code
mnemonic_said w code form e is =
    let small : code < 202 = slice_get_within OPCODES code form is in
    choose (same_text (codes "invokenonvirtual") w) (Some 183) _ (Some code) e
    (λ met same. inr (sym (text_is (codes "invokenonvirtual") w met), sym (same_Some 183 code same)))
    (λ no at. inl (found (λ name. name.now) MNEMONICS w code small at))

-- ---- From the opcode

abbrev mnemonic : ℕ → List ℕ
mnemonic code = unwrap_or (slice_get (map (λ name. name.now) MNEMONICS) code) []

abbrev is_this : ℕ → Option ℕ → Bool
is_this code None = false
is_this code (Some n) = eqb n code

this : (code : ℕ) (o : Option ℕ) → is_this code o ≡ true → o ≡ Some code
this code None e = absurd cc
this code (Some n) e = ap (λ (m : ℕ). Some m) (eqb-true n code e)

-- Decides whether an opcode has no mnemonic: `wide`, and the opcode 186 that these versions lack.
abbrev is_unnamed : ℕ → Bool
is_unnamed code = eqb code 186 || eqb code 196

abbrev name_test : ℕ → Bool
name_test code = is_unnamed code || (is_this code (opcode_named (mnemonic code)) && not (begins_with 46 (mnemonic code)))

abbrev always : ℕ → Bool
always n = true

name_tests : agree_below name_test always 202 ≡ true
name_tests = refl

no_reserved : (a b : Bool) → (a || b) ≡ true → a ≡ false → b ≡ true
no_reserved true b e is = absurd cc
no_reserved false b e is = e

-- A word is read as this opcode, and doesn't begin with a dot.
pub record IsNamed (w : List ℕ) (code : ℕ) : Type 0 where
  pub named : opcode_named w ≡ Some code
  pub no_dot : begins_with 46 w ≡ false

named_by : (code : ℕ) → code < 202 → is_unnamed code ≡ false → IsNamed (mnemonic code) code
named_by code small other =
    let test = no_reserved (is_unnamed code) (is_this code (opcode_named (mnemonic code)) && not (begins_with 46 (mnemonic code))) (agree_below_at name_test always 202 code name_tests small) other in
    let both = and_parts (is_this code (opcode_named (mnemonic code))) (not (begins_with 46 (mnemonic code))) test in
    record { named = this code (opcode_named (mnemonic code)) both.0; no_dot = not-true (begins_with 46 (mnemonic code)) both.1 }

abbrev pub is_nameless : Opcode → Bool
is_nameless opcode.Reserved = true
is_nameless opcode.Wide = true
is_nameless _ = false

abbrev nameless_in : Option Opcode → Bool
nameless_in None = true
nameless_in (Some f) = is_nameless f

-- An opcode with a mnemonic is none of those without.
other_number : (code n : ℕ) (form : Opcode) → IsOpcode code form → is_nameless form ≡ false → nameless_in (slice_get OPCODES n) ≡ true → eqb code n ≡ false
other_number code n form is other bad = by (eqb code n) refl
  where
    by : (b : Bool) → eqb code n ≡ b → eqb code n ≡ false
    by true same = absurd (true≢false (sym bad ∙ ap (λ (m : ℕ). nameless_in (slice_get OPCODES m)) (sym (eqb-true code n same)) ∙ ap nameless_in is ∙ other))
    by false same = same

pub mnemonic_says : (w : List ℕ) (code : ℕ) (form : Opcode) → is_nameless form ≡ false → IsMnemonic w code → IsOpcode code form → IsNamed w code
mnemonic_says w code form other (inl e) is =
    let small : code < 202 = slice_get_within OPCODES code form is in
    let same : mnemonic code ≡ w = ap (λ (o : Option (List ℕ)). unwrap_or o []) e in
    subst (λ (v : List ℕ). IsNamed v code) same (named_by code small (rw (other_number code 186 form is other refl, other_number code 196 form is other refl) refl))
mnemonic_says w code form other (inr (e, f)) is =
    subst (λ (v : List ℕ). IsNamed v code) (sym e) (subst (λ (n : ℕ). IsNamed (codes "invokenonvirtual") n) (sym f) (record { named = refl; no_dot = refl }))
