-- Pads of switches may be set to 0: the bytes spell the same instructions, and a second time changes nothing.
use Rattle.std.proofs.Common.{◌≡◌, ℕ, suc, ◌+◌, true, false, cond, List, [], ◌∷◌, ◌++◌, length, replicate, refl, sym, ap, subst, ◌∙◌, append_assoc, arith}
use Rattle.std.proofs.lemmas.List.{length-append, length-replicate}
use Rattle.std.proofs.Math.Seq.{set-append_seam}
use Rattle.jvms_file.specs.declared.class_file.Constant.{Constant}
use Rattle.jvms_file.specs.declared.insn.Insn.{Insn}
use Rattle.jvms_file.specs.declared.insn.Insn.TheVariants as insn
use Rattle.jvms_file.specs.Instructions.{pad_length}
use Rattle.jvms_file.specs.Code.{is_switch, with_zeros, with_zero_pads}
use Rattle.jvms_file.specs.Spelling.{u4, SpellsInsn, SpellsFrom, SpellsInsns}

-- ---- Bytes that are set to 0

abbrev zeros : ℕ → List ℕ
zeros n = replicate n 0

zeros_length : (n : ℕ) → length (zeros n) ≡ n
zeros_length n = length-replicate {A = ℕ} n 0

-- The bytes after a front are set to 0.
zeroed_behind : (front pads rest : List ℕ) → with_zeros (length pads) (length front) (front ++ (pads ++ rest)) ≡ front ++ (zeros (length pads) ++ rest)
unfolding with_zeros
zeroed_behind front [] rest = refl
zeroed_behind front (p ∷ pads) rest =
    let none = zeros (length pads) in
    let one : (front ++ 0 ∷ []) ++ (pads ++ rest) ≡ front ++ 0 ∷ (pads ++ rest) = append_assoc front (0 ∷ []) (pads ++ rest) in
    let size : length (front ++ 0 ∷ []) ≡ suc (length front) = length-append front (0 ∷ []) ∙ more (length front) in
    let later : with_zeros (length pads) (suc (length front)) (front ++ 0 ∷ (pads ++ rest)) ≡ (front ++ 0 ∷ []) ++ (none ++ rest) = subst (λ (n : ℕ). with_zeros (length pads) n (front ++ 0 ∷ (pads ++ rest)) ≡ (front ++ 0 ∷ []) ++ (none ++ rest)) size (subst (λ (bytes : List ℕ). with_zeros (length pads) (length (front ++ 0 ∷ [])) bytes ≡ (front ++ 0 ∷ []) ++ (none ++ rest)) one (zeroed_behind (front ++ 0 ∷ []) pads rest)) in
    ap (λ (bytes : List ℕ). with_zeros (length pads) (suc (length front)) bytes) (set-append_seam front p (pads ++ rest) 0) ∙ later ∙ append_assoc front (0 ∷ []) (none ++ rest)
  where
    more : (n : ℕ) → n + 1 ≡ suc n
    more n = omega arith

-- The pads after an opcode at byte pc are set to 0.
switch_zeroed : (pc code : ℕ) (pads operands front rest : List ℕ) → length pads ≡ pad_length pc → length front ≡ pc → with_zeros (pad_length pc) (suc pc) (front ++ ((code ∷ pads ++ operands) ++ rest)) ≡ front ++ ((code ∷ zeros (pad_length pc) ++ operands) ++ rest)
switch_zeroed pc code pads operands front rest padded at = subst (λ (n : ℕ). with_zeros n (suc pc) (front ++ ((code ∷ pads ++ operands) ++ rest)) ≡ front ++ ((code ∷ zeros n ++ operands) ++ rest)) padded by_length
  where
    apart : (xs : List ℕ) → front ++ ((code ∷ xs ++ operands) ++ rest) ≡ (front ++ code ∷ []) ++ (xs ++ (operands ++ rest))
    apart xs = ap (λ (ys : List ℕ). front ++ code ∷ ys) (append_assoc xs operands rest) ∙ sym (append_assoc front (code ∷ []) (xs ++ (operands ++ rest)))

    behind : length (front ++ code ∷ []) ≡ suc pc
    behind = let size : length (front ++ code ∷ []) ≡ length front + 1 = length-append front (code ∷ []) in omega arith

    by_length : with_zeros (length pads) (suc pc) (front ++ ((code ∷ pads ++ operands) ++ rest)) ≡ front ++ ((code ∷ zeros (length pads) ++ operands) ++ rest)
    by_length =
        ap (λ (bytes : List ℕ). with_zeros (length pads) (suc pc) bytes) (apart pads)
        ∙ ap (λ (n : ℕ). with_zeros (length pads) n ((front ++ code ∷ []) ++ (pads ++ (operands ++ rest)))) (sym behind)
        ∙ zeroed_behind (front ++ code ∷ []) pads (operands ++ rest)
        ∙ sym (apart (zeros (length pads)))

-- ---- An instruction whose pads are 0

-- The bytes of code with an instruction's pads set to 0, if it has any.
abbrev pads_zeroed : ℕ → Insn → List ℕ → List ℕ
pads_zeroed pc i bytes = cond (is_switch i) (with_zeros (pad_length pc) (suc pc) bytes) bytes

record Padded (pool : List Constant) (major : ℕ) (pcs : List ℕ) (pc : ℕ) (first : List ℕ) (i : Insn) : Type 0 where
  padded : List ℕ
  spells : SpellsInsn pool major pcs pc padded i
  size : length padded ≡ length first
  zeroes : (front rest : List ℕ) → length front ≡ pc → pads_zeroed pc i (front ++ (first ++ rest)) ≡ front ++ (padded ++ rest)
  again : (front rest : List ℕ) → length front ≡ pc → pads_zeroed pc i (front ++ (padded ++ rest)) ≡ front ++ (padded ++ rest)

-- Setting pads to 0 keeps the number of bytes.
same_size : (pc code : ℕ) (pads operands bytes : List ℕ) → length pads ≡ pad_length pc → bytes ≡ code ∷ pads ++ operands → length (code ∷ zeros (pad_length pc) ++ operands) ≡ length bytes
same_size pc code pads operands bytes padded whole =
    let now : length (zeros (pad_length pc) ++ operands) ≡ pad_length pc + length operands = rw (length-append (zeros (pad_length pc)) operands, zeros_length (pad_length pc)) refl in
    let before : length (pads ++ operands) ≡ pad_length pc + length operands = rw (length-append pads operands, padded) refl in
    ap suc (now ∙ sym before) ∙ sym (ap length whole)

switch_padded : (pool : List Constant) (major : ℕ) (pcs : List ℕ) (pc code : ℕ) (pads operands first : List ℕ) (i : Insn) → is_switch i ≡ true → length pads ≡ pad_length pc → first ≡ code ∷ pads ++ operands → SpellsInsn pool major pcs pc (code ∷ zeros (pad_length pc) ++ operands) i → Padded pool major pcs pc first i
switch_padded pool major pcs pc code pads operands first i switch padded whole spells = record {
  padded = code ∷ zeros (pad_length pc) ++ operands;
  spells = spells;
  size = same_size pc code pads operands first padded whole;
  zeroes = λ front rest at. rw (switch, whole) (switch_zeroed pc code pads operands front rest padded at);
  again = λ front rest at. rw switch (switch_zeroed pc code (zeros (pad_length pc)) operands front rest (zeros_length (pad_length pc)) at);
}

plain_padded : (pool : List Constant) (major : ℕ) (pcs : List ℕ) (pc : ℕ) (first : List ℕ) (i : Insn) → is_switch i ≡ false → SpellsInsn pool major pcs pc first i → Padded pool major pcs pc first i
plain_padded pool major pcs pc first i none spells = record { padded = first; spells = spells; size = refl; zeroes = λ front rest at. rw none refl; again = λ front rest at. rw none refl }

padded : (pool : List Constant) (major : ℕ) (pcs : List ℕ) (pc : ℕ) (first : List ℕ) (i : Insn) → SpellsInsn pool major pcs pc first i → Padded pool major pcs pc first i
padded pool major pcs pc first (insn.Table s) (code, is, pads, size, default, leads, low, lows, is_low, high, highs, le, count, rest, targets, whole) =
    switch_padded pool major pcs pc code pads (u4 default ++ (u4 low ++ (u4 high ++ rest))) first (insn.Table s) refl size whole
    (code, is, zeros (pad_length pc), zeros_length (pad_length pc), default, leads, low, lows, is_low, high, highs, le, count, rest, targets, refl)
padded pool major pcs pc first (insn.Lookup s) (code, is, pads, size, default, leads, few, rises, rest, cases, whole) =
    switch_padded pool major pcs pc code pads (u4 default ++ (u4 (length s.cases) ++ rest)) first (insn.Lookup s) refl size whole
    (code, is, zeros (pad_length pc), zeros_length (pad_length pc), default, leads, few, rises, rest, cases, refl)
padded pool major pcs pc first (insn.Simple s) h = plain_padded pool major pcs pc first (insn.Simple s) refl h
padded pool major pcs pc first (insn.Branch how place) h = plain_padded pool major pcs pc first (insn.Branch how place) refl h
padded pool major pcs pc first (insn.Constant n) h = plain_padded pool major pcs pc first (insn.Constant n) refl h
padded pool major pcs pc first (insn.Field how n) h = plain_padded pool major pcs pc first (insn.Field how n) refl h
padded pool major pcs pc first (insn.Invoke how n) h = plain_padded pool major pcs pc first (insn.Invoke how n) refl h
padded pool major pcs pc first (insn.Class how n) h = plain_padded pool major pcs pc first (insn.Class how n) refl h
padded pool major pcs pc first (insn.MultiNewArray n count) h = plain_padded pool major pcs pc first (insn.MultiNewArray n count) refl h

-- ---- Instructions whose pads are 0

record PaddedFrom (pool : List Constant) (major : ℕ) (pcs : List ℕ) (pc : ℕ) (bytes : List ℕ) (is : List Insn) (begun : List ℕ) : Type 0 where
  padded : List ℕ
  spells : SpellsFrom pool major pcs pc padded is begun
  size : length padded ≡ length bytes
  zeroes : (front : List ℕ) → length front ≡ pc → with_zero_pads begun is (front ++ bytes) ≡ front ++ padded
  again : (front : List ℕ) → length front ≡ pc → with_zero_pads begun is (front ++ padded) ≡ front ++ padded

none_padded : (pool : List Constant) (major : ℕ) (pcs : List ℕ) (pc : ℕ) → PaddedFrom pool major pcs pc [] [] []
unfolding with_zero_pads
none_padded pool major pcs pc = record { padded = []; spells = (refl, refl); size = refl; zeroes = λ front at. refl; again = λ front at. refl }

-- One instruction's pads, followed by those of the others.
one_zeroed : (pc : ℕ) (i : Insn) (is : List Insn) (later : List ℕ) (front first zeros rest others : List ℕ) → pads_zeroed pc i (front ++ (first ++ rest)) ≡ front ++ (zeros ++ rest) → with_zero_pads later is ((front ++ zeros) ++ rest) ≡ (front ++ zeros) ++ others → with_zero_pads (pc ∷ later) (i ∷ is) (front ++ (first ++ rest)) ≡ front ++ (zeros ++ others)
unfolding with_zero_pads
one_zeroed pc i is later front first zeros rest others here behind =
    ap (λ (bytes : List ℕ). with_zero_pads later is bytes) (here ∙ sym (append_assoc front zeros rest)) ∙ behind ∙ append_assoc front zeros others

one_padded : (pool : List Constant) (major : ℕ) (pcs : List ℕ) (pc : ℕ) (first rest : List ℕ) (i : Insn) (is : List Insn) (later : List ℕ) → Padded pool major pcs pc first i → PaddedFrom pool major pcs (pc + length first) rest is later → PaddedFrom pool major pcs pc (first ++ rest) (i ∷ is) (pc ∷ later)
one_padded pool major pcs pc first rest i is later one others = record {
  padded = one.padded ++ others.padded;
  spells = (one.padded, others.padded, later, refl, refl, one.spells, subst (λ (n : ℕ). SpellsFrom pool major pcs (pc + n) others.padded is later) (sym one.size) others.spells);
  size = length-append one.padded others.padded ∙ ap (λ (n : ℕ). n + length others.padded) one.size ∙ ap (λ (n : ℕ). length first + n) others.size ∙ sym (length-append first rest);
  zeroes = λ front at. one_zeroed pc i is later front first one.padded rest others.padded (one.zeroes front rest at) (others.zeroes (front ++ one.padded) (behind front at));
  again = λ front at. one_zeroed pc i is later front one.padded one.padded others.padded others.padded (one.again front others.padded at) (others.again (front ++ one.padded) (behind front at));
}
  where
    behind : (front : List ℕ) → length front ≡ pc → length (front ++ one.padded) ≡ pc + length first
    behind front at = length-append front one.padded ∙ ap (λ (n : ℕ). n + length one.padded) at ∙ ap (λ (n : ℕ). pc + n) one.size

padded_from : (pool : List Constant) (major : ℕ) (pcs : List ℕ) (pc : ℕ) (bytes : List ℕ) (is : List Insn) (begun : List ℕ) → SpellsFrom pool major pcs pc bytes is begun → PaddedFrom pool major pcs pc bytes is begun
padded_from pool major pcs pc bytes [] begun (none, nothing) = rw (none, nothing) (none_padded pool major pcs pc)
padded_from pool major pcs pc bytes (i ∷ is) begun (first, rest, later, whole, begins, spells, behind) =
    rw (whole, begins) (one_padded pool major pcs pc first rest i is later (padded pool major pcs pc first i spells) (padded_from pool major pcs (pc + length first) rest is later behind))

-- Code whose pads are set to 0 spells the same instructions.
pub zero_pads_spell : (pool : List Constant) (major : ℕ) (pcs code : List ℕ) (is : List Insn) → SpellsInsns pool major pcs code is → SpellsInsns pool major pcs (with_zero_pads pcs is code) is
zero_pads_spell pool major pcs code is h =
    let p = padded_from pool major pcs 0 code is pcs h in
    subst (λ (bytes : List ℕ). SpellsInsns pool major pcs bytes is) (sym (p.zeroes [] refl)) p.spells

-- Code whose pads are set to 0 has as many bytes.
pub zero_pads_length : (pool : List Constant) (major : ℕ) (pcs code : List ℕ) (is : List Insn) → SpellsInsns pool major pcs code is → length (with_zero_pads pcs is code) ≡ length code
zero_pads_length pool major pcs code is h =
    let p = padded_from pool major pcs 0 code is pcs h in
    ap length (p.zeroes [] refl) ∙ p.size

-- Setting pads to 0 twice is the same as once.
pub zero_pads_again : (pool : List Constant) (major : ℕ) (pcs code : List ℕ) (is : List Insn) → SpellsInsns pool major pcs code is → with_zero_pads pcs is (with_zero_pads pcs is code) ≡ with_zero_pads pcs is code
zero_pads_again pool major pcs code is h =
    let p = padded_from pool major pcs 0 code is pcs h in
    ap (λ (bytes : List ℕ). with_zero_pads pcs is bytes) (p.zeroes [] refl) ∙ p.again [] refl ∙ sym (p.zeroes [] refl)
