-- Proves that the code of a method consists of its starts and its bytes.
use Rattle.std.proofs.Common.{◌≡◌, ℕ, Bool, true, false, not, List, [], Result, Ok, refl, sym, ap, subst, ◌∙◌}
use Rattle.jvms_file.specs.declared.class_file.Code.{Code}
use Rattle.jvms_file.specs.declared.class_file.Handler.{Handler}
use Rattle.jvms_file.specs.declared.class_file.KeptAttribute.{KeptAttribute}
use Rattle.jvms_file.specs.declared.insn.Insn.{Insn}
use Rattle.jvms_file.specs.Members.{is_code_length}
use Rattle.jvms_file.specs.Results.{◌>>=◌, want}
use Rattle.jasmin.specs.declared.source.CodeItem.{CodeItem}
use Rattle.jasmin.specs.declared.source.MethodLines.{MethodLines}
use Rattle.jasmin.specs.Denote.{operations}
use Rattle.assembly.specs.declared.fault.AsmFault.{AsmFault}
use Rattle.assembly.specs.declared.fault.AsmFault.TheVariants as fault
use Rattle.assembly.specs.Faults.{Fails}
use Rattle.assembly.specs.Sizes.{code_length, starts_of, any_too_far}
use Rattle.assembly.specs.Bytes.{bytes_from}
use Rattle.assembly.specs.CodeOf.{insns_from, handlers_from, code_within}
use Rattle.code_bytes.specs.Starting.{starts_within}
use Rattle.code_bytes.specs.Writing.{bytes_within}

-- Returns the code with this layout.
abbrev pub with_layout : List ℕ → List ℕ → MethodLines → List ℕ → List ℕ → Code
with_layout operands caught m bytes starts =
    record {
      max_stack = m.max_stack;
      max_locals = m.max_locals;
      layout = record { bytes = bytes; starts = starts };
      insns = insns_from m.code operands (operations m.code);
      handlers = handlers_from m.code caught m.catches;
      attributes = [];
    }

in_steps : (long far : Bool) (starts bytes : List ℕ) (code : List ℕ → List ℕ → Code) (within : List ℕ → Result (List ℕ) AsmFault) → within starts ≡ (want (not far) fault.BranchTooFar >>= λ _. Ok bytes)
    → (want long fault.CodeLength >>= λ _. (want (not far) fault.BranchTooFar >>= λ _. Ok (code bytes starts))) ≡ ((want long fault.CodeLength >>= λ _. Ok starts) >>= λ s. (within s >>= λ b. Ok (code b s)))
in_steps true true starts bytes code within e = rw e refl
in_steps true false starts bytes code within e = rw e refl
in_steps false far starts bytes code within e = refl

-- The starts are computed before the bytes.
in_parts : (operands caught : List ℕ) (m : MethodLines) → code_within operands caught m ≡ (starts_within operands m.code >>= λ s. (bytes_within s m.code operands >>= λ b. Ok (with_layout operands caught m b s)))
unfolding code_within
in_parts operands caught m =
    in_steps (is_code_length (code_length operands m.code)) (any_too_far (starts_of operands m.code) m.code (starts_of operands m.code) (operations m.code)) (starts_of operands m.code)
    (bytes_from (starts_of operands m.code) m.code operands (starts_of operands m.code) (operations m.code)) (λ b s. with_layout operands caught m b s) (λ s. bytes_within s m.code operands) refl

passes : {A B : Type 0} (e : AsmFault) (given : Result A AsmFault) (f : A → Result B AsmFault) → Fails e given → Fails e (given >>= f)
passes fault.Memory given f h = tt
passes e given f h = rw h refl

behind : {A B : Type 0} (given : Result A AsmFault) (a : A) (f : A → Result B AsmFault) → given ≡ Ok a → (given >>= f) ≡ f a
behind given a f e = rw e refl

-- The fault of the starts is that of the code.
pub starts_fail : (e : AsmFault) (operands caught : List ℕ) (m : MethodLines) (items : List CodeItem) → items ≡ m.code → Fails e (starts_within operands items) → Fails e (code_within operands caught m)
starts_fail e operands caught m items same h =
    let of_code = subst (λ (xs : List CodeItem). Fails e (starts_within operands xs)) same h in
    subst (λ (given : Result Code AsmFault). Fails e given) (sym (in_parts operands caught m))
    (passes e (starts_within operands m.code) (λ s. (bytes_within s m.code operands >>= λ b. Ok (with_layout operands caught m b s))) of_code)

behind_starts : (operands caught : List ℕ) (m : MethodLines) (items : List CodeItem) (starts lent : List ℕ) → items ≡ m.code → starts_within operands items ≡ Ok starts → lent ≡ starts → code_within operands caught m ≡ (bytes_within lent items operands >>= λ b. Ok (with_layout operands caught m b starts))
behind_starts operands caught m items starts lent same begun lends =
    in_parts operands caught m
    ∙ behind (starts_within operands m.code) starts (λ s. (bytes_within s m.code operands >>= λ b. Ok (with_layout operands caught m b s))) (ap (λ (xs : List CodeItem). starts_within operands xs) (sym same) ∙ begun)
    ∙ (λ i. bytes_within (sym lends i) (sym same i) operands >>= λ b. Ok (with_layout operands caught m b starts))

-- The fault of the bytes is that of the code.
pub bytes_fail : (e : AsmFault) (operands caught : List ℕ) (m : MethodLines) (items : List CodeItem) (starts lent : List ℕ) → items ≡ m.code → starts_within operands items ≡ Ok starts → lent ≡ starts → Fails e (bytes_within lent items operands) → Fails e (code_within operands caught m)
bytes_fail e operands caught m items starts lent same begun lends h =
    subst (λ (given : Result Code AsmFault). Fails e given) (sym (behind_starts operands caught m items starts lent same begun lends))
    (passes e (bytes_within lent items operands) (λ b. Ok (with_layout operands caught m b starts)) h)

-- The parts that were made are those of the code.
pub put_together : (operands caught : List ℕ) (m : MethodLines) (items : List CodeItem) (starts lent bytes wide : List ℕ) (insns : List Insn) (handlers : List Handler) (attributes : List KeptAttribute) → items ≡ m.code → starts_within operands items ≡ Ok starts → lent ≡ starts → bytes_within lent items operands ≡ Ok bytes
    → wide ≡ starts → insns ≡ insns_from m.code operands (operations m.code) → handlers ≡ handlers_from m.code caught m.catches → attributes ≡ []
    → code_within operands caught m ≡ Ok (record { max_stack = m.max_stack; max_locals = m.max_locals; layout = record { bytes = bytes; starts = wide }; insns = insns; handlers = handlers; attributes = attributes })
put_together operands caught m items starts lent bytes wide insns handlers attributes same begun lends written widens of_insns of_handlers none =
    behind_starts operands caught m items starts lent same begun lends
    ∙ behind (bytes_within lent items operands) bytes (λ b. Ok (with_layout operands caught m b starts)) written
    ∙ (λ i. Ok (record { max_stack = m.max_stack; max_locals = m.max_locals; layout = record { bytes = bytes; starts = sym widens i }; insns = sym of_insns i; handlers = sym of_handlers i; attributes = sym none i }))
