-- Proves that the starts that are collected one at a time are those of the definition.
use Rattle.std.proofs.Common.{◌≡◌, ℕ, ◌+◌, ◌<◌, ◌≤◌, Bool, true, false, cond, ◌&&◌, nat_lt, nat_le, List, [], ◌∷◌, ◌++◌, length, Some, None, Result, Ok, Err, refl, sym, ap, subst, ◌∙◌, append_assoc, arith}
use Rattle.std.proofs.lemmas.Bool.{le-leb, lt-leb, leb-true, leb-false}
use Rattle.std.proofs.lemmas.List.{append-nil}
use Rattle.std.specs.Prelude.{IfOk, OnOk}
use Rattle.jvms_file.specs.Members.{is_code_length}
use Rattle.jvms_file.specs.Results.{◌>>=◌, want, present}
use Rattle.jasmin.specs.declared.source.Operation.{Operation}
use Rattle.jasmin.specs.declared.source.CodeItem.{CodeItem}
use Rattle.jasmin.specs.Denote.{operations}
use Rattle.assembly.specs.declared.fault.AsmFault.{AsmFault}
use Rattle.assembly.specs.declared.fault.AsmFault.TheVariants as fault
use Rattle.assembly.specs.Faults.{Answers}
use Rattle.assembly.specs.Sizes.{size, end_from, starts_from, code_length, starts_of}
use Rattle.code_bytes.specs.Few.{AreFew}
use Rattle.code_bytes.specs.Starting.{end_within, some_starts, starts_onto, starts_within}
use Rattle.code_bytes.proofs.Lengths.{end_not_below, count_within, few_within}

-- Returns the starts, if code may end here.
abbrev if_long : ℕ → List ℕ → Result (List ℕ) AsmFault
if_long end starts = want (is_code_length end) fault.CodeLength >>= λ _. Ok starts

ended_by : (some few : Bool) (seen starts : List ℕ) → few ≡ true → seen ≡ starts → cond some (Ok seen) (Err fault.CodeLength) ≡ (want (some && few) fault.CodeLength >>= λ _. Ok starts)
ended_by true true seen starts few same = ap (λ (xs : List ℕ). Ok xs) same
ended_by true false seen starts few same = cc
ended_by false few seen starts is same = refl

ended : (seen : List ℕ) (pc : ℕ) → pc ≤ 65535 → some_starts seen pc ≡ if_long pc (seen ++ [])
ended seen pc le = ended_by (nat_lt 0 pc) (nat_le pc 65535) seen (seen ++ []) (le-leb pc 65535 le) (sym (append-nil seen))

refused_by : (some few : Bool) (starts : List ℕ) → few ≡ false → (want (some && few) fault.CodeLength >>= λ _. Ok starts) ≡ Err fault.CodeLength
refused_by true true starts over = cc
refused_by true false starts over = refl
refused_by false few starts over = refl

refused : (end : ℕ) (starts : List ℕ) → 65535 < end → if_long end starts ≡ Err fault.CodeLength
refused end starts lt = refused_by (nat_lt 0 end) (nat_le end 65535) starts (lt-leb end 65535 lt)

-- The end of one instruction passes the test that code may be this long, or the whole fails.
stepped : (few : Bool) (seen : List ℕ) (pc end : ℕ) (numbers : List ℕ) (os : List Operation) → nat_le end 65535 ≡ few
    → (end ≤ 65535 → starts_onto (seen ++ pc ∷ []) end numbers os ≡ if_long (end_from end numbers os) ((seen ++ pc ∷ []) ++ starts_from end numbers os))
    → (present (cond few (Some end) None) fault.CodeLength >>= λ e. starts_onto (seen ++ pc ∷ []) e numbers os) ≡ if_long (end_from end numbers os) (seen ++ pc ∷ starts_from end numbers os)
stepped true seen pc end numbers os test onto =
    onto (leb-true end 65535 test) ∙ ap (λ (xs : List ℕ). if_long (end_from end numbers os) xs) (simp append_assoc)
stepped false seen pc end numbers os test onto =
    let below : end ≤ end_from end numbers os = end_not_below end numbers os in
    let over : 65535 < end = leb-false end 65535 test in
    sym (refused (end_from end numbers os) (seen ++ pc ∷ starts_from end numbers os) (omega arith))

onto_is : (seen : List ℕ) (pc : ℕ) (numbers : List ℕ) (os : List Operation) → pc ≤ 65535 → starts_onto seen pc numbers os ≡ if_long (end_from pc numbers os) (seen ++ starts_from pc numbers os)
unfolding starts_onto end_from starts_from
onto_is seen pc [] os le = ended seen pc le
onto_is seen pc (n ∷ numbers) [] le = ended seen pc le
onto_is seen pc (n ∷ numbers) (o ∷ os) le =
    stepped (nat_le (pc + size n pc o) 65535) seen pc (pc + size n pc o) numbers os refl
    (λ few. onto_is (seen ++ pc ∷ []) (pc + size n pc o) numbers os few)

-- ---- Steps

pub no_numbers : (seen : List ℕ) (pc : ℕ) (numbers : List ℕ) (os : List Operation) (total : Result (List ℕ) AsmFault) → length numbers ≡ 0 → starts_onto seen pc numbers os ≡ total → total ≡ some_starts seen pc
unfolding starts_onto
no_numbers seen pc [] os total none so_far = sym so_far
no_numbers seen pc (n ∷ numbers) os total none so_far = absurd (omega arith)

pub no_operations : (seen : List ℕ) (pc : ℕ) (numbers : List ℕ) (n : ℕ) (others : List ℕ) (os : List Operation) (total : Result (List ℕ) AsmFault) → numbers ≡ n ∷ others → os ≡ [] → starts_onto seen pc numbers os ≡ total → total ≡ some_starts seen pc
unfolding starts_onto
no_operations seen pc numbers n others os total some none so_far =
    let one : starts_onto seen pc numbers os ≡ some_starts seen pc = rw (some, none) refl in
    sym so_far ∙ one

pub too_long : (seen : List ℕ) (pc : ℕ) (numbers : List ℕ) (n : ℕ) (others : List ℕ) (os : List Operation) (o : Operation) (behind : List Operation) (total : Result (List ℕ) AsmFault) → numbers ≡ n ∷ others → os ≡ o ∷ behind → None ≡ end_within (pc + size n pc o)
    → starts_onto seen pc numbers os ≡ total → total ≡ Err fault.CodeLength
unfolding starts_onto
too_long seen pc numbers n others os o behind total some one over so_far =
    let stop : starts_onto seen pc numbers os ≡ Err fault.CodeLength = rw (some, one, ← over) refl in
    sym so_far ∙ stop

pub one_more : (seen : List ℕ) (pc : ℕ) (numbers : List ℕ) (n : ℕ) (others : List ℕ) (os : List Operation) (o : Operation) (behind : List Operation) (end : ℕ) (total : Result (List ℕ) AsmFault) → numbers ≡ n ∷ others → os ≡ o ∷ behind → Some end ≡ end_within (pc + size n pc o)
    → starts_onto seen pc numbers os ≡ total → starts_onto (seen ++ pc ∷ []) end others behind ≡ total
unfolding starts_onto
one_more seen pc numbers n others os o behind end total some one within so_far =
    let goes : starts_onto seen pc numbers os ≡ starts_onto (seen ++ pc ∷ []) end others behind = rw (some, one, ← within) refl in
    sym goes ∙ so_far

-- A result is that of an equal definition.
pub answers_itself : {A : Type 0} (given total : Result A AsmFault) → total ≡ given → Answers given total
answers_itself (Ok a) total e = e
answers_itself (Err fault.Memory) total e = tt
answers_itself (Err f) total e = e

-- ---- The whole

-- The starts that are collected are those of the code.
pub all_within : (operands : List ℕ) (items : List CodeItem) → starts_onto [] 0 operands (operations items) ≡ starts_within operands items
all_within operands items = onto_is [] 0 operands (operations items) (omega arith)

-- ---- What starts imply about the code

length_by : (some few : Bool) (starts given : List ℕ) → (want (some && few) fault.CodeLength >>= λ _. Ok starts) ≡ Ok given → few ≡ true
length_by true true starts given e = refl
length_by true false starts given e = cc
length_by false few starts given e = cc

end_is_few : (operands : List ℕ) (items : List CodeItem) (given : List ℕ) → starts_within operands items ≡ Ok given → code_length operands items ≤ 65535
end_is_few operands items given e =
    leb-true (code_length operands items) 65535
    (length_by (nat_lt 0 (code_length operands items)) (nat_le (code_length operands items) 65535) (starts_of operands items) given e)

pub starts_are_few : (operands : List ℕ) (items : List CodeItem) (given : List ℕ) → length operands ≡ length (operations items) → starts_within operands items ≡ Ok given → AreFew (operations items)
starts_are_few operands items given same e = few_within 0 operands (operations items) same (end_is_few operands items given e)

pub starts_are_counted : (operands : List ℕ) (items : List CodeItem) (given : List ℕ) → length operands ≡ length (operations items) → starts_within operands items ≡ Ok given → length (operations items) ≤ 65535
starts_are_counted operands items given same e =
    let few : code_length operands items ≤ 65535 = end_is_few operands items given e in
    let within : 0 + length (operations items) ≤ code_length operands items = count_within 0 operands (operations items) same in
    omega arith

length_of_starts : (pc : ℕ) (numbers : List ℕ) (os : List Operation) → length numbers ≡ length os → length (starts_from pc numbers os) ≡ length os
unfolding starts_from
length_of_starts pc [] [] same = refl
length_of_starts pc [] (o ∷ os) same = absurd (omega arith)
length_of_starts pc (n ∷ numbers) [] same = absurd (omega arith)
length_of_starts pc (n ∷ numbers) (o ∷ os) same =
    let others : length (starts_from (pc + size n pc o) numbers os) ≡ length os = length_of_starts (pc + size n pc o) numbers os (omega arith) in
    omega arith

given_by : (long : Bool) (starts given : List ℕ) → (want long fault.CodeLength >>= λ _. Ok starts) ≡ Ok given → starts ≡ given
given_by true starts given e = cc
given_by false starts given e = cc

-- There is one start for each instruction.
pub as_many_starts : (operands : List ℕ) (items : List CodeItem) (given : List ℕ) → length operands ≡ length (operations items) → starts_within operands items ≡ Ok given → length given ≡ length (operations items)
as_many_starts operands items given same e =
    ap length (sym (given_by (is_code_length (code_length operands items)) (starts_of operands items) given e))
    ∙ length_of_starts 0 operands (operations items) same

-- ---- The result

pub starts_answered : (result : Result (List ℕ) AsmFault) (operands : List ℕ) (items : List CodeItem) → Answers result (starts_onto [] 0 operands (operations items)) → Answers result (starts_within operands items)
starts_answered result operands items a = subst (λ (given : Result (List ℕ) AsmFault). Answers result given) (all_within operands items) a

pub few_answered : (result : Result (List ℕ) AsmFault) (operands : List ℕ) (items : List CodeItem) → length operands ≡ length (operations items) → Answers result (starts_onto [] 0 operands (operations items)) → OnOk result (AreFew (operations items))
few_answered (Ok given) operands items same a = starts_are_few operands items given same (sym (all_within operands items) ∙ a)
few_answered (Err e) operands items same a = tt

pub counted_answered : (result : Result (List ℕ) AsmFault) (operands : List ℕ) (items : List CodeItem) → length operands ≡ length (operations items) → Answers result (starts_onto [] 0 operands (operations items)) → OnOk result (length (operations items) ≤ 65535)
counted_answered (Ok given) operands items same a = starts_are_counted operands items given same (sym (all_within operands items) ∙ a)
counted_answered (Err e) operands items same a = tt

pub many_answered : (result : Result (List ℕ) AsmFault) (operands : List ℕ) (items : List CodeItem) → length operands ≡ length (operations items) → Answers result (starts_onto [] 0 operands (operations items)) → IfOk result (λ given. length given ≡ length (operations items))
many_answered (Ok given) operands items same a = as_many_starts operands items given same (sym (all_within operands items) ∙ a)
many_answered (Err e) operands items same a = tt
