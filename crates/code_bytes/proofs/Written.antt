-- Proves that the bytes that are appended one instruction at a time are those of the definition, up to the first branch
-- that is too far.
use Rattle.std.proofs.Common.{◌≡◌, ℕ, Bool, true, false, not, ◌||◌, List, [], ◌∷◌, ◌++◌, length, Result, Ok, Err, refl, sym, ap, subst, ◌∙◌, append_assoc, arith}
use Rattle.std.proofs.lemmas.List.{append-nil}
use Rattle.jvms_file.specs.Results.{◌>>=◌, want}
use Rattle.jasmin.specs.declared.source.Operation.{Operation}
use Rattle.jasmin.specs.declared.source.CodeItem.{CodeItem}
use Rattle.jasmin.specs.Denote.{operations}
use Rattle.assembly.specs.declared.fault.AsmFault.{AsmFault}
use Rattle.assembly.specs.declared.fault.AsmFault.TheVariants as fault
use Rattle.assembly.specs.Faults.{Fails, Answers}
use Rattle.assembly.specs.Sizes.{is_too_far, any_too_far}
use Rattle.assembly.specs.Bytes.{operation_bytes, bytes_from}
use Rattle.code_bytes.specs.Few.{AreFew}
use Rattle.code_bytes.specs.Writing.{Writes, bytes_onto, bytes_within}

-- Returns the bytes, if no branch is too far.
abbrev if_near : Bool → List ℕ → Result (List ℕ) AsmFault
if_near far bytes = want (not far) fault.BranchTooFar >>= λ _. Ok bytes

stepped : (far others : Bool) (seen now behind : List ℕ) (onto : Result (List ℕ) AsmFault) → onto ≡ if_near others ((seen ++ now) ++ behind) → (want (not far) fault.BranchTooFar >>= λ _. onto) ≡ if_near (far || others) (seen ++ (now ++ behind))
stepped true others seen now behind onto e = refl
stepped false others seen now behind onto e = e ∙ ap (λ (xs : List ℕ). if_near others xs) (simp append_assoc)

onto_is : (starts : List ℕ) (items : List CodeItem) (seen numbers pcs : List ℕ) (os : List Operation) → length numbers ≡ length os → length pcs ≡ length os → bytes_onto starts items seen numbers pcs os ≡ if_near (any_too_far starts items pcs os) (seen ++ bytes_from starts items numbers pcs os)
unfolding bytes_onto any_too_far bytes_from
onto_is starts items seen [] [] [] same many = ap (λ (xs : List ℕ). Ok xs) (sym (append-nil seen))
onto_is starts items seen [] [] (o ∷ os) same many = absurd (omega arith)
onto_is starts items seen [] (pc ∷ pcs) [] same many = absurd (omega arith)
onto_is starts items seen [] (pc ∷ pcs) (o ∷ os) same many = absurd (omega arith)
onto_is starts items seen (n ∷ numbers) [] [] same many = absurd (omega arith)
onto_is starts items seen (n ∷ numbers) [] (o ∷ os) same many = absurd (omega arith)
onto_is starts items seen (n ∷ numbers) (pc ∷ pcs) [] same many = absurd (omega arith)
onto_is starts items seen (n ∷ numbers) (pc ∷ pcs) (o ∷ os) same many =
    stepped (is_too_far starts items pc o) (any_too_far starts items pcs os) seen (operation_bytes starts items n pc o) (bytes_from starts items numbers pcs os) (bytes_onto starts items (seen ++ operation_bytes starts items n pc o) numbers pcs os)
    (onto_is starts items (seen ++ operation_bytes starts items n pc o) numbers pcs os (omega arith) (omega arith))

-- ---- Steps

pub no_numbers : (starts : List ℕ) (items : List CodeItem) (seen numbers pcs : List ℕ) (os : List Operation) (total : Result (List ℕ) AsmFault) → length numbers ≡ 0 → bytes_onto starts items seen numbers pcs os ≡ total → total ≡ Ok seen
unfolding bytes_onto
no_numbers starts items seen [] pcs os total none so_far = sym so_far
no_numbers starts items seen (n ∷ numbers) pcs os total none so_far = absurd (omega arith)

no_starts_behind : (starts : List ℕ) (items : List CodeItem) (seen : List ℕ) (n : ℕ) (others pcs : List ℕ) (os : List Operation) → length pcs ≡ 0 → bytes_onto starts items seen (n ∷ others) pcs os ≡ Ok seen
unfolding bytes_onto
no_starts_behind starts items seen n others [] os none = refl
no_starts_behind starts items seen n others (pc ∷ pcs) os none = absurd (omega arith)

pub no_starts : (starts : List ℕ) (items : List CodeItem) (seen numbers : List ℕ) (n : ℕ) (others pcs : List ℕ) (os : List Operation) (total : Result (List ℕ) AsmFault) → numbers ≡ n ∷ others → length pcs ≡ 0 → bytes_onto starts items seen numbers pcs os ≡ total → total ≡ Ok seen
no_starts starts items seen numbers n others pcs os total some none so_far =
    sym so_far ∙ ap (λ (ns : List ℕ). bytes_onto starts items seen ns pcs os) some ∙ no_starts_behind starts items seen n others pcs os none

pub no_operations : (starts : List ℕ) (items : List CodeItem) (seen numbers : List ℕ) (n : ℕ) (others pcs : List ℕ) (pc : ℕ) (later : List ℕ) (os : List Operation) (total : Result (List ℕ) AsmFault) → numbers ≡ n ∷ others → pcs ≡ pc ∷ later → os ≡ []
    → bytes_onto starts items seen numbers pcs os ≡ total → total ≡ Ok seen
unfolding bytes_onto
no_operations starts items seen numbers n others pcs pc later os total some start none so_far =
    let one : bytes_onto starts items seen numbers pcs os ≡ Ok seen = rw (some, start, none) refl in
    sym so_far ∙ one

same_step : (starts : List ℕ) (items : List CodeItem) (seen numbers : List ℕ) (n : ℕ) (others pcs : List ℕ) (pc : ℕ) (later : List ℕ) (os : List Operation) (o : Operation) (behind : List Operation) (total : Result (List ℕ) AsmFault) → numbers ≡ n ∷ others → pcs ≡ pc ∷ later → os ≡ o ∷ behind
    → bytes_onto starts items seen numbers pcs os ≡ total → total ≡ (want (not (is_too_far starts items pc o)) fault.BranchTooFar >>= λ _. bytes_onto starts items (seen ++ operation_bytes starts items n pc o) others later behind)
unfolding bytes_onto
same_step starts items seen numbers n others pcs pc later os o behind total some start one so_far =
    let step : bytes_onto starts items seen numbers pcs os ≡ (want (not (is_too_far starts items pc o)) fault.BranchTooFar >>= λ _. bytes_onto starts items (seen ++ operation_bytes starts items n pc o) others later behind) = rw (some, start, one) refl in
    sym so_far ∙ step

near_goes_on : {A : Type 0} (far : Bool) (onto : Result A AsmFault) → far ≡ false → (want (not far) fault.BranchTooFar >>= λ _. onto) ≡ onto
near_goes_on true onto near = cc
near_goes_on false onto near = refl

far_stops : {A : Type 0} (far : Bool) (onto : Result A AsmFault) → far ≡ true → (want (not far) fault.BranchTooFar >>= λ _. onto) ≡ Err fault.BranchTooFar
far_stops true onto far = refl
far_stops false onto far = cc

pub one_more : (starts : List ℕ) (items : List CodeItem) (seen now numbers : List ℕ) (n : ℕ) (others pcs : List ℕ) (pc : ℕ) (later : List ℕ) (os : List Operation) (o : Operation) (behind : List Operation) (total : Result (List ℕ) AsmFault) → numbers ≡ n ∷ others → pcs ≡ pc ∷ later → os ≡ o ∷ behind
    → is_too_far starts items pc o ≡ false → now ≡ seen ++ operation_bytes starts items n pc o → bytes_onto starts items seen numbers pcs os ≡ total → bytes_onto starts items now others later behind ≡ total
one_more starts items seen now numbers n others pcs pc later os o behind total some start one near put so_far =
    ap (λ (bytes : List ℕ). bytes_onto starts items bytes others later behind) put
    ∙ sym (same_step starts items seen numbers n others pcs pc later os o behind total some start one so_far
    ∙ near_goes_on (is_too_far starts items pc o) (bytes_onto starts items (seen ++ operation_bytes starts items n pc o) others later behind) near)

far_fails : {A : Type 0} (e : AsmFault) (far : Bool) (bytes old new : List ℕ) (onto : Result A AsmFault) → Writes {A = Unit {0}} far bytes (Err e) old new → Fails e (want (not far) fault.BranchTooFar >>= λ _. onto)
far_fails fault.BranchTooFar far bytes old new onto h = far_stops far onto h
far_fails fault.Memory far bytes old new onto h = tt
far_fails fault.UndefinedLabel far bytes old new onto h = absurd h
far_fails fault.RepeatedLabel far bytes old new onto h = absurd h
far_fails fault.CodeLength far bytes old new onto h = absurd h
far_fails fault.PoolFull far bytes old new onto h = absurd h
far_fails fault.TooMany far bytes old new onto h = absurd h
far_fails fault.CatchRange far bytes old new onto h = absurd h

-- The fault of one instruction is that of all.
pub fails : (e : AsmFault) (starts : List ℕ) (items : List CodeItem) (seen new numbers : List ℕ) (n : ℕ) (others pcs : List ℕ) (pc : ℕ) (later : List ℕ) (os : List Operation) (o : Operation) (behind : List Operation) (total : Result (List ℕ) AsmFault) → numbers ≡ n ∷ others → pcs ≡ pc ∷ later → os ≡ o ∷ behind
    → Writes {A = Unit {0}} (is_too_far starts items pc o) (operation_bytes starts items n pc o) (Err e) seen new → bytes_onto starts items seen numbers pcs os ≡ total → Fails e total
fails e starts items seen new numbers n others pcs pc later os o behind total some start one h so_far =
    subst (λ (given : Result (List ℕ) AsmFault). Fails e given) (sym (same_step starts items seen numbers n others pcs pc later os o behind total some start one so_far))
    (far_fails e (is_too_far starts items pc o) (operation_bytes starts items n pc o) seen new (bytes_onto starts items (seen ++ operation_bytes starts items n pc o) others later behind) h)

pub few_behind : (os : List Operation) (o : Operation) (behind : List Operation) → os ≡ o ∷ behind → AreFew os → AreFew behind
few_behind os o behind one few = (subst (λ (xs : List Operation). AreFew xs) one few).1

-- ---- The result

pub bytes_answered : (result : Result (List ℕ) AsmFault) (starts : List ℕ) (labels items : List CodeItem) (operands : List ℕ) → labels ≡ items → length operands ≡ length (operations items) → length starts ≡ length (operations items)
    → Answers result (bytes_onto starts labels [] operands starts (operations items)) → Answers result (bytes_within starts items operands)
bytes_answered result starts labels items operands of same many a =
    subst (λ (given : Result (List ℕ) AsmFault). Answers result given)
    (ap (λ (xs : List CodeItem). bytes_onto starts xs [] operands starts (operations items)) of ∙ onto_is starts items [] operands starts (operations items) same many) a
