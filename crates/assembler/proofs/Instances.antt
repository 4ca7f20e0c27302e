-- Proves that the definitions of the assembler recurse over a list.
use Rattle.std.proofs.Common.{◌≡◌, ℕ, ◌+◌, List, [], ◌∷◌, ◌++◌, length, Result, Ok, Err, refl, sym, ap, subst, ◌∙◌, arith}
use Rattle.std.proofs.lemmas.List.{length_push}
use Rattle.jvms_file.specs.declared.class_file.Constant.{Constant}
use Rattle.jvms_file.specs.Results.{◌>>=◌}
use Rattle.jasmin.specs.declared.source.Operation.{Operation}
use Rattle.jasmin.specs.declared.source.CodeItem.{CodeItem}
use Rattle.jasmin.specs.declared.source.CodeItem.TheVariants as item
use Rattle.jasmin.specs.Denote.{operations}
use Rattle.pool_entries.specs.declared.fault.EntryFault.{EntryFault}
use Rattle.pool_entries.specs.Entries.{Fails, class_entry}
use Rattle.assembly.specs.Operands.{operand_entry, operands_onto, catch_entry, catches_onto, classes_onto}
use Rattle.assembly.specs.Assembled.{field_info, fields_onto, method_info, methods_onto}
use Rattle.assembler.proofs.Failing.{fails_on}
use Rattle.assembler.proofs.Loops.{IsLoop}

pub catches_loop : IsLoop catches_onto (λ pool c. catch_entry pool c.caught)
unfolding catches_onto
catches_loop = record { ends = λ seen pool. refl; steps = λ seen pool c cs. refl }

pub classes_loop : IsLoop classes_onto class_entry
unfolding classes_onto
classes_loop = record { ends = λ seen pool. refl; steps = λ seen pool name names. refl }

pub fields_loop : IsLoop fields_onto field_info
unfolding fields_onto
fields_loop = record { ends = λ seen pool. refl; steps = λ seen pool f fs. refl }

pub methods_loop : IsLoop methods_onto method_info
unfolding methods_onto
methods_loop = record { ends = λ seen pool. refl; steps = λ seen pool m ms. refl }

-- ---- Code, whose labels have no index

pub label_goes_on : (seen : List ℕ) (pool : List Constant) (name : List ℕ) (left rest : List CodeItem) (whole : Result (List ℕ × List Constant) EntryFault)
    → left ≡ item.Label name ∷ rest → operands_onto seen pool left ≡ whole → operands_onto seen pool rest ≡ whole
unfolding operands_onto
label_goes_on seen pool name left rest whole here so_far = sym (ap (operands_onto seen pool) here) ∙ so_far

pub operand_goes_on : (seen : List ℕ) (pool new : List Constant) (o : Operation) (n : ℕ) (left rest : List CodeItem) (whole : Result (List ℕ × List Constant) EntryFault)
    → left ≡ item.Operation o ∷ rest → operand_entry pool o ≡ Ok (n, new) → operands_onto seen pool left ≡ whole → operands_onto (seen ++ n ∷ []) new rest ≡ whole
unfolding operands_onto
operand_goes_on seen pool new o n left rest whole here is so_far =
    let next : (ℕ × List Constant) → Result (List ℕ × List Constant) EntryFault = λ m. operands_onto (seen ++ m.0 ∷ []) m.1 rest in
    sym (ap (λ (r : Result (ℕ × List Constant) EntryFault). r >>= next) is) ∙ sym (ap (operands_onto seen pool) here) ∙ so_far

pub operand_stops : (e : EntryFault) (seen : List ℕ) (pool : List Constant) (o : Operation) (left rest : List CodeItem) (whole : Result (List ℕ × List Constant) EntryFault)
    → left ≡ item.Operation o ∷ rest → Fails e (operand_entry pool o) → operands_onto seen pool left ≡ whole → Fails e whole
unfolding operands_onto
operand_stops e seen pool o left rest whole here fails so_far =
    let next : (ℕ × List Constant) → Result (List ℕ × List Constant) EntryFault = λ m. operands_onto (seen ++ m.0 ∷ []) m.1 rest in
    let path : (operand_entry pool o >>= next) ≡ whole = sym (ap (operands_onto seen pool) here) ∙ so_far in
    subst (λ (r : Result (List ℕ × List Constant) EntryFault). Fails e r) path (fails_on e (operand_entry pool o) next fails)

pub operands_done : (seen : List ℕ) (pool : List Constant) (left : List CodeItem) (whole : Result (List ℕ × List Constant) EntryFault)
    → left ≡ [] → operands_onto seen pool left ≡ whole → whole ≡ Ok (seen, pool)
unfolding operands_onto
operands_done seen pool left whole none so_far = sym so_far ∙ ap (operands_onto seen pool) none

-- ---- One index for each instruction

abbrev how_many : Result (List ℕ × List Constant) EntryFault → ℕ
how_many (Ok given) = length given.0
how_many (Err e) = 0

count_by : (seen numbers : List ℕ) (new : List Constant) (items : List CodeItem)
    → ((seen : List ℕ) (pool : List Constant) → operands_onto seen pool items ≡ Ok (numbers, new) → length numbers ≡ length seen + length (operations items))
    → (r : Result (ℕ × List Constant) EntryFault) → (r >>= λ n. operands_onto (seen ++ n.0 ∷ []) n.1 items) ≡ Ok (numbers, new)
    → length numbers ≡ length seen + (length (operations items) + 1)
count_by seen numbers new items more (Ok (n, pool)) is =
    let all = more (seen ++ n ∷ []) pool is in
    let one = length_push seen n in
    omega arith
count_by seen numbers new items more (Err e) is = cc

pub operands_count : (seen : List ℕ) (pool : List Constant) (items : List CodeItem) (numbers : List ℕ) (new : List Constant)
    → operands_onto seen pool items ≡ Ok (numbers, new) → length numbers ≡ length seen + length (operations items)
unfolding operands_onto
operands_count seen pool [] numbers new is =
    let same : length seen ≡ length numbers = ap how_many is in
    omega arith
operands_count seen pool (item.Label name ∷ items) numbers new is = operands_count seen pool items numbers new is
operands_count seen pool (item.Operation o ∷ items) numbers new is =
    let all = count_by seen numbers new items (λ before start. operands_count before start items numbers new) (operand_entry pool o) is in
    omega (arith, all)
