-- Proves that a loop makes the items of code one instruction at a time.
use Rattle.std.proofs.Common.{◌≡◌, ℕ, ◌+◌, ◌-◌, ◌<◌, ◌≤◌, ◌⊎◌, false, List, [], ◌∷◌, ◌++◌, length, drop, get_or, Ok, Err, refl, sym, subst, arith, inl, inr, ⊎_elim, min, add-one, drop-cons}
use Rattle.std.proofs.lemmas.Bool.{cases_lt}
use Rattle.std.proofs.lemmas.List.{append-nil, length-drop}
use Rattle.jvms_file.specs.declared.class_file.Constant.{Constant}
use Rattle.jvms_file.specs.declared.class_file.Code.{Code}
use Rattle.jvms_file.specs.declared.insn.Insn.{Insn}
use Rattle.jasmin.specs.declared.source.Operation.{Operation}
use Rattle.jasmin.specs.declared.source.CodeItem.{CodeItem}
use Rattle.jasmin.specs.declared.source.CodeItem.TheVariants as item
use Rattle.listing_spec.specs.declared.fault.ListFault.{ListFault}
use Rattle.listing_spec.specs.declared.fault.ListFault.TheVariants as fault
use Rattle.listing_spec.specs.Faults.{Fails}
use Rattle.listing_spec.specs.TreeOf.{is_referred, label_items, operation_of, items_onto}

-- At a place that nothing refers to, no label is added.
pub unlabelled : (items : List CodeItem) (c : Code) (place : ℕ) → is_referred c place ≡ false → items ≡ items ++ label_items c place
unlabelled items c place none = rw none (sym (append-nil items))

drop_next : {A : Type 0} (xs : List A) (i : ℕ) (d : A) → i < length xs → drop i xs ≡ get_or xs i d ∷ drop (i + 1) xs
drop_next xs i d within = rw (add-one, drop-cons xs i d) refl

-- ---- One instruction

onward : (pool : List Constant) (c : Code) (seen : List CodeItem) (place : ℕ) (pcs : List ℕ) (is : List Insn) (i : Insn) (o : Operation) → place < length pcs → place < length is → i ≡ get_or is place i
    → operation_of pool c.layout.bytes (get_or pcs place 0) i ≡ Ok o
    → items_onto pool c ((seen ++ label_items c place) ++ item.Operation o ∷ []) (place + 1) (drop (place + 1) pcs) (drop (place + 1) is) ≡ items_onto pool c seen place (drop place pcs) (drop place is)
unfolding items_onto
onward pool c seen place pcs is i o starts stands first spelled =
    let here : operation_of pool c.layout.bytes (get_or pcs place 0) (get_or is place i) ≡ Ok o = rw (← first) spelled in
    rw (drop_next pcs place 0 starts, drop_next is place i stands, here, add-one) refl

-- An instruction that can be spelled adds the label of its place, and itself.
pub items_go_on : (pool : List Constant) (c marks : Code) (bytes : List ℕ) (seen labelled all : List CodeItem) (place : ℕ) (pcs : List ℕ) (is : List Insn) (i : Insn) (o : Operation) → marks ≡ c → bytes ≡ c.layout.bytes
    → place < length pcs → place < length is → i ≡ get_or is place i → operation_of pool bytes (get_or pcs place 0) i ≡ Ok o
    → labelled ≡ seen ++ label_items marks place → all ≡ labelled ++ item.Operation o ∷ []
    → items_onto pool c all (place + 1) (drop (place + 1) pcs) (drop (place + 1) is) ≡ items_onto pool c seen place (drop place pcs) (drop place is)
items_go_on pool c marks bytes seen labelled all place pcs is i o marked spelling starts stands first spelled label whole =
    let here : operation_of pool c.layout.bytes (get_or pcs place 0) i ≡ Ok o = rw (← spelling) spelled in
    let labels : labelled ≡ seen ++ label_items c place = rw (← marked) label in
    rw (whole, labels) (onward pool c seen place pcs is i o starts stands first here)

fails_so : (e : ListFault) (pool : List Constant) (c : Code) (seen : List CodeItem) (place : ℕ) (pcs : List ℕ) (is : List Insn) (i : Insn) → place < length pcs → place < length is → i ≡ get_or is place i
    → operation_of pool c.layout.bytes (get_or pcs place 0) i ≡ Err e → items_onto pool c seen place (drop place pcs) (drop place is) ≡ Err e
unfolding items_onto
fails_so e pool c seen place pcs is i starts stands first fails =
    let here : operation_of pool c.layout.bytes (get_or pcs place 0) (get_or is place i) ≡ Err e = rw (← first) fails in
    rw (drop_next pcs place 0 starts, drop_next is place i stands, here) refl

stops : (e : ListFault) (pool : List Constant) (c : Code) (seen : List CodeItem) (place : ℕ) (pcs : List ℕ) (is : List Insn) (i : Insn) → place < length pcs → place < length is → i ≡ get_or is place i
    → Fails e (operation_of pool c.layout.bytes (get_or pcs place 0) i) → Fails e (items_onto pool c seen place (drop place pcs) (drop place is))
stops fault.Memory pool c seen place pcs is i starts stands first fails = tt
stops fault.Name pool c seen place pcs is i starts stands first fails = fails_so fault.Name pool c seen place pcs is i starts stands first fails
stops fault.Float pool c seen place pcs is i starts stands first fails = fails_so fault.Float pool c seen place pcs is i starts stands first fails

-- The fault of an instruction that can't be spelled is that of the code.
pub items_stop : (e : ListFault) (pool : List Constant) (c : Code) (bytes : List ℕ) (seen : List CodeItem) (place : ℕ) (pcs : List ℕ) (is : List Insn) (i : Insn) → bytes ≡ c.layout.bytes
    → place < length pcs → place < length is → i ≡ get_or is place i → Fails e (operation_of pool bytes (get_or pcs place 0) i) → Fails e (items_onto pool c seen place (drop place pcs) (drop place is))
items_stop e pool c bytes seen place pcs is i spelling starts stands first fails =
    stops e pool c seen place pcs is i starts stands first (subst (λ (b : List ℕ). Fails e (operation_of pool b (get_or pcs place 0) i)) spelling fails)

-- ---- The end

either_ends : (pool : List Constant) (c : Code) (seen : List CodeItem) (place : ℕ) (pcs : List ℕ) (is : List Insn) → (length pcs < 1) ⊎ (length is < 1) → items_onto pool c seen place pcs is ≡ Ok (seen ++ label_items c place)
unfolding items_onto
either_ends pool c seen place [] is over = refl
either_ends pool c seen place (pc ∷ pcs) [] over = refl
either_ends pool c seen place (pc ∷ pcs) (i ∷ is) over = absurd (omega arith)

pub past_either : (m n place : ℕ) → min m n ≤ place → (m ≤ place) ⊎ (n ≤ place)
past_either m n place past =
    ⊎_elim (λ (before : place < m). inr (omega arith)) (λ (first : m ≤ place). inl first) (cases_lt place m)

-- At the end of either list, the label of the place is added.
pub items_end : (pool : List Constant) (c marks : Code) (seen all : List CodeItem) (place : ℕ) (pcs : List ℕ) (is : List Insn) → marks ≡ c → all ≡ seen ++ label_items marks place
    → (length pcs ≤ place) ⊎ (length is ≤ place) → items_onto pool c seen place (drop place pcs) (drop place is) ≡ Ok all
items_end pool c marks seen all place pcs is marked whole over =
    let labels : all ≡ seen ++ label_items c place = rw (← marked) whole in
    let behind : (length (drop place pcs) < 1) ⊎ (length (drop place is) < 1) = rw (length-drop place pcs, length-drop place is) (shorter (length pcs) (length is) place over) in
    rw labels (either_ends pool c seen place (drop place pcs) (drop place is) behind)
  where
    shorter : (m n place : ℕ) → (m ≤ place) ⊎ (n ≤ place) → (m - place < 1) ⊎ (n - place < 1)
    shorter m n place (inl first) = inl (omega arith)
    shorter m n place (inr second) = inr (omega arith)
