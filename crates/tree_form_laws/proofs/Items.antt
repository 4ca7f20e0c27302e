-- Proves that a property of each label and of each instruction that bytes spell is one of each item of a method's code
-- (JVMS 4.7.3).
use Rattle.std.proofs.Common.{◌≡◌, ℕ, suc, List, [], ◌∷◌, ◌++◌, length, Ok, refl, sym, ◌∙◌, subst, append_assoc}
use Rattle.std.specs.List.{AllByRecursion}
use Rattle.std.proofs.lemmas.Bool.{cond_both}
use Rattle.std.proofs.lemmas.List.{length-append}
use Rattle.jvms_file.specs.declared.class_file.Constant.{Constant}
use Rattle.jvms_file.specs.declared.class_file.Code.{Code}
use Rattle.jvms_file.specs.declared.insn.Insn.{Insn}
use Rattle.jvms_file.specs.Spelling.{SpellsInsn, SpellsFrom}
use Rattle.jasmin.specs.declared.source.Operation.{Operation}
use Rattle.jasmin.specs.declared.source.CodeItem.{CodeItem}
use Rattle.jasmin.specs.declared.source.CodeItem.TheVariants as item
use Rattle.listing_spec.specs.TreeOf.{label_of, is_referred, operation_of, label_items, items_onto}
use Rattle.classfile_laws.proofs.Steps.{step}
use Rattle.tree_form_laws.proofs.Steps.{same_Ok}
use Rattle.tree_form_laws.proofs.Lists.{all_push}
use Rattle.tree_form_laws.proofs.Opcodes.{IsAt}

-- The property holds for each label of a place.
abbrev pub OfLabels : (CodeItem → Type 0) → Type 0
OfLabels P = (place : ℕ) → P (item.Label (label_of place))

-- The property holds for the operation of each instruction in the bytes of code.
abbrev pub OfInsns : List Constant → ℕ → List ℕ → List ℕ → (CodeItem → Type 0) → Type 0
OfInsns pool major pcs bytes P =
    (pc : ℕ) (first : List ℕ) (i : Insn) (o : Operation) → IsAt bytes pc first → SpellsInsn pool major pcs pc first i → operation_of pool bytes pc i ≡ Ok o → P (item.Operation o)

label_items_all : (P : CodeItem → Type 0) → OfLabels P → (c : Code) (place : ℕ) → AllByRecursion P (label_items c place)
label_items_all P labels c place = cond_both (is_referred c place) (item.Label (label_of place) ∷ []) [] (λ items. AllByRecursion P items) (λ is. (labels place, tt)) (λ other. tt)

pub items_all : (P : CodeItem → Type 0) (pool : List Constant) (major : ℕ) (pcs : List ℕ) (c : Code) → OfLabels P → OfInsns pool major pcs c.layout.bytes P
    → (seen : List CodeItem) (place : ℕ) (front rest : List ℕ) (is : List Insn) (begun : List ℕ) (items : List CodeItem)
    → c.layout.bytes ≡ front ++ rest → SpellsFrom pool major pcs (length front) rest is begun → AllByRecursion P seen → items_onto pool c seen place begun is ≡ Ok items → AllByRecursion P items
unfolding items_onto
items_all P pool major pcs c labels each seen place front rest [] begun items whole spelled so_far e =
    let last : items_onto pool c seen place [] [] ≡ Ok items = subst (λ (b : List ℕ). items_onto pool c seen place b [] ≡ Ok items) spelled.1 e in
    subst (AllByRecursion P) (same_Ok (seen ++ label_items c place) items last) (all_push P seen (label_items c place) so_far (label_items_all P labels c place))
items_all P pool major pcs c labels each seen place front rest (i ∷ is) begun items whole spelled so_far e =
    let first = spelled.0 in
    let behind = spelled.1 in
    let pc = length front in
    let next : items_onto pool c seen place (pc ∷ spelled.2) (i ∷ is) ≡ Ok items = subst (λ (b : List ℕ). items_onto pool c seen place b (i ∷ is) ≡ Ok items) spelled.4 e in
    let parts : c.layout.bytes ≡ front ++ (first ++ behind) = whole ∙ rw spelled.3 refl in
    let at : IsAt c.layout.bytes pc first = record { front = front; rest = behind; whole = parts; place = refl } in
    let later : SpellsFrom pool major pcs (length (front ++ first)) behind is spelled.2 = subst (λ (n : ℕ). SpellsFrom pool major pcs n behind is spelled.2) (sym (length-append front first)) spelled.6 in
    step (operation_of pool c.layout.bytes pc i) _ items next λ o made more.
    let so_long = all_push P (seen ++ label_items c place) (item.Operation o ∷ []) (all_push P seen (label_items c place) so_far (label_items_all P labels c place)) (each pc first i o at spelled.5 made, tt) in
    items_all P pool major pcs c labels each ((seen ++ label_items c place) ++ item.Operation o ∷ []) (suc place) (front ++ first) behind is spelled.2 items (parts ∙ sym (append_assoc front first behind)) later so_long more
