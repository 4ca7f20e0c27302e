-- Proves that instructions are listed as items: one operation for each, with labels between them.
use Rattle.std.proofs.Common.{◌≡◌, ℕ, suc, List, [], ◌∷◌, ◌++◌, length, Ok, refl, sym, ap, ◌∙◌, append_assoc, arith}
use Rattle.jvms_file.specs.declared.class_file.Constant.{Constant}
use Rattle.jvms_file.specs.declared.class_file.Code.{Code}
use Rattle.jvms_file.specs.declared.insn.Insn.{Insn}
use Rattle.jasmin.specs.declared.source.Operation.{Operation}
use Rattle.jasmin.specs.declared.source.CodeItem.{CodeItem}
use Rattle.jasmin.specs.declared.source.CodeItem.TheVariants as item
use Rattle.listing_spec.specs.TreeOf.{operation_of, label_items, items_onto}
use Rattle.classfile_laws.proofs.Steps.{step}
use Rattle.tree_meaning_laws.proofs.Lists.{same_Ok}
use Rattle.tree_meaning_laws.proofs.Labels.{items_from}

-- These are the operations of instructions that start at these bytes.
abbrev pub AreOperations : List Constant → List ℕ → List ℕ → List Insn → List Operation → Type 0
AreOperations pool bytes [] [] [] = Unit {0}
AreOperations pool bytes (pc ∷ pcs) (i ∷ is) (o ∷ os) = (operation_of pool bytes pc i ≡ Ok o) × AreOperations pool bytes pcs is os
AreOperations pool bytes _ _ _ = ⊥

pub as_many_operations : (pool : List Constant) (bytes pcs : List ℕ) (is : List Insn) (os : List Operation) → AreOperations pool bytes pcs is os → length os ≡ length is
as_many_operations pool bytes [] [] [] are = refl
as_many_operations pool bytes (pc ∷ pcs) (i ∷ is) (o ∷ os) are = ap suc (as_many_operations pool bytes pcs is os are.1)
as_many_operations pool bytes _ _ _ are = absurd are

-- The items are those before, followed by those of operations.
pub record Listed (pool : List Constant) (c : Code) (seen : List CodeItem) (place : ℕ) (pcs : List ℕ) (is : List Insn) (items : List CodeItem) : Type 0 where
  pub made : List Operation
  pub parts : items ≡ seen ++ items_from c place made
  pub are : AreOperations pool c.layout.bytes pcs is made

pub listed : (pool : List Constant) (c : Code) (seen : List CodeItem) (place : ℕ) (pcs : List ℕ) (is : List Insn) (items : List CodeItem) → length pcs ≡ length is
    → items_onto pool c seen place pcs is ≡ Ok items → Listed pool c seen place pcs is items
unfolding items_onto
listed pool c seen place [] [] items same gives = record { made = []; parts = sym (same_Ok (seen ++ label_items c place) items gives); are = tt }
listed pool c seen place (pc ∷ pcs) (i ∷ is) items same gives =
    step (operation_of pool c.layout.bytes pc i) _ _ gives λ o here more.
    let others = listed pool c ((seen ++ label_items c place) ++ item.Operation o ∷ []) (suc place) pcs is items (omega arith) more in
    record {
      made = o ∷ others.made;
      parts =
          others.parts
          ∙ append_assoc (seen ++ label_items c place) (item.Operation o ∷ []) (items_from c (suc place) others.made)
          ∙ append_assoc seen (label_items c place) (item.Operation o ∷ items_from c (suc place) others.made);
      are = (here, others.are);
    }
listed pool c seen place [] (i ∷ is) items same gives = absurd (omega arith)
listed pool c seen place (pc ∷ pcs) [] items same gives = absurd (omega arith)
