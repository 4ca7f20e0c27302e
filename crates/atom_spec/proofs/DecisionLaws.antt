-- The decision of lines after one more line.
use Rattle.std.proofs.Common.{◌≡◌, ℕ, suc, ◌+◌, ◌<◌, Bool, true, false, cond, List, [], ◌∷◌, ◌++◌, length, get_or, take, refl, sym, ap, ◌∙◌, add-one}
use Rattle.std.proofs.Math.Seq.{take-suc}
use Rattle.jvms_program.specs.declared.key.MethodKey.{MethodKey}
use Rattle.velodrome.specs.declared.specification.SpecificationLine.{SpecificationLine}
use Rattle.velodrome.specs.Specification.{is_of, last_decision}
use Rattle.atom_spec.specs.declared.table.Table.{Table}
use Rattle.atom_spec.specs.Tables.{decision_of}
use Rattle.atom_spec.specs.Decisions.{IsTableOf}

-- The last line decides.
last_decision_after : (before : Bool) (lines : List SpecificationLine) (l : SpecificationLine) (m : MethodKey) → last_decision before (lines ++ l ∷ []) m ≡ cond (is_of l.pattern m) l.is_atomic (last_decision before lines m)
last_decision_after before [] l m = refl
last_decision_after before (k ∷ lines) l m = last_decision_after (cond (is_of k.pattern m) k.is_atomic before) lines l m

one_more : (lines : List SpecificationLine) (i : ℕ) (l : SpecificationLine) → i < length lines → l ≡ get_or lines i l → take (i + 1) lines ≡ take i lines ++ l ∷ []
one_more lines i l within is =
    ap (λ (n : ℕ). take n lines) (add-one i) ∙ take-suc lines i l within ∙ ap (λ (x : SpecificationLine). take i lines ++ x ∷ []) (sym is)

pub table_of_more : (old new : Table) (lines : List SpecificationLine) (i : ℕ) (l : SpecificationLine) → i < length lines → l ≡ get_or lines i l → IsTableOf old (take i lines)
    → ((m : MethodKey) → decision_of new m ≡ cond (is_of l.pattern m) l.is_atomic (decision_of old m)) → IsTableOf new (take (i + 1) lines)
table_of_more old new lines i l within is says puts = record {
  agrees = λ m.
      puts m ∙ ap (λ (b : Bool). cond (is_of l.pattern m) l.is_atomic b) (says.agrees m) ∙ sym (last_decision_after false (take i lines) l m)
      ∙ ap (λ (ls : List SpecificationLine). last_decision false ls m) (sym (one_more lines i l within is));
}
