-- The first fields of a class with their strings, one field after another.
use Rattle.std.proofs.Common.{◌≡◌, ℕ, ◌+◌, ◌<◌, Bool, true, false, cond, not, ◌||◌, List, [], ◌∷◌, ◌++◌, length, take, get_or, Bor, Some, None, refl, sym, ap, ◌∙◌, subst}
use Rattle.std.specs.BTreeSet.{BTreeSet, contains}
use Rattle.std.specs.Cmp.Lexicographic.{texts_ties}
use Rattle.std.specs.List.{list_any}
use Rattle.std.specs.Ordering.{is_eq}
use Rattle.std.proofs.lemmas.List.Folds.{list_any-append}
use Rattle.jvms_file.specs.Names.{same_text}
use Rattle.jvms_program.specs.declared.program.Field.{Field}
use Rattle.program.specs.FieldTexts.{AreTextsOf, constant_text, has_constant_text, is_not_among, is_same, texts_cmp}
use Rattle.program.proofs.FieldSlotLaws.{next_field, or_last}

-- ---- One more field

or_none : (x : Bool) → x ≡ (x || (false || false))
or_none true = refl
or_none false = refl

-- A field without a string adds none.
pub none_added : (before : List Field) (f : Field) (texts : BTreeSet (Bor (List ℕ))) → constant_text f ≡ None → AreTextsOf before texts → AreTextsOf (before ++ f ∷ []) texts
none_added before f texts none are =
    record {
      each = λ units.
          are.each units ∙ or_none (list_any (has_constant_text units.now) before)
          ∙ ap (λ o. list_any (has_constant_text units.now) before || (is_same units.now o || false)) (sym none)
          ∙ sym (list_any-append (has_constant_text units.now) before (f ∷ []));
    }

pub one_added : (before : List Field) (f : Field) (k : Bor (List ℕ)) (old new : BTreeSet (Bor (List ℕ))) → constant_text f ≡ Some k.now
    → ((q : Bor (List ℕ)) → contains texts_cmp new q ≡ cond (is_eq (texts_cmp k q)) true (contains texts_cmp old q)) → AreTextsOf before old → AreTextsOf (before ++ f ∷ []) new
one_added before f k old new some put are =
    record {
      each = λ units.
          put units
          ∙ (λ i. cond (sym (texts_ties k.now units.now) i) true (are.each units i))
          ∙ or_last (same_text k.now units.now) (list_any (has_constant_text units.now) before)
          ∙ ap (λ o. list_any (has_constant_text units.now) before || (is_same units.now o || false)) (sym some)
          ∙ sym (list_any-append (has_constant_text units.now) before (f ∷ []));
    }

-- A string that is added is the first of its kind.
pub first_added : (before : List Field) (f : Field) (k : Bor (List ℕ)) (texts : BTreeSet (Bor (List ℕ))) (added : Bool) → constant_text f ≡ Some k.now → added ≡ not (contains texts_cmp texts k)
    → AreTextsOf before texts → added ≡ is_not_among before (constant_text f)
first_added before f k texts added some put are = put ∙ ap not (are.each k) ∙ ap (is_not_among before) (sym some)

pub none_among : (before : List Field) (f : Field) → constant_text f ≡ None → false ≡ is_not_among before (constant_text f)
none_among before f none = ap (is_not_among before) (sym none)

-- The strings of the first fields and of one more.
pub texts_next : (fields : List Field) (i : ℕ) (f : Field) (texts : BTreeSet (Bor (List ℕ))) → i < length fields → f ≡ get_or fields i f → AreTextsOf (take i fields ++ f ∷ []) texts → AreTextsOf (take (i + 1) fields) texts
texts_next fields i f texts within at are = subst (λ (l : List Field). AreTextsOf l texts) (sym (next_field fields i f within at)) are
