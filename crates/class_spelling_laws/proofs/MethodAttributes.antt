-- Proves that the attributes of a method of an assembled class are made of its lines, and that bytes spell them (JVMS
-- 4.7.3, 4.7.5).
use Rattle.std.proofs.Common.{◌≡◌, ℕ, suc, ◌≤◌, Bool, true, false, not, List, [], ◌∷◌, ◌++◌, length, Ok, refl, sym, ap, subst, arith}
use Rattle.std.specs.Prelude.{codes}
use Rattle.std.specs.List.{AllByRecursion, list_any}
use Rattle.std.proofs.lemmas.Bool.{ltb-false}
use Rattle.jvms_file.specs.declared.class_file.Constant.{Constant}
use Rattle.jvms_file.specs.declared.class_file.Code.{Code}
use Rattle.jvms_file.specs.declared.class_file.MethodAttribute.{MethodAttribute}
use Rattle.jvms_file.specs.declared.class_file.MethodAttribute.TheVariants as method_attribute
use Rattle.jvms_file.specs.Members.{is_code, is_exceptions, is_code_length}
use Rattle.jvms_file.specs.Spelling.{u2, u4, AtMostOne, SpellsClassNumber, SpellsMethodAttribute}
use Rattle.jasmin.specs.declared.source.MethodLines.{MethodLines}
use Rattle.jasmin.specs.Denote.{operations, has_code}
use Rattle.jasmin.specs.Assembling.{has_undefined_label, has_bad_range, is_too_many}
use Rattle.pool_entries.specs.Entries.{text_entry}
use Rattle.pool_entries.specs.Kept.{IsKept}
use Rattle.pool_entries.proofs.Lookups.{IsKept-reflexive, IsKept-transitive}
use Rattle.assembly.specs.Named.{AreOperands, AreCaught, AreClasses}
use Rattle.assembly.specs.Operands.{operands_onto, catches_onto, classes_onto}
use Rattle.assembly.specs.Sizes.{code_length, starts_of, any_too_far}
use Rattle.assembly.specs.CodeOf.{code_of, code_within}
use Rattle.assembly.specs.Assembled.{code_attribute, code_attributes, throws_attributes}
use Rattle.source_form_laws.specs.Formed.{IsClassOrArray, IsFormedMethodLines}
use Rattle.classfile_laws.proofs.Steps.{step, want_step, choose}
use Rattle.assembled_entry_laws.proofs.Keeping.{operands-kept, catches-kept, classes-kept}
use Rattle.assembled_entry_laws.proofs.Operands.{operands_are_named, catches_are_named, classes_are_named}
use Rattle.code_spelling_laws.proofs.Content.{code_is_spelled}
use Rattle.class_spelling_laws.proofs.Steps.{same_Ok, numbered_step}
use Rattle.class_spelling_laws.proofs.Lists.{IsSpelled, counted}
use Rattle.class_spelling_laws.proofs.Pools.{IsGood}
use Rattle.class_spelling_laws.proofs.Operands.{operands_good, catches_good, classes_good}
use Rattle.class_spelling_laws.proofs.Made.{Made, NamesText, text-kept, text_is_named, names_class, text_made}
use Rattle.class_spelling_laws.proofs.CodeSizes.{code_size, numbers_size}

-- ---- The parts of a method's code

-- The indices in a method's code name what its lines name.
pub record IsCodeOf (pool : List Constant) (m : MethodLines) (code : Code) : Type 0 where
  pub operands : List ℕ
  pub caught : List ℕ
  pub are_operands : AreOperands pool operands (operations m.code)
  pub are_caught : AreCaught pool caught m.catches
  pub is_within : code_within operands caught m ≡ Ok code

-- A method that has code has a Code attribute.
abbrev pub AreCodes : List Constant → MethodLines → Bool → List MethodAttribute → Type 0
AreCodes pool m false attributes = attributes ≡ []
AreCodes pool m true attributes =
    (name : ℕ) × (code : Code) × (attributes ≡ method_attribute.Code name code ∷ []) × NamesText pool name (codes "Code") × IsCodeOf pool m code

-- A method that throws some has an Exceptions attribute.
abbrev pub AreThrows : List Constant → List (List ℕ) → List MethodAttribute → Type 0
AreThrows pool [] attributes = attributes ≡ []
AreThrows pool (class ∷ classes) attributes =
    (name : ℕ) × (numbers : List ℕ) × (attributes ≡ method_attribute.Exceptions name numbers ∷ []) × NamesText pool name (codes "Exceptions")
    × AreClasses pool numbers (class ∷ classes)

-- ---- A growing pool

pub codes-kept : (old new : List Constant) (m : MethodLines) (has : Bool) (attributes : List MethodAttribute) → IsKept old new → AreCodes old m has attributes → AreCodes new m has attributes
codes-kept old new m false attributes kept is = is
codes-kept old new m true attributes kept is =
    let code = is.4 in (
      is.0,
      is.1,
      is.2,
      text-kept old new is.0 (codes "Code") kept is.3,
      record {
        operands = code.operands;
        caught = code.caught;
        are_operands = operands-kept old new code.operands (operations m.code) kept code.are_operands;
        are_caught = catches-kept old new code.caught m.catches kept code.are_caught;
        is_within = code.is_within;
      },
    )

pub throws-kept : (old new : List Constant) (names : List (List ℕ)) (attributes : List MethodAttribute) → IsKept old new → AreThrows old names attributes → AreThrows new names attributes
throws-kept old new [] attributes kept is = is
throws-kept old new (class ∷ classes) attributes kept is =
    (is.0, is.1, is.2, text-kept old new is.0 (codes "Exceptions") kept is.3, classes-kept old new is.1 (class ∷ classes) kept is.4)

-- ---- The attributes have these parts

abbrev CodeMade : List Constant → MethodLines → MethodAttribute × List Constant → Type 0
CodeMade pool m r = Made pool r.1 (AreCodes r.1 m true (r.0 ∷ []))

code_made : (interface : Bool) (pool : List Constant) (m : MethodLines) (r : MethodAttribute × List Constant) → IsGood pool → IsFormedMethodLines interface m → code_attribute pool m ≡ Ok r → CodeMade pool m r
unfolding code_attribute
code_made interface pool m r good form gives =
    numbered_step (text_entry pool (codes "Code")) _ _ gives λ name named more.
    numbered_step (operands_onto [] name.1 m.code) _ _ more λ operands operated more2.
    numbered_step (catches_onto [] operands.1 m.catches) _ _ more2 λ caught catching more3.
    step (code_within operands.0 caught.0 m) _ _ more3 λ code within made.
    let one = text_made pool name.1 (codes "Code") name.0 good named in
    let two = operands_are_named name.1 operands.1 m.code operands.0 one.good.few operated in
    let two_good = operands_good [] operands.0 name.1 operands.1 m.code one.good form.code operated in
    let three = catches_are_named operands.1 caught.1 m.catches caught.0 two_good.few catching in
    let kept = IsKept-transitive name.1 operands.1 caught.1 two.1 three.1 in
    subst (CodeMade pool m) (same_Ok (method_attribute.Code name.0 code, caught.1) r made) (record {
      good = catches_good [] caught.0 operands.1 caught.1 m.catches two_good form.catches catching;
      kept = IsKept-transitive pool name.1 caught.1 one.kept kept;
      fact = (
        name.0,
        code,
        refl,
        text-kept name.1 caught.1 name.0 (codes "Code") kept one.fact,
        record {
          operands = operands.0;
          caught = caught.0;
          are_operands = operands-kept operands.1 caught.1 operands.0 (operations m.code) three.1 two.0;
          are_caught = three.0;
          is_within = within;
        },
      );
    })

abbrev CodesMade : List Constant → MethodLines → Bool → List MethodAttribute × List Constant → Type 0
CodesMade pool m has r = Made pool r.1 (AreCodes r.1 m has r.0)

pub codes_made : (interface : Bool) (pool : List Constant) (m : MethodLines) (r : List MethodAttribute × List Constant) → IsGood pool → IsFormedMethodLines interface m → code_attributes pool m ≡ Ok r
    → CodesMade pool m (has_code m.name m.access) r
unfolding code_attributes
codes_made interface pool m r good form gives =
    choose (has_code m.name m.access) _ _ _ gives
    (λ has some. step (code_attribute pool m) _ _ some λ a given made.
    subst (λ b. CodesMade pool m b r) (sym has) (subst (CodesMade pool m true) (same_Ok (a.0 ∷ [], a.1) r made) (code_made interface pool m a good form given)))
    (λ has none.
    subst (λ b. CodesMade pool m b r) (sym has) (subst (CodesMade pool m false) (same_Ok ([], pool) r none) (record { good = good; kept = IsKept-reflexive pool; fact = refl })))

abbrev ThrowsMade : List Constant → List (List ℕ) → List MethodAttribute × List Constant → Type 0
ThrowsMade pool names r = Made pool r.1 (AreThrows r.1 names r.0)

pub throws_made : (pool : List Constant) (names : List (List ℕ)) (r : List MethodAttribute × List Constant) → IsGood pool → AllByRecursion IsClassOrArray names → throws_attributes pool names ≡ Ok r
    → ThrowsMade pool names r
unfolding throws_attributes
throws_made pool [] r good form gives =
    subst (ThrowsMade pool []) (same_Ok ([], pool) r gives) (record { good = good; kept = IsKept-reflexive pool; fact = refl })
throws_made pool (class ∷ classes) r good form gives =
    step (text_entry pool (codes "Exceptions")) _ _ gives λ name named more.
    step (classes_onto [] name.1 (class ∷ classes)) _ _ more λ numbers numbered made.
    let one = text_made pool name.1 (codes "Exceptions") name.0 good named in
    let two = classes_are_named name.1 numbers.1 (class ∷ classes) numbers.0 one.good.few numbered in
    subst (ThrowsMade pool (class ∷ classes)) (same_Ok (method_attribute.Exceptions name.0 numbers.0 ∷ [], numbers.1) r made) (record {
      good = classes_good [] numbers.0 name.1 numbers.1 (class ∷ classes) one.good form numbered;
      kept = IsKept-transitive pool name.1 numbers.1 one.kept two.1;
      fact = (name.0, numbers.0, refl, text-kept name.1 numbers.1 name.0 (codes "Exceptions") two.1 one.fact, two.0);
    })

-- ---- The spelling

-- A method's labels, ranges and counts are such that bytes spell its code.
pub record IsFit (m : MethodLines) : Type 0 where
  pub labels : has_undefined_label m ≡ false
  pub ranges : has_bad_range m ≡ false
  pub few : is_too_many m.catches ≡ false

-- The Code attribute has no attributes of its own.
code_alone : (operands caught : List ℕ) (m : MethodLines) (code : Code) → code_within operands caught m ≡ Ok code → code.attributes ≡ []
unfolding code_within
code_alone operands caught m code gives =
    want_step (is_code_length (code_length operands m.code)) _ _ _ gives λ fits more.
    want_step (not (any_too_far (starts_of operands m.code) m.code (starts_of operands m.code) (operations m.code))) _ _ _ more λ near made.
    sym (ap (λ (c : Code). c.attributes) (same_Ok (code_of operands caught m) code made))

code_spelled : (interface : Bool) (pool : List Constant) (m : MethodLines) (name : ℕ) (code : Code) → IsFormedMethodLines interface m → IsFit m → NamesText pool name (codes "Code") → IsCodeOf pool m code
    → IsSpelled (SpellsMethodAttribute pool 49) (method_attribute.Code name code)
code_spelled interface pool m name code form fit named is =
    let content = code_is_spelled pool m is.operands is.caught code is.are_operands is.are_caught form.code form.max_stack form.max_locals fit.labels fit.ranges fit.few is.is_within in
    let small = code_size pool 49 content.0 code (code_alone is.operands is.caught m code is.is_within) content.1 in
    (u2 name ++ (u4 (length content.0) ++ content.0), (named.0, text_is_named pool name (codes "Code") named, content.0, small, content.1, refl))

pub codes_spelled : (interface : Bool) (pool : List Constant) (m : MethodLines) (has : Bool) (attributes : List MethodAttribute) → IsFormedMethodLines interface m → IsFit m → AreCodes pool m has attributes
    → AllByRecursion (IsSpelled (SpellsMethodAttribute pool 49)) attributes
codes_spelled interface pool m false attributes form fit is = subst (AllByRecursion (IsSpelled (SpellsMethodAttribute pool 49))) (sym is) tt
codes_spelled interface pool m true attributes form fit is =
    subst (AllByRecursion (IsSpelled (SpellsMethodAttribute pool 49))) (sym is.2) (code_spelled interface pool m is.0 is.1 form fit is.3 is.4, tt)

-- Bytes spell the indices of classes.
numbers_spelled : (pool : List Constant) (numbers : List ℕ) (names : List (List ℕ)) → AreClasses pool numbers names → (length numbers ≡ length names) × AllByRecursion (IsSpelled (SpellsClassNumber pool)) numbers
numbers_spelled pool [] [] are = (refl, tt)
numbers_spelled pool (n ∷ numbers) (name ∷ names) are =
    let rest = numbers_spelled pool numbers names are.1 in
    let first = are.0 in
    (ap suc rest.0, ((u2 n, (first.0, names_class pool n name first, refl)), rest.1))
numbers_spelled pool [] (name ∷ names) are = absurd are
numbers_spelled pool (n ∷ numbers) [] are = absurd are

throws_named_spelled : (pool : List Constant) (name : ℕ) (numbers : List ℕ) (names : List (List ℕ)) → is_too_many names ≡ false → NamesText pool name (codes "Exceptions") → AreClasses pool numbers names
    → IsSpelled (SpellsMethodAttribute pool 49) (method_attribute.Exceptions name numbers)
throws_named_spelled pool name numbers names few named are =
    let each = numbers_spelled pool numbers names are in
    let most : length names ≤ 65535 = ltb-false 65535 (length names) few in
    let same = each.0 in
    let content = counted (SpellsClassNumber pool) numbers (omega arith) each.1 in
    (u2 name ++ (u4 (length content.0) ++ content.0), (named.0, text_is_named pool name (codes "Exceptions") named, content.0, numbers_size pool content.0 numbers content.1, content.1, refl))

pub throws_spelled : (pool : List Constant) (names : List (List ℕ)) (attributes : List MethodAttribute) → is_too_many names ≡ false → AreThrows pool names attributes
    → AllByRecursion (IsSpelled (SpellsMethodAttribute pool 49)) attributes
throws_spelled pool [] attributes few is = subst (AllByRecursion (IsSpelled (SpellsMethodAttribute pool 49))) (sym is) tt
throws_spelled pool (class ∷ classes) attributes few is =
    subst (AllByRecursion (IsSpelled (SpellsMethodAttribute pool 49))) (sym is.2) (throws_named_spelled pool is.0 is.1 (class ∷ classes) few is.3 is.4, tt)

-- ---- The number of attributes

-- A method has at most one Code attribute, none without code, and at most one Exceptions attribute.
pub record AreAtMost (has : Bool) (attributes : List MethodAttribute) : Type 0 where
  pub one_code : AtMostOne is_code attributes
  pub one_exceptions : AtMostOne is_exceptions attributes
  pub code : list_any is_code attributes ≡ has
  pub few : length attributes ≤ 2

pub at_most : (pool : List Constant) (m : MethodLines) (has : Bool) (names : List (List ℕ)) (code throws : List MethodAttribute) → AreCodes pool m has code → AreThrows pool names throws → AreAtMost has (code ++ throws)
at_most pool m false [] code throws is are =
    rw (is, are) (record { one_code = tt; one_exceptions = tt; code = refl; few = omega arith })
at_most pool m false (class ∷ classes) code throws is are =
    rw (is, are.2) (record { one_code = ((λ _. refl), tt); one_exceptions = ((λ _. refl), tt); code = refl; few = omega arith })
at_most pool m true [] code throws is are =
    rw (is.2, are) (record { one_code = ((λ _. refl), tt); one_exceptions = ((λ _. refl), tt); code = refl; few = omega arith })
at_most pool m true (class ∷ classes) code throws is are =
    rw (is.2, are.2) (record { one_code = ((λ _. refl), ((λ _. refl), tt)); one_exceptions = ((λ e. sym e), ((λ _. refl), tt)); code = refl; few = omega arith })
