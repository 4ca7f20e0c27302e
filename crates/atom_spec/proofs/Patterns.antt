-- Patterns, and the texts that are none.
use Rattle.std.proofs.Common.{◌≡◌, ◌≢◌, ℕ, ◌+◌, ◌<◌, ◌==◌, Bool, true, false, List, [], ◌∷◌, ◌++◌, Option, Some, None, refl, sym, ap, ◌∙◌, arith}
use Rattle.std.specs.Prelude.{codes, nat_eq}
use Rattle.std.specs.Cmp.Lexicographic.{pointwise}
use Rattle.std.proofs.lemmas.Bool.{true≢false}
use Rattle.jvms_program.specs.declared.key.MethodKey.{MethodKey}
use Rattle.jvms_file.specs.Names.{same_text}
use Rattle.escapes.specs.declared.sort.NameSort.TheVariants as sort
use Rattle.escapes.specs.Escapes.{name_text}
use Rattle.escapes.specs.Cuts.{has, dots_in}
use Rattle.escapes.specs.Keys.{IsNameOf, IsMethodKey, member_text, method_text}
use Rattle.escapes.specs.Readings.{IsReadAs}
use Rattle.escapes.proofs.Cutting.{one_cut, no_first}
use Rattle.escapes.proofs.Members.{no_dot, spelled_no_dot}
use Rattle.escapes.proofs.Dots.{joined_count, behind_dot, name_dots, member_dots}
use Rattle.velodrome.specs.declared.specification.Pattern.{Pattern}
use Rattle.velodrome.specs.declared.specification.Pattern.TheVariants as pattern
use Rattle.atom_spec.specs.Lines.{IsPattern, pattern_text}
use Rattle.atom_spec.specs.Parts.{dots_of, IsPatternWith}

-- ---- Dots

-- The dots of a pattern's text show its kind.
pub pattern_dots : (p : Pattern) → IsPattern p → dots_in (pattern_text p) ≡ dots_of p
pattern_dots pattern.All is = refl
pattern_dots (pattern.Class class) is =
    joined_count (name_text class) (46 ∷ codes "*") 0 1 (name_dots sort.Class class is) refl
pattern_dots (pattern.Named class name) is =
    joined_count (name_text class) (46 ∷ name_text name) 0 1 (name_dots sort.Class class is.0) (behind_dot (name_text name) 0 (name_dots sort.Method name is.1))
pattern_dots (pattern.Exactly class name descriptor) is = member_dots sort.Method sort.MethodDescriptor class name descriptor is

-- A text with n dots can only be that of a pattern with n dots.
pub of_so_many : (n : ℕ) (text : List ℕ) (o : Option Pattern) → dots_in text ≡ n → IsReadAs (IsPatternWith n) pattern_text text o → IsReadAs IsPattern pattern_text text o
of_so_many n text (Some p) many read = (read.0.is, read.1)
of_so_many n text None many read = λ p is e. read p (record { has = sym (pattern_dots p is) ∙ ap dots_in (sym e) ∙ many; is = is }) e

pub of_no_sort : (text : List ℕ) → (dots_in text ≡ 0 → ⊥) → (dots_in text ≡ 1 → ⊥) → (dots_in text ≡ 2 → ⊥) → (p : Pattern) → IsPattern p → text ≢ pattern_text p
of_no_sort text first second third pattern.All is e = first (ap dots_in e)
of_no_sort text first second third (pattern.Class class) is e = second (ap dots_in e ∙ pattern_dots (pattern.Class class) is)
of_no_sort text first second third (pattern.Named class name) is e = second (ap dots_in e ∙ pattern_dots (pattern.Named class name) is)
of_no_sort text first second third (pattern.Exactly class name descriptor) is e = third (ap dots_in e ∙ pattern_dots (pattern.Exactly class name descriptor) is)

-- ---- One method

abbrev method_key : List ℕ → List ℕ → List ℕ → MethodKey
method_key class name descriptor = record { class = class; name = name; descriptor = descriptor }

pub no_method : (text : List ℕ) → ((m : MethodKey) → IsMethodKey m → text ≢ method_text m) → (p : Pattern) → IsPatternWith 2 p → text ≢ pattern_text p
no_method text none pattern.All is e = absurd (let no = is.has in omega arith)
no_method text none (pattern.Class class) is e = absurd (let no = is.has in omega arith)
no_method text none (pattern.Named class name) is e = absurd (let no = is.has in omega arith)
no_method text none (pattern.Exactly class name descriptor) is e = none (method_key class name descriptor) is.is e

-- ---- A class, or its methods with one name

pub class_clear : (class : List ℕ) → IsNameOf sort.Class class → has 46 (name_text class) ≡ false
class_clear class is = spelled_no_dot class (no_dot sort.Class class is)

pub no_class : (text class rest : List ℕ) → text ≡ class ++ 46 ∷ rest → has 46 class ≡ false → ((us : List ℕ) → IsNameOf sort.Class us → class ≢ name_text us) → (p : Pattern) → IsPatternWith 1 p → text ≢ pattern_text p
no_class text class rest split clear none pattern.All is e = absurd (let no = is.has in omega arith)
no_class text class rest split clear none (pattern.Class c) is e =
    none c is.is (one_cut 46 class rest (name_text c) (codes "*") clear (class_clear c is.is) (sym split ∙ e)).0
no_class text class rest split clear none (pattern.Named c n) is e =
    none c is.is.0 (one_cut 46 class rest (name_text c) (name_text n) clear (class_clear c is.is.0) (sym split ∙ e)).0
no_class text class rest split clear none (pattern.Exactly c n d) is e = absurd (let no = is.has in omega arith)

pub no_name : (text class rest : List ℕ) → text ≡ class ++ 46 ∷ rest → has 46 class ≡ false → same_text rest (codes "*") ≡ false → ((us : List ℕ) → IsNameOf sort.Method us → rest ≢ name_text us)
    → (p : Pattern) → IsPatternWith 1 p → text ≢ pattern_text p
no_name text class rest split clear star none pattern.All is e = absurd (let no = is.has in omega arith)
no_name text class rest split clear star none (pattern.Class c) is e =
    let same = (one_cut 46 class rest (name_text c) (codes "*") clear (class_clear c is.is) (sym split ∙ e)).1 in
    true≢false (sym (ap (λ (us : List ℕ). same_text us (codes "*")) same) ∙ star)
no_name text class rest split clear star none (pattern.Named c n) is e =
    none n is.is.1 (one_cut 46 class rest (name_text c) (name_text n) clear (class_clear c is.is.0) (sym split ∙ e)).1
no_name text class rest split clear star none (pattern.Exactly c n d) is e = absurd (let no = is.has in omega arith)
