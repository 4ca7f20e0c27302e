-- Proves that bytes spell the methods of an assembled class (JVMS 4.6).
use Rattle.std.proofs.Common.{◌≡◌, ℕ, Bool, true, false, not, ◌||◌, List, [], ◌∷◌, ◌++◌, length, Ok, refl, sym, ap, ◌∙◌, subst, arith}
use Rattle.std.specs.List.{AllByRecursion, AllZip}
use Rattle.std.proofs.lemmas.Bool.{not-true}
use Rattle.jvms_file.specs.declared.class_file.Constant.{Constant}
use Rattle.jvms_file.specs.declared.class_file.MethodAttribute.{MethodAttribute}
use Rattle.jvms_file.specs.declared.class_file.MethodInfo.{MethodInfo}
use Rattle.jvms_file.specs.Names.{is_method_name, is_initializer_name}
use Rattle.jvms_file.specs.ConstantPool.{utf8_at}
use Rattle.jvms_file.specs.Members.{is_text_with, is_initializer, is_method_descriptor_for, is_static, is_abstract, is_interface, is_same_method}
use Rattle.jvms_file.specs.Spelling.{u2, IsU2, IsDistinctBy, HasItsCode, SpellsMethodAttribute, SpellsMethod}
use Rattle.jasmin.specs.declared.source.MethodLines.{MethodLines}
use Rattle.jasmin.specs.Denote.{has_code}
use Rattle.jasmin.specs.Assembling.{has_undefined_label, repeats_label, has_bad_range, is_too_many}
use Rattle.jasmin.specs.Reading.{is_method_like}
use Rattle.pool_entries.specs.Entries.{text_entry}
use Rattle.pool_entries.specs.Kept.{IsKept}
use Rattle.pool_entries.proofs.Lookups.{IsKept-reflexive, IsKept-transitive}
use Rattle.assembly.specs.declared.fault.AsmFault.TheVariants as fault
use Rattle.assembly.specs.Assembled.{judge_labels, code_attributes, throws_attributes, method_info, methods_onto}
use Rattle.source_form_laws.specs.Formed.{IsFormedMethodLines}
use Rattle.classfile_laws.proofs.Steps.{step, want_step}
use Rattle.class_spelling_laws.proofs.Steps.{same_Ok, numbered_step, want_held}
use Rattle.class_spelling_laws.proofs.Lists.{IsSpelled, all_push, counted, distinct_as, IsOwn, own_none, own_more}
use Rattle.class_spelling_laws.proofs.Names.{same_turned}
use Rattle.class_spelling_laws.proofs.Pools.{IsGood}
use Rattle.class_spelling_laws.proofs.Made.{Made, NamesText, text-kept, text_made}
use Rattle.class_spelling_laws.proofs.MethodAttributes.{AreCodes, codes-kept, codes_made, codes_spelled, AreThrows, throws-kept, throws_made, throws_spelled, IsFit, AreAtMost, at_most}

-- ---- The parts of a method

pub record IsMethodOf (pool : List Constant) (info : MethodInfo) (m : MethodLines) : Type 0 where
  pub access : info.access ≡ m.access
  pub name : NamesText pool info.name m.name
  pub descriptor : NamesText pool info.descriptor m.descriptor
  pub code : List MethodAttribute
  pub throws : List MethodAttribute
  pub attributes : info.attributes ≡ code ++ throws
  pub are_codes : AreCodes pool m (has_code m.name m.access) code
  pub are_throws : AreThrows pool m.throws throws
  pub labels : has_undefined_label m ≡ false
  pub ranges : has_bad_range m ≡ false

pub method-kept : (old new : List Constant) (info : MethodInfo) (m : MethodLines) → IsKept old new → IsMethodOf old info m → IsMethodOf new info m
method-kept old new info m kept is = record {
  access = is.access;
  name = text-kept old new info.name m.name kept is.name;
  descriptor = text-kept old new info.descriptor m.descriptor kept is.descriptor;
  code = is.code;
  throws = is.throws;
  attributes = is.attributes;
  are_codes = codes-kept old new m (has_code m.name m.access) is.code kept is.are_codes;
  are_throws = throws-kept old new m.throws is.throws kept is.are_throws;
  labels = is.labels;
  ranges = is.ranges;
}

-- ---- Each method has these parts

labels_sound : (m : MethodLines) (u : Unit {0}) → judge_labels m ≡ Ok u → (has_undefined_label m ≡ false) × (has_bad_range m ≡ false)
unfolding judge_labels
labels_sound m u gives =
    want_step (not (repeats_label m.code)) _ _ _ gives λ once more.
    want_step (not (has_undefined_label m)) _ _ _ more λ defined last.
    (not-true (has_undefined_label m) defined, not-true (has_bad_range m) (want_held (not (has_bad_range m)) fault.CatchRange last))

abbrev MethodMade : List Constant → MethodLines → MethodInfo × List Constant → Type 0
MethodMade pool m r = Made pool r.1 (IsMethodOf r.1 r.0 m)

method_made : (interface : Bool) (pool : List Constant) (m : MethodLines) (r : MethodInfo × List Constant) → IsGood pool → IsFormedMethodLines interface m → method_info pool m ≡ Ok r → MethodMade pool m r
unfolding method_info
method_made interface pool m r good form gives =
    step (judge_labels m) _ _ gives λ judged is_judged more.
    numbered_step (text_entry pool m.name) _ _ more λ name named more2.
    numbered_step (text_entry name.1 m.descriptor) _ _ more2 λ descriptor described more3.
    step (code_attributes descriptor.1 m) _ _ more3 λ code coded more4.
    numbered_step (throws_attributes code.1 m.throws) _ _ more4 λ throws thrown made.
    let labels = labels_sound m judged is_judged in
    let one = text_made pool name.1 m.name name.0 good named in
    let two = text_made name.1 descriptor.1 m.descriptor descriptor.0 one.good described in
    let three = codes_made interface descriptor.1 m code two.good form coded in
    let four = throws_made code.1 m.throws throws three.good form.throws thrown in
    let kept_three = IsKept-transitive descriptor.1 code.1 throws.1 three.kept four.kept in
    let kept_two = IsKept-transitive name.1 descriptor.1 throws.1 two.kept kept_three in
    let info : MethodInfo = record { access = m.access; name = name.0; descriptor = descriptor.0; attributes = code.0 ++ throws.0 } in
    subst (MethodMade pool m) (same_Ok (info, throws.1) r made) (record {
      good = four.good;
      kept = IsKept-transitive pool name.1 throws.1 one.kept kept_two;
      fact = record {
        access = refl;
        name = text-kept name.1 throws.1 name.0 m.name kept_two one.fact;
        descriptor = text-kept descriptor.1 throws.1 descriptor.0 m.descriptor kept_three two.fact;
        code = code.0;
        throws = throws.0;
        attributes = refl;
        are_codes = codes-kept code.1 throws.1 m (has_code m.name m.access) code.0 four.kept three.fact;
        are_throws = four.fact;
        labels = labels.0;
        ranges = labels.1;
      };
    })

abbrev MethodsMade : List MethodInfo → List Constant → List MethodLines → List MethodInfo × List Constant → Type 0
MethodsMade seen pool ms r = Made pool r.1 (IsOwn (IsMethodOf r.1) seen r.0 ms)

pub methods_made : (interface : Bool) (seen : List MethodInfo) (pool : List Constant) (ms : List MethodLines) (r : List MethodInfo × List Constant) → IsGood pool
    → AllByRecursion (IsFormedMethodLines interface) ms → methods_onto seen pool ms ≡ Ok r → MethodsMade seen pool ms r
unfolding methods_onto
methods_made interface seen pool [] r good form gives =
    subst (MethodsMade seen pool []) (same_Ok (seen, pool) r gives) (record { good = good; kept = IsKept-reflexive pool; fact = own_none (IsMethodOf pool) seen })
methods_made interface seen pool (m ∷ ms) r good form gives =
    step (method_info pool m) _ _ gives λ info first more.
    let one = method_made interface pool m info good form.0 first in
    let rest = methods_made interface (seen ++ info.0 ∷ []) info.1 ms r one.good form.1 more in
    record {
      good = rest.good;
      kept = IsKept-transitive pool info.1 r.1 one.kept rest.kept;
      fact = own_more (IsMethodOf r.1) seen r.0 info.0 m ms (method-kept info.1 r.1 info.0 m rest.kept one.fact) rest.fact;
    }

-- ---- The spelling

-- The numbers of catches and of thrown names fit a count of two bytes.
pub record IsFew (m : MethodLines) : Type 0 where
  pub catches : is_too_many m.catches ≡ false
  pub throws : is_too_many m.throws ≡ false

pub method_spelled : (pool : List Constant) (class_access : ℕ) (info : MethodInfo) (m : MethodLines) → IsMethodOf pool info m → IsFormedMethodLines (is_interface class_access) m × IsFew m
    → IsSpelled (SpellsMethod pool 49 class_access) info
method_spelled pool class_access info m is says =
    let form = says.0 in
    let few = says.1 in
    let fit : IsFit m = record { labels = is.labels; ranges = is.ranges; few = few.catches } in
    let name = is.name in
    let descriptor = is.descriptor in
    let is_code = codes_spelled (is_interface class_access) pool m (has_code m.name m.access) is.code form fit is.are_codes in
    let is_throws = throws_spelled pool m.throws is.throws few.throws is.are_throws in
    let most = subst (AreAtMost (has_code m.name m.access)) (sym is.attributes) (at_most pool m (has_code m.name m.access) m.throws is.code is.throws is.are_codes is.are_throws) in
    let each = subst (AllByRecursion (IsSpelled (SpellsMethodAttribute pool 49))) (sym is.attributes) (all_push (IsSpelled (SpellsMethodAttribute pool 49)) is.code is.throws is_code is_throws) in
    let count : IsU2 (length info.attributes) = let two = most.few in omega arith in
    let all = counted (SpellsMethodAttribute pool 49) info.attributes count each in
    let initializer : is_initializer pool info.name ≡ is_initializer_name m.name = ap (is_text_with is_initializer_name) name.1 in
    let named : is_text_with is_method_name (utf8_at pool info.name) ≡ true = ap (is_text_with is_method_name) name.1 ∙ form.name in
    let permitted : (not (is_interface class_access) || is_initializer pool info.name || is_abstract info.access) ≡ true = rw (initializer, is.access) form.permitted in
    let typed : is_text_with (is_method_descriptor_for (is_static info.access || is_initializer pool info.name)) (utf8_at pool info.descriptor) ≡ true = rw (initializer, is.access, descriptor.1) form.descriptor in
    let its_code : HasItsCode pool info = most.code ∙ rw (initializer, is.access) refl in
    let member = u2 info.access ++ (u2 info.name ++ u2 info.descriptor) in
    (member ++ all.0, (named, permitted, typed, most.one_code, most.one_exceptions, its_code, (member, all.0, refl, (subst IsU2 (sym is.access) form.access, name.0, descriptor.0, refl), all.1)))

-- ---- No two methods are equal

one_method : (pool : List Constant) (a b : MethodInfo) (m n : MethodLines) → IsMethodOf pool a m → IsMethodOf pool b n → is_same_method pool b.name b.descriptor a ≡ is_method_like n.name n.descriptor m
one_method pool a b m n is other =
    let a_name = is.name in
    let b_name = other.name in
    let a_descriptor = is.descriptor in
    let b_descriptor = other.descriptor in
    rw (a_name.1, b_name.1, a_descriptor.1, b_descriptor.1) (rw (same_turned m.name n.name, same_turned m.descriptor n.descriptor) refl)

pub methods_distinct : (pool : List Constant) (infos : List MethodInfo) (ms : List MethodLines) → AllZip (IsMethodOf pool) infos ms → IsDistinctBy (λ (m n : MethodLines). is_method_like n.name n.descriptor m) ms
    → IsDistinctBy (λ (m n : MethodInfo). is_same_method pool n.name n.descriptor m) infos
methods_distinct pool infos ms are distinct =
    distinct_as (IsMethodOf pool) (λ m n. is_same_method pool n.name n.descriptor m) (λ m n. is_method_like n.name n.descriptor m) (one_method pool) infos ms are distinct
