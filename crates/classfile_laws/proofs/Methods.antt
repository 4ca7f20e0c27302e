-- Methods and their attributes (JVMS 4.6, 4.7.3, 4.7.5). Spelled ones are read, and read ones are spelled so.
use Rattle.std.proofs.Common.{◌≡◌, ℕ, Bool, true, false, not, ◌||◌, List, [], ◌∷◌, ◌++◌, length, Option, Some, None, Ok, refl, sym, ap, subst, ◌∙◌, append_assoc, inl, inr}
use Rattle.std.specs.Prelude.{codes}
use Rattle.std.specs.List.{list_any}
use Rattle.std.specs.Cmp.Lexicographic.{same_text as text_of_test}
use Rattle.std.proofs.lemmas.Bool.{not-true, true≢false, cases_Bool, or_from}
use Rattle.std.proofs.lemmas.List.{append-nil}
use Rattle.std.proofs.lemmas.List.Folds.{list_any-append}
use Rattle.jvms_file.specs.declared.class_file.Constant.{Constant}
use Rattle.jvms_file.specs.declared.class_file.MethodAttribute.{MethodAttribute}
use Rattle.jvms_file.specs.declared.class_file.MethodAttribute.TheVariants as method_attribute
use Rattle.jvms_file.specs.declared.class_file.MethodInfo.{MethodInfo}
use Rattle.jvms_file.specs.declared.fault.ClassFault.{ClassFault}
use Rattle.jvms_file.specs.declared.fault.ClassFault.TheVariants as fault
use Rattle.jvms_file.specs.Names.{same_text, is_method_name}
use Rattle.jvms_file.specs.ConstantPool.{utf8_at, is_utf8}
use Rattle.jvms_file.specs.Members.{AttributeFrame, is_abstract, is_interface, is_static, kept_content_at, is_named, class_number_at, code_at, exceptions_at, is_code, is_exceptions, needs_code, method_attribute_at, is_text_with, is_initializer, is_method_descriptor_for, is_same_method, method_at, methods_at}
use Rattle.jvms_file.specs.Spelling.{u2, u4, Counted, AtMostOne, IsDistinctBy, SpellsCode, SpellsClassNumber, SpellsMethodAttribute, SpellsMethod}
use Rattle.classfile_laws.proofs.Numbers.{IsBytes, u2_again}
use Rattle.classfile_laws.proofs.Steps.{Found, answered, choose, joined, step, want_step, u2_step}
use Rattle.classfile_laws.proofs.Lists.{Any, ReadsEach, FindsEach, any_here, counted_again, counted_then, counted_found, counted_step, none_before, one_more, distinct_before, one_more_distinct}
use Rattle.classfile_laws.proofs.Attributes.{named_is_utf8, text_is_utf8, kept_content_again, kept_content_found, kept_parts, whole_frame, frame_again, frame_step, want_all_step, framed_found, class_number_again, class_number_found}
use Rattle.classfile_laws.proofs.CodeContent.{code_again, code_found}

-- ---- Exceptions.

-- Exceptions that are spelled are read in their frame.
pub exceptions_again : (pool : List Constant) (content : List ℕ) (classes : List ℕ) (rest : List ℕ) → Counted (SpellsClassNumber pool) content classes → exceptions_at pool (whole_frame content rest) ≡ Ok (classes, rest)
exceptions_again pool content classes rest s =
    rw (sym (append-nil content))
    (counted_then (SpellsClassNumber pool) Any (λ seen. class_number_at pool fault.AttributeLength) (λ seen n after first behind good one. class_number_again pool fault.AttributeLength first n behind one) fault.AttributeLength classes content [] _ tt s)

-- Exceptions that were read in a frame.
record FoundExceptions (pool : List Constant) (frame : AttributeFrame) (classes : List ℕ) (rest : List ℕ) : Type 0 where
  whole : frame.whole ≡ true
  spells : Counted (SpellsClassNumber pool) frame.content classes
  behind : frame.after ≡ rest

-- Exceptions that were read in a frame are all of its content.
exceptions_found : (pool : List Constant) (frame : AttributeFrame) (classes : List ℕ) (rest : List ℕ) → IsBytes frame.content → exceptions_at pool frame ≡ Ok (classes, rest) → FoundExceptions pool frame classes rest
exceptions_found pool frame classes rest are e =
    counted_step (SpellsClassNumber pool) Any (λ seen. class_number_at pool frame.cut) (λ seen front n behind good these one. (class_number_found pool frame.cut front n behind these one, tt)) frame.cut frame.content _ _ tt are e (λ numbers first left counted good parts left_are e1.
    want_all_step frame left _ _ e1 (λ none whole last.
    let same = answered numbers classes frame.after rest last in
    let all : first ≡ frame.content = sym (parts ∙ ap (λ (w : List ℕ). first ++ w) none ∙ append-nil first) in
    record { whole = whole; spells = subst (λ (w : List ℕ). Counted (SpellsClassNumber pool) w classes) all (subst (Counted (SpellsClassNumber pool) first) same.0 counted); behind = same.1 }))

-- ---- Attributes of a method.

-- The name of Exceptions isn't that of Code.
exceptions_not_code : (pool : List Constant) (n : ℕ) → is_named pool n (codes "Exceptions") ≡ true → is_named pool n (codes "Code") ≡ false
exceptions_not_code pool n = other (utf8_at pool n)
  where
    other : (o : Option (List ℕ)) → elim o as (λ _. Bool) [ None ↦ false | Some text ↦ same_text text (codes "Exceptions") ] ≡ true → elim o as (λ _. Bool) [ None ↦ false | Some text ↦ same_text text (codes "Code") ] ≡ false
    other None e = refl
    other (Some text) e = rw (text_of_test text (codes "Exceptions") (sym e)) refl

-- A method has at most one Code and one Exceptions, and Code only if it may have it.
abbrev pub AreAttributes : Bool → List MethodAttribute → Type 0
AreAttributes asked attributes = AtMostOne is_code attributes × AtMostOne is_exceptions attributes × (list_any is_code attributes ≡ true → asked ≡ true)

-- An attribute of a method is read from its spelling.
pub method_attribute_again : (pool : List Constant) (major : ℕ) → (cut : ClassFault) (asked : Bool) → ReadsEach (SpellsMethodAttribute pool major) (AreAttributes asked) (method_attribute_at pool major cut asked)
method_attribute_again pool major cut asked seen (method_attribute.Code name c) after first rest good s =
    let content = s.2 in
    let none : list_any is_code seen ≡ false = none_before is_code seen (method_attribute.Code name c) after good.0 refl in
    let asks : asked ≡ true = good.2 (any_here is_code seen (method_attribute.Code name c) after refl) in
    rw (s.5, append_assoc (u2 name) (u4 (length content) ++ content) rest, append_assoc (u4 (length content)) content rest, u2_again cut name (u4 (length content) ++ (content ++ rest)) s.0, named_is_utf8 pool name (codes "Code") s.1, s.1, none, asks, frame_again cut content rest s.3, code_again pool major content c rest s.4) refl
method_attribute_again pool major cut asked seen (method_attribute.Exceptions name classes) after first rest good s =
    let content = s.2 in
    let none : list_any is_exceptions seen ≡ false = none_before is_exceptions seen (method_attribute.Exceptions name classes) after good.1 refl in
    rw (s.5, append_assoc (u2 name) (u4 (length content) ++ content) rest, append_assoc (u4 (length content)) content rest, u2_again cut name (u4 (length content) ++ (content ++ rest)) s.0, named_is_utf8 pool name (codes "Exceptions") s.1, exceptions_not_code pool name s.1, s.1, none, frame_again cut content rest s.3, exceptions_again pool content classes rest s.4) refl
method_attribute_again pool major cut asked seen (method_attribute.Kept a) after first rest good s =
    let kept = s.0 in
    rw (kept.3, append_assoc (u2 a.name) (u4 (length a.bytes) ++ a.bytes) rest, append_assoc (u4 (length a.bytes)) a.bytes rest, u2_again cut a.name (u4 (length a.bytes) ++ (a.bytes ++ rest)) kept.0, kept.1, s.1, s.2, kept_content_again cut a rest kept.2) refl

-- One more attribute that was read.
more_attributes : (asked : Bool) (seen : List MethodAttribute) (a : MethodAttribute) → AreAttributes asked seen
    → (is_code a ≡ true → (list_any is_code seen ≡ false) × (asked ≡ true)) → (is_exceptions a ≡ true → list_any is_exceptions seen ≡ false) → AreAttributes asked (seen ++ a ∷ [])
more_attributes asked seen a good code exceptions = (one_more is_code seen a good.0 (λ is. (code is).0), one_more is_exceptions seen a good.1 exceptions, asks)
  where
    asks : list_any is_code (seen ++ a ∷ []) ≡ true → asked ≡ true
    asks some = elim (cases_Bool (list_any is_code seen)) [
      | inl before ↦ good.2 before
      | inr none ↦ elim (cases_Bool (is_code a)) [
        | inl is ↦ (code is).1
        | inr other ↦ absurd (true≢false (sym some ∙ list_any-append is_code seen (a ∷ []) ∙ or_from (list_any is_code seen) (is_code a || false) none (or_from (is_code a) false other refl)))
      ]
    ]

-- An attribute that was read is spelled, and keeps the list of attributes good.
abbrev FoundAttribute : List Constant → ℕ → Bool → List MethodAttribute → List ℕ → MethodAttribute → List ℕ → Type 0
FoundAttribute pool major asked seen bytes x rest = Found (SpellsMethodAttribute pool major) bytes x rest × AreAttributes asked (seen ++ x ∷ [])

-- An attribute of a method is spelled where it was read.
pub method_attribute_found : (pool : List Constant) (major : ℕ) → (cut : ClassFault) (asked : Bool) → FindsEach (SpellsMethodAttribute pool major) (AreAttributes asked) (method_attribute_at pool major cut asked)
method_attribute_found pool major cut asked seen bytes x rest good are e =
    u2_step cut bytes _ _ are e (λ name behind fits parts left e1.
    want_step (is_utf8 pool name) fault.Index _ _ e1 (λ text e2.
    choose (is_named pool name (codes "Code")) _ _ _ e2
    (λ named f. want_step (not (list_any is_code seen)) fault.RepeatedAttribute _ _ f (λ fresh f1.
    want_step asked fault.CodePresence _ _ f1 (λ asks f2.
    frame_step cut behind _ _ left f2 (λ frame framing f3.
    step (code_at pool major frame) _ _ f3 (λ c c_is last.
    let code = code_found pool major frame c.0 c.1 framing.content c_is in
    let same = answered (method_attribute.Code name c.0) x c.1 rest last in
    let found = framed_found pool (codes "Code") name bytes behind frame (λ content. SpellsCode pool major content c.0) rest fits named parts framing code.whole code.spells (code.behind ∙ same.1) in
    subst (λ (a : MethodAttribute). FoundAttribute pool major asked seen bytes a rest) same.0 (
      record { first = found.first; parts = found.parts; spells = found.spells; left = found.left },
      more_attributes asked seen (method_attribute.Code name c.0) good (λ _. (not-true (list_any is_code seen) fresh, asks)) (λ passes. absurd cc),
    ))))))
    (λ not_code f. choose (is_named pool name (codes "Exceptions")) _ _ _ f
    (λ named f0. want_step (not (list_any is_exceptions seen)) fault.RepeatedAttribute _ _ f0 (λ fresh f1.
    frame_step cut behind _ _ left f1 (λ frame framing f2.
    step (exceptions_at pool frame) _ _ f2 (λ c c_is last.
    let exceptions = exceptions_found pool frame c.0 c.1 framing.content c_is in
    let same = answered (method_attribute.Exceptions name c.0) x c.1 rest last in
    let found = framed_found pool (codes "Exceptions") name bytes behind frame (λ content. Counted (SpellsClassNumber pool) content c.0) rest fits named parts framing exceptions.whole exceptions.spells (exceptions.behind ∙ same.1) in
    subst (λ (a : MethodAttribute). FoundAttribute pool major asked seen bytes a rest) same.0 (
      record { first = found.first; parts = found.parts; spells = found.spells; left = found.left },
      more_attributes asked seen (method_attribute.Exceptions name c.0) good (λ passes. absurd cc) (λ _. not-true (list_any is_exceptions seen) fresh),
    )))))
    (λ not_exceptions f0. step (kept_content_at cut name behind) _ _ f0 (λ k k_is last.
    let same = answered (method_attribute.Kept k.0) x k.1 rest last in
    let found = kept_content_found cut name behind k.0 k.1 left k_is in
    let other : (text : List ℕ) → is_named pool name text ≡ false → is_named pool k.0.name text ≡ false = λ text is. subst (λ (n : ℕ). is_named pool n text ≡ false) found.spells.0 is in
    subst (λ (a : MethodAttribute). FoundAttribute pool major asked seen bytes a rest) same.0 (
      record { first = u2 name ++ found.first; parts = joined (u2 name) found.first rest bytes behind k.1 parts found.parts same.1; spells = (kept_parts pool name found.first k.0 fits text found.spells, other (codes "Code") not_code, other (codes "Exceptions") not_exceptions); left = subst IsBytes same.1 found.left },
      more_attributes asked seen (method_attribute.Kept k.0) good (λ passes. absurd cc) (λ passes. absurd cc),
    ))))))

-- ---- Methods.

-- The second method has the name and the descriptor of the first.
abbrev pub same_method : List Constant → MethodInfo → MethodInfo → Bool
same_method pool m n = is_same_method pool n.name n.descriptor m

-- Code that is there, or isn't asked, is where it is asked.
code_where_asked : (asked any : Bool) → any ≡ asked → (not asked || any) ≡ true
code_where_asked true any is = is
code_where_asked false any is = refl

-- Code is asked exactly where it is there, if it is there only where it is asked.
asked_where_code : (asked any : Bool) → (any ≡ true → asked ≡ true) → (not asked || any) ≡ true → any ≡ asked
asked_where_code true any only e = e
asked_where_code false true only e = absurd (true≢false (sym (only refl)))
asked_where_code false false only e = refl

-- A method is read from its spelling, if no two are the same.
pub method_again : (pool : List Constant) (major : ℕ) → (cut : ClassFault) (class_access : ℕ) → ReadsEach (SpellsMethod pool major class_access) (IsDistinctBy (same_method pool)) (method_at pool major cut class_access)
unfolding method_at
method_again pool major cut class_access seen m after first rest good s =
    let asked = needs_code (is_initializer pool m.name) m.access in
    let on_none = is_static m.access || is_initializer pool m.name in
    let two = s.6 in
    let attributes = two.1 in
    let member = two.3 in
    let fresh : list_any (is_same_method pool m.name m.descriptor) seen ≡ false = distinct_before (same_method pool) seen m after good in
    rw (
      two.2,
      append_assoc two.0 attributes rest,
      member.3,
      append_assoc (u2 m.access) (u2 m.name ++ u2 m.descriptor) (attributes ++ rest),
      append_assoc (u2 m.name) (u2 m.descriptor) (attributes ++ rest),
      u2_again cut m.access (u2 m.name ++ (u2 m.descriptor ++ (attributes ++ rest))) member.0,
      u2_again cut m.name (u2 m.descriptor ++ (attributes ++ rest)) member.1,
      text_is_utf8 pool m.name is_method_name s.0,
      s.0,
      s.1,
      u2_again cut m.descriptor (attributes ++ rest) member.2,
      text_is_utf8 pool m.descriptor (is_method_descriptor_for on_none) s.2,
      s.2,
      fresh,
    )
    (counted_then (SpellsMethodAttribute pool major) (AreAttributes asked) (method_attribute_at pool major cut asked) (method_attribute_again pool major cut asked) cut m.attributes attributes rest _ (s.3, s.4, λ some. sym s.5 ∙ some) two.4
    ∙ rw (code_where_asked asked (list_any is_code m.attributes) s.5) refl)

-- A method is spelled where it was read, and no two are the same.
pub method_found : (pool : List Constant) (major : ℕ) → (cut : ClassFault) (class_access : ℕ) → FindsEach (SpellsMethod pool major class_access) (IsDistinctBy (same_method pool)) (method_at pool major cut class_access)
unfolding method_at
method_found pool major cut class_access seen bytes x rest good are e =
    u2_step cut bytes _ _ are e (λ access r1 fits1 parts1 left1 e1.
    u2_step cut r1 _ _ left1 e1 (λ name r2 fits2 parts2 left2 e2.
    want_step (is_utf8 pool name) fault.Index _ _ e2 (λ _ e3.
    want_step (is_text_with is_method_name (utf8_at pool name)) fault.Descriptor _ _ e3 (λ named e4.
    want_step (not (is_interface class_access) || is_initializer pool name || is_abstract access) fault.CodePresence _ _ e4 (λ present e5.
    u2_step cut r2 _ _ left2 e5 (λ descriptor r3 fits3 parts3 left3 e6.
    want_step (is_utf8 pool descriptor) fault.Index _ _ e6 (λ _ e7.
    want_step (is_text_with (is_method_descriptor_for (is_static access || is_initializer pool name)) (utf8_at pool descriptor)) fault.Descriptor _ _ e7 (λ typed e8.
    want_step (not (list_any (is_same_method pool name descriptor) seen)) fault.RepeatedMember _ _ e8 (λ fresh e9.
    let asked = needs_code (is_initializer pool name) access in
    counted_step (SpellsMethodAttribute pool major) (AreAttributes asked) (method_attribute_at pool major cut asked) (method_attribute_found pool major cut asked) cut r3 _ _ (tt, tt, λ some. absurd cc) left3 e9 (λ attributes spelled r4 counted one parts4 left4 e10.
    want_step (not asked || list_any is_code attributes) fault.CodePresence _ _ e10 (λ there last.
    let m : MethodInfo = record { access = access; name = name; descriptor = descriptor; attributes = attributes } in
    let same = answered m x r4 rest last in
    let front = u2 access ++ (u2 name ++ u2 descriptor) in
    let member : bytes ≡ (u2 access ++ (u2 name ++ u2 descriptor)) ++ r3 = joined (u2 access) (u2 name ++ u2 descriptor) r3 bytes r1 r3 parts1 (joined (u2 name) (u2 descriptor) r3 r1 r2 r3 parts2 parts3 refl) refl in (
      record {
        first = front ++ spelled;
        parts = joined front spelled rest bytes r3 r4 member parts4 same.1;
        spells = subst (SpellsMethod pool major class_access (front ++ spelled)) same.0 (named, present, typed, one.0, one.1, asked_where_code asked (list_any is_code attributes) one.2 there, (front, spelled, refl, (fits1, fits2, fits3, refl), counted));
        left = subst IsBytes same.1 left4;
      },
      subst (λ (n : MethodInfo). IsDistinctBy (same_method pool) (seen ++ n ∷ [])) same.0 (one_more_distinct (same_method pool) seen m good (not-true (list_any (is_same_method pool name descriptor) seen) fresh)),
    ))))))))))))

-- Methods are read from their spelling.
pub methods_again : (pool : List Constant) (major : ℕ) → (cut : ClassFault) (class_access : ℕ) (methods : List MethodInfo) (bytes rest : List ℕ)
    → IsDistinctBy (same_method pool) methods → Counted (SpellsMethod pool major class_access) bytes methods → methods_at pool major cut class_access (bytes ++ rest) ≡ Ok (methods, rest)
methods_again pool major cut class_access methods bytes rest distinct s =
    counted_again (SpellsMethod pool major class_access) (IsDistinctBy (same_method pool)) (method_at pool major cut class_access) (method_again pool major cut class_access) cut methods bytes rest distinct s

-- Methods are spelled where they were read.
pub methods_found : (pool : List Constant) (major : ℕ) → (cut : ClassFault) (class_access : ℕ) (methods : List MethodInfo) (bytes rest : List ℕ)
    → IsBytes bytes → methods_at pool major cut class_access bytes ≡ Ok (methods, rest) → Found (Counted (SpellsMethod pool major class_access)) bytes methods rest × IsDistinctBy (same_method pool) methods
methods_found pool major cut class_access methods bytes rest are e =
    counted_found (SpellsMethod pool major class_access) (IsDistinctBy (same_method pool)) (method_at pool major cut class_access) (method_found pool major cut class_access) cut methods bytes rest tt are e
