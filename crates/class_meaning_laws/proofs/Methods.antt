-- Proves that an assembled method means what its lines denote.
use Rattle.std.proofs.Common.{◌≡◌, ◌≤◌, ℕ, Bool, true, cond, List, [], ◌∷◌, ◌++◌, length, Option, None, Some, Ok, refl, sym, ap, ◌∙◌, subst}
use Rattle.std.specs.Prelude.{codes}
use Rattle.std.specs.Option.{option_map, unwrap_or}
use Rattle.jvms_file.specs.declared.class_file.Constant.{Constant}
use Rattle.jvms_file.specs.declared.class_file.Code.{Code}
use Rattle.jvms_file.specs.declared.class_file.MethodAttribute.{MethodAttribute}
use Rattle.jvms_file.specs.declared.class_file.MethodAttribute.TheVariants as method_attribute
use Rattle.jvms_file.specs.declared.class_file.MethodInfo.{MethodInfo}
use Rattle.jvms_file.specs.Names.{is_initializer_name}
use Rattle.jvms_file.specs.Descriptors.{method_type}
use Rattle.jvms_file.specs.ConstantPool.{utf8_at}
use Rattle.jvms_file.specs.Members.{is_text_with}
use Rattle.jvms_program.specs.declared.program.Body.{Body}
use Rattle.jvms_program.specs.declared.program.Method.{Method}
use Rattle.jvms_program.specs.Meaning.{body_of, code_of, throws_of, flags_of, method_of}
use Rattle.jasmin.specs.declared.source.MethodLines.{MethodLines}
use Rattle.jasmin.specs.Denote.{operations, has_code, body_of as denoted_body_of, method_of as denoted_method}
use Rattle.pool_entries.specs.Entries.{text_entry}
use Rattle.pool_entries.specs.Kept.{IsKept}
use Rattle.pool_entries.proofs.Lookups.{IsKept-reflexive, IsKept-transitive, utf8_at-kept}
use Rattle.assembly.specs.Operands.{operands_onto, catches_onto, classes_onto}
use Rattle.assembly.specs.CodeOf.{code_within}
use Rattle.assembly.specs.Assembled.{judge_labels, code_attribute, code_attributes, throws_attributes, method_info, methods_onto}
use Rattle.assembled_entry_laws.proofs.Steps.{step, choose, same_Ok}
use Rattle.assembled_entry_laws.proofs.Entries.{text_is_entered}
use Rattle.assembled_entry_laws.proofs.Keeping.{operands-kept, catches-kept, classes-kept}
use Rattle.assembled_entry_laws.proofs.Operands.{operands_are_named, catches_are_named, classes_are_named}
use Rattle.class_meaning_laws.proofs.Names.{class_texts_are}
use Rattle.class_meaning_laws.proofs.Bodies.{denoted_body, code_within_means}
use Rattle.class_meaning_laws.proofs.Kept.{numbered_step, Means, AllMean, none_mean, one_more_means}

-- ---- Code

-- The attribute is the code of a method.
record IsCodeOf (pool : List Constant) (m : MethodLines) (r : MethodAttribute × List Constant) : Type 0 where
  name : ℕ
  code : Code
  is : r.0 ≡ method_attribute.Code name code
  kept : IsKept pool r.1
  few : length r.1 ≤ 65534
  means : (final : List Constant) → IsKept r.1 final → body_of final code ≡ denoted_body m

code_means : (pool : List Constant) (m : MethodLines) (r : MethodAttribute × List Constant) → length pool ≤ 65534 → code_attribute pool m ≡ Ok r → IsCodeOf pool m r
unfolding code_attribute
code_means pool m r few gives =
    numbered_step (text_entry pool (codes "Code")) _ _ gives λ name named e.
    numbered_step (operands_onto [] name.1 m.code) _ _ e λ operands numbered_operands e'.
    numbered_step (catches_onto [] operands.1 m.catches) _ _ e' λ caught numbered_caught e''.
    step (code_within operands.0 caught.0 m) _ _ e'' λ code within last.
    let first = text_is_entered pool name.1 (codes "Code") name.0 few named in
    let second = operands_are_named name.1 operands.1 m.code operands.0 first.0.few numbered_operands in
    let third = catches_are_named operands.1 caught.1 m.catches caught.0 second.2 numbered_caught in
    let behind = IsKept-transitive name.1 operands.1 caught.1 second.1 third.1 in
    subst (IsCodeOf pool m) (same_Ok (method_attribute.Code name.0 code, caught.1) r last)
    (record {
      name = name.0;
      code = code;
      is = refl;
      kept = IsKept-transitive pool name.1 caught.1 first.0.kept behind;
      few = third.2;
      means = λ final kept.
          code_within_means final operands.0 caught.0 m code
          (operands-kept operands.1 final operands.0 (operations m.code) (IsKept-transitive operands.1 caught.1 final third.1 kept) second.0)
          (catches-kept caught.1 final caught.0 m.catches kept third.0)
          within;
    })

-- The attributes are the code of a method, or none if it has no code.
record AreCodeOf (pool : List Constant) (m : MethodLines) (r : List MethodAttribute × List Constant) : Type 0 where
  kept : IsKept pool r.1
  few : length r.1 ≤ 65534
  means : (final : List Constant) → IsKept r.1 final → option_map (body_of final) (code_of r.0) ≡ denoted_body_of m
  no_throws : (final : List Constant) (others : List MethodAttribute) → throws_of final (r.0 ++ others) ≡ throws_of final others

-- Returns the body of a method, if it has code.
abbrev body_if : MethodLines → Bool → Option Body
body_if m has = cond has (Some (denoted_body m)) None

with_code : (pool : List Constant) (m : MethodLines) (a : MethodAttribute × List Constant) → has_code m.name m.access ≡ true → IsCodeOf pool m a → AreCodeOf pool m (a.0 ∷ [], a.1)
with_code pool m a has c = record {
  kept = c.kept;
  few = c.few;
  means = λ final kept.
      ap (λ x. option_map (body_of final) (code_of (x ∷ []))) c.is
      ∙ ap (λ b. Some b) (c.means final kept)
      ∙ sym (ap (body_if m) has);
  no_throws = λ final others. ap (λ x. throws_of final (x ∷ others)) c.is;
}

codes_mean : (pool : List Constant) (m : MethodLines) (r : List MethodAttribute × List Constant) → length pool ≤ 65534 → code_attributes pool m ≡ Ok r → AreCodeOf pool m r
unfolding code_attributes
codes_mean pool m r few gives =
    choose (has_code m.name m.access) _ _ _ gives
    (λ has made. step (code_attribute pool m) _ _ made λ a is last.
    subst (AreCodeOf pool m) (same_Ok (a.0 ∷ [], a.1) r last) (with_code pool m a has (code_means pool m a few is)))
    (λ has none. subst (AreCodeOf pool m) (same_Ok ([], pool) r none)
    (record { kept = IsKept-reflexive pool; few = few; means = λ final kept. sym (ap (body_if m) has); no_throws = λ final others. refl }))

-- ---- What a method throws

record AreThrowsOf (pool : List Constant) (classes : List (List ℕ)) (r : List MethodAttribute × List Constant) : Type 0 where
  kept : IsKept pool r.1
  few : length r.1 ≤ 65534
  no_code : code_of r.0 ≡ None
  means : (final : List Constant) → IsKept r.1 final → throws_of final r.0 ≡ classes

throws_mean : (pool : List Constant) (classes : List (List ℕ)) (r : List MethodAttribute × List Constant) → length pool ≤ 65534 → throws_attributes pool classes ≡ Ok r → AreThrowsOf pool classes r
unfolding throws_attributes
throws_mean pool [] r few gives =
    subst (AreThrowsOf pool []) (same_Ok ([], pool) r gives) (record { kept = IsKept-reflexive pool; few = few; no_code = refl; means = λ final kept. refl })
throws_mean pool (class ∷ classes) r few gives =
    step (text_entry pool (codes "Exceptions")) _ _ gives λ name named e.
    step (classes_onto [] name.1 (class ∷ classes)) _ _ e λ numbers numbered last.
    let first = text_is_entered pool name.1 (codes "Exceptions") name.0 few named in
    let second = classes_are_named name.1 numbers.1 (class ∷ classes) numbers.0 first.0.few numbered in
    subst (AreThrowsOf pool (class ∷ classes)) (same_Ok (method_attribute.Exceptions name.0 numbers.0 ∷ [], numbers.1) r last)
    (record {
      kept = IsKept-transitive pool name.1 numbers.1 first.0.kept second.1;
      few = second.2;
      no_code = refl;
      means = λ final kept. class_texts_are final numbers.0 (class ∷ classes) (classes-kept numbers.1 final numbers.0 (class ∷ classes) kept second.0);
    })

-- Appended attributes without code don't change the code.
code_in_front : (xs ys : List MethodAttribute) → code_of ys ≡ None → code_of (xs ++ ys) ≡ code_of xs
code_in_front [] ys none = none
code_in_front (method_attribute.Code name c ∷ xs) ys none = refl
code_in_front (method_attribute.Exceptions name classes ∷ xs) ys none = code_in_front xs ys none
code_in_front (method_attribute.Kept a ∷ xs) ys none = code_in_front xs ys none

-- ---- Methods

-- Returns a method with the texts that its indices name.
abbrev method_by : ℕ → Option (List ℕ) → Option (List ℕ) → List (List ℕ) → Option Body → Method
method_by access name descriptor throws body =
    record {
      name = unwrap_or name [];
      descriptor = unwrap_or descriptor [];
      method_type = method_type (unwrap_or descriptor []);
      flags = flags_of (is_text_with is_initializer_name name) access;
      throws = throws;
      body = body;
    }

method_is : (m : MethodLines) (n d : ℕ) (attributes : List MethodAttribute) (final : List Constant) → utf8_at final n ≡ Some m.name → utf8_at final d ≡ Some m.descriptor
    → throws_of final attributes ≡ m.throws → option_map (body_of final) (code_of attributes) ≡ denoted_body_of m
    → method_of final (record { access = m.access; name = n; descriptor = d; attributes = attributes }) ≡ denoted_method m
method_is m n d attributes final name descriptor throws body =
    ap (λ t. method_by m.access t (utf8_at final d) (throws_of final attributes) (option_map (body_of final) (code_of attributes))) name
    ∙ ap (λ t. method_by m.access (Some m.name) t (throws_of final attributes) (option_map (body_of final) (code_of attributes))) descriptor
    ∙ ap (λ ts. method_by m.access (Some m.name) (Some m.descriptor) ts (option_map (body_of final) (code_of attributes))) throws
    ∙ ap (method_by m.access (Some m.name) (Some m.descriptor) m.throws) body

method_means : (pool : List Constant) (m : MethodLines) (r : MethodInfo × List Constant) → length pool ≤ 65534 → method_info pool m ≡ Ok r → Means method_of pool (denoted_method m) r
unfolding method_info
method_means pool m r few gives =
    step (judge_labels m) _ _ gives λ judged is_judged e.
    numbered_step (text_entry pool m.name) _ _ e λ name named e1.
    numbered_step (text_entry name.1 m.descriptor) _ _ e1 λ descriptor described e2.
    step (code_attributes descriptor.1 m) _ _ e2 λ code coded e3.
    numbered_step (throws_attributes code.1 m.throws) _ _ e3 λ throws thrown last.
    let first = text_is_entered pool name.1 m.name name.0 few named in
    let second = text_is_entered name.1 descriptor.1 m.descriptor descriptor.0 first.0.few described in
    let third = codes_mean descriptor.1 m code second.0.few coded in
    let fourth = throws_mean code.1 m.throws throws third.few thrown in
    let info : MethodInfo = record { access = m.access; name = name.0; descriptor = descriptor.0; attributes = code.0 ++ throws.0 } in
    let behind_code = fourth.kept in
    let behind_descriptor = IsKept-transitive descriptor.1 code.1 throws.1 third.kept behind_code in
    let behind_name = IsKept-transitive name.1 descriptor.1 throws.1 second.0.kept behind_descriptor in
    subst (Means method_of pool (denoted_method m)) (same_Ok (info, throws.1) r last)
    (record {
      kept = IsKept-transitive pool name.1 throws.1 first.0.kept behind_name;
      few = fourth.few;
      is = λ final kept.
          method_is m name.0 descriptor.0 (code.0 ++ throws.0) final
          (utf8_at-kept name.1 final name.0 m.name (IsKept-transitive name.1 throws.1 final behind_name kept) first.1)
          (utf8_at-kept descriptor.1 final descriptor.0 m.descriptor (IsKept-transitive descriptor.1 throws.1 final behind_descriptor kept) second.1)
          (third.no_throws final throws.0 ∙ fourth.means final kept)
          (ap (option_map (body_of final)) (code_in_front code.0 throws.0 fourth.no_code) ∙ third.means final (IsKept-transitive code.1 throws.1 final behind_code kept));
    })

pub methods_mean : (seen : List MethodInfo) (pool : List Constant) (ms : List MethodLines) (r : List MethodInfo × List Constant) → length pool ≤ 65534 → methods_onto seen pool ms ≡ Ok r
    → AllMean method_of denoted_method seen pool ms r
unfolding methods_onto
methods_mean seen pool [] r few gives = none_mean method_of denoted_method seen pool r few gives
methods_mean seen pool (m ∷ ms) r few gives =
    step (method_info pool m) _ _ gives λ info is more.
    let first = method_means pool m info few is in
    one_more_means method_of denoted_method seen pool m ms info r first (methods_mean (seen ++ info.0 ∷ []) info.1 ms r first.few more)
