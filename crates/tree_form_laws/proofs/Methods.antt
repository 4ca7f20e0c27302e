-- Proves that the lines of methods have the form that a class file requires (JVMS 4.6, 4.7.3, 4.7.5).
use Rattle.std.proofs.Common.{◌≡◌, ℕ, Bool, true, not, ◌==◌, ◌||◌, List, [], ◌∷◌, length, map, Option, Some, None, Result, Ok, refl, sym, ap, subst, arith}
use Rattle.std.specs.List.{AllByRecursion}
use Rattle.std.proofs.lemmas.Bool.{cond_both}
use Rattle.std.proofs.lemmas.Option.{same_Some}
use Rattle.jvms_file.specs.declared.class_file.Constant.{Constant}
use Rattle.jvms_file.specs.declared.class_file.MethodAttribute.{MethodAttribute}
use Rattle.jvms_file.specs.declared.class_file.MethodAttribute.TheVariants as method_attribute
use Rattle.jvms_file.specs.declared.class_file.Layout.{Layout}
use Rattle.jvms_file.specs.declared.class_file.Code.{Code}
use Rattle.jvms_file.specs.declared.class_file.MethodInfo.{MethodInfo}
use Rattle.jvms_file.specs.Names.{is_method_name, is_initializer_name}
use Rattle.jvms_file.specs.ConstantPool.{utf8_at, is_class}
use Rattle.jvms_file.specs.Code.{with_zero_pads}
use Rattle.jvms_file.specs.Results.{◌>>=◌}
use Rattle.jvms_file.specs.Members.{is_static, is_abstract, is_interface, is_initializer, is_method_descriptor_for, is_same_method}
use Rattle.jvms_file.specs.Spelling.{IsU2, InOrder, SpellsInsns, SpellsHandler, SpellsCode, SpellsClassNumber, SpellsMethodAttribute, SpellsMethod}
use Rattle.jvms_program.specs.Meaning.{text_of, class_text, code_of, throws_of}
use Rattle.jasmin.specs.declared.source.Caught.TheVariants as caught
use Rattle.jasmin.specs.declared.source.CatchLine.{CatchLine}
use Rattle.jasmin.specs.declared.source.CodeItem.{CodeItem}
use Rattle.jasmin.specs.declared.source.MethodLines.{MethodLines}
use Rattle.jasmin.specs.Reading.{is_method_like}
use Rattle.source_form_laws.specs.Formed.{IsClassOrArray, IsFormedItem, IsFormedCaught, IsFormedMethodLines}
use Rattle.listing_spec.specs.declared.fault.ListFault.{ListFault}
use Rattle.listing_spec.specs.TreeOf.{items_onto, caught_of, catch_of, method_flags, method_with, method_lines}
use Rattle.classfile_laws.proofs.Steps.{step}
use Rattle.classfile_laws.proofs.InsnPads.{zero_pads_spell}
use Rattle.tree_form_laws.proofs.Steps.{same_Ok, other_holds}
use Rattle.tree_form_laws.proofs.Flags.{method_flags_small, static_kept, abstract_kept}
use Rattle.tree_form_laws.proofs.Lists.{all_spelled}
use Rattle.tree_form_laws.proofs.Pools.{IsSound, class_named}
use Rattle.tree_form_laws.proofs.Texts.{text_named, text_passes, initializer_is, same_texts}
use Rattle.tree_form_laws.proofs.Operations.{operation_formed}
use Rattle.tree_form_laws.proofs.Items.{OfLabels, OfInsns, items_all}

-- ---- Code

-- Some bytes spell the code.
abbrev pub IsSpelledCode : List Constant → ℕ → Code → Type 0
IsSpelledCode pool major c = (content : List ℕ) × SpellsCode pool major content c

-- The content of a method's Code attribute spells its code.
pub code_spelled : (pool : List Constant) (major : ℕ) (bytes : List ℕ) (attributes : List MethodAttribute) (c : Code) → InOrder (SpellsMethodAttribute pool major) bytes attributes → code_of attributes ≡ Some c → IsSpelledCode pool major c
code_spelled pool major bytes [] c spelled is = absurd cc
code_spelled pool major bytes (method_attribute.Code name d ∷ others) c spelled is =
    subst (IsSpelledCode pool major) (same_Some d c is) (spelled.3.2, spelled.3.4)
code_spelled pool major bytes (method_attribute.Exceptions name classes ∷ others) c spelled is = code_spelled pool major spelled.1 others c spelled.4 is
code_spelled pool major bytes (method_attribute.Kept a ∷ others) c spelled is = code_spelled pool major spelled.1 others c spelled.4 is

-- The bytes of a layout spell the instructions.
layout_spelled : (pool : List Constant) (major : ℕ) (c : Code) → IsSpelledCode pool major c → SpellsInsns pool major c.layout.starts c.layout.bytes c.insns
layout_spelled pool major c spelled =
    let code = spelled.1.2 in
    let same : c.layout.bytes ≡ with_zero_pads c.layout.starts c.insns code = ap (λ (l : Layout). l.bytes) spelled.1.5 in
    subst (λ (b : List ℕ). SpellsInsns pool major c.layout.starts b c.insns) (sym same) (zero_pads_spell pool major c.layout.starts code c.insns spelled.1.4)

-- A property of each label and each instruction is one of each item of a method's code.
pub code_all : (P : CodeItem → Type 0) (pool : List Constant) (major : ℕ) (c : Code) (items : List CodeItem) → IsSpelledCode pool major c → OfLabels P → OfInsns pool major c.layout.starts c.layout.bytes P
    → items_onto pool c [] 0 c.layout.starts c.insns ≡ Ok items → AllByRecursion P items
code_all P pool major c items spelled labels each e =
    items_all P pool major c.layout.starts c labels each [] 0 [] c.layout.bytes c.insns c.layout.starts items refl (layout_spelled pool major c spelled) tt e

code_formed : (pool : List Constant) → IsSound pool → (major : ℕ) (c : Code) (items : List CodeItem) → IsSpelledCode pool major c → items_onto pool c [] 0 c.layout.starts c.insns ≡ Ok items → AllByRecursion IsFormedItem items
code_formed pool are major c items spelled e =
    code_all IsFormedItem pool major c items spelled (λ place. tt)
    (λ pc first i o at is made. operation_formed pool are major c.layout.starts c.layout.bytes pc first i o at is made) e

-- ---- Catches and thrown classes

catch_formed : (pool : List Constant) → IsSound pool → (n : ℕ) → (n == 0 || is_class pool n) ≡ true → IsFormedCaught (caught_of pool n)
catch_formed pool are n is =
    cond_both (n == 0) caught.All (caught.Class (class_text pool n)) IsFormedCaught (λ all. tt)
    (λ other. class_named pool are n (other_holds (n == 0) (is_class pool n) is other))

catches_formed : (pool : List Constant) → IsSound pool → (major : ℕ) (c : Code) → IsSpelledCode pool major c → AllByRecursion (λ (l : CatchLine). IsFormedCaught l.caught) (map (catch_of pool) c.handlers)
catches_formed pool are major c spelled =
    let code = spelled.1.2 in
    all_spelled (SpellsHandler pool c.layout.starts (length code)) (λ (l : CatchLine). IsFormedCaught l.caught) (catch_of pool)
    (λ bytes h is. catch_formed pool are h.catch_type is.11) spelled.1.7.1.1 c.handlers spelled.1.7.1.4

throws_formed : (pool : List Constant) → IsSound pool → (major : ℕ) (bytes : List ℕ) (attributes : List MethodAttribute) → InOrder (SpellsMethodAttribute pool major) bytes attributes → AllByRecursion IsClassOrArray (throws_of pool attributes)
throws_formed pool are major bytes [] spelled = tt
throws_formed pool are major bytes (method_attribute.Exceptions name classes ∷ others) spelled =
    let content = spelled.3.4.1 in
    all_spelled (SpellsClassNumber pool) IsClassOrArray (class_text pool) (λ first n is. class_named pool are n is.1) content.1 classes content.4
throws_formed pool are major bytes (method_attribute.Code name c ∷ others) spelled = throws_formed pool are major spelled.1 others spelled.4
throws_formed pool are major bytes (method_attribute.Kept a ∷ others) spelled = throws_formed pool are major spelled.1 others spelled.4

-- ---- Lines

-- Lines are made of this method.
pub record IsMethodOf (pool : List Constant) (interface : Bool) (m : MethodInfo) (lines : MethodLines) : Type 0 where
  pub name : utf8_at pool m.name ≡ Some lines.name
  pub descriptor : utf8_at pool m.descriptor ≡ Some lines.descriptor
  pub formed : IsFormedMethodLines interface lines

-- A method that its class may have by its flags may be there by the kept flags.
permitted : (interface initializer : Bool) (access : ℕ) → (not interface || initializer || is_abstract access) ≡ true → (not interface || initializer || is_abstract (method_flags access)) ≡ true
permitted interface initializer access is = rw (abstract_kept access) is

-- A descriptor that fits a method's flags fits the kept flags.
descriptor_for : (initializer : Bool) (access : ℕ) (text : List ℕ) → is_method_descriptor_for (is_static access || initializer) text ≡ true → is_method_descriptor_for (is_static (method_flags access) || initializer) text ≡ true
descriptor_for initializer access text is = rw (static_kept access) is

method_made : (pool : List Constant) → IsSound pool → (major class_access : ℕ) (bytes : List ℕ) (m : MethodInfo) → SpellsMethod pool major class_access bytes m
    → (max_stack max_locals : ℕ) (catches : List CatchLine) (code : List CodeItem) → IsU2 max_stack → IsU2 max_locals → AllByRecursion (λ (l : CatchLine). IsFormedCaught l.caught) catches → AllByRecursion IsFormedItem code
    → IsMethodOf pool (is_interface class_access) m (method_with pool m max_stack max_locals catches code)
method_made pool are major class_access bytes m spelled max_stack max_locals catches code stack_fits locals_fit caught_are code_is =
    let interface = is_interface class_access in
    let initializer = is_initializer pool m.name in
    let called : List ℕ → Bool = is_method_descriptor_for (is_static m.access || initializer) in
    let named = text_named pool is_method_name m.name spelled.0 in
    let described = text_named pool called m.descriptor spelled.2 in
    let same : initializer ≡ is_initializer_name (text_of pool m.name) = initializer_is pool m.name named in
    let type_is : is_method_descriptor_for (is_static m.access || is_initializer_name (text_of pool m.name)) (text_of pool m.descriptor) ≡ true =
    subst (λ (b : Bool). is_method_descriptor_for (is_static m.access || b) (text_of pool m.descriptor) ≡ true) same (text_passes pool called m.descriptor spelled.2) in
    let stands : (not interface || is_initializer_name (text_of pool m.name) || is_abstract m.access) ≡ true =
    subst (λ (b : Bool). (not interface || b || is_abstract m.access) ≡ true) same spelled.1 in
    record {
      name = named;
      descriptor = described;
      formed = record {
        access = method_flags_small m.access;
        name = text_passes pool is_method_name m.name spelled.0;
        descriptor = descriptor_for (is_initializer_name (text_of pool m.name)) m.access (text_of pool m.descriptor) type_is;
        permitted = permitted interface (is_initializer_name (text_of pool m.name)) m.access stands;
        throws = throws_formed pool are major spelled.6.4.1.1 m.attributes spelled.6.4.1.4;
        max_stack = stack_fits;
        max_locals = locals_fit;
        catches = caught_are;
        code = code_is;
      };
    }

-- The lines of a method are made without code, or of its code.
pub method_cases : {G : Type 0} (pool : List Constant) (m : MethodInfo) (lines : MethodLines) → method_lines pool m ≡ Ok lines
    → (code_of m.attributes ≡ None → method_with pool m 1 1 [] [] ≡ lines → G)
    → ((c : Code) (items : List CodeItem) → code_of m.attributes ≡ Some c → items_onto pool c [] 0 c.layout.starts c.insns ≡ Ok items → method_with pool m c.max_stack c.max_locals (map (catch_of pool) c.handlers) items ≡ lines → G)
    → G
unfolding method_lines
method_cases {G = G} pool m lines e bare coded = by_code (code_of m.attributes) refl
  where
    by_code : (o : Option Code) → code_of m.attributes ≡ o → G
    by_code None is =
        let made : ◌≡◌ {A = Result MethodLines ListFault} (Ok (method_with pool m 1 1 [] [])) (Ok lines) = rw is at e in
        bare is (same_Ok (method_with pool m 1 1 [] []) lines made)
    by_code (Some c) is =
        let made : (items_onto pool c [] 0 c.layout.starts c.insns >>= λ items. Ok (method_with pool m c.max_stack c.max_locals (map (catch_of pool) c.handlers) items)) ≡ Ok lines = rw is at e in
        step (items_onto pool c [] 0 c.layout.starts c.insns) _ lines made λ items items_are last.
        coded c items is items_are (same_Ok (method_with pool m c.max_stack c.max_locals (map (catch_of pool) c.handlers) items) lines last)

pub method_formed : (pool : List Constant) → IsSound pool → (major class_access : ℕ) (bytes : List ℕ) (m : MethodInfo) (lines : MethodLines) → SpellsMethod pool major class_access bytes m → method_lines pool m ≡ Ok lines
    → IsMethodOf pool (is_interface class_access) m lines
method_formed pool are major class_access bytes m lines spelled e =
    let make = method_made pool are major class_access bytes m spelled in
    method_cases pool m lines e
    (λ none made. subst (IsMethodOf pool (is_interface class_access) m) made (make 1 1 [] [] (omega arith) (omega arith) tt tt))
    (λ c items there items_are made.
    let code = code_spelled pool major spelled.6.4.1.1 m.attributes c spelled.6.4.1.4 there in
    subst (IsMethodOf pool (is_interface class_access) m) made
    (make c.max_stack c.max_locals (map (catch_of pool) c.handlers) items code.1.0 code.1.1 (catches_formed pool are major c code) (code_formed pool are major c items code items_are)))

-- Two methods are equal exactly if their lines are alike.
pub methods_agree : (pool : List Constant) (interface : Bool) (m n : MethodInfo) (x y : MethodLines) → IsMethodOf pool interface m x → IsMethodOf pool interface n y → is_same_method pool n.name n.descriptor m ≡ is_method_like y.name y.descriptor x
methods_agree pool interface m n x y first second =
    rw (same_texts pool m.name n.name x.name y.name first.name second.name, same_texts pool m.descriptor n.descriptor x.descriptor y.descriptor first.descriptor second.descriptor) refl
