-- Proves that the lines that a method is listed as mean the method.
use Rattle.std.proofs.Common.{◌≡◌, ℕ, true, false, not, cond, ◌||◌, List, [], ◌∷◌, map, Option, None, Some, is_some, Ok, refl, sym, ap, subst, ◌∙◌}
use Rattle.std.specs.Option.{option_map, unwrap_or}
use Rattle.std.specs.List.{list_any}
use Rattle.jvms_file.specs.declared.class_file.Constant.{Constant}
use Rattle.jvms_file.specs.declared.class_file.Code.{Code}
use Rattle.jvms_file.specs.declared.class_file.MethodAttribute.{MethodAttribute}
use Rattle.jvms_file.specs.declared.class_file.MethodAttribute.TheVariants as method_attribute
use Rattle.jvms_file.specs.declared.class_file.MethodInfo.{MethodInfo}
use Rattle.jvms_file.specs.Names.{is_initializer_name}
use Rattle.jvms_file.specs.Descriptors.{method_type}
use Rattle.jvms_file.specs.ConstantPool.{utf8_at}
use Rattle.jvms_file.specs.Members.{is_native, is_abstract, is_code, needs_code, is_text_with, is_initializer}
use Rattle.jvms_file.specs.Spelling.{InOrder, SpellsMethodAttribute, SpellsCode, HasItsCode, SpellsMethod}
use Rattle.jvms_program.specs.declared.program.Instruction.{Instruction}
use Rattle.jvms_program.specs.declared.program.ExceptionHandler.{ExceptionHandler}
use Rattle.jvms_program.specs.declared.program.Body.{Body}
use Rattle.jvms_program.specs.declared.program.MethodFlags.{MethodFlags}
use Rattle.jvms_program.specs.declared.program.Method.{Method}
use Rattle.jvms_program.specs.Meaning.{text_of, instruction_of, body_of, code_of, throws_of, flags_of, method_of}
use Rattle.jasmin.specs.declared.source.CodeItem.{CodeItem}
use Rattle.jasmin.specs.declared.source.CatchLine.{CatchLine}
use Rattle.jasmin.specs.declared.source.MethodLines.{MethodLines}
use Rattle.jasmin.specs.Denote.{operations, has_code, instruction_of as denoted, handler_of as denoted_handler, body_of as denoted_body_of, method_of as denoted_method}
use Rattle.classfile_laws.proofs.Steps.{step}
use Rattle.listing_spec.specs.declared.fault.ListFault.{ListFault}
use Rattle.listing_spec.specs.TreeOf.{items_onto, method_flags, method_with, method_lines, catch_of as line_of}
use Rattle.tree_meaning_laws.proofs.Lists.{same_Ok}
use Rattle.tree_meaning_laws.proofs.Flags.{method_native, method_abstract, method_flags_kept}
use Rattle.tree_meaning_laws.proofs.Bodies.{CodeMeans, code_means}

-- ---- Present code

-- Some content spells the code of spelled attributes.
code_spelled : (pool : List Constant) (major : ℕ) (bytes : List ℕ) (attributes : List MethodAttribute) (c : Code) → InOrder (SpellsMethodAttribute pool major) bytes attributes → code_of attributes ≡ Some c
    → (content : List ℕ) × SpellsCode pool major content c
code_spelled pool major bytes [] c order is = absurd cc
code_spelled pool major bytes (method_attribute.Code name code ∷ others) c (first, rest, whole, (fits, named, content, long, spelt, framed), behind) is =
    let same : code ≡ c = cc in
    (content, subst (SpellsCode pool major content) same spelt)
code_spelled pool major bytes (method_attribute.Exceptions name classes ∷ others) c (first, rest, whole, here, behind) is = code_spelled pool major rest others c behind is
code_spelled pool major bytes (method_attribute.Kept a ∷ others) c (first, rest, whole, here, behind) is = code_spelled pool major rest others c behind is

code_there : (attributes : List MethodAttribute) → is_some (code_of attributes) ≡ list_any is_code attributes
code_there [] = refl
code_there (method_attribute.Code name c ∷ others) = refl
code_there (method_attribute.Exceptions name classes ∷ others) = code_there others
code_there (method_attribute.Kept a ∷ others) = code_there others

-- A spelled method has its code, and some content spells the code.
pub record IsWritten (pool : List Constant) (major : ℕ) (m : MethodInfo) : Type 0 where
  pub own_code : HasItsCode pool m
  pub code : (c : Code) → code_of m.attributes ≡ Some c → (content : List ℕ) × SpellsCode pool major content c

pub method_written : (pool : List Constant) (major access : ℕ) (bytes : List ℕ) (m : MethodInfo) → SpellsMethod pool major access bytes m → IsWritten pool major m
method_written pool major access bytes m (named, concrete, described, one_code, one_exceptions, own_code, (member, rest, whole, spelt, (few, (count, attributes, parts, counted, order)))) =
    record { own_code = own_code; code = λ c is. code_spelled pool major attributes m.attributes c order is }

-- ---- Names and flags

initializer_named : (name : Option (List ℕ)) → is_initializer_name (unwrap_or name []) ≡ is_text_with is_initializer_name name
initializer_named None = refl
initializer_named (Some text) = refl

-- A method is listed with code exactly if it has to have code.
code_asked : (pool : List Constant) (m : MethodInfo) → has_code (text_of pool m.name) (method_flags m.access) ≡ needs_code (is_initializer pool m.name) m.access
code_asked pool m =
    ap (λ b. b || not (is_native (method_flags m.access) || is_abstract (method_flags m.access))) (initializer_named (utf8_at pool m.name))
    ∙ ap (λ b. is_initializer pool m.name || not (b || is_abstract (method_flags m.access))) (method_native m.access)
    ∙ ap (λ b. is_initializer pool m.name || not (is_native m.access || b)) (method_abstract m.access)

has_its_code : (pool : List Constant) (major : ℕ) (m : MethodInfo) → IsWritten pool major m → has_code (text_of pool m.name) (method_flags m.access) ≡ is_some (code_of m.attributes)
has_its_code pool major m w = code_asked pool m ∙ sym w.own_code ∙ sym (code_there m.attributes)

-- ---- Methods

abbrev method_by : List Constant → MethodInfo → MethodFlags → Option Body → Method
method_by pool m flags body =
    record {
      name = text_of pool m.name;
      descriptor = text_of pool m.descriptor;
      method_type = method_type (text_of pool m.descriptor);
      flags = flags;
      throws = throws_of pool m.attributes;
      body = body;
    }

-- Lines with the body of a method mean the method.
lines_are : (pool : List Constant) (m : MethodInfo) (max_stack max_locals : ℕ) (catches : List CatchLine) (items : List CodeItem)
    → denoted_body_of (method_with pool m max_stack max_locals catches items) ≡ option_map (body_of pool) (code_of m.attributes)
    → denoted_method (method_with pool m max_stack max_locals catches items) ≡ method_of pool m
lines_are pool m max_stack max_locals catches items body =
    let lines = method_with pool m max_stack max_locals catches items in
    ap (λ b. method_by pool m (flags_of b (method_flags m.access)) (denoted_body_of lines)) (initializer_named (utf8_at pool m.name))
    ∙ ap (λ f. method_by pool m f (denoted_body_of lines)) (method_flags_kept (is_initializer pool m.name) m.access)
    ∙ ap (method_by pool m (flags_of (is_initializer pool m.name) m.access)) body

abbrev body_by : Code → List Instruction → List ExceptionHandler → Body
body_by c instructions handlers =
    record { max_stack = c.max_stack; max_locals = c.max_locals; instructions = instructions; handlers = handlers }

-- The lines of a method with code have the body that the code means.
body_is : (pool : List Constant) (m : MethodInfo) (c : Code) (items : List CodeItem) → has_code (text_of pool m.name) (method_flags m.access) ≡ true → CodeMeans pool c items
    → denoted_body_of (method_with pool m c.max_stack c.max_locals (map (line_of pool) c.handlers) items) ≡ Some (body_of pool c)
body_is pool m c items has means =
    ap (λ b. cond b (Some (body_by c (map (denoted items) (operations items)) (map (denoted_handler items) (map (line_of pool) c.handlers)))) None) has
    ∙ ap (λ is. Some (body_by c is (map (denoted_handler items) (map (line_of pool) c.handlers)))) means.instructions
    ∙ ap (λ hs. Some (body_by c (map (instruction_of pool) c.insns) hs)) means.handlers

abbrev empty_body : Body
empty_body = record { max_stack = 1; max_locals = 1; instructions = []; handlers = [] }

without_code : (pool : List Constant) (major : ℕ) (m : MethodInfo) (lines : MethodLines) → IsWritten pool major m → code_of m.attributes ≡ None → method_lines pool m ≡ Ok lines → denoted_method lines ≡ method_of pool m
unfolding method_lines
without_code pool major m lines w none gives =
    let same : method_with pool m 1 1 [] [] ≡ lines = same_Ok {E = ListFault} (method_with pool m 1 1 [] []) lines (rw none at gives) in
    let has : has_code (text_of pool m.name) (method_flags m.access) ≡ false = has_its_code pool major m w ∙ ap (λ o. is_some o) none in
    let body : denoted_body_of (method_with pool m 1 1 [] []) ≡ option_map (body_of pool) (code_of m.attributes) = ap (λ b. cond b (Some empty_body) None) has ∙ sym (ap (option_map (body_of pool)) none) in
    ap denoted_method (sym same) ∙ lines_are pool m 1 1 [] [] body

with_code : (pool : List Constant) (major : ℕ) (m : MethodInfo) (c : Code) (lines : MethodLines) → IsWritten pool major m → code_of m.attributes ≡ Some c → method_lines pool m ≡ Ok lines → denoted_method lines ≡ method_of pool m
unfolding method_lines
with_code pool major m c lines w some gives =
    step (items_onto pool c [] 0 c.layout.starts c.insns) _ _ (rw some at gives) λ items listed last.
    let spelt = w.code c some in
    let means : CodeMeans pool c items = code_means pool major spelt.0 c items spelt.1 listed in
    let made = method_with pool m c.max_stack c.max_locals (map (line_of pool) c.handlers) items in
    let has : has_code (text_of pool m.name) (method_flags m.access) ≡ true = has_its_code pool major m w ∙ ap (λ o. is_some o) some in
    let body : denoted_body_of made ≡ option_map (body_of pool) (code_of m.attributes) = body_is pool m c items has means ∙ sym (ap (option_map (body_of pool)) some) in
    ap denoted_method (sym (same_Ok made lines last)) ∙ lines_are pool m c.max_stack c.max_locals (map (line_of pool) c.handlers) items body

pub method_means : (pool : List Constant) (major : ℕ) (m : MethodInfo) (lines : MethodLines) → IsWritten pool major m → method_lines pool m ≡ Ok lines → denoted_method lines ≡ method_of pool m
method_means pool major m lines w gives = by_code (code_of m.attributes) refl
  where
    by_code : (found : Option Code) → code_of m.attributes ≡ found → denoted_method lines ≡ method_of pool m
    by_code None is = without_code pool major m lines w is gives
    by_code (Some c) is = with_code pool major m c lines w is gives
