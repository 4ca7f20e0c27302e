-- The grammar of class files (JVMS 4): which bytes spell which class, by cases on the class. A class may have several
-- spellings, since pads may have any value and an instruction several forms. Some tests are those of reading: of names,
-- descriptors, pool entries, operands and versions, and of Code's presence and length. Each is a rule of its own,
-- stated once.
use Rattle.std.specs.Prelude.{◌≡◌, ℕ, ◌+◌, ◌^◌, ◌<◌, ◌⊎◌, Bool, true, false, not, ◌==◌, ◌||◌, List, [], ◌∷◌, ◌++◌, length, Option, Some, None, is_some, IsTrue, slice_get, ℤ, ◌-ℤ◌, int_le, unsigned_abs, codes, Ok}
use Rattle.std.specs.List.{list_any}
use Rattle.std.specs.Int.{w8, w16, w32, w64}
use Rattle.byteorder.specs.Endian.{big_bytes}
use Rattle.jvms_file.specs.declared.insn.TheConstants.{OPCODES}
use Rattle.jvms_file.specs.declared.class_file.Constant.{Constant}
use Rattle.jvms_file.specs.declared.class_file.Constant.TheVariants as constant
use Rattle.jvms_file.specs.declared.class_file.KeptAttribute.{KeptAttribute}
use Rattle.jvms_file.specs.declared.class_file.FieldAttribute.{FieldAttribute}
use Rattle.jvms_file.specs.declared.class_file.FieldAttribute.TheVariants as field_attribute
use Rattle.jvms_file.specs.declared.class_file.MethodAttribute.{MethodAttribute}
use Rattle.jvms_file.specs.declared.class_file.MethodAttribute.TheVariants as method_attribute
use Rattle.jvms_file.specs.declared.class_file.Handler.{Handler}
use Rattle.jvms_file.specs.declared.class_file.Code.{Code}
use Rattle.jvms_file.specs.declared.class_file.FieldInfo.{FieldInfo}
use Rattle.jvms_file.specs.declared.class_file.MethodInfo.{MethodInfo}
use Rattle.jvms_file.specs.declared.class_file.ClassFile.{ClassFile}
use Rattle.jvms_file.specs.declared.insn.Opcode.{Opcode}
use Rattle.jvms_file.specs.declared.insn.Opcode.TheVariants as opcode
use Rattle.jvms_file.specs.declared.insn.Insn.{Insn}
use Rattle.jvms_file.specs.declared.insn.Insn.TheVariants as insn
use Rattle.jvms_file.specs.declared.insn.Simple.{Simple}
use Rattle.jvms_file.specs.declared.insn.Simple.TheVariants as simple
use Rattle.jvms_file.specs.declared.insn.Push.TheVariants as push
use Rattle.jvms_file.specs.declared.insn.Branch.{Branch}
use Rattle.jvms_file.specs.declared.insn.Invoke.{Invoke}
use Rattle.jvms_file.specs.declared.insn.Invoke.TheVariants as invoke
use Rattle.jvms_file.specs.declared.insn.ArrayInsn.TheVariants as array_insn
use Rattle.jvms_file.specs.declared.insn.SwitchCase.{SwitchCase}
use Rattle.jvms_file.specs.declared.insn.TableSwitch.{TableSwitch}
use Rattle.jvms_file.specs.declared.insn.LookupSwitch.{LookupSwitch}
use Rattle.jvms_file.specs.Bytes.{signed}
use Rattle.jvms_file.specs.Texts.{bytes_of_text, IsText}
use Rattle.jvms_file.specs.Names.{is_name, is_method_name}
use Rattle.jvms_file.specs.Descriptors.{field_type_of}
use Rattle.jvms_file.specs.ConstantPool.{entry, utf8_at, is_utf8, is_class, class_name_at, takes_two, entries_fault}
use Rattle.jvms_file.specs.Instructions.{target_of, array_type_of, is_loadable, is_wide_loadable, passes, is_field, invoked_names, is_invocable, interface_count, names_usable, is_dimensions, pad_length, is_above}
use Rattle.jvms_file.specs.Code.{layout_of}
use Rattle.jvms_file.specs.Members.{is_named, is_constant_of, is_constant_value, is_text_with, is_same_field, is_same_method, is_code, is_exceptions, needs_code, is_initializer, is_method_descriptor_for, is_static, is_abstract, is_interface, is_code_length}
use Rattle.jvms_file.specs.ClassFile.{is_proper_class, is_version}

-- ---- Numbers

unfoldable pub u2 : ℕ → List ℕ
u2 n = big_bytes 2 n

unfoldable pub u4 : ℕ → List ℕ
u4 n = big_bytes 4 n

unfoldable pub u8 : ℕ → List ℕ
u8 n = big_bytes 8 n

abbrev pub IsU1 : ℕ → Type 0
IsU1 n = n < 2 ^ 8

abbrev pub IsU2 : ℕ → Type 0
IsU2 n = n < 2 ^ 16

abbrev pub IsU4 : ℕ → Type 0
IsU4 n = n < 2 ^ 32

-- The bytes of two parts, one after the other.
abbrev pub InTwo : List ℕ → (List ℕ → Type 0) → (List ℕ → Type 0) → Type 0
InTwo bytes P Q = (first : List ℕ) × (rest : List ℕ) × (bytes ≡ first ++ rest) × P first × Q rest

-- The bytes of the items of a list, one after another.
abbrev pub InOrder : {A : Type 0} → (List ℕ → A → Type 0) → List ℕ → List A → Type 0
InOrder P bytes [] = bytes ≡ []
InOrder P bytes (x ∷ xs) = InTwo bytes (λ first. P first x) (λ rest. InOrder P rest xs)

-- A count of two bytes, followed by the items.
abbrev pub Counted : {A : Type 0} → (List ℕ → A → Type 0) → List ℕ → List A → Type 0
Counted P bytes xs = IsU2 (length xs) × InTwo bytes (λ count. count ≡ u2 (length xs)) (λ rest. InOrder P rest xs)

-- ---- The constant pool (JVMS 4.4)

abbrev pub SpellsConstant : List ℕ → Constant → Type 0
SpellsConstant bytes (constant.Utf8 text) =
    IsText text × IsU2 (length (bytes_of_text text)) × (bytes ≡ 1 ∷ u2 (length (bytes_of_text text)) ++ bytes_of_text text)
SpellsConstant bytes (constant.Integer n) = (m : ℕ) × IsU4 m × (n ≡ signed w32 m) × (bytes ≡ 3 ∷ u4 m)
SpellsConstant bytes (constant.Float n) = IsU4 n × (bytes ≡ 4 ∷ u4 n)
SpellsConstant bytes (constant.Long n) = (m : ℕ) × (m < 2 ^ 64) × (n ≡ signed w64 m) × (bytes ≡ 5 ∷ u8 m)
SpellsConstant bytes (constant.Double n) = (n < 2 ^ 64) × (bytes ≡ 6 ∷ u8 n)
SpellsConstant bytes (constant.Class name) = IsU2 name × (bytes ≡ 7 ∷ u2 name)
SpellsConstant bytes (constant.String text) = IsU2 text × (bytes ≡ 8 ∷ u2 text)
SpellsConstant bytes (constant.Field c n) = IsU2 c × IsU2 n × (bytes ≡ 9 ∷ u2 c ++ u2 n)
SpellsConstant bytes (constant.Method c n) = IsU2 c × IsU2 n × (bytes ≡ 10 ∷ u2 c ++ u2 n)
SpellsConstant bytes (constant.InterfaceMethod c n) = IsU2 c × IsU2 n × (bytes ≡ 11 ∷ u2 c ++ u2 n)
SpellsConstant bytes (constant.NameAndType n d) = IsU2 n × IsU2 d × (bytes ≡ 12 ∷ u2 n ++ u2 d)
SpellsConstant bytes constant.Unusable = bytes ≡ []

-- A number that names nothing follows each long and each double, and is nowhere else (JVMS 4.4.5).
abbrev pub IsNumbered : Bool → List Constant → Type 0
IsNumbered behind_two [] = behind_two ≡ false
IsNumbered true (constant.Unusable ∷ cs) = IsNumbered false cs
IsNumbered true (c ∷ cs) = ⊥
IsNumbered false (constant.Unusable ∷ cs) = ⊥
IsNumbered false (c ∷ cs) = IsNumbered (takes_two c) cs

-- The pool's bytes: a count that is one more than the numbers, and the entries.
abbrev pub SpellsPool : List ℕ → List Constant → Type 0
SpellsPool bytes pool =
    IsU2 (length pool + 1) × IsNumbered false pool × (entries_fault pool pool ≡ Ok tt)
    × InTwo bytes (λ count. count ≡ u2 (length pool + 1)) (λ rest. InOrder SpellsConstant rest pool)

-- ---- Instructions (JVMS 6.5)

-- A byte is an opcode with these operands.
abbrev pub IsOpcode : ℕ → Opcode → Type 0
IsOpcode code form = slice_get OPCODES code ≡ Some form

abbrev pub SpellsPushInt : List ℕ → ℤ → Type 0
SpellsPushInt bytes n =
    ((code : ℕ) × IsOpcode code opcode.PushByte × (m : ℕ) × IsU1 m × (n ≡ signed w8 m) × (bytes ≡ code ∷ m ∷ []))
    ⊎ ((code : ℕ) × IsOpcode code opcode.PushShort × (m : ℕ) × IsU2 m × (n ≡ signed w16 m) × (bytes ≡ code ∷ u2 m))

abbrev pub SpellsIncrement : List ℕ → ℕ → ℤ → Type 0
SpellsIncrement bytes n by =
    ((code : ℕ) × IsOpcode code opcode.Increment × IsU1 n × (m : ℕ) × IsU1 m × (by ≡ signed w8 m) × (bytes ≡ code ∷ n ∷ m ∷ []))
    ⊎ ((wide : ℕ) × IsOpcode wide opcode.Wide × (code : ℕ) × IsOpcode code opcode.Increment × IsU2 n × (m : ℕ) × IsU2 m × (by ≡ signed w16 m) × (bytes ≡ wide ∷ code ∷ u2 n ++ u2 m))

-- The bytes of an instruction with operand bytes. An instruction without a case here has none.
abbrev pub SpellsWithOperands : List ℕ → Simple → Type 0
SpellsWithOperands bytes (simple.Push (push.Int n)) = SpellsPushInt bytes n
SpellsWithOperands bytes (simple.Local how n) =
    ((code : ℕ) × IsOpcode code (opcode.Local how) × IsU1 n × (bytes ≡ code ∷ n ∷ []))
    ⊎ ((wide : ℕ) × IsOpcode wide opcode.Wide × (code : ℕ) × IsOpcode code (opcode.Local how) × IsU2 n × (bytes ≡ wide ∷ code ∷ u2 n))
SpellsWithOperands bytes (simple.Increment n by) = SpellsIncrement bytes n by
SpellsWithOperands bytes (simple.Array (array_insn.New type)) =
    (code : ℕ) × IsOpcode code opcode.NewArray × (m : ℕ) × (array_type_of m ≡ Some type) × (bytes ≡ code ∷ m ∷ [])
SpellsWithOperands bytes _ = ⊥

abbrev pub SpellsSimple : List ℕ → Simple → Type 0
SpellsSimple bytes s =
    ((code : ℕ) × IsOpcode code (opcode.Alone s) × (bytes ≡ code ∷ [])) ⊎ SpellsWithOperands bytes s

-- An offset of four bytes leads from the instruction at byte pc to the start of the instruction at a place.
abbrev pub LeadsTo : List ℕ → ℕ → ℕ → ℕ → Type 0
LeadsTo pcs pc place m = IsU4 m × (slice_get pcs place ≡ Some (target_of pc (signed w32 m)))

abbrev pub SpellsBranch : List ℕ → ℕ → List ℕ → Branch → ℕ → Type 0
SpellsBranch pcs pc bytes how place =
    ((code : ℕ) × IsOpcode code (opcode.Branch how) × (m : ℕ) × IsU2 m × (slice_get pcs place ≡ Some (target_of pc (signed w16 m))) × (bytes ≡ code ∷ u2 m))
    ⊎ ((code : ℕ) × IsOpcode code (opcode.BranchWide how) × (m : ℕ) × LeadsTo pcs pc place m × (bytes ≡ code ∷ u4 m))

abbrev pub SpellsTarget : List ℕ → ℕ → List ℕ → ℕ → Type 0
SpellsTarget pcs pc bytes place = (m : ℕ) × LeadsTo pcs pc place m × (bytes ≡ u4 m)

abbrev pub SpellsCase : List ℕ → ℕ → List ℕ → SwitchCase → Type 0
SpellsCase pcs pc bytes c =
    (m : ℕ) × IsU4 m × (c.value ≡ signed w32 m) × (n : ℕ) × LeadsTo pcs pc c.target n × (bytes ≡ u4 m ++ u4 n)

-- The bytes of a tableswitch: pads, the default, low and high, and a target for each value from low to high (JVMS 6.5
-- tableswitch).
abbrev pub SpellsTable : List ℕ → ℕ → List ℕ → TableSwitch → Type 0
SpellsTable pcs pc bytes s =
    (code : ℕ) × IsOpcode code opcode.TableSwitch × (pads : List ℕ) × (length pads ≡ pad_length pc)
    × (default : ℕ) × LeadsTo pcs pc s.default default
    × (low : ℕ) × IsU4 low × (s.low ≡ signed w32 low)
    × (high : ℕ) × IsU4 high × IsTrue (int_le s.low (signed w32 high))
    × (length s.targets ≡ unsigned_abs (signed w32 high -ℤ s.low) + 1)
    × (rest : List ℕ) × InOrder (SpellsTarget pcs pc) rest s.targets
    × (bytes ≡ code ∷ pads ++ (u4 default ++ (u4 low ++ (u4 high ++ rest))))

-- Each value is above the one before it.
abbrev pub IsRising : Option ℤ → List SwitchCase → Type 0
IsRising last [] = Unit {0}
IsRising last (c ∷ cs) = IsTrue (is_above last c.value) × IsRising (Some c.value) cs

-- The bytes of a lookupswitch: pads, the default, the number of pairs, and the pairs (JVMS 6.5 lookupswitch).
abbrev pub SpellsLookup : List ℕ → ℕ → List ℕ → LookupSwitch → Type 0
SpellsLookup pcs pc bytes s =
    (code : ℕ) × IsOpcode code opcode.LookupSwitch × (pads : List ℕ) × (length pads ≡ pad_length pc)
    × (default : ℕ) × LeadsTo pcs pc s.default default
    × (length s.cases < 2 ^ 31) × IsRising None s.cases
    × (rest : List ℕ) × InOrder (SpellsCase pcs pc) rest s.cases
    × (bytes ≡ code ∷ pads ++ (u4 default ++ (u4 (length s.cases) ++ rest)))

-- The bytes of ldc and ldc_w of an int, a float, a string or a class, and of ldc2_w of a long or a double.
abbrev pub SpellsLoad : List Constant → ℕ → List ℕ → ℕ → Type 0
SpellsLoad pool major bytes n =
    (IsTrue (passes (is_loadable major) (entry pool n))
    × (((code : ℕ) × IsOpcode code opcode.Constant × IsU1 n × (bytes ≡ code ∷ n ∷ []))
    ⊎ ((code : ℕ) × IsOpcode code opcode.ConstantWide × IsU2 n × (bytes ≡ code ∷ u2 n))))
    ⊎ (IsTrue (passes is_wide_loadable (entry pool n))
    × (code : ℕ) × IsOpcode code opcode.ConstantLong × IsU2 n × (bytes ≡ code ∷ u2 n))

-- The bytes after the number of a call: for an interface's method the count of argument units and a 0, else none.
abbrev pub SpellsAfterInvoke : Invoke → Option (List ℕ × List ℕ) → List ℕ → Type 0
SpellsAfterInvoke invoke.Interface method bytes =
    (units : ℕ) × IsU1 units × (interface_count method ≡ Some units) × (bytes ≡ units ∷ 0 ∷ [])
SpellsAfterInvoke _ method bytes = bytes ≡ []

-- The bytes of an instruction that starts at byte pc. pcs are the starts of all instructions.
abbrev pub SpellsInsn : List Constant → ℕ → List ℕ → ℕ → List ℕ → Insn → Type 0
SpellsInsn pool major pcs pc bytes (insn.Simple s) = SpellsSimple bytes s
SpellsInsn pool major pcs pc bytes (insn.Branch how place) = SpellsBranch pcs pc bytes how place
SpellsInsn pool major pcs pc bytes (insn.Table s) = SpellsTable pcs pc bytes s
SpellsInsn pool major pcs pc bytes (insn.Lookup s) = SpellsLookup pcs pc bytes s
SpellsInsn pool major pcs pc bytes (insn.Constant n) = SpellsLoad pool major bytes n
SpellsInsn pool major pcs pc bytes (insn.Field how n) =
    (code : ℕ) × IsOpcode code (opcode.Field how) × IsU2 n × IsTrue (passes is_field (entry pool n)) × (bytes ≡ code ∷ u2 n)
SpellsInsn pool major pcs pc bytes (insn.Invoke how n) =
    (code : ℕ) × IsOpcode code (opcode.Invoke how) × IsU2 n × IsTrue (is_invocable how (invoked_names pool how n))
    × (rest : List ℕ) × SpellsAfterInvoke how (invoked_names pool how n) rest × (bytes ≡ code ∷ u2 n ++ rest)
SpellsInsn pool major pcs pc bytes (insn.Class how n) =
    (code : ℕ) × IsOpcode code (opcode.Class how) × IsU2 n × IsTrue (names_usable how (class_name_at pool n)) × (bytes ≡ code ∷ u2 n)
SpellsInsn pool major pcs pc bytes (insn.MultiNewArray n count) =
    (code : ℕ) × IsOpcode code opcode.MultiNewArray × IsU2 n × IsU1 count
    × IsTrue (is_dimensions count (class_name_at pool n)) × (bytes ≡ code ∷ u2 n ++ count ∷ [])

-- The bytes of consecutive instructions from byte pc on, with the bytes at which they start. pcs are all starts.
abbrev pub SpellsFrom : List Constant → ℕ → List ℕ → ℕ → List ℕ → List Insn → List ℕ → Type 0
SpellsFrom pool major pcs pc bytes [] begun = (bytes ≡ []) × (begun ≡ [])
SpellsFrom pool major pcs pc bytes (i ∷ is) begun =
    (first : List ℕ) × (rest : List ℕ) × (later : List ℕ) × (bytes ≡ first ++ rest) × (begun ≡ pc ∷ later)
    × SpellsInsn pool major pcs pc first i × SpellsFrom pool major pcs (pc + length first) rest is later

abbrev pub SpellsInsns : List Constant → ℕ → List ℕ → List ℕ → List Insn → Type 0
SpellsInsns pool major pcs bytes is = SpellsFrom pool major pcs 0 bytes is pcs

-- ---- Attributes (JVMS 4.7)

abbrev pub SpellsKept : List Constant → List ℕ → KeptAttribute → Type 0
SpellsKept pool bytes a =
    IsU2 a.name × IsTrue (is_utf8 pool a.name) × IsU4 (length a.bytes)
    × (bytes ≡ u2 a.name ++ (u4 (length a.bytes) ++ a.bytes))

-- An attribute with its name, the length of its content, and the content.
abbrev pub SpellsFramed : List Constant → List ℕ → ℕ → List ℕ → (List ℕ → Type 0) → Type 0
SpellsFramed pool name_text name bytes Content =
    IsU2 name × IsTrue (is_named pool name name_text)
    × (content : List ℕ) × IsU4 (length content) × Content content
    × (bytes ≡ u2 name ++ (u4 (length content) ++ content))

abbrev pub SpellsFieldAttribute : List Constant → ℕ → List ℕ → FieldAttribute → Type 0
SpellsFieldAttribute pool descriptor bytes (field_attribute.ConstantValue name value) =
    SpellsFramed pool (codes "ConstantValue") name bytes
    (λ content. IsU2 value × IsTrue (is_constant_of (utf8_at pool descriptor) (entry pool value)) × (content ≡ u2 value))
SpellsFieldAttribute pool descriptor bytes (field_attribute.Kept a) =
    SpellsKept pool bytes a × (is_named pool a.name (codes "ConstantValue") ≡ false)

-- At most one item passes the test.
abbrev pub AtMostOne : {A : Type 0} → (A → Bool) → List A → Type 0
AtMostOne test [] = Unit {0}
AtMostOne test (x ∷ xs) = (IsTrue (test x) → list_any test xs ≡ false) × AtMostOne test xs

-- The bytes of a handler. An instruction starts at its start and at its target. At its end an instruction starts, or
-- the code ends.
abbrev pub SpellsHandler : List Constant → List ℕ → ℕ → List ℕ → Handler → Type 0
SpellsHandler pool pcs code_length bytes h =
    (start : ℕ) × (end : ℕ) × (target : ℕ) × IsU2 start × IsU2 end × IsU2 target × IsU2 h.catch_type
    × (start < end) × (slice_get pcs h.start ≡ Some start) × (slice_get (pcs ++ code_length ∷ []) h.end ≡ Some end)
    × (slice_get pcs h.target ≡ Some target) × IsTrue (h.catch_type == 0 || is_class pool h.catch_type)
    × (bytes ≡ u2 start ++ (u2 end ++ (u2 target ++ u2 h.catch_type)))

-- The bytes of a Code attribute's content (JVMS 4.7.3). The layout has the code's bytes, with pads set to 0, and the
-- starts of its instructions.
abbrev pub SpellsCode : List Constant → ℕ → List ℕ → Code → Type 0
SpellsCode pool major bytes c =
    IsU2 c.max_stack × IsU2 c.max_locals
    × (code : List ℕ) × IsTrue (is_code_length (length code)) × SpellsInsns pool major c.layout.starts code c.insns
    × (c.layout ≡ layout_of c.layout.starts c.insns code)
    × (table : List ℕ) × Counted (SpellsHandler pool c.layout.starts (length code)) table c.handlers
    × (attributes : List ℕ) × Counted (SpellsKept pool) attributes c.attributes
    × (bytes ≡ u2 c.max_stack ++ (u2 c.max_locals ++ (u4 (length code) ++ (code ++ (table ++ attributes)))))

abbrev pub SpellsClassNumber : List Constant → List ℕ → ℕ → Type 0
SpellsClassNumber pool bytes n = IsU2 n × IsTrue (is_class pool n) × (bytes ≡ u2 n)

abbrev pub SpellsMethodAttribute : List Constant → ℕ → List ℕ → MethodAttribute → Type 0
SpellsMethodAttribute pool major bytes (method_attribute.Code name c) =
    SpellsFramed pool (codes "Code") name bytes (λ content. SpellsCode pool major content c)
SpellsMethodAttribute pool major bytes (method_attribute.Exceptions name classes) =
    SpellsFramed pool (codes "Exceptions") name bytes (λ content. Counted (SpellsClassNumber pool) content classes)
SpellsMethodAttribute pool major bytes (method_attribute.Kept a) =
    SpellsKept pool bytes a
    × (is_named pool a.name (codes "Code") ≡ false) × (is_named pool a.name (codes "Exceptions") ≡ false)

-- ---- Members (JVMS 4.5, 4.6)

-- The access flags, the name and the descriptor of a member.
abbrev pub SpellsMember : ℕ → ℕ → ℕ → List ℕ → Type 0
SpellsMember access name descriptor bytes =
    IsU2 access × IsU2 name × IsU2 descriptor × (bytes ≡ u2 access ++ (u2 name ++ u2 descriptor))

abbrev pub SpellsField : List Constant → List ℕ → FieldInfo → Type 0
SpellsField pool bytes f =
    IsTrue (is_text_with is_name (utf8_at pool f.name))
    × IsTrue (is_text_with (λ text. is_some (field_type_of text)) (utf8_at pool f.descriptor))
    × AtMostOne is_constant_value f.attributes
    × InTwo bytes (SpellsMember f.access f.name f.descriptor)
    (λ rest. Counted (SpellsFieldAttribute pool f.descriptor) rest f.attributes)

-- A method has Code exactly if it has to.
abbrev pub HasItsCode : List Constant → MethodInfo → Type 0
HasItsCode pool m = list_any is_code m.attributes ≡ needs_code (is_initializer pool m.name) m.access

abbrev pub SpellsMethod : List Constant → ℕ → ℕ → List ℕ → MethodInfo → Type 0
SpellsMethod pool major class_access bytes m =
    IsTrue (is_text_with is_method_name (utf8_at pool m.name))
    × IsTrue (not (is_interface class_access) || is_initializer pool m.name || is_abstract m.access)
    × IsTrue (is_text_with (is_method_descriptor_for (is_static m.access || is_initializer pool m.name)) (utf8_at pool m.descriptor))
    × AtMostOne is_code m.attributes × AtMostOne is_exceptions m.attributes × HasItsCode pool m
    × InTwo bytes (SpellsMember m.access m.name m.descriptor)
    (λ rest. Counted (SpellsMethodAttribute pool major) rest m.attributes)

-- No two items are the same member: one name and one descriptor.
abbrev pub IsDistinctBy : {A : Type 0} → (A → A → Bool) → List A → Type 0
IsDistinctBy same [] = Unit {0}
IsDistinctBy same (x ∷ xs) = (list_any (λ y. same x y) xs ≡ false) × IsDistinctBy same xs

abbrev pub SpellsInterface : List Constant → List ℕ → ℕ → Type 0
SpellsInterface pool bytes n = IsU2 n × IsTrue (is_proper_class pool n) × (bytes ≡ u2 n)

-- ---- The class (JVMS 4.1)

abbrev pub SpellsHeader : List ℕ → ClassFile → Type 0
SpellsHeader bytes c =
    IsU2 c.minor × IsTrue (is_version c.major) × (bytes ≡ u4 0xcafebabe ++ (u2 c.minor ++ u2 c.major))

abbrev pub SpellsThisAndSuper : List ℕ → ClassFile → Type 0
SpellsThisAndSuper bytes c =
    IsU2 c.access × IsU2 c.this_class × IsU2 c.super_class × IsTrue (is_proper_class c.pool c.this_class)
    × IsTrue (c.super_class == 0 || is_proper_class c.pool c.super_class)
    × (bytes ≡ u2 c.access ++ (u2 c.this_class ++ u2 c.super_class))

-- These bytes spell this class.
pub record Spells (bytes : List ℕ) (c : ClassFile) : Type 0 where
  pub header : List ℕ
  pub pool : List ℕ
  pub names : List ℕ
  pub interfaces : List ℕ
  pub fields : List ℕ
  pub methods : List ℕ
  pub attributes : List ℕ
  pub in_order : bytes ≡ header ++ (pool ++ (names ++ (interfaces ++ (fields ++ (methods ++ attributes)))))
  pub of_header : SpellsHeader header c
  pub of_pool : SpellsPool pool c.pool
  pub of_names : SpellsThisAndSuper names c
  pub of_interfaces : Counted (SpellsInterface c.pool) interfaces c.interfaces
  pub of_fields : Counted (SpellsField c.pool) fields c.fields
  pub distinct_fields : IsDistinctBy (λ f g. is_same_field c.pool g.name g.descriptor f) c.fields
  pub of_methods : Counted (SpellsMethod c.pool c.major c.access) methods c.methods
  pub distinct_methods : IsDistinctBy (λ m n. is_same_method c.pool n.name n.descriptor m) c.methods
  pub of_attributes : Counted (SpellsKept c.pool) attributes c.attributes
