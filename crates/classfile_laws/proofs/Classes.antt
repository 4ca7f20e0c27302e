-- Class files (JVMS 4.1). Spelled ones are read, and read ones are spelled so.
use Rattle.std.proofs.Common.{◌≡◌, ℕ, zero, suc, ◌<◌, ◌≤◌, true, List, [], ◌∷◌, ◌++◌, length, Result, Ok, refl, sym, ap, subst, ◌∙◌, append_assoc, arith}
use Rattle.std.specs.Prelude.{◌==◌, ◌||◌, nat_le}
use Rattle.std.proofs.lemmas.Bool.{and_parts, leb-true, eqb-true}
use Rattle.std.proofs.lemmas.List.{append-nil}
use Rattle.jvms_file.specs.declared.class_file.Constant.{Constant}
use Rattle.jvms_file.specs.declared.class_file.ClassFile.{ClassFile}
use Rattle.jvms_file.specs.declared.fault.ClassFault.{ClassFault}
use Rattle.jvms_file.specs.declared.fault.ClassFault.TheVariants as fault
use Rattle.jvms_file.specs.Results.{◌>>=◌, want}
use Rattle.jvms_file.specs.ConstantPool.{pool_at, entries_fault}
use Rattle.jvms_file.specs.Members.{fields_at, methods_at, kept_attributes_at}
use Rattle.jvms_file.specs.ClassFile.{is_proper_class, is_version, interface_at, interfaces_at, is_empty, class_at, read}
use Rattle.jvms_file.specs.Spelling.{u2, u4, IsU2, Counted, SpellsKept, SpellsInterface, Spells}
use Rattle.classfile_laws.proofs.Numbers.{IsBytes, u2_again, u4_again}
use Rattle.classfile_laws.proofs.Steps.{Found, answered, joined, step, want_step, u2_step, u4_step, found_step}
use Rattle.classfile_laws.proofs.Lists.{Any, counted_again, counted_found}
use Rattle.classfile_laws.proofs.Pools.{pool_again, pool_found}
use Rattle.classfile_laws.proofs.Attributes.{kept_attributes_again, kept_attributes_found}
use Rattle.classfile_laws.proofs.Fields.{fields_again, fields_found}
use Rattle.classfile_laws.proofs.Methods.{methods_again, methods_found}

-- ---- Interfaces.

-- An interface's number is read from its spelling.
pub interface_again : (pool : List Constant) (cut : ClassFault) (bytes : List ℕ) (n : ℕ) (rest : List ℕ) → SpellsInterface pool bytes n → interface_at pool cut (bytes ++ rest) ≡ Ok (n, rest)
interface_again pool cut bytes n rest s = rw (s.2, u2_again cut n rest s.0, s.1) refl

-- An interface's number is spelled where it was read.
pub interface_found : (pool : List Constant) (cut : ClassFault) (bytes : List ℕ) (n : ℕ) (rest : List ℕ) → IsBytes bytes → interface_at pool cut bytes ≡ Ok (n, rest) → Found (SpellsInterface pool) bytes n rest
interface_found pool cut bytes n rest are e =
    u2_step cut bytes _ _ are e (λ m behind fits parts left more.
    want_step (is_proper_class pool m) fault.Index _ _ more (λ is last.
    let same = answered m n behind rest last in
    record { first = u2 m; parts = parts ∙ ap (λ (w : List ℕ). u2 m ++ w) same.1; spells = subst (SpellsInterface pool (u2 m)) same.0 (fits, is, refl); left = subst IsBytes same.1 left }))

-- Interfaces are read from their spelling.
pub interfaces_again : (pool : List Constant) (cut : ClassFault) (interfaces bytes rest : List ℕ) → Counted (SpellsInterface pool) bytes interfaces → interfaces_at pool cut (bytes ++ rest) ≡ Ok (interfaces, rest)
interfaces_again pool cut interfaces bytes rest s =
    counted_again (SpellsInterface pool) Any (λ seen. interface_at pool cut) (λ seen n after first behind good one. interface_again pool cut first n behind one) cut interfaces bytes rest tt s

-- Interfaces are spelled where they were read.
pub interfaces_found : (pool : List Constant) (cut : ClassFault) (interfaces bytes rest : List ℕ) → IsBytes bytes → interfaces_at pool cut bytes ≡ Ok (interfaces, rest) → Found (Counted (SpellsInterface pool)) bytes interfaces rest
interfaces_found pool cut interfaces bytes rest are e =
    (counted_found (SpellsInterface pool) Any (λ seen. interface_at pool cut) (λ seen front n behind good these one. (interface_found pool cut front n behind these one, tt)) cut interfaces bytes rest tt are e).0

-- ---- Spelled classes are read.

-- Reading a spelling leaves the bytes after it, which then have to be none.
pub class_again : (cut : ClassFault) (bytes more : List ℕ) (c : ClassFile) → Spells bytes c → class_at cut (bytes ++ more) ≡ (want (is_empty more) fault.Trailing >>= λ _. Ok c)
unfolding class_at
class_again cut bytes more c s =
    let behind_methods = s.attributes ++ more in
    let behind_fields = s.methods ++ behind_methods in
    let behind_interfaces = s.fields ++ behind_fields in
    let behind_names = s.interfaces ++ behind_interfaces in
    let behind_pool = s.names ++ behind_names in
    let behind_header = s.pool ++ behind_pool in
    let header = s.of_header in
    let names = s.of_names in
    let pool = s.of_pool in
    let whole : bytes ++ more ≡ s.header ++ behind_header = ap (λ (w : List ℕ). w ++ more) s.in_order ∙ simp append_assoc in
    let of_header : s.header ++ behind_header ≡ u4 0xcafebabe ++ (u2 c.minor ++ (u2 c.major ++ behind_header)) = ap (λ (w : List ℕ). w ++ behind_header) header.2 ∙ simp append_assoc in
    let of_names : s.names ++ behind_names ≡ u2 c.access ++ (u2 c.this_class ++ (u2 c.super_class ++ behind_names)) = ap (λ (w : List ℕ). w ++ behind_names) names.5 ∙ simp append_assoc in
    rw (
      whole,
      of_header,
      u4_again cut 0xcafebabe (u2 c.minor ++ (u2 c.major ++ behind_header)) (omega arith),
      u2_again cut c.minor (u2 c.major ++ behind_header) header.0,
      u2_again cut c.major behind_header (major_fits c.major header.1),
      header.1,
      pool_again cut s.pool c.pool behind_pool pool,
      pool.2,
      of_names,
      u2_again cut c.access (u2 c.this_class ++ (u2 c.super_class ++ behind_names)) names.0,
      u2_again cut c.this_class (u2 c.super_class ++ behind_names) names.1,
      names.3,
      u2_again cut c.super_class behind_names names.2,
      names.4,
      interfaces_again c.pool cut c.interfaces s.interfaces behind_interfaces s.of_interfaces,
      fields_again c.pool cut c.fields s.fields behind_fields s.distinct_fields s.of_fields,
      methods_again c.pool c.major cut c.access c.methods s.methods behind_methods s.distinct_methods s.of_methods,
      kept_attributes_again c.pool cut c.attributes s.attributes more s.of_attributes,
    ) refl
  where
    major_fits : (major : ℕ) → is_version major ≡ true → IsU2 major
    major_fits major is = let most : major ≤ 50 = leb-true major 50 (and_parts (nat_le 45 major) (nat_le major 50) is).1 in omega arith

-- A class is read from its spelling.
pub spelled_is_read : (bytes : List ℕ) (c : ClassFile) → Spells bytes c → read bytes ≡ Ok c
spelled_is_read bytes c s = ap (class_at (fault.Truncated (length bytes))) (sym (append-nil bytes)) ∙ class_again (fault.Truncated (length bytes)) bytes [] c s

-- No bytes spell two classes.
pub one_class : (bytes : List ℕ) (c d : ClassFile) → Spells bytes c → Spells bytes d → c ≡ d
one_class bytes c d s t = same (sym (spelled_is_read bytes c s) ∙ spelled_is_read bytes d t)
  where
    same : ◌≡◌ {A = Result ClassFile ClassFault} (Ok c) (Ok d) → c ≡ d
    same e = cc

-- No spelling of a class is the front of a longer one.
pub none_begins_another : (bytes more : List ℕ) (c d : ClassFile) → Spells bytes c → Spells (bytes ++ more) d → more ≡ []
none_begins_another bytes more c d s t = nothing more (sym (class_again (fault.Truncated (length (bytes ++ more))) bytes more c s) ∙ spelled_is_read (bytes ++ more) d t)
  where
    nothing : (left : List ℕ) → ◌≡◌ {A = Result ClassFile ClassFault} (want (is_empty left) fault.Trailing >>= λ _. Ok c) (Ok d) → left ≡ []
    nothing [] e = refl
    nothing (b ∷ left) e = absurd cc

-- ---- Read classes are spelled so.

-- A pool in which a number names a class has entries.
proper_has_entries : (pool : List Constant) (n : ℕ) → is_proper_class pool n ≡ true → 0 < length pool
proper_has_entries [] zero e = absurd cc
proper_has_entries [] (suc i) e = absurd cc
proper_has_entries (c ∷ pool) n e = omega arith

-- Bytes that are empty are none.
nothing_left : (bytes : List ℕ) → is_empty bytes ≡ true → bytes ≡ []
nothing_left [] e = refl
nothing_left (b ∷ bytes) e = absurd cc

-- Bytes that are read as a class spell it, whatever the fault of a cut.
pub class_found : (cut : ClassFault) (bytes : List ℕ) (c : ClassFile) → IsBytes bytes → class_at cut bytes ≡ Ok c → Spells bytes c
unfolding class_at
class_found cut bytes c are e =
    u4_step cut bytes _ _ are e (λ magic r1 fits1 parts1 left1 e1.
    want_step (magic == 0xcafebabe) fault.Magic _ _ e1 (λ is_magic e2.
    u2_step cut r1 _ _ left1 e2 (λ minor r2 fits2 parts2 left2 e3.
    u2_step cut r2 _ _ left2 e3 (λ major r3 fits3 parts3 left3 e4.
    want_step (is_version major) fault.Version _ _ e4 (λ version e5.
    step (pool_at cut r3) _ _ e5 (λ p p_is e6.
    step (entries_fault p.0 p.0) _ _ e6 (λ u sound e7.
    let pool = p.0 in
    let pool_read = pool_found cut r3 pool p.1 left3 sound p_is in
    u2_step cut p.1 _ _ pool_read.left e7 (λ access r5 fits5 parts5 left5 e8.
    u2_step cut r5 _ _ left5 e8 (λ this_class r6 fits6 parts6 left6 e9.
    want_step (is_proper_class pool this_class) fault.Index _ _ e9 (λ this_proper e10.
    u2_step cut r6 _ _ left6 e10 (λ super_class r7 fits7 parts7 left7 e11.
    want_step (super_class == 0 || is_proper_class pool super_class) fault.Index _ _ e11 (λ super_proper e12.
    found_step (Counted (SpellsInterface pool)) r7 (interfaces_at pool cut r7) _ _ (λ xs rest is. interfaces_found pool cut xs r7 rest left7 is) e12 (λ interfaces interface_bytes r8 interfaces_are parts8 left8 e13.
    step (fields_at pool cut r8) _ _ e13 (λ fields fields_is e14.
    let fields_read = fields_found pool cut fields.0 r8 fields.1 left8 fields_is in
    let field_front = fields_read.0 in
    step (methods_at pool major cut access fields.1) _ _ e14 (λ methods methods_is e15.
    let methods_read = methods_found pool major cut access methods.0 fields.1 methods.1 field_front.left methods_is in
    let method_front = methods_read.0 in
    found_step (Counted (SpellsKept pool)) methods.1 (kept_attributes_at pool cut methods.1) _ _ (λ xs rest is. kept_attributes_found pool cut xs methods.1 rest method_front.left is) e15 (λ attributes attribute_bytes r11 attributes_are parts11 left11 e16.
    want_step (is_empty r11) fault.Trailing _ _ e16 (λ none last.
    let made : ClassFile = record { minor = minor; major = major; pool = pool; access = access; this_class = this_class; super_class = super_class; interfaces = interfaces; fields = fields.0; methods = methods.0; attributes = attributes } in
    let same : made ≡ c = cc in
    let pool_front = pool_read.spelled (proper_has_entries pool this_class this_proper) in
    let magic_is : magic ≡ 0xcafebabe = eqb-true magic 0xcafebabe is_magic in
    let header = u4 0xcafebabe ++ (u2 minor ++ u2 major) in
    let names = u2 access ++ (u2 this_class ++ u2 super_class) in
    let of_header : bytes ≡ (u4 0xcafebabe ++ (u2 minor ++ u2 major)) ++ r3 = joined (u4 0xcafebabe) (u2 minor ++ u2 major) r3 bytes r1 r3 (parts1 ∙ ap (λ (k : ℕ). u4 k ++ r1) magic_is) (joined (u2 minor) (u2 major) r3 r1 r2 r3 parts2 parts3 refl) refl in
    let of_names : p.1 ≡ (u2 access ++ (u2 this_class ++ u2 super_class)) ++ r7 = joined (u2 access) (u2 this_class ++ u2 super_class) r7 p.1 r5 r7 parts5 (joined (u2 this_class) (u2 super_class) r7 r5 r6 r7 parts6 parts7 refl) refl in
    let spelling : Spells bytes made = record {
      header = header;
      pool = pool_front.first;
      names = names;
      interfaces = interface_bytes;
      fields = field_front.first;
      methods = method_front.first;
      attributes = attribute_bytes;
      in_order = of_header
          ∙ ap (λ (w : List ℕ). header ++ w) (pool_front.parts
          ∙ ap (λ (w : List ℕ). pool_front.first ++ w) (of_names
          ∙ ap (λ (w : List ℕ). names ++ w) (parts8
          ∙ ap (λ (w : List ℕ). interface_bytes ++ w) (field_front.parts
          ∙ ap (λ (w : List ℕ). field_front.first ++ w) (method_front.parts
          ∙ ap (λ (w : List ℕ). method_front.first ++ w) (parts11
          ∙ ap (λ (w : List ℕ). attribute_bytes ++ w) (nothing_left r11 none) ∙ append-nil attribute_bytes))))));
      of_header = (fits2, version, refl);
      of_pool = pool_front.spells;
      of_names = (fits5, fits6, fits7, this_proper, super_proper, refl);
      of_interfaces = interfaces_are;
      of_fields = field_front.spells;
      distinct_fields = fields_read.1;
      of_methods = method_front.spells;
      distinct_methods = methods_read.1;
      of_attributes = attributes_are;
    } in
    subst (Spells bytes) same spelling)))))))))))))))))

-- Bytes that are read as a class spell it.
pub read_is_spelled : (bytes : List ℕ) (c : ClassFile) → IsBytes bytes → read bytes ≡ Ok c → Spells bytes c
read_is_spelled bytes c are e = class_found (fault.Truncated (length bytes)) bytes c are e
