-- Proves that the lines of a listable and printable tree are plain.
use Rattle.std.proofs.Common.{◌≡◌, ℕ, true, not, ◌&&◌, ◌==◌, List, [], ◌∷◌, ◌++◌, map, flat_map, Option, Some, None, is_some, refl, arith}
use Rattle.std.specs.Prelude.{codes}
use Rattle.std.specs.Option.{unwrap_or}
use Rattle.std.specs.List.{list_all, list_any}
use Rattle.std.specs.Fmt.{decimal, signed_decimal}
use Rattle.std.proofs.lemmas.Bool.{and_parts, cond_both}
use Rattle.jvms_file.specs.declared.insn.ArrayType.{ArrayType}
use Rattle.jvms_file.specs.declared.insn.ArrayType.TheVariants as array_type
use Rattle.jvms_file.specs.declared.insn.Invoke.{Invoke}
use Rattle.jvms_file.specs.declared.insn.Invoke.TheVariants as invoke
use Rattle.jvms_file.specs.Instructions.{interface_count}
use Rattle.jvms_file.specs.Members.{is_interface}
use Rattle.jvms_file.specs.Names.{same_text}
use Rattle.jasmin.specs.declared.source.LoadedConstant.{LoadedConstant}
use Rattle.jasmin.specs.declared.source.LoadedConstant.TheVariants as loaded
use Rattle.jasmin.specs.declared.source.MatchLine.{MatchLine}
use Rattle.jasmin.specs.declared.source.Operation.{Operation}
use Rattle.jasmin.specs.declared.source.Operation.TheVariants as operation
use Rattle.jasmin.specs.declared.source.CodeItem.{CodeItem}
use Rattle.jasmin.specs.declared.source.CodeItem.TheVariants as item
use Rattle.jasmin.specs.declared.source.Caught.{Caught}
use Rattle.jasmin.specs.declared.source.Caught.TheVariants as caught
use Rattle.jasmin.specs.declared.source.CatchLine.{CatchLine}
use Rattle.jasmin.specs.declared.source.FieldConstant.{FieldConstant}
use Rattle.jasmin.specs.declared.source.FieldConstant.TheVariants as constant
use Rattle.jasmin.specs.declared.source.FieldLine.{FieldLine}
use Rattle.jasmin.specs.declared.source.MethodLines.{MethodLines}
use Rattle.jasmin.specs.declared.source.Source.{Source}
use Rattle.jasmin.specs.Denote.{has_code}
use Rattle.jasmin.specs.Numerals.{number_of}
use Rattle.jasmin.specs.Operands.{field_words, method_words}
use Rattle.listing_spec.specs.Listable.{IsPlaceLabel, IsListableLoad, IsListableOperation, IsListableItem, IsListableCatch, IsListableValue, IsListableField, IsListableMethod, IsListable}
use Rattle.listing_spec.specs.Printable.{is_word, is_before_descriptor, is_loadable_word, is_printable_operation, is_printable_item, is_printable_caught, is_printable_field, is_printable_method, is_printable}
use Rattle.listing_spec.specs.Printed.{join_words, access_names, written_class_words, written_interface_words, opcode_of, mnemonic, array_type_name, loaded_word, member_word, count_words, operand_words, switch_line, default_line, match_line, lines_after, item_lines, value_words, field_line, caught_word, catch_line, throws_line, body_lines, method_text, class_line, lines_of_source}
use Rattle.source_text.proofs.Plain.{IsPlain, AllPlain, is_simple, plain_append, simple_plain, small_first, word_plain, joined_plain, all_append, all_map, all_flat_map, all_tested, all_both}
use Rattle.source_text.proofs.PlainWords.{decimal_plain, signed_plain, label_plain, quoted_plain, access_plain, mnemonic_plain}

-- Words of the language are plain.
ascii : (text : List ℕ) → list_all is_simple text ≡ true → IsPlain text
ascii text e = simple_plain text e

-- ---- Instructions

before_descriptor_plain : (name : List ℕ) → is_before_descriptor name ≡ true → IsPlain name
before_descriptor_plain name e = word_plain name (and_parts (is_word name) (not (list_any (λ u. u == 40) name)) e).0

member_plain : (class name : List ℕ) → IsPlain class → IsPlain name → IsPlain (member_word class name)
member_plain class name c n = plain_append class (47 ∷ name) c (small_first 47 name (omega arith) (omega arith) n)

loaded_plain : (c : LoadedConstant) → IsListableLoad c → is_loadable_word c ≡ true → IsPlain (loaded_word c)
loaded_plain (loaded.Integer n) l e = signed_plain n
loaded_plain (loaded.String text) l e = quoted_plain text l
loaded_plain (loaded.Class name) l e = word_plain name (and_parts (is_word name) (not (is_some (number_of name))) e).0

array_type_plain : (type : ArrayType) → IsPlain (array_type_name type)
array_type_plain array_type.Boolean = ascii (codes "boolean") refl
array_type_plain array_type.Char = ascii (codes "char") refl
array_type_plain array_type.Float = ascii (codes "float") refl
array_type_plain array_type.Double = ascii (codes "double") refl
array_type_plain array_type.Byte = ascii (codes "byte") refl
array_type_plain array_type.Short = ascii (codes "short") refl
array_type_plain array_type.Int = ascii (codes "int") refl
array_type_plain array_type.Long = ascii (codes "long") refl

count_plain : (how : Invoke) (descriptor : List ℕ) → AllPlain (count_words how descriptor)
count_plain invoke.Interface descriptor = (decimal_plain (unwrap_or (interface_count (Some ([], descriptor))) 0), tt)
count_plain invoke.Virtual descriptor = tt
count_plain invoke.Special descriptor = tt
count_plain invoke.Static descriptor = tt

operand_plain : (o : Operation) → IsListableOperation o → is_printable_operation o ≡ true → AllPlain (operand_words o)
unfolding operand_words IsListableOperation is_printable_operation
operand_plain (operation.Alone code) l e = tt
operand_plain (operation.PushByte n) l e = (signed_plain n, tt)
operand_plain (operation.PushShort n) l e = (signed_plain n, tt)
operand_plain (operation.Constant width c) l e = (loaded_plain c l e, tt)
operand_plain (operation.ConstantLong n) l e = (signed_plain n, tt)
operand_plain (operation.Local how n) l e = (decimal_plain n, tt)
operand_plain (operation.Increment n by) l e = (decimal_plain n, (signed_plain by, tt))
operand_plain (operation.Branch width how label) l e = (label_plain label l, tt)
operand_plain (operation.Table lines) l e = (signed_plain lines.low, tt)
operand_plain (operation.Lookup lines) l e = tt
operand_plain (operation.Field how f) l e =
    let w = and_parts (is_word f.class) (is_word f.name && is_word f.descriptor) e in
    let v = and_parts (is_word f.name) (is_word f.descriptor) w.1 in
    (member_plain f.class f.name (word_plain f.class w.0) (word_plain f.name v.0), (word_plain f.descriptor v.1, tt))
operand_plain (operation.Invoke how m) l e =
    let w = and_parts (is_before_descriptor m.class) (is_before_descriptor m.name && is_word m.descriptor) e in
    let v = and_parts (is_before_descriptor m.name) (is_word m.descriptor) w.1 in
    let member = member_plain m.class m.name (before_descriptor_plain m.class w.0) (before_descriptor_plain m.name v.0) in
    (plain_append (member_word m.class m.name) m.descriptor member (word_plain m.descriptor v.1), count_plain how m.descriptor)
operand_plain (operation.Class how name) l e = (word_plain name e, tt)
operand_plain (operation.NewArray type) l e = (array_type_plain type, tt)
operand_plain (operation.MultiNewArray name count) l e = (word_plain name e, (decimal_plain count, tt))

switch_plain : (words : List (List ℕ)) → AllPlain words → IsPlain (switch_line words)
switch_plain words a = plain_append (codes "    ") (join_words words) (ascii (codes "    ") refl) (joined_plain words a)

default_plain : (label : List ℕ) → IsPlaceLabel label → IsPlain (default_line label)
default_plain label l =
    switch_plain (codes "default" ∷ codes ":" ∷ label ∷ []) (ascii (codes "default") refl, (ascii (codes ":") refl, (label_plain label l, tt)))

match_plain : (m : MatchLine) → IsPlaceLabel m.label → IsPlain (match_line m)
match_plain m l =
    switch_plain (signed_decimal m.value ∷ codes ":" ∷ m.label ∷ []) (signed_plain m.value, (ascii (codes ":") refl, (label_plain m.label l, tt)))

behind_plain : (o : Operation) → IsListableOperation o → AllPlain (lines_after o)
unfolding IsListableOperation
behind_plain (operation.Table lines) l =
    all_append IsPlain (map (λ label. switch_line (label ∷ [])) lines.labels) (default_line lines.default ∷ [])
    (all_map IsPlaceLabel IsPlain (λ label. switch_line (label ∷ [])) (λ label is. switch_plain (label ∷ []) (label_plain label is, tt)) lines.labels l.1)
    (default_plain lines.default l.0, tt)
behind_plain (operation.Lookup lines) l =
    all_append IsPlain (map match_line lines.matches) (default_line lines.default ∷ [])
    (all_map (λ (m : MatchLine). IsPlaceLabel m.label) IsPlain match_line match_plain lines.matches l.1)
    (default_plain lines.default l.0, tt)
behind_plain (operation.Alone code) l = tt
behind_plain (operation.PushByte n) l = tt
behind_plain (operation.PushShort n) l = tt
behind_plain (operation.Constant width c) l = tt
behind_plain (operation.ConstantLong n) l = tt
behind_plain (operation.Local how n) l = tt
behind_plain (operation.Increment n by) l = tt
behind_plain (operation.Branch width how label) l = tt
behind_plain (operation.Field how f) l = tt
behind_plain (operation.Invoke how m) l = tt
behind_plain (operation.Class how name) l = tt
behind_plain (operation.NewArray type) l = tt
behind_plain (operation.MultiNewArray name count) l = tt

item_plain : (i : CodeItem) → IsListableItem i × (is_printable_item i ≡ true) → AllPlain (item_lines i)
unfolding item_lines
item_plain (item.Label name) (l, e) = (plain_append name (codes ":") (label_plain name l) (ascii (codes ":") refl), tt)
item_plain (item.Operation o) (l, e) =
    let words : AllPlain (mnemonic (opcode_of o) ∷ operand_words o) = (mnemonic_plain (opcode_of o), operand_plain o l e) in (
      plain_append (codes "  ") (join_words (mnemonic (opcode_of o) ∷ operand_words o)) (ascii (codes "  ") refl) (joined_plain (mnemonic (opcode_of o) ∷ operand_words o) words),
      behind_plain o l,
    )

-- ---- Members

value_plain : (v : Option FieldConstant) → IsListableValue v → AllPlain (value_words v)
value_plain None l = tt
value_plain (Some (constant.Integer n)) l = (ascii (codes "=") refl, (signed_plain n, tt))
value_plain (Some (constant.Long n)) l = (ascii (codes "=") refl, (signed_plain n, tt))
value_plain (Some (constant.String text)) l = (ascii (codes "=") refl, (quoted_plain text l, tt))

field_plain : (f : FieldLine) → IsListableField f × (is_printable_field f ≡ true) → IsPlain (field_line f)
unfolding field_line
field_plain f (l, e) =
    let w = and_parts (is_word f.name) (is_word f.descriptor) e in
    let behind : AllPlain (f.name ∷ f.descriptor ∷ value_words f.constant) = (word_plain f.name w.0, (word_plain f.descriptor w.1, value_plain f.constant l.value)) in
    let flags : AllPlain (access_names field_words f.access) = access_plain field_words f.access refl in
    joined_plain (codes ".field" ∷ access_names field_words f.access ++ (f.name ∷ f.descriptor ∷ value_words f.constant))
    (ascii (codes ".field") refl, all_append IsPlain (access_names field_words f.access) (f.name ∷ f.descriptor ∷ value_words f.constant) flags behind)

caught_plain : (c : Caught) → is_printable_caught c ≡ true → IsPlain (caught_word c)
caught_plain caught.All e = ascii (codes "all") refl
caught_plain (caught.Class name) e = word_plain name (and_parts (is_word name) (not (same_text (codes "all") name)) e).0

catch_plain : (c : CatchLine) → IsListableCatch c × (is_printable_caught c.caught ≡ true) → IsPlain (catch_line c)
catch_plain c (l, e) =
    joined_plain (codes ".catch" ∷ caught_word c.caught ∷ codes "from" ∷ c.from ∷ codes "to" ∷ c.to ∷ codes "using" ∷ c.using ∷ [])
    (ascii (codes ".catch") refl, (caught_plain c.caught e, (ascii (codes "from") refl, (label_plain c.from l.0, (ascii (codes "to") refl, (label_plain c.to l.1, (ascii (codes "using") refl, (label_plain c.using l.2, tt))))))))

throws_plain : (name : List ℕ) → is_word name ≡ true → IsPlain (throws_line name)
throws_plain name e = joined_plain (codes ".throws" ∷ name ∷ []) (ascii (codes ".throws") refl, (word_plain name e, tt))

limit_plain : (which : List ℕ) (n : ℕ) → IsPlain which → IsPlain (join_words (codes ".limit" ∷ which ∷ decimal n ∷ []))
limit_plain which n p = joined_plain (codes ".limit" ∷ which ∷ decimal n ∷ []) (ascii (codes ".limit") refl, (p, (decimal_plain n, tt)))

body_plain : (m : MethodLines) → IsListableMethod m → list_all (λ c. is_printable_caught c.caught) m.catches ≡ true → list_all is_printable_item m.code ≡ true → AllPlain (body_lines m)
unfolding body_lines
body_plain m l catches code =
    let stack = join_words (codes ".limit" ∷ codes "stack" ∷ decimal m.max_stack ∷ []) in
    let locals = join_words (codes ".limit" ∷ codes "locals" ∷ decimal m.max_locals ∷ []) in
    let of_catches : AllPlain (map catch_line m.catches) =
    all_map (λ (c : CatchLine). IsListableCatch c × (is_printable_caught c.caught ≡ true)) IsPlain catch_line catch_plain m.catches
    (all_both IsListableCatch (λ (c : CatchLine). is_printable_caught c.caught) m.catches l.catches catches) in
    let of_code : AllPlain (flat_map item_lines m.code) =
    all_flat_map (λ (i : CodeItem). IsListableItem i × (is_printable_item i ≡ true)) IsPlain item_lines item_plain m.code
    (all_both IsListableItem is_printable_item m.code l.code code) in
    cond_both (has_code m.name m.access) (stack ∷ locals ∷ map catch_line m.catches ++ flat_map item_lines m.code) [] AllPlain
    (λ some. (limit_plain (codes "stack") m.max_stack (ascii (codes "stack") refl), (limit_plain (codes "locals") m.max_locals (ascii (codes "locals") refl), all_append IsPlain (map catch_line m.catches) (flat_map item_lines m.code) of_catches of_code)))
    (λ none. tt)

method_plain : (m : MethodLines) → IsListableMethod m × (is_printable_method m ≡ true) → AllPlain (method_text m)
unfolding method_text is_printable_method
method_plain m (l, e) =
    let name = and_parts (is_before_descriptor m.name) (is_word m.descriptor && (list_all is_word m.throws && (list_all (λ c. is_printable_caught c.caught) m.catches && list_all is_printable_item m.code))) e in
    let descriptor = and_parts (is_word m.descriptor) (list_all is_word m.throws && (list_all (λ c. is_printable_caught c.caught) m.catches && list_all is_printable_item m.code)) name.1 in
    let throws = and_parts (list_all is_word m.throws) (list_all (λ c. is_printable_caught c.caught) m.catches && list_all is_printable_item m.code) descriptor.1 in
    let catches = and_parts (list_all (λ c. is_printable_caught c.caught) m.catches) (list_all is_printable_item m.code) throws.1 in
    let flags : AllPlain (access_names method_words m.access) = access_plain method_words m.access refl in
    let described : AllPlain ((m.name ++ m.descriptor) ∷ []) = (plain_append m.name m.descriptor (before_descriptor_plain m.name name.0) (word_plain m.descriptor descriptor.0), tt) in
    let first : IsPlain (join_words (codes ".method" ∷ access_names method_words m.access ++ (m.name ++ m.descriptor) ∷ [])) =
    joined_plain (codes ".method" ∷ access_names method_words m.access ++ (m.name ++ m.descriptor) ∷ [])
    (ascii (codes ".method") refl, all_append IsPlain (access_names method_words m.access) ((m.name ++ m.descriptor) ∷ []) flags described) in
    let of_throws : AllPlain (map throws_line m.throws) =
    all_map (λ (name : List ℕ). is_word name ≡ true) IsPlain throws_line throws_plain m.throws (all_tested is_word m.throws throws.0) in (
      first,
      all_append IsPlain (map throws_line m.throws) (body_lines m ++ codes ".end method" ∷ []) of_throws
          (all_append IsPlain (body_lines m) (codes ".end method" ∷ []) (body_plain m l catches.0 catches.1) (ascii (codes ".end method") refl, tt)),
    )

-- ---- The class

class_plain : (s : Source) → IsPlain s.name → IsPlain (class_line s)
class_plain s p =
    cond_both (is_interface s.access)
    (join_words (codes ".interface" ∷ access_names written_interface_words s.access ++ s.name ∷ []))
    (join_words (codes ".class" ∷ access_names written_class_words s.access ++ s.name ∷ []))
    IsPlain
    (λ is. joined_plain (codes ".interface" ∷ access_names written_interface_words s.access ++ s.name ∷ [])
    (ascii (codes ".interface") refl, all_append IsPlain (access_names written_interface_words s.access) (s.name ∷ []) (access_plain written_interface_words s.access refl) (p, tt)))
    (λ isnt. joined_plain (codes ".class" ∷ access_names written_class_words s.access ++ s.name ∷ [])
    (ascii (codes ".class") refl, all_append IsPlain (access_names written_class_words s.access) (s.name ∷ []) (access_plain written_class_words s.access refl) (p, tt)))

implements_plain : (name : List ℕ) → is_word name ≡ true → IsPlain (join_words (codes ".implements" ∷ name ∷ []))
implements_plain name e = joined_plain (codes ".implements" ∷ name ∷ []) (ascii (codes ".implements") refl, (word_plain name e, tt))

pub printed_plain : (s : Source) → IsListable s → is_printable s ≡ true → AllPlain (lines_of_source s)
unfolding lines_of_source is_printable
printed_plain s l e =
    let name = and_parts (is_word s.name) (is_word s.superclass && (list_all is_word s.interfaces && (list_all is_printable_field s.fields && list_all is_printable_method s.methods))) e in
    let superclass = and_parts (is_word s.superclass) (list_all is_word s.interfaces && (list_all is_printable_field s.fields && list_all is_printable_method s.methods)) name.1 in
    let interfaces = and_parts (list_all is_word s.interfaces) (list_all is_printable_field s.fields && list_all is_printable_method s.methods) superclass.1 in
    let members = and_parts (list_all is_printable_field s.fields) (list_all is_printable_method s.methods) interfaces.1 in
    let of_super : IsPlain (join_words (codes ".super" ∷ s.superclass ∷ [])) =
    joined_plain (codes ".super" ∷ s.superclass ∷ []) (ascii (codes ".super") refl, (word_plain s.superclass superclass.0, tt)) in
    let of_interfaces : AllPlain (map (λ name. join_words (codes ".implements" ∷ name ∷ [])) s.interfaces) =
    all_map (λ (name : List ℕ). is_word name ≡ true) IsPlain (λ (name : List ℕ). join_words (codes ".implements" ∷ name ∷ [])) implements_plain s.interfaces (all_tested is_word s.interfaces interfaces.0) in
    let of_fields : AllPlain (map field_line s.fields) =
    all_map (λ (f : FieldLine). IsListableField f × (is_printable_field f ≡ true)) IsPlain field_line field_plain s.fields
    (all_both IsListableField is_printable_field s.fields l.fields members.0) in
    let of_methods : AllPlain (flat_map method_text s.methods) =
    all_flat_map (λ (m : MethodLines). IsListableMethod m × (is_printable_method m ≡ true)) IsPlain method_text method_plain s.methods
    (all_both IsListableMethod is_printable_method s.methods l.methods members.1) in (
      ascii (codes ".bytecode 49.0") refl,
      (
        class_plain s (word_plain s.name name.0),
        (
          of_super,
          all_append IsPlain (map (λ name. join_words (codes ".implements" ∷ name ∷ [])) s.interfaces) (map field_line s.fields ++ flat_map method_text s.methods) of_interfaces
              (all_append IsPlain (map field_line s.fields) (flat_map method_text s.methods) of_fields of_methods),
        ),
      ),
    )
