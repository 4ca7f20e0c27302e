-- Proves that the state of the reader keeps its form with each statement that is formed, allowed at its place and not
-- repeated.
use Rattle.std.proofs.Common.{◌≡◌, ℕ, ◌<◌, Bool, false, not, ◌||◌, nat_le, List, [], ◌∷◌, ◌++◌, Option, Some, None, IsTrue, option_map, is_some, refl, sym, ap, subst, ◌∙◌, arith}
use Rattle.std.specs.List.{AllByRecursion, list_any}
use Rattle.std.proofs.lemmas.Bool.{and_parts, leb-true}
use Rattle.std.proofs.lemmas.Option.{none-some}
use Rattle.jvms_file.specs.Names.{is_class_name}
use Rattle.jvms_file.specs.Members.{is_interface}
use Rattle.jvms_file.specs.Spelling.{IsU2, IsDistinctBy}
use Rattle.jasmin.specs.declared.source.CodeItem.TheVariants as item
use Rattle.jasmin.specs.declared.source.FieldLine.{FieldLine}
use Rattle.jasmin.specs.declared.source.MethodLines.{MethodLines}
use Rattle.jasmin.specs.declared.statement.Statement.{Statement}
use Rattle.jasmin.specs.declared.statement.Statement.TheVariants as statement
use Rattle.jasmin.specs.declared.reading.Part.{Part}
use Rattle.jasmin.specs.declared.reading.Part.TheVariants as part
use Rattle.jasmin.specs.declared.reading.OpenMethod.{OpenMethod}
use Rattle.jasmin.specs.declared.reading.Reading.{Reading}
use Rattle.jasmin.specs.Reading.{switch_of, switch_of_method, rank, is_in_order, is_placed, has_labels, is_field_like, is_method_like, is_repeated, in_method, with_throws, with_catch, with_item, with_instruction, with_table_label, with_match, closed_switch, new_method, method_lines_of, with_method, with_statement}
use Rattle.source_form_laws.specs.Formed.{IsFormedFieldLine, IsFormedMethodLines}
use Rattle.source_form_laws.proofs.Lists.{one_more, one_more_distinct}
use Rattle.source_form_laws.proofs.Statements.{IsNext, IsRising, IsPlaced, IsFormedStatement}
use Rattle.source_form_laws.proofs.Methods.{IfThere, IsFormedOpen, opened_formed, ended_formed, throws_kept, stack_kept, locals_kept, catch_kept, item_kept, instruction_kept, label_kept, match_kept, default_kept}

abbrev pub IsClassName : List ℕ → Type 0
IsClassName name = IsTrue (is_class_name name)

abbrev pub same_field : FieldLine → FieldLine → Bool
same_field f g = is_field_like g.name g.descriptor f

abbrev pub same_method : MethodLines → MethodLines → Bool
same_method m n = is_method_like n.name n.descriptor m

-- The form of the fields: each is formed, and no two are equal. Below, the form of the methods.
pub record AreFields (fields : List FieldLine) : Type 0 where
  pub formed : AllByRecursion IsFormedFieldLine fields
  pub distinct : IsDistinctBy same_field fields

pub record AreMethods (interface : Bool) (methods : List MethodLines) : Type 0 where
  pub formed : AllByRecursion (IsFormedMethodLines interface) methods
  pub distinct : IsDistinctBy same_method methods

-- Before the part of the members, no method has begun.
abbrev pub IsBefore : Part → List MethodLines → Option OpenMethod → Type 0
IsBefore part.Members methods method = Unit {0}
IsBefore _ methods method = (methods ≡ []) × (method ≡ None)

-- The form of the state of the reader.
pub record IsFormedReading (r : Reading) : Type 0 where
  pub access : IsU2 r.access
  pub name : IfThere IsClassName r.name
  pub superclass : IfThere IsClassName r.superclass
  pub interfaces : AllByRecursion IsClassName r.interfaces
  pub fields : AreFields r.fields
  pub methods : AreMethods (is_interface r.access) r.methods
  pub before : IsBefore r.part r.methods r.method
  pub open_method : IfThere (IsFormedOpen (is_interface r.access) r.methods) r.method

-- ---- The order of parts

no_methods : (latest wanted : Part) (inside : Bool) (methods : List MethodLines) (method : Option OpenMethod) → IsTrue (is_placed latest inside (Some wanted)) → rank wanted < 4 → IsBefore latest methods method → (methods ≡ []) × (method ≡ None)
no_methods part.Members wanted inside methods method placed low before =
    let order = and_parts (nat_le 4 (rank wanted)) (nat_le (rank wanted) 1 || nat_le 1 4) (and_parts (not inside) (is_in_order part.Members wanted) placed).1 in
    let high = leb-true 4 (rank wanted) order.0 in
    absurd (omega arith)
no_methods _ wanted inside methods method placed low before = before

-- The state keeps its form with the class, and with the parts after the class and before the members.
class_kept : (r : Reading) (access : ℕ) (name : List ℕ) → IsFormedReading r → IsPlaced r part.Class → IsU2 access → IsClassName name → IsFormedReading (record r { part = part.Class; access = access; name = Some name })
class_kept r access name h placed small named =
    let none = no_methods r.part part.Class (is_some r.method) r.methods r.method placed (omega arith) h.before in
    let no_method : AreMethods (is_interface access) [] = record { formed = tt; distinct = tt } in
    record {
      access = small;
      name = named;
      superclass = h.superclass;
      interfaces = h.interfaces;
      fields = h.fields;
      methods = subst (AreMethods (is_interface access)) (sym none.0) no_method;
      before = none;
      open_method = subst (IfThere (IsFormedOpen (is_interface access) r.methods)) (sym none.1) tt;
    }

super_kept : (r : Reading) (name : List ℕ) → IsFormedReading r → IsPlaced r part.Super → IsClassName name → IsFormedReading (record r { part = part.Super; superclass = Some name })
super_kept r name h placed named =
    record { access = h.access; name = h.name; superclass = named; interfaces = h.interfaces; fields = h.fields; methods = h.methods; before = no_methods r.part part.Super (is_some r.method) r.methods r.method placed (omega arith) h.before; open_method = h.open_method }

implements_kept : (r : Reading) (name : List ℕ) → IsFormedReading r → IsPlaced r part.Implements → IsClassName name → IsFormedReading (record r { part = part.Implements; interfaces = r.interfaces ++ name ∷ [] })
implements_kept r name h placed named =
    record { access = h.access; name = h.name; superclass = h.superclass; interfaces = one_more IsClassName r.interfaces name h.interfaces named; fields = h.fields; methods = h.methods; before = no_methods r.part part.Implements (is_some r.method) r.methods r.method placed (omega arith) h.before; open_method = h.open_method }

-- ---- Members

field_kept : (r : Reading) (f : FieldLine) → IsFormedReading r → IsFormedFieldLine f → list_any (is_field_like f.name f.descriptor) r.fields ≡ false → IsFormedReading (record r { part = part.Members; fields = r.fields ++ f ∷ [] })
field_kept r f h formed fresh =
    let all : AreFields (r.fields ++ f ∷ []) = record { formed = one_more IsFormedFieldLine r.fields f h.fields.formed formed; distinct = one_more_distinct same_field r.fields f h.fields.distinct fresh } in
    record { access = h.access; name = h.name; superclass = h.superclass; interfaces = h.interfaces; fields = all; methods = h.methods; before = tt; open_method = h.open_method }

method_begun : (r : Reading) (access : ℕ) (name descriptor : List ℕ) → IsFormedReading r → IsFormedOpen (is_interface r.access) r.methods (new_method access name descriptor) → IsFormedReading (record r { part = part.Members; method = Some (new_method access name descriptor) })
method_begun r access name descriptor h formed =
    record { access = h.access; name = h.name; superclass = h.superclass; interfaces = h.interfaces; fields = h.fields; methods = h.methods; before = tt; open_method = formed }

before_end : (latest : Part) (methods more : List MethodLines) (method : Option OpenMethod) (m : OpenMethod) → method ≡ Some m → IsBefore latest methods method → IsBefore latest more None
before_end part.Members methods more method m is before = tt
before_end _ methods more method m is before = absurd (none-some m (sym before.1 ∙ is))

method_ended : (r : Reading) (o : Option OpenMethod) → r.method ≡ o → IsFormedReading r → IsFormedReading (with_method o r)
method_ended r None is h = h
method_ended r (Some m) is h =
    let interface = is_interface r.access in
    let formed : IsFormedOpen interface r.methods m = subst (IfThere (IsFormedOpen interface r.methods)) is h.open_method in
    let all : AreMethods interface (r.methods ++ method_lines_of m ∷ []) = record {
      formed = one_more (IsFormedMethodLines interface) r.methods (method_lines_of m) h.methods.formed (ended_formed interface r.methods m formed);
      distinct = one_more_distinct same_method r.methods (method_lines_of m) h.methods.distinct formed.fresh;
    } in
    record { access = h.access; name = h.name; superclass = h.superclass; interfaces = h.interfaces; fields = h.fields; methods = all; before = before_end r.part r.methods (r.methods ++ method_lines_of m ∷ []) r.method m is h.before; open_method = tt }

-- ---- Within a method

before_change : (change : OpenMethod → OpenMethod) (latest : Part) (methods : List MethodLines) (method : Option OpenMethod) → IsBefore latest methods method → IsBefore latest methods (option_map change method)
before_change change part.Members methods method before = tt
before_change change _ methods method before = (before.0, ap (λ (o : Option OpenMethod). option_map change o) before.1)

-- A change keeps the form of the open method.
abbrev Keeps : Reading → (OpenMethod → OpenMethod) → Type 0
Keeps r change = (m : OpenMethod) → r.method ≡ Some m → IsFormedOpen (is_interface r.access) r.methods m → IsFormedOpen (is_interface r.access) r.methods (change m)

changed : (r : Reading) (change : OpenMethod → OpenMethod) → Keeps r change → (o : Option OpenMethod) → r.method ≡ o → IfThere (IsFormedOpen (is_interface r.access) r.methods) o → IfThere (IsFormedOpen (is_interface r.access) r.methods) (option_map change o)
changed r change keeps None is formed = tt
changed r change keeps (Some m) is formed = keeps m is formed

method_kept : (r : Reading) (change : OpenMethod → OpenMethod) → IsFormedReading r → Keeps r change → IsFormedReading (in_method r change)
method_kept r change h keeps =
    record { access = h.access; name = h.name; superclass = h.superclass; interfaces = h.interfaces; fields = h.fields; methods = h.methods; before = before_change change r.part r.methods r.method h.before; open_method = changed r change keeps r.method refl h.open_method }

-- The state keeps its form with another label of the open tableswitch.
of_switch : (r : Reading) (label : List ℕ) → IsFormedReading r → IsNext (switch_of r) → IsFormedReading (in_method r (λ m. record m { switch = with_table_label label m.switch }))
of_switch r label h next =
    method_kept r (λ m. record m { switch = with_table_label label m.switch }) h (λ m is formed.
    label_kept (is_interface r.access) r.methods label m (subst (λ (o : Option OpenMethod). IsNext (switch_of_method o)) is next) formed)

-- ---- Statements

pub statement_kept : (r : Reading) (s : Statement) → IsFormedReading r → IsFormedStatement r (switch_of r) s → is_repeated r s ≡ false → IsFormedReading (with_statement r s)
unfolding with_statement is_repeated
statement_kept r statement.Blank h f once = h
statement_kept r statement.Bytecode h f once =
    record { access = h.access; name = h.name; superclass = h.superclass; interfaces = h.interfaces; fields = h.fields; methods = h.methods; before = h.before; open_method = h.open_method }
statement_kept r statement.SourceFile h f once =
    record { access = h.access; name = h.name; superclass = h.superclass; interfaces = h.interfaces; fields = h.fields; methods = h.methods; before = h.before; open_method = h.open_method }
statement_kept r (statement.Class access name) h f once = class_kept r access name h f.0 f.1 f.2
statement_kept r (statement.Superclass name) h f once = super_kept r name h f.0 f.1
statement_kept r (statement.Implements name) h f once = implements_kept r name h f.0 f.1
statement_kept r (statement.Field g) h f once = field_kept r g h f once
statement_kept r (statement.Method access name descriptor) h f once =
    method_begun r access name descriptor h (opened_formed (is_interface r.access) r.methods access name descriptor f once)
statement_kept r statement.EndMethod h f once = method_ended r r.method refl h
statement_kept r (statement.MaxStack n) h f once =
    method_kept r (λ m. record m { max_stack = Some n }) h (λ m is formed. stack_kept (is_interface r.access) r.methods n m f formed)
statement_kept r (statement.MaxLocals n) h f once =
    method_kept r (λ m. record m { max_locals = Some n }) h (λ m is formed. locals_kept (is_interface r.access) r.methods n m f formed)
statement_kept r (statement.Catch c) h f once =
    method_kept r (with_catch c) h (λ m is formed. catch_kept (is_interface r.access) r.methods c m f formed)
statement_kept r (statement.Throws name) h f once =
    method_kept r (with_throws name) h (λ m is formed. throws_kept (is_interface r.access) r.methods name m f formed)
statement_kept r statement.Dropped h f once = h
statement_kept r (statement.TableLabel label) h f once = of_switch r label h f
statement_kept r (statement.Match line) h f once =
    method_kept r (λ m. record m { switch = with_match line m.switch }) h (λ m is formed.
    match_kept (is_interface r.access) r.methods line m f.0 (subst (λ (o : Option OpenMethod). IsRising (switch_of_method o) line.value) is f.1) formed)
statement_kept r (statement.Default label) h f once =
    method_kept r (λ m. closed_switch m.switch label m) h (λ m is formed.
    default_kept (is_interface r.access) r.methods label m (subst (λ (o : Option OpenMethod). IsTrue (has_labels o)) is f) formed)
statement_kept r (statement.Label label) h f once =
    method_kept r (with_item (item.Label label)) h (λ m is formed. item_kept (is_interface r.access) r.methods (item.Label label) m tt formed)
statement_kept r (statement.Instruction i) h f once =
    method_kept r (with_instruction i) h (λ m is formed. instruction_kept (is_interface r.access) r.methods i m f formed)
statement_kept r (statement.LabelledInstruction label i) h f once =
    method_kept r (λ m. with_instruction i (with_item (item.Label label) m)) h (λ m is formed.
    instruction_kept (is_interface r.access) r.methods i (with_item (item.Label label) m) f (item_kept (is_interface r.access) r.methods (item.Label label) m tt formed))
