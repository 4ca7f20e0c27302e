-- Defines the decisions as look-up tables by class, name and descriptor. The most special entry decides, because a line
-- for more methods removes the tables for fewer.
use Rattle.std.specs.Prelude.{ℕ, Bool, List, [], ◌∷◌, Option, Some, None, if◌then◌else◌}
use Rattle.std.specs.Option.{unwrap_or}
use Rattle.jvms_file.specs.Names.{same_text}
use Rattle.jvms_program.specs.declared.key.MethodKey.{MethodKey}
use Rattle.atom_spec.specs.declared.table.NameTable.{NameTable}
use Rattle.atom_spec.specs.declared.table.ClassTable.{ClassTable}
use Rattle.atom_spec.specs.declared.table.Table.{Table}
use Rattle.atom_spec.specs.Lookup.{lookup_text}

-- Returns the decision for a descriptor among the methods with one name of one class.
abbrev pub decision_of_name : NameTable → List ℕ → Bool
decision_of_name t descriptor = unwrap_or (lookup_text t.exactly descriptor) t.other

abbrev pub of_names : Bool → Option NameTable → List ℕ → Bool
of_names other None descriptor = other
of_names other (Some t) descriptor = decision_of_name t descriptor

-- Returns the decision for a name and a descriptor among the methods of one class.
abbrev pub decision_of_class : ClassTable → List ℕ → List ℕ → Bool
decision_of_class t name descriptor = of_names t.other (lookup_text t.names name) descriptor

abbrev pub of_classes : Bool → Option ClassTable → List ℕ → List ℕ → Bool
of_classes other None name descriptor = other
of_classes other (Some t) name descriptor = decision_of_class t name descriptor

-- Returns the decision for a method.
abbrev pub decision_of : Table → MethodKey → Bool
decision_of t m = of_classes t.other (lookup_text t.classes m.class) m.name m.descriptor
