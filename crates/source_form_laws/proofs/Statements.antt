-- Defines what the statement of a line satisfies, given the lines before it.
use Rattle.std.proofs.Common.{ℕ, ◌^◌, ◌-◌, Bool, true, false, not, ◌||◌, List, Some, IsTrue, ℤ, pos, int_le, is_some, if◌then◌else◌, refl}
use Rattle.jvms_file.specs.Names.{is_class_name, is_method_name, is_initializer_name}
use Rattle.jvms_file.specs.Instructions.{is_above}
use Rattle.jvms_file.specs.Members.{is_static, is_abstract, is_interface, is_method_descriptor_for}
use Rattle.jvms_file.specs.Spelling.{IsU2}
use Rattle.jasmin.specs.declared.statement.OpenSwitch.{OpenSwitch}
use Rattle.jasmin.specs.declared.statement.OpenSwitch.TheVariants as open_switch
use Rattle.jasmin.specs.declared.statement.ClassSort.TheVariants as sort
use Rattle.jasmin.specs.declared.statement.Statement.{Statement}
use Rattle.jasmin.specs.declared.statement.Statement.TheVariants as statement
use Rattle.jasmin.specs.declared.reading.Part.{Part}
use Rattle.jasmin.specs.declared.reading.Part.TheVariants as part
use Rattle.jasmin.specs.declared.reading.Reading.{Reading}
use Rattle.jasmin.specs.Statements.{is_permitted}
use Rattle.jasmin.specs.Reading.{is_placed, has_labels, sort_of}
use Rattle.source_form_laws.specs.Formed.{IsSigned, IsClassOrArray, IsFormedCaught, IsFormedFieldLine}
use Rattle.source_form_laws.proofs.Operations.{IsFormedInstruction}

-- The form of the head of a method of a class or an interface.
pub record IsFormedHead (interface : Bool) (access : ℕ) (name descriptor : List ℕ) : Type 0 where
  pub small : IsU2 access
  pub named : IsTrue (is_method_name name)
  pub described : IsTrue (is_method_descriptor_for (is_static access || is_initializer_name name) descriptor)
  pub permitted : IsTrue (not interface || is_initializer_name name || is_abstract access)

-- The value of a tableswitch's next label fits an int.
abbrev pub IsNext : OpenSwitch → Type 0
IsNext (open_switch.Table next) = IsTrue (int_le next (pos (2 ^ 31 - 1)))
IsNext _ = Unit {0}

-- A value is above that of a lookupswitch's last match.
abbrev pub IsRising : OpenSwitch → ℤ → Type 0
IsRising (open_switch.Lookup last) value = IsTrue (is_above last value)
IsRising _ value = Unit {0}

abbrev pub IsPlaced : Reading → Part → Type 0
IsPlaced r p = IsTrue (is_placed r.part (is_some r.method) (Some p))

-- The form of a statement after these lines, with this open switch or none.
abbrev pub IsFormedStatement : Reading → OpenSwitch → Statement → Type 0
IsFormedStatement r switch (statement.Class access name) = IsPlaced r part.Class × IsU2 access × IsTrue (is_class_name name)
IsFormedStatement r switch (statement.Superclass name) = IsPlaced r part.Super × IsTrue (is_class_name name)
IsFormedStatement r switch (statement.Implements name) = IsPlaced r part.Implements × IsTrue (is_class_name name)
IsFormedStatement r switch (statement.Field f) = IsFormedFieldLine f
IsFormedStatement r switch (statement.Method access name descriptor) = IsFormedHead (is_interface r.access) access name descriptor
IsFormedStatement r switch (statement.MaxStack n) = IsU2 n
IsFormedStatement r switch (statement.MaxLocals n) = IsU2 n
IsFormedStatement r switch (statement.Catch c) = IsFormedCaught c.caught
IsFormedStatement r switch (statement.Throws name) = IsClassOrArray name
IsFormedStatement r switch (statement.TableLabel label) = IsNext switch
IsFormedStatement r switch (statement.Match line) = IsSigned 31 line.value × IsRising switch line.value
IsFormedStatement r switch (statement.Default label) = IsTrue (has_labels r.method)
IsFormedStatement r switch (statement.Instruction i) = IsFormedInstruction i
IsFormedStatement r switch (statement.LabelledInstruction label i) = IsFormedInstruction i
IsFormedStatement r switch _ = Unit {0}

-- ---- Methods of interfaces

or_swapped : (a b : Bool) → IsTrue (a || b) → IsTrue (b || a)
or_swapped true true e = refl
or_swapped true false e = refl
or_swapped false true e = refl
or_swapped false false e = e

permitted_by : (interface : Bool) (access : ℕ) (name : List ℕ) → IsTrue (is_permitted (if interface then sort.Interface else sort.Class) access name) → IsTrue (not interface || is_initializer_name name || is_abstract access)
permitted_by true access name e = or_swapped (is_abstract access) (is_initializer_name name) e
permitted_by false access name e = refl

pub permitted_is : (class_access access : ℕ) (name : List ℕ) → IsTrue (is_permitted (sort_of class_access) access name) → IsTrue (not (is_interface class_access) || is_initializer_name name || is_abstract access)
permitted_is class_access access name e = permitted_by (is_interface class_access) access name e
