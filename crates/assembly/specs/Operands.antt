-- Defines the entries of the constant pool that instructions and catches name (JVMS 4.4), numbered by first use.
use Rattle.std.specs.Prelude.{ℕ, List, [], ◌∷◌, ◌++◌, Result, Ok}
use Rattle.jvms_file.specs.declared.class_file.Constant.{Constant}
use Rattle.jvms_file.specs.declared.insn.Invoke.{Invoke}
use Rattle.jvms_file.specs.declared.insn.Invoke.TheVariants as invoke
use Rattle.jvms_file.specs.Results.{◌>>=◌}
use Rattle.jasmin.specs.declared.source.LoadedConstant.{LoadedConstant}
use Rattle.jasmin.specs.declared.source.LoadedConstant.TheVariants as loaded
use Rattle.jasmin.specs.declared.source.Operation.{Operation}
use Rattle.jasmin.specs.declared.source.Operation.TheVariants as operation
use Rattle.jasmin.specs.declared.source.CodeItem.{CodeItem}
use Rattle.jasmin.specs.declared.source.CodeItem.TheVariants as item
use Rattle.jasmin.specs.declared.source.Caught.{Caught}
use Rattle.jasmin.specs.declared.source.Caught.TheVariants as caught
use Rattle.jasmin.specs.declared.source.CatchLine.{CatchLine}
use Rattle.pool_entries.specs.declared.fault.EntryFault.{EntryFault}
use Rattle.pool_entries.specs.declared.kind.MethodKind.{MethodKind}
use Rattle.pool_entries.specs.declared.kind.MethodKind.TheVariants as kind
use Rattle.pool_entries.specs.Entries.{class_entry, string_entry, integer_entry, long_entry, field_entry, method_entry}

-- Returns the entry of the constant that ldc or ldc_w loads, and the pool with it.
abbrev pub loaded_entry : List Constant → LoadedConstant → Result (ℕ × List Constant) EntryFault
loaded_entry pool (loaded.Integer n) = integer_entry pool n
loaded_entry pool (loaded.String text) = string_entry pool text
loaded_entry pool (loaded.Class name) = class_entry pool name

-- Returns the kind of a method's entry: a method of an interface for invokeinterface, or else one of a class.
abbrev pub kind_of : Invoke → MethodKind
kind_of invoke.Interface = kind.OfInterface
kind_of _ = kind.OfClass

-- Returns the index of the entry that an instruction names, or 0 if it names none, and the pool with it.
unfoldable pub operand_entry : List Constant → Operation → Result (ℕ × List Constant) EntryFault
operand_entry pool (operation.Constant width c) = loaded_entry pool c
operand_entry pool (operation.ConstantLong n) = long_entry pool n
operand_entry pool (operation.Field how f) = field_entry pool f.class f.name f.descriptor
operand_entry pool (operation.Invoke how m) = method_entry (kind_of how) pool m.class m.name m.descriptor
operand_entry pool (operation.Class how name) = class_entry pool name
operand_entry pool (operation.MultiNewArray name count) = class_entry pool name
operand_entry pool _ = Ok (0, pool)

-- Appends the indices for the instructions of code to those before.
unfoldable pub operands_onto : List ℕ → List Constant → List CodeItem → Result (List ℕ × List Constant) EntryFault
operands_onto seen pool [] = Ok (seen, pool)
operands_onto seen pool (item.Label name ∷ items) = operands_onto seen pool items
operands_onto seen pool (item.Operation o ∷ items) = do
  n ← operand_entry pool o
  operands_onto (seen ++ n.0 ∷ []) n.1 items

-- Returns the index of the class that a catch names, or 0 for all.
unfoldable pub catch_entry : List Constant → Caught → Result (ℕ × List Constant) EntryFault
catch_entry pool caught.All = Ok (0, pool)
catch_entry pool (caught.Class name) = class_entry pool name

unfoldable pub catches_onto : List ℕ → List Constant → List CatchLine → Result (List ℕ × List Constant) EntryFault
catches_onto seen pool [] = Ok (seen, pool)
catches_onto seen pool (c ∷ cs) = do
  n ← catch_entry pool c.caught
  catches_onto (seen ++ n.0 ∷ []) n.1 cs

-- Appends the indices of classes with these names to those before.
unfoldable pub classes_onto : List ℕ → List Constant → List (List ℕ) → Result (List ℕ × List Constant) EntryFault
classes_onto seen pool [] = Ok (seen, pool)
classes_onto seen pool (name ∷ names) = do
  n ← class_entry pool name
  classes_onto (seen ++ n.0 ∷ []) n.1 names
