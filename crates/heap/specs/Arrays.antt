-- Arrays that are created together (own).
use Rattle.std.specs.Prelude.{◌≡◌, List, ◌++◌, map}
use Rattle.std.specs.List.{AllByRecursion}
use Rattle.jvms_program.specs.declared.program.Class.{Class}
use Rattle.jvms_machine.specs.State.{Object}
use Rattle.heap.specs.declared.stored_object.StoredObject.{StoredObject}
use Rattle.heap.specs.Stored.{object_of, IsKept, IsPlain}

-- The stored object is this array, in every program.
pub record IsArray (o : StoredObject) (x : Object) : Type 0 where
  pub shows : (program : List Class) → object_of program o ≡ x
  pub kept : (program : List Class) → IsKept program o
  pub plain : IsPlain o

-- These objects, which are arrays, are stored after those that were there.
pub record AppendsArrays (before after : List StoredObject) (objects : List Object) : Type 0 where
  pub new : List StoredObject
  pub put : after ≡ before ++ new
  pub show : (program : List Class) → map (object_of program) new ≡ objects
  pub kept : (program : List Class) → AllByRecursion (IsKept program) new
  pub plain : AllByRecursion IsPlain new
