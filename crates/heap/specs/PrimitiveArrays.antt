-- The classes of the arrays of primitive types.
use Rattle.std.specs.Prelude.{◌≡◌, ℕ, List}
use Rattle.jvms_file.specs.declared.insn.ArrayType.TheVariants as array_type
use Rattle.jvms_machine.specs.Heap.{array_of_type}

abbrev pub ArePrimitiveArrays : (booleans chars floats doubles bytes shorts ints longs : List ℕ) → Type 0
ArePrimitiveArrays booleans chars floats doubles bytes shorts ints longs =
    (booleans ≡ array_of_type array_type.Boolean) × (chars ≡ array_of_type array_type.Char) × (floats ≡ array_of_type array_type.Float)
    × (doubles ≡ array_of_type array_type.Double) × (bytes ≡ array_of_type array_type.Byte) × (shorts ≡ array_of_type array_type.Short)
    × (ints ≡ array_of_type array_type.Int) × (longs ≡ array_of_type array_type.Long)
