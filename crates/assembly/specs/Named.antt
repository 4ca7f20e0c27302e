-- Defines what the indices in a method's code name in a pool.
use Rattle.std.specs.Prelude.{◌≡◌, ℕ, List, [], ◌∷◌, Some}
use Rattle.jvms_file.specs.declared.class_file.Constant.{Constant}
use Rattle.jvms_file.specs.declared.class_file.Constant.TheVariants as constant
use Rattle.jvms_file.specs.ConstantPool.{entry, class_name_at}
use Rattle.jvms_file.specs.Spelling.{IsU2}
use Rattle.jasmin.specs.declared.source.LoadedConstant.{LoadedConstant}
use Rattle.jasmin.specs.declared.source.LoadedConstant.TheVariants as loaded
use Rattle.jasmin.specs.declared.source.Operation.{Operation}
use Rattle.jasmin.specs.declared.source.Operation.TheVariants as operation
use Rattle.jasmin.specs.declared.source.Caught.{Caught}
use Rattle.jasmin.specs.declared.source.Caught.TheVariants as caught
use Rattle.jasmin.specs.declared.source.CatchLine.{CatchLine}
use Rattle.pool_entries.specs.Entries.{method_constant}
use Rattle.pool_entries.specs.Named.{IsString, IsMember}
use Rattle.assembly.specs.Operands.{kind_of}

-- An index is that of a class with this name.
abbrev pub NamesClass : List Constant → ℕ → List ℕ → Type 0
NamesClass pool n name = IsU2 n × (class_name_at pool n ≡ Some name)

abbrev pub NamesLoad : List Constant → ℕ → LoadedConstant → Type 0
NamesLoad pool n (loaded.Integer k) = IsU2 n × (entry pool n ≡ Some (constant.Integer k))
NamesLoad pool n (loaded.String text) = IsU2 n × IsString pool n text
NamesLoad pool n (loaded.Class name) = NamesClass pool n name

-- An index is that of the entry that an instruction names, if the instruction names one.
unfoldable pub NamesOperand : List Constant → ℕ → Operation → Type 0
NamesOperand pool n (operation.Constant width c) = NamesLoad pool n c
NamesOperand pool n (operation.ConstantLong k) = IsU2 n × (entry pool n ≡ Some (constant.Long k))
NamesOperand pool n (operation.Field how f) = IsU2 n × IsMember (λ c m. constant.Field c m) pool n f.class f.name f.descriptor
NamesOperand pool n (operation.Invoke how m) = IsU2 n × IsMember (method_constant (kind_of how)) pool n m.class m.name m.descriptor
NamesOperand pool n (operation.Class how name) = NamesClass pool n name
NamesOperand pool n (operation.MultiNewArray name count) = NamesClass pool n name
NamesOperand pool n _ = Unit {0}

-- The indices are those of the instructions, one for each.
abbrev pub AreOperands : List Constant → List ℕ → List Operation → Type 0
AreOperands pool [] [] = Unit {0}
AreOperands pool (n ∷ numbers) (o ∷ os) = NamesOperand pool n o × AreOperands pool numbers os
AreOperands pool _ _ = ⊥

-- An index is that of the class that a catch names, or 0 for all.
abbrev pub NamesCaught : List Constant → ℕ → Caught → Type 0
NamesCaught pool n caught.All = n ≡ 0
NamesCaught pool n (caught.Class name) = NamesClass pool n name

abbrev pub AreCaught : List Constant → List ℕ → List CatchLine → Type 0
AreCaught pool [] [] = Unit {0}
AreCaught pool (n ∷ numbers) (c ∷ cs) = NamesCaught pool n c.caught × AreCaught pool numbers cs
AreCaught pool _ _ = ⊥

-- The indices are those of the classes with these names.
abbrev pub AreClasses : List Constant → List ℕ → List (List ℕ) → Type 0
AreClasses pool [] [] = Unit {0}
AreClasses pool (n ∷ numbers) (name ∷ names) = NamesClass pool n name × AreClasses pool numbers names
AreClasses pool _ _ = ⊥
