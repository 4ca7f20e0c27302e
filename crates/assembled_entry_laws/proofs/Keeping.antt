-- Proves that indices name the same in a pool that keeps the entries.
use Rattle.std.proofs.Common.{ℕ, List, [], ◌∷◌}
use Rattle.jvms_file.specs.declared.class_file.Constant.{Constant}
use Rattle.jvms_file.specs.declared.class_file.Constant.TheVariants as constant
use Rattle.jasmin.specs.declared.source.LoadedConstant.{LoadedConstant}
use Rattle.jasmin.specs.declared.source.LoadedConstant.TheVariants as loaded
use Rattle.jasmin.specs.declared.source.Operation.{Operation}
use Rattle.jasmin.specs.declared.source.Operation.TheVariants as operation
use Rattle.jasmin.specs.declared.source.Caught.{Caught}
use Rattle.jasmin.specs.declared.source.Caught.TheVariants as caught
use Rattle.jasmin.specs.declared.source.CatchLine.{CatchLine}
use Rattle.pool_entries.specs.Entries.{method_constant}
use Rattle.pool_entries.specs.Kept.{IsKept}
use Rattle.pool_entries.proofs.Lookups.{class_name_at-kept, IsString-kept, IsMember-kept}
use Rattle.assembly.specs.Named.{NamesClass, NamesLoad, NamesOperand, AreOperands, NamesCaught, AreCaught, AreClasses}
use Rattle.assembly.specs.Operands.{kind_of}

pub class-kept : (old new : List Constant) (n : ℕ) (name : List ℕ) → IsKept old new → NamesClass old n name → NamesClass new n name
class-kept old new n name kept is = (is.0, class_name_at-kept old new n name kept is.1)

load-kept : (old new : List Constant) (n : ℕ) (c : LoadedConstant) → IsKept old new → NamesLoad old n c → NamesLoad new n c
load-kept old new n (loaded.Integer k) kept is = (is.0, kept.stays n _ is.1)
load-kept old new n (loaded.String text) kept is = (is.0, IsString-kept old new n text kept is.1)
load-kept old new n (loaded.Class name) kept is = class-kept old new n name kept is

pub operand-kept : (old new : List Constant) (n : ℕ) (o : Operation) → IsKept old new → NamesOperand old n o → NamesOperand new n o
unfolding NamesOperand
operand-kept old new n (operation.Constant width c) kept is = load-kept old new n c kept is
operand-kept old new n (operation.ConstantLong k) kept is = (is.0, kept.stays n _ is.1)
operand-kept old new n (operation.Field how f) kept is =
    (is.0, IsMember-kept (λ c m. constant.Field c m) old new n f.class f.name f.descriptor kept is.1)
operand-kept old new n (operation.Invoke how m) kept is =
    (is.0, IsMember-kept (method_constant (kind_of how)) old new n m.class m.name m.descriptor kept is.1)
operand-kept old new n (operation.Class how name) kept is = class-kept old new n name kept is
operand-kept old new n (operation.MultiNewArray name count) kept is = class-kept old new n name kept is
operand-kept old new n _ kept is = tt

pub operands-kept : (old new : List Constant) (numbers : List ℕ) (os : List Operation) → IsKept old new → AreOperands old numbers os → AreOperands new numbers os
operands-kept old new [] [] kept are = tt
operands-kept old new (n ∷ numbers) (o ∷ os) kept are = (operand-kept old new n o kept are.0, operands-kept old new numbers os kept are.1)
operands-kept old new [] (o ∷ os) kept are = absurd are
operands-kept old new (n ∷ numbers) [] kept are = absurd are

pub caught-kept : (old new : List Constant) (n : ℕ) (c : Caught) → IsKept old new → NamesCaught old n c → NamesCaught new n c
caught-kept old new n caught.All kept is = is
caught-kept old new n (caught.Class name) kept is = class-kept old new n name kept is

pub catches-kept : (old new : List Constant) (numbers : List ℕ) (cs : List CatchLine) → IsKept old new → AreCaught old numbers cs → AreCaught new numbers cs
catches-kept old new [] [] kept are = tt
catches-kept old new (n ∷ numbers) (c ∷ cs) kept are = (caught-kept old new n c.caught kept are.0, catches-kept old new numbers cs kept are.1)
catches-kept old new [] (c ∷ cs) kept are = absurd are
catches-kept old new (n ∷ numbers) [] kept are = absurd are

pub classes-kept : (old new : List Constant) (numbers : List ℕ) (names : List (List ℕ)) → IsKept old new → AreClasses old numbers names → AreClasses new numbers names
classes-kept old new [] [] kept are = tt
classes-kept old new (n ∷ numbers) (name ∷ names) kept are = (class-kept old new n name kept are.0, classes-kept old new numbers names kept are.1)
classes-kept old new [] (name ∷ names) kept are = absurd are
classes-kept old new (n ∷ numbers) [] kept are = absurd are
