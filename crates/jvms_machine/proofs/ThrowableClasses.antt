-- Each class of an exception that the machine throws fits java/lang/Throwable, in any program with the built-in
-- classes.
use Rattle.std.proofs.Common.{List, ◌++◌, IsTrue, codes, refl, sym, subst}
use Rattle.jvms_program.specs.declared.program.Class.{Class}
use Rattle.jvms_program.specs.declared.thrown.Thrown.{Thrown}
use Rattle.jvms_program.specs.declared.thrown.Thrown.TheVariants as thrown
use Rattle.jvms_program.specs.BuiltIn.{built_in_classes}
use Rattle.jvms_program.specs.Program.{IsProgram}
use Rattle.jvms_program.specs.Resolution.{ancestry_within, fits}
use Rattle.jvms_machine.specs.Exceptions.{thrown_class}

-- The proof is by computation: the built-in classes are found before any other.
above_throwable : (own : List Class) (class : Thrown) → IsTrue (fits (built_in_classes ++ own) (thrown_class class) (codes "java/lang/Throwable"))
unfolding built_in_classes ancestry_within fits thrown_class
above_throwable own thrown.ArithmeticException = refl
above_throwable own thrown.ArrayStoreException = refl
above_throwable own thrown.ClassCastException = refl
above_throwable own thrown.IllegalMonitorStateException = refl
above_throwable own thrown.IllegalThreadStateException = refl
above_throwable own thrown.NegativeArraySizeException = refl
above_throwable own thrown.NullPointerException = refl
above_throwable own thrown.ArrayIndexOutOfBoundsException = refl
above_throwable own thrown.NoClassDefFoundError = refl
above_throwable own thrown.IncompatibleClassChangeError = refl
above_throwable own thrown.UnsatisfiedLinkError = refl
above_throwable own thrown.ExceptionInInitializerError = refl
above_throwable own thrown.AbstractMethodError = refl
above_throwable own thrown.InstantiationError = refl
above_throwable own thrown.NoSuchFieldError = refl
above_throwable own thrown.NoSuchMethodError = refl
above_throwable own thrown.OutOfMemoryError = refl
above_throwable own thrown.StackOverflowError = refl

pub thrown_fits : (program : List Class) (class : Thrown) → IsProgram program → IsTrue (fits program (thrown_class class) (codes "java/lang/Throwable"))
thrown_fits program class is =
    subst (λ (classes : List Class). IsTrue (fits classes (thrown_class class) (codes "java/lang/Throwable"))) (sym is.built_ins.1) (above_throwable is.built_ins.0 class)
