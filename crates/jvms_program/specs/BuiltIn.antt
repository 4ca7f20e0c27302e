-- The classes that every program has, with their members and their code (own). Their code runs like any other.
use Rattle.std.specs.Prelude.{ℕ, Bool, true, false, List, [], ◌∷◌, ◌++◌, Option, Some, None, codes}
use Rattle.std.specs.List.{list_any}
use Rattle.jvms_file.specs.declared.insn.Kind.TheVariants as value_kind
use Rattle.jvms_file.specs.declared.insn.LocalUse.TheVariants as local
use Rattle.jvms_file.specs.declared.insn.Branch.TheVariants as branch
use Rattle.jvms_file.specs.declared.insn.FieldUse.{FieldUse}
use Rattle.jvms_file.specs.declared.insn.FieldUse.TheVariants as field_use
use Rattle.jvms_file.specs.declared.insn.Invoke.TheVariants as invoke
use Rattle.jvms_file.specs.declared.insn.ReturnInsn.TheVariants as returns
use Rattle.jvms_file.specs.declared.insn.Simple.TheVariants as simple
use Rattle.jvms_program.specs.declared.program.Instruction.{Instruction}
use Rattle.jvms_program.specs.declared.program.Instruction.TheVariants as instruction
use Rattle.jvms_program.specs.declared.program.Body.{Body}
use Rattle.jvms_program.specs.declared.program.Field.{Field}
use Rattle.jvms_program.specs.declared.program.MethodFlags.{MethodFlags}
use Rattle.jvms_program.specs.declared.program.Method.{Method}
use Rattle.jvms_program.specs.declared.program.ClassKind.TheVariants as kind
use Rattle.jvms_program.specs.declared.program.Class.{Class}
use Rattle.jvms_file.specs.Descriptors.{field_type, method_type}
use Rattle.jvms_file.specs.Names.{same_text}

-- ---- Parts of a member's code

abbrev pub load : ℕ → Instruction
load n = instruction.Simple (simple.Local (local.Load value_kind.Reference) n)

abbrev pub return_void : Instruction
return_void = instruction.Simple (simple.Return returns.Void)

abbrev pub return_reference : Instruction
return_reference = instruction.Simple (simple.Return (returns.Value value_kind.Reference))

abbrev pub field_insn : FieldUse → List ℕ → List ℕ → List ℕ → Instruction
field_insn how class name descriptor =
    instruction.Field how (record { class = class; name = name; descriptor = descriptor; field_type = field_type descriptor })

-- ---- Members

abbrev pub no_flags : MethodFlags
no_flags = record { is_static = false; is_private = false; is_synchronized = false; is_native = false; is_abstract = false }

abbrev pub method : List ℕ → List ℕ → MethodFlags → Option Body → Method
method name descriptor flags body =
    record { name = name; descriptor = descriptor; method_type = method_type descriptor; flags = flags; throws = []; body = body }

-- Returns a method with code, with a stack of 2 and 2 locals.
abbrev pub method_with_code : List ℕ → List ℕ → List Instruction → Method
method_with_code name descriptor code =
    method name descriptor no_flags (Some (record { max_stack = 2; max_locals = 2; instructions = code; handlers = [] }))

abbrev pub native_method : List ℕ → List ℕ → Method
native_method name descriptor = method name descriptor (record no_flags { is_native = true }) None

abbrev pub abstract_method : List ℕ → List ℕ → Method
abstract_method name descriptor = method name descriptor (record no_flags { is_abstract = true }) None

abbrev pub field : Bool → List ℕ → List ℕ → Field
field static name descriptor =
    record { name = name; descriptor = descriptor; field_type = field_type descriptor; is_static = static; is_private = false; constant = None }

-- ---- Classes

abbrev pub object : List ℕ
object = codes "java/lang/Object"

abbrev pub class_with : List ℕ → List (List ℕ) → List Field → List Method → List ℕ → Class
class_with superclass interfaces fields methods name =
    record { name = name; kind = kind.Neither; superclass = Some superclass; interfaces = interfaces; fields = fields; methods = methods }

abbrev pub interface_with : List Method → List ℕ → Class
interface_with methods name =
    record { name = name; kind = kind.Interface; superclass = Some object; interfaces = []; fields = []; methods = methods }

abbrev pub object_class : Class
object_class =
    record {
      name = object;
      kind = kind.Neither;
      superclass = None;
      interfaces = [];
      fields = [];
      methods =
          method_with_code (codes "<init>") (codes "()V") (return_void ∷ [])
          ∷ native_method (codes "wait") (codes "()V")
          ∷ native_method (codes "notify") (codes "()V")
          ∷ native_method (codes "notifyAll") (codes "()V")
          ∷ [];
    }

abbrev pub runnable_class : Class
runnable_class = interface_with (abstract_method (codes "run") (codes "()V") ∷ []) (codes "java/lang/Runnable")

abbrev pub target_field : FieldUse → Instruction
target_field how = field_insn how (codes "java/lang/Thread") (codes "target") (codes "Ljava/lang/Runnable;")

abbrev pub call_run : Instruction
call_run =
    instruction.Invoke invoke.Interface (record { is_interface = true; class = codes "java/lang/Runnable"; name = codes "run"; descriptor = codes "()V"; method_type = method_type (codes "()V") })

-- Returns the class of threads. run calls the target's run if there is a target. Else it continues at its last
-- instruction, at place 6.
abbrev pub thread_class : Class
thread_class =
    class_with object (codes "java/lang/Runnable" ∷ []) (field false (codes "target") (codes "Ljava/lang/Runnable;") ∷ [])
    (method_with_code (codes "<init>") (codes "()V") (return_void ∷ [])
    ∷ method_with_code (codes "<init>") (codes "(Ljava/lang/Runnable;)V") (load 0 ∷ load 1 ∷ target_field field_use.Put ∷ return_void ∷ [])
    ∷ method_with_code (codes "run") (codes "()V")
    (load 0 ∷ target_field field_use.Get ∷ instruction.Branch branch.IfNull 6 ∷ load 0 ∷ target_field field_use.Get ∷ call_run ∷ return_void ∷ [])
    ∷ native_method (codes "start") (codes "()V")
    ∷ native_method (codes "join") (codes "()V")
    ∷ [])
    (codes "java/lang/Thread")

abbrev pub message_field : FieldUse → Instruction
message_field how = field_insn how (codes "java/lang/Throwable") (codes "message") (codes "Ljava/lang/String;")

-- Returns the constructors of Throwable and of each class below it.
abbrev pub throwable_constructors : List Method
throwable_constructors =
    method_with_code (codes "<init>") (codes "()V") (return_void ∷ [])
    ∷ method_with_code (codes "<init>") (codes "(Ljava/lang/String;)V") (load 0 ∷ load 1 ∷ message_field field_use.Put ∷ return_void ∷ [])
    ∷ []

abbrev pub throwable_class : Class
throwable_class =
    class_with object (codes "java/io/Serializable" ∷ []) (field false (codes "message") (codes "Ljava/lang/String;") ∷ [])
    (throwable_constructors ++ method_with_code (codes "getMessage") (codes "()Ljava/lang/String;") (load 0 ∷ message_field field_use.Get ∷ return_reference ∷ []) ∷ [])
    (codes "java/lang/Throwable")

abbrev pub print_stream_class : Class
print_stream_class =
    class_with object [] []
    (native_method (codes "print") (codes "(I)V") ∷ native_method (codes "print") (codes "(J)V")
    ∷ native_method (codes "print") (codes "(Ljava/lang/String;)V")
    ∷ native_method (codes "println") (codes "(I)V") ∷ native_method (codes "println") (codes "(J)V")
    ∷ native_method (codes "println") (codes "(Ljava/lang/String;)V")
    ∷ native_method (codes "println") (codes "()V") ∷ [])
    (codes "java/io/PrintStream")

-- Returns a class below Throwable, with its superclass.
abbrev pub throwable_below : List ℕ → List ℕ → Class
throwable_below superclass name = class_with superclass [] [] throwable_constructors name

abbrev pub throwable_classes : List Class
throwable_classes =
    throwable_class
    ∷ throwable_below (codes "java/lang/Throwable") (codes "java/lang/Exception")
    ∷ throwable_below (codes "java/lang/Throwable") (codes "java/lang/Error")
    ∷ throwable_below (codes "java/lang/Exception") (codes "java/lang/RuntimeException")
    ∷ throwable_below (codes "java/lang/Exception") (codes "java/lang/InterruptedException")
    ∷ throwable_below (codes "java/lang/RuntimeException") (codes "java/lang/ArithmeticException")
    ∷ throwable_below (codes "java/lang/RuntimeException") (codes "java/lang/ArrayStoreException")
    ∷ throwable_below (codes "java/lang/RuntimeException") (codes "java/lang/ClassCastException")
    ∷ throwable_below (codes "java/lang/RuntimeException") (codes "java/lang/IllegalMonitorStateException")
    ∷ throwable_below (codes "java/lang/RuntimeException") (codes "java/lang/IllegalArgumentException")
    ∷ throwable_below (codes "java/lang/RuntimeException") (codes "java/lang/IllegalStateException")
    ∷ throwable_below (codes "java/lang/RuntimeException") (codes "java/lang/IndexOutOfBoundsException")
    ∷ throwable_below (codes "java/lang/RuntimeException") (codes "java/lang/NegativeArraySizeException")
    ∷ throwable_below (codes "java/lang/RuntimeException") (codes "java/lang/NullPointerException")
    ∷ throwable_below (codes "java/lang/IndexOutOfBoundsException") (codes "java/lang/ArrayIndexOutOfBoundsException")
    ∷ throwable_below (codes "java/lang/IllegalArgumentException") (codes "java/lang/IllegalThreadStateException")
    ∷ throwable_below (codes "java/lang/Error") (codes "java/lang/LinkageError")
    ∷ throwable_below (codes "java/lang/Error") (codes "java/lang/VirtualMachineError")
    ∷ throwable_below (codes "java/lang/LinkageError") (codes "java/lang/NoClassDefFoundError")
    ∷ throwable_below (codes "java/lang/LinkageError") (codes "java/lang/IncompatibleClassChangeError")
    ∷ throwable_below (codes "java/lang/LinkageError") (codes "java/lang/UnsatisfiedLinkError")
    ∷ throwable_below (codes "java/lang/LinkageError") (codes "java/lang/ExceptionInInitializerError")
    ∷ throwable_below (codes "java/lang/IncompatibleClassChangeError") (codes "java/lang/AbstractMethodError")
    ∷ throwable_below (codes "java/lang/IncompatibleClassChangeError") (codes "java/lang/InstantiationError")
    ∷ throwable_below (codes "java/lang/IncompatibleClassChangeError") (codes "java/lang/NoSuchFieldError")
    ∷ throwable_below (codes "java/lang/IncompatibleClassChangeError") (codes "java/lang/NoSuchMethodError")
    ∷ throwable_below (codes "java/lang/VirtualMachineError") (codes "java/lang/OutOfMemoryError")
    ∷ throwable_below (codes "java/lang/VirtualMachineError") (codes "java/lang/StackOverflowError")
    ∷ []

-- Returns the built-in classes that aren't below Throwable, followed by these classes.
abbrev pub with_ordinary_classes : List Class → List Class
with_ordinary_classes classes =
    object_class
    ∷ class_with object (codes "java/io/Serializable" ∷ []) [] [] (codes "java/lang/String")
    ∷ class_with object (codes "java/io/Serializable" ∷ []) [] [] (codes "java/lang/Class")
    ∷ class_with object [] (field true (codes "out") (codes "Ljava/io/PrintStream;") ∷ []) [] (codes "java/lang/System")
    ∷ print_stream_class
    ∷ thread_class
    ∷ runnable_class
    ∷ interface_with [] (codes "java/lang/Cloneable")
    ∷ interface_with [] (codes "java/io/Serializable")
    ∷ classes

-- Returns the built-in classes.
unfoldable pub built_in_classes : List Class
built_in_classes = with_ordinary_classes throwable_classes

-- Decides whether a class of this name is built in.
unfoldable pub is_built_in : List ℕ → Bool
is_built_in name = list_any (λ c. same_text c.name name) built_in_classes
