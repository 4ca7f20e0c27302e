-- The meanings of class files are a program. The built-in classes come first, each type is the one that its descriptor
-- spells, and <clinit> has no flags.
use Rattle.std.proofs.Common.{◌≡◌, ℕ, Bool, true, not, List, [], ◌∷◌, ◌++◌, map, Option, Some, None, IfSome, unwrap_or, refl, ap}
use Rattle.std.specs.List.{AllByRecursion, list_all}
use Rattle.std.proofs.lemmas.Bool.{and_parts, not-true, false≢true}
use Rattle.std.specs.Option.{option_map}
use Rattle.jvms_file.specs.declared.class_file.Constant.{Constant}
use Rattle.jvms_file.specs.declared.class_file.Constant.TheVariants as constant
use Rattle.jvms_file.specs.declared.class_file.ClassFile.{ClassFile}
use Rattle.jvms_file.specs.declared.class_file.Code.{Code}
use Rattle.jvms_file.specs.declared.class_file.MethodInfo.{MethodInfo}
use Rattle.jvms_file.specs.declared.insn.Insn.{Insn}
use Rattle.jvms_file.specs.declared.insn.Insn.TheVariants as insn
use Rattle.jvms_file.specs.Descriptors.{field_type, method_type}
use Rattle.jvms_file.specs.Names.{is_initializer_name}
use Rattle.jvms_file.specs.Members.{is_interface, is_text_with}
use Rattle.jvms_file.specs.ConstantPool.{entry, utf8_at}
use Rattle.jvms_program.specs.declared.program.Class.{Class}
use Rattle.jvms_program.specs.declared.program.Method.{Method}
use Rattle.jvms_program.specs.Meaning.{meaning, instruction_of, field_reference_of, method_reference_of, body_of, code_of, flags_of, method_of, field_of}
use Rattle.jvms_program.specs.BuiltIn.{built_in_classes, no_flags, object_class, print_stream_class, thread_class, throwable_class, throwable_constructors}
use Rattle.jvms_program.specs.Program.{IsProgram, IsSpelledInstruction, IsSpelledMethod, IsSpelledClass, HasItsFlags, program_of}

-- ---- Lists

all_append : {A : Type 0} (P : A → Type 0) (xs ys : List A) → AllByRecursion P xs → AllByRecursion P ys → AllByRecursion P (xs ++ ys)
all_append P [] ys all others = others
all_append P (x ∷ xs) ys all others = (all.0, all_append P xs ys all.1 others)

all_mapped : {A B : Type 0} (P : B → Type 0) (f : A → B) → ((x : A) → P (f x)) → (xs : List A) → AllByRecursion P (map f xs)
all_mapped P f each [] = tt
all_mapped P f each (x ∷ xs) = (each x, all_mapped P f each xs)

all_tested : {A : Type 0} (P : A → Type 0) (test : A → Bool) → ((x : A) → test x ≡ true → P x) → (xs : List A) → list_all test xs ≡ true → AllByRecursion P xs
all_tested P test step [] is = tt
all_tested P test step (x ∷ xs) is =
    let both = and_parts (test x) (list_all test xs) is in
    (step x both.0, all_tested P test step xs both.1)

-- ---- The meaning of a class file

field_reference_is_spelled : (pool : List Constant) (c : Option Constant) → (field_reference_of pool c).field_type ≡ field_type (field_reference_of pool c).descriptor
field_reference_is_spelled pool (Some (constant.Utf8 t)) = refl
field_reference_is_spelled pool (Some (constant.Integer k)) = refl
field_reference_is_spelled pool (Some (constant.Float k)) = refl
field_reference_is_spelled pool (Some (constant.Long k)) = refl
field_reference_is_spelled pool (Some (constant.Double k)) = refl
field_reference_is_spelled pool (Some (constant.Class k)) = refl
field_reference_is_spelled pool (Some (constant.String k)) = refl
field_reference_is_spelled pool (Some (constant.Field k m)) = refl
field_reference_is_spelled pool (Some (constant.Method k m)) = refl
field_reference_is_spelled pool (Some (constant.InterfaceMethod k m)) = refl
field_reference_is_spelled pool (Some (constant.NameAndType k m)) = refl
field_reference_is_spelled pool (Some constant.Unusable) = refl
field_reference_is_spelled pool None = refl

method_reference_is_spelled : (pool : List Constant) (c : Option Constant) → (method_reference_of pool c).method_type ≡ method_type (method_reference_of pool c).descriptor
method_reference_is_spelled pool (Some (constant.Utf8 t)) = refl
method_reference_is_spelled pool (Some (constant.Integer k)) = refl
method_reference_is_spelled pool (Some (constant.Float k)) = refl
method_reference_is_spelled pool (Some (constant.Long k)) = refl
method_reference_is_spelled pool (Some (constant.Double k)) = refl
method_reference_is_spelled pool (Some (constant.Class k)) = refl
method_reference_is_spelled pool (Some (constant.String k)) = refl
method_reference_is_spelled pool (Some (constant.Field k m)) = refl
method_reference_is_spelled pool (Some (constant.Method k m)) = refl
method_reference_is_spelled pool (Some (constant.InterfaceMethod k m)) = refl
method_reference_is_spelled pool (Some (constant.NameAndType k m)) = refl
method_reference_is_spelled pool (Some constant.Unusable) = refl
method_reference_is_spelled pool None = refl

instruction_is_spelled : (pool : List Constant) (i : Insn) → IsSpelledInstruction (instruction_of pool i)
instruction_is_spelled pool (insn.Simple s) = tt
instruction_is_spelled pool (insn.Branch how target) = tt
instruction_is_spelled pool (insn.Table s) = tt
instruction_is_spelled pool (insn.Lookup s) = tt
instruction_is_spelled pool (insn.Constant n) = tt
instruction_is_spelled pool (insn.Field how n) = field_reference_is_spelled pool (entry pool n)
instruction_is_spelled pool (insn.Invoke how n) = method_reference_is_spelled pool (entry pool n)
instruction_is_spelled pool (insn.Class how n) = tt
instruction_is_spelled pool (insn.MultiNewArray n count) = tt

body_is_spelled : (pool : List Constant) (code : Option Code) → IfSome (option_map (body_of pool) code) (λ b. AllByRecursion IsSpelledInstruction b.instructions)
body_is_spelled pool None = tt
body_is_spelled pool (Some c) = all_mapped IsSpelledInstruction (instruction_of pool) (instruction_is_spelled pool) c.insns

method_is_spelled : (pool : List Constant) (m : MethodInfo) → IsSpelledMethod (method_of pool m)
method_is_spelled pool m = (refl, body_is_spelled pool (code_of m.attributes))

class_is_spelled : (c : ClassFile) → IsSpelledClass (meaning c)
unfolding meaning
class_is_spelled c = (
  all_mapped (λ f. f.field_type ≡ field_type f.descriptor) (field_of c.pool (is_interface c.access)) (λ f. refl) c.fields,
  all_mapped IsSpelledMethod (method_of c.pool) (method_is_spelled c.pool) c.methods,
)

-- ---- The built-in classes

constructors_are_spelled : AllByRecursion IsSpelledMethod throwable_constructors
constructors_are_spelled = ((refl, (tt, tt)), ((refl, (tt, (tt, (refl, (tt, tt))))), tt))

throwable_is_spelled : IsSpelledClass throwable_class
throwable_is_spelled = (
  (refl, tt),
  ((refl, (tt, tt)), ((refl, (tt, (tt, (refl, (tt, tt))))), ((refl, (tt, (refl, (tt, tt)))), tt))),
)

thread_is_spelled : IsSpelledClass thread_class
thread_is_spelled = (
  (refl, tt),
  ((refl, (tt, tt)), ((refl, (tt, (tt, (refl, (tt, tt))))), ((refl, (tt, (refl, (tt, (tt, (refl, (refl, (tt, tt)))))))), ((refl, tt), ((refl, tt), tt))))),
)

print_stream_is_spelled : IsSpelledClass print_stream_class
print_stream_is_spelled = (tt, ((refl, tt), ((refl, tt), ((refl, tt), ((refl, tt), ((refl, tt), ((refl, tt), ((refl, tt), tt))))))))

object_is_spelled : IsSpelledClass object_class
object_is_spelled = (tt, ((refl, (tt, tt)), ((refl, tt), ((refl, tt), ((refl, tt), tt)))))

-- The classes below Throwable have its constructors and no other members.
built_ins_are_spelled : AllByRecursion IsSpelledClass built_in_classes
unfolding built_in_classes
built_ins_are_spelled = (
  object_is_spelled,
  (
    (tt, tt),
    (
      (tt, tt),
      (
        ((refl, tt), tt),
        (
          print_stream_is_spelled,
          (
            thread_is_spelled,
            (
              (tt, ((refl, tt), tt)),
              (
                (tt, tt),
                (
                  (tt, tt),
                  (
                    throwable_is_spelled,
                    (
                      (tt, constructors_are_spelled),
                      (
                        (tt, constructors_are_spelled),
                        (
                          (tt, constructors_are_spelled),
                          (
                            (tt, constructors_are_spelled),
                            (
                              (tt, constructors_are_spelled),
                              (
                                (tt, constructors_are_spelled),
                                (
                                  (tt, constructors_are_spelled),
                                  (
                                    (tt, constructors_are_spelled),
                                    (
                                      (tt, constructors_are_spelled),
                                      (
                                        (tt, constructors_are_spelled),
                                        (
                                          (tt, constructors_are_spelled),
                                          (
                                            (tt, constructors_are_spelled),
                                            (
                                              (tt, constructors_are_spelled),
                                              (
                                                (tt, constructors_are_spelled),
                                                (
                                                  (tt, constructors_are_spelled),
                                                  (
                                                    (tt, constructors_are_spelled),
                                                    (
                                                      (tt, constructors_are_spelled),
                                                      (
                                                        (tt, constructors_are_spelled),
                                                        (
                                                          (tt, constructors_are_spelled),
                                                          (
                                                            (tt, constructors_are_spelled),
                                                            (
                                                              (tt, constructors_are_spelled),
                                                              (
                                                                (tt, constructors_are_spelled),
                                                                (
                                                                  (tt, constructors_are_spelled),
                                                                  (
                                                                    (tt, constructors_are_spelled),
                                                                    ((tt, constructors_are_spelled), ((tt, constructors_are_spelled), ((tt, constructors_are_spelled), tt))),
                                                                  ),
                                                                ),
                                                              ),
                                                            ),
                                                          ),
                                                        ),
                                                      ),
                                                    ),
                                                  ),
                                                ),
                                              ),
                                            ),
                                          ),
                                        ),
                                      ),
                                    ),
                                  ),
                                ),
                              ),
                            ),
                          ),
                        ),
                      ),
                    ),
                  ),
                ),
              ),
            ),
          ),
        ),
      ),
    ),
  ),
)

-- ---- <clinit>

-- A method of a class file has no flags if its name is <clinit>.
flags_by : (access : ℕ) (name : Option (List ℕ)) → is_initializer_name (unwrap_or name []) ≡ true → flags_of (is_text_with is_initializer_name name) access ≡ no_flags
flags_by access None is = absurd (false≢true is)
flags_by access (Some text) is = ap (λ (initializer : Bool). flags_of initializer access) is

method_has_flags : (pool : List Constant) (m : MethodInfo) → HasItsFlags (method_of pool m)
method_has_flags pool m = flags_by m.access (utf8_at pool m.name)

class_has_flags : (c : ClassFile) → AllByRecursion HasItsFlags (meaning c).methods
unfolding meaning
class_has_flags c = all_mapped HasItsFlags (method_of c.pool) (method_has_flags c.pool) c.methods

-- The built-in classes have no <clinit>.
is_no_initializer : Method → Bool
is_no_initializer m = not (is_initializer_name m.name)

no_built_in_initializer : list_all (λ (c : Class). list_all is_no_initializer c.methods) built_in_classes ≡ true
unfolding built_in_classes is_no_initializer
no_built_in_initializer = refl

other_has_flags : (m : Method) → is_no_initializer m ≡ true → HasItsFlags m
unfolding is_no_initializer
other_has_flags m other is = absurd (cc (not-true (is_initializer_name m.name) other))

built_ins_have_flags : AllByRecursion (λ (c : Class). AllByRecursion HasItsFlags c.methods) built_in_classes
built_ins_have_flags =
    all_tested (λ (c : Class). AllByRecursion HasItsFlags c.methods) (λ (c : Class). list_all is_no_initializer c.methods)
    (λ c is. all_tested HasItsFlags is_no_initializer other_has_flags c.methods is) built_in_classes no_built_in_initializer

-- ---- Programs

pub files_are_program : (files : List ClassFile) → IsProgram (program_of files)
unfolding program_of
files_are_program files =
    record {
      built_ins = (map meaning files, refl);
      spelled = all_append IsSpelledClass built_in_classes (map meaning files) built_ins_are_spelled (all_mapped IsSpelledClass meaning class_is_spelled files);
      initializers =
          all_append (λ (c : Class). AllByRecursion HasItsFlags c.methods) built_in_classes (map meaning files) built_ins_have_flags
          (all_mapped (λ (c : Class). AllByRecursion HasItsFlags c.methods) meaning class_has_flags files);
    }
