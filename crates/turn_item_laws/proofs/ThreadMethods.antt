-- Properties of the native methods of Thread in a program: `start` and `join`, both of an object and without arguments.
use Rattle.std.proofs.Common.{Bool, List, Some, [], ap, codes, eq-eqb, eqb, false, option_and_then, option_map, refl, slice_get, subst, sym, true, ℕ, ◌&&◌, ◌++◌, ◌∙◌, ◌∷◌, ◌≡◌}
use Rattle.std.proofs.lemmas.Bool.{and_from, and_parts}
use Rattle.std.proofs.lemmas.Option.{option_and_then_some, same_Some}
use Rattle.std.specs.List.{AllByRecursion}
use Rattle.jvms_file.specs.Descriptors.{field_type_from, method_type_of, parameter_units, parameters_from}
use Rattle.jvms_file.specs.Names.{same_text}
use Rattle.jvms_program.specs.BuiltIn.{built_in_classes, thread_class}
use Rattle.jvms_program.specs.Program.{IsProgram, class_named, class_number, declared_number, method_at}
use Rattle.jvms_program.specs.Resolution.{ResolvedMethod, method_number}
use Rattle.jvms_program.specs.declared.number.MethodNumber.{MethodNumber}
use Rattle.jvms_program.specs.declared.program.Class.{Class}
use Rattle.jvms_program.specs.declared.program.Method.{Method}
use Rattle.jvms_machine.proofs.CallDescriptors.{IsFound}
use Rattle.jvms_machine.proofs.ListLaws.{all_at, option_map_some}
use Rattle.jvms_machine.proofs.SearchLaws.{find_passes, position_leads}
use Rattle.turn_item_laws.specs.Joins.{is_thread_join}
use Rattle.std.specs.Cmp.Lexicographic.{same_text as texts_are_same}

-- A native method takes no arguments, and is `join` if it isn't `start`.
pub record IsStartOrJoin (m : Method) : Type 0 where
  pub arguments : parameter_units m.method_type ≡ 0
  pub name_is : same_text m.name (codes "start") ≡ false → m.name ≡ codes "join"
  pub descriptor_is : m.descriptor ≡ codes "()V"

abbrev IsThreadMethod : Method → Type 0
IsThreadMethod m = (m.flags.is_static ≡ false) × (m.flags.is_native ≡ true → IsStartOrJoin m)

-- The proof is by computation.
methods_are : AllByRecursion IsThreadMethod thread_class.methods
unfolding field_type_from parameters_from method_type_of
methods_are = (
  (refl, λ no. absurd (cc)),
  (
    (refl, λ no. absurd (cc)),
    (
      (refl, λ no. absurd (cc)),
      (
        (refl, λ _. record { arguments = refl; name_is = λ no. absurd (cc); descriptor_is = refl }),
        ((refl, λ _. record { arguments = refl; name_is = λ _. refl; descriptor_is = refl }), tt),
      ),
    ),
  ),
)

-- A program finds the built-in Thread by its name.
named_in : (own : List Class) → class_named (built_in_classes ++ own) (codes "java/lang/Thread") ≡ Some thread_class
unfolding built_in_classes
named_in own = refl

-- A class of a program with the name of Thread is the built-in one.
pub is_thread_class : (program : List Class) (c : Class) → IsProgram program → class_named program c.name ≡ Some c → same_text c.name (codes "java/lang/Thread") ≡ true → c ≡ thread_class
is_thread_class program c is named same =
    let its_name : c.name ≡ codes "java/lang/Thread" = texts_are_same c.name (codes "java/lang/Thread") (sym same) in
    let here : class_named program (codes "java/lang/Thread") ≡ Some c = subst (λ name. class_named program name ≡ Some c) its_name named in
    let there : class_named program (codes "java/lang/Thread") ≡ Some thread_class =
    subst (λ (classes : List Class). class_named classes (codes "java/lang/Thread") ≡ Some thread_class) (sym is.built_ins.1) (named_in is.built_ins.0) in
    same_Some c thread_class (sym here ∙ there)

method_of_thread : (c : Class) (i : ℕ) (m : Method) → c ≡ thread_class → slice_get c.methods i ≡ Some m → IsThreadMethod m
method_of_thread c i m is at = all_at IsThreadMethod thread_class.methods i m (sym (ap (λ (d : Class). slice_get d.methods i) is) ∙ at) methods_are

pub is_start_or_join : (c : Class) (i : ℕ) (m : Method) → c ≡ thread_class → slice_get c.methods i ≡ Some m → m.flags.is_native ≡ true → IsStartOrJoin m
is_start_or_join c i m is at native = (method_of_thread c i m is at).1 native

pub is_of_object : (c : Class) (i : ℕ) (m : Method) → c ≡ thread_class → slice_get c.methods i ≡ Some m → m.flags.is_static ≡ false
is_of_object c i m is at = (method_of_thread c i m is at).0

-- ---- The method at a number

-- The method at the number has the name of the found method.
pub numbered_has_name : (program : List Class) (descriptor : List ℕ) (found : ResolvedMethod) (n : MethodNumber) (m : Method) → IsFound program descriptor found → method_number program found ≡ Some n → method_at program n ≡ Some m → m.name ≡ found.method.name
numbered_has_name program descriptor found n m was number at =
    let test = λ (k : Method). same_text k.name found.method.name && same_text k.descriptor found.method.descriptor in
    let numbered_by = λ (class method : ℕ). let made : MethodNumber = record { class = class; method = method } in made in
    option_and_then_some (λ (class : ℕ). option_map (numbered_by class) (declared_number found.class found.method.name found.method.descriptor)) (class_number program found.class.name) n number
    (λ class class_is rest. option_map_some (numbered_by class) (declared_number found.class found.method.name found.method.descriptor) n rest
    (λ method method_is same.
    let there : slice_get program class ≡ Some found.class = position_leads (λ (c : Class). same_text c.name found.class.name) program class class_is ∙ was.class_is in
    let at_number : method_at program (numbered_by class method) ≡ Some m = ap (method_at program) same ∙ at in
    let in_class : slice_get found.class.methods method ≡ Some m = sym (ap (option_and_then (λ (c : Class). slice_get c.methods method)) there) ∙ at_number in
    let passes : test m ≡ true = find_passes test found.class.methods m (sym (position_leads test found.class.methods method method_is) ∙ in_class) in
    texts_are_same m.name found.method.name (sym (and_parts (same_text m.name found.method.name) (same_text m.descriptor found.method.descriptor) passes).0)))

-- ---- Whether a method is join

same_as_itself : (text : List ℕ) → same_text text text ≡ true
same_as_itself [] = refl
same_as_itself (u ∷ us) = and_from (eqb u u) (same_text us us) (eq-eqb u u refl) (same_as_itself us)

texts_same : (a b : List ℕ) → a ≡ b → same_text a b ≡ true
texts_same a b is = subst (λ c. same_text a c ≡ true) is (same_as_itself a)

-- A method with another name, or of a class with another name, isn't `join`.
pub no_join_elsewhere : (found : ResolvedMethod) → same_text found.class.name (codes "java/lang/Thread") ≡ false → is_thread_join found ≡ false
no_join_elsewhere found other = ap (λ b. b && same_text found.method.name (codes "join") && same_text found.method.descriptor (codes "()V")) other

and_false : (a b : Bool) → b ≡ false → (a && b) ≡ false
and_false true b is = is
and_false false b is = refl

pub start_is_no_join : (found : ResolvedMethod) → found.method.name ≡ codes "start" → is_thread_join found ≡ false
start_is_no_join found is =
    let other : same_text found.method.name (codes "join") ≡ false = ap (λ name. same_text name (codes "join")) is in
    ap (λ b. b && same_text found.method.descriptor (codes "()V")) (and_false (same_text found.class.name (codes "java/lang/Thread")) (same_text found.method.name (codes "join")) other)

pub is_the_join : (found : ResolvedMethod) → same_text found.class.name (codes "java/lang/Thread") ≡ true → found.method.name ≡ codes "join" → found.method.descriptor ≡ codes "()V" → is_thread_join found ≡ true
is_the_join found class name descriptor =
    let named = and_from (same_text found.class.name (codes "java/lang/Thread")) (same_text found.method.name (codes "join")) class (texts_same found.method.name (codes "join") name) in
    and_from (same_text found.class.name (codes "java/lang/Thread") && same_text found.method.name (codes "join")) (same_text found.method.descriptor (codes "()V")) named
    (texts_same found.method.descriptor (codes "()V") descriptor)
