-- A call finds a method with the descriptor that its reference names, at the number by which it is called.
use Rattle.std.proofs.Common.{◌≡◌, ℕ, zero, suc, Bool, true, false, not, cond, ◌&&◌, List, [], ◌∷◌, length, Option, Some, None, IfSome, slice_get, flat_map, option_and_then, option_map, refl, sym, ap, ◌∙◌, subst}
use Rattle.std.specs.Prelude.{Result, Ok}
use Rattle.std.specs.List.{AllByRecursion, find}
use Rattle.std.specs.Cmp.Lexicographic.{same_text as texts_are_same}
use Rattle.std.proofs.lemmas.Bool.{cond_both, and_parts}
use Rattle.std.proofs.lemmas.Option.{same_Some, none-some, cond_some, option_and_then_some}
use Rattle.jvms_file.specs.declared.insn.Invoke.{Invoke}
use Rattle.jvms_file.specs.declared.insn.Invoke.TheVariants as invoke
use Rattle.jvms_file.specs.Names.{same_text, is_constructor_name}
use Rattle.jvms_file.specs.Descriptors.{method_type}
use Rattle.jvms_file.specs.Results.{◌>>=◌, want, present}
use Rattle.jvms_program.specs.declared.number.MethodNumber.{MethodNumber}
use Rattle.jvms_program.specs.declared.thrown.Thrown.{Thrown}
use Rattle.jvms_program.specs.declared.thrown.Thrown.TheVariants as thrown
use Rattle.jvms_program.specs.declared.program.Class.{Class}
use Rattle.jvms_program.specs.declared.program.Method.{Method}
use Rattle.jvms_program.specs.declared.program.Body.{Body}
use Rattle.jvms_program.specs.declared.program.MethodReference.{MethodReference}
use Rattle.jvms_program.specs.declared.program.Instruction.TheVariants as instruction
use Rattle.jvms_program.specs.BuiltIn.{object}
use Rattle.jvms_program.specs.Program.{IsProgram, IsSpelledInstruction, IsSpelledMethod, IsSpelledClass, class_named, class_number, declared_number, method_at}
use Rattle.jvms_program.specs.Resolution.{ResolvedMethod, chain_within, chain, ancestry_within, ancestry, members_class, class_exists, names_interface, declared_method, first_in, class_method_order, interface_method_order, method_in_order, reference_method, resolved_method, is_selectable, selectable_in, selected_from, is_superclass, superclass_of, selected_special, method_number}
use Rattle.jvms_machine.specs.State.{MethodFrame, body_at}
use Rattle.jvms_machine.specs.Calls.{selected_method}
use Rattle.jvms_machine.proofs.ListLaws.{all_at, all_append, all_flat_map, option_map_some}
use Rattle.jvms_machine.proofs.SearchLaws.{find_passes, position_leads, found_at}

-- The program has the class by its name.
abbrev IsNamed : List Class → Class → Type 0
IsNamed program c = class_named program c.name ≡ Some c

-- A class of the program declares the found method, which has this descriptor.
pub record IsFound (program : List Class) (descriptor : List ℕ) (found : ResolvedMethod) : Type 0 where
  pub class_is : class_named program found.class.name ≡ Some found.class
  pub descriptor_is : found.method.descriptor ≡ descriptor
  pub place : (i : ℕ) × (slice_get found.class.methods i ≡ Some found.method)

-- ---- Classes by name

name_is : (program : List Class) (name : List ℕ) (c : Class) → class_named program name ≡ Some c → c.name ≡ name
name_is program name c is = texts_are_same c.name name (sym (find_passes (λ d. same_text d.name name) program c is))

named_is : (program : List Class) (name : List ℕ) (c : Class) → class_named program name ≡ Some c → IsNamed program c
named_is program name c is = subst (λ n. class_named program n ≡ Some c) (sym (name_is program name c is)) is

-- The classes of a chain are the program's.
chain_some : (most : ℕ) (program : List Class) (name : List ℕ) (c : Class) (s : Option (List ℕ)) → class_named program name ≡ Some c → c.superclass ≡ s → ((super : List ℕ) → AllByRecursion (IsNamed program) (chain_within most program super)) → AllByRecursion (IsNamed program) (chain_within (suc most) program name)
unfolding chain_within
chain_some most program name c None is e next = rw is (named_is program name c is, (rw e tt))
chain_some most program name c (Some super) is e next = rw is (named_is program name c is, (rw e (next super)))

chain_by : (most : ℕ) (program : List Class) (name : List ℕ) (o : Option Class) → class_named program name ≡ o → ((super : List ℕ) → AllByRecursion (IsNamed program) (chain_within most program super)) → AllByRecursion (IsNamed program) (chain_within (suc most) program name)
unfolding chain_within
chain_by most program name None is next = rw is tt
chain_by most program name (Some c) is next = chain_some most program name c c.superclass is refl next

chain_named : (most : ℕ) (program : List Class) (name : List ℕ) → AllByRecursion (IsNamed program) (chain_within most program name)
unfolding chain_within
chain_named zero program name = tt
chain_named (suc most) program name = chain_by most program name (class_named program name) refl (chain_named most program)

-- The classes of an ancestry are the program's.
ancestry_some : (most : ℕ) (program : List Class) (name : List ℕ) (c : Class) (s : Option (List ℕ)) → class_named program name ≡ Some c → c.superclass ≡ s → ((super : List ℕ) → AllByRecursion (IsNamed program) (ancestry_within most program super)) → AllByRecursion (IsNamed program) (ancestry_within (suc most) program name)
unfolding ancestry_within
ancestry_some most program name c None is e next =
    rw is (named_is program name c is, (rw e (all_append (IsNamed program) (flat_map (ancestry_within most program) c.interfaces) [] (all_flat_map (IsNamed program) (ancestry_within most program) next c.interfaces) tt)))
ancestry_some most program name c (Some super) is e next =
    rw is (named_is program name c is, (rw e (all_append (IsNamed program) (flat_map (ancestry_within most program) c.interfaces) (ancestry_within most program super) (all_flat_map (IsNamed program) (ancestry_within most program) next c.interfaces) (next super))))

ancestry_by : (most : ℕ) (program : List Class) (name : List ℕ) (o : Option Class) → class_named program name ≡ o → ((super : List ℕ) → AllByRecursion (IsNamed program) (ancestry_within most program super)) → AllByRecursion (IsNamed program) (ancestry_within (suc most) program name)
unfolding ancestry_within
ancestry_by most program name None is next = rw is tt
ancestry_by most program name (Some c) is next = ancestry_some most program name c c.superclass is refl next

ancestry_named : (most : ℕ) (program : List Class) (name : List ℕ) → AllByRecursion (IsNamed program) (ancestry_within most program name)
unfolding ancestry_within
ancestry_named zero program name = tt
ancestry_named (suc most) program name = ancestry_by most program name (class_named program name) refl (ancestry_named most program)

-- The classes in which a method is looked for are the program's.
class_order_named : (program : List Class) (name : List ℕ) → AllByRecursion (IsNamed program) (class_method_order program name)
class_order_named program name =
    all_append (IsNamed program) (chain program name) (flat_map (λ c. flat_map (ancestry program) c.interfaces) (chain program name))
    (chain_named (length program) program name)
    (all_flat_map (IsNamed program) (λ (c : Class). flat_map (ancestry program) c.interfaces)
    (λ c. all_flat_map (IsNamed program) (ancestry program) (ancestry_named (length program) program) c.interfaces) (chain program name))

interface_order_by : (program : List Class) (name : List ℕ) (a b : Option Class) → class_named program name ≡ a → class_named program object ≡ b → AllByRecursion (IsNamed program) (interface_method_order program name)
interface_order_by program name None b is e = rw is tt
interface_order_by program name (Some c) None is e =
    rw is (named_is program name c is, (rw e (all_flat_map (IsNamed program) (ancestry program) (ancestry_named (length program) program) c.interfaces)))
interface_order_by program name (Some c) (Some o) is e =
    rw is (named_is program name c is, (rw e (named_is program object o e, all_flat_map (IsNamed program) (ancestry program) (ancestry_named (length program) program) c.interfaces)))

interface_order_named : (program : List Class) (name : List ℕ) → AllByRecursion (IsNamed program) (interface_method_order program name)
interface_order_named program name = interface_order_by program name (class_named program name) (class_named program object) refl refl

-- ---- The first of some classes

-- A property of the result of each class is one of the first result.
module _ (Q : Class → Type 0) (P : ResolvedMethod → Type 0) (look : Class → Option ResolvedMethod) (each : (c : Class) (f : ResolvedMethod) → Q c → look c ≡ Some f → P f) where
  first_by : (o : Option ResolvedMethod) (c : Class) (cs : List Class) (f : ResolvedMethod) → o ≡ look c → Q c → (first_in look cs ≡ Some f → P f) → first_in look (c ∷ cs) ≡ Some f → P f
  first_by None c cs f e q more is = more (rw (← e) at is)
  first_by (Some g) c cs f e q more is = let same : Some g ≡ Some f = rw (← e) at is in each c f q (sym e ∙ same)

  first_finds : (cs : List Class) → AllByRecursion Q cs → (f : ResolvedMethod) → first_in look cs ≡ Some f → P f
  first_finds [] all f is = absurd (none-some f is)
  first_finds (c ∷ cs) all f is = first_by (look c) c cs f refl all.0 (first_finds cs all.1 f) is

-- ---- The found method

-- The method that a class of the program declares.
declared_is_found : (program : List Class) (name descriptor : List ℕ) (c : Class) (f : ResolvedMethod) → IsNamed program c → declared_method name descriptor c ≡ Some f → IsFound program descriptor f
declared_is_found program name descriptor c f named is =
    let test = λ (m : Method). same_text m.name name && same_text m.descriptor descriptor in
    option_map_some (λ (m : Method). let found : ResolvedMethod = record { class = c; method = m } in found) (find test c.methods) f is
    (λ m m_is same.
    let both = and_parts (same_text m.name name) (same_text m.descriptor descriptor) (find_passes test c.methods m m_is) in
    subst (IsFound program descriptor) same (record { class_is = named; descriptor_is = texts_are_same m.descriptor descriptor (sym both.1); place = found_at test c.methods m m_is }))

-- The method that is selected in a class of the program.
selectable_by : (name descriptor : List ℕ) (c : Class) (f : ResolvedMethod) (o : Option ResolvedMethod) → o ≡ declared_method name descriptor c → selectable_in name descriptor c ≡ Some f → declared_method name descriptor c ≡ Some f
selectable_by name descriptor c f None e is = let none : None ≡ Some f = rw (← e) at is in absurd (none-some f none)
selectable_by name descriptor c f (Some g) e is =
    let kept : cond (is_selectable g.method) (Some g) None ≡ Some f = rw (← e) at is in
    sym e ∙ ap (λ h. Some h) (cond_some (is_selectable g.method) g f kept).1

selectable_is_found : (program : List Class) (name descriptor : List ℕ) (c : Class) (f : ResolvedMethod) → IsNamed program c → selectable_in name descriptor c ≡ Some f → IsFound program descriptor f
selectable_is_found program name descriptor c f named is =
    declared_is_found program name descriptor c f named (selectable_by name descriptor c f (declared_method name descriptor c) refl is)

-- ---- Resolution

found_in_order_is_found : (program : List Class) (r : MethodReference) (f : ResolvedMethod) → method_in_order program r ≡ Some f → IsFound program r.descriptor f
found_in_order_is_found program r f is =
    first_finds (IsNamed program) (IsFound program r.descriptor) (declared_method r.name r.descriptor) (declared_is_found program r.name r.descriptor)
    (cond r.is_interface (interface_method_order program r.class) (class_method_order program (members_class r.class)))
    (cond_both r.is_interface (interface_method_order program r.class) (class_method_order program (members_class r.class)) (AllByRecursion (IsNamed program))
    (λ _. interface_order_named program r.class) (λ _. class_order_named program (members_class r.class)))
    f is

found_is_found : (program : List Class) (r : MethodReference) (f : ResolvedMethod) → reference_method program r ≡ Some f → IsFound program r.descriptor f
found_is_found program r f is =
    cond_both (is_constructor_name r.name) (option_and_then (declared_method r.name r.descriptor) (class_named program r.class)) (method_in_order program r)
    (λ (o : Option ResolvedMethod). o ≡ Some f → IsFound program r.descriptor f)
    (λ _ there. option_and_then_some (declared_method r.name r.descriptor) (class_named program r.class) f there
    (λ c c_is f_is. declared_is_found program r.name r.descriptor c f (named_is program r.class c c_is) f_is))
    (λ _ there. found_in_order_is_found program r f there)
    is

-- A test that a result has passed.
want_passed : {A : Type 0} (test : Bool) (fault : Thrown) (next : Result A Thrown) (x : A) → (want test fault >>= λ _. next) ≡ Ok x → next ≡ Ok x
want_passed true fault next x is = is
want_passed false fault next x is = absurd (cc)

-- The value of a result.
present_there : {A B : Type 0} (o : Option B) (fault : Thrown) (next : B → Result A Thrown) (x : A) → (present o fault >>= next) ≡ Ok x → (y : B) × (o ≡ Some y) × (next y ≡ Ok x)
present_there None fault next x is = absurd (cc)
present_there (Some y) fault next x is = (y, refl, is)

want_true : {A : Type 0} (test : Bool) (fault : Thrown) (next : Result A Thrown) (x : A) → (want test fault >>= λ _. next) ≡ Ok x → test ≡ true
want_true true fault next x is = refl
want_true false fault next x is = absurd (cc)

pub resolved_is_found : (program : List Class) (static : Bool) (r : MethodReference) (f : ResolvedMethod) → resolved_method program static r ≡ Ok f → IsFound program r.descriptor f
resolved_is_found program static r f is =
    let of_kind = want_passed (class_exists program r.class) thrown.NoClassDefFoundError _ f is in
    let there = want_passed (cond r.is_interface (names_interface program r.class) (not (names_interface program r.class))) thrown.IncompatibleClassChangeError _ f of_kind in
    let found = present_there (reference_method program r) thrown.NoSuchMethodError _ f there in
    let same : Ok found.0 ≡ Ok f = want_passed (cond static found.0.method.flags.is_static (not found.0.method.flags.is_static)) thrown.IncompatibleClassChangeError _ f found.2 in
    let is_it : found.0 ≡ f = cc in
    found_is_found program r f (found.1 ∙ ap (λ g. Some g) is_it)

-- A static call finds a static method.
pub resolved_is_static : (program : List Class) (r : MethodReference) (f : ResolvedMethod) → resolved_method program true r ≡ Ok f → f.method.flags.is_static ≡ true
resolved_is_static program r f is =
    let of_kind = want_passed (class_exists program r.class) thrown.NoClassDefFoundError _ f is in
    let there = want_passed (cond r.is_interface (names_interface program r.class) (not (names_interface program r.class))) thrown.IncompatibleClassChangeError _ f of_kind in
    let found = present_there (reference_method program r) thrown.NoSuchMethodError _ f there in
    let static : found.0.method.flags.is_static ≡ true = want_true found.0.method.flags.is_static thrown.IncompatibleClassChangeError _ f found.2 in
    let same : Ok found.0 ≡ Ok f = want_passed found.0.method.flags.is_static thrown.IncompatibleClassChangeError _ f found.2 in
    let is_it : found.0 ≡ f = cc in
    sym (ap (λ (g : ResolvedMethod). g.method.flags.is_static) is_it) ∙ static

-- ---- Selection

selected_from_is_found : (program : List Class) (class descriptor : List ℕ) (found f : ResolvedMethod) → IsFound program descriptor found → selected_from program class found ≡ Some f → IsFound program descriptor f
selected_from_is_found program class descriptor found f was is =
    let test = selectable_in found.method.name found.method.descriptor in
    cond_both found.method.flags.is_private (Some found) (first_in test (chain program (members_class class))) (λ (o : Option ResolvedMethod). o ≡ Some f → IsFound program descriptor f)
    (λ _ itself. subst (IsFound program descriptor) (same_Some found f itself) was)
    (λ _ first. subst (λ d. IsFound program d f) was.descriptor_is
    (first_finds (IsNamed program) (IsFound program found.method.descriptor) test (selectable_is_found program found.method.name found.method.descriptor)
    (chain program (members_class class)) (chain_named (length program) program (members_class class)) f first))
    is

selected_special_is_found : (program : List Class) (current descriptor : List ℕ) (r : MethodReference) (found f : ResolvedMethod) → IsFound program descriptor found → selected_special program current r found ≡ Some f → IsFound program descriptor f
selected_special_is_found program current descriptor r found f was is =
    let selected_above = λ (super : List ℕ). selected_from program super found in
    cond_both (not (is_constructor_name r.name) && is_superclass program r.class current) (option_and_then selected_above (superclass_of program current)) (Some found)
    (λ (o : Option ResolvedMethod). o ≡ Some f → IsFound program descriptor f)
    (λ _ above. option_and_then_some selected_above (superclass_of program current) f above
    (λ super super_is f_is. selected_from_is_found program super descriptor found f was f_is))
    (λ _ itself. subst (IsFound program descriptor) (same_Some found f itself) was)
    is

special_by : (program : List Class) (frame : MethodFrame) (r : MethodReference) (class descriptor : List ℕ) (found f : ResolvedMethod) (o : Option Class) → o ≡ slice_get program frame.method.class → IsFound program descriptor found → selected_method program frame invoke.Special r class found ≡ Some f → IsFound program descriptor f
special_by program frame r class descriptor found f None e was is = let none : None ≡ Some f = rw (← e) at is in absurd (none-some f none)
special_by program frame r class descriptor found f (Some current) e was is = selected_special_is_found program current.name descriptor r found f was (rw (← e) at is)

pub selected_is_found : (program : List Class) (frame : MethodFrame) (how : Invoke) (r : MethodReference) (class descriptor : List ℕ) (found f : ResolvedMethod) → IsFound program descriptor found → selected_method program frame how r class found ≡ Some f → IsFound program descriptor f
selected_is_found program frame invoke.Static r class descriptor found f was is = subst (IsFound program descriptor) (same_Some found f is) was
selected_is_found program frame invoke.Virtual r class descriptor found f was is = selected_from_is_found program class descriptor found f was is
selected_is_found program frame invoke.Interface r class descriptor found f was is = selected_from_is_found program class descriptor found f was is
selected_is_found program frame invoke.Special r class descriptor found f was is = special_by program frame r class descriptor found f (slice_get program frame.method.class) refl was is

-- ---- The number of the found method

-- The class of the number is the declaring class.
pub numbered_in_class : (program : List Class) (descriptor : List ℕ) (found : ResolvedMethod) (n : MethodNumber) → IsFound program descriptor found → method_number program found ≡ Some n → slice_get program n.class ≡ Some found.class
numbered_in_class program descriptor found n was number =
    let numbered_by = λ (class method : ℕ). let made : MethodNumber = record { class = class; method = method } in made in
    option_and_then_some (λ (class : ℕ). option_map (numbered_by class) (declared_number found.class found.method.name found.method.descriptor)) (class_number program found.class.name) n number
    (λ class class_is rest. option_map_some (numbered_by class) (declared_number found.class found.method.name found.method.descriptor) n rest
    (λ method method_is same.
    let there : slice_get program class ≡ Some found.class = position_leads (λ (c : Class). same_text c.name found.class.name) program class class_is ∙ was.class_is in
    sym (ap (λ (k : MethodNumber). slice_get program k.class) same) ∙ there))

-- The method of the number has the same descriptor.
pub numbered_has_descriptor : (program : List Class) (descriptor : List ℕ) (found : ResolvedMethod) (n : MethodNumber) (m : Method) → IsFound program descriptor found → method_number program found ≡ Some n → method_at program n ≡ Some m → m.descriptor ≡ descriptor
numbered_has_descriptor program descriptor found n m was number at =
    let test = λ (k : Method). same_text k.name found.method.name && same_text k.descriptor found.method.descriptor in
    let numbered_by = λ (class method : ℕ). let made : MethodNumber = record { class = class; method = method } in made in
    option_and_then_some (λ (class : ℕ). option_map (numbered_by class) (declared_number found.class found.method.name found.method.descriptor)) (class_number program found.class.name) n number
    (λ class class_is rest. option_map_some (numbered_by class) (declared_number found.class found.method.name found.method.descriptor) n rest
    (λ method method_is same.
    let there : slice_get program class ≡ Some found.class = position_leads (λ (c : Class). same_text c.name found.class.name) program class class_is ∙ was.class_is in
    let at_number : method_at program (numbered_by class method) ≡ Some m = ap (method_at program) same ∙ at in
    let in_class : slice_get found.class.methods method ≡ Some m = sym (ap (option_and_then (λ (c : Class). slice_get c.methods method)) there) ∙ at_number in
    let passes : test m ≡ true = find_passes test found.class.methods m (sym (position_leads test found.class.methods method method_is) ∙ in_class) in
    texts_are_same m.descriptor found.method.descriptor (sym (and_parts (same_text m.name found.method.name) (same_text m.descriptor found.method.descriptor) passes).1) ∙ was.descriptor_is))

-- ---- Types

-- A method of a program has the type that its descriptor spells.
method_is_spelled : (program : List Class) (n : MethodNumber) (m : Method) → IsProgram program → method_at program n ≡ Some m → IsSpelledMethod m
method_is_spelled program n m is at =
    option_and_then_some (λ (c : Class). slice_get c.methods n.method) (slice_get program n.class) m at
    (λ c c_is m_is. all_at IsSpelledMethod c.methods n.method m m_is (all_at IsSpelledClass program n.class c c_is is.spelled).1)

-- The methods that its instructions name have the types that their descriptors spell.
invoke_is_spelled : (program : List Class) (n : MethodNumber) (b : Body) (place : ℕ) (how : Invoke) (r : MethodReference) → IsProgram program → body_at program n ≡ Some b → slice_get b.instructions place ≡ Some (instruction.Invoke how r) → r.method_type ≡ method_type r.descriptor
invoke_is_spelled program n b place how r is body_is at =
    option_and_then_some (λ (m : Method). m.body) (method_at program n) b body_is
    (λ m m_is b_is.
    let spelled : IfSome (Some b) (λ c. AllByRecursion IsSpelledInstruction c.instructions) = subst (λ o. IfSome o (λ (c : Body). AllByRecursion IsSpelledInstruction c.instructions)) b_is (method_is_spelled program n m is m_is).1 in
    all_at IsSpelledInstruction b.instructions place (instruction.Invoke how r) at spelled)

-- A method with the descriptor of an invoke instruction has the type of the instruction.
pub called_has_type : (program : List Class) (caller : MethodNumber) (b : Body) (place : ℕ) (how : Invoke) (r : MethodReference) (n : MethodNumber) (m : Method) → IsProgram program → body_at program caller ≡ Some b → slice_get b.instructions place ≡ Some (instruction.Invoke how r) → method_at program n ≡ Some m → m.descriptor ≡ r.descriptor → m.method_type ≡ r.method_type
called_has_type program caller b place how r n m is body_is at m_is same =
    (method_is_spelled program n m is m_is).0 ∙ ap method_type same ∙ sym (invoke_is_spelled program caller b place how r is body_is at)
