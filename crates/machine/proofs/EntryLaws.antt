-- The parameters of a descriptor's type, by its text.
use Rattle.std.proofs.Common.{◌≡◌, ℕ, ℤ, pos, zero, suc, Bool, true, false, ◌&&◌, ◌==◌, List, [], ◌∷◌, ◌++◌, replicate, flat_map, Option, Some, None, unwrap_or, arith, refl, sym, ap, ◌∙◌}
use Rattle.std.specs.Prelude.{is_some, map}
use Rattle.std.proofs.lemmas.Bool.{ne_eqb}
use Rattle.std.proofs.lemmas.List.{append_assoc}
use Rattle.std.proofs.lemmas.List.Concat.{flat_map-cons}
use Rattle.jvms_file.specs.declared.descriptor.Primitive.TheVariants as primitive
use Rattle.jvms_file.specs.declared.descriptor.Element.{Element}
use Rattle.jvms_file.specs.declared.descriptor.Element.TheVariants as element
use Rattle.jvms_file.specs.declared.descriptor.FieldType.{FieldType}
use Rattle.jvms_file.specs.declared.descriptor.ResultType.TheVariants as result_type
use Rattle.jvms_file.specs.declared.descriptor.MethodType.{MethodType}
use Rattle.jvms_file.specs.Descriptors.{field_text, element_text, result_text, method_type_of}
use Rattle.jvms_file.specs.Descriptors.{method_type}
use Rattle.jvms_machine.specs.declared.machine.Argument.{Argument}
use Rattle.jvms_machine.specs.declared.machine.Argument.TheVariants as argument
use Rattle.jvms_machine.specs.declared.machine.Entry.{Entry}
use Rattle.jvms_machine.specs.declared.machine.Entry.TheVariants as entry
use Rattle.jvms_machine.specs.Places.{places_of}
use Rattle.jvms_machine.specs.Start.{are_arguments_of, argument_value, is_int_type, is_long_type, takes_arguments}
use Rattle.jvms_file.proofs.DescriptorLaws.{method_is_spelled}
use Rattle.machine.specs.Entries.{is_letter_of, has_letters, takes_all}

suc_is_not_zero : (n : ℕ) → (suc n == 0) ≡ false
suc_is_not_zero n = ne_eqb (suc n) 0 (λ same. omega (arith, same))

-- The first letter of a type's text. The letters of int, byte, char, short, boolean and long are whole texts.
record Front (t : FieldType) : Type 0 where
  letter : ℕ
  others : List ℕ
  text : field_text t ≡ letter ∷ others
  apart : (letter == 41) ≡ false
  of_int : is_letter_of (argument.Int (pos 0)) letter ≡ is_int_type t
  of_long : is_letter_of (argument.Long (pos 0)) letter ≡ is_long_type t
  int_alone : is_int_type t ≡ true → others ≡ []
  long_alone : is_long_type t ≡ true → others ≡ []

front_from : (d : ℕ) (e : Element) → Front (record { dimensions = d; element = e })
front_from (suc d) e =
    record { letter = 91; others = replicate d 91 ++ element_text e; text = refl; apart = refl; of_int = rw (suc_is_not_zero d) refl; of_long = rw (suc_is_not_zero d) refl; int_alone = λ is. cc (suc_is_not_zero d); long_alone = λ is. cc (suc_is_not_zero d) }
front_from zero (element.Object name) = record { letter = 76; others = name ++ 59 ∷ []; text = refl; apart = refl; of_int = refl; of_long = refl; int_alone = λ is. cc; long_alone = λ is. cc }
front_from zero (element.Primitive primitive.Byte) = record { letter = 66; others = []; text = refl; apart = refl; of_int = refl; of_long = refl; int_alone = λ is. refl; long_alone = λ is. refl }
front_from zero (element.Primitive primitive.Char) = record { letter = 67; others = []; text = refl; apart = refl; of_int = refl; of_long = refl; int_alone = λ is. refl; long_alone = λ is. refl }
front_from zero (element.Primitive primitive.Double) = record { letter = 68; others = []; text = refl; apart = refl; of_int = refl; of_long = refl; int_alone = λ is. refl; long_alone = λ is. refl }
front_from zero (element.Primitive primitive.Float) = record { letter = 70; others = []; text = refl; apart = refl; of_int = refl; of_long = refl; int_alone = λ is. refl; long_alone = λ is. refl }
front_from zero (element.Primitive primitive.Int) = record { letter = 73; others = []; text = refl; apart = refl; of_int = refl; of_long = refl; int_alone = λ is. refl; long_alone = λ is. refl }
front_from zero (element.Primitive primitive.Long) = record { letter = 74; others = []; text = refl; apart = refl; of_int = refl; of_long = refl; int_alone = λ is. refl; long_alone = λ is. refl }
front_from zero (element.Primitive primitive.Short) = record { letter = 83; others = []; text = refl; apart = refl; of_int = refl; of_long = refl; int_alone = λ is. refl; long_alone = λ is. refl }
front_from zero (element.Primitive primitive.Boolean) = record { letter = 90; others = []; text = refl; apart = refl; of_int = refl; of_long = refl; int_alone = λ is. refl; long_alone = λ is. refl }

front_of : (t : FieldType) → Front t
front_of t = front_from t.dimensions t.element

-- Decides whether an argument is of a type.
abbrev is_taken : Argument → FieldType → Bool
is_taken (argument.Int n) t = is_int_type t
is_taken (argument.Long n) t = is_long_type t

first_taken : (one : Argument) (t : FieldType) (ps : List FieldType) (arguments : List Argument) → are_arguments_of (t ∷ ps) (one ∷ arguments) ≡ (is_taken one t && are_arguments_of ps arguments)
first_taken (argument.Int n) t ps arguments = refl
first_taken (argument.Long n) t ps arguments = refl

letter_tells : (one : Argument) (t : FieldType) (f : Front t) → is_letter_of one f.letter ≡ is_taken one t
letter_tells (argument.Int n) t f = f.of_int
letter_tells (argument.Long n) t f = f.of_long

letter_is_alone : (one : Argument) (t : FieldType) (f : Front t) → is_taken one t ≡ true → f.others ≡ []
letter_is_alone (argument.Int n) t f is = f.int_alone is
letter_is_alone (argument.Long n) t f is = f.long_alone is

-- The text of parameters, from the first one's letter on.
text_is : (t : FieldType) (ps : List FieldType) (rest : List ℕ) (f : Front t) → flat_map field_text (t ∷ ps) ++ 41 ∷ rest ≡ f.letter ∷ f.others ++ (flat_map field_text ps ++ 41 ∷ rest)
text_is t ps rest f =
    ap (λ l. l ++ 41 ∷ rest) (flat_map-cons field_text t ps ∙ ap (λ l. l ++ flat_map field_text ps) f.text)
    ∙ append_assoc (f.letter ∷ f.others) (flat_map field_text ps) (41 ∷ rest)

-- The letters of the arguments, followed by the parenthesis.
letters_are : (ps : List FieldType) (rest : List ℕ) (arguments : List Argument) → has_letters (flat_map field_text ps ++ 41 ∷ rest) arguments ≡ are_arguments_of ps arguments
unfolding has_letters
letters_are [] rest [] = refl
letters_are [] rest (argument.Int n ∷ arguments) = refl
letters_are [] rest (argument.Long n ∷ arguments) = refl
letters_are (t ∷ ps) rest [] =
    let f = front_of t in
    ap (λ l. has_letters l []) (text_is t ps rest f) ∙ f.apart
letters_are (t ∷ ps) rest (one ∷ arguments) =
    let f = front_of t in
    ap (λ l. has_letters l (one ∷ arguments)) (text_is t ps rest f) ∙ ap (λ b. b && has_letters (f.others ++ (flat_map field_text ps ++ 41 ∷ rest)) arguments) (letter_tells one t f) ∙ by_taken f (is_taken one t) refl (letters_are ps rest arguments)
  where
    by_taken : (f : Front t) (b : Bool) → is_taken one t ≡ b → has_letters (flat_map field_text ps ++ 41 ∷ rest) arguments ≡ are_arguments_of ps arguments → (is_taken one t && has_letters (f.others ++ (flat_map field_text ps ++ 41 ∷ rest)) arguments) ≡ are_arguments_of (t ∷ ps) (one ∷ arguments)
    by_taken f true is again =
        ap (λ b. b && has_letters (f.others ++ (flat_map field_text ps ++ 41 ∷ rest)) arguments) is
        ∙ ap (λ l. has_letters (l ++ (flat_map field_text ps ++ 41 ∷ rest)) arguments) (letter_is_alone one t f is)
        ∙ again
        ∙ sym (first_taken one t ps arguments ∙ ap (λ b. b && are_arguments_of ps arguments) is)
    by_taken f false is again =
        ap (λ b. b && has_letters (f.others ++ (flat_map field_text ps ++ 41 ∷ rest)) arguments) is
        ∙ sym (first_taken one t ps arguments ∙ ap (λ b. b && are_arguments_of ps arguments) is)

-- A text takes arguments if and only if the type that it spells does.
abbrev takes_of : Option MethodType → List Argument → Bool
takes_of o arguments = is_some o && are_arguments_of (unwrap_or o (record { parameters = []; result = result_type.Void })).parameters arguments

abbrev told : List ℕ → Option MethodType → List Argument → Bool
told [] o arguments = false
told (u ∷ us) o arguments = is_some o && has_letters us arguments

told_is : (d : List ℕ) (arguments : List Argument) → takes_all d arguments ≡ told d (method_type_of d) arguments
told_is [] arguments = refl
told_is (u ∷ us) arguments = refl

told_none : (d : List ℕ) (arguments : List Argument) → told d None arguments ≡ false
told_none [] arguments = refl
told_none (u ∷ us) arguments = refl

by_type : (d : List ℕ) (arguments : List Argument) (o : Option MethodType) → method_type_of d ≡ o → told d o arguments ≡ takes_of o arguments
by_type d arguments None is = told_none d arguments
by_type d arguments (Some t) is =
    ap (λ text. told text (Some t) arguments) (method_is_spelled d t is).1
    ∙ letters_are t.parameters (result_text t.result) arguments

all_are_taken : (d : List ℕ) (arguments : List Argument) → takes_all d arguments ≡ (is_some (method_type_of d) && are_arguments_of (method_type d).parameters arguments)
all_are_taken d arguments = told_is d arguments ∙ by_type d arguments (method_type_of d) refl

-- An entry takes its arguments if and only if its descriptor's text does.
pub entry_takes : (e : Entry) (class name descriptor : List ℕ) (arguments : List Argument) (text : List ℕ) (handed : List Argument) → e ≡ entry.Static class name descriptor arguments → text ≡ descriptor → handed ≡ arguments
    → takes_all text handed ≡ takes_arguments e
entry_takes e class name descriptor arguments text handed is text_is same =
    ap (λ d. takes_all d handed) text_is ∙ ap (takes_all descriptor) same ∙ all_are_taken descriptor arguments ∙ sym (ap takes_arguments is)

-- The slots of an argument come before those of the others.
pub places_of_first : (one : Argument) (arguments : List Argument) → places_of (map argument_value (one ∷ arguments)) ≡ places_of (argument_value one ∷ []) ++ places_of (map argument_value arguments)
places_of_first (argument.Int n) arguments = refl
places_of_first (argument.Long n) arguments = refl
