-- The words of a line, and how they are read.
use Rattle.std.proofs.Common.{◌≡◌, ◌≢◌, ℕ, ◌<◌, true, false, Bool, is_none, Bor, lit<, List, [], ◌∷◌, ◌++◌, length, get_or, eqb, Option, None, Some, Result, Ok, Err, MatchBool, refl, ◌∙◌, ap, sym, subst, arith, codes}
use Rattle.std.specs.List.{All}
use Rattle.std.specs.Prelude.{IsUtf8}
use Rattle.std.proofs.lemmas.List.Elements.{All-from_get_or}
use Rattle.std.proofs.lemmas.List.Splits.{slice_split_none, slice_split_at, length-slice_split}
use Rattle.std.proofs.lemmas.Bool.Decides.{nat_tests}
use Rattle.std.proofs.lemmas.Str.Pattern.{IsSplitOnceResult, split_parts}
use Rattle.jvms_program.specs.declared.key.MethodKey.{MethodKey}
use Rattle.escapes.specs.Escapes.{name_text}
use Rattle.escapes.specs.Keys.{IsNameOf, IsMethodKey, method_text}
use Rattle.escapes.specs.Readings.{IsReadAs}
use Rattle.escapes.specs.declared.sort.NameSort.TheVariants as sort
use Rattle.escapes.proofs.Spelling.{one_name}
use Rattle.escapes.proofs.Members.{SameParts, one_member}
use Rattle.debugger_commands.specs.declared.command.Command.TheVariants as command
use Rattle.debugger_commands.specs.declared.command.Command.{Command}
use Rattle.debugger_commands.specs.declared.fault.DebugFault.{DebugFault}
use Rattle.debugger_commands.specs.declared.fault.DebugFault.TheVariants as fault
use Rattle.debugger_commands.specs.Commands.{with_number}
use Rattle.jvms_file.specs.Names.{same_text}
use Rattle.debugger_commands.specs.Readings.{AreRead, IsClassRead, IsBreakRead, IsNumberRead, Reads, words_of}

lacks : (text : List ℕ) → ((i : ℕ) → i < length text → get_or text i 0 ≢ 32) → All (λ b. eqb b 32 ≡ false) text
lacks text none = All-from_get_or (λ b. eqb b 32 ≡ false) text 0 (λ i inside. let other = none i inside in grind (arith, nat_tests))

-- A text without a space is one word.
pub one_word : (text : List ℕ) → ((i : ℕ) → i < length text → get_or text i 0 ≢ 32) → words_of text ≡ text ∷ []
one_word text none = slice_split_none (λ b. eqb b 32) text (lacks text none)

-- The text before the first space is a word.
pub first_word : (text word rest : List ℕ) → (text ≡ word ++ 32 ∷ rest) × ((i : ℕ) → i < length word → get_or word i 0 ≢ 32) → words_of text ≡ word ∷ words_of rest
first_word text word rest (e, none) = ap words_of e ∙ slice_split_at (λ b. eqb b 32) word 32 rest (lacks word none) (grind (arith, nat_tests))

-- Whether a command has a number doesn't depend on the number.
pub has_number : (w : List ℕ) (n m : ℕ) → with_number w n ≡ None → with_number w m ≡ None
has_number w n m e = grind arith

-- If a line is UTF-8, its words are read.
pub line_read : (line : List ℕ) (words : List (List ℕ)) (r : Result Command DebugFault) → IsUtf8 line → words_of line ≡ words → AreRead words r → Reads line r
line_read line words (Ok c) utf8 e read = (utf8, subst (λ ws. AreRead ws (Ok c)) (sym e) read)
line_read line words (Err fault.UnknownCommand) utf8 e read = λ _. subst (λ ws. AreRead ws (Err fault.UnknownCommand)) (sym e) read
line_read line words (Err fault.Number) utf8 e read = (utf8, subst (λ ws. AreRead ws (Err fault.Number)) (sym e) read)
line_read line words (Err fault.NoThread) utf8 e read = (utf8, subst (λ ws. AreRead ws (Err fault.NoThread)) (sym e) read)
line_read line words (Err fault.NoObject) utf8 e read = (utf8, subst (λ ws. AreRead ws (Err fault.NoObject)) (sym e) read)
line_read line words (Err fault.NoBreakpoint) utf8 e read = (utf8, subst (λ ws. AreRead ws (Err fault.NoBreakpoint)) (sym e) read)
line_read line words (Err fault.NoPlace) utf8 e read = (utf8, subst (λ ws. AreRead ws (Err fault.NoPlace)) (sym e) read)
line_read line words (Err fault.Memory) utf8 e read = (utf8, subst (λ ws. AreRead ws (Err fault.Memory)) (sym e) read)

-- ---- Three words

-- A text has a word.
a_word : (text : List ℕ) → 0 < length (words_of text)
a_word text = omega (arith, length-slice_split (λ b. eqb b 32) text)

of_no_break : (name word : List ℕ) (ws : List (List ℕ)) → 0 < length ws → same_text name (codes "break") ≡ false → AreRead (name ∷ word ∷ ws) (Err fault.UnknownCommand)
of_no_break name word [] some e = absurd (omega (arith, some))
of_no_break name word (digits ∷ []) some e = rw e refl
of_no_break name word (digits ∷ more ∷ ws) some e = refl

-- A name other than `break` has no third word.
pub no_break : (name word rest : List ℕ) → same_text name (codes "break") ≡ false → AreRead (name ∷ word ∷ words_of rest) (Err fault.UnknownCommand)
no_break name word rest e = of_no_break name word (words_of rest) (a_word rest) e

of_four_words : (name word digits : List ℕ) (ws : List (List ℕ)) → 0 < length ws → AreRead (name ∷ word ∷ digits ∷ ws) (Err fault.UnknownCommand)
of_four_words name word digits [] some = absurd (omega (arith, some))
of_four_words name word digits (more ∷ ws) some = refl

-- Four words are no command.
pub four_words : (name word text : List ℕ) (o : Option (Bor (List ℕ) × Bor (List ℕ))) → IsSplitOnceResult 32 text o → is_none o ≡ false → AreRead (name ∷ word ∷ words_of text) (Err fault.UnknownCommand)
four_words name word text None cut e = let no : true ≡ false → ⊥ = λ h. cc in absurd (no e)
four_words name word text (Some (digits, rest)) cut e =
    let P : List (List ℕ) → Type 0 = λ ws. AreRead (name ∷ word ∷ ws) (Err fault.UnknownCommand) in
    let parts = split_parts 32 text (Some (digits, rest)) cut (lit< tt) in
    subst P (sym (first_word text digits.now rest.now parts)) (of_four_words name word digits.now (words_of rest.now) (a_word rest.now))

-- `break` and two words.
pub is_break : (name word digits : List ℕ) (r : Result Command DebugFault) (o : Option (Bor (List ℕ) × Bor (List ℕ))) → same_text name (codes "break") ≡ true → IsSplitOnceResult 32 digits o → is_none o ≡ true → IsBreakRead word digits r → AreRead (name ∷ word ∷ words_of digits) r
is_break name word digits r None e cut none read =
    let P : List (List ℕ) → Type 0 = λ ws. AreRead (name ∷ word ∷ ws) r in
    subst P (sym (one_word digits (split_parts 32 digits None cut (lit< tt)))) (rw e read)
is_break name word digits r (Some x) e cut none read = let no : false ≡ true → ⊥ = λ h. cc in absurd (no none)

-- ---- One command

one_class : (word : List ℕ) (c d : Option (List ℕ)) → IsReadAs (IsNameOf sort.Class) name_text word c → IsReadAs (IsNameOf sort.Class) name_text word d → c ≡ d
one_class word None None left right = refl
one_class word None (Some d) left right = absurd (left d right.0 right.1)
one_class word (Some c) None left right = absurd (right c left.0 left.1)
one_class word (Some c) (Some d) left right = ap Some (one_name c d left.0.units right.0.units (sym left.1 ∙ right.1))

same_key : (m n : MethodKey) → SameParts m.class m.name m.descriptor n.class n.name n.descriptor → m ≡ n
same_key m n same = grind (arith, same.same_first, same.same_second, same.same_third)

one_method : (word : List ℕ) (m n : Option MethodKey) → IsReadAs IsMethodKey method_text word m → IsReadAs IsMethodKey method_text word n → m ≡ n
one_method word None None left right = refl
one_method word None (Some n) left right = absurd (left n right.0 right.1)
one_method word (Some m) None left right = absurd (right m left.0 left.1)
one_method word (Some m) (Some n) left right =
    ap Some (same_key m n (one_member sort.Method sort.MethodDescriptor m.class m.name m.descriptor n.class n.name n.descriptor left.0 right.0 (sym left.1 ∙ right.1)))

class_words : (word : List ℕ) (a b : Command) → IsClassRead word (Ok a) → IsClassRead word (Ok b) → a ≡ b
class_words word a b (c, first, left) (d, second, right) = first ∙ ap command.Class (one_class word c d left right) ∙ sym second

number_words : (name word : List ℕ) (a b : Command) → IsNumberRead name word (Ok a) → IsNumberRead name word (Ok b) → a ≡ b
number_words name word a b (n, first, left) (m, second, right) =
    let same : n ≡ m = sym first.1 ∙ second.1 in grind (arith, same, left, right)

break_words : (word digits : List ℕ) (a b : Command) → IsBreakRead word digits (Ok a) → IsBreakRead word digits (Ok b) → a ≡ b
break_words word digits a b (p, first, left, n) (q, second, right, m) =
    let place : p ≡ q = grind (arith, one_method word p.method q.method left right, n.1, m.1) in
    first ∙ ap command.Break place ∙ sym second

two_words : (b : Bool) (name word : List ℕ) (x y : Command) → MatchBool b (IsClassRead word (Ok x)) (IsNumberRead name word (Ok x)) → MatchBool b (IsClassRead word (Ok y)) (IsNumberRead name word (Ok y)) → x ≡ y
two_words true name word x y left right = class_words word x y left right
two_words false name word x y left right = number_words name word x y left right

three_words : (b : Bool) (word digits : List ℕ) (x y : Command) → MatchBool b (IsBreakRead word digits (Ok x)) (Ok x ≡ Err fault.UnknownCommand) → MatchBool b (IsBreakRead word digits (Ok y)) (Ok y ≡ Err fault.UnknownCommand) → x ≡ y
three_words true word digits x y left right = break_words word digits x y left right
three_words false word digits x y left right = let no : Ok x ≡ Err fault.UnknownCommand → ⊥ = λ h. cc in absurd (no left)

-- Words are read as one command at most.
pub one_command : (words : List (List ℕ)) (x y : Command) → AreRead words (Ok x) → AreRead words (Ok y) → x ≡ y
one_command [] x y left right = let no : Ok x ≡ Err fault.UnknownCommand → ⊥ = λ h. cc in absurd (no left)
one_command (name ∷ []) x y left right = let same : Ok x ≡ Ok y = left ∙ sym right in cc
one_command (name ∷ word ∷ []) x y left right = two_words (same_text name (codes "class")) name word x y left right
one_command (name ∷ word ∷ digits ∷ []) x y left right = three_words (same_text name (codes "break")) word digits x y left right
one_command (name ∷ word ∷ digits ∷ more ∷ ws) x y left right = let no : Ok x ≡ Err fault.UnknownCommand → ⊥ = λ h. cc in absurd (no left)
