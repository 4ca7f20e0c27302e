-- Items, and the lines that are no items.
use Rattle.std.proofs.Common.{◌≡◌, ◌≢◌, ℕ, ◌<◌, Bool, true, false, List, [], ◌∷◌, ◌++◌, Option, Some, None, refl, sym, ap, ◌∙◌, append_assoc, arith}
use Rattle.std.specs.Prelude.{codes, if◌then◌else◌}
use Rattle.std.specs.Fmt.{decimal}
use Rattle.std.proofs.lemmas.Option.{same_Some}
use Rattle.jvms_file.specs.Names.{same_text}
use Rattle.jvms_machine.specs.declared.trace.Item.{Item}
use Rattle.jvms_machine.specs.declared.trace.Item.TheVariants as item
use Rattle.jvms_machine.specs.declared.trace.Variable.{Variable}
use Rattle.jvms_machine.specs.declared.trace.Variable.TheVariants as variable
use Rattle.jvms_program.specs.declared.key.MethodKey.{MethodKey}
use Rattle.escapes.specs.Cuts.{has, IsCutTwice}
use Rattle.escapes.specs.Keys.{IsMethodKey, member_text, field_text, method_text}
use Rattle.escapes.specs.Readings.{IsReadAs}
use Rattle.escapes.specs.Escapes.{name_text}
use Rattle.escapes.proofs.Cutting.{one_cut}
use Rattle.escapes.proofs.Members.{AreParts, SameParts, one_cutting, parts_along, has_append, spelled_no_low}
use Rattle.trace_text.specs.declared.word.Word.{Word}
use Rattle.trace_text.specs.declared.word.Word.TheVariants as word
use Rattle.jvms_machine.specs.Events.{thread_of}
use Rattle.trace_text.specs.Items.{IsNumber, IsVariable, IsItem, IsTouched, variable_text, word_of, touched_text, item_text}
use Rattle.trace_text.specs.Parts.{word_text, kind_of, IsWord, IsItemOf}
use Rattle.trace_text.specs.Traces.{item_line, BeginsWithNoItem}
use Rattle.trace_text.proofs.Numbers.{number_below, one_number}

-- ---- Words

pub word_is : (i : Item) → word_text (kind_of i) ≡ word_of i
word_is (item.Read t v) = refl
word_is (item.Write t v) = refl
word_is (item.Acquire t r) = refl
word_is (item.Release t r) = refl
word_is (item.Fork t u) = refl
word_is (item.Join t u) = refl
word_is (item.Enter t m) = refl
word_is (item.Exit t m) = refl

word_clear : (w : Word) → has 32 (word_text w) ≡ false
word_clear word.Read = refl
word_clear word.Write = refl
word_clear word.Acquire = refl
word_clear word.Release = refl
word_clear word.Fork = refl
word_clear word.Join = refl
word_clear word.Enter = refl
word_clear word.Exit = refl

abbrev word_in : List ℕ → Option Word
word_in us =
    if same_text us (codes "rd") then Some word.Read
    else (if same_text us (codes "wr") then Some word.Write
    else (if same_text us (codes "acq") then Some word.Acquire
    else (if same_text us (codes "rel") then Some word.Release
    else (if same_text us (codes "fork") then Some word.Fork
    else (if same_text us (codes "join") then Some word.Join
    else (if same_text us (codes "enter") then Some word.Enter
    else (if same_text us (codes "exit") then Some word.Exit
    else None)))))))

word_again : (w : Word) → word_in (word_text w) ≡ Some w
word_again word.Read = refl
word_again word.Write = refl
word_again word.Acquire = refl
word_again word.Release = refl
word_again word.Fork = refl
word_again word.Join = refl
word_again word.Enter = refl
word_again word.Exit = refl

pub one_word : (v w : Word) → word_text v ≡ word_text w → v ≡ w
one_word v w e = same_Some v w (sym (word_again v) ∙ ap word_in e ∙ word_again w)

-- ---- Lines

-- The first two spaces cut an item's line into its word, its thread and what it touches.
pub item_parts : (i : Item) → IsItem i → AreParts 32 (item_text i) (word_of i) (decimal (thread_of i)) (touched_text i)
item_parts i is = record {
  split = append_assoc (word_of i) (32 ∷ decimal (thread_of i)) (32 ∷ touched_text i);
  first_clear = ap (has 32) (sym (word_is i)) ∙ word_clear (kind_of i);
  second_clear = number_below 32 (thread_of i) (omega arith) is.0;
}

pub are_item : (line first second third : List ℕ) (i : Item) → AreParts 32 line first second third → IsItem i → line ≡ item_text i → SameParts first second third (word_of i) (decimal (thread_of i)) (touched_text i)
are_item line first second third i parts is e =
    one_cutting 32 line first second third (word_of i) (decimal (thread_of i)) (touched_text i) parts
    (parts_along 32 line (item_text i) (word_of i) (decimal (thread_of i)) (touched_text i) e (item_parts i is))

pub no_two_spaces : (line : List ℕ) → IsCutTwice 32 line None → (i : Item) → IsItem i → line ≢ item_text i
no_two_spaces line none i is e =
    let parts = item_parts i is in
    none (word_of i) (decimal (thread_of i)) (touched_text i) parts.first_clear parts.second_clear (e ∙ parts.split)

pub no_word : (line first second third : List ℕ) → AreParts 32 line first second third → ((w : Word) → IsWord w → first ≢ word_text w) → (i : Item) → IsItem i → line ≢ item_text i
no_word line first second third parts none i is e =
    none (kind_of i) tt ((are_item line first second third i parts is e).same_first ∙ sym (word_is i))

pub no_thread : (line first second third : List ℕ) → AreParts 32 line first second third → ((n : ℕ) → IsNumber n → second ≢ decimal n) → (i : Item) → IsItem i → line ≢ item_text i
no_thread line first second third parts none i is e =
    none (thread_of i) is.0 (are_item line first second third i parts is e).same_second

-- A line is an item if its parts are a word, a thread and what such an item touches.
pub of_parts : (line first second third : List ℕ) (w : Word) (t : ℕ) (o : Option Item) → AreParts 32 line first second third → first ≡ word_text w → IsNumber t → second ≡ decimal t
    → IsReadAs (IsItemOf w t) touched_text third o → IsReadAs IsItem item_text line o
of_parts line first second third w t (Some i) parts is_word number is_thread read =
    let one : first ≡ word_of i = is_word ∙ ap word_text (sym read.0.kind) ∙ word_is i in
    let two : second ≡ decimal (thread_of i) = is_thread ∙ ap decimal (sym read.0.thread) in (
      read.0.item,
      parts.split ∙ ap (λ (x : List ℕ). x ++ 32 ∷ (second ++ 32 ∷ third)) one ∙ ap (λ (x : List ℕ). word_of i ++ 32 ∷ (x ++ 32 ∷ third)) two
          ∙ ap (λ (x : List ℕ). word_of i ++ 32 ∷ (decimal (thread_of i) ++ 32 ∷ x)) read.1 ∙ sym (append_assoc (word_of i) (32 ∷ decimal (thread_of i)) (32 ∷ touched_text i)),
    )
of_parts line first second third w t None parts is_word number is_thread read = λ i is e.
    let same = are_item line first second third i parts is e in
    let kind = one_word (kind_of i) w (word_is i ∙ sym same.same_first ∙ is_word) in
    let thread = one_number (thread_of i) t is.0 number (sym same.same_second ∙ is_thread) in
    read i (record { kind = kind; thread = thread; item = is }) same.same_third

-- ---- No item's text has an LF

word_no_end : (w : Word) → has 10 (word_text w) ≡ false
word_no_end word.Read = refl
word_no_end word.Write = refl
word_no_end word.Acquire = refl
word_no_end word.Release = refl
word_no_end word.Fork = refl
word_no_end word.Join = refl
word_no_end word.Enter = refl
word_no_end word.Exit = refl

number_no_end : (n : ℕ) → IsNumber n → has 10 (decimal n) ≡ false
number_no_end n is = number_below 10 n (omega arith) is

name_no_end : (us : List ℕ) → has 10 (name_text us) ≡ false
name_no_end us = spelled_no_low 10 us (omega arith)

member_no_end : (class name descriptor : List ℕ) → has 10 (member_text class name descriptor) ≡ false
member_no_end class name descriptor =
    has_append 10 (name_text class ++ 46 ∷ name_text name) (46 ∷ name_text descriptor) (has_append 10 (name_text class) (46 ∷ name_text name) (name_no_end class) (name_no_end name)) (name_no_end descriptor)

variable_no_end : (v : Variable) → IsVariable v → has 10 (variable_text v) ≡ false
variable_no_end (variable.Instance r f) is = has_append 10 (decimal r) (46 ∷ field_text f) (number_no_end r is.0) (member_no_end f.class f.name f.descriptor)
variable_no_end (variable.Static f) is = member_no_end f.class f.name f.descriptor
variable_no_end (variable.Element r i) is =
    has_append 10 (decimal r ++ 91 ∷ decimal i) (93 ∷ []) (has_append 10 (decimal r) (91 ∷ decimal i) (number_no_end r is.0) (number_no_end i is.1)) refl

touched_no_end : (i : Item) → IsTouched i → has 10 (touched_text i) ≡ false
touched_no_end (item.Read t v) is = variable_no_end v is
touched_no_end (item.Write t v) is = variable_no_end v is
touched_no_end (item.Acquire t r) is = number_no_end r is
touched_no_end (item.Release t r) is = number_no_end r is
touched_no_end (item.Fork t u) is = number_no_end u is
touched_no_end (item.Join t u) is = number_no_end u is
touched_no_end (item.Enter t m) is = member_no_end m.class m.name m.descriptor
touched_no_end (item.Exit t m) is = member_no_end m.class m.name m.descriptor

pub item_no_end : (i : Item) → IsItem i → has 10 (item_text i) ≡ false
item_no_end i is =
    has_append 10 (word_of i ++ 32 ∷ decimal (thread_of i)) (32 ∷ touched_text i)
    (has_append 10 (word_of i) (32 ∷ decimal (thread_of i)) (ap (has 10) (sym (word_is i)) ∙ word_no_end (kind_of i)) (number_no_end (thread_of i) is.0)) (touched_no_end i is.1)

-- If a text begins with a line and with an item's line, the line is the item's text.
pub one_line : (i : Item) (text line behind rest : List ℕ) → text ≡ line ++ 10 ∷ behind → has 10 line ≡ false → IsItem i → text ≡ item_line i ++ rest → (line ≡ item_text i) × (behind ≡ rest)
one_line i text line behind rest split clear is e =
    one_cut 10 line behind (item_text i) rest clear (item_no_end i is) (sym split ∙ e ∙ append_assoc (item_text i) (10 ∷ []) rest)

pub faulty_line : (text line behind : List ℕ) → (text ≡ [] → ⊥) → text ≡ line ++ 10 ∷ behind → has 10 line ≡ false → ((i : Item) → IsItem i → line ≢ item_text i) → BeginsWithNoItem text
faulty_line text line behind some split clear none = record {
  some = some;
  none = λ i rest is e. none i is (one_line i text line behind rest split clear is e).0;
}
