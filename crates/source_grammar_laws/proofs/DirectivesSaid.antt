-- Proves that tokens that are read as a directive's statement spell this statement.
use Rattle.std.proofs.Common.{◌≡◌, ◌⊎◌, inl, inr, ℕ, suc, ◌-◌, ◌^◌, ◌≤◌, ◌||◌, Bool, true, false, cond, List, [], ◌∷◌, ◌++◌, length, Option, Some, None, Ok, Err, IsTrue, ℤ, refl, sym, ap, subst, ◌∙◌, append_assoc, codes, bit_or}
use Rattle.std.specs.Prelude.{slice_get, is_some, nat_le, pos, neg_ℤ}
use Rattle.std.proofs.lemmas.Bool.{leb-true}
use Rattle.std.proofs.lemmas.Option.{none-some, same_Some}
use Rattle.jvms_file.specs.Names.{same_text, is_name, is_class_name, is_method_name, is_initializer_name}
use Rattle.jvms_file.specs.Descriptors.{field_type_of, is_class_entry_name}
use Rattle.jvms_file.specs.Members.{is_static, is_method_descriptor_for}
use Rattle.jasmin.specs.declared.token.Lexeme.{Lexeme}
use Rattle.jasmin.specs.declared.token.Lexeme.TheVariants as lexeme
use Rattle.jasmin.specs.declared.source.Caught.{Caught}
use Rattle.jasmin.specs.declared.source.FieldConstant.{FieldConstant}
use Rattle.jasmin.specs.declared.source.FieldConstant.TheVariants as constant
use Rattle.jasmin.specs.declared.statement.Flaw.TheVariants as flaw
use Rattle.jasmin.specs.declared.statement.Directive.{Directive}
use Rattle.jasmin.specs.declared.statement.Directive.TheVariants as directive
use Rattle.jasmin.specs.declared.statement.OpenSwitch.{OpenSwitch}
use Rattle.jasmin.specs.declared.statement.ClassSort.{ClassSort}
use Rattle.jasmin.specs.declared.statement.ClassSort.TheVariants as sort
use Rattle.jasmin.specs.declared.statement.Statement.{Statement}
use Rattle.jasmin.specs.declared.statement.Statement.TheVariants as statement
use Rattle.jasmin.specs.Judgements.{Judged, both, map_ok, judge_test}
use Rattle.jasmin.specs.Numerals.{is_version}
use Rattle.jasmin.specs.LineKinds.{directive_named}
use Rattle.jasmin.specs.Operands.{exactly, word_at, word_if, keyword_at, name_at, class_name_at, class_at, field_descriptor_at, label_at, i32_at, i64_at, u16_at, before_descriptor, descriptor_of, class_words, field_words, method_words, flags_in, access_words, caught_at}
use Rattle.jasmin.specs.Statements.{version_at, bytecode_line, file_at, source_line, but_last, last_of, class_line, super_line, implements_line, field_head, field_tail, is_long, is_int_type, is_string_type, int_constant, constant_at, constant_in, word_or_none, field_access, field_name_at, field_line, is_permitted, method_head_at, method_line, end_line, limit_at, limit_line, label_after, catch_line, throws_line, line_line, var_line, directive_line}
use Rattle.source_form_laws.proofs.Judged.{same_ok, choose, said_gives, both_are, unless_is, asked_is, tested_is}
use Rattle.source_grammar_laws.specs.Numbers.{SpellsNumber, SpellsSigned, SpellsVersion}
use Rattle.source_grammar_laws.specs.Words.{IsLabel, HasNoParenthesis}
use Rattle.source_grammar_laws.specs.Directives.{IsIntType, SpellsValue, SpellsLimit}
use Rattle.source_grammar_laws.specs.Lines.{Spells, IsPermitted, Suits}
use Rattle.source_grammar_laws.proofs.Labels.{label_said}
use Rattle.source_grammar_laws.proofs.Cuts.{these, whole_by_last, whole_by_two}
use Rattle.source_grammar_laws.proofs.Members.{none_before, whole_word}
use Rattle.source_grammar_laws.proofs.Places.{text_is, place_said, keyword_said, exactly_said, IsNumber, number_place_said, u16_said, version_said, caught_said}
use Rattle.source_grammar_laws.proofs.AccessWords.{class_words_said, field_words_said, method_words_said}

-- ---- The name

abbrev pub directive_word : Directive → List ℕ
directive_word directive.Bytecode = codes ".bytecode"
directive_word directive.Source = codes ".source"
directive_word directive.Class = codes ".class"
directive_word directive.Interface = codes ".interface"
directive_word directive.Super = codes ".super"
directive_word directive.Implements = codes ".implements"
directive_word directive.Field = codes ".field"
directive_word directive.Method = codes ".method"
directive_word directive.End = codes ".end"
directive_word directive.Limit = codes ".limit"
directive_word directive.Catch = codes ".catch"
directive_word directive.Throws = codes ".throws"
directive_word directive.Line = codes ".line"
directive_word directive.Var = codes ".var"

one_name : (w text : List ℕ) (found d : Directive) (o : Option Directive) → cond (same_text text w) (Some found) o ≡ Some d → directive_word found ≡ text → (o ≡ Some d → w ≡ directive_word d) → w ≡ directive_word d
one_name w text found d o e is later =
    choose (same_text text w) (Some found) o (Some d) e
    (λ met same. sym (text_is text w met) ∙ sym is ∙ ap directive_word (same_Some found d same))
    (λ other rest. later rest)

pub directive_name_said : (w : List ℕ) (d : Directive) → directive_named w ≡ Some d → w ≡ directive_word d
directive_name_said w d e =
    one_name w (codes ".bytecode") directive.Bytecode d _ e refl (λ e.
    one_name w (codes ".source") directive.Source d _ e refl (λ e.
    one_name w (codes ".class") directive.Class d _ e refl (λ e.
    one_name w (codes ".interface") directive.Interface d _ e refl (λ e.
    one_name w (codes ".super") directive.Super d _ e refl (λ e.
    one_name w (codes ".implements") directive.Implements d _ e refl (λ e.
    one_name w (codes ".field") directive.Field d _ e refl (λ e.
    one_name w (codes ".method") directive.Method d _ e refl (λ e.
    one_name w (codes ".end") directive.End d _ e refl (λ e.
    one_name w (codes ".limit") directive.Limit d _ e refl (λ e.
    one_name w (codes ".catch") directive.Catch d _ e refl (λ e.
    one_name w (codes ".throws") directive.Throws d _ e refl (λ e.
    one_name w (codes ".line") directive.Line d _ e refl (λ e.
    one_name w (codes ".var") directive.Var d _ e refl (λ e. absurd (none-some d e)))))))))))))))

-- ---- Lists of operands

abbrev behind : List ℕ → List Lexeme → List Lexeme
behind w ts = lexeme.Word w ∷ ts

one_is : (ts : List Lexeme) (t : Lexeme) → exactly 1 ts ≡ Ok tt → slice_get ts 0 ≡ Some t → ts ≡ t ∷ []
one_is ts t size first = these ts (t ∷ []) (exactly_said 1 ts tt size) (first, tt)

-- A line that consists of a name and one operand.
named_one : (w : List ℕ) (ts : List Lexeme) (t : Lexeme) → exactly 1 ts ≡ Ok tt → slice_get ts 0 ≡ Some t → behind w ts ≡ lexeme.Word w ∷ t ∷ []
named_one w ts t size first = ap (λ (us : List Lexeme). lexeme.Word w ∷ us) (one_is ts t size first)

-- A label after a given word.
record IsBehind (text : List ℕ) (ts : List Lexeme) (n : ℕ) (label : List ℕ) : Type 0 where
  pub keyword : slice_get ts n ≡ Some (lexeme.Word text)
  pub word : slice_get ts (suc n) ≡ Some (lexeme.Word label)
  pub is : IsLabel label

behind_said : (text : List ℕ) (ts : List Lexeme) (n : ℕ) (label : List ℕ) → label_after text ts n ≡ Ok label → IsBehind text ts n label
behind_said text ts n label e =
    let all = unless_is (label_at (slice_get ts (suc n))) (keyword_at text (slice_get ts n)) label e in
    let l = label_said (slice_get ts (suc n)) label all.0 in
    record { keyword = keyword_said text (slice_get ts n) tt all.1; word = l.0; is = l.1 }

-- ---- Outside of methods

version_place : (o : Option Lexeme) (u : Unit {0}) → version_at o ≡ Ok u → (w : List ℕ) × (o ≡ Some (lexeme.Word w)) × SpellsVersion w
version_place (Some (lexeme.Word w)) u e = (w, refl, version_said w (asked_is (is_version w) flaw.Number u e))
version_place (Some (lexeme.Text w)) u e = absurd cc
version_place (Some lexeme.Colon) u e = absurd cc
version_place (Some lexeme.Equals) u e = absurd cc
version_place None u e = absurd cc

bytecode_said : (ts : List Lexeme) (s : Statement) → bytecode_line ts ≡ Ok s → Spells (behind (codes ".bytecode") ts) s
unfolding bytecode_line Spells
bytecode_said ts s e =
    said_gives (Spells (behind (codes ".bytecode") ts)) (λ (u : Unit {0} × Unit {0}). statement.Bytecode) _ s e (λ u is.
    let two = both_are (version_at (slice_get ts 0)) (exactly 1 ts) u is in
    let v = version_place (slice_get ts 0) u.0 two.0 in
    (v.0, named_one (codes ".bytecode") ts (lexeme.Word v.0) two.1 v.1, v.2))

file_place : (o : Option Lexeme) (u : Unit {0}) → file_at o ≡ Ok u → (w : List ℕ) × ((o ≡ Some (lexeme.Word w)) ⊎ (o ≡ Some (lexeme.Text w)))
file_place (Some (lexeme.Word w)) u e = (w, inl refl)
file_place (Some (lexeme.Text w)) u e = (w, inr refl)
file_place (Some lexeme.Colon) u e = absurd cc
file_place (Some lexeme.Equals) u e = absurd cc
file_place None u e = absurd cc

source_said : (ts : List Lexeme) (s : Statement) → source_line ts ≡ Ok s → Spells (behind (codes ".source") ts) s
unfolding source_line Spells
source_said ts s e =
    said_gives (Spells (behind (codes ".source") ts)) (λ (u : Unit {0} × Unit {0}). statement.SourceFile) _ s e (λ u is.
    let two = both_are (file_at (slice_get ts 0)) (exactly 1 ts) u is in
    let f = file_place (slice_get ts 0) u.0 two.0 in
    (f.0, which f.0 two.1 f.1))
  where
    which : (w : List ℕ) → exactly 1 ts ≡ Ok tt → (slice_get ts 0 ≡ Some (lexeme.Word w)) ⊎ (slice_get ts 0 ≡ Some (lexeme.Text w))
        → (behind (codes ".source") ts ≡ lexeme.Word (codes ".source") ∷ lexeme.Word w ∷ []) ⊎ (behind (codes ".source") ts ≡ lexeme.Word (codes ".source") ∷ lexeme.Text w ∷ [])
    which w size (inl at) = inl (named_one (codes ".source") ts (lexeme.Word w) size at)
    which w size (inr at) = inr (named_one (codes ".source") ts (lexeme.Text w) size at)

class_said : (ts : List Lexeme) (s : Statement) → class_line 32 ts ≡ Ok s → Spells (behind (codes ".class") ts) s
unfolding class_line Spells
class_said ts s e =
    said_gives (Spells (behind (codes ".class") ts)) (λ (name : List ℕ). statement.Class (bit_or (flags_in class_words (but_last ts)) 32) name) _ s e (λ name is.
    let all = unless_is (class_name_at (last_of ts)) (access_words class_words (but_last ts)) name is in
    let n = place_said is_class_name flaw.Name (last_of ts) name all.0 in
    (but_last ts, flags_in class_words (but_last ts), class_words_said (but_last ts) tt all.1, n.1, inl (ap (λ (us : List Lexeme). lexeme.Word (codes ".class") ∷ us) (whole_by_last ts (lexeme.Word name) n.0), refl)))

interface_said : (ts : List Lexeme) (s : Statement) → class_line 1536 ts ≡ Ok s → Spells (behind (codes ".interface") ts) s
unfolding class_line Spells
interface_said ts s e =
    said_gives (Spells (behind (codes ".interface") ts)) (λ (name : List ℕ). statement.Class (bit_or (flags_in class_words (but_last ts)) 1536) name) _ s e (λ name is.
    let all = unless_is (class_name_at (last_of ts)) (access_words class_words (but_last ts)) name is in
    let n = place_said is_class_name flaw.Name (last_of ts) name all.0 in
    (but_last ts, flags_in class_words (but_last ts), class_words_said (but_last ts) tt all.1, n.1, inr (ap (λ (us : List Lexeme). lexeme.Word (codes ".interface") ∷ us) (whole_by_last ts (lexeme.Word name) n.0), refl)))

super_said : (ts : List Lexeme) (s : Statement) → super_line ts ≡ Ok s → Spells (behind (codes ".super") ts) s
unfolding super_line Spells
super_said ts s e =
    said_gives (Spells (behind (codes ".super") ts)) (λ (name : List ℕ). statement.Superclass name) _ s e (λ name is.
    let all = unless_is (class_name_at (slice_get ts 0)) (exactly 1 ts) name is in
    let n = place_said is_class_name flaw.Name (slice_get ts 0) name all.0 in
    (named_one (codes ".super") ts (lexeme.Word name) all.1 n.0, n.1))

implements_said : (ts : List Lexeme) (s : Statement) → implements_line ts ≡ Ok s → Spells (behind (codes ".implements") ts) s
unfolding implements_line Spells
implements_said ts s e =
    said_gives (Spells (behind (codes ".implements") ts)) (λ (name : List ℕ). statement.Implements name) _ s e (λ name is.
    let all = unless_is (class_name_at (slice_get ts 0)) (exactly 1 ts) name is in
    let n = place_said is_class_name flaw.Name (slice_get ts 0) name all.0 in
    (named_one (codes ".implements") ts (lexeme.Word name) all.1 n.0, n.1))

-- ---- Fields

abbrev tail_tokens : Option (List Lexeme) → List Lexeme
tail_tokens None = []
tail_tokens (Some ts) = lexeme.Equals ∷ ts

head_and_tail : (ts : List Lexeme) → ts ≡ field_head ts ++ tail_tokens (field_tail ts)
head_and_tail [] = refl
head_and_tail (lexeme.Word w ∷ ts) = ap (λ (us : List Lexeme). lexeme.Word w ∷ us) (head_and_tail ts)
head_and_tail (lexeme.Text w ∷ ts) = ap (λ (us : List Lexeme). lexeme.Text w ∷ us) (head_and_tail ts)
head_and_tail (lexeme.Colon ∷ ts) = ap (λ (us : List Lexeme). lexeme.Colon ∷ us) (head_and_tail ts)
head_and_tail (lexeme.Equals ∷ ts) = refl

-- The token before the last of a field's head, which has at least two.
record IsNamePlace (head : List Lexeme) (t : Lexeme) : Type 0 where
  pub many : 2 ≤ length head
  pub at : slice_get head (length head - 2) ≡ Some t

name_place : (head : List Lexeme) (t : Lexeme) → field_name_at head ≡ Some t → IsNamePlace head t
name_place head t e =
    choose (nat_le 2 (length head)) (slice_get head (length head - 2)) None (Some t) e
    (λ met is. record { many = leb-true 2 (length head) met; at = is })
    (λ other none. absurd (none-some t none))

word_number : (bits : ℕ) (w : List ℕ) (z : ℤ) → IsNumber (neg_ℤ (pos (2 ^ bits))) (pos (2 ^ bits - 1)) (Some (lexeme.Word w)) z → SpellsSigned bits w z
word_number bits w z h = (subst (λ (v : List ℕ). SpellsNumber v z) (same h.w h.word) h.spelled, h.fits)
  where
    same : (v : List ℕ) → ◌≡◌ {A = Option Lexeme} (Some (lexeme.Word w)) (Some (lexeme.Word v)) → v ≡ w
    same v e = cc

either : {G : Type 0} (a b : Bool) → (a || b) ≡ true → (a ≡ true → G) → (b ≡ true → G) → G
either true b e first second = first refl
either false b e first second = second e

int_type_said : (d : List ℕ) → is_int_type d ≡ true → IsIntType d
int_type_said d e =
    either (same_text d (codes "I")) _ e (λ is. inl (text_is d (codes "I") is)) (λ e.
    either (same_text d (codes "B")) _ e (λ is. inr (inl (text_is d (codes "B") is))) (λ e.
    either (same_text d (codes "C")) _ e (λ is. inr (inr (inl (text_is d (codes "C") is)))) (λ e.
    either (same_text d (codes "S")) _ e (λ is. inr (inr (inr (inl (text_is d (codes "S") is))))) (λ is. inr (inr (inr (inr (text_is d (codes "Z") is))))))))

constant_said : (descriptor : List ℕ) (o : Option Lexeme) (c : FieldConstant) (ts : List Lexeme) → constant_at descriptor o ≡ Ok c → ((t : Lexeme) → o ≡ Some t → ts ≡ t ∷ []) → SpellsValue descriptor (lexeme.Equals ∷ ts) (Some c)
constant_said descriptor (Some (lexeme.Word w)) c ts e alone =
    choose (is_long descriptor) (map_ok (λ n. constant.Long n) (i64_at (Some (lexeme.Word w)))) (int_constant descriptor (i32_at (Some (lexeme.Word w)))) (Ok c) e
    (λ long is. said_gives (λ (d : FieldConstant). SpellsValue descriptor (lexeme.Equals ∷ ts) (Some d)) (λ (n : ℤ). constant.Long n) (i64_at (Some (lexeme.Word w))) c is (λ n f.
    (w, whole, text_is descriptor (codes "J") long, word_number 63 w n (number_place_said (neg_ℤ (pos (2 ^ 63))) (pos (2 ^ 63 - 1)) (Some (lexeme.Word w)) n f))))
    (λ other is. int_said (i32_at (Some (lexeme.Word w))) refl is)
  where
    whole : lexeme.Equals ∷ ts ≡ lexeme.Equals ∷ lexeme.Word w ∷ []
    whole = ap (λ (us : List Lexeme). lexeme.Equals ∷ us) (alone (lexeme.Word w) refl)

    int_said : (j : Judged ℤ) → i32_at (Some (lexeme.Word w)) ≡ j → int_constant descriptor j ≡ Ok c → SpellsValue descriptor (lexeme.Equals ∷ ts) (Some c)
    int_said (Ok n) f is =
        choose (is_int_type descriptor) (Ok (constant.Integer n)) (Err flaw.Operand) (Ok c) is
        (λ int same. subst (λ (d : FieldConstant). SpellsValue descriptor (lexeme.Equals ∷ ts) (Some d)) (same_ok (constant.Integer n) c same)
        (w, whole, int_type_said descriptor int, word_number 31 w n (number_place_said (neg_ℤ (pos (2 ^ 31))) (pos (2 ^ 31 - 1)) (Some (lexeme.Word w)) n f)))
        (λ none same. absurd cc)
    int_said (Err g) f is = absurd cc
constant_said descriptor (Some (lexeme.Text t)) c ts e alone =
    choose (is_string_type descriptor) (Ok (constant.String t)) (Err flaw.Operand) (Ok c) e
    (λ string same. subst (λ (d : FieldConstant). SpellsValue descriptor (lexeme.Equals ∷ ts) (Some d)) (same_ok (constant.String t) c same)
    (ap (λ (us : List Lexeme). lexeme.Equals ∷ us) (alone (lexeme.Text t) refl), text_is descriptor (codes "Ljava/lang/String;") string))
    (λ none same. absurd cc)
constant_said descriptor (Some lexeme.Colon) c ts e alone = absurd cc
constant_said descriptor (Some lexeme.Equals) c ts e alone = absurd cc
constant_said descriptor None c ts e alone = absurd cc

value_said : (descriptor : List ℕ) (o : Option (List Lexeme)) (c : Option FieldConstant) → constant_in descriptor o ≡ Ok c → SpellsValue descriptor (tail_tokens o) c
value_said descriptor None c e = subst (SpellsValue descriptor []) (same_ok None c e) refl
value_said descriptor (Some ts) c e =
    said_gives (SpellsValue descriptor (lexeme.Equals ∷ ts)) (λ (d : FieldConstant). Some d) _ c e (λ d is.
    let all = unless_is (constant_at descriptor (slice_get ts 0)) (exactly 1 ts) d is in
    constant_said descriptor (slice_get ts 0) d ts all.0 (λ t at. one_is ts t all.1 at))

field_said : (ts : List Lexeme) (s : Statement) → field_line ts ≡ Ok s → Spells (behind (codes ".field") ts) s
unfolding field_line Spells
field_said ts s e =
    let head = field_head ts in
    said_gives (Spells (behind (codes ".field") ts)) (λ (p : List ℕ × (List ℕ × Option FieldConstant)). statement.Field (record { access = flags_in field_words (field_access head); name = p.0; descriptor = p.1.0; constant = p.1.1 })) _ s e (λ p is.
    let all = unless_is _ (access_words field_words (field_access head)) p is in
    let two = both_are (name_at (field_name_at head)) (both (field_descriptor_at (last_of head)) (constant_in (word_or_none (last_of head)) (field_tail ts))) p all.0 in
    let rest = both_are (field_descriptor_at (last_of head)) (constant_in (word_or_none (last_of head)) (field_tail ts)) p.1 two.1 in
    let name = place_said is_name flaw.Name (field_name_at head) p.0 two.0 in
    let place = name_place head (lexeme.Word p.0) name.0 in
    let descriptor = place_said (λ (v : List ℕ). is_some (field_type_of v)) flaw.Descriptor (last_of head) p.1.0 rest.0 in
    let word : word_or_none (last_of head) ≡ p.1.0 = ap word_or_none descriptor.0 in
    let value = value_said p.1.0 (field_tail ts) p.1.1 (subst (λ (v : List ℕ). constant_in v (field_tail ts) ≡ Ok p.1.1) word rest.1) in
    let shape : head ≡ field_access head ++ lexeme.Word p.0 ∷ lexeme.Word p.1.0 ∷ [] = whole_by_two head (lexeme.Word p.0) (lexeme.Word p.1.0) place.many place.at descriptor.0 in
    let all_tokens : ts ≡ field_access head ++ lexeme.Word p.0 ∷ lexeme.Word p.1.0 ∷ tail_tokens (field_tail ts) =
    head_and_tail ts ∙ ap (λ (us : List Lexeme). us ++ tail_tokens (field_tail ts)) shape ∙ append_assoc (field_access head) (lexeme.Word p.0 ∷ lexeme.Word p.1.0 ∷ []) (tail_tokens (field_tail ts)) in
    (field_access head, tail_tokens (field_tail ts), ap (λ (us : List Lexeme). lexeme.Word (codes ".field") ∷ us) all_tokens, field_words_said (field_access head) tt all.1, name.1, descriptor.1, value))

-- ---- Methods

permitted_said : (sort : ClassSort) (access : ℕ) (name : List ℕ) → IsTrue (is_permitted sort access name) → IsPermitted sort access name
permitted_said sort.Class access name e = tt
permitted_said sort.Interface access name e = e

-- The name and the descriptor that the word of a method spells.
record IsHead (sort : ClassSort) (access : ℕ) (w : List ℕ) (p : List ℕ × List ℕ) : Type 0 where
  pub whole : p.0 ++ p.1 ≡ w
  pub named : IsTrue (is_method_name p.0)
  pub none : HasNoParenthesis p.0
  pub described : IsTrue (is_method_descriptor_for (is_static access || is_initializer_name p.0) p.1)
  pub permitted : IsPermitted sort access p.0

head_said : (sort : ClassSort) (access : ℕ) (w : List ℕ) (p : List ℕ × List ℕ) → method_head_at sort access (Ok w) ≡ Ok p → IsHead sort access w p
head_said sort access w p e =
    let n = before_descriptor w in
    let all = unless_is _ (judge_test (is_permitted sort access (before_descriptor w)) flaw.Flags) p e in
    let two = both_are _ _ p all.0 in
    let name = tested_is is_method_name flaw.Name (Ok (before_descriptor w)) p.0 two.0 in
    let front = same_ok (before_descriptor w) p.0 name.0 in
    let described = tested_is (is_method_descriptor_for (is_static access || is_initializer_name (before_descriptor w))) flaw.Descriptor (Ok (descriptor_of w)) p.1 two.1 in
    let back = same_ok (descriptor_of w) p.1 described.0 in
    let permitted = asked_is (is_permitted sort access (before_descriptor w)) flaw.Flags tt all.1 in
    record {
      whole = joined (before_descriptor w) (descriptor_of w) p.0 p.1 front back ∙ whole_word w;
      named = name.1;
      none = subst HasNoParenthesis front (none_before w);
      described = subst (λ (m : List ℕ). IsTrue (is_method_descriptor_for (is_static access || is_initializer_name m) p.1)) front described.1;
      permitted = permitted_said sort access p.0 (subst (λ (m : List ℕ). IsTrue (is_permitted sort access m)) front permitted);
    }
  where
    joined : (a b c d : List ℕ) → a ≡ c → b ≡ d → c ++ d ≡ a ++ b
    joined a b c d e f = cc

-- The operand of a method is a word that spells its name and descriptor.
record IsHeadPlace (sort : ClassSort) (access : ℕ) (o : Option Lexeme) (p : List ℕ × List ℕ) : Type 0 where
  pub w : List ℕ
  pub word : o ≡ Some (lexeme.Word w)
  pub head : IsHead sort access w p

head_place : (sort : ClassSort) (access : ℕ) (o : Option Lexeme) (p : List ℕ × List ℕ) → method_head_at sort access (word_at o) ≡ Ok p → IsHeadPlace sort access o p
head_place sort access (Some (lexeme.Word w)) p e = record { w = w; word = refl; head = head_said sort access w p e }
head_place sort access (Some (lexeme.Text w)) p e = absurd cc
head_place sort access (Some lexeme.Colon) p e = absurd cc
head_place sort access (Some lexeme.Equals) p e = absurd cc
head_place sort access None p e = absurd cc

-- Tokens spell a statement, and it suits its place.
abbrev pub IsSaid : ClassSort → OpenSwitch → List Lexeme → Statement → Type 0
IsSaid sort switch ts s = Spells ts s × Suits sort switch s

method_said : (sort : ClassSort) (switch : OpenSwitch) (ts : List Lexeme) (s : Statement) → method_line sort ts ≡ Ok s → IsSaid sort switch (behind (codes ".method") ts) s
unfolding method_line Spells Suits
method_said sort switch ts s e =
    let access = flags_in method_words (but_last ts) in
    said_gives (IsSaid sort switch (behind (codes ".method") ts)) (λ (p : List ℕ × List ℕ). statement.Method access p.0 p.1) _ s e (λ p is.
    let all = unless_is (method_head_at sort access (word_at (last_of ts))) (access_words method_words (but_last ts)) p is in
    let h = head_place sort access (last_of ts) p all.0 in
    let shape : ts ≡ but_last ts ++ lexeme.Word (p.0 ++ p.1) ∷ [] = whole_by_last ts (lexeme.Word h.w) h.word ∙ ap (λ (v : List ℕ). but_last ts ++ lexeme.Word v ∷ []) (sym h.head.whole) in
    ((but_last ts, ap (λ (us : List Lexeme). lexeme.Word (codes ".method") ∷ us) shape, method_words_said (but_last ts) tt all.1, h.head.named, h.head.none, h.head.described), h.head.permitted))

end_said : (ts : List Lexeme) (s : Statement) → end_line ts ≡ Ok s → Spells (behind (codes ".end") ts) s
unfolding end_line Spells
end_said ts s e =
    said_gives (Spells (behind (codes ".end") ts)) (λ (u : Unit {0} × Unit {0}). statement.EndMethod) _ s e (λ u is.
    let two = both_are (keyword_at (codes "method") (slice_get ts 0)) (exactly 1 ts) u is in
    named_one (codes ".end") ts (lexeme.Word (codes "method")) two.1 (keyword_said (codes "method") (slice_get ts 0) u.0 two.0))

-- Returns the word of a limit.
abbrev limit_word : Bool → List ℕ
limit_word true = codes "stack"
limit_word false = codes "locals"

limit_by : (w : List ℕ) (stack : Bool) → same_text (codes "stack") w ≡ stack → IsTrue (stack || same_text (codes "locals") w) → w ≡ limit_word stack
limit_by w true is e = sym (text_is (codes "stack") w is)
limit_by w false is e = sym (text_is (codes "locals") w e)

limit_place : (o : Option Lexeme) (stack : Bool) → limit_at o ≡ Ok stack → o ≡ Some (lexeme.Word (limit_word stack))
limit_place o stack e =
    said_gives (λ (b : Bool). o ≡ Some (lexeme.Word (limit_word b))) (λ (w : List ℕ). same_text (codes "stack") w) (word_if (λ w. same_text (codes "stack") w || same_text (codes "locals") w) flaw.Operand (word_at o)) stack e (λ w is.
    let both = place_said (λ v. same_text (codes "stack") v || same_text (codes "locals") v) flaw.Operand o w is in
    both.0 ∙ ap (λ (v : List ℕ). Some (lexeme.Word v)) (limit_by w (same_text (codes "stack") w) refl both.1))

limit_spelled : (ts : List Lexeme) (stack : Bool) (n : ℕ) → SpellsLimit (limit_word stack) (behind (codes ".limit") ts) n → Spells (behind (codes ".limit") ts) (cond stack (statement.MaxStack n) (statement.MaxLocals n))
unfolding Spells
limit_spelled ts true n is = is
limit_spelled ts false n is = is

limit_said : (ts : List Lexeme) (s : Statement) → limit_line ts ≡ Ok s → Spells (behind (codes ".limit") ts) s
unfolding limit_line
limit_said ts s e =
    said_gives (Spells (behind (codes ".limit") ts)) (λ (p : Bool × ℕ). cond p.0 (statement.MaxStack p.1) (statement.MaxLocals p.1)) _ s e (λ p is.
    let all = unless_is _ (exactly 2 ts) p is in
    let two = both_are (limit_at (slice_get ts 0)) (u16_at (slice_get ts 1)) p all.0 in
    let n = u16_said (slice_get ts 1) p.1 two.1 in
    let shape : ts ≡ lexeme.Word (limit_word p.0) ∷ lexeme.Word n.w ∷ [] = these ts (lexeme.Word (limit_word p.0) ∷ lexeme.Word n.w ∷ []) (exactly_said 2 ts tt all.1) (limit_place (slice_get ts 0) p.0 two.0, (n.word, tt)) in
    limit_spelled ts p.0 p.1 (n.w, ap (λ (us : List Lexeme). lexeme.Word (codes ".limit") ∷ us) shape, n.spelled))

catch_said : (ts : List Lexeme) (s : Statement) → catch_line ts ≡ Ok s → Spells (behind (codes ".catch") ts) s
unfolding catch_line Spells
catch_said ts s e =
    said_gives (Spells (behind (codes ".catch") ts)) (λ (p : Caught × (List ℕ × (List ℕ × List ℕ))). statement.Catch (record { caught = p.0; from = p.1.0; to = p.1.1.0; using = p.1.1.1 })) _ s e (λ p is.
    let all = unless_is _ (exactly 7 ts) p is in
    let first = both_are (caught_at (slice_get ts 0)) (both (label_after (codes "from") ts 1) (both (label_after (codes "to") ts 3) (label_after (codes "using") ts 5))) p all.0 in
    let second = both_are (label_after (codes "from") ts 1) (both (label_after (codes "to") ts 3) (label_after (codes "using") ts 5)) p.1 first.1 in
    let third = both_are (label_after (codes "to") ts 3) (label_after (codes "using") ts 5) p.1.1 second.1 in
    let c = caught_said (slice_get ts 0) p.0 first.0 in
    let from = behind_said (codes "from") ts 1 p.1.0 second.0 in
    let to = behind_said (codes "to") ts 3 p.1.1.0 third.0 in
    let using = behind_said (codes "using") ts 5 p.1.1.1 third.1 in
    let shape = these ts (lexeme.Word c.w ∷ lexeme.Word (codes "from") ∷ lexeme.Word p.1.0 ∷ lexeme.Word (codes "to") ∷ lexeme.Word p.1.1.0 ∷ lexeme.Word (codes "using") ∷ lexeme.Word p.1.1.1 ∷ []) (exactly_said 7 ts tt all.1)
    (c.word, (from.keyword, (from.word, (to.keyword, (to.word, (using.keyword, (using.word, tt))))))) in
    (c.w, ap (λ (us : List Lexeme). lexeme.Word (codes ".catch") ∷ us) shape, c.spelled, from.is, to.is, using.is))

throws_said : (ts : List Lexeme) (s : Statement) → throws_line ts ≡ Ok s → Spells (behind (codes ".throws") ts) s
unfolding throws_line Spells
throws_said ts s e =
    said_gives (Spells (behind (codes ".throws") ts)) (λ (name : List ℕ). statement.Throws name) _ s e (λ name is.
    let all = unless_is (class_at (slice_get ts 0)) (exactly 1 ts) name is in
    let n = place_said is_class_entry_name flaw.Name (slice_get ts 0) name all.0 in
    (named_one (codes ".throws") ts (lexeme.Word name) all.1 n.0, n.1))

line_said : (ts : List Lexeme) (s : Statement) → line_line ts ≡ Ok s → Spells (behind (codes ".line") ts) s
unfolding line_line Spells
line_said ts s e =
    said_gives (Spells (behind (codes ".line") ts)) (λ (p : ℕ × Unit {0}). statement.Dropped) _ s e (λ p is.
    let two = both_are (u16_at (slice_get ts 0)) (exactly 1 ts) p is in
    let n = u16_said (slice_get ts 0) p.0 two.0 in
    inl (n.w, p.0, named_one (codes ".line") ts (lexeme.Word n.w) two.1 n.word, n.spelled))

var_said : (ts : List Lexeme) (s : Statement) → var_line ts ≡ Ok s → Spells (behind (codes ".var") ts) s
unfolding var_line Spells
var_said ts s e =
    said_gives (Spells (behind (codes ".var") ts)) (λ (p : (ℕ × Unit {0}) × ((List ℕ × List ℕ) × (List ℕ × List ℕ))). statement.Dropped) _ s e (λ p is.
    let all = unless_is _ (exactly 8 ts) p is in
    let first = both_are (both (u16_at (slice_get ts 0)) (keyword_at (codes "is") (slice_get ts 1))) (both (both (name_at (slice_get ts 2)) (field_descriptor_at (slice_get ts 3))) (both (label_after (codes "from") ts 4) (label_after (codes "to") ts 6))) p all.0 in
    let number = both_are (u16_at (slice_get ts 0)) (keyword_at (codes "is") (slice_get ts 1)) p.0 first.0 in
    let rest = both_are (both (name_at (slice_get ts 2)) (field_descriptor_at (slice_get ts 3))) (both (label_after (codes "from") ts 4) (label_after (codes "to") ts 6)) p.1 first.1 in
    let field = both_are (name_at (slice_get ts 2)) (field_descriptor_at (slice_get ts 3)) p.1.0 rest.0 in
    let labels = both_are (label_after (codes "from") ts 4) (label_after (codes "to") ts 6) p.1.1 rest.1 in
    let n = u16_said (slice_get ts 0) p.0.0 number.0 in
    let name = place_said is_name flaw.Name (slice_get ts 2) p.1.0.0 field.0 in
    let descriptor = place_said (λ (v : List ℕ). is_some (field_type_of v)) flaw.Descriptor (slice_get ts 3) p.1.0.1 field.1 in
    let from = behind_said (codes "from") ts 4 p.1.1.0 labels.0 in
    let to = behind_said (codes "to") ts 6 p.1.1.1 labels.1 in
    let shape = these ts (lexeme.Word n.w ∷ lexeme.Word (codes "is") ∷ lexeme.Word p.1.0.0 ∷ lexeme.Word p.1.0.1 ∷ lexeme.Word (codes "from") ∷ lexeme.Word p.1.1.0 ∷ lexeme.Word (codes "to") ∷ lexeme.Word p.1.1.1 ∷ []) (exactly_said 8 ts tt all.1)
    (n.word, (keyword_said (codes "is") (slice_get ts 1) p.0.1 number.1, (name.0, (descriptor.0, (from.keyword, (from.word, (to.keyword, (to.word, tt)))))))) in
    inr (n.w, p.1.0.0, p.1.0.1, p.1.1.0, p.1.1.1, p.0.0, ap (λ (us : List Lexeme). lexeme.Word (codes ".var") ∷ us) shape, n.spelled, name.1, descriptor.1, from.is, to.is))

-- ---- All directives

-- A statement suits all classes and open switches. Those of all directives but `.method` do.
abbrev IsFree : Statement → Type 0
IsFree s = (sort : ClassSort) (switch : OpenSwitch) → Suits sort switch s

free_of : {A : Type 0} (make : A → Statement) (j : Judged A) (s : Statement) → map_ok make j ≡ Ok s → ((x : A) → IsFree (make x)) → IsFree s
free_of make j s e each = said_gives IsFree make j s e (λ x is. each x)

limit_free : (stack : Bool) (n : ℕ) → IsFree (cond stack (statement.MaxStack n) (statement.MaxLocals n))
unfolding Suits
limit_free true n sort switch = tt
limit_free false n sort switch = tt

pub directive_said : (d : Directive) (sort : ClassSort) (switch : OpenSwitch) (ts : List Lexeme) (s : Statement) → directive_line d sort ts ≡ Ok s → IsSaid sort switch (behind (directive_word d) ts) s
unfolding Suits bytecode_line source_line class_line super_line implements_line field_line end_line limit_line catch_line throws_line line_line var_line
directive_said directive.Bytecode sort switch ts s e = (bytecode_said ts s e, free_of _ _ s e (λ x c d. tt) sort switch)
directive_said directive.Source sort switch ts s e = (source_said ts s e, free_of _ _ s e (λ x c d. tt) sort switch)
directive_said directive.Class sort switch ts s e = (class_said ts s e, free_of _ _ s e (λ x c d. tt) sort switch)
directive_said directive.Interface sort switch ts s e = (interface_said ts s e, free_of _ _ s e (λ x c d. tt) sort switch)
directive_said directive.Super sort switch ts s e = (super_said ts s e, free_of _ _ s e (λ x c d. tt) sort switch)
directive_said directive.Implements sort switch ts s e = (implements_said ts s e, free_of _ _ s e (λ x c d. tt) sort switch)
directive_said directive.Field sort switch ts s e = (field_said ts s e, free_of _ _ s e (λ x c d. tt) sort switch)
directive_said directive.Method sort switch ts s e = method_said sort switch ts s e
directive_said directive.End sort switch ts s e = (end_said ts s e, free_of _ _ s e (λ x c d. tt) sort switch)
directive_said directive.Limit sort switch ts s e = (limit_said ts s e, free_of (λ (p : Bool × ℕ). cond p.0 (statement.MaxStack p.1) (statement.MaxLocals p.1)) _ s e (λ p. limit_free p.0 p.1) sort switch)
directive_said directive.Catch sort switch ts s e = (catch_said ts s e, free_of _ _ s e (λ x c d. tt) sort switch)
directive_said directive.Throws sort switch ts s e = (throws_said ts s e, free_of _ _ s e (λ x c d. tt) sort switch)
directive_said directive.Line sort switch ts s e = (line_said ts s e, free_of _ _ s e (λ x c d. tt) sort switch)
directive_said directive.Var sort switch ts s e = (var_said ts s e, free_of _ _ s e (λ x c d. tt) sort switch)
