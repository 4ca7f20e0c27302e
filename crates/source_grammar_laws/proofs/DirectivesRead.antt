-- Proves that tokens that spell a directive's statement are read as this statement.
use Rattle.std.proofs.Common.{◌≡◌, inl, inr, ℕ, ◌-◌, ◌^◌, ◌||◌, Bool, true, false, List, [], ◌∷◌, ◌++◌, length, Option, Some, None, Ok, IsTrue, refl, sym, ap, subst, ◌∙◌, codes, bit_or}
use Rattle.std.specs.Prelude.{is_some, pos, neg_ℤ}
use Rattle.std.proofs.lemmas.Bool.{le-leb}
use Rattle.jvms_file.specs.Names.{is_name, is_class_name, is_method_name, is_initializer_name}
use Rattle.jvms_file.specs.Descriptors.{field_type_of, is_class_entry_name}
use Rattle.jvms_file.specs.Members.{is_static, is_method_descriptor_for}
use Rattle.jasmin.specs.declared.token.Lexeme.{Lexeme}
use Rattle.jasmin.specs.declared.token.Lexeme.TheVariants as lexeme
use Rattle.jasmin.specs.declared.source.FieldConstant.{FieldConstant}
use Rattle.jasmin.specs.declared.source.FieldConstant.TheVariants as constant
use Rattle.jasmin.specs.declared.statement.Directive.{Directive}
use Rattle.jasmin.specs.declared.statement.Directive.TheVariants as directive
use Rattle.jasmin.specs.declared.source.CatchLine.{CatchLine}
use Rattle.jasmin.specs.declared.source.FieldLine.{FieldLine}
use Rattle.jasmin.specs.declared.statement.LineKind.{LineKind}
use Rattle.jasmin.specs.declared.statement.LineKind.TheVariants as kind
use Rattle.jasmin.specs.declared.statement.OpenSwitch.{OpenSwitch}
use Rattle.jasmin.specs.declared.statement.ClassSort.{ClassSort}
use Rattle.jasmin.specs.declared.statement.ClassSort.TheVariants as sort
use Rattle.jasmin.specs.declared.statement.Statement.{Statement}
use Rattle.jasmin.specs.declared.statement.Statement.TheVariants as statement
use Rattle.jasmin.specs.LineKinds.{kind_of}
use Rattle.jasmin.specs.Operands.{Access, class_words, field_words, method_words}
use Rattle.jasmin.specs.Statements.{bytecode_line, source_line, class_line, super_line, implements_line, field_head, field_tail, is_long, is_string_type, is_int_type, constant_in, field_name_at, field_line, is_permitted, method_head_at, method_line, end_line, limit_line, catch_line, throws_line, line_line, var_line, directive_line, statement_of}
use Rattle.source_grammar_laws.specs.Words.{HasNoParenthesis, SpellsFlags, SpellsAccess}
use Rattle.source_grammar_laws.specs.Directives.{IsIntType, SpellsValue, SpellsLimit}
use Rattle.source_grammar_laws.specs.Lines.{IsPermitted}
use Rattle.source_grammar_laws.proofs.Labels.{is_label_reads}
use Rattle.source_grammar_laws.proofs.Cuts.{but_last_is, last_is, but_two_is, last_but_one_is, last_of_two_is, at_least_two}
use Rattle.source_grammar_laws.proofs.Members.{descriptor_begins, cut_word}
use Rattle.source_grammar_laws.proofs.Places.{text_is, number_place_says, u16_says, version_says, caught_says}
use Rattle.source_grammar_laws.proofs.AccessWords.{class_words_say, field_words_say, method_words_say}
use Rattle.source_grammar_laws.proofs.DirectivesSaid.{directive_word}
use Rattle.source_grammar_laws.specs.Directives.{SpellsBytecode, SpellsSourceFile, SpellsClass, SpellsField, SpellsMethod, SpellsCatch, SpellsLineNumber, SpellsVariable}

-- A line is read as this statement.
pub record IsLine (sort : ClassSort) (switch : OpenSwitch) (ts : List Lexeme) (s : Statement) : Type 0 where
  pub sort_of_line : LineKind
  pub known : kind_of switch ts ≡ Ok sort_of_line
  pub says : statement_of sort switch sort_of_line ts ≡ Ok s

name_known : (d : Directive) (switch : OpenSwitch) (ts : List Lexeme) → kind_of switch (lexeme.Word (directive_word d) ∷ ts) ≡ Ok (kind.Directive d)
unfolding kind_of
name_known directive.Bytecode switch ts = refl
name_known directive.Source switch ts = refl
name_known directive.Class switch ts = refl
name_known directive.Interface switch ts = refl
name_known directive.Super switch ts = refl
name_known directive.Implements switch ts = refl
name_known directive.Field switch ts = refl
name_known directive.Method switch ts = refl
name_known directive.End switch ts = refl
name_known directive.Limit switch ts = refl
name_known directive.Catch switch ts = refl
name_known directive.Throws switch ts = refl
name_known directive.Line switch ts = refl
name_known directive.Var switch ts = refl

-- A directive's line is read by the tokens after its name.
directive_reads : (d : Directive) (sort : ClassSort) (switch : OpenSwitch) (ts us : List Lexeme) (s : Statement) → ts ≡ lexeme.Word (directive_word d) ∷ us → directive_line d sort us ≡ Ok s → IsLine sort switch ts s
unfolding statement_of
directive_reads d sort switch ts us s whole e =
    subst (λ (vs : List Lexeme). IsLine sort switch vs s) (sym whole) (record { sort_of_line = kind.Directive d; known = name_known d switch us; says = e })

-- ---- Outside of methods

pub bytecode_read : (sort : ClassSort) (switch : OpenSwitch) (ts : List Lexeme) → SpellsBytecode ts → IsLine sort switch ts statement.Bytecode
unfolding bytecode_line
bytecode_read sort switch ts (w, whole, is) =
    directive_reads directive.Bytecode sort switch ts (lexeme.Word w ∷ []) statement.Bytecode whole (rw (version_says w is) refl)

pub source_read : (sort : ClassSort) (switch : OpenSwitch) (ts : List Lexeme) → SpellsSourceFile ts → IsLine sort switch ts statement.SourceFile
unfolding source_line
source_read sort switch ts (w, inl whole) = directive_reads directive.Source sort switch ts (lexeme.Word w ∷ []) statement.SourceFile whole refl
source_read sort switch ts (w, inr whole) = directive_reads directive.Source sort switch ts (lexeme.Text w ∷ []) statement.SourceFile whole refl

class_reads : (added : ℕ) (words : List Lexeme) (flags : ℕ) (name : List ℕ) → SpellsAccess class_words words flags → IsTrue (is_class_name name) → class_line added (words ++ lexeme.Word name ∷ []) ≡ Ok (statement.Class (bit_or flags added) name)
unfolding class_line
class_reads added words flags name access is =
    let read = class_words_say words flags access in
    rw (last_is words (lexeme.Word name), but_last_is words (lexeme.Word name), is, read.faultless, read.value) refl

pub class_read : (sort : ClassSort) (switch : OpenSwitch) (ts : List Lexeme) (access : ℕ) (name : List ℕ) → SpellsClass ts access name → IsLine sort switch ts (statement.Class access name)
class_read sort switch ts access name (words, flags, spelled, is, inl (whole, value)) =
    directive_reads directive.Class sort switch ts (words ++ lexeme.Word name ∷ []) (statement.Class access name) whole (class_reads 32 words flags name spelled is ∙ ap (λ (n : ℕ). Ok (statement.Class n name)) (sym value))
class_read sort switch ts access name (words, flags, spelled, is, inr (whole, value)) =
    directive_reads directive.Interface sort switch ts (words ++ lexeme.Word name ∷ []) (statement.Class access name) whole (class_reads 1536 words flags name spelled is ∙ ap (λ (n : ℕ). Ok (statement.Class n name)) (sym value))

pub super_read : (sort : ClassSort) (switch : OpenSwitch) (ts : List Lexeme) (name : List ℕ) → ts ≡ lexeme.Word (codes ".super") ∷ lexeme.Word name ∷ [] → IsTrue (is_class_name name) → IsLine sort switch ts (statement.Superclass name)
unfolding super_line
super_read sort switch ts name whole is = directive_reads directive.Super sort switch ts (lexeme.Word name ∷ []) (statement.Superclass name) whole (rw is refl)

pub implements_read : (sort : ClassSort) (switch : OpenSwitch) (ts : List Lexeme) (name : List ℕ) → ts ≡ lexeme.Word (codes ".implements") ∷ lexeme.Word name ∷ [] → IsTrue (is_class_name name) → IsLine sort switch ts (statement.Implements name)
unfolding implements_line
implements_read sort switch ts name whole is = directive_reads directive.Implements sort switch ts (lexeme.Word name ∷ []) (statement.Implements name) whole (rw is refl)

-- ---- Fields

-- No access word is an equals sign.
head_past : (table : Access) (before : ℕ) (words : List Lexeme) (flags : ℕ) (rest : List Lexeme) → SpellsFlags table before words flags → field_head (words ++ rest) ≡ words ++ field_head rest
head_past table before [] flags rest is = refl
head_past table before (t ∷ ts) flags rest (w, flag, e, known, new, others) =
    rw (e, head_past table (bit_or before flag) ts flags rest others) refl

tail_past : (table : Access) (before : ℕ) (words : List Lexeme) (flags : ℕ) (rest : List Lexeme) → SpellsFlags table before words flags → field_tail (words ++ rest) ≡ field_tail rest
tail_past table before [] flags rest is = refl
tail_past table before (t ∷ ts) flags rest (w, flag, e, known, new, others) =
    rw e (tail_past table (bit_or before flag) ts flags rest others)

int_type_reads : (d : List ℕ) → IsIntType d → is_int_type d ≡ true
int_type_reads d (inl e) = rw e refl
int_type_reads d (inr (inl e)) = rw e refl
int_type_reads d (inr (inr (inl e))) = rw e refl
int_type_reads d (inr (inr (inr (inl e)))) = rw e refl
int_type_reads d (inr (inr (inr (inr e)))) = rw e refl

long_reads : (d : List ℕ) → d ≡ codes "J" → is_long d ≡ true
long_reads d e = rw e refl

string_reads : (d : List ℕ) → d ≡ codes "Ljava/lang/String;" → is_string_type d ≡ true
string_reads d e = rw e refl

no_long : (d : List ℕ) → IsTrue (is_int_type d) → is_long d ≡ false
no_long d e = by (is_long d) refl
  where
    by : (b : Bool) → is_long d ≡ b → is_long d ≡ false
    by true is = let bad : IsTrue (is_int_type (codes "J")) = subst (λ (v : List ℕ). IsTrue (is_int_type v)) (text_is d (codes "J") is) e in absurd cc
    by false is = is

-- Tokens are read as a constant, and no token of the field's head is among them.
record IsValue (descriptor : List ℕ) (value : List Lexeme) (c : Option FieldConstant) : Type 0 where
  pub none_before : field_head value ≡ []
  pub read : constant_in descriptor (field_tail value) ≡ Ok c

value_reads : (descriptor : List ℕ) (value : List Lexeme) (c : Option FieldConstant) → SpellsValue descriptor value c → IsValue descriptor value c
value_reads descriptor value None e = subst (λ (vs : List Lexeme). IsValue descriptor vs None) (sym e) (record { none_before = refl; read = refl })
value_reads descriptor value (Some (constant.Integer n)) (w, e, int, is) =
    let number = number_place_says (neg_ℤ (pos (2 ^ 31))) (pos (2 ^ 31 - 1)) w n is.0 is.1 in
    subst (λ (vs : List Lexeme). IsValue descriptor vs (Some (constant.Integer n))) (sym e) (record { none_before = refl; read = rw (no_long descriptor (int_type_reads descriptor int), number, int_type_reads descriptor int) refl })
value_reads descriptor value (Some (constant.Long n)) (w, e, long, is) =
    let number = number_place_says (neg_ℤ (pos (2 ^ 63))) (pos (2 ^ 63 - 1)) w n is.0 is.1 in
    subst (λ (vs : List Lexeme). IsValue descriptor vs (Some (constant.Long n))) (sym e) (record { none_before = refl; read = rw (long_reads descriptor long, number) refl })
value_reads descriptor value (Some (constant.String text)) (e, string) =
    subst (λ (vs : List Lexeme). IsValue descriptor vs (Some (constant.String text))) (sym e) (record { none_before = refl; read = rw (string_reads descriptor string) refl })

name_place_reads : (words : List Lexeme) (t u : Lexeme) → field_name_at (words ++ t ∷ u ∷ []) ≡ Some t
name_place_reads words t u = rw (le-leb 2 (length (words ++ t ∷ u ∷ [])) (at_least_two words t u)) (last_but_one_is words t u)

-- The tokens of a field are split into its head and its constant.
record IsSplit (words : List Lexeme) (name descriptor : List ℕ) (value ts : List Lexeme) : Type 0 where
  pub head : field_head ts ≡ words ++ lexeme.Word name ∷ lexeme.Word descriptor ∷ []
  pub tail : field_tail ts ≡ field_tail value

field_reads : (f : FieldLine) (words value ts : List Lexeme) → IsSplit words f.name f.descriptor value ts → SpellsAccess field_words words f.access → IsTrue (is_name f.name) → IsTrue (is_some (field_type_of f.descriptor)) → IsValue f.descriptor value f.constant → field_line ts ≡ Ok (statement.Field f)
unfolding field_line
field_reads f words value ts split access named described v =
    let read = field_words_say words f.access access in
    let n = lexeme.Word f.name in
    let d = lexeme.Word f.descriptor in
    rw (split.head, split.tail, name_place_reads words (lexeme.Word f.name) (lexeme.Word f.descriptor), last_of_two_is words (lexeme.Word f.name) (lexeme.Word f.descriptor), but_two_is words (lexeme.Word f.name) (lexeme.Word f.descriptor), named, described, v.read, read.faultless, read.value) refl

pub field_read : (sort : ClassSort) (switch : OpenSwitch) (ts : List Lexeme) (f : FieldLine) → SpellsField ts f → IsLine sort switch ts (statement.Field f)
field_read sort switch ts f (words, value, whole, access, named, described, is) =
    let v = value_reads f.descriptor value f.constant is in
    let rest = lexeme.Word f.name ∷ lexeme.Word f.descriptor ∷ value in
    let split : IsSplit words f.name f.descriptor value (words ++ lexeme.Word f.name ∷ lexeme.Word f.descriptor ∷ value) = record {
      head = head_past field_words 0 words f.access (lexeme.Word f.name ∷ lexeme.Word f.descriptor ∷ value) access ∙ ap (λ (vs : List Lexeme). words ++ lexeme.Word f.name ∷ lexeme.Word f.descriptor ∷ vs) v.none_before;
      tail = tail_past field_words 0 words f.access (lexeme.Word f.name ∷ lexeme.Word f.descriptor ∷ value) access;
    } in
    directive_reads directive.Field sort switch ts (words ++ lexeme.Word f.name ∷ lexeme.Word f.descriptor ∷ value) (statement.Field f) whole (field_reads f words value (words ++ lexeme.Word f.name ∷ lexeme.Word f.descriptor ∷ value) split access named described v)

-- ---- Methods

permitted_reads : (sort : ClassSort) (access : ℕ) (name : List ℕ) → IsPermitted sort access name → IsTrue (is_permitted sort access name)
permitted_reads sort.Class access name is = refl
permitted_reads sort.Interface access name is = is

head_reads : (sort : ClassSort) (access : ℕ) (name descriptor : List ℕ) → IsTrue (is_method_name name) → HasNoParenthesis name → IsTrue (is_method_descriptor_for (is_static access || is_initializer_name name) descriptor) → IsPermitted sort access name
    → method_head_at sort access (Ok (name ++ descriptor)) ≡ Ok (name, descriptor)
head_reads sort access name descriptor named none described permitted =
    let cut = cut_word name descriptor none (descriptor_begins (is_static access || is_initializer_name name) descriptor described) in
    rw (cut.before, cut.from, named, described, permitted_reads sort access name permitted) refl

method_reads : (sort : ClassSort) (words : List Lexeme) (access : ℕ) (name descriptor : List ℕ) → SpellsAccess method_words words access → method_head_at sort access (Ok (name ++ descriptor)) ≡ Ok (name, descriptor) → method_line sort (words ++ lexeme.Word (name ++ descriptor) ∷ []) ≡ Ok (statement.Method access name descriptor)
unfolding method_line
method_reads sort words access name descriptor spelled head =
    let read = method_words_say words access spelled in
    rw (last_is words (lexeme.Word (name ++ descriptor)), but_last_is words (lexeme.Word (name ++ descriptor)), read.faultless, read.value, head) refl

pub method_read : (sort : ClassSort) (switch : OpenSwitch) (ts : List Lexeme) (access : ℕ) (name descriptor : List ℕ) → SpellsMethod ts access name descriptor → IsPermitted sort access name → IsLine sort switch ts (statement.Method access name descriptor)
method_read sort switch ts access name descriptor (words, whole, spelled, named, none, described) permitted =
    directive_reads directive.Method sort switch ts (words ++ lexeme.Word (name ++ descriptor) ∷ []) (statement.Method access name descriptor) whole
    (method_reads sort words access name descriptor spelled (head_reads sort access name descriptor named none described permitted))

pub end_read : (sort : ClassSort) (switch : OpenSwitch) (ts : List Lexeme) → ts ≡ lexeme.Word (codes ".end") ∷ lexeme.Word (codes "method") ∷ [] → IsLine sort switch ts statement.EndMethod
unfolding end_line
end_read sort switch ts whole = directive_reads directive.End sort switch ts (lexeme.Word (codes "method") ∷ []) statement.EndMethod whole refl

pub stack_read : (sort : ClassSort) (switch : OpenSwitch) (ts : List Lexeme) (n : ℕ) → SpellsLimit (codes "stack") ts n → IsLine sort switch ts (statement.MaxStack n)
unfolding limit_line
stack_read sort switch ts n (w, whole, is) = directive_reads directive.Limit sort switch ts (lexeme.Word (codes "stack") ∷ lexeme.Word w ∷ []) (statement.MaxStack n) whole (rw (u16_says w n is) refl)

pub locals_read : (sort : ClassSort) (switch : OpenSwitch) (ts : List Lexeme) (n : ℕ) → SpellsLimit (codes "locals") ts n → IsLine sort switch ts (statement.MaxLocals n)
unfolding limit_line
locals_read sort switch ts n (w, whole, is) = directive_reads directive.Limit sort switch ts (lexeme.Word (codes "locals") ∷ lexeme.Word w ∷ []) (statement.MaxLocals n) whole (rw (u16_says w n is) refl)

pub catch_read : (sort : ClassSort) (switch : OpenSwitch) (ts : List Lexeme) (c : CatchLine) → SpellsCatch ts c → IsLine sort switch ts (statement.Catch c)
unfolding catch_line
catch_read sort switch ts c (w, whole, is, from, to, using) =
    directive_reads directive.Catch sort switch ts (lexeme.Word w ∷ lexeme.Word (codes "from") ∷ lexeme.Word c.from ∷ lexeme.Word (codes "to") ∷ lexeme.Word c.to ∷ lexeme.Word (codes "using") ∷ lexeme.Word c.using ∷ []) (statement.Catch c) whole
    (rw (caught_says w c.caught is, is_label_reads c.from from, is_label_reads c.to to, is_label_reads c.using using) refl)

pub throws_read : (sort : ClassSort) (switch : OpenSwitch) (ts : List Lexeme) (name : List ℕ) → ts ≡ lexeme.Word (codes ".throws") ∷ lexeme.Word name ∷ [] → IsTrue (is_class_entry_name name) → IsLine sort switch ts (statement.Throws name)
unfolding throws_line
throws_read sort switch ts name whole is = directive_reads directive.Throws sort switch ts (lexeme.Word name ∷ []) (statement.Throws name) whole (rw is refl)

pub line_read : (sort : ClassSort) (switch : OpenSwitch) (ts : List Lexeme) → SpellsLineNumber ts → IsLine sort switch ts statement.Dropped
unfolding line_line
line_read sort switch ts (w, n, whole, is) = directive_reads directive.Line sort switch ts (lexeme.Word w ∷ []) statement.Dropped whole (rw (u16_says w n is) refl)

pub var_read : (sort : ClassSort) (switch : OpenSwitch) (ts : List Lexeme) → SpellsVariable ts → IsLine sort switch ts statement.Dropped
unfolding var_line
var_read sort switch ts (w, name, descriptor, from, to, n, whole, is, named, described, first, last) =
    directive_reads directive.Var sort switch ts (lexeme.Word w ∷ lexeme.Word (codes "is") ∷ lexeme.Word name ∷ lexeme.Word descriptor ∷ lexeme.Word (codes "from") ∷ lexeme.Word from ∷ lexeme.Word (codes "to") ∷ lexeme.Word to ∷ []) statement.Dropped whole
    (rw (u16_says w n is, named, described, is_label_reads from first, is_label_reads to last) refl)
