-- Proves that tokens that are read as a statement spell this statement, and that it suits the lines before.
use Rattle.std.proofs.Common.{◌≡◌, inl, inr, ℕ, ◌-◌, ◌^◌, ◌&&◌, Bool, true, false, not, cond, List, [], ◌∷◌, length, Option, Some, None, Ok, Err, IsTrue, ℤ, refl, sym, ap, subst, ◌∙◌, codes}
use Rattle.std.specs.Prelude.{slice_get, pos, neg_ℤ, int_le}
use Rattle.std.proofs.lemmas.Bool.{and_parts}
use Rattle.jvms_file.specs.Names.{begins_with}
use Rattle.jvms_file.specs.Instructions.{is_above}
use Rattle.jasmin.specs.declared.token.Lexeme.{Lexeme}
use Rattle.jasmin.specs.declared.token.Lexeme.TheVariants as lexeme
use Rattle.jasmin.specs.declared.statement.Flaw.TheVariants as flaw
use Rattle.jasmin.specs.declared.statement.Directive.{Directive}
use Rattle.jasmin.specs.declared.statement.LineKind.{LineKind}
use Rattle.jasmin.specs.declared.statement.LineKind.TheVariants as kind
use Rattle.jasmin.specs.declared.statement.OpenSwitch.{OpenSwitch}
use Rattle.jasmin.specs.declared.statement.OpenSwitch.TheVariants as open_switch
use Rattle.jasmin.specs.declared.statement.ClassSort.{ClassSort}
use Rattle.jasmin.specs.declared.statement.Instruction.{Instruction}
use Rattle.jasmin.specs.declared.statement.Statement.{Statement}
use Rattle.jasmin.specs.declared.statement.Statement.TheVariants as statement
use Rattle.jasmin.specs.Judgements.{Judged, judge_test, unless}
use Rattle.jasmin.specs.LineKinds.{directive_named, opcode_named, directive_kind, instruction_kind, code_kind, is_default, is_alone, switch_kind, other_kind, kind_of}
use Rattle.jasmin.specs.Operands.{exactly, label_at, i32_at}
use Rattle.jasmin.specs.Statements.{instruction_line, table_line, colon_at, label_after_colon, rising_at, match_line, default_line, statement_of}
use Rattle.source_form_laws.proofs.Judged.{same_ok, choose, said_gives, both_are, unless_is, asked_is}
use Rattle.source_grammar_laws.specs.Words.{IsLabel}
use Rattle.source_grammar_laws.specs.Lines.{Spells, Suits}
use Rattle.source_grammar_laws.proofs.Labels.{label_said}
use Rattle.source_grammar_laws.proofs.Cuts.{these}
use Rattle.source_grammar_laws.proofs.Places.{text_is, exactly_said, number_place_said}
use Rattle.source_grammar_laws.proofs.Operations.{instruction_said}
use Rattle.source_grammar_laws.proofs.DirectivesSaid.{IsSaid, directive_name_said, directive_said}

-- ---- Lines of a switch

table_said : (sort : ClassSort) (next : ℤ) (ts : List Lexeme) (s : Statement) → table_line next ts ≡ Ok s → IsSaid sort (open_switch.Table next) ts s
unfolding table_line Spells Suits
table_said sort next ts s e =
    said_gives (IsSaid sort (open_switch.Table next) ts) (λ (label : List ℕ). statement.TableLabel label) _ s e (λ label is.
    let outer = unless_is (unless (label_at (slice_get ts 0)) (exactly 1 ts)) (judge_test (int_le next (pos 2147483647)) flaw.Number) label is in
    let all = unless_is (label_at (slice_get ts 0)) (exactly 1 ts) label outer.0 in
    let l = label_said (slice_get ts 0) label all.0 in
    ((these ts (lexeme.Word label ∷ []) (exactly_said 1 ts tt all.1) (l.0, tt), l.1), (next, refl, asked_is (int_le next (pos 2147483647)) flaw.Number tt outer.1)))

colon_said : (o : Option Lexeme) (u : Unit {0}) → colon_at o ≡ Ok u → o ≡ Some lexeme.Colon
colon_said (Some lexeme.Colon) u e = refl
colon_said (Some (lexeme.Word w)) u e = absurd cc
colon_said (Some (lexeme.Text w)) u e = absurd cc
colon_said (Some lexeme.Equals) u e = absurd cc
colon_said None u e = absurd cc

-- A colon and a label are the second and the third of three tokens.
record IsBehindColon (ts : List Lexeme) (label : List ℕ) : Type 0 where
  pub colon : slice_get ts 1 ≡ Some lexeme.Colon
  pub word : slice_get ts 2 ≡ Some (lexeme.Word label)
  pub is : IsLabel label
  pub three : length ts ≡ 3

behind_colon : (ts : List Lexeme) (label : List ℕ) → label_after_colon ts ≡ Ok label → IsBehindColon ts label
behind_colon ts label e =
    let outer = unless_is (unless (label_at (slice_get ts 2)) (colon_at (slice_get ts 1))) (exactly 3 ts) label e in
    let all = unless_is (label_at (slice_get ts 2)) (colon_at (slice_get ts 1)) label outer.0 in
    let l = label_said (slice_get ts 2) label all.0 in
    record { colon = colon_said (slice_get ts 1) tt all.1; word = l.0; is = l.1; three = exactly_said 3 ts tt outer.1 }

-- A line consists of a token, a colon and a label.
three_are : (ts : List Lexeme) (t : Lexeme) (label : List ℕ) → slice_get ts 0 ≡ Some t → IsBehindColon ts label → ts ≡ t ∷ lexeme.Colon ∷ lexeme.Word label ∷ []
three_are ts t label first h = these ts (t ∷ lexeme.Colon ∷ lexeme.Word label ∷ []) h.three (first, (h.colon, (h.word, tt)))

rising_said : (last : Option ℤ) (j : Judged ℤ) (n : ℤ) → rising_at last j ≡ Ok n → (j ≡ Ok n) × IsTrue (is_above last n)
rising_said last (Ok m) n e =
    choose (is_above last m) (Ok m) (Err flaw.Operand) (Ok n) e
    (λ met is. (is, subst (λ (k : ℤ). IsTrue (is_above last k)) (same_ok m n is) met))
    (λ unmet is. absurd cc)
rising_said last (Err f) n e = absurd cc

match_said : (sort : ClassSort) (last : Option ℤ) (ts : List Lexeme) (s : Statement) → match_line last ts ≡ Ok s → IsSaid sort (open_switch.Lookup last) ts s
unfolding match_line Spells Suits
match_said sort last ts s e =
    said_gives (IsSaid sort (open_switch.Lookup last) ts) (λ (p : ℤ × List ℕ). statement.Match (record { value = p.0; label = p.1 })) _ s e (λ p is.
    let two = both_are (rising_at last (i32_at (slice_get ts 0))) (label_after_colon ts) p is in
    let value = rising_said last (i32_at (slice_get ts 0)) p.0 two.0 in
    let n = number_place_said (neg_ℤ (pos (2 ^ 31))) (pos (2 ^ 31 - 1)) (slice_get ts 0) p.0 value.0 in
    let l = behind_colon ts p.1 two.1 in
    ((n.w, three_are ts (lexeme.Word n.w) p.1 n.word l, (n.spelled, n.fits), l.is), (last, refl, value.1)))

-- The first token is the word `default`.
default_first : (ts : List Lexeme) → is_default ts ≡ true → slice_get ts 0 ≡ Some (lexeme.Word (codes "default"))
default_first [] e = absurd cc
default_first (lexeme.Word w ∷ ts) e = ap (λ (v : List ℕ). Some (lexeme.Word v)) (sym (text_is (codes "default") w e))
default_first (lexeme.Text w ∷ ts) e = absurd cc
default_first (lexeme.Colon ∷ ts) e = absurd cc
default_first (lexeme.Equals ∷ ts) e = absurd cc

default_said : (sort : ClassSort) (switch : OpenSwitch) (ts : List Lexeme) (s : Statement) → Suits sort switch (statement.Default []) → is_default ts ≡ true → default_line ts ≡ Ok s → IsSaid sort switch ts s
unfolding default_line Spells Suits
default_said sort switch ts s begun first e =
    said_gives (IsSaid sort switch ts) (λ (label : List ℕ). statement.Default label) (label_after_colon ts) s e (λ label is.
    let l = behind_colon ts label is in
    ((three_are ts (lexeme.Word (codes "default")) label (default_first ts first) l, l.is), begun))

-- A line of this kind has this statement.
abbrev Says : ClassSort → OpenSwitch → List Lexeme → Statement → LineKind → Type 0
Says sort switch ts s k = statement_of sort switch k ts ≡ Ok s

blank_said : (sort : ClassSort) (switch : OpenSwitch) (s : Statement) → Says sort switch [] s kind.Blank → IsSaid sort switch [] s
unfolding statement_of Spells Suits
blank_said sort switch s e = subst (IsSaid sort switch []) (same_ok statement.Blank s e) (refl, tt)

table_line_said : (sort : ClassSort) (next : ℤ) (ts : List Lexeme) (s : Statement) → Says sort (open_switch.Table next) ts s (switch_kind (open_switch.Table next) ts) → IsSaid sort (open_switch.Table next) ts s
unfolding statement_of Suits
table_line_said sort next ts s e = by (is_default ts && not (is_alone ts)) refl
  where
    by : (b : Bool) → (is_default ts && not (is_alone ts)) ≡ b → IsSaid sort (open_switch.Table next) ts s
    by true is =
        let says : Says sort (open_switch.Table next) ts s kind.Default = subst (λ (b : Bool). Says sort (open_switch.Table next) ts s (cond b kind.Default kind.Case)) is e in
        default_said sort (open_switch.Table next) ts s (inl (next, refl)) (and_parts (is_default ts) (not (is_alone ts)) is).0 says
    by false is =
        let says : Says sort (open_switch.Table next) ts s kind.Case = subst (λ (b : Bool). Says sort (open_switch.Table next) ts s (cond b kind.Default kind.Case)) is e in
        table_said sort next ts s says

lookup_line_said : (sort : ClassSort) (last : Option ℤ) (ts : List Lexeme) (s : Statement) → Says sort (open_switch.Lookup last) ts s (switch_kind (open_switch.Lookup last) ts) → IsSaid sort (open_switch.Lookup last) ts s
unfolding statement_of Suits
lookup_line_said sort last ts s e = by (is_default ts) refl
  where
    by : (b : Bool) → is_default ts ≡ b → IsSaid sort (open_switch.Lookup last) ts s
    by true is =
        let says : Says sort (open_switch.Lookup last) ts s kind.Default = subst (λ (b : Bool). Says sort (open_switch.Lookup last) ts s (cond b kind.Default kind.Case)) is e in
        default_said sort (open_switch.Lookup last) ts s (inr (last, refl)) is says
    by false is =
        let says : Says sort (open_switch.Lookup last) ts s kind.Case = subst (λ (b : Bool). Says sort (open_switch.Lookup last) ts s (cond b kind.Default kind.Case)) is e in
        match_said sort last ts s says

-- ---- Lines of code

-- A word names an opcode, and the kind of the line is that of the opcode.
record IsOpcodeWord (make : ℕ → LineKind) (t : Lexeme) (k : LineKind) : Type 0 where
  pub w : List ℕ
  pub code : ℕ
  pub word : t ≡ lexeme.Word w
  pub named : opcode_named w ≡ Some code
  pub made : k ≡ make code

named_said : (make : ℕ → LineKind) (t : Lexeme) (k : LineKind) → instruction_kind make t ≡ Ok k → IsOpcodeWord make t k
named_said make (lexeme.Word w) k e = by (opcode_named w) refl
  where
    by : (o : Option ℕ) → opcode_named w ≡ o → IsOpcodeWord make (lexeme.Word w) k
    by (Some code) is =
        let same : ◌≡◌ {A = Judged LineKind} (Ok (make code)) (Ok k) = rw is at e in
        record { w = w; code = code; word = refl; named = is; made = sym (same_ok (make code) k same) }
    by None is = let none : ◌≡◌ {A = Judged LineKind} (Err flaw.UnknownInstruction) (Ok k) = rw is at e in absurd cc
named_said make (lexeme.Text w) k e = absurd cc
named_said make lexeme.Colon k e = absurd cc
named_said make lexeme.Equals k e = absurd cc

-- A line that is an instruction spells it.
single_said : (sort : ClassSort) (w : List ℕ) (ts : List Lexeme) (k : LineKind) (s : Statement) → instruction_kind (λ code. kind.Instruction code) (lexeme.Word w) ≡ Ok k → Says sort open_switch.None (lexeme.Word w ∷ ts) s k → IsSaid sort open_switch.None (lexeme.Word w ∷ ts) s
unfolding statement_of Spells Suits
single_said sort w ts k s known e =
    let n = named_said (λ code. kind.Instruction code) (lexeme.Word w) k known in
    let says : Says sort open_switch.None (lexeme.Word w ∷ ts) s (kind.Instruction n.code) = subst (Says sort open_switch.None (lexeme.Word w ∷ ts) s) n.made e in
    said_gives (IsSaid sort open_switch.None (lexeme.Word w ∷ ts)) (λ (i : Instruction). statement.Instruction i) _ s says (λ i is.
    (instruction_said w n.code ts i (ap opcode_named (same n.w n.word) ∙ n.named) is, refl))
  where
    same : (v : List ℕ) → lexeme.Word w ≡ lexeme.Word v → w ≡ v
    same v e = cc

label_line_said : (sort : ClassSort) (w : List ℕ) (s : Statement) → Says sort open_switch.None (lexeme.Word w ∷ lexeme.Colon ∷ []) s kind.Label → IsSaid sort open_switch.None (lexeme.Word w ∷ lexeme.Colon ∷ []) s
unfolding statement_of Spells Suits
label_line_said sort w s e =
    said_gives (IsSaid sort open_switch.None (lexeme.Word w ∷ lexeme.Colon ∷ [])) (λ (label : List ℕ). statement.Label label) (label_at (Some (lexeme.Word w))) s e (λ label is.
    let l = label_said (Some (lexeme.Word w)) label is in
    ((same label l.0, l.1), refl))
  where
    same : (v : List ℕ) → ◌≡◌ {A = Option Lexeme} (Some (lexeme.Word w)) (Some (lexeme.Word v)) → ◌≡◌ {A = List Lexeme} (lexeme.Word w ∷ lexeme.Colon ∷ []) (lexeme.Word v ∷ lexeme.Colon ∷ [])
    same v e = cc

-- A line that is a label and an instruction spells them.
labelled_said : (sort : ClassSort) (w : List ℕ) (t : Lexeme) (ts : List Lexeme) (k : LineKind) (s : Statement) → instruction_kind (λ code. kind.LabelledInstruction code) t ≡ Ok k → Says sort open_switch.None (lexeme.Word w ∷ lexeme.Colon ∷ t ∷ ts) s k → IsSaid sort open_switch.None (lexeme.Word w ∷ lexeme.Colon ∷ t ∷ ts) s
unfolding statement_of Spells Suits
labelled_said sort w t ts k s known e =
    let n = named_said (λ code. kind.LabelledInstruction code) t k known in
    let says : Says sort open_switch.None (lexeme.Word w ∷ lexeme.Colon ∷ t ∷ ts) s (kind.LabelledInstruction n.code) = subst (Says sort open_switch.None (lexeme.Word w ∷ lexeme.Colon ∷ t ∷ ts) s) n.made e in
    said_gives (IsSaid sort open_switch.None (lexeme.Word w ∷ lexeme.Colon ∷ t ∷ ts)) (λ (p : List ℕ × Instruction). statement.LabelledInstruction p.0 p.1) _ s says (λ p is.
    let two = both_are (label_at (Some (lexeme.Word w))) (instruction_line n.code ts) p is in
    let l = label_said (Some (lexeme.Word w)) p.0 two.0 in
    ((lexeme.Word n.w ∷ ts, shape p.0 n.w l.0 n.word, l.1, instruction_said n.w n.code ts p.1 n.named two.1), refl))
  where
    shape : (label v : List ℕ) → ◌≡◌ {A = Option Lexeme} (Some (lexeme.Word w)) (Some (lexeme.Word label)) → t ≡ lexeme.Word v → lexeme.Word w ∷ lexeme.Colon ∷ t ∷ ts ≡ lexeme.Word label ∷ lexeme.Colon ∷ lexeme.Word v ∷ ts
    shape label v e f = cc

code_said : (sort : ClassSort) (ts : List Lexeme) (k : LineKind) (s : Statement) → code_kind ts ≡ Ok k → Says sort open_switch.None ts s k → IsSaid sort open_switch.None ts s
code_said sort [] k s known e = blank_said sort open_switch.None s (subst (Says sort open_switch.None [] s) (sym (same_ok kind.Blank k known)) e)
code_said sort (lexeme.Word w ∷ []) k s known e = single_said sort w [] k s known e
code_said sort (lexeme.Word w ∷ lexeme.Colon ∷ []) k s known e = label_line_said sort w s (subst (Says sort open_switch.None (lexeme.Word w ∷ lexeme.Colon ∷ []) s) (sym (same_ok kind.Label k known)) e)
code_said sort (lexeme.Word w ∷ lexeme.Colon ∷ t ∷ ts) k s known e = labelled_said sort w t ts k s known e
code_said sort (lexeme.Word w ∷ lexeme.Word v ∷ ts) k s known e = single_said sort w (lexeme.Word v ∷ ts) k s known e
code_said sort (lexeme.Word w ∷ lexeme.Text v ∷ ts) k s known e = single_said sort w (lexeme.Text v ∷ ts) k s known e
code_said sort (lexeme.Word w ∷ lexeme.Equals ∷ ts) k s known e = single_said sort w (lexeme.Equals ∷ ts) k s known e
code_said sort (lexeme.Text w ∷ ts) k s known e = absurd cc
code_said sort (lexeme.Colon ∷ ts) k s known e = absurd cc
code_said sort (lexeme.Equals ∷ ts) k s known e = absurd cc

-- ---- Lines

other_said : (sort : ClassSort) (switch : OpenSwitch) (ts : List Lexeme) (k : LineKind) (s : Statement) → other_kind switch ts ≡ Ok k → Says sort switch ts s k → IsSaid sort switch ts s
other_said sort open_switch.None ts k s known e = code_said sort ts k s known e
other_said sort (open_switch.Table next) [] k s known e = blank_said sort (open_switch.Table next) s (subst (Says sort (open_switch.Table next) [] s) (sym (same_ok kind.Blank k known)) e)
other_said sort (open_switch.Table next) (t ∷ ts) k s known e =
    table_line_said sort next (t ∷ ts) s (subst (Says sort (open_switch.Table next) (t ∷ ts) s) (sym (same_ok (switch_kind (open_switch.Table next) (t ∷ ts)) k known)) e)
other_said sort (open_switch.Lookup last) [] k s known e = blank_said sort (open_switch.Lookup last) s (subst (Says sort (open_switch.Lookup last) [] s) (sym (same_ok kind.Blank k known)) e)
other_said sort (open_switch.Lookup last) (t ∷ ts) k s known e =
    lookup_line_said sort last (t ∷ ts) s (subst (Says sort (open_switch.Lookup last) (t ∷ ts) s) (sym (same_ok (switch_kind (open_switch.Lookup last) (t ∷ ts)) k known)) e)

named_directive : (sort : ClassSort) (switch : OpenSwitch) (w : List ℕ) (ts : List Lexeme) (k : LineKind) (s : Statement) → directive_kind (directive_named w) ≡ Ok k → Says sort switch (lexeme.Word w ∷ ts) s k → IsSaid sort switch (lexeme.Word w ∷ ts) s
unfolding statement_of
named_directive sort switch w ts k s known e = by (directive_named w) refl
  where
    by : (o : Option Directive) → directive_named w ≡ o → IsSaid sort switch (lexeme.Word w ∷ ts) s
    by (Some d) is =
        let same : ◌≡◌ {A = Judged LineKind} (Ok (kind.Directive d)) (Ok k) = rw is at known in
        let says : Says sort switch (lexeme.Word w ∷ ts) s (kind.Directive d) = subst (Says sort switch (lexeme.Word w ∷ ts) s) (sym (same_ok (kind.Directive d) k same)) e in
        subst (λ (v : List ℕ). IsSaid sort switch (lexeme.Word v ∷ ts) s) (sym (directive_name_said w d is)) (directive_said d sort switch ts s says)
    by None is = let none : ◌≡◌ {A = Judged LineKind} (Err flaw.UnknownDirective) (Ok k) = rw is at known in absurd cc

pub line_said : (sort : ClassSort) (switch : OpenSwitch) (ts : List Lexeme) (k : LineKind) (s : Statement) → kind_of switch ts ≡ Ok k → statement_of sort switch k ts ≡ Ok s → IsSaid sort switch ts s
unfolding kind_of
line_said sort switch [] k s known e = other_said sort switch [] k s known e
line_said sort switch (lexeme.Word w ∷ ts) k s known e =
    choose (begins_with 46 w) (directive_kind (directive_named w)) (other_kind switch (lexeme.Word w ∷ ts)) (Ok k) known
    (λ dot is. named_directive sort switch w ts k s is e)
    (λ other is. other_said sort switch (lexeme.Word w ∷ ts) k s is e)
line_said sort switch (lexeme.Text w ∷ ts) k s known e = other_said sort switch (lexeme.Text w ∷ ts) k s known e
line_said sort switch (lexeme.Colon ∷ ts) k s known e = other_said sort switch (lexeme.Colon ∷ ts) k s known e
line_said sort switch (lexeme.Equals ∷ ts) k s known e = other_said sort switch (lexeme.Equals ∷ ts) k s known e
