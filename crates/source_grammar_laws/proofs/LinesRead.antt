-- Proves that tokens that spell a statement which suits the lines before are read as this statement.
use Rattle.std.proofs.Common.{◌≡◌, ◌⊎◌, inl, inr, ℕ, ◌-◌, ◌^◌, ◌&&◌, Bool, true, false, eqb, List, [], ◌∷◌, Option, Some, None, Ok, IsTrue, ℤ, refl, sym, ap, subst, ◌∙◌, codes}
use Rattle.std.specs.Prelude.{pos, neg_ℤ, int_le}
use Rattle.std.proofs.lemmas.Bool.{ne_eqb, eqb-true}
use Rattle.std.proofs.lemmas.Option.{none-some}
use Rattle.jvms_file.specs.Names.{same_text, begins_with}
use Rattle.jvms_file.specs.Instructions.{is_above}
use Rattle.jasmin.specs.declared.token.Lexeme.{Lexeme}
use Rattle.jasmin.specs.declared.token.Lexeme.TheVariants as lexeme
use Rattle.jasmin.specs.declared.source.MatchLine.{MatchLine}
use Rattle.jasmin.specs.declared.statement.LineKind.{LineKind}
use Rattle.jasmin.specs.declared.statement.LineKind.TheVariants as kind
use Rattle.jasmin.specs.declared.statement.OpenSwitch.{OpenSwitch}
use Rattle.jasmin.specs.declared.statement.OpenSwitch.TheVariants as open_switch
use Rattle.jasmin.specs.declared.statement.ClassSort.{ClassSort}
use Rattle.jasmin.specs.declared.statement.Instruction.{Instruction}
use Rattle.jasmin.specs.declared.statement.Statement.{Statement}
use Rattle.jasmin.specs.declared.statement.Statement.TheVariants as statement
use Rattle.jasmin.specs.Numerals.{number_of}
use Rattle.jasmin.specs.LineKinds.{opcode_named, code_kind, kind_of}
use Rattle.jasmin.specs.Statements.{table_line, match_line, default_line, statement_of}
use Rattle.source_grammar_laws.specs.Numbers.{SpellsNumber}
use Rattle.source_grammar_laws.specs.Words.{IsLabel}
use Rattle.source_grammar_laws.specs.Instructions.{SpellsInstruction}
use Rattle.source_grammar_laws.specs.Lines.{SpellsMatch, Spells, Suits}
use Rattle.source_grammar_laws.proofs.Labels.{is_label_reads}
use Rattle.source_grammar_laws.proofs.Numbers.{number_says}
use Rattle.source_grammar_laws.proofs.Places.{text_is, number_place_says}
use Rattle.source_grammar_laws.proofs.OperationsRead.{begins_colon, instruction_read}
use Rattle.source_grammar_laws.proofs.DirectivesRead.{IsLine, bytecode_read, source_read, class_read, super_read, implements_read, field_read, method_read, end_read, stack_read, locals_read, catch_read, throws_read, line_read, var_read}

-- ---- First words

label_no_dot : (w : List ℕ) → IsLabel w → begins_with 46 w ≡ false
label_no_dot w (u, us, e, digit, plus, minus, dot) = rw (e, ne_eqb u 46 dot) refl

by_contradiction : (b : Bool) → (b ≡ true → ⊥) → b ≡ false
by_contradiction true bad = absurd (bad refl)
by_contradiction false bad = refl

dot_is_no_number : (us : List ℕ) → number_of (46 ∷ us) ≡ None
unfolding number_of
dot_is_no_number us = refl

default_is_no_number : number_of (codes "default") ≡ None
unfolding number_of
default_is_no_number = refl

number_no_dot : (w : List ℕ) (z : ℤ) → SpellsNumber w z → begins_with 46 w ≡ false
number_no_dot [] z is = refl
number_no_dot (u ∷ us) z is = by_contradiction (eqb u 46) (λ same.
    let word : u ∷ us ≡ 46 ∷ us = ap (λ (v : ℕ). v ∷ us) (eqb-true u 46 same) in
    none-some z (sym (dot_is_no_number us) ∙ ap (λ (v : List ℕ). number_of v) (sym word) ∙ number_says (u ∷ us) z is))

number_no_default : (w : List ℕ) (z : ℤ) → SpellsNumber w z → same_text (codes "default") w ≡ false
number_no_default w z is = by_contradiction (same_text (codes "default") w) (λ same.
    none-some z (sym default_is_no_number ∙ ap (λ (v : List ℕ). number_of v) (text_is (codes "default") w same) ∙ number_says w z is))

-- ---- Lines of a switch

no_and : (b : Bool) → (b && false) ≡ false
no_and true = refl
no_and false = refl

table_read : (sort : ClassSort) (switch : OpenSwitch) (ts : List Lexeme) (label : List ℕ) (next : ℤ) → switch ≡ open_switch.Table next → IsTrue (int_le next (pos 2147483647)) → ts ≡ lexeme.Word label ∷ [] → IsLabel label → IsLine sort switch ts (statement.TableLabel label)
unfolding kind_of statement_of table_line
table_read sort switch ts label next begun small whole is =
    let line : IsLine sort (open_switch.Table next) (lexeme.Word label ∷ []) (statement.TableLabel label) = record {
      sort_of_line = kind.Case;
      known = rw (label_no_dot label is, no_and (same_text (codes "default") label)) refl;
      says = rw (is_label_reads label is, small) refl;
    } in
    subst (λ (o : OpenSwitch). IsLine sort o ts (statement.TableLabel label)) (sym begun) (subst (λ (us : List Lexeme). IsLine sort (open_switch.Table next) us (statement.TableLabel label)) (sym whole) line)

match_read : (sort : ClassSort) (switch : OpenSwitch) (ts : List Lexeme) (m : MatchLine) (last : Option ℤ) → switch ≡ open_switch.Lookup last → IsTrue (is_above last m.value) → SpellsMatch ts m → IsLine sort switch ts (statement.Match m)
unfolding kind_of statement_of match_line
match_read sort switch ts m last begun above (w, whole, is, label) =
    let number = number_place_says (neg_ℤ (pos (2 ^ 31))) (pos (2 ^ 31 - 1)) w m.value is.0 is.1 in
    let line : IsLine sort (open_switch.Lookup last) (lexeme.Word w ∷ lexeme.Colon ∷ lexeme.Word m.label ∷ []) (statement.Match m) = record {
      sort_of_line = kind.Case;
      known = rw (number_no_dot w m.value is.0, number_no_default w m.value is.0) refl;
      says = rw (number, above, is_label_reads m.label label) refl;
    } in
    subst (λ (o : OpenSwitch). IsLine sort o ts (statement.Match m)) (sym begun) (subst (λ (us : List Lexeme). IsLine sort (open_switch.Lookup last) us (statement.Match m)) (sym whole) line)

default_read : (sort : ClassSort) (switch : OpenSwitch) (ts : List Lexeme) (label : List ℕ) → ((next : ℤ) × (switch ≡ open_switch.Table next)) ⊎ ((last : Option ℤ) × (switch ≡ open_switch.Lookup last)) → ts ≡ lexeme.Word (codes "default") ∷ lexeme.Colon ∷ lexeme.Word label ∷ [] → IsLabel label
    → IsLine sort switch ts (statement.Default label)
unfolding kind_of statement_of default_line
default_read sort switch ts label (inl (next, begun)) whole is =
    let line : IsLine sort (open_switch.Table next) (lexeme.Word (codes "default") ∷ lexeme.Colon ∷ lexeme.Word label ∷ []) (statement.Default label) = record { sort_of_line = kind.Default; known = refl; says = rw (is_label_reads label is) refl } in
    subst (λ (o : OpenSwitch). IsLine sort o ts (statement.Default label)) (sym begun) (subst (λ (us : List Lexeme). IsLine sort (open_switch.Table next) us (statement.Default label)) (sym whole) line)
default_read sort switch ts label (inr (last, begun)) whole is =
    let line : IsLine sort (open_switch.Lookup last) (lexeme.Word (codes "default") ∷ lexeme.Colon ∷ lexeme.Word label ∷ []) (statement.Default label) = record { sort_of_line = kind.Default; known = refl; says = rw (is_label_reads label is) refl } in
    subst (λ (o : OpenSwitch). IsLine sort o ts (statement.Default label)) (sym begun) (subst (λ (us : List Lexeme). IsLine sort (open_switch.Lookup last) us (statement.Default label)) (sym whole) line)

-- ---- Lines of code

label_read : (sort : ClassSort) (switch : OpenSwitch) (ts : List Lexeme) (label : List ℕ) → switch ≡ open_switch.None → ts ≡ lexeme.Word label ∷ lexeme.Colon ∷ [] → IsLabel label → IsLine sort switch ts (statement.Label label)
unfolding kind_of statement_of
label_read sort switch ts label begun whole is =
    let line : IsLine sort open_switch.None (lexeme.Word label ∷ lexeme.Colon ∷ []) (statement.Label label) = record { sort_of_line = kind.Label; known = rw (label_no_dot label is) refl; says = rw (is_label_reads label is) refl } in
    subst (λ (o : OpenSwitch). IsLine sort o ts (statement.Label label)) (sym begun) (subst (λ (us : List Lexeme). IsLine sort open_switch.None us (statement.Label label)) (sym whole) line)

code_known : (w : List ℕ) (code : ℕ) (operands : List Lexeme) → opcode_named w ≡ Some code → begins_colon operands ≡ false → code_kind (lexeme.Word w ∷ operands) ≡ Ok (kind.Instruction code)
code_known w code [] named e = rw named refl
code_known w code (lexeme.Word v ∷ ts) named e = rw named refl
code_known w code (lexeme.Text v ∷ ts) named e = rw named refl
code_known w code (lexeme.Colon ∷ ts) named e = absurd cc
code_known w code (lexeme.Equals ∷ ts) named e = rw named refl

single_read : (sort : ClassSort) (switch : OpenSwitch) (ts : List Lexeme) (i : Instruction) → switch ≡ open_switch.None → SpellsInstruction ts i → IsLine sort switch ts (statement.Instruction i)
unfolding kind_of statement_of
single_read sort switch ts i begun is =
    let h = instruction_read ts i is in
    let line : IsLine sort open_switch.None (lexeme.Word h.w ∷ h.operands) (statement.Instruction i) = record {
      sort_of_line = kind.Instruction h.code;
      known = rw h.no_dot (code_known h.w h.code h.operands h.named h.no_colon);
      says = rw h.read refl;
    } in
    subst (λ (o : OpenSwitch). IsLine sort o ts (statement.Instruction i)) (sym begun) (subst (λ (us : List Lexeme). IsLine sort open_switch.None us (statement.Instruction i)) (sym h.whole) line)

labelled_read : (sort : ClassSort) (switch : OpenSwitch) (ts : List Lexeme) (label : List ℕ) (i : Instruction) (behind : List Lexeme) → switch ≡ open_switch.None → ts ≡ lexeme.Word label ∷ lexeme.Colon ∷ behind → IsLabel label → SpellsInstruction behind i → IsLine sort switch ts (statement.LabelledInstruction label i)
unfolding kind_of statement_of
labelled_read sort switch ts label i behind begun whole named is =
    let h = instruction_read behind i is in
    let line : IsLine sort open_switch.None (lexeme.Word label ∷ lexeme.Colon ∷ lexeme.Word h.w ∷ h.operands) (statement.LabelledInstruction label i) = record {
      sort_of_line = kind.LabelledInstruction h.code;
      known = rw (label_no_dot label named, h.named) refl;
      says = rw (is_label_reads label named, h.read) refl;
    } in
    subst (λ (o : OpenSwitch). IsLine sort o ts (statement.LabelledInstruction label i)) (sym begun)
    (subst (λ (us : List Lexeme). IsLine sort open_switch.None us (statement.LabelledInstruction label i)) (sym (whole ∙ ap (λ (us : List Lexeme). lexeme.Word label ∷ lexeme.Colon ∷ us) h.whole)) line)

blank_read : (sort : ClassSort) (switch : OpenSwitch) (ts : List Lexeme) → ts ≡ [] → IsLine sort switch ts statement.Blank
unfolding kind_of statement_of
blank_read sort switch ts e = subst (λ (us : List Lexeme). IsLine sort switch us statement.Blank) (sym e) (record { sort_of_line = kind.Blank; known = known switch; says = refl })
  where
    known : (o : OpenSwitch) → kind_of o [] ≡ Ok kind.Blank
    known open_switch.None = refl
    known (open_switch.Table next) = refl
    known (open_switch.Lookup last) = refl

-- ---- Lines

dropped_read : (sort : ClassSort) (switch : OpenSwitch) (ts : List Lexeme) → Spells ts statement.Dropped → IsLine sort switch ts statement.Dropped
unfolding Spells
dropped_read sort switch ts (inl is) = line_read sort switch ts is
dropped_read sort switch ts (inr is) = var_read sort switch ts is

pub line_is_read : (sort : ClassSort) (switch : OpenSwitch) (ts : List Lexeme) (s : Statement) → Spells ts s → Suits sort switch s → IsLine sort switch ts s
unfolding Spells Suits
line_is_read sort switch ts statement.Blank is suits = blank_read sort switch ts is
line_is_read sort switch ts statement.Bytecode is suits = bytecode_read sort switch ts is
line_is_read sort switch ts statement.SourceFile is suits = source_read sort switch ts is
line_is_read sort switch ts (statement.Class access name) is suits = class_read sort switch ts access name is
line_is_read sort switch ts (statement.Superclass name) is suits = super_read sort switch ts name is.0 is.1
line_is_read sort switch ts (statement.Implements name) is suits = implements_read sort switch ts name is.0 is.1
line_is_read sort switch ts (statement.Field f) is suits = field_read sort switch ts f is
line_is_read sort switch ts (statement.Method access name descriptor) is suits = method_read sort switch ts access name descriptor is suits
line_is_read sort switch ts statement.EndMethod is suits = end_read sort switch ts is
line_is_read sort switch ts (statement.MaxStack n) is suits = stack_read sort switch ts n is
line_is_read sort switch ts (statement.MaxLocals n) is suits = locals_read sort switch ts n is
line_is_read sort switch ts (statement.Catch c) is suits = catch_read sort switch ts c is
line_is_read sort switch ts (statement.Throws name) is suits = throws_read sort switch ts name is.0 is.1
line_is_read sort switch ts statement.Dropped is suits = dropped_read sort switch ts is
line_is_read sort switch ts (statement.TableLabel label) is (next, begun, small) = table_read sort switch ts label next begun small is.0 is.1
line_is_read sort switch ts (statement.Match m) is (last, begun, above) = match_read sort switch ts m last begun above is
line_is_read sort switch ts (statement.Default label) is suits = default_read sort switch ts label suits is.0 is.1
line_is_read sort switch ts (statement.Label label) is suits = label_read sort switch ts label suits is.0 is.1
line_is_read sort switch ts (statement.Instruction i) is suits = single_read sort switch ts i suits is
line_is_read sort switch ts (statement.LabelledInstruction label i) (behind, whole, named, is) suits = labelled_read sort switch ts label i behind suits whole named is

pub statement_is_read : (sort : ClassSort) (switch : OpenSwitch) (ts : List Lexeme) (s : Statement) → Spells ts s → Suits sort switch s → (k : LineKind) × (kind_of switch ts ≡ Ok k) × (statement_of sort switch k ts ≡ Ok s)
statement_is_read sort switch ts s is suits = let h = line_is_read sort switch ts s is suits in (h.sort_of_line, h.known, h.says)
