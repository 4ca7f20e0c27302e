-- Proves that a line takes one step from a state to the next: it spells a statement that is allowed there.
use Rattle.std.proofs.Common.{◌≡◌, ℕ, suc, ◌&&◌, Bool, true, false, cond, List, [], ◌∷◌, ◌++◌, drop, Option, Some, None, Result, Ok, Err, refl, sym, ap, subst, ◌∙◌}
use Rattle.std.specs.Prelude.{is_some}
use Rattle.std.specs.List.{AllByRecursion}
use Rattle.jvms_file.specs.Results.{◌>>=◌}
use Rattle.jasmin.specs.declared.token.Token.{Token}
use Rattle.jasmin.specs.declared.token.Lexeme.{Lexeme}
use Rattle.jasmin.specs.declared.statement.Flaw.TheVariants as flaw
use Rattle.jasmin.specs.declared.statement.Directive.{Directive}
use Rattle.jasmin.specs.declared.statement.Directive.TheVariants as directive
use Rattle.jasmin.specs.declared.statement.LineKind.{LineKind}
use Rattle.jasmin.specs.declared.statement.LineKind.TheVariants as kind
use Rattle.jasmin.specs.declared.statement.OpenSwitch.{OpenSwitch}
use Rattle.jasmin.specs.declared.statement.OpenSwitch.TheVariants as open_switch
use Rattle.jasmin.specs.declared.statement.ClassSort.{ClassSort}
use Rattle.jasmin.specs.declared.source.Operation.{Operation}
use Rattle.jasmin.specs.declared.source.Operation.TheVariants as operation
use Rattle.jasmin.specs.declared.statement.Instruction.{Instruction}
use Rattle.jasmin.specs.declared.statement.Instruction.TheVariants as instruction
use Rattle.jasmin.specs.declared.statement.Statement.{Statement}
use Rattle.jasmin.specs.declared.statement.Statement.TheVariants as statement
use Rattle.jasmin.specs.declared.reading.Part.{Part}
use Rattle.jasmin.specs.declared.reading.Part.TheVariants as part
use Rattle.jasmin.specs.declared.reading.OpenMethod.{OpenMethod}
use Rattle.jasmin.specs.declared.reading.Reading.{Reading}
use Rattle.jasmin.specs.Lexing.{Lexes, tokens_of, lexemes}
use Rattle.jasmin.specs.Sources.{units_of}
use Rattle.jasmin.specs.Judgements.{Judged, judge_test}
use Rattle.jasmin.specs.LineKinds.{kind_of}
use Rattle.jasmin.specs.Statements.{bytecode_line, source_line, class_line, super_line, implements_line, field_line, method_line, end_line, limit_line, catch_line, throws_line, line_line, var_line, directive_line, table_line, match_line, case_line, default_line, statement_of}
use Rattle.jasmin.specs.Reading.{switch_of, sort_of, is_placed, part_of, may_have_instructions, has_no_switch, has_labels, is_in_place, is_repeated, with_statement, judge_statement, with_lexemes, with_line, at_line, with_lines}
use Rattle.jasmin.proofs.Tokens.{lexed_is_spelled, spelled_is_lexed}
use Rattle.source_form_laws.proofs.Judged.{same_ok, choose, said_gives, asked_is}
use Rattle.source_grammar_laws.specs.Instructions.{SpellsOperation, SpellsInstruction}
use Rattle.source_grammar_laws.specs.Lines.{Spells, Suits}
use Rattle.source_grammar_laws.specs.Sources.{apart, SpellsLines}
use Rattle.source_grammar_laws.proofs.LinesSaid.{line_said}
use Rattle.source_grammar_laws.proofs.LinesRead.{line_is_read}

-- ---- The place of a statement

-- Decides whether a directive of a part, or one inside methods, is allowed.
abbrev stands : Reading → Option Part → Bool
stands r p = has_no_switch (switch_of r) && is_placed r.part (is_some r.method) p

-- Decides whether a statement is allowed after the lines before.
abbrev pub place : Reading → Statement → Bool
place r statement.Blank = true
place r statement.Bytecode = stands r (Some part.Beginning)
place r statement.SourceFile = stands r (Some part.Beginning)
place r (statement.Class access name) = stands r (Some part.Class)
place r (statement.Superclass name) = stands r (Some part.Super)
place r (statement.Implements name) = stands r (Some part.Implements)
place r (statement.Field f) = stands r (Some part.Members)
place r (statement.Method access name descriptor) = stands r (Some part.Members)
place r statement.EndMethod = stands r None
place r (statement.MaxStack n) = stands r None
place r (statement.MaxLocals n) = stands r None
place r (statement.Catch c) = stands r None
place r (statement.Throws name) = stands r None
place r statement.Dropped = stands r None
place r (statement.TableLabel label) = true
place r (statement.Match m) = true
place r (statement.Default label) = has_labels r.method
place r (statement.Label label) = is_some r.method
place r (statement.Instruction i) = may_have_instructions r.method
place r (statement.LabelledInstruction label i) = may_have_instructions r.method

limit_place : (r : Reading) (stack : Bool) (n : ℕ) → place r (cond stack (statement.MaxStack n) (statement.MaxLocals n)) ≡ stands r None
limit_place r true n = refl
limit_place r false n = refl

directive_place : (r : Reading) (d : Directive) (sort : ClassSort) (ts : List Lexeme) (s : Statement) → directive_line d sort ts ≡ Ok s → place r s ≡ stands r (part_of d)
unfolding bytecode_line source_line class_line super_line implements_line field_line method_line end_line limit_line catch_line throws_line line_line var_line
directive_place r directive.Bytecode sort ts s e = said_gives (λ (t : Statement). place r t ≡ stands r (Some part.Beginning)) _ _ s e (λ x is. refl)
directive_place r directive.Source sort ts s e = said_gives (λ (t : Statement). place r t ≡ stands r (Some part.Beginning)) _ _ s e (λ x is. refl)
directive_place r directive.Class sort ts s e = said_gives (λ (t : Statement). place r t ≡ stands r (Some part.Class)) _ _ s e (λ x is. refl)
directive_place r directive.Interface sort ts s e = said_gives (λ (t : Statement). place r t ≡ stands r (Some part.Class)) _ _ s e (λ x is. refl)
directive_place r directive.Super sort ts s e = said_gives (λ (t : Statement). place r t ≡ stands r (Some part.Super)) _ _ s e (λ x is. refl)
directive_place r directive.Implements sort ts s e = said_gives (λ (t : Statement). place r t ≡ stands r (Some part.Implements)) _ _ s e (λ x is. refl)
directive_place r directive.Field sort ts s e = said_gives (λ (t : Statement). place r t ≡ stands r (Some part.Members)) _ _ s e (λ x is. refl)
directive_place r directive.Method sort ts s e = said_gives (λ (t : Statement). place r t ≡ stands r (Some part.Members)) _ _ s e (λ x is. refl)
directive_place r directive.End sort ts s e = said_gives (λ (t : Statement). place r t ≡ stands r None) _ _ s e (λ x is. refl)
directive_place r directive.Limit sort ts s e =
    said_gives (λ (t : Statement). place r t ≡ stands r None) (λ (p : Bool × ℕ). cond p.0 (statement.MaxStack p.1) (statement.MaxLocals p.1)) _ s e (λ p is. limit_place r p.0 p.1)
directive_place r directive.Catch sort ts s e = said_gives (λ (t : Statement). place r t ≡ stands r None) _ _ s e (λ x is. refl)
directive_place r directive.Throws sort ts s e = said_gives (λ (t : Statement). place r t ≡ stands r None) _ _ s e (λ x is. refl)
directive_place r directive.Line sort ts s e = said_gives (λ (t : Statement). place r t ≡ stands r None) _ _ s e (λ x is. refl)
directive_place r directive.Var sort ts s e = said_gives (λ (t : Statement). place r t ≡ stands r None) _ _ s e (λ x is. refl)

case_place : (r : Reading) (switch : OpenSwitch) (ts : List Lexeme) (s : Statement) → case_line switch ts ≡ Ok s → place r s ≡ true
unfolding table_line match_line
case_place r open_switch.None ts s e = absurd cc
case_place r (open_switch.Table next) ts s e = said_gives (λ (t : Statement). place r t ≡ true) _ _ s e (λ x is. refl)
case_place r (open_switch.Lookup last) ts s e = said_gives (λ (t : Statement). place r t ≡ true) _ _ s e (λ x is. refl)

-- A line is allowed exactly if its statement is.
place_is : (r : Reading) (sort : ClassSort) (switch : OpenSwitch) (k : LineKind) (ts : List Lexeme) (s : Statement) → statement_of sort switch k ts ≡ Ok s → place r s ≡ is_in_place r k
unfolding statement_of is_in_place default_line
place_is r sort switch kind.Blank ts s e = subst (λ (t : Statement). place r t ≡ true) (same_ok statement.Blank s e) refl
place_is r sort switch (kind.Directive d) ts s e = directive_place r d sort (drop 1 ts) s e
place_is r sort switch kind.Case ts s e = case_place r switch ts s e
place_is r sort switch kind.Default ts s e = said_gives (λ (t : Statement). place r t ≡ has_labels r.method) _ _ s e (λ x is. refl)
place_is r sort switch kind.Label ts s e = said_gives (λ (t : Statement). place r t ≡ is_some r.method) _ _ s e (λ x is. refl)
place_is r sort switch (kind.Instruction code) ts s e = said_gives (λ (t : Statement). place r t ≡ may_have_instructions r.method) _ _ s e (λ x is. refl)
place_is r sort switch (kind.LabelledInstruction code) ts s e = said_gives (λ (t : Statement). place r t ≡ may_have_instructions r.method) _ _ s e (λ x is. refl)

-- ---- Steps

-- A statement is allowed, suits the lines before, and repeats none.
pub record Admits (r : Reading) (s : Statement) : Type 0 where
  pub here : place r s ≡ true
  pub suits : Suits (sort_of r.access) (switch_of r) s
  pub once : is_repeated r s ≡ false

-- Tokens spell an allowed statement, and it leads to this state.
pub record IsStep (r : Reading) (ts : List Lexeme) (t : Reading) : Type 0 where
  pub s : Statement
  pub spelled : Spells ts s
  pub admitted : Admits r s
  pub result : with_statement r s ≡ t

step : {A B E : Type 0} {G : Type 0} (r : Result A E) (f : A → Result B E) (y : B) → (r >>= f) ≡ Ok y → ((x : A) → r ≡ Ok x → f x ≡ Ok y → G) → G
step (Ok x) f y e next = next x refl e
step (Err d) f y e next = absurd cc

added_said : (r t : Reading) (s : Statement) → judge_statement r s ≡ Ok t → (is_repeated r s ≡ false) × (with_statement r s ≡ t)
added_said r t s e =
    choose (is_repeated r s) (Err flaw.Repeated) (Ok (with_statement r s)) (Ok t) e
    (λ again is. absurd cc)
    (λ once is. (once, same_ok (with_statement r s) t is))

lexemes_said : (r t : Reading) (ts : List Lexeme) → with_lexemes r ts ≡ Ok t → IsStep r ts t
lexemes_said r t ts e =
    step (kind_of (switch_of r) ts) _ t e (λ k known rest.
    step (judge_test (is_in_place r k) flaw.OutOfPlace) _ t rest (λ u here more.
    step (statement_of (sort_of r.access) (switch_of r) k ts) _ t more (λ s says last.
    let spelled = line_said (sort_of r.access) (switch_of r) ts k s known says in
    let add = added_said r t s last in
    let at : place r s ≡ true = place_is r (sort_of r.access) (switch_of r) k ts s says ∙ asked_is (is_in_place r k) flaw.OutOfPlace u here in
    record { s = s; spelled = spelled.0; admitted = record { here = at; suits = spelled.1; once = add.0 }; result = add.1 })))

lexemes_add : (r : Reading) (ls : List Lexeme) (k : LineKind) (s : Statement) → kind_of (switch_of r) ls ≡ Ok k → is_in_place r k ≡ true → statement_of (sort_of r.access) (switch_of r) k ls ≡ Ok s → is_repeated r s ≡ false → with_lexemes r ls ≡ Ok (with_statement r s)
lexemes_add r ls k s a b c d = rw (a, b, c, d) refl

lexemes_read : (r : Reading) (ts : List Lexeme) (s : Statement) → Spells ts s → Admits r s → with_lexemes r ts ≡ Ok (with_statement r s)
lexemes_read r ts s is admitted =
    let h = line_is_read (sort_of r.access) (switch_of r) ts s is admitted.suits in
    lexemes_add r ts h.sort_of_line s h.known (sym (place_is r (sort_of r.access) (switch_of r) h.sort_of_line ts s h.says) ∙ admitted.here) h.says admitted.once

-- ---- Lines

-- A line has tokens, and they take this step.
record IsLineStep (r : Reading) (line : List ℕ) (t : Reading) : Type 0 where
  pub ts : List Token
  pub lexed : Lexes true 0 line ts
  pub next : IsStep r (lexemes ts) t

line_step : (r t : Reading) (line : List ℕ) → with_line r line ≡ Ok t → IsLineStep r line t
unfolding with_line
line_step r t line e = lexed (tokens_of line) refl
  where
    lexed : (o : Option (List Token)) → tokens_of line ≡ o → IsLineStep r line t
    lexed (Some ts) is = record { ts = ts; lexed = lexed_is_spelled line ts is; next = lexemes_said r t (lexemes ts) (rw is at e) }
    lexed None is = let none : ◌≡◌ {A = Judged Reading} (Err flaw.Lexeme) (Ok t) = rw is at e in absurd cc

line_reads : (r : Reading) (line : List ℕ) (ts : List Token) (s : Statement) → Lexes true 0 line ts → Spells (lexemes ts) s → Admits r s → with_line r line ≡ Ok (with_statement r s)
unfolding with_line
line_reads r line ts s lexed is admitted = rw (spelled_is_lexed line ts lexed) (lexemes_read r (lexemes ts) s is admitted)

-- ---- Consecutive statements

-- Statements lead from one state to another.
abbrev pub Runs : Reading → List Statement → Reading → Type 0
Runs r [] t = r ≡ t
Runs r (s ∷ ss) t = Admits r s × Runs (with_statement r s) ss t

pub runs_on : (xs ys : List Statement) (r m t : Reading) → Runs r xs m → Runs m ys t → Runs r (xs ++ ys) t
runs_on [] ys r m t first later = subst (λ (q : Reading). Runs q ys t) (sym first) later
runs_on (x ∷ xs) ys r m t first later = (first.0, runs_on xs ys (with_statement r x) m t first.1 later)

-- Consecutive statements lead through the state after the first of them.
pub runs_apart : (xs ys : List Statement) (r t : Reading) → Runs r (xs ++ ys) t → (m : Reading) × Runs r xs m × Runs m ys t
runs_apart [] ys r t runs = (r, refl, runs)
runs_apart (x ∷ xs) ys r t runs =
    let rest = runs_apart xs ys (with_statement r x) t runs.1 in
    (rest.0, (runs.0, rest.1), rest.2)

-- ---- The statements of a line

-- A label and an instruction lead to the same state as two statements.
both_steps : (r : Reading) (o : Option OpenMethod) (label : List ℕ) (i : Instruction) → with_statement (record r { method = o }) (statement.LabelledInstruction label i) ≡ with_statement (with_statement (record r { method = o }) (statement.Label label)) (statement.Instruction i)
unfolding with_statement
both_steps r None label i = refl
both_steps r (Some m) label i = refl

record AreAdmitted (r : Reading) (label : List ℕ) (i : Instruction) : Type 0 where
  pub first : Admits r (statement.Label label)
  pub second : Admits (with_statement r (statement.Label label)) (statement.Instruction i)

labelled_apart : (r : Reading) (o : Option OpenMethod) (label : List ℕ) (i : Instruction) → Admits (record r { method = o }) (statement.LabelledInstruction label i) → AreAdmitted (record r { method = o }) label i
unfolding Suits is_repeated with_statement
labelled_apart r None label i a = let bad = a.here in absurd cc
labelled_apart r (Some m) label i a = record { first = record { here = refl; suits = a.suits; once = refl }; second = record { here = a.here; suits = a.suits; once = refl } }

labelled_joined : (r : Reading) (o : Option OpenMethod) (label : List ℕ) (i : Instruction) → AreAdmitted (record r { method = o }) label i → Admits (record r { method = o }) (statement.LabelledInstruction label i)
unfolding Suits is_repeated with_statement
labelled_joined r None label i a = let bad = a.first.here in absurd cc
labelled_joined r (Some m) label i a = record { here = a.second.here; suits = a.first.suits; once = refl }

-- The statements of a line lead to the same state as its statement.
apart_runs : (r : Reading) (s : Statement) → Admits r s → Runs r (apart s) (with_statement r s)
unfolding with_statement
apart_runs r statement.Blank a = refl
apart_runs r (statement.LabelledInstruction label i) a =
    let both = labelled_apart r r.method label i a in
    (both.first, (both.second, sym (both_steps r r.method label i)))
apart_runs r s a = (a, refl)

-- If the statements of a line are allowed, so is its statement, and it leads to the same state.
pub apart_admits : (r t : Reading) (s : Statement) (ss : List Statement) → Runs r (apart s ++ ss) t → Admits r s × Runs (with_statement r s) ss t
unfolding Suits is_repeated with_statement
apart_admits r t statement.Blank ss runs = (record { here = refl; suits = tt; once = refl }, runs)
apart_admits r t (statement.LabelledInstruction label i) ss runs =
    (labelled_joined r r.method label i (record { first = runs.0; second = runs.1.0 }), subst (λ (q : Reading). Runs q ss t) (sym (both_steps r r.method label i)) runs.1.1)
apart_admits r t s ss runs = runs

-- An instruction of one line, which is no switch.
abbrev pub IsWhole : Operation → Type 0
IsWhole (operation.Table lines) = ⊥
IsWhole (operation.Lookup lines) = ⊥
IsWhole _ = Unit {0}

-- A statement that is no blank line and no label with an instruction. Its instruction is of one line.
abbrev pub IsApart : Statement → Type 0
IsApart statement.Blank = ⊥
IsApart (statement.LabelledInstruction label i) = ⊥
IsApart (statement.Instruction (instruction.Whole o)) = IsWhole o
IsApart _ = Unit {0}

whole_apart : (ts : List Lexeme) (o : Operation) → SpellsOperation ts o → IsWhole o
whole_apart ts (operation.Table lines) is = is
whole_apart ts (operation.Lookup lines) is = is
whole_apart ts _ is = tt

instruction_apart : (ts : List Lexeme) (i : Instruction) → SpellsInstruction ts i → IsApart (statement.Instruction i)
instruction_apart ts (instruction.Whole o) is = whole_apart ts o is
instruction_apart ts (instruction.Table low) is = tt
instruction_apart ts instruction.Lookup is = tt

all_apart : (ts : List Lexeme) (s : Statement) (ss : List Statement) → Spells ts s → AllByRecursion IsApart ss → AllByRecursion IsApart (apart s ++ ss)
unfolding Spells
all_apart ts statement.Blank ss is all = all
all_apart ts (statement.LabelledInstruction label i) ss is all = (tt, (instruction_apart is.0 i is.3, all))
all_apart ts (statement.Instruction i) ss is all = (instruction_apart ts i is, all)
all_apart ts s ss is all = (tt, all)

-- ---- All lines

at_line_is : {A : Type 0} (n : ℕ) (j : Judged A) (x : A) → at_line n j ≡ Ok x → j ≡ Ok x
at_line_is n (Ok y) x e = cc
at_line_is n (Err f) x e = absurd cc

-- Lines spell these statements, and they lead to this state.
pub record AreSteps (r : Reading) (ls : List (List ℕ)) (t : Reading) : Type 0 where
  pub ss : List Statement
  pub spelled : SpellsLines ls ss
  pub runs : Runs r ss t
  pub apart : AllByRecursion IsApart ss

first_step : (r m t : Reading) (line : List ℕ) (ls : List (List ℕ)) → IsLineStep r (units_of line) m → AreSteps m ls t → AreSteps r (line ∷ ls) t
first_step r m t line ls h rest =
    let s = h.next.s in
    let later : Runs (with_statement r h.next.s) rest.ss t = subst (λ (q : Reading). Runs q rest.ss t) (sym h.next.result) rest.runs in
    record {
      ss = apart h.next.s ++ rest.ss;
      spelled = (apart h.next.s, rest.ss, refl, (h.ts, h.next.s, h.lexed, h.next.spelled, refl), rest.spelled);
      runs = runs_on (apart h.next.s) rest.ss r (with_statement r h.next.s) t (apart_runs r h.next.s h.next.admitted) later;
      apart = all_apart (lexemes h.ts) h.next.s rest.ss h.next.spelled rest.apart;
    }

pub lines_said : (ls : List (List ℕ)) (n : ℕ) (r t : Reading) → with_lines n r ls ≡ Ok t → AreSteps r ls t
unfolding with_lines
lines_said [] n r t e = record { ss = []; spelled = refl; runs = same_ok r t e; apart = tt }
lines_said (line ∷ ls) n r t e =
    step (at_line (suc n) (with_line r (units_of line))) _ t e (λ m is rest.
    first_step r m t line ls (line_step r m (units_of line) (at_line_is (suc n) (with_line r (units_of line)) m is)) (lines_said ls (suc n) m t rest))

pub lines_read : (ls : List (List ℕ)) (n : ℕ) (r t : Reading) (ss : List Statement) → SpellsLines ls ss → Runs r ss t → with_lines n r ls ≡ Ok t
unfolding with_lines
lines_read [] n r t ss none runs = ap (λ (q : Reading). Ok q) (subst (λ (xs : List Statement). Runs r xs t) none runs)
lines_read (line ∷ ls) n r t ss (here, behind, whole, (ts, s, lexed, spelled, is), others) runs =
    let shape : ss ≡ apart s ++ behind = whole ∙ ap (λ (xs : List Statement). xs ++ behind) is in
    let admits = apart_admits r t s behind (subst (λ (xs : List Statement). Runs r xs t) shape runs) in
    rw (line_reads r (units_of line) ts s lexed spelled admits.0) (lines_read ls (suc n) (with_statement r s) t behind others admits.1)
