-- Proves that a source that is read from a text is formed, line by line.
use Rattle.std.proofs.Common.{◌≡◌, ℕ, suc, false, List, [], ◌∷◌, Option, Some, None, Result, Ok, Err, unwrap_or, codes, refl, subst, arith}
use Rattle.std.specs.Str.Lines.{lines}
use Rattle.jvms_file.specs.Results.{◌>>=◌}
use Rattle.jasmin.specs.declared.token.Token.{Token}
use Rattle.jasmin.specs.declared.token.Lexeme.{Lexeme}
use Rattle.jasmin.specs.declared.source.Source.{Source}
use Rattle.jasmin.specs.declared.statement.Flaw.TheVariants as flaw
use Rattle.jasmin.specs.declared.statement.LineKind.{LineKind}
use Rattle.jasmin.specs.declared.statement.Statement.{Statement}
use Rattle.jasmin.specs.declared.reading.OpenMethod.{OpenMethod}
use Rattle.jasmin.specs.declared.reading.Reading.{Reading}
use Rattle.jasmin.specs.Lexing.{tokens_of, lexemes}
use Rattle.jasmin.specs.Sources.{units_of}
use Rattle.jasmin.specs.Judgements.{Judged, judge_test}
use Rattle.jasmin.specs.LineKinds.{kind_of}
use Rattle.jasmin.specs.Statements.{statement_of}
use Rattle.jasmin.specs.Reading.{switch_of, sort_of, is_in_place, is_repeated, with_statement, judge_statement, judge_line, with_lexemes, with_line, empty_reading, at_line, with_lines, last_line, source_of_reading, source_of}
use Rattle.source_form_laws.specs.Formed.{IsFormed}
use Rattle.source_form_laws.proofs.Judged.{same_ok, choose, asked_is}
use Rattle.source_form_laws.proofs.Lines.{statement_formed}
use Rattle.source_form_laws.proofs.Methods.{IfThere}
use Rattle.source_form_laws.proofs.Readings.{IsClassName, IsFormedReading, statement_kept}

-- A sequence of two steps has a value only if its first step has one.
step : {A B E : Type 0} {G : Type 0} (r : Result A E) (f : A → Result B E) (y : B) → (r >>= f) ≡ Ok y → ((x : A) → r ≡ Ok x → f x ≡ Ok y → G) → G
step (Ok x) f y e next = next x refl e
step (Err d) f y e next = absurd cc

-- ---- A line

added_kept : (r t : Reading) (s : Statement) → IsFormedReading r → (is_repeated r s ≡ false → IsFormedReading (with_statement r s)) → judge_statement r s ≡ Ok t → IsFormedReading t
added_kept r t s h kept e =
    choose (is_repeated r s) (Err flaw.Repeated) (Ok (with_statement r s)) (Ok t) e
    (λ again is. absurd cc)
    (λ once is. subst IsFormedReading (same_ok (with_statement r s) t is) (kept once))

placed_kept : (r t : Reading) (k : LineKind) (ts : List Lexeme) → IsFormedReading r → judge_line r k ts ≡ Ok t → IsFormedReading t
placed_kept r t k ts h e =
    step (judge_test (is_in_place r k) flaw.OutOfPlace) _ t e (λ u here more.
    let in_place = asked_is (is_in_place r k) flaw.OutOfPlace u here in
    step (statement_of (sort_of r.access) (switch_of r) k ts) _ t more (λ s says last.
    let formed = statement_formed r k ts s in_place says in
    added_kept r t s h (λ once. statement_kept r s h formed once) last))

lexemes_kept : (r t : Reading) (ts : List Lexeme) → IsFormedReading r → with_lexemes r ts ≡ Ok t → IsFormedReading t
lexemes_kept r t ts h e = step (kind_of (switch_of r) ts) _ t e (λ k is last. placed_kept r t k ts h last)

line_kept : (r t : Reading) (line : List ℕ) → IsFormedReading r → with_line r line ≡ Ok t → IsFormedReading t
unfolding with_line
line_kept r t line h e = lexed (tokens_of line) refl
  where
    lexed : (o : Option (List Token)) → tokens_of line ≡ o → IsFormedReading t
    lexed (Some ts) is = lexemes_kept r t (lexemes ts) h (rw is at e)
    lexed None is = let none : ◌≡◌ {A = Judged Reading} (Err flaw.Lexeme) (Ok t) = rw is at e in absurd cc

-- ---- Lines

at_line_is : {A : Type 0} (n : ℕ) (j : Judged A) (x : A) → at_line n j ≡ Ok x → j ≡ Ok x
at_line_is n (Ok y) x e = cc
at_line_is n (Err f) x e = absurd cc

lines_kept : (all : List (List ℕ)) (n : ℕ) (r t : Reading) → IsFormedReading r → with_lines n r all ≡ Ok t → IsFormedReading t
unfolding with_lines
lines_kept [] n r t h e = subst IsFormedReading (same_ok r t e) h
lines_kept (line ∷ others) n r t h e =
    step (at_line (suc n) (with_line r (units_of line))) _ t e (λ s is more.
    lines_kept others (suc n) s t (line_kept r s (units_of line) h (at_line_is (suc n) (with_line r (units_of line)) s is)) more)

nothing_formed : IsFormedReading empty_reading
nothing_formed = record {
  access = omega arith;
  name = tt;
  superclass = tt;
  interfaces = tt;
  fields = record { formed = tt; distinct = tt };
  methods = record { formed = tt; distinct = tt };
  before = (refl, refl);
  open_method = tt;
}

-- ---- The source

superclass_named : (o : Option (List ℕ)) → IfThere IsClassName o → IsClassName (unwrap_or o (codes "java/lang/Object"))
superclass_named None named = refl
superclass_named (Some name) named = named

parts_formed : (last : ℕ) (r : Reading) (s : Source) (name : Option (List ℕ)) (method : Option OpenMethod) → IsFormedReading (record r { name = name; method = method }) → source_of_reading last (record r { name = name; method = method }) ≡ Ok s → IsFormed s
parts_formed last r s (Some name) None h e = subst IsFormed (same_ok _ s e) (record {
  access = h.access;
  name = h.name;
  superclass = superclass_named r.superclass h.superclass;
  interfaces = h.interfaces;
  fields = h.fields.formed;
  distinct_fields = h.fields.distinct;
  methods = h.methods.formed;
  distinct_methods = h.methods.distinct;
})
parts_formed last r s (Some name) (Some m) h e = absurd cc
parts_formed last r s None method h e = absurd cc

pub source_formed : (text : List ℕ) (s : Source) → source_of text ≡ Ok s → IsFormed s
unfolding source_of
source_formed text s e =
    step (with_lines 0 empty_reading (lines text)) _ s e (λ r is last.
    parts_formed (last_line (lines text)) r s r.name r.method (lines_kept (lines text) 0 empty_reading r nothing_formed is) last)
