-- Proves that the statement of a line is formed, by cases on the kind of the line.
use Rattle.std.proofs.Common.{◌≡◌, ℕ, Bool, true, false, ◌||◌, cond, List, Option, Some, None, Ok, Err, IsTrue, ℤ, pos, int_le, slice_get, drop, is_some, bit_or, refl, subst, arith}
use Rattle.std.proofs.lemmas.Bool.{and_parts}
use Rattle.jvms_file.specs.Names.{is_method_name, is_initializer_name}
use Rattle.jvms_file.specs.Instructions.{is_above}
use Rattle.jvms_file.specs.Members.{is_static, is_interface, is_method_descriptor_for}
use Rattle.jvms_file.specs.Spelling.{IsU2}
use Rattle.jasmin.specs.declared.token.Lexeme.{Lexeme}
use Rattle.jasmin.specs.declared.token.Lexeme.TheVariants as lexeme
use Rattle.jasmin.specs.declared.source.Caught.{Caught}
use Rattle.jasmin.specs.declared.source.FieldConstant.{FieldConstant}
use Rattle.jasmin.specs.declared.source.FieldConstant.TheVariants as constant
use Rattle.jasmin.specs.declared.statement.Flaw.TheVariants as flaw
use Rattle.jasmin.specs.declared.statement.Directive.{Directive}
use Rattle.jasmin.specs.declared.statement.Directive.TheVariants as directive
use Rattle.jasmin.specs.declared.statement.LineKind.{LineKind}
use Rattle.jasmin.specs.declared.statement.LineKind.TheVariants as kind
use Rattle.jasmin.specs.declared.statement.OpenSwitch.{OpenSwitch}
use Rattle.jasmin.specs.declared.statement.OpenSwitch.TheVariants as open_switch
use Rattle.jasmin.specs.declared.statement.Instruction.{Instruction}
use Rattle.jasmin.specs.declared.statement.Statement.{Statement}
use Rattle.jasmin.specs.declared.statement.Statement.TheVariants as statement
use Rattle.jasmin.specs.declared.reading.Part.TheVariants as part
use Rattle.jasmin.specs.declared.reading.Reading.{Reading}
use Rattle.jasmin.specs.Judgements.{Judged, map_ok, judge_test}
use Rattle.jasmin.specs.Operands.{exactly, word_at, class_name_at, class_at, before_descriptor, descriptor_of, i32_at, i64_at, class_words, field_words, method_words, flags_in, access_words}
use Rattle.jasmin.specs.Statements.{bytecode_line, source_line, but_last, last_of, class_line, super_line, implements_line, field_head, field_tail, is_long, is_int_type, is_string_type, int_constant, constant_at, constant_in, word_or_none, field_access, field_name_at, field_line, is_permitted, method_head_at, method_line, end_line, limit_line, catch_line, throws_line, line_line, var_line, directive_line, instruction_line, table_line, label_after_colon, rising_at, match_line, case_line, default_line, label_line, statement_of}
use Rattle.jasmin.specs.Reading.{switch_of, sort_of, part_of, has_no_switch, is_placed, has_labels, is_in_place}
use Rattle.source_form_laws.specs.Formed.{IsFormedValue}
use Rattle.source_form_laws.proofs.Judged.{same_ok, choose, said_gives, both_are, unless_is, asked_is, tested_is}
use Rattle.source_form_laws.proofs.Flags.{class_flags_small, field_flags_small, method_flags_small}
use Rattle.source_form_laws.proofs.Operands.{u16_small, name_is, class_name_is, class_is, field_descriptor_is, caught_is}
use Rattle.source_form_laws.proofs.Operations.{i32_signed, i64_signed, instruction_formed}
use Rattle.source_form_laws.proofs.Statements.{IsFormedHead, IsPlaced, IsFormedStatement, permitted_is}

-- ---- Classes

class_formed : (r : Reading) (switch : OpenSwitch) (added : ℕ) (ts : List Lexeme) (s : Statement) → IsU2 added → IsPlaced r part.Class → class_line added ts ≡ Ok s → IsFormedStatement r switch s
unfolding class_line
class_formed r switch added ts s small placed e =
    said_gives (IsFormedStatement r switch) (λ (name : List ℕ). statement.Class (bit_or (flags_in class_words (but_last ts)) added) name) _ s e (λ name is.
    let all = unless_is (class_name_at (last_of ts)) (access_words class_words (but_last ts)) name is in
    (placed, class_flags_small (but_last ts) added small, class_name_is (last_of ts) name all.0))

super_formed : (r : Reading) (switch : OpenSwitch) (ts : List Lexeme) (s : Statement) → IsPlaced r part.Super → super_line ts ≡ Ok s → IsFormedStatement r switch s
unfolding super_line
super_formed r switch ts s placed e =
    said_gives (IsFormedStatement r switch) (λ (name : List ℕ). statement.Superclass name) _ s e (λ name is.
    (placed, class_name_is (slice_get ts 0) name (unless_is (class_name_at (slice_get ts 0)) (exactly 1 ts) name is).0))

implements_formed : (r : Reading) (switch : OpenSwitch) (ts : List Lexeme) (s : Statement) → IsPlaced r part.Implements → implements_line ts ≡ Ok s → IsFormedStatement r switch s
unfolding implements_line
implements_formed r switch ts s placed e =
    said_gives (IsFormedStatement r switch) (λ (name : List ℕ). statement.Implements name) _ s e (λ name is.
    (placed, class_name_is (slice_get ts 0) name (unless_is (class_name_at (slice_get ts 0)) (exactly 1 ts) name is).0))

-- ---- Fields

constant_formed : (descriptor : List ℕ) (t : Option Lexeme) (c : FieldConstant) → constant_at descriptor t ≡ Ok c → IsFormedValue descriptor (Some c)
constant_formed descriptor (Some (lexeme.Word w)) c e =
    choose (is_long descriptor) (map_ok (λ n. constant.Long n) (i64_at (Some (lexeme.Word w)))) (int_constant descriptor (i32_at (Some (lexeme.Word w)))) (Ok c) e
    (λ long is. said_gives (λ (d : FieldConstant). IsFormedValue descriptor (Some d)) (λ (n : ℤ). constant.Long n) (i64_at (Some (lexeme.Word w))) c is (λ n f.
    (long, i64_signed (Some (lexeme.Word w)) n f)))
    (λ other is. int_formed (i32_at (Some (lexeme.Word w))) refl is)
  where
    int_formed : (j : Judged ℤ) → i32_at (Some (lexeme.Word w)) ≡ j → int_constant descriptor j ≡ Ok c → IsFormedValue descriptor (Some c)
    int_formed (Ok n) f is =
        choose (is_int_type descriptor) (Ok (constant.Integer n)) (Err flaw.Operand) (Ok c) is
        (λ int same. subst (λ (d : FieldConstant). IsFormedValue descriptor (Some d)) (same_ok (constant.Integer n) c same) (int, i32_signed (Some (lexeme.Word w)) n f))
        (λ none same. absurd cc)
    int_formed (Err g) f is = absurd cc
constant_formed descriptor (Some (lexeme.Text t)) c e =
    choose (is_string_type descriptor) (Ok (constant.String t)) (Err flaw.Operand) (Ok c) e
    (λ string same. subst (λ (d : FieldConstant). IsFormedValue descriptor (Some d)) (same_ok (constant.String t) c same) string)
    (λ none same. absurd cc)
constant_formed descriptor _ c e = absurd cc

value_formed : (descriptor : List ℕ) (o : Option (List Lexeme)) (c : Option FieldConstant) → constant_in descriptor o ≡ Ok c → IsFormedValue descriptor c
value_formed descriptor None c e = subst (IsFormedValue descriptor) (same_ok None c e) tt
value_formed descriptor (Some ts) c e =
    said_gives (IsFormedValue descriptor) (λ (d : FieldConstant). Some d) _ c e (λ d is.
    constant_formed descriptor (slice_get ts 0) d (unless_is (constant_at descriptor (slice_get ts 0)) (exactly 1 ts) d is).0)

field_formed : (r : Reading) (switch : OpenSwitch) (ts : List Lexeme) (s : Statement) → field_line ts ≡ Ok s → IsFormedStatement r switch s
unfolding field_line
field_formed r switch ts s e =
    let head = field_head ts in
    said_gives (IsFormedStatement r switch) (λ (p : List ℕ × (List ℕ × Option FieldConstant)). statement.Field (record { access = flags_in field_words (field_access head); name = p.0; descriptor = p.1.0; constant = p.1.1 })) _ s e (λ p is.
    let two = both_are _ _ p (unless_is _ _ p is).0 in
    let behind = both_are _ _ p.1 two.1 in
    let descriptor = field_descriptor_is (last_of head) p.1.0 behind.0 in
    record {
      access = field_flags_small (field_access head);
      name = name_is (field_name_at head) p.0 two.0;
      descriptor = descriptor.1;
      value = subst (λ (d : List ℕ). IsFormedValue d p.1.1) descriptor.0 (value_formed (word_or_none (last_of head)) (field_tail ts) p.1.1 behind.1);
    })

-- ---- Methods

head_formed : (class_access access : ℕ) (j : Judged (List ℕ)) (p : List ℕ × List ℕ) → IsU2 access → method_head_at (sort_of class_access) access j ≡ Ok p → IsFormedHead (is_interface class_access) access p.0 p.1
head_formed class_access access (Ok w) p small e =
    let n = before_descriptor w in
    let all = unless_is _ (judge_test (is_permitted (sort_of class_access) access n) flaw.Flags) p e in
    let two = both_are _ _ p all.0 in
    let name = tested_is is_method_name flaw.Name (Ok n) p.0 two.0 in
    let same = same_ok n p.0 name.0 in
    let described = tested_is (is_method_descriptor_for (is_static access || is_initializer_name n)) flaw.Descriptor (Ok (descriptor_of w)) p.1 two.1 in
    let permitted = asked_is (is_permitted (sort_of class_access) access n) flaw.Flags tt all.1 in
    record {
      small = small;
      named = name.1;
      described = subst (λ (m : List ℕ). IsTrue (is_method_descriptor_for (is_static access || is_initializer_name m) p.1)) same described.1;
      permitted = permitted_is class_access access p.0 (subst (λ (m : List ℕ). IsTrue (is_permitted (sort_of class_access) access m)) same permitted);
    }
head_formed class_access access (Err f) p small e = absurd cc

method_formed : (r : Reading) (switch : OpenSwitch) (ts : List Lexeme) (s : Statement) → method_line (sort_of r.access) ts ≡ Ok s → IsFormedStatement r switch s
unfolding method_line
method_formed r switch ts s e =
    let access = flags_in method_words (but_last ts) in
    said_gives (IsFormedStatement r switch) (λ (p : List ℕ × List ℕ). statement.Method access p.0 p.1) _ s e (λ p is.
    let all = unless_is (method_head_at (sort_of r.access) access (word_at (last_of ts))) (access_words method_words (but_last ts)) p is in
    head_formed r.access access (word_at (last_of ts)) p (method_flags_small (but_last ts)) all.0)

limit_of : (r : Reading) (switch : OpenSwitch) (stack : Bool) (n : ℕ) → IsU2 n → IsFormedStatement r switch (cond stack (statement.MaxStack n) (statement.MaxLocals n))
limit_of r switch true n small = small
limit_of r switch false n small = small

limit_formed : (r : Reading) (switch : OpenSwitch) (ts : List Lexeme) (s : Statement) → limit_line ts ≡ Ok s → IsFormedStatement r switch s
unfolding limit_line
limit_formed r switch ts s e =
    said_gives (IsFormedStatement r switch) (λ (p : Bool × ℕ). cond p.0 (statement.MaxStack p.1) (statement.MaxLocals p.1)) _ s e (λ p is.
    let two = both_are _ _ p (unless_is _ _ p is).0 in
    limit_of r switch p.0 p.1 (u16_small (slice_get ts 1) p.1 two.1))

catch_formed : (r : Reading) (switch : OpenSwitch) (ts : List Lexeme) (s : Statement) → catch_line ts ≡ Ok s → IsFormedStatement r switch s
unfolding catch_line
catch_formed r switch ts s e =
    said_gives (IsFormedStatement r switch) (λ (p : Caught × (List ℕ × (List ℕ × List ℕ))). statement.Catch (record { caught = p.0; from = p.1.0; to = p.1.1.0; using = p.1.1.1 })) _ s e (λ p is.
    let two = both_are _ _ p (unless_is _ _ p is).0 in
    caught_is (slice_get ts 0) p.0 two.0)

throws_formed : (r : Reading) (switch : OpenSwitch) (ts : List Lexeme) (s : Statement) → throws_line ts ≡ Ok s → IsFormedStatement r switch s
unfolding throws_line
throws_formed r switch ts s e =
    said_gives (IsFormedStatement r switch) (λ (name : List ℕ). statement.Throws name) _ s e (λ name is.
    (class_is (slice_get ts 0) name (unless_is (class_at (slice_get ts 0)) (exactly 1 ts) name is).0).1)

-- ---- Lines that are dropped

bytecode_formed : (r : Reading) (switch : OpenSwitch) (ts : List Lexeme) (s : Statement) → bytecode_line ts ≡ Ok s → IsFormedStatement r switch s
unfolding bytecode_line
bytecode_formed r switch ts s e = said_gives (IsFormedStatement r switch) (λ (u : Unit {0} × Unit {0}). statement.Bytecode) _ s e (λ u is. tt)

source_formed : (r : Reading) (switch : OpenSwitch) (ts : List Lexeme) (s : Statement) → source_line ts ≡ Ok s → IsFormedStatement r switch s
unfolding source_line
source_formed r switch ts s e = said_gives (IsFormedStatement r switch) (λ (u : Unit {0} × Unit {0}). statement.SourceFile) _ s e (λ u is. tt)

end_formed : (r : Reading) (switch : OpenSwitch) (ts : List Lexeme) (s : Statement) → end_line ts ≡ Ok s → IsFormedStatement r switch s
unfolding end_line
end_formed r switch ts s e = said_gives (IsFormedStatement r switch) (λ (u : Unit {0} × Unit {0}). statement.EndMethod) _ s e (λ u is. tt)

line_formed : (r : Reading) (switch : OpenSwitch) (ts : List Lexeme) (s : Statement) → line_line ts ≡ Ok s → IsFormedStatement r switch s
unfolding line_line
line_formed r switch ts s e = said_gives (IsFormedStatement r switch) _ _ s e (λ u is. tt)

var_formed : (r : Reading) (switch : OpenSwitch) (ts : List Lexeme) (s : Statement) → var_line ts ≡ Ok s → IsFormedStatement r switch s
unfolding var_line
var_formed r switch ts s e = said_gives (IsFormedStatement r switch) _ _ s e (λ u is. tt)

directive_formed : (r : Reading) (switch : OpenSwitch) (d : Directive) (ts : List Lexeme) (s : Statement) → IsTrue (is_placed r.part (is_some r.method) (part_of d)) → directive_line d (sort_of r.access) ts ≡ Ok s → IsFormedStatement r switch s
directive_formed r switch directive.Bytecode ts s placed e = bytecode_formed r switch ts s e
directive_formed r switch directive.Source ts s placed e = source_formed r switch ts s e
directive_formed r switch directive.Class ts s placed e = class_formed r switch 32 ts s (omega arith) placed e
directive_formed r switch directive.Interface ts s placed e = class_formed r switch 1536 ts s (omega arith) placed e
directive_formed r switch directive.Super ts s placed e = super_formed r switch ts s placed e
directive_formed r switch directive.Implements ts s placed e = implements_formed r switch ts s placed e
directive_formed r switch directive.Field ts s placed e = field_formed r switch ts s e
directive_formed r switch directive.Method ts s placed e = method_formed r switch ts s e
directive_formed r switch directive.End ts s placed e = end_formed r switch ts s e
directive_formed r switch directive.Limit ts s placed e = limit_formed r switch ts s e
directive_formed r switch directive.Catch ts s placed e = catch_formed r switch ts s e
directive_formed r switch directive.Throws ts s placed e = throws_formed r switch ts s e
directive_formed r switch directive.Line ts s placed e = line_formed r switch ts s e
directive_formed r switch directive.Var ts s placed e = var_formed r switch ts s e

-- ---- Lines of a switch

table_formed : (r : Reading) (next : ℤ) (ts : List Lexeme) (s : Statement) → table_line next ts ≡ Ok s → IsFormedStatement r (open_switch.Table next) s
unfolding table_line
table_formed r next ts s e =
    said_gives (IsFormedStatement r (open_switch.Table next)) (λ (label : List ℕ). statement.TableLabel label) _ s e (λ label is.
    asked_is (int_le next (pos 2147483647)) flaw.Number tt (unless_is _ (judge_test (int_le next (pos 2147483647)) flaw.Number) label is).1)

rising_is : (last : Option ℤ) (j : Judged ℤ) (n : ℤ) → rising_at last j ≡ Ok n → (j ≡ Ok n) × IsTrue (is_above last n)
rising_is last (Ok m) n e =
    choose (is_above last m) (Ok m) (Err flaw.Operand) (Ok n) e
    (λ met is. (is, subst (λ (k : ℤ). IsTrue (is_above last k)) (same_ok m n is) met))
    (λ unmet is. absurd cc)
rising_is last (Err f) n e = absurd cc

match_formed : (r : Reading) (last : Option ℤ) (ts : List Lexeme) (s : Statement) → match_line last ts ≡ Ok s → IsFormedStatement r (open_switch.Lookup last) s
unfolding match_line
match_formed r last ts s e =
    said_gives (IsFormedStatement r (open_switch.Lookup last)) (λ (p : ℤ × List ℕ). statement.Match (record { value = p.0; label = p.1 })) _ s e (λ p is.
    let value = rising_is last (i32_at (slice_get ts 0)) p.0 (both_are _ _ p is).0 in
    (i32_signed (slice_get ts 0) p.0 value.0, value.1))

case_formed : (r : Reading) (switch : OpenSwitch) (ts : List Lexeme) (s : Statement) → case_line switch ts ≡ Ok s → IsFormedStatement r switch s
case_formed r open_switch.None ts s e = absurd cc
case_formed r (open_switch.Table next) ts s e = table_formed r next ts s e
case_formed r (open_switch.Lookup last) ts s e = match_formed r last ts s e

default_formed : (r : Reading) (switch : OpenSwitch) (ts : List Lexeme) (s : Statement) → IsTrue (has_labels r.method) → default_line ts ≡ Ok s → IsFormedStatement r switch s
unfolding default_line
default_formed r switch ts s labels e =
    said_gives (IsFormedStatement r switch) (λ (label : List ℕ). statement.Default label) (label_after_colon ts) s e (λ label is. labels)

-- ---- A line

pub statement_formed : (r : Reading) (k : LineKind) (ts : List Lexeme) (s : Statement) → IsTrue (is_in_place r k) → statement_of (sort_of r.access) (switch_of r) k ts ≡ Ok s → IsFormedStatement r (switch_of r) s
unfolding statement_of is_in_place
statement_formed r kind.Blank ts s placed e = subst (IsFormedStatement r (switch_of r)) (same_ok statement.Blank s e) tt
statement_formed r (kind.Directive d) ts s placed e =
    directive_formed r (switch_of r) d (drop 1 ts) s (and_parts (has_no_switch (switch_of r)) (is_placed r.part (is_some r.method) (part_of d)) placed).1 e
statement_formed r kind.Case ts s placed e = case_formed r (switch_of r) ts s e
statement_formed r kind.Default ts s placed e = default_formed r (switch_of r) ts s placed e
statement_formed r kind.Label ts s placed e =
    said_gives (IsFormedStatement r (switch_of r)) (λ (label : List ℕ). statement.Label label) (label_line ts) s e (λ label is. tt)
statement_formed r (kind.Instruction code) ts s placed e =
    said_gives (IsFormedStatement r (switch_of r)) (λ (i : Instruction). statement.Instruction i) (instruction_line code (drop 1 ts)) s e (λ i is.
    instruction_formed code (drop 1 ts) i is)
statement_formed r (kind.LabelledInstruction code) ts s placed e =
    said_gives (IsFormedStatement r (switch_of r)) (λ (p : List ℕ × Instruction). statement.LabelledInstruction p.0 p.1) _ s e (λ p is.
    instruction_formed code (drop 3 ts) p.1 (both_are (label_line ts) (instruction_line code (drop 3 ts)) p is).1)
