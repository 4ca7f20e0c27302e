-- Proves that an instruction that is read from a line has its form.
use Rattle.std.proofs.Common.{◌≡◌, ◌==◌, ℕ, ◌+◌, Bool, true, false, not, ◌||◌, List, [], Option, Some, None, Ok, Err, IsTrue, ℤ, pos, neg_ℤ, ◌-◌, ◌^◌, slice_get, option_map, refl, sym, ap, subst}
use Rattle.std.proofs.lemmas.Bool.{eqb-true}
use Rattle.jvms_file.specs.declared.descriptor.MethodType.{MethodType}
use Rattle.jvms_file.specs.declared.insn.TheConstants.{OPCODES}
use Rattle.jvms_file.specs.declared.insn.Opcode.{Opcode}
use Rattle.jvms_file.specs.declared.insn.Opcode.TheVariants as opcode
use Rattle.jvms_file.specs.declared.insn.ArrayType.{ArrayType}
use Rattle.jvms_file.specs.declared.insn.FieldUse.{FieldUse}
use Rattle.jvms_file.specs.declared.insn.Invoke.{Invoke}
use Rattle.jvms_file.specs.declared.insn.Invoke.TheVariants as invoke
use Rattle.jvms_file.specs.declared.insn.ClassUse.{ClassUse}
use Rattle.jvms_file.specs.declared.insn.ClassUse.TheVariants as class_use
use Rattle.jvms_file.specs.Names.{is_name, is_method_name}
use Rattle.jvms_file.specs.Descriptors.{is_class_entry_name, parameter_units}
use Rattle.jvms_file.specs.Instructions.{is_invocable_name, is_usable_class, is_dimensions, interface_count}
use Rattle.jvms_file.specs.Members.{is_method_descriptor_for}
use Rattle.jvms_file.specs.Spelling.{IsU1, IsOpcode}
use Rattle.jasmin.specs.declared.token.Lexeme.{Lexeme}
use Rattle.jasmin.specs.declared.token.Lexeme.TheVariants as lexeme
use Rattle.jasmin.specs.declared.source.LoadedConstant.{LoadedConstant}
use Rattle.jasmin.specs.declared.source.LoadedConstant.TheVariants as loaded
use Rattle.jasmin.specs.declared.source.ConstantWidth.{ConstantWidth}
use Rattle.jasmin.specs.declared.source.BranchWidth.TheVariants as branch_width
use Rattle.jasmin.specs.declared.source.Operation.{Operation}
use Rattle.jasmin.specs.declared.source.Operation.TheVariants as operation
use Rattle.jasmin.specs.declared.statement.Flaw.TheVariants as flaw
use Rattle.jasmin.specs.declared.statement.Instruction.{Instruction}
use Rattle.jasmin.specs.declared.statement.Instruction.TheVariants as instruction
use Rattle.jasmin.specs.Judgements.{Judged, judge_test}
use Rattle.jasmin.specs.Numerals.{number_of}
use Rattle.jasmin.specs.Operands.{exactly, word_at, class_at, class_of, name_of, is_member, before_descriptor, descriptor_of, label_at, u8_at, u16_at, i8_at, i16_at, i32_at, i64_at, array_type_at}
use Rattle.jasmin.specs.Statements.{word_or_none, whole, alone, loaded_word, loaded_at, constant_operation, increment_operation, branch_operation, field_operation, named_method, method_at, is_count, counted_at, operands_after_method, invoke_operation, is_usable_word, class_operation, new_array_operation, dimensions_at, multi_new_array_operation, instruction_with, instruction_line}
use Rattle.source_form_laws.specs.Formed.{IsSigned, IsClassOrArray, IsFormedLoad, IsCounted, IsFormedOperation}
use Rattle.source_form_laws.proofs.Judged.{same_ok, choose, said_gives, both_are, unless_is, asked_is, tested_is}
use Rattle.source_form_laws.proofs.Operands.{number_between, u8_small, u16_small, class_is, field_descriptor_is, member_parts, described_type}

-- The form of the statement of an instruction's line.
abbrev pub IsFormedInstruction : Instruction → Type 0
IsFormedInstruction (instruction.Whole o) = IsFormedOperation o
IsFormedInstruction (instruction.Table low) = IsSigned 31 low
IsFormedInstruction instruction.Lookup = Unit {0}

-- ---- Signed numbers

-- A line with a single operand has the value of that operand.
alone_is : {A : Type 0} (at : Option Lexeme → Judged A) (ts : List Lexeme) (x : A) → alone at ts ≡ Ok x → at (slice_get ts 0) ≡ Ok x
alone_is at ts x e = (unless_is (at (slice_get ts 0)) (exactly 1 ts) x e).0

i8_signed : (t : Option Lexeme) (n : ℤ) → i8_at t ≡ Ok n → IsSigned 7 n
i8_signed t n e = number_between (neg_ℤ (pos (2 ^ 7))) (pos (2 ^ 7 - 1)) t n e

i16_signed : (t : Option Lexeme) (n : ℤ) → i16_at t ≡ Ok n → IsSigned 15 n
i16_signed t n e = number_between (neg_ℤ (pos (2 ^ 15))) (pos (2 ^ 15 - 1)) t n e

pub i32_signed : (t : Option Lexeme) (n : ℤ) → i32_at t ≡ Ok n → IsSigned 31 n
i32_signed t n e = number_between (neg_ℤ (pos (2 ^ 31))) (pos (2 ^ 31 - 1)) t n e

pub i64_signed : (t : Option Lexeme) (n : ℤ) → i64_at t ≡ Ok n → IsSigned 63 n
i64_signed t n e = number_between (neg_ℤ (pos (2 ^ 63))) (pos (2 ^ 63 - 1)) t n e

-- ---- Operations of constants and locals

loaded_word_formed : (w : List ℕ) (o : Option ℤ) (c : LoadedConstant) → loaded_word w o ≡ Ok c → IsFormedLoad c
loaded_word_formed w (Some n) c e =
    said_gives IsFormedLoad (λ (m : ℤ). loaded.Integer m) (i32_at (Some (lexeme.Word w))) c e (λ m is. i32_signed (Some (lexeme.Word w)) m is)
loaded_word_formed w None c e =
    said_gives IsFormedLoad (λ (name : List ℕ). loaded.Class name) (class_at (Some (lexeme.Word w))) c e (λ name is. (class_is (Some (lexeme.Word w)) name is).1)

loaded_formed : (t : Option Lexeme) (c : LoadedConstant) → loaded_at t ≡ Ok c → IsFormedLoad c
loaded_formed (Some (lexeme.Text t)) c e = subst IsFormedLoad (same_ok (loaded.String t) c e) tt
loaded_formed (Some (lexeme.Word w)) c e = loaded_word_formed w (number_of w) c e
loaded_formed _ c e = absurd cc

constant_formed : (width : ConstantWidth) (ts : List Lexeme) (o : Operation) → constant_operation width ts ≡ Ok o → IsFormedOperation o
unfolding constant_operation IsFormedOperation
constant_formed width ts o e =
    said_gives IsFormedOperation (λ (c : LoadedConstant). operation.Constant width c) (alone loaded_at ts) o e (λ c is.
    loaded_formed (slice_get ts 0) c (alone_is loaded_at ts c is))

increment_formed : (ts : List Lexeme) (o : Operation) → increment_operation ts ≡ Ok o → IsFormedOperation o
unfolding increment_operation IsFormedOperation
increment_formed ts o e =
    said_gives IsFormedOperation (λ (p : ℕ × ℤ). operation.Increment p.0 p.1) _ o e (λ p is.
    let two = both_are _ _ p (unless_is _ _ p is).0 in
    (u16_small (slice_get ts 0) p.0 two.0, i16_signed (slice_get ts 1) p.1 two.1))

-- ---- Operations of fields and methods

field_formed : (how : FieldUse) (ts : List Lexeme) (o : Operation) → field_operation how ts ≡ Ok o → IsFormedOperation o
unfolding field_operation IsFormedOperation
field_formed how ts o e =
    said_gives IsFormedOperation (λ (p : List ℕ × List ℕ). operation.Field how (record { class = class_of p.0; name = name_of p.0; descriptor = p.1 })) _ o e (λ p is.
    let two = both_are _ _ p (unless_is _ _ p is).0 in
    let member = member_parts is_name p.0 (tested_is (is_member is_name) flaw.Name (word_at (slice_get ts 0)) p.0 two.0).1 in
    (member.0, member.1, (field_descriptor_is (slice_get ts 1) p.1 two.1).1))

-- The parts of a method's name and descriptor that a word spells.
record IsNamed (how : Invoke) (w : List ℕ) (p : List ℕ × List ℕ) : Type 0 where
  pub descriptor : p.1 ≡ descriptor_of w
  pub member : IsClassOrArray (class_of p.0) × IsTrue (is_method_name (name_of p.0))
  pub described : IsTrue (is_method_descriptor_for true p.1)
  pub invocable : IsTrue (is_invocable_name how (name_of p.0))

named_is : (how : Invoke) (w : List ℕ) (p : List ℕ × List ℕ) → named_method how w ≡ Ok p → IsNamed how w p
named_is how w p e =
    let all = unless_is _ (judge_test (is_invocable_name how (name_of (before_descriptor w))) flaw.Operand) p e in
    let two = both_are _ _ p all.0 in
    let name = tested_is (is_member is_method_name) flaw.Name (Ok (before_descriptor w)) p.0 two.0 in
    let described = tested_is (is_method_descriptor_for true) flaw.Descriptor (Ok (descriptor_of w)) p.1 two.1 in
    let invocable = asked_is (is_invocable_name how (name_of (before_descriptor w))) flaw.Operand tt all.1 in
    record {
      descriptor = sym (same_ok (descriptor_of w) p.1 described.0);
      member = member_parts is_method_name p.0 name.1;
      described = described.1;
      invocable = subst (λ (n : List ℕ). IsTrue (is_invocable_name how (name_of n))) (same_ok (before_descriptor w) p.0 name.0) invocable;
    }

method_is : (how : Invoke) (t : Option Lexeme) (p : List ℕ × List ℕ) → method_at how t ≡ Ok p → IsNamed how (word_or_none t) p
method_is how (Some (lexeme.Word w)) p e = named_is how w p e
method_is how (Some _) p e = absurd cc
method_is how None p e = absurd cc

count_small : (d : List ℕ) (j : Judged ℕ) → IsTrue (is_method_descriptor_for true d) → ((n : ℕ) → j ≡ Ok n → IsU1 n) → counted_at d j ≡ Ok tt → (units : ℕ) × (interface_count (Some ([], d)) ≡ Some units) × IsU1 units
count_small d (Ok n) described small e =
    let typed = described_type true d described in
    let units = parameter_units typed.0 + 1 in
    let count : interface_count (Some ([], d)) ≡ Some units = ap (λ (o : Option MethodType). option_map (λ (t : MethodType). parameter_units t + 1) o) typed.1 in
    let asked_for = asked_is (is_count n (interface_count (Some ([], d)))) flaw.Operand tt e in
    let same : IsTrue (n == units) = subst (λ (o : Option ℕ). IsTrue (is_count n o)) count asked_for in
    (units, count, subst IsU1 (eqb-true n units same) (small n refl))
count_small d (Err f) described small e = absurd cc

counted_is : (how : Invoke) (ts : List Lexeme) (p : List ℕ × List ℕ) → IsNamed how (word_or_none (slice_get ts 0)) p → operands_after_method how ts ≡ Ok tt → IsCounted how p.1
counted_is invoke.Interface ts p named e =
    let d = descriptor_of (word_or_none (slice_get ts 0)) in
    let described = subst (λ (text : List ℕ). IsTrue (is_method_descriptor_for true text)) named.descriptor named.described in
    let all = unless_is (counted_at d (u8_at (slice_get ts 1))) (exactly 2 ts) tt e in
    subst (λ (text : List ℕ). IsCounted invoke.Interface text) (sym named.descriptor)
    (count_small d (u8_at (slice_get ts 1)) described (λ n is. u8_small (slice_get ts 1) n is) all.0)
counted_is _ ts p named e = tt

invoke_formed : (how : Invoke) (ts : List Lexeme) (o : Operation) → invoke_operation how ts ≡ Ok o → IsFormedOperation o
unfolding invoke_operation IsFormedOperation
invoke_formed how ts o e =
    said_gives IsFormedOperation (λ (p : List ℕ × List ℕ). operation.Invoke how (record { class = class_of p.0; name = name_of p.0; descriptor = p.1 })) _ o e (λ p is.
    let all = unless_is (method_at how (slice_get ts 0)) (operands_after_method how ts) p is in
    let named = method_is how (slice_get ts 0) p all.0 in
    (named.member.0, named.member.1, named.invocable, named.described, counted_is how ts p named all.1))

-- ---- Operations of classes

or_behind : (a b : Bool) → IsTrue a → IsTrue (not a || b) → IsTrue b
or_behind true b holds e = e
or_behind false b holds e = absurd cc

usable : (how : ClassUse) (w : List ℕ) → IsClassOrArray w → IsTrue (is_usable_word how w) → IsTrue (is_usable_class how w)
usable class_use.New w named e = e
usable how w named e = or_behind (is_class_entry_name w) (is_usable_class how w) named e

class_formed : (how : ClassUse) (ts : List Lexeme) (o : Operation) → class_operation how ts ≡ Ok o → IsFormedOperation o
unfolding class_operation IsFormedOperation
class_formed how ts o e =
    said_gives IsFormedOperation (λ (name : List ℕ). operation.Class how name) _ o e (λ name is.
    let w = word_or_none (slice_get ts 0) in
    let all = unless_is (class_at (slice_get ts 0)) (judge_test (is_usable_word how w) flaw.Operand) name (unless_is _ _ name is).0 in
    let class = class_is (slice_get ts 0) name all.0 in
    let word = subst (λ (v : List ℕ). IsTrue (is_usable_word how v)) class.0 (asked_is (is_usable_word how w) flaw.Operand tt all.1) in
    (class.1, usable how name class.1 word))

dimensions_are : (name : List ℕ) (j : Judged ℕ) (n : ℕ) → dimensions_at name j ≡ Ok n → (j ≡ Ok n) × IsTrue (is_dimensions n (Some name))
dimensions_are name (Ok m) n e =
    choose (is_dimensions m (Some name)) (Ok m) (Err flaw.Operand) (Ok n) e
    (λ met is. (is, subst (λ (k : ℕ). IsTrue (is_dimensions k (Some name))) (same_ok m n is) met))
    (λ unmet is. absurd cc)
dimensions_are name (Err f) n e = absurd cc

multi_formed : (ts : List Lexeme) (o : Operation) → multi_new_array_operation ts ≡ Ok o → IsFormedOperation o
unfolding multi_new_array_operation IsFormedOperation
multi_formed ts o e =
    said_gives IsFormedOperation (λ (p : List ℕ × ℕ). operation.MultiNewArray p.0 p.1) _ o e (λ p is.
    let w = word_or_none (slice_get ts 0) in
    let two = both_are _ _ p (unless_is _ _ p is).0 in
    let class = class_is (slice_get ts 0) p.0 two.0 in
    let count = dimensions_are w (u8_at (slice_get ts 1)) p.1 two.1 in
    (class.1, u8_small (slice_get ts 1) p.1 count.0, subst (λ (v : List ℕ). IsTrue (is_dimensions p.1 (Some v))) class.0 count.1))

-- ---- Instructions

whole_formed : (j : Judged Operation) (i : Instruction) → whole j ≡ Ok i → ((o : Operation) → j ≡ Ok o → IsFormedOperation o) → IsFormedInstruction i
whole_formed j i e each = said_gives IsFormedInstruction (λ (o : Operation). instruction.Whole o) j i e each

-- The instruction of an opcode has its form.
with_formed : (code : ℕ) (form : Opcode) (ts : List Lexeme) (i : Instruction) → IsOpcode code form → instruction_with code form ts ≡ Ok i → IsFormedInstruction i
unfolding IsFormedOperation branch_operation new_array_operation
with_formed code (opcode.Alone s) ts i is e =
    whole_formed _ i e (λ o f. said_gives IsFormedOperation (λ (u : Unit {0}). operation.Alone code) (exactly 0 ts) o f (λ u _. (s, is)))
with_formed code opcode.PushByte ts i is e =
    whole_formed _ i e (λ o f. said_gives IsFormedOperation (λ (n : ℤ). operation.PushByte n) (alone i8_at ts) o f (λ n g. i8_signed (slice_get ts 0) n (alone_is i8_at ts n g)))
with_formed code opcode.PushShort ts i is e =
    whole_formed _ i e (λ o f. said_gives IsFormedOperation (λ (n : ℤ). operation.PushShort n) (alone i16_at ts) o f (λ n g. i16_signed (slice_get ts 0) n (alone_is i16_at ts n g)))
with_formed code opcode.Constant ts i is e = whole_formed _ i e (λ o f. constant_formed _ ts o f)
with_formed code opcode.ConstantWide ts i is e = whole_formed _ i e (λ o f. constant_formed _ ts o f)
with_formed code opcode.ConstantLong ts i is e =
    whole_formed _ i e (λ o f. said_gives IsFormedOperation (λ (n : ℤ). operation.ConstantLong n) (alone i64_at ts) o f (λ n g. i64_signed (slice_get ts 0) n (alone_is i64_at ts n g)))
with_formed code (opcode.Local how) ts i is e =
    whole_formed _ i e (λ o f. said_gives IsFormedOperation (λ (n : ℕ). operation.Local how n) (alone u16_at ts) o f (λ n g. u16_small (slice_get ts 0) n (alone_is u16_at ts n g)))
with_formed code opcode.Increment ts i is e = whole_formed _ i e (λ o f. increment_formed ts o f)
with_formed code (opcode.Branch how) ts i is e =
    whole_formed _ i e (λ o f. said_gives IsFormedOperation (λ (label : List ℕ). operation.Branch branch_width.Short how label) (alone label_at ts) o f (λ label g. tt))
with_formed code (opcode.BranchWide how) ts i is e =
    whole_formed _ i e (λ o f. said_gives IsFormedOperation (λ (label : List ℕ). operation.Branch branch_width.Wide how label) (alone label_at ts) o f (λ label g. (code, is)))
with_formed code opcode.TableSwitch ts i is e =
    said_gives IsFormedInstruction (λ (low : ℤ). instruction.Table low) (alone i32_at ts) i e (λ low g. i32_signed (slice_get ts 0) low (alone_is i32_at ts low g))
with_formed code opcode.LookupSwitch ts i is e =
    said_gives IsFormedInstruction (λ (u : Unit {0}). instruction.Lookup) (exactly 0 ts) i e (λ u g. tt)
with_formed code (opcode.Field how) ts i is e = whole_formed _ i e (λ o f. field_formed how ts o f)
with_formed code (opcode.Invoke how) ts i is e = whole_formed _ i e (λ o f. invoke_formed how ts o f)
with_formed code (opcode.Class how) ts i is e = whole_formed _ i e (λ o f. class_formed how ts o f)
with_formed code opcode.NewArray ts i is e =
    whole_formed _ i e (λ o f. said_gives IsFormedOperation (λ (type : ArrayType). operation.NewArray type) (alone array_type_at ts) o f (λ type g. tt))
with_formed code opcode.MultiNewArray ts i is e = whole_formed _ i e (λ o f. multi_formed ts o f)
with_formed code opcode.Wide ts i is e = absurd cc
with_formed code opcode.Reserved ts i is e = absurd cc

pub instruction_formed : (code : ℕ) (ts : List Lexeme) (i : Instruction) → instruction_line code ts ≡ Ok i → IsFormedInstruction i
unfolding instruction_line
instruction_formed code ts i e = of_form (slice_get OPCODES code) refl
  where
    of_form : (o : Option Opcode) → slice_get OPCODES code ≡ o → IsFormedInstruction i
    of_form (Some form) is = with_formed code form ts i is (rw is at e)
    of_form None is = let none : ◌≡◌ {A = Judged Instruction} (Err flaw.UnknownInstruction) (Ok i) = rw is at e in absurd cc
