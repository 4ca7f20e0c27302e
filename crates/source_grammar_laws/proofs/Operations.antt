-- Proves that tokens that are read as an instruction spell this instruction.
use Rattle.std.proofs.Common.{◌≡◌, ℕ, ◌+◌, ◌-◌, ◌^◌, ◌==◌, ◌||◌, Bool, true, false, not, List, [], ◌∷◌, ◌++◌, length, Option, Some, None, Ok, Err, IsTrue, ℤ, refl, sym, ap, subst, ◌∙◌, option_map}
use Rattle.std.specs.Prelude.{slice_get, is_some, pos, neg_ℤ}
use Rattle.std.proofs.lemmas.Bool.{eqb-true}
use Rattle.std.proofs.lemmas.Option.{none-some}
use Rattle.jvms_file.specs.declared.descriptor.MethodType.{MethodType}
use Rattle.jvms_file.specs.declared.insn.TheConstants.{OPCODES}
use Rattle.jvms_file.specs.declared.insn.Opcode.{Opcode}
use Rattle.jvms_file.specs.declared.insn.Opcode.TheVariants as opcode
use Rattle.jvms_file.specs.declared.insn.ArrayType.{ArrayType}
use Rattle.jvms_file.specs.declared.insn.Branch.{Branch}
use Rattle.jvms_file.specs.declared.insn.LocalUse.{LocalUse}
use Rattle.jvms_file.specs.declared.insn.FieldUse.{FieldUse}
use Rattle.jvms_file.specs.declared.insn.Invoke.{Invoke}
use Rattle.jvms_file.specs.declared.insn.Invoke.TheVariants as invoke
use Rattle.jvms_file.specs.declared.insn.ClassUse.{ClassUse}
use Rattle.jvms_file.specs.declared.insn.ClassUse.TheVariants as class_use
use Rattle.jvms_file.specs.Names.{is_name, is_method_name}
use Rattle.jvms_file.specs.Descriptors.{is_class_entry_name, field_type_of, parameter_units}
use Rattle.jvms_file.specs.Instructions.{is_invocable_name, is_usable_class, is_dimensions, interface_count}
use Rattle.jvms_file.specs.Members.{is_method_descriptor_for}
use Rattle.jvms_file.specs.Spelling.{IsOpcode}
use Rattle.jasmin.specs.declared.token.Lexeme.{Lexeme}
use Rattle.jasmin.specs.declared.token.Lexeme.TheVariants as lexeme
use Rattle.jasmin.specs.declared.source.LoadedConstant.{LoadedConstant}
use Rattle.jasmin.specs.declared.source.LoadedConstant.TheVariants as loaded
use Rattle.jasmin.specs.declared.source.ConstantWidth.TheVariants as constant_width
use Rattle.jasmin.specs.declared.source.BranchWidth.TheVariants as branch_width
use Rattle.jasmin.specs.declared.source.Operation.{Operation}
use Rattle.jasmin.specs.declared.source.Operation.TheVariants as operation
use Rattle.jasmin.specs.declared.statement.Flaw.TheVariants as flaw
use Rattle.jasmin.specs.declared.statement.Instruction.{Instruction}
use Rattle.jasmin.specs.declared.statement.Instruction.TheVariants as instruction
use Rattle.jasmin.specs.Judgements.{Judged, map_ok, judge_test, unless}
use Rattle.jasmin.specs.Numerals.{number_of}
use Rattle.jasmin.specs.LineKinds.{opcode_named}
use Rattle.jasmin.specs.Operands.{exactly, word_at, word_if, class_at, field_descriptor_at, class_of, name_of, is_member, before_descriptor, descriptor_of, label_at, number_at, u8_at, u16_at, i8_at, i16_at, i32_at, i64_at, array_type_at}
use Rattle.jasmin.specs.Statements.{word_or_none, whole, alone, loaded_word, loaded_at, constant_operation, increment_operation, branch_operation, field_operation, named_method, method_at, is_count, counted_at, operands_after_method, invoke_operation, is_usable_word, class_operation, new_array_operation, dimensions_at, multi_new_array_operation, instruction_with, instruction_line}
use Rattle.source_form_laws.proofs.Judged.{same_ok, choose, said_gives, both_are, unless_is, asked_is, tested_is}
use Rattle.source_form_laws.proofs.Operands.{described_type}
use Rattle.source_grammar_laws.specs.Numbers.{SpellsNumber, SpellsSigned}
use Rattle.source_grammar_laws.specs.Words.{IsClass, HasNoParenthesis, IsLabel, type_word}
use Rattle.source_grammar_laws.specs.Instructions.{IsMnemonic, Begins, SpellsLoaded, SpellsCount, SpellsOperation, SpellsInstruction}
use Rattle.source_grammar_laws.proofs.Labels.{label_said}
use Rattle.source_grammar_laws.proofs.Cuts.{these}
use Rattle.source_grammar_laws.proofs.Numbers.{number_says}
use Rattle.source_grammar_laws.proofs.Members.{none_before, whole_word, member_said}
use Rattle.source_grammar_laws.proofs.Mnemonics.{mnemonic_said}
use Rattle.source_grammar_laws.proofs.Places.{place_said, exactly_said, number_place_said, u16_said, u8_said, array_type_said}

-- ---- The mnemonic and the operands

-- A word is the mnemonic of an opcode of this form.
record IsHead (w : List ℕ) (code : ℕ) (form : Opcode) : Type 0 where
  pub named : IsMnemonic w code
  pub opcode : IsOpcode code form

begins : (w : List ℕ) (code : ℕ) (form : Opcode) (ts operands : List Lexeme) → IsHead w code form → ts ≡ operands → Begins (lexeme.Word w ∷ ts) form operands
begins w code form ts operands h e = (code, (w, ap (λ (os : List Lexeme). lexeme.Word w ∷ os) e, h.named, h.opcode))

-- A line has a single operand, of this value.
record IsAlone {A : Type 0} (at : Option Lexeme → Judged A) (ts : List Lexeme) (x : A) : Type 0 where
  pub read : at (slice_get ts 0) ≡ Ok x
  pub one : length ts ≡ 1

alone_said : {A : Type 0} (at : Option Lexeme → Judged A) (ts : List Lexeme) (x : A) → alone at ts ≡ Ok x → IsAlone at ts x
alone_said at ts x e =
    let both = unless_is (at (slice_get ts 0)) (exactly 1 ts) x e in
    record { read = both.0; one = exactly_said 1 ts tt both.1 }

one_is : (ts : List Lexeme) (t : Lexeme) → length ts ≡ 1 → slice_get ts 0 ≡ Some t → ts ≡ t ∷ []
one_is ts t size first = these ts (t ∷ []) size (first, tt)

two_are : (ts : List Lexeme) (t u : Lexeme) → length ts ≡ 2 → slice_get ts 0 ≡ Some t → slice_get ts 1 ≡ Some u → ts ≡ t ∷ u ∷ []
two_are ts t u size first second = these ts (t ∷ u ∷ []) size (first, (second, tt))

none_is : (ts : List Lexeme) → length ts ≡ 0 → ts ≡ []
none_is ts size = these ts [] size tt

-- A line has a single operand, a signed number.
record IsSignedAlone (bits : ℕ) (ts : List Lexeme) (z : ℤ) : Type 0 where
  pub w : List ℕ
  pub whole : ts ≡ lexeme.Word w ∷ []
  pub spelled : SpellsSigned bits w z

abbrev signed_at : ℕ → Option Lexeme → Judged ℤ
signed_at bits t = number_at (neg_ℤ (pos (2 ^ bits))) (pos (2 ^ bits - 1)) t

signed_alone : (bits : ℕ) (ts : List Lexeme) (z : ℤ) → alone (signed_at bits) ts ≡ Ok z → IsSignedAlone bits ts z
signed_alone bits ts z e =
    let h = alone_said (signed_at bits) ts z e in
    let n = number_place_said (neg_ℤ (pos (2 ^ bits))) (pos (2 ^ bits - 1)) (slice_get ts 0) z h.read in
    record { w = n.w; whole = one_is ts (lexeme.Word n.w) h.one n.word; spelled = (n.spelled, n.fits) }

-- ---- Constants

loaded_word_said : (w : List ℕ) (o : Option ℤ) (c : LoadedConstant) → number_of w ≡ o → loaded_word w o ≡ Ok c → SpellsLoaded (lexeme.Word w) c
loaded_word_said w (Some n) c is e =
    said_gives (SpellsLoaded (lexeme.Word w)) (λ (m : ℤ). loaded.Integer m) (i32_at (Some (lexeme.Word w))) c e (λ m f.
    let h = number_place_said (neg_ℤ (pos (2 ^ 31))) (pos (2 ^ 31 - 1)) (Some (lexeme.Word w)) m f in
    (h.w, word_same w h.w h.word, (h.spelled, h.fits)))
  where
    word_same : (a b : List ℕ) → ◌≡◌ {A = Option Lexeme} (Some (lexeme.Word a)) (Some (lexeme.Word b)) → lexeme.Word a ≡ lexeme.Word b
    word_same a b e = cc
loaded_word_said w None c is e =
    said_gives (SpellsLoaded (lexeme.Word w)) (λ (name : List ℕ). loaded.Class name) (class_at (Some (lexeme.Word w))) c e (λ name f.
    let h = place_said is_class_entry_name flaw.Name (Some (lexeme.Word w)) name f in
    (word_same w name h.0, h.1, λ z spelled. no_number name z (text_same w name h.0) spelled))
  where
    word_same : (a b : List ℕ) → ◌≡◌ {A = Option Lexeme} (Some (lexeme.Word a)) (Some (lexeme.Word b)) → lexeme.Word a ≡ lexeme.Word b
    word_same a b e = cc

    text_same : (a b : List ℕ) → ◌≡◌ {A = Option Lexeme} (Some (lexeme.Word a)) (Some (lexeme.Word b)) → a ≡ b
    text_same a b e = cc

    no_number : (name : List ℕ) (z : ℤ) → w ≡ name → SpellsNumber name z → ⊥
    no_number name z same spelled = none-some z (sym is ∙ ap (λ (v : List ℕ). number_of v) same ∙ number_says name z spelled)

loaded_said : (o : Option Lexeme) (c : LoadedConstant) → loaded_at o ≡ Ok c → (t : Lexeme) × (o ≡ Some t) × SpellsLoaded t c
loaded_said (Some (lexeme.Text t)) c e =
    subst (λ (d : LoadedConstant). (s : Lexeme) × (Some (lexeme.Text t) ≡ Some s) × SpellsLoaded s d) (same_ok (loaded.String t) c e) (lexeme.Text t, refl, refl)
loaded_said (Some (lexeme.Word w)) c e = (lexeme.Word w, refl, loaded_word_said w (number_of w) c refl e)
loaded_said (Some lexeme.Colon) c e = absurd cc
loaded_said (Some lexeme.Equals) c e = absurd cc
loaded_said None c e = absurd cc

-- A line has a single operand, a constant of `ldc`.
record IsLoadedAlone (ts : List Lexeme) (c : LoadedConstant) : Type 0 where
  pub t : Lexeme
  pub whole : ts ≡ t ∷ []
  pub spelled : SpellsLoaded t c

loaded_alone : (ts : List Lexeme) (c : LoadedConstant) → alone loaded_at ts ≡ Ok c → IsLoadedAlone ts c
loaded_alone ts c e =
    let h = alone_said loaded_at ts c e in
    let l = loaded_said (slice_get ts 0) c h.read in
    record { t = l.0; whole = one_is ts l.0 h.one l.1; spelled = l.2 }

short_constant_said : (w : List ℕ) (code : ℕ) (ts : List Lexeme) (o : Operation) → IsHead w code opcode.Constant → constant_operation constant_width.AsNeeded ts ≡ Ok o → SpellsOperation (lexeme.Word w ∷ ts) o
unfolding constant_operation
short_constant_said w code ts o head e =
    said_gives (SpellsOperation (lexeme.Word w ∷ ts)) (λ (c : LoadedConstant). operation.Constant constant_width.AsNeeded c) (alone loaded_at ts) o e (λ c is.
    let h = loaded_alone ts c is in
    (h.t, begins w code opcode.Constant ts (h.t ∷ []) head h.whole, h.spelled))

wide_constant_said : (w : List ℕ) (code : ℕ) (ts : List Lexeme) (o : Operation) → IsHead w code opcode.ConstantWide → constant_operation constant_width.Wide ts ≡ Ok o → SpellsOperation (lexeme.Word w ∷ ts) o
unfolding constant_operation
wide_constant_said w code ts o head e =
    said_gives (SpellsOperation (lexeme.Word w ∷ ts)) (λ (c : LoadedConstant). operation.Constant constant_width.Wide c) (alone loaded_at ts) o e (λ c is.
    let h = loaded_alone ts c is in
    (h.t, begins w code opcode.ConstantWide ts (h.t ∷ []) head h.whole, h.spelled))

-- ---- Locals and branches

local_said : (w : List ℕ) (code : ℕ) (how : LocalUse) (ts : List Lexeme) (o : Operation) → IsHead w code (opcode.Local how) → map_ok (λ n. operation.Local how n) (alone u16_at ts) ≡ Ok o → SpellsOperation (lexeme.Word w ∷ ts) o
local_said w code how ts o head e =
    said_gives (SpellsOperation (lexeme.Word w ∷ ts)) (λ (n : ℕ). operation.Local how n) (alone u16_at ts) o e (λ n is.
    let h = alone_said u16_at ts n is in
    let u = u16_said (slice_get ts 0) n h.read in
    (u.w, begins w code (opcode.Local how) ts (lexeme.Word u.w ∷ []) head (one_is ts (lexeme.Word u.w) h.one u.word), u.spelled))

increment_said : (w : List ℕ) (code : ℕ) (ts : List Lexeme) (o : Operation) → IsHead w code opcode.Increment → increment_operation ts ≡ Ok o → SpellsOperation (lexeme.Word w ∷ ts) o
unfolding increment_operation
increment_said w code ts o head e =
    said_gives (SpellsOperation (lexeme.Word w ∷ ts)) (λ (p : ℕ × ℤ). operation.Increment p.0 p.1) _ o e (λ p is.
    let all = unless_is _ (exactly 2 ts) p is in
    let two = both_are (u16_at (slice_get ts 0)) (i16_at (slice_get ts 1)) p all.0 in
    let u = u16_said (slice_get ts 0) p.0 two.0 in
    let n = number_place_said (neg_ℤ (pos (2 ^ 15))) (pos (2 ^ 15 - 1)) (slice_get ts 1) p.1 two.1 in
    (u.w, n.w, begins w code opcode.Increment ts (lexeme.Word u.w ∷ lexeme.Word n.w ∷ []) head (two_are ts (lexeme.Word u.w) (lexeme.Word n.w) (exactly_said 2 ts tt all.1) u.word n.word), u.spelled, (n.spelled, n.fits)))

-- A line has a single operand, a label.
label_alone : (ts : List Lexeme) (label : List ℕ) → alone label_at ts ≡ Ok label → (ts ≡ lexeme.Word label ∷ []) × IsLabel label
label_alone ts label e =
    let h = alone_said label_at ts label e in
    let l = label_said (slice_get ts 0) label h.read in
    (one_is ts (lexeme.Word label) h.one l.0, l.1)

branch_said : (w : List ℕ) (code : ℕ) (how : Branch) (ts : List Lexeme) (o : Operation) → IsHead w code (opcode.Branch how) → branch_operation branch_width.Short how ts ≡ Ok o → SpellsOperation (lexeme.Word w ∷ ts) o
unfolding branch_operation
branch_said w code how ts o head e =
    said_gives (SpellsOperation (lexeme.Word w ∷ ts)) (λ (label : List ℕ). operation.Branch branch_width.Short how label) (alone label_at ts) o e (λ label is.
    let l = label_alone ts label is in
    (begins w code (opcode.Branch how) ts (lexeme.Word label ∷ []) head l.0, l.1))

wide_branch_said : (w : List ℕ) (code : ℕ) (how : Branch) (ts : List Lexeme) (o : Operation) → IsHead w code (opcode.BranchWide how) → branch_operation branch_width.Wide how ts ≡ Ok o → SpellsOperation (lexeme.Word w ∷ ts) o
unfolding branch_operation
wide_branch_said w code how ts o head e =
    said_gives (SpellsOperation (lexeme.Word w ∷ ts)) (λ (label : List ℕ). operation.Branch branch_width.Wide how label) (alone label_at ts) o e (λ label is.
    let l = label_alone ts label is in
    (begins w code (opcode.BranchWide how) ts (lexeme.Word label ∷ []) head l.0, l.1))

-- ---- Members

field_said : (w : List ℕ) (code : ℕ) (how : FieldUse) (ts : List Lexeme) (o : Operation) → IsHead w code (opcode.Field how) → field_operation how ts ≡ Ok o → SpellsOperation (lexeme.Word w ∷ ts) o
unfolding field_operation
field_said w code how ts o head e =
    said_gives (SpellsOperation (lexeme.Word w ∷ ts)) (λ (p : List ℕ × List ℕ). operation.Field how (record { class = class_of p.0; name = name_of p.0; descriptor = p.1 })) _ o e (λ p is.
    let all = unless_is _ (exactly 2 ts) p is in
    let two = both_are (word_if (is_member is_name) flaw.Name (word_at (slice_get ts 0))) (field_descriptor_at (slice_get ts 1)) p all.0 in
    let first = place_said (is_member is_name) flaw.Name (slice_get ts 0) p.0 two.0 in
    let second = place_said (λ (v : List ℕ). is_some (field_type_of v)) flaw.Descriptor (slice_get ts 1) p.1 two.1 in
    let member = member_said is_name p.0 first.1 in
    let words = two_are ts (lexeme.Word p.0) (lexeme.Word p.1) (exactly_said 2 ts tt all.1) first.0 second.0 in
    (begins w code (opcode.Field how) ts (lexeme.Word (class_of p.0 ++ 47 ∷ name_of p.0) ∷ lexeme.Word p.1 ∷ []) head (words ∙ ap (λ (v : List ℕ). lexeme.Word v ∷ lexeme.Word p.1 ∷ []) (sym member.whole)), member.class, member.name, second.1))

-- The class, name and descriptor that a word of a method spells.
record IsNamed (how : Invoke) (w : List ℕ) (p : List ℕ × List ℕ) : Type 0 where
  pub whole : p.0 ++ p.1 ≡ w
  pub member : IsTrue (is_member is_method_name p.0)
  pub described : IsTrue (is_method_descriptor_for true p.1)
  pub invocable : IsTrue (is_invocable_name how (name_of p.0))
  pub none : HasNoParenthesis p.0
  pub descriptor : descriptor_of w ≡ p.1

named_said : (how : Invoke) (w : List ℕ) (p : List ℕ × List ℕ) → named_method how w ≡ Ok p → IsNamed how w p
named_said how w p e =
    let all = unless_is _ (judge_test (is_invocable_name how (name_of (before_descriptor w))) flaw.Operand) p e in
    let two = both_are _ _ p all.0 in
    let name = tested_is (is_member is_method_name) flaw.Name (Ok (before_descriptor w)) p.0 two.0 in
    let described = tested_is (is_method_descriptor_for true) flaw.Descriptor (Ok (descriptor_of w)) p.1 two.1 in
    let invocable = asked_is (is_invocable_name how (name_of (before_descriptor w))) flaw.Operand tt all.1 in
    let front = same_ok (before_descriptor w) p.0 name.0 in
    let back = same_ok (descriptor_of w) p.1 described.0 in
    record {
      whole = joined (before_descriptor w) (descriptor_of w) p.0 p.1 front back ∙ whole_word w;
      member = name.1;
      described = described.1;
      invocable = subst (λ (n : List ℕ). IsTrue (is_invocable_name how (name_of n))) front invocable;
      none = subst HasNoParenthesis front (none_before w);
      descriptor = back;
    }
  where
    joined : (a b c d : List ℕ) → a ≡ c → b ≡ d → c ++ d ≡ a ++ b
    joined a b c d e f = cc

-- The operand of an invoke instruction is a word that spells a method.
record IsMethodPlace (how : Invoke) (o : Option Lexeme) (p : List ℕ × List ℕ) : Type 0 where
  pub w : List ℕ
  pub word : o ≡ Some (lexeme.Word w)
  pub named : IsNamed how w p

method_said : (how : Invoke) (o : Option Lexeme) (p : List ℕ × List ℕ) → method_at how o ≡ Ok p → IsMethodPlace how o p
method_said how (Some (lexeme.Word w)) p e = record { w = w; word = refl; named = named_said how w p e }
method_said how (Some (lexeme.Text w)) p e = absurd cc
method_said how (Some lexeme.Colon) p e = absurd cc
method_said how (Some lexeme.Equals) p e = absurd cc
method_said how None p e = absurd cc

-- The count of an invokeinterface is that of its descriptor.
count_is : (d : List ℕ) (j : Judged ℕ) → IsTrue (is_method_descriptor_for true d) → counted_at d j ≡ Ok tt → (n : ℕ) × (j ≡ Ok n) × (interface_count (Some ([], d)) ≡ Some n)
count_is d (Ok n) described e =
    let typed = described_type true d described in
    let units = parameter_units typed.0 + 1 in
    let count : interface_count (Some ([], d)) ≡ Some units = ap (λ (o : Option MethodType). option_map (λ (t : MethodType). parameter_units t + 1) o) typed.1 in
    let asked_for = asked_is (is_count n (interface_count (Some ([], d)))) flaw.Operand tt e in
    let same : IsTrue (n == units) = subst (λ (o : Option ℕ). IsTrue (is_count n o)) count asked_for in
    (n, refl, count ∙ ap (λ (m : ℕ). Some m) (sym (eqb-true n units same)))
count_is d (Err f) described e = absurd cc

-- The tokens after the method are those that its instruction requires.
record AreCounted (how : Invoke) (d : List ℕ) (ts : List Lexeme) (word : List ℕ) : Type 0 where
  pub counted : List Lexeme
  pub whole : ts ≡ lexeme.Word word ∷ counted
  pub spelled : SpellsCount how d counted

one_counted : (how : Invoke) (d : List ℕ) (ts : List Lexeme) (word : List ℕ) → SpellsCount how d [] → slice_get ts 0 ≡ Some (lexeme.Word word) → exactly 1 ts ≡ Ok tt → AreCounted how d ts word
one_counted how d ts word none first e = record { counted = []; whole = one_is ts (lexeme.Word word) (exactly_said 1 ts tt e) first; spelled = none }

behind_said : (how : Invoke) (d : List ℕ) (ts : List Lexeme) (word : List ℕ) → slice_get ts 0 ≡ Some (lexeme.Word word) → descriptor_of word ≡ d → IsTrue (is_method_descriptor_for true d) → operands_after_method how ts ≡ Ok tt → AreCounted how d ts word
behind_said invoke.Interface d ts word first same described e =
    let all = unless_is (counted_at (descriptor_of (word_or_none (slice_get ts 0))) (u8_at (slice_get ts 1))) (exactly 2 ts) tt e in
    let text : descriptor_of (word_or_none (slice_get ts 0)) ≡ d = ap (λ (o : Option Lexeme). descriptor_of (word_or_none o)) first ∙ same in
    let count = count_is d (u8_at (slice_get ts 1)) described (subst (λ (v : List ℕ). counted_at v (u8_at (slice_get ts 1)) ≡ Ok tt) text all.0) in
    let u = u8_said (slice_get ts 1) count.0 count.1 in
    record {
      counted = lexeme.Word u.w ∷ [];
      whole = two_are ts (lexeme.Word word) (lexeme.Word u.w) (exactly_said 2 ts tt all.1) first u.word;
      spelled = (u.w, count.0, refl, u.spelled, count.2);
    }
behind_said invoke.Virtual d ts word first same described e = one_counted invoke.Virtual d ts word refl first e
behind_said invoke.Special d ts word first same described e = one_counted invoke.Special d ts word refl first e
behind_said invoke.Static d ts word first same described e = one_counted invoke.Static d ts word refl first e

invoke_said : (w : List ℕ) (code : ℕ) (how : Invoke) (ts : List Lexeme) (o : Operation) → IsHead w code (opcode.Invoke how) → invoke_operation how ts ≡ Ok o → SpellsOperation (lexeme.Word w ∷ ts) o
unfolding invoke_operation
invoke_said w code how ts o head e =
    said_gives (SpellsOperation (lexeme.Word w ∷ ts)) (λ (p : List ℕ × List ℕ). operation.Invoke how (record { class = class_of p.0; name = name_of p.0; descriptor = p.1 })) _ o e (λ p is.
    let all = unless_is (method_at how (slice_get ts 0)) (operands_after_method how ts) p is in
    let m = method_said how (slice_get ts 0) p all.0 in
    let member = member_said is_method_name p.0 m.named.member in
    let c = behind_said how p.1 ts m.w m.word m.named.descriptor m.named.described all.1 in
    let word : m.w ≡ (class_of p.0 ++ 47 ∷ name_of p.0) ++ p.1 = sym m.named.whole ∙ ap (λ (v : List ℕ). v ++ p.1) (sym member.whole) in
    (c.counted, begins w code (opcode.Invoke how) ts (lexeme.Word ((class_of p.0 ++ 47 ∷ name_of p.0) ++ p.1) ∷ c.counted) head (c.whole ∙ ap (λ (v : List ℕ). lexeme.Word v ∷ c.counted) word), member.class, member.name, subst HasNoParenthesis (sym member.whole) m.named.none, m.named.invocable, m.named.described, c.spelled))

-- ---- Classes

or_behind : (a b : Bool) → IsTrue a → IsTrue (not a || b) → IsTrue b
or_behind true b holds e = e
or_behind false b holds e = absurd cc

usable_said : (how : ClassUse) (w : List ℕ) → IsClass w → IsTrue (is_usable_word how w) → IsTrue (is_usable_class how w)
usable_said class_use.New w named e = e
usable_said how w named e = or_behind (is_class_entry_name w) (is_usable_class how w) named e

class_said : (w : List ℕ) (code : ℕ) (how : ClassUse) (ts : List Lexeme) (o : Operation) → IsHead w code (opcode.Class how) → class_operation how ts ≡ Ok o → SpellsOperation (lexeme.Word w ∷ ts) o
unfolding class_operation
class_said w code how ts o head e =
    said_gives (SpellsOperation (lexeme.Word w ∷ ts)) (λ (name : List ℕ). operation.Class how name) _ o e (λ name is.
    let outer = unless_is (unless (class_at (slice_get ts 0)) (judge_test (is_usable_word how (word_or_none (slice_get ts 0))) flaw.Operand)) (exactly 1 ts) name is in
    let all = unless_is (class_at (slice_get ts 0)) (judge_test (is_usable_word how (word_or_none (slice_get ts 0))) flaw.Operand) name outer.0 in
    let class = place_said is_class_entry_name flaw.Name (slice_get ts 0) name all.0 in
    let word : word_or_none (slice_get ts 0) ≡ name = ap word_or_none class.0 in
    let usable = subst (λ (v : List ℕ). IsTrue (is_usable_word how v)) word (asked_is (is_usable_word how (word_or_none (slice_get ts 0))) flaw.Operand tt all.1) in
    (begins w code (opcode.Class how) ts (lexeme.Word name ∷ []) head (one_is ts (lexeme.Word name) (exactly_said 1 ts tt outer.1) class.0), class.1, usable_said how name class.1 usable))

new_array_said : (w : List ℕ) (code : ℕ) (ts : List Lexeme) (o : Operation) → IsHead w code opcode.NewArray → new_array_operation ts ≡ Ok o → SpellsOperation (lexeme.Word w ∷ ts) o
unfolding new_array_operation
new_array_said w code ts o head e =
    said_gives (SpellsOperation (lexeme.Word w ∷ ts)) (λ (type : ArrayType). operation.NewArray type) (alone array_type_at ts) o e (λ type is.
    let h = alone_said array_type_at ts type is in
    begins w code opcode.NewArray ts (lexeme.Word (type_word type) ∷ []) head (one_is ts (lexeme.Word (type_word type)) h.one (array_type_said (slice_get ts 0) type h.read)))

dimensions_said : (name : List ℕ) (j : Judged ℕ) (n : ℕ) → dimensions_at name j ≡ Ok n → (j ≡ Ok n) × IsTrue (is_dimensions n (Some name))
dimensions_said name (Ok m) n e =
    choose (is_dimensions m (Some name)) (Ok m) (Err flaw.Operand) (Ok n) e
    (λ met is. (is, subst (λ (k : ℕ). IsTrue (is_dimensions k (Some name))) (same_ok m n is) met))
    (λ unmet is. absurd cc)
dimensions_said name (Err f) n e = absurd cc

multi_said : (w : List ℕ) (code : ℕ) (ts : List Lexeme) (o : Operation) → IsHead w code opcode.MultiNewArray → multi_new_array_operation ts ≡ Ok o → SpellsOperation (lexeme.Word w ∷ ts) o
unfolding multi_new_array_operation
multi_said w code ts o head e =
    said_gives (SpellsOperation (lexeme.Word w ∷ ts)) (λ (p : List ℕ × ℕ). operation.MultiNewArray p.0 p.1) _ o e (λ p is.
    let all = unless_is _ (exactly 2 ts) p is in
    let two = both_are (class_at (slice_get ts 0)) (dimensions_at (word_or_none (slice_get ts 0)) (u8_at (slice_get ts 1))) p all.0 in
    let class = place_said is_class_entry_name flaw.Name (slice_get ts 0) p.0 two.0 in
    let word : word_or_none (slice_get ts 0) ≡ p.0 = ap word_or_none class.0 in
    let count = dimensions_said p.0 (u8_at (slice_get ts 1)) p.1 (subst (λ (v : List ℕ). dimensions_at v (u8_at (slice_get ts 1)) ≡ Ok p.1) word two.1) in
    let u = u8_said (slice_get ts 1) p.1 count.0 in
    (u.w, begins w code opcode.MultiNewArray ts (lexeme.Word p.0 ∷ lexeme.Word u.w ∷ []) head (two_are ts (lexeme.Word p.0) (lexeme.Word u.w) (exactly_said 2 ts tt all.1) class.0 u.word), class.1, u.spelled, count.1))

-- ---- All instructions

whole_said : (ts : List Lexeme) (j : Judged Operation) (i : Instruction) → whole j ≡ Ok i → ((o : Operation) → j ≡ Ok o → SpellsOperation ts o) → SpellsInstruction ts i
whole_said ts j i e each = said_gives (SpellsInstruction ts) (λ (o : Operation). instruction.Whole o) j i e each

with_said : (w : List ℕ) (code : ℕ) (form : Opcode) (ts : List Lexeme) (i : Instruction) → IsHead w code form → instruction_with code form ts ≡ Ok i → SpellsInstruction (lexeme.Word w ∷ ts) i
with_said w code (opcode.Alone s) ts i head e =
    whole_said (lexeme.Word w ∷ ts) _ i e (λ o f. said_gives (SpellsOperation (lexeme.Word w ∷ ts)) (λ (u : Unit {0}). operation.Alone code) (exactly 0 ts) o f (λ u is.
    (s, (w, ap (λ (os : List Lexeme). lexeme.Word w ∷ os) (none_is ts (exactly_said 0 ts u is)), head.named, head.opcode))))
with_said w code opcode.PushByte ts i head e =
    whole_said (lexeme.Word w ∷ ts) _ i e (λ o f. said_gives (SpellsOperation (lexeme.Word w ∷ ts)) (λ (n : ℤ). operation.PushByte n) (alone i8_at ts) o f (λ n is.
    let h = signed_alone 7 ts n is in (h.w, begins w code opcode.PushByte ts (lexeme.Word h.w ∷ []) head h.whole, h.spelled)))
with_said w code opcode.PushShort ts i head e =
    whole_said (lexeme.Word w ∷ ts) _ i e (λ o f. said_gives (SpellsOperation (lexeme.Word w ∷ ts)) (λ (n : ℤ). operation.PushShort n) (alone i16_at ts) o f (λ n is.
    let h = signed_alone 15 ts n is in (h.w, begins w code opcode.PushShort ts (lexeme.Word h.w ∷ []) head h.whole, h.spelled)))
with_said w code opcode.Constant ts i head e = whole_said (lexeme.Word w ∷ ts) _ i e (λ o f. short_constant_said w code ts o head f)
with_said w code opcode.ConstantWide ts i head e = whole_said (lexeme.Word w ∷ ts) _ i e (λ o f. wide_constant_said w code ts o head f)
with_said w code opcode.ConstantLong ts i head e =
    whole_said (lexeme.Word w ∷ ts) _ i e (λ o f. said_gives (SpellsOperation (lexeme.Word w ∷ ts)) (λ (n : ℤ). operation.ConstantLong n) (alone i64_at ts) o f (λ n is.
    let h = signed_alone 63 ts n is in (h.w, begins w code opcode.ConstantLong ts (lexeme.Word h.w ∷ []) head h.whole, h.spelled)))
with_said w code (opcode.Local how) ts i head e = whole_said (lexeme.Word w ∷ ts) _ i e (λ o f. local_said w code how ts o head f)
with_said w code opcode.Increment ts i head e = whole_said (lexeme.Word w ∷ ts) _ i e (λ o f. increment_said w code ts o head f)
with_said w code (opcode.Branch how) ts i head e = whole_said (lexeme.Word w ∷ ts) _ i e (λ o f. branch_said w code how ts o head f)
with_said w code (opcode.BranchWide how) ts i head e = whole_said (lexeme.Word w ∷ ts) _ i e (λ o f. wide_branch_said w code how ts o head f)
with_said w code opcode.TableSwitch ts i head e =
    said_gives (SpellsInstruction (lexeme.Word w ∷ ts)) (λ (low : ℤ). instruction.Table low) (alone i32_at ts) i e (λ low is.
    let h = signed_alone 31 ts low is in (h.w, begins w code opcode.TableSwitch ts (lexeme.Word h.w ∷ []) head h.whole, h.spelled))
with_said w code opcode.LookupSwitch ts i head e =
    said_gives (SpellsInstruction (lexeme.Word w ∷ ts)) (λ (u : Unit {0}). instruction.Lookup) (exactly 0 ts) i e (λ u is.
    begins w code opcode.LookupSwitch ts [] head (none_is ts (exactly_said 0 ts u is)))
with_said w code (opcode.Field how) ts i head e = whole_said (lexeme.Word w ∷ ts) _ i e (λ o f. field_said w code how ts o head f)
with_said w code (opcode.Invoke how) ts i head e = whole_said (lexeme.Word w ∷ ts) _ i e (λ o f. invoke_said w code how ts o head f)
with_said w code (opcode.Class how) ts i head e = whole_said (lexeme.Word w ∷ ts) _ i e (λ o f. class_said w code how ts o head f)
with_said w code opcode.NewArray ts i head e = whole_said (lexeme.Word w ∷ ts) _ i e (λ o f. new_array_said w code ts o head f)
with_said w code opcode.MultiNewArray ts i head e = whole_said (lexeme.Word w ∷ ts) _ i e (λ o f. multi_said w code ts o head f)
with_said w code opcode.Wide ts i head e = absurd cc
with_said w code opcode.Reserved ts i head e = absurd cc

pub instruction_said : (w : List ℕ) (code : ℕ) (ts : List Lexeme) (i : Instruction) → opcode_named w ≡ Some code → instruction_line code ts ≡ Ok i → SpellsInstruction (lexeme.Word w ∷ ts) i
unfolding instruction_line
instruction_said w code ts i named e = of_form (slice_get OPCODES code) refl
  where
    of_form : (o : Option Opcode) → slice_get OPCODES code ≡ o → SpellsInstruction (lexeme.Word w ∷ ts) i
    of_form (Some form) is = with_said w code form ts i (record { named = mnemonic_said w code form named is; opcode = is }) (rw is at e)
    of_form None is = let none : ◌≡◌ {A = Judged Instruction} (Err flaw.UnknownInstruction) (Ok i) = rw is at e in absurd cc
