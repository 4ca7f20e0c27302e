-- Proves that lines of code add their items.
use Rattle.std.proofs.Common.{◌≡◌, ◌⊎◌, ℕ, suc, ◌+◌, ◌-◌, ◌<◌, ◌≤◌, true, false, List, [], ◌∷◌, ◌++◌, length, map, Option, Some, None, Ok, ℤ, inl, inr, refl, sym, ap, subst, ◌∙◌, append_assoc, append-nil, arith}
use Rattle.std.specs.Prelude.{codes, pos, negsuc, int_le, ◌+ℤ◌}
use Rattle.std.specs.Fmt.{decimal, signed_decimal}
use Rattle.std.specs.List.{list_all, flat_map, AllByRecursion}
use Rattle.std.proofs.lemmas.Bool.{and_parts, cases_lt, leb-true, le-leb, ne_eqb}
use Rattle.std.proofs.lemmas.Int.{ints}
use Rattle.std.proofs.lemmas.List.{length-append}
use Rattle.jvms_file.specs.Names.{begins_with, same_text}
use Rattle.jvms_file.specs.declared.insn.Opcode.{Opcode}
use Rattle.jvms_file.specs.Spelling.{IsOpcode}
use Rattle.jvms_file.specs.Instructions.{is_above}
use Rattle.jasmin.specs.declared.token.Lexeme.{Lexeme}
use Rattle.jasmin.specs.declared.token.Lexeme.TheVariants as lexeme
use Rattle.jasmin.specs.declared.source.MatchLine.{MatchLine}
use Rattle.jasmin.specs.declared.source.TableLines.{TableLines}
use Rattle.jasmin.specs.declared.source.LookupLines.{LookupLines}
use Rattle.jasmin.specs.declared.source.Operation.{Operation}
use Rattle.jasmin.specs.declared.source.Operation.TheVariants as operation
use Rattle.jasmin.specs.declared.source.CodeItem.{CodeItem}
use Rattle.jasmin.specs.declared.source.CodeItem.TheVariants as item
use Rattle.jasmin.specs.declared.source.MethodLines.{MethodLines}
use Rattle.jasmin.specs.declared.source.Source.{Source}
use Rattle.jasmin.specs.declared.statement.LineKind.{LineKind}
use Rattle.jasmin.specs.declared.statement.LineKind.TheVariants as kind
use Rattle.jasmin.specs.declared.statement.OpenSwitch.TheVariants as open_switch
use Rattle.jasmin.specs.declared.statement.Instruction.{Instruction}
use Rattle.jasmin.specs.declared.statement.Instruction.TheVariants as instruction
use Rattle.jasmin.specs.declared.statement.Statement.{Statement}
use Rattle.jasmin.specs.declared.statement.Statement.TheVariants as statement
use Rattle.jasmin.specs.declared.reading.Part.TheVariants as part
use Rattle.jasmin.specs.declared.reading.SwitchLines.{SwitchLines}
use Rattle.jasmin.specs.declared.reading.SwitchLines.TheVariants as switch_lines
use Rattle.jasmin.specs.declared.reading.Reading.{Reading}
use Rattle.jasmin.specs.Lexing.{is_space}
use Rattle.jasmin.specs.LineKinds.{kind_of, opcode_named}
use Rattle.jasmin.specs.Statements.{statement_of, instruction_with, instruction_line, table_line, match_line, default_line}
use Rattle.jasmin.specs.Denote.{has_code}
use Rattle.jasmin.specs.Reading.{with_line, with_statement, is_in_place, is_repeated, sort_of, switch_of, last_value}
use Rattle.source_form_laws.specs.Formed.{IsSigned, IsFormedOperation, IsFormedItem, IsFormedLookup}
use Rattle.listing_spec.specs.Printed.{join_words, opcode_of, mnemonic, operand_words, switch_line, lines_after, item_lines}
use Rattle.listing_spec.specs.Printed.{default_line as printed_default, match_line as printed_match}
use Rattle.listing_spec.specs.Printable.{is_printable_item}
use Rattle.listing_spec.specs.Listable.{IsPlaceLabel, IsListableOperation, IsListableItem}
use Rattle.listing_laws.proofs.Words.{ArePieces, fixed_piece, plain_piece, colon_piece, joined_lexes, label_lexes, line_is}
use Rattle.listing_laws.proofs.Numbers.{is_decimal, digit_range, decimal_digits, signed_plain, small31, i32_reads}
use Rattle.listing_laws.proofs.Labels.{IsLabelWord, label_word}
use Rattle.listing_laws.proofs.Mnemonics.{mnemonic_is}
use Rattle.listing_laws.proofs.Operations.{no_colon, instruction_of, Form, operation_reads}
use Rattle.listing_laws.proofs.Follows.{Follows, follow, one_line, lexemes_add}
use Rattle.listing_laws.proofs.Header.{reading}

-- Returns the state in a method's code after these items, with this open switch or none.
abbrev pub coding : Source → List MethodLines → MethodLines → List CodeItem → Option SwitchLines → Reading
coding s ms m code switch =
    reading part.Members s s.interfaces s.fields ms (Some (record { access = m.access; name = m.name; descriptor = m.descriptor; throws = m.throws; max_stack = Some m.max_stack; max_locals = Some m.max_locals; catches = m.catches; code = code; switch = switch }))

-- Words after white space add their statement.
pub spaced_add : (r : Reading) (space : List ℕ) (ws : List (List ℕ)) (ls : List Lexeme) (k : LineKind) (s : Statement) → list_all is_space space ≡ true → ArePieces ws ls → kind_of (switch_of r) ls ≡ Ok k → is_in_place r k ≡ true → statement_of (sort_of r.access) (switch_of r) k ls ≡ Ok s → is_repeated r s ≡ false → with_line r (space ++ join_words ws) ≡ Ok (with_statement r s)
spaced_add r space ws ls k s spaces are a b c d = line_is r (space ++ join_words ws) ls (joined_lexes ws ls are true 0 space spaces) ∙ lexemes_add r ls k s a b c d

-- ---- Labels

label_adds : (s : Source) (ms : List MethodLines) (m : MethodLines) (code : List CodeItem) (name : List ℕ) → IsLabelWord name
    → with_line (coding s ms m code None) (name ++ codes ":") ≡ Ok (coding s ms m (code ++ item.Label name ∷ []) None)
unfolding kind_of is_in_place statement_of is_repeated with_statement
label_adds s ms m code name l =
    line_is (coding s ms m code None) (name ++ codes ":") (lexeme.Word name ∷ lexeme.Colon ∷ []) (label_lexes name l.word)
    ∙ lexemes_add (coding s ms m code None) (lexeme.Word name ∷ lexeme.Colon ∷ []) kind.Label (statement.Label name) (rw l.no_dot refl) refl (rw l.label refl) refl

-- ---- Instructions

kind_is : (w : List ℕ) (ls : List Lexeme) (code : ℕ) → begins_with 46 w ≡ false → no_colon ls ≡ true → opcode_named w ≡ Some code → kind_of open_switch.None (lexeme.Word w ∷ ls) ≡ Ok (kind.Instruction code)
unfolding kind_of
kind_is w [] code dot colon named = rw (dot, named) refl
kind_is w (lexeme.Word v ∷ ls) code dot colon named = rw (dot, named) refl
kind_is w (lexeme.Text t ∷ ls) code dot colon named = rw (dot, named) refl
kind_is w (lexeme.Colon ∷ ls) code dot colon named = absurd cc
kind_is w (lexeme.Equals ∷ ls) code dot colon named = rw (dot, named) refl

instruction_reads : (code : ℕ) (form : Opcode) (ls : List Lexeme) (i : Instruction) → IsOpcode code form → instruction_with code form ls ≡ Ok i → instruction_line code ls ≡ Ok i
unfolding instruction_line
instruction_reads code form ls i is reads = rw is reads

instruction_adds : (s : Source) (ms : List MethodLines) (m : MethodLines) (code : List CodeItem) (o : Operation) → has_code m.name m.access ≡ true → Form o
    → with_line (coding s ms m code None) (codes "  " ++ join_words (mnemonic (opcode_of o) ∷ operand_words o)) ≡ Ok (with_statement (coding s ms m code None) (statement.Instruction (instruction_of o)))
unfolding is_in_place statement_of is_repeated
instruction_adds s ms m code o has f =
    let name = mnemonic_is (opcode_of o) f.form f.is.is f.is.named in
    let ls = f.is.lexemes in
    spaced_add (coding s ms m code None) (codes "  ") (mnemonic (opcode_of o) ∷ operand_words o) (lexeme.Word (mnemonic (opcode_of o)) ∷ ls) (kind.Instruction (opcode_of o)) (statement.Instruction (instruction_of o)) refl
    (plain_piece (mnemonic (opcode_of o)) name.word, f.is.pieces)
    (kind_is (mnemonic (opcode_of o)) ls (opcode_of o) name.no_dot f.is.behind name.named)
    has
    (rw (instruction_reads (opcode_of o) f.form ls (instruction_of o) f.is.is f.is.reads) refl)
    refl

whole_follows : (s : Source) (ms : List MethodLines) (m : MethodLines) (code : List CodeItem) (o : Operation) → has_code m.name m.access ≡ true → Form o → instruction_of o ≡ instruction.Whole o → lines_after o ≡ []
    → Follows (coding s ms m code None) (item_lines (item.Operation o)) (coding s ms m (code ++ item.Operation o ∷ []) None)
unfolding item_lines with_statement
whole_follows s ms m code o has f whole nothing =
    let line = codes "  " ++ join_words (mnemonic (opcode_of o) ∷ operand_words o) in
    let added = instruction_adds s ms m code o has f ∙ ap (λ (i : Instruction). Ok (with_statement (coding s ms m code None) (statement.Instruction i))) whole in
    subst (λ (ls : List (List ℕ)). Follows (coding s ms m code None) (line ∷ ls) (coding s ms m (code ++ item.Operation o ∷ []) None)) (sym nothing)
    (one_line (coding s ms m code None) (coding s ms m (code ++ item.Operation o ∷ []) None) line added)

-- ---- Labels of a tableswitch

-- A negative number plus a count is nonnegative or negative, and has this value.
sum_of : (a k : ℕ) → ((a < k) × (negsuc a +ℤ pos k ≡ pos (k - (a + 1)))) ⊎ ((k ≤ a) × (negsuc a +ℤ pos k ≡ negsuc (a - k)))
sum_of a k = elim (cases_lt a k) [
  | inl below ↦ inl (below, omega (arith, ints))
  | inr above ↦ inr (above, omega (arith, ints))
]

-- If the greatest value fits an int, so do the values below it.
below_top : (low : ℤ) (k n : ℕ) → k ≤ n → int_le (low +ℤ pos n) (pos 2147483647) ≡ true → int_le (low +ℤ pos k) (pos 2147483647) ≡ true
below_top (pos a) k n few top =
    let most : a + n ≤ 2147483647 = leb-true (a + n) 2147483647 top in
    le-leb (a + k) 2147483647 (omega arith)
below_top (negsuc a) k n few top = by (sum_of a k) (sum_of a n)
  where
    by : ((a < k) × (negsuc a +ℤ pos k ≡ pos (k - (a + 1)))) ⊎ ((k ≤ a) × (negsuc a +ℤ pos k ≡ negsuc (a - k))) → ((a < n) × (negsuc a +ℤ pos n ≡ pos (n - (a + 1)))) ⊎ ((n ≤ a) × (negsuc a +ℤ pos n ≡ negsuc (a - n))) → int_le (negsuc a +ℤ pos k) (pos 2147483647) ≡ true
    by (inr (down, is)) other = ap (λ (z : ℤ). int_le z (pos 2147483647)) is
    by (inl (up, is)) (inl (above, same)) =
        let test : int_le (pos (n - (a + 1))) (pos 2147483647) ≡ true = ap (λ (z : ℤ). int_le z (pos 2147483647)) (sym same) ∙ top in
        let most : n - (a + 1) ≤ 2147483647 = leb-true (n - (a + 1)) 2147483647 test in
        ap (λ (z : ℤ). int_le z (pos 2147483647)) is ∙ le-leb (k - (a + 1)) 2147483647 (omega arith)
    by (inl (up, is)) (inr (below, same)) = absurd (omega arith)

table_kind : (next : ℤ) (w : List ℕ) → IsLabelWord w → kind_of (open_switch.Table next) (lexeme.Word w ∷ []) ≡ Ok kind.Case
unfolding kind_of
table_kind next w l = rw (l.no_dot, l.no_default) refl

table_statement : (next : ℤ) (w : List ℕ) → IsLabelWord w → int_le next (pos 2147483647) ≡ true → table_line next (lexeme.Word w ∷ []) ≡ Ok (statement.TableLabel w)
unfolding table_line
table_statement next w l top = rw (l.label, top) refl

table_label_adds : (s : Source) (ms : List MethodLines) (m : MethodLines) (code : List CodeItem) (low : ℤ) (seen : List (List ℕ)) (w : List ℕ) → IsLabelWord w → int_le (low +ℤ pos (length seen)) (pos 2147483647) ≡ true
    → with_line (coding s ms m code (Some (switch_lines.Table low seen))) (switch_line (w ∷ [])) ≡ Ok (coding s ms m code (Some (switch_lines.Table low (seen ++ w ∷ []))))
unfolding is_in_place statement_of is_repeated with_statement
table_label_adds s ms m code low seen w l top =
    spaced_add (coding s ms m code (Some (switch_lines.Table low seen))) (codes "    ") (w ∷ []) (lexeme.Word w ∷ []) kind.Case (statement.TableLabel w) refl
    (plain_piece w l.word, tt) (table_kind (low +ℤ pos (length seen)) w l) refl (table_statement (low +ℤ pos (length seen)) w l top) refl

table_labels_follow : (rest : List (List ℕ)) (s : Source) (ms : List MethodLines) (m : MethodLines) (code : List CodeItem) (low : ℤ) (seen : List (List ℕ)) (n : ℕ) → AllByRecursion IsPlaceLabel rest → length seen + length rest ≤ suc n → int_le (low +ℤ pos n) (pos 2147483647) ≡ true
    → Follows (coding s ms m code (Some (switch_lines.Table low seen))) (map (λ label. switch_line (label ∷ [])) rest) (coding s ms m code (Some (switch_lines.Table low (seen ++ rest))))
table_labels_follow [] s ms m code low seen n are few top = ap (λ (ls : List (List ℕ)). coding s ms m code (Some (switch_lines.Table low ls))) (sym (append-nil seen))
table_labels_follow (w ∷ rest) s ms m code low seen n are few top =
    let size = length-append seen (w ∷ []) in
    let later = table_labels_follow rest s ms m code low (seen ++ w ∷ []) n are.1 (omega arith) top in
    (coding s ms m code (Some (switch_lines.Table low (seen ++ w ∷ []))), table_label_adds s ms m code low seen w (label_word w are.0) (below_top low (length seen) n (omega arith) top), rw (← (append_assoc seen (w ∷ []) rest)) later)

-- ---- Matches of a lookupswitch

-- The word of a number is no directive's, and isn't `default`.
record IsOther (w : List ℕ) : Type 0 where
  pub no_dot : begins_with 46 w ≡ false
  pub no_default : same_text (codes "default") w ≡ false

digits_other : (ds : List ℕ) → list_all is_decimal ds ≡ true → IsOther ds
digits_other [] e = record { no_dot = refl; no_default = refl }
digits_other (u ∷ us) e =
    let r = digit_range u (and_parts (is_decimal u) (list_all is_decimal us) e).0 in
    let low = r.low in
    let high = r.high in
    record { no_dot = ne_eqb u 46 (λ same. omega arith); no_default = rw (ne_eqb 100 u (λ same. omega arith)) refl }

number_other : (z : ℤ) → IsOther (signed_decimal z)
number_other (pos n) = digits_other (decimal n) (decimal_digits n)
number_other (negsuc n) = record { no_dot = refl; no_default = refl }

match_kind : (last : Option ℤ) (w : List ℕ) (ls : List Lexeme) → IsOther w → kind_of (open_switch.Lookup last) (lexeme.Word w ∷ ls) ≡ Ok kind.Case
unfolding kind_of
match_kind last w ls o = rw (o.no_dot, o.no_default) refl

match_statement : (last : Option ℤ) (m : MatchLine) → IsSigned 31 m.value → is_above last m.value ≡ true → IsLabelWord m.label → match_line last (lexeme.Word (signed_decimal m.value) ∷ lexeme.Colon ∷ lexeme.Word m.label ∷ []) ≡ Ok (statement.Match m)
unfolding match_line
match_statement last m fits above l = rw (i32_reads m.value fits, above, l.label) refl

match_adds : (s : Source) (ms : List MethodLines) (m : MethodLines) (code : List CodeItem) (seen : List MatchLine) (x : MatchLine) → IsSigned 31 x.value → is_above (last_value seen) x.value ≡ true → IsLabelWord x.label
    → with_line (coding s ms m code (Some (switch_lines.Lookup seen))) (printed_match x) ≡ Ok (coding s ms m code (Some (switch_lines.Lookup (seen ++ x ∷ []))))
unfolding is_in_place statement_of is_repeated with_statement
match_adds s ms m code seen x fits above l =
    spaced_add (coding s ms m code (Some (switch_lines.Lookup seen))) (codes "    ") (signed_decimal x.value ∷ codes ":" ∷ x.label ∷ []) (lexeme.Word (signed_decimal x.value) ∷ lexeme.Colon ∷ lexeme.Word x.label ∷ []) kind.Case (statement.Match x) refl
    (plain_piece (signed_decimal x.value) (signed_plain x.value (small31 x.value fits)), (colon_piece, (plain_piece x.label l.word, tt)))
    (match_kind (last_value seen) (signed_decimal x.value) (lexeme.Colon ∷ lexeme.Word x.label ∷ []) (number_other x.value)) refl (match_statement (last_value seen) x fits above l) refl

last_pushed : (seen : List MatchLine) (x : MatchLine) → last_value (seen ++ x ∷ []) ≡ Some x.value
last_pushed [] x = refl
last_pushed (y ∷ []) x = refl
last_pushed (y ∷ z ∷ seen) x = last_pushed (z ∷ seen) x

matches_follow : (rest : List MatchLine) (s : Source) (ms : List MethodLines) (m : MethodLines) (code : List CodeItem) (seen : List MatchLine) → AllByRecursion (λ (x : MatchLine). IsPlaceLabel x.label) rest → IsFormedLookup (last_value seen) rest
    → Follows (coding s ms m code (Some (switch_lines.Lookup seen))) (map printed_match rest) (coding s ms m code (Some (switch_lines.Lookup (seen ++ rest))))
matches_follow [] s ms m code seen are formed = ap (λ (xs : List MatchLine). coding s ms m code (Some (switch_lines.Lookup xs))) (sym (append-nil seen))
matches_follow (x ∷ rest) s ms m code seen are formed =
    let next : IsFormedLookup (last_value (seen ++ x ∷ [])) rest = subst (λ (o : Option ℤ). IsFormedLookup o rest) (sym (last_pushed seen x)) formed.2 in
    let later = matches_follow rest s ms m code (seen ++ x ∷ []) are.1 next in
    (coding s ms m code (Some (switch_lines.Lookup (seen ++ x ∷ []))), match_adds s ms m code seen x formed.0 formed.1 (label_word x.label are.0), rw (← (append_assoc seen (x ∷ []) rest)) later)

-- ---- The default

default_pieces : (label : List ℕ) → IsLabelWord label → ArePieces (codes "default" ∷ codes ":" ∷ label ∷ []) (lexeme.Word (codes "default") ∷ lexeme.Colon ∷ lexeme.Word label ∷ [])
default_pieces label l = (fixed_piece (codes "default") refl, (colon_piece, (plain_piece label l.word, tt)))

default_statement : (label : List ℕ) → IsLabelWord label → default_line (lexeme.Word (codes "default") ∷ lexeme.Colon ∷ lexeme.Word label ∷ []) ≡ Ok (statement.Default label)
unfolding default_line
default_statement label l = rw l.label refl

some_labels : (s : Source) (ms : List MethodLines) (m : MethodLines) (code : List CodeItem) (low : ℤ) (labels : List (List ℕ)) → 0 < length labels → is_in_place (coding s ms m code (Some (switch_lines.Table low labels))) kind.Default ≡ true
unfolding is_in_place
some_labels s ms m code low [] some = absurd (omega arith)
some_labels s ms m code low (l ∷ ls) some = refl

table_default_adds : (s : Source) (ms : List MethodLines) (m : MethodLines) (code : List CodeItem) (lines : TableLines) → 0 < length lines.labels → IsLabelWord lines.default
    → with_line (coding s ms m code (Some (switch_lines.Table lines.low lines.labels))) (printed_default lines.default) ≡ Ok (coding s ms m (code ++ item.Operation (operation.Table lines) ∷ []) None)
unfolding kind_of statement_of is_repeated with_statement
table_default_adds s ms m code lines some l =
    spaced_add (coding s ms m code (Some (switch_lines.Table lines.low lines.labels))) (codes "    ") (codes "default" ∷ codes ":" ∷ lines.default ∷ []) (lexeme.Word (codes "default") ∷ lexeme.Colon ∷ lexeme.Word lines.default ∷ []) kind.Default (statement.Default lines.default) refl
    (default_pieces lines.default l) refl (some_labels s ms m code lines.low lines.labels some) (default_statement lines.default l) refl

lookup_default_adds : (s : Source) (ms : List MethodLines) (m : MethodLines) (code : List CodeItem) (lines : LookupLines) → IsLabelWord lines.default
    → with_line (coding s ms m code (Some (switch_lines.Lookup lines.matches))) (printed_default lines.default) ≡ Ok (coding s ms m (code ++ item.Operation (operation.Lookup lines) ∷ []) None)
unfolding kind_of is_in_place statement_of is_repeated with_statement
lookup_default_adds s ms m code lines l =
    spaced_add (coding s ms m code (Some (switch_lines.Lookup lines.matches))) (codes "    ") (codes "default" ∷ codes ":" ∷ lines.default ∷ []) (lexeme.Word (codes "default") ∷ lexeme.Colon ∷ lexeme.Word lines.default ∷ []) kind.Default (statement.Default lines.default) refl
    (default_pieces lines.default l) refl refl (default_statement lines.default l) refl

-- ---- Switches

table_follows : (s : Source) (ms : List MethodLines) (m : MethodLines) (code : List CodeItem) (lines : TableLines) → has_code m.name m.access ≡ true → Form (operation.Table lines) → IsFormedOperation (operation.Table lines) → IsListableOperation (operation.Table lines)
    → Follows (coding s ms m code None) (item_lines (item.Operation (operation.Table lines))) (coding s ms m (code ++ item.Operation (operation.Table lines) ∷ []) None)
unfolding item_lines with_statement IsFormedOperation IsListableOperation
table_follows s ms m code lines has f formed listable =
    let some : 0 < length lines.labels = formed.1 in
    let labels = table_labels_follow lines.labels s ms m code lines.low [] (length lines.labels - 1) listable.1 (omega arith) formed.2 in
    let end = one_line (coding s ms m code (Some (switch_lines.Table lines.low lines.labels))) (coding s ms m (code ++ item.Operation (operation.Table lines) ∷ []) None) (printed_default lines.default) (table_default_adds s ms m code lines formed.1 (label_word lines.default listable.0)) in (
      coding s ms m code (Some (switch_lines.Table lines.low [])),
      instruction_adds s ms m code (operation.Table lines) has f,
      follow (map (λ label. switch_line (label ∷ [])) lines.labels) (printed_default lines.default ∷ []) (coding s ms m code (Some (switch_lines.Table lines.low []))) (coding s ms m code (Some (switch_lines.Table lines.low lines.labels))) (coding s ms m (code ++ item.Operation (operation.Table lines) ∷ []) None) labels end,
    )

lookup_follows : (s : Source) (ms : List MethodLines) (m : MethodLines) (code : List CodeItem) (lines : LookupLines) → has_code m.name m.access ≡ true → Form (operation.Lookup lines) → IsFormedOperation (operation.Lookup lines) → IsListableOperation (operation.Lookup lines)
    → Follows (coding s ms m code None) (item_lines (item.Operation (operation.Lookup lines))) (coding s ms m (code ++ item.Operation (operation.Lookup lines) ∷ []) None)
unfolding item_lines with_statement IsFormedOperation IsListableOperation
lookup_follows s ms m code lines has f formed listable =
    let matches = matches_follow lines.matches s ms m code [] listable.1 formed in
    let end = one_line (coding s ms m code (Some (switch_lines.Lookup lines.matches))) (coding s ms m (code ++ item.Operation (operation.Lookup lines) ∷ []) None) (printed_default lines.default) (lookup_default_adds s ms m code lines (label_word lines.default listable.0)) in (
      coding s ms m code (Some (switch_lines.Lookup [])),
      instruction_adds s ms m code (operation.Lookup lines) has f,
      follow (map printed_match lines.matches) (printed_default lines.default ∷ []) (coding s ms m code (Some (switch_lines.Lookup []))) (coding s ms m code (Some (switch_lines.Lookup lines.matches))) (coding s ms m (code ++ item.Operation (operation.Lookup lines) ∷ []) None) matches end,
    )

-- ---- Items

operation_follows : (s : Source) (ms : List MethodLines) (m : MethodLines) (code : List CodeItem) (o : Operation) → has_code m.name m.access ≡ true → Form o → IsFormedOperation o → IsListableOperation o
    → Follows (coding s ms m code None) (item_lines (item.Operation o)) (coding s ms m (code ++ item.Operation o ∷ []) None)
operation_follows s ms m code (operation.Alone c) has f formed listable = whole_follows s ms m code (operation.Alone c) has f refl refl
operation_follows s ms m code (operation.PushByte n) has f formed listable = whole_follows s ms m code (operation.PushByte n) has f refl refl
operation_follows s ms m code (operation.PushShort n) has f formed listable = whole_follows s ms m code (operation.PushShort n) has f refl refl
operation_follows s ms m code (operation.Constant width c) has f formed listable = whole_follows s ms m code (operation.Constant width c) has f refl refl
operation_follows s ms m code (operation.ConstantLong n) has f formed listable = whole_follows s ms m code (operation.ConstantLong n) has f refl refl
operation_follows s ms m code (operation.Local how n) has f formed listable = whole_follows s ms m code (operation.Local how n) has f refl refl
operation_follows s ms m code (operation.Increment n by) has f formed listable = whole_follows s ms m code (operation.Increment n by) has f refl refl
operation_follows s ms m code (operation.Branch width how label) has f formed listable = whole_follows s ms m code (operation.Branch width how label) has f refl refl
operation_follows s ms m code (operation.Table lines) has f formed listable = table_follows s ms m code lines has f formed listable
operation_follows s ms m code (operation.Lookup lines) has f formed listable = lookup_follows s ms m code lines has f formed listable
operation_follows s ms m code (operation.Field how g) has f formed listable = whole_follows s ms m code (operation.Field how g) has f refl refl
operation_follows s ms m code (operation.Invoke how g) has f formed listable = whole_follows s ms m code (operation.Invoke how g) has f refl refl
operation_follows s ms m code (operation.Class how name) has f formed listable = whole_follows s ms m code (operation.Class how name) has f refl refl
operation_follows s ms m code (operation.NewArray type) has f formed listable = whole_follows s ms m code (operation.NewArray type) has f refl refl
operation_follows s ms m code (operation.MultiNewArray name count) has f formed listable = whole_follows s ms m code (operation.MultiNewArray name count) has f refl refl

item_follows : (s : Source) (ms : List MethodLines) (m : MethodLines) (code : List CodeItem) (i : CodeItem) → has_code m.name m.access ≡ true → IsFormedItem i → IsListableItem i → is_printable_item i ≡ true
    → Follows (coding s ms m code None) (item_lines i) (coding s ms m (code ++ i ∷ []) None)
unfolding item_lines
item_follows s ms m code (item.Label name) has formed listable word =
    one_line (coding s ms m code None) (coding s ms m (code ++ item.Label name ∷ []) None) (name ++ codes ":") (label_adds s ms m code name (label_word name listable))
item_follows s ms m code (item.Operation o) has formed listable word = operation_follows s ms m code o has (operation_reads o formed listable word) formed listable

pub items_follow : (rest : List CodeItem) (s : Source) (ms : List MethodLines) (m : MethodLines) (code : List CodeItem) → has_code m.name m.access ≡ true → AllByRecursion IsFormedItem rest → AllByRecursion IsListableItem rest → list_all is_printable_item rest ≡ true
    → Follows (coding s ms m code None) (flat_map item_lines rest) (coding s ms m (code ++ rest) None)
items_follow [] s ms m code has formed listable words = ap (λ (is : List CodeItem). coding s ms m is None) (sym (append-nil code))
items_follow (i ∷ rest) s ms m code has formed listable words =
    let both = and_parts (is_printable_item i) (list_all is_printable_item rest) words in
    let later = items_follow rest s ms m (code ++ i ∷ []) has formed.1 listable.1 both.1 in
    let whole : Follows (coding s ms m (code ++ i ∷ []) None) (flat_map item_lines rest) (coding s ms m (code ++ i ∷ rest) None) = rw (← (append_assoc code (i ∷ []) rest)) later in
    follow (item_lines i) (flat_map item_lines rest) (coding s ms m code None) (coding s ms m (code ++ i ∷ []) None) (coding s ms m (code ++ i ∷ rest) None) (item_follows s ms m code i has formed.0 listable.0 both.0) whole
