-- Proves that a method's lines add the method.
use Rattle.std.proofs.Common.{◌≡◌, ℕ, ◌<◌, ◌^◌, ◌&&◌, ◌||◌, Bool, true, false, not, cond, List, [], ◌∷◌, ◌++◌, map, Some, None, Ok, refl, sym, ap, ◌∙◌, append_assoc, append-nil, arith}
use Rattle.std.specs.Prelude.{codes}
use Rattle.std.specs.Fmt.{decimal}
use Rattle.std.specs.List.{list_all, list_any, flat_map, AllByRecursion}
use Rattle.std.proofs.lemmas.Bool.{and_parts, not-true}
use Rattle.jvms_file.specs.Names.{same_text, is_initializer_name}
use Rattle.jvms_file.specs.Descriptors.{is_class_entry_name}
use Rattle.jvms_file.specs.Members.{is_interface, is_static, is_abstract}
use Rattle.jvms_file.specs.Spelling.{IsDistinctBy}
use Rattle.jasmin.specs.declared.token.Lexeme.{Lexeme}
use Rattle.jasmin.specs.declared.token.Lexeme.TheVariants as lexeme
use Rattle.jasmin.specs.declared.source.Caught.{Caught}
use Rattle.jasmin.specs.declared.source.Caught.TheVariants as caught
use Rattle.jasmin.specs.declared.source.CatchLine.{CatchLine}
use Rattle.jasmin.specs.declared.source.MethodLines.{MethodLines}
use Rattle.jasmin.specs.declared.source.Source.{Source}
use Rattle.jasmin.specs.declared.statement.ClassSort.TheVariants as sort
use Rattle.jasmin.specs.declared.statement.Directive.TheVariants as directive
use Rattle.jasmin.specs.declared.statement.LineKind.TheVariants as kind
use Rattle.jasmin.specs.declared.statement.Statement.TheVariants as statement
use Rattle.jasmin.specs.declared.reading.Part.{Part}
use Rattle.jasmin.specs.declared.reading.Part.TheVariants as part
use Rattle.jasmin.specs.declared.reading.Reading.{Reading}
use Rattle.jasmin.specs.LineKinds.{kind_of}
use Rattle.jasmin.specs.Operands.{is_parenthesis, method_words, flags_in, access_words, caught_at}
use Rattle.jasmin.specs.Statements.{statement_of, is_permitted, method_line, throws_line, limit_line, catch_line, end_line}
use Rattle.jasmin.specs.Denote.{has_code}
use Rattle.jasmin.specs.Reading.{with_line, with_statement, is_in_place, is_in_order, is_repeated, is_method_like}
use Rattle.source_form_laws.specs.Formed.{IsFormedCaught, IsFormedMethodLines}
use Rattle.listing_spec.specs.Printed.{join_words, access_names, caught_word, item_lines, body_lines, method_text}
use Rattle.listing_spec.specs.Printed.{throws_line as printed_throws, catch_line as printed_catch}
use Rattle.listing_spec.specs.Printable.{is_word, is_before_descriptor, is_printable_caught, is_printable_item, is_printable_method}
use Rattle.listing_spec.specs.Listable.{IsListableCatch, IsBare, IsListableMethod}
use Rattle.listing_laws.proofs.Words.{IsPiece, fixed_piece, plain_piece, pieces_push, word_units}
use Rattle.listing_laws.proofs.Numbers.{decimal_plain, u16_reads}
use Rattle.listing_laws.proofs.Flags.{as_words, names_are, method_words_read, method_words_plain}
use Rattle.listing_laws.proofs.Names.{head_plain, entry_head, method_head}
use Rattle.listing_laws.proofs.Cuts.{but_last_is, last_is}
use Rattle.listing_laws.proofs.Labels.{IsLabelWord, label_word}
use Rattle.listing_laws.proofs.Members.{before_is, descriptor_cut, plain_push}
use Rattle.listing_laws.proofs.Follows.{Follows, follow, words_add, one_line}
use Rattle.listing_laws.proofs.Header.{reading}
use Rattle.listing_laws.proofs.Fields.{none_before}
use Rattle.listing_laws.proofs.Items.{coding, items_follow}

-- ---- States of the reader

-- Returns the state in a method after these thrown classes.
abbrev pub throwing : Source → List MethodLines → MethodLines → List (List ℕ) → Reading
throwing s ms m seen =
    reading part.Members s s.interfaces s.fields ms (Some (record { access = m.access; name = m.name; descriptor = m.descriptor; throws = seen; max_stack = None; max_locals = None; catches = []; code = []; switch = None }))

-- Returns the state after the limit of the method's stack.
abbrev pub limited : Source → List MethodLines → MethodLines → Reading
limited s ms m =
    reading part.Members s s.interfaces s.fields ms (Some (record { access = m.access; name = m.name; descriptor = m.descriptor; throws = m.throws; max_stack = Some m.max_stack; max_locals = None; catches = []; code = []; switch = None }))

-- Returns the state after both limits and these catches.
abbrev pub catching : Source → List MethodLines → MethodLines → List CatchLine → Reading
catching s ms m seen =
    reading part.Members s s.interfaces s.fields ms (Some (record { access = m.access; name = m.name; descriptor = m.descriptor; throws = m.throws; max_stack = Some m.max_stack; max_locals = Some m.max_locals; catches = seen; code = []; switch = None }))

-- ---- The first line

swap : (a b : Bool) → (a || b) ≡ true → (b || a) ≡ true
swap true true e = refl
swap true false e = refl
swap false true e = refl
swap false false e = absurd cc

permitted : (i : Bool) (access : ℕ) (name : List ℕ) → (not i || is_initializer_name name || is_abstract access) ≡ true → is_permitted (cond i sort.Interface sort.Class) access name ≡ true
permitted false access name e = refl
permitted true access name e = swap (is_initializer_name name) (is_abstract access) e

method_statement : (interface : Bool) (m : MethodLines) (ws : List (List ℕ)) → flags_in method_words (as_words ws) ≡ m.access → access_words method_words (as_words ws) ≡ Ok tt → IsFormedMethodLines interface m → list_any is_parenthesis m.name ≡ false
    → method_line (cond interface sort.Interface sort.Class) (as_words ws ++ lexeme.Word (m.name ++ m.descriptor) ∷ []) ≡ Ok (statement.Method m.access m.name m.descriptor)
unfolding method_line
method_statement interface m ws flags apart formed none =
    let cut = descriptor_cut (is_static m.access || is_initializer_name m.name) m.name m.descriptor none formed.descriptor in
    rw (but_last_is (as_words ws) (lexeme.Word (m.name ++ m.descriptor)), last_is (as_words ws) (lexeme.Word (m.name ++ m.descriptor)), apart, flags, cut.before, cut.from, formed.name, formed.descriptor, permitted interface m.access m.name formed.permitted) refl

method_adds : (p : Part) → is_in_order p part.Members ≡ true → (s : Source) (ms : List MethodLines) (m : MethodLines) → IsFormedMethodLines (is_interface s.access) m → IsListableMethod m → is_before_descriptor m.name ≡ true → is_word m.descriptor ≡ true → list_any (is_method_like m.name m.descriptor) ms ≡ false
    → with_line (reading p s s.interfaces s.fields ms None) (join_words (codes ".method" ∷ access_names method_words m.access ++ (m.name ++ m.descriptor) ∷ [])) ≡ Ok (throwing s ms m [])
unfolding kind_of is_in_place statement_of is_repeated with_statement
method_adds p late s ms m formed listable name descriptor new =
    let ws = access_names method_words m.access in
    let written = method_words_read m.access listable.access in
    let before = before_is m.name name in
    let word = plain_piece (m.name ++ m.descriptor) (plain_push m.name m.descriptor (method_head m.name formed.name) before.units (word_units m.descriptor descriptor)) in
    words_add (reading p s s.interfaces s.fields ms None) (codes ".method" ∷ ws ++ (m.name ++ m.descriptor) ∷ []) (lexeme.Word (codes ".method") ∷ as_words ws ++ lexeme.Word (m.name ++ m.descriptor) ∷ []) (kind.Directive directive.Method) (statement.Method m.access m.name m.descriptor)
    (fixed_piece (codes ".method") refl, pieces_push ws ((m.name ++ m.descriptor) ∷ []) (as_words ws) (lexeme.Word (m.name ++ m.descriptor) ∷ []) (names_are method_words m.access method_words_plain) (word, tt))
    refl late (method_statement (is_interface s.access) m ws written.flags written.apart formed before.none) new

-- ---- Thrown classes

throws_statement : (name : List ℕ) → is_class_entry_name name ≡ true → throws_line (lexeme.Word name ∷ []) ≡ Ok (statement.Throws name)
unfolding throws_line
throws_statement name is = rw is refl

throws_adds : (s : Source) (ms : List MethodLines) (m : MethodLines) (seen : List (List ℕ)) (name : List ℕ) → is_class_entry_name name ≡ true → is_word name ≡ true → with_line (throwing s ms m seen) (printed_throws name) ≡ Ok (throwing s ms m (seen ++ name ∷ []))
unfolding kind_of is_in_place statement_of is_repeated with_statement
throws_adds s ms m seen name is word =
    words_add (throwing s ms m seen) (codes ".throws" ∷ name ∷ []) (lexeme.Word (codes ".throws") ∷ lexeme.Word name ∷ []) (kind.Directive directive.Throws) (statement.Throws name)
    (fixed_piece (codes ".throws") refl, (plain_piece name (head_plain name (entry_head name is) word), tt)) refl refl (throws_statement name is) refl

throws_follow : (rest : List (List ℕ)) (s : Source) (ms : List MethodLines) (m : MethodLines) (seen : List (List ℕ)) → AllByRecursion (λ name. is_class_entry_name name ≡ true) rest → list_all is_word rest ≡ true → Follows (throwing s ms m seen) (map printed_throws rest) (throwing s ms m (seen ++ rest))
throws_follow [] s ms m seen are words = ap (throwing s ms m) (sym (append-nil seen))
throws_follow (name ∷ rest) s ms m seen are words =
    let both = and_parts (is_word name) (list_all is_word rest) words in
    let later = throws_follow rest s ms m (seen ++ name ∷ []) are.1 both.1 in
    (throwing s ms m (seen ++ name ∷ []), throws_adds s ms m seen name are.0 both.0, rw (← (append_assoc seen (name ∷ []) rest)) later)

-- ---- Limits

stack_statement : (n : ℕ) → n < 2 ^ 16 → limit_line (lexeme.Word (codes "stack") ∷ lexeme.Word (decimal n) ∷ []) ≡ Ok (statement.MaxStack n)
unfolding limit_line
stack_statement n small = rw (u16_reads n small) refl

locals_statement : (n : ℕ) → n < 2 ^ 16 → limit_line (lexeme.Word (codes "locals") ∷ lexeme.Word (decimal n) ∷ []) ≡ Ok (statement.MaxLocals n)
unfolding limit_line
locals_statement n small = rw (u16_reads n small) refl

stack_adds : (s : Source) (ms : List MethodLines) (m : MethodLines) → m.max_stack < 2 ^ 16 → with_line (throwing s ms m m.throws) (join_words (codes ".limit" ∷ codes "stack" ∷ decimal m.max_stack ∷ [])) ≡ Ok (limited s ms m)
unfolding kind_of is_in_place statement_of is_repeated with_statement
stack_adds s ms m small =
    words_add (throwing s ms m m.throws) (codes ".limit" ∷ codes "stack" ∷ decimal m.max_stack ∷ []) (lexeme.Word (codes ".limit") ∷ lexeme.Word (codes "stack") ∷ lexeme.Word (decimal m.max_stack) ∷ []) (kind.Directive directive.Limit) (statement.MaxStack m.max_stack)
    (fixed_piece (codes ".limit") refl, (fixed_piece (codes "stack") refl, (plain_piece (decimal m.max_stack) (decimal_plain m.max_stack (omega arith)), tt))) refl refl (stack_statement m.max_stack small) refl

locals_adds : (s : Source) (ms : List MethodLines) (m : MethodLines) → m.max_locals < 2 ^ 16 → with_line (limited s ms m) (join_words (codes ".limit" ∷ codes "locals" ∷ decimal m.max_locals ∷ [])) ≡ Ok (catching s ms m [])
unfolding kind_of is_in_place statement_of is_repeated with_statement
locals_adds s ms m small =
    words_add (limited s ms m) (codes ".limit" ∷ codes "locals" ∷ decimal m.max_locals ∷ []) (lexeme.Word (codes ".limit") ∷ lexeme.Word (codes "locals") ∷ lexeme.Word (decimal m.max_locals) ∷ []) (kind.Directive directive.Limit) (statement.MaxLocals m.max_locals)
    (fixed_piece (codes ".limit") refl, (fixed_piece (codes "locals") refl, (plain_piece (decimal m.max_locals) (decimal_plain m.max_locals (omega arith)), tt))) refl refl (locals_statement m.max_locals small) refl

-- ---- Catches

caught_reads : (c : Caught) → IsFormedCaught c → is_printable_caught c ≡ true → caught_at (Some (lexeme.Word (caught_word c))) ≡ Ok c
caught_reads caught.All formed word = refl
caught_reads (caught.Class name) formed word =
    let other = not-true (same_text (codes "all") name) (and_parts (is_word name) (not (same_text (codes "all") name)) word).1 in
    rw (other, formed) (rw other refl)

caught_piece : (c : Caught) → IsFormedCaught c → is_printable_caught c ≡ true → IsPiece (caught_word c) (lexeme.Word (caught_word c))
caught_piece caught.All formed word = fixed_piece (codes "all") refl
caught_piece (caught.Class name) formed word = plain_piece name (head_plain name (entry_head name formed) (and_parts (is_word name) (not (same_text (codes "all") name)) word).0)

catch_lexemes : CatchLine → List Lexeme
catch_lexemes c =
    lexeme.Word (caught_word c.caught) ∷ lexeme.Word (codes "from") ∷ lexeme.Word c.from ∷ lexeme.Word (codes "to") ∷ lexeme.Word c.to ∷ lexeme.Word (codes "using") ∷ lexeme.Word c.using ∷ []

catch_statement : (c : CatchLine) → IsFormedCaught c.caught → is_printable_caught c.caught ≡ true → IsLabelWord c.from → IsLabelWord c.to → IsLabelWord c.using → catch_line (catch_lexemes c) ≡ Ok (statement.Catch c)
unfolding catch_line catch_lexemes
catch_statement c formed word from to handler = rw (caught_reads c.caught formed word, from.label, to.label, handler.label) refl

catch_adds : (s : Source) (ms : List MethodLines) (m : MethodLines) (seen : List CatchLine) (c : CatchLine) → IsFormedCaught c.caught → is_printable_caught c.caught ≡ true → IsListableCatch c → with_line (catching s ms m seen) (printed_catch c) ≡ Ok (catching s ms m (seen ++ c ∷ []))
unfolding kind_of is_in_place statement_of is_repeated with_statement catch_lexemes
catch_adds s ms m seen c formed word listable =
    let from = label_word c.from listable.0 in
    let to = label_word c.to listable.1 in
    let handler = label_word c.using listable.2 in
    words_add (catching s ms m seen) (codes ".catch" ∷ caught_word c.caught ∷ codes "from" ∷ c.from ∷ codes "to" ∷ c.to ∷ codes "using" ∷ c.using ∷ []) (lexeme.Word (codes ".catch") ∷ catch_lexemes c) (kind.Directive directive.Catch) (statement.Catch c)
    (fixed_piece (codes ".catch") refl, (caught_piece c.caught formed word, (fixed_piece (codes "from") refl, (plain_piece c.from from.word, (fixed_piece (codes "to") refl, (plain_piece c.to to.word, (fixed_piece (codes "using") refl, (plain_piece c.using handler.word, tt))))))))
    refl refl (catch_statement c formed word from to handler) refl

catches_follow : (rest : List CatchLine) (s : Source) (ms : List MethodLines) (m : MethodLines) (seen : List CatchLine) → AllByRecursion (λ (c : CatchLine). IsFormedCaught c.caught) rest → AllByRecursion IsListableCatch rest → list_all (λ (c : CatchLine). is_printable_caught c.caught) rest ≡ true
    → Follows (catching s ms m seen) (map printed_catch rest) (catching s ms m (seen ++ rest))
catches_follow [] s ms m seen formed listable words = ap (catching s ms m) (sym (append-nil seen))
catches_follow (c ∷ rest) s ms m seen formed listable words =
    let both = and_parts (is_printable_caught c.caught) (list_all (λ (d : CatchLine). is_printable_caught d.caught) rest) words in
    let later = catches_follow rest s ms m (seen ++ c ∷ []) formed.1 listable.1 both.1 in
    (catching s ms m (seen ++ c ∷ []), catch_adds s ms m seen c formed.0 both.0 listable.0, rw (← (append_assoc seen (c ∷ []) rest)) later)

-- ---- The last line

abbrev behind : Source → List MethodLines → MethodLines → Reading
behind s ms m = reading part.Members s s.interfaces s.fields (ms ++ m ∷ []) None

end_adds : (s : Source) (ms : List MethodLines) (m : MethodLines) → with_line (coding s ms m m.code None) (codes ".end method") ≡ Ok (behind s ms m)
unfolding join_words kind_of is_in_place statement_of end_line is_repeated with_statement
end_adds s ms m =
    words_add (coding s ms m m.code None) (codes ".end" ∷ codes "method" ∷ []) (lexeme.Word (codes ".end") ∷ lexeme.Word (codes "method") ∷ []) (kind.Directive directive.End) statement.EndMethod
    (fixed_piece (codes ".end") refl, (fixed_piece (codes "method") refl, tt)) refl refl refl refl

-- Returns a method without code as it is read.
abbrev unlimited : MethodLines → MethodLines
unlimited m = record { access = m.access; name = m.name; descriptor = m.descriptor; throws = m.throws; max_stack = 1; max_locals = 1; catches = []; code = [] }

bare_is : (m : MethodLines) → IsBare m → unlimited m ≡ m
bare_is m bare = λ t. record { access = m.access; name = m.name; descriptor = m.descriptor; throws = m.throws; max_stack = sym bare.0 t; max_locals = sym bare.1 t; catches = sym bare.2 t; code = sym bare.3 t }

bare_end_adds : (s : Source) (ms : List MethodLines) (m : MethodLines) → IsBare m → with_line (throwing s ms m m.throws) (codes ".end method") ≡ Ok (behind s ms m)
unfolding join_words kind_of is_in_place statement_of end_line is_repeated with_statement
bare_end_adds s ms m bare =
    words_add (throwing s ms m m.throws) (codes ".end" ∷ codes "method" ∷ []) (lexeme.Word (codes ".end") ∷ lexeme.Word (codes "method") ∷ []) (kind.Directive directive.End) statement.EndMethod
    (fixed_piece (codes ".end") refl, (fixed_piece (codes "method") refl, tt)) refl refl refl refl
    ∙ ap (λ (n : MethodLines). Ok (behind s ms n)) (bare_is m bare)

-- ---- A method

-- The words after a method's first line are allowed.
record AreWords (m : MethodLines) : Type 0 where
  pub name : is_before_descriptor m.name ≡ true
  pub descriptor : is_word m.descriptor ≡ true
  pub throws : list_all is_word m.throws ≡ true
  pub catches : list_all (λ (c : CatchLine). is_printable_caught c.caught) m.catches ≡ true
  pub code : list_all is_printable_item m.code ≡ true

are_words : (m : MethodLines) → is_printable_method m ≡ true → AreWords m
unfolding is_printable_method
are_words m e =
    let a = and_parts (is_before_descriptor m.name) (is_word m.descriptor && (list_all is_word m.throws && (list_all (λ (c : CatchLine). is_printable_caught c.caught) m.catches && list_all is_printable_item m.code))) e in
    let b = and_parts (is_word m.descriptor) (list_all is_word m.throws && (list_all (λ (c : CatchLine). is_printable_caught c.caught) m.catches && list_all is_printable_item m.code)) a.1 in
    let c = and_parts (list_all is_word m.throws) (list_all (λ (c : CatchLine). is_printable_caught c.caught) m.catches && list_all is_printable_item m.code) b.1 in
    let d = and_parts (list_all (λ (c : CatchLine). is_printable_caught c.caught) m.catches) (list_all is_printable_item m.code) c.1 in
    record { name = a.0; descriptor = b.0; throws = c.0; catches = d.0; code = d.1 }

body_follows : (b : Bool) (interface : Bool) (s : Source) (ms : List MethodLines) (m : MethodLines) → has_code m.name m.access ≡ b → IsFormedMethodLines interface m → IsListableMethod m → AreWords m
    → Follows (throwing s ms m m.throws)
    (cond b (join_words (codes ".limit" ∷ codes "stack" ∷ decimal m.max_stack ∷ []) ∷ join_words (codes ".limit" ∷ codes "locals" ∷ decimal m.max_locals ∷ []) ∷ map printed_catch m.catches ++ flat_map item_lines m.code) [] ++ codes ".end method" ∷ []) (behind s ms m)
body_follows true interface s ms m has formed listable words =
    let catches = catches_follow m.catches s ms m [] formed.catches listable.catches words.catches in
    let items = items_follow m.code s ms m [] has formed.code listable.code words.code in
    let both = follow (map printed_catch m.catches) (flat_map item_lines m.code) (catching s ms m []) (coding s ms m [] None) (coding s ms m m.code None) catches items in
    let end = one_line (coding s ms m m.code None) (behind s ms m) (codes ".end method") (end_adds s ms m) in (
      limited s ms m,
      stack_adds s ms m formed.max_stack,
      (
        catching s ms m [],
        locals_adds s ms m formed.max_locals,
        follow (map printed_catch m.catches ++ flat_map item_lines m.code) (codes ".end method" ∷ []) (catching s ms m []) (coding s ms m m.code None) (behind s ms m) both end,
      ),
    )
body_follows false interface s ms m has formed listable words = one_line (throwing s ms m m.throws) (behind s ms m) (codes ".end method") (bare_end_adds s ms m (listable.bare has))

method_follows : (p : Part) → is_in_order p part.Members ≡ true → (s : Source) (ms : List MethodLines) (m : MethodLines) → IsFormedMethodLines (is_interface s.access) m → IsListableMethod m → is_printable_method m ≡ true → list_any (is_method_like m.name m.descriptor) ms ≡ false
    → Follows (reading p s s.interfaces s.fields ms None) (method_text m) (behind s ms m)
unfolding method_text body_lines
method_follows p late s ms m formed listable printable new =
    let words = are_words m printable in
    let throws = throws_follow m.throws s ms m [] formed.throws words.throws in
    let body = body_follows (has_code m.name m.access) (is_interface s.access) s ms m refl formed listable words in (
      throwing s ms m [],
      method_adds p late s ms m formed listable words.name words.descriptor new,
      follow (map printed_throws m.throws) (body_lines m ++ codes ".end method" ∷ []) (throwing s ms m []) (throwing s ms m m.throws) (behind s ms m) throws body,
    )

-- ---- All methods

pub record MethodsRead (s : Source) (seen rest : List MethodLines) (from : Part) : Type 0 where
  pub to : Part
  pub follows : Follows (reading from s s.interfaces s.fields seen None) (flat_map method_text rest) (reading to s s.interfaces s.fields (seen ++ rest) None)

pub methods_read : (rest : List MethodLines) (s : Source) (seen : List MethodLines) (from : Part) → is_in_order from part.Members ≡ true → AllByRecursion (IsFormedMethodLines (is_interface s.access)) rest → AllByRecursion IsListableMethod rest → list_all is_printable_method rest ≡ true
    → IsDistinctBy (λ (m n : MethodLines). is_method_like n.name n.descriptor m) (seen ++ rest) → MethodsRead s seen rest from
methods_read [] s seen from late formed listable words apart = record { to = from; follows = ap (λ (ms : List MethodLines). reading from s s.interfaces s.fields ms None) (sym (append-nil seen)) }
methods_read (m ∷ rest) s seen from late formed listable words apart =
    let both = and_parts (is_printable_method m) (list_all is_printable_method rest) words in
    let whole = append_assoc seen (m ∷ []) rest in
    let new = none_before (λ (m n : MethodLines). is_method_like n.name n.descriptor m) seen m rest apart in
    let later = methods_read rest s (seen ++ m ∷ []) part.Members refl formed.1 listable.1 both.1 (rw whole apart) in
    let others : Follows (behind s seen m) (flat_map method_text rest) (reading later.to s s.interfaces s.fields (seen ++ m ∷ rest) None) = rw (← whole) later.follows in
    record {
      to = later.to;
      follows = follow (method_text m) (flat_map method_text rest) (reading from s s.interfaces s.fields seen None) (behind s seen m) (reading later.to s s.interfaces s.fields (seen ++ m ∷ rest) None) (method_follows from late s seen m formed.0 listable.0 both.0 new) others;
    }
