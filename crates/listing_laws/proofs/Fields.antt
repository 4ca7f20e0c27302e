-- Proves that a field's line adds the field.
use Rattle.std.proofs.Common.{◌≡◌, ℕ, Bool, true, false, eqb, List, [], ◌∷◌, ◌++◌, length, map, Option, Some, None, Ok, refl, sym, ap, subst, ◌∙◌, append_assoc, append-nil}
use Rattle.std.specs.Prelude.{codes}
use Rattle.std.specs.Fmt.{signed_decimal}
use Rattle.std.specs.List.{list_all, list_any, AllByRecursion}
use Rattle.std.proofs.lemmas.Bool.{and_parts, eqb-true, le-leb, or_parts}
use Rattle.jvms_file.specs.Spelling.{IsDistinctBy}
use Rattle.jasmin.specs.declared.token.Lexeme.{Lexeme}
use Rattle.jasmin.specs.declared.token.Lexeme.TheVariants as lexeme
use Rattle.jasmin.specs.declared.source.FieldConstant.{FieldConstant}
use Rattle.jasmin.specs.declared.source.FieldConstant.TheVariants as constant
use Rattle.jasmin.specs.declared.source.FieldLine.{FieldLine}
use Rattle.jasmin.specs.declared.source.MethodLines.{MethodLines}
use Rattle.jasmin.specs.declared.source.Source.{Source}
use Rattle.jasmin.specs.declared.statement.Directive.TheVariants as directive
use Rattle.jasmin.specs.declared.statement.LineKind.TheVariants as kind
use Rattle.jasmin.specs.declared.statement.Statement.TheVariants as statement
use Rattle.jasmin.specs.declared.reading.Part.{Part}
use Rattle.jasmin.specs.declared.reading.Part.TheVariants as part
use Rattle.jasmin.specs.LineKinds.{kind_of}
use Rattle.jasmin.specs.Operands.{field_words, flags_in, access_words}
use Rattle.jasmin.specs.Statements.{statement_of, field_head, field_tail, field_line, is_int_type, is_long, constant_in}
use Rattle.jasmin.specs.Reading.{with_line, with_statement, is_in_place, is_in_order, is_repeated, is_field_like}
use Rattle.source_form_laws.specs.Formed.{IsFormedValue, IsFormedFieldLine}
use Rattle.listing_spec.specs.Printed.{access_names, value_words}
use Rattle.listing_spec.specs.Printed.{field_line as printed_field}
use Rattle.listing_spec.specs.Printable.{is_word, is_printable_field}
use Rattle.listing_spec.specs.Listable.{IsListableValue, IsListableField}
use Rattle.listing_laws.proofs.Words.{ArePieces, fixed_piece, plain_piece, equals_piece, pieces_push}
use Rattle.listing_laws.proofs.Numbers.{signed_plain, small31, small63, i32_reads, i64_reads}
use Rattle.listing_laws.proofs.Flags.{as_words, names_are, field_words_read, field_words_plain}
use Rattle.listing_laws.proofs.Names.{head_plain, name_head, descriptor_head}
use Rattle.listing_laws.proofs.Cuts.{at_least_two, but_two_is, last_but_one_is, last_of_two_is}
use Rattle.listing_laws.proofs.Quotes.{quoted_piece}
use Rattle.listing_laws.proofs.Follows.{Follows, words_add}
use Rattle.listing_laws.proofs.Header.{reading}

-- ---- Constants

abbrev value_lexemes : Option FieldConstant → List Lexeme
value_lexemes None = []
value_lexemes (Some (constant.Integer n)) = lexeme.Equals ∷ lexeme.Word (signed_decimal n) ∷ []
value_lexemes (Some (constant.Long n)) = lexeme.Equals ∷ lexeme.Word (signed_decimal n) ∷ []
value_lexemes (Some (constant.String text)) = lexeme.Equals ∷ lexeme.Text text ∷ []

value_pieces : (descriptor : List ℕ) (v : Option FieldConstant) → IsFormedValue descriptor v → IsListableValue v → ArePieces (value_words v) (value_lexemes v)
value_pieces d None formed listable = tt
value_pieces d (Some (constant.Integer n)) formed listable = (equals_piece, (plain_piece (signed_decimal n) (signed_plain n (small31 n formed.1)), tt))
value_pieces d (Some (constant.Long n)) formed listable = (equals_piece, (plain_piece (signed_decimal n) (signed_plain n (small63 n formed.1)), tt))
value_pieces d (Some (constant.String text)) formed listable = (equals_piece, (quoted_piece text listable, tt))

not_long : (d : List ℕ) → is_int_type d ≡ true → is_long d ≡ false
not_long [] e = refl
not_long (u ∷ us) e = by (eqb u 74) refl
  where
    by : (b : Bool) → eqb u 74 ≡ b → is_long (u ∷ us) ≡ false
    by true is = absurd (let bad : is_int_type (74 ∷ us) ≡ true = subst (λ (v : ℕ). is_int_type (v ∷ us) ≡ true) (eqb-true u 74 is) e in cc)
    by false is = rw is refl

value_reads : (d : List ℕ) (v : Option FieldConstant) → IsFormedValue d v → constant_in d (field_tail (value_lexemes v)) ≡ Ok v
value_reads d None formed = refl
value_reads d (Some (constant.Integer n)) formed = rw (not_long d formed.0, i32_reads n formed.1, formed.0) refl
value_reads d (Some (constant.Long n)) formed = rw (formed.0, i64_reads n formed.1) refl
value_reads d (Some (constant.String text)) formed = rw formed refl

-- ---- Heads and tails

head_is : (ws : List (List ℕ)) (ls : List Lexeme) → field_head (as_words ws ++ ls) ≡ as_words ws ++ field_head ls
head_is [] ls = refl
head_is (w ∷ ws) ls = ap (λ (ks : List Lexeme). lexeme.Word w ∷ ks) (head_is ws ls)

tail_is : (ws : List (List ℕ)) (ls : List Lexeme) → field_tail (as_words ws ++ ls) ≡ field_tail ls
tail_is [] ls = refl
tail_is (w ∷ ws) ls = tail_is ws ls

no_head : (v : Option FieldConstant) → field_head (value_lexemes v) ≡ []
no_head None = refl
no_head (Some (constant.Integer n)) = refl
no_head (Some (constant.Long n)) = refl
no_head (Some (constant.String text)) = refl

-- ---- The line

field_statement : (f : FieldLine) (ws : List (List ℕ)) → flags_in field_words (as_words ws) ≡ f.access → access_words field_words (as_words ws) ≡ Ok tt → IsFormedFieldLine f
    → field_line (as_words ws ++ lexeme.Word f.name ∷ lexeme.Word f.descriptor ∷ value_lexemes f.constant) ≡ Ok (statement.Field f)
unfolding field_line
field_statement f ws flags apart formed =
    let name = lexeme.Word f.name in
    let descriptor = lexeme.Word f.descriptor in
    let xs = as_words ws in
    let head : field_head (xs ++ name ∷ descriptor ∷ value_lexemes f.constant) ≡ xs ++ name ∷ descriptor ∷ [] =
    head_is ws (name ∷ descriptor ∷ value_lexemes f.constant) ∙ ap (λ (ks : List Lexeme). xs ++ name ∷ descriptor ∷ ks) (no_head f.constant) in
    let tail : field_tail (xs ++ name ∷ descriptor ∷ value_lexemes f.constant) ≡ field_tail (value_lexemes f.constant) = tail_is ws (name ∷ descriptor ∷ value_lexemes f.constant) in
    rw (head, tail, le-leb 2 (length (xs ++ name ∷ descriptor ∷ [])) (at_least_two xs name descriptor), last_but_one_is xs name descriptor, last_of_two_is xs name descriptor, but_two_is xs name descriptor, formed.name, formed.descriptor, value_reads f.descriptor f.constant formed.value, apart, flags)
    refl

pub field_read : (p : Part) → is_in_order p part.Members ≡ true → (s : Source) (seen : List FieldLine) (ms : List MethodLines) (f : FieldLine) → IsFormedFieldLine f → IsListableField f → is_printable_field f ≡ true → list_any (is_field_like f.name f.descriptor) seen ≡ false
    → with_line (reading p s s.interfaces seen ms None) (printed_field f) ≡ Ok (reading part.Members s s.interfaces (seen ++ f ∷ []) ms None)
unfolding printed_field kind_of is_in_place statement_of is_repeated with_statement
field_read p late s seen ms f formed listable words new =
    let both = and_parts (is_word f.name) (is_word f.descriptor) words in
    let ws = access_names field_words f.access in
    let written = field_words_read f.access listable.access in
    let name = plain_piece f.name (head_plain f.name (name_head f.name formed.name) both.0) in
    let descriptor = plain_piece f.descriptor (head_plain f.descriptor (descriptor_head f.descriptor formed.descriptor) both.1) in
    words_add (reading p s s.interfaces seen ms None) (codes ".field" ∷ ws ++ (f.name ∷ f.descriptor ∷ value_words f.constant)) (lexeme.Word (codes ".field") ∷ as_words ws ++ lexeme.Word f.name ∷ lexeme.Word f.descriptor ∷ value_lexemes f.constant) (kind.Directive directive.Field) (statement.Field f)
    (fixed_piece (codes ".field") refl, pieces_push ws (f.name ∷ f.descriptor ∷ value_words f.constant) (as_words ws) (lexeme.Word f.name ∷ lexeme.Word f.descriptor ∷ value_lexemes f.constant) (names_are field_words f.access field_words_plain) (name, (descriptor, value_pieces f.descriptor f.constant formed.value listable.value)))
    refl late (field_statement f ws written.flags written.apart formed) new

-- ---- All fields

-- In a list no two elements of which are alike, no element is like one before it.
pub none_before : {A : Type 0} (same : A → A → Bool) (seen : List A) (x : A) (rest : List A) → IsDistinctBy same (seen ++ x ∷ rest) → list_any (λ y. same y x) seen ≡ false
none_before same [] x rest apart = refl
none_before {A} same (y ∷ seen) x rest apart = rw (here seen apart.0, none_before same seen x rest apart.1) refl
  where
    here : (ys : List A) → list_any (λ z. same y z) (ys ++ x ∷ rest) ≡ false → same y x ≡ false
    here [] e = (or_parts (same y x) (list_any (λ z. same y z) rest) e).0
    here (z ∷ zs) e = here zs (or_parts (same y z) (list_any (λ w. same y w) (zs ++ x ∷ rest)) e).1

pub record FieldsRead (s : Source) (seen rest : List FieldLine) (from : Part) : Type 0 where
  pub to : Part
  pub late : is_in_order to part.Members ≡ true
  pub follows : Follows (reading from s s.interfaces seen [] None) (map printed_field rest) (reading to s s.interfaces (seen ++ rest) [] None)

pub fields_read : (rest : List FieldLine) (s : Source) (seen : List FieldLine) (from : Part) → is_in_order from part.Members ≡ true → AllByRecursion IsFormedFieldLine rest → AllByRecursion IsListableField rest → list_all is_printable_field rest ≡ true → IsDistinctBy (λ (f g : FieldLine). is_field_like g.name g.descriptor f) (seen ++ rest)
    → FieldsRead s seen rest from
fields_read [] s seen from late formed listable words apart = record { to = from; late = late; follows = ap (λ (fs : List FieldLine). reading from s s.interfaces fs [] None) (sym (append-nil seen)) }
fields_read (f ∷ rest) s seen from late formed listable words apart =
    let both = and_parts (is_printable_field f) (list_all is_printable_field rest) words in
    let whole = append_assoc seen (f ∷ []) rest in
    let new = none_before (λ (f g : FieldLine). is_field_like g.name g.descriptor f) seen f rest apart in
    let later = fields_read rest s (seen ++ f ∷ []) part.Members refl formed.1 listable.1 both.1 (rw whole apart) in
    record {
      to = later.to;
      late = later.late;
      follows = (reading part.Members s s.interfaces (seen ++ f ∷ []) [] None, field_read from late s seen [] f formed.0 listable.0 both.0 new, rw (← whole) later.follows);
    }
