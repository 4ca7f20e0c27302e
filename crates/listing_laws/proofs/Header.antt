-- Proves that the lines before the members are read: the version, the class with its superclass, and the interfaces.
use Rattle.std.proofs.Common.{◌≡◌, ℕ, true, false, List, [], ◌∷◌, ◌++◌, map, Option, Some, None, Ok, refl, sym, ap, append_assoc, append-nil}
use Rattle.std.specs.Prelude.{codes, bit_or}
use Rattle.std.specs.List.{list_all, AllByRecursion}
use Rattle.std.proofs.lemmas.Bool.{and_parts}
use Rattle.jvms_file.specs.Names.{is_class_name}
use Rattle.jvms_file.specs.Members.{is_interface}
use Rattle.jasmin.specs.declared.token.Lexeme.TheVariants as lexeme
use Rattle.jasmin.specs.declared.source.FieldLine.{FieldLine}
use Rattle.jasmin.specs.declared.source.MethodLines.{MethodLines}
use Rattle.jasmin.specs.declared.source.Source.{Source}
use Rattle.jasmin.specs.declared.statement.Directive.TheVariants as directive
use Rattle.jasmin.specs.declared.statement.LineKind.TheVariants as kind
use Rattle.jasmin.specs.declared.statement.Statement.TheVariants as statement
use Rattle.jasmin.specs.declared.reading.Part.{Part}
use Rattle.jasmin.specs.declared.reading.Part.TheVariants as part
use Rattle.jasmin.specs.declared.reading.OpenMethod.{OpenMethod}
use Rattle.jasmin.specs.declared.reading.Reading.{Reading}
use Rattle.jasmin.specs.LineKinds.{kind_of}
use Rattle.jasmin.specs.Operands.{class_words, flags_in, access_words}
use Rattle.jasmin.specs.Statements.{statement_of, bytecode_line, class_line, super_line, implements_line}
use Rattle.jasmin.specs.Reading.{empty_reading, with_line, with_statement, is_in_place, is_in_order, is_repeated}
use Rattle.listing_spec.specs.Printed.{join_words, access_names, written_class_words, written_interface_words}
use Rattle.listing_spec.specs.Printable.{is_word}
use Rattle.listing_spec.specs.TreeOf.{class_flags}
use Rattle.listing_laws.proofs.Words.{fixed_piece, plain_piece, pieces_push}
use Rattle.listing_laws.proofs.Flags.{as_words, names_are, class_words_read, interface_words_read, class_words_plain, interface_words_plain}
use Rattle.listing_laws.proofs.Names.{head_plain, class_head}
use Rattle.listing_laws.proofs.Cuts.{but_last_is, last_is}
use Rattle.listing_laws.proofs.Follows.{Follows, words_add}

-- ---- States of the reader

-- The state after the line of the version.
abbrev pub versioned : Reading
versioned =
    record { part = part.Beginning; has_bytecode = true; has_source = false; access = 0; name = None; superclass = None; interfaces = []; fields = []; methods = []; method = None }

-- Returns the state after the line of the class.
abbrev pub named : Source → Reading
named s =
    record { part = part.Class; has_bytecode = true; has_source = false; access = s.access; name = Some s.name; superclass = None; interfaces = []; fields = []; methods = []; method = None }

-- Returns the state after the line of the superclass, with these parts of the class.
abbrev pub reading : Part → Source → List (List ℕ) → List FieldLine → List MethodLines → Option OpenMethod → Reading
reading p s interfaces fields methods method =
    record { part = p; has_bytecode = true; has_source = false; access = s.access; name = Some s.name; superclass = Some s.superclass; interfaces = interfaces; fields = fields; methods = methods; method = method }

-- ---- The version

pub version_line : with_line empty_reading (codes ".bytecode 49.0") ≡ Ok versioned
unfolding join_words kind_of is_in_place statement_of bytecode_line is_repeated with_statement
version_line =
    words_add empty_reading (codes ".bytecode" ∷ codes "49.0" ∷ []) (lexeme.Word (codes ".bytecode") ∷ lexeme.Word (codes "49.0") ∷ []) (kind.Directive directive.Bytecode) statement.Bytecode
    (fixed_piece (codes ".bytecode") refl, (fixed_piece (codes "49.0") refl, tt)) refl refl refl refl

-- ---- The class

-- Access words and a class's name are the statement of the class.
class_statement : (added : ℕ) (ws : List (List ℕ)) (access : ℕ) (name : List ℕ) → bit_or (flags_in class_words (as_words ws)) added ≡ access → access_words class_words (as_words ws) ≡ Ok tt → is_class_name name ≡ true
    → class_line added (as_words ws ++ lexeme.Word name ∷ []) ≡ Ok (statement.Class access name)
unfolding class_line
class_statement added ws access name flags apart is =
    rw (but_last_is (as_words ws) (lexeme.Word name), last_is (as_words ws) (lexeme.Word name), apart, is, flags) refl

pub plain_class_line : (s : Source) → is_interface s.access ≡ false → s.access ≡ class_flags s.access → is_class_name s.name ≡ true → is_word s.name ≡ true
    → with_line versioned (join_words (codes ".class" ∷ access_names written_class_words s.access ++ s.name ∷ [])) ≡ Ok (named s)
unfolding kind_of is_in_place statement_of is_repeated with_statement
plain_class_line s none flags is word =
    let ws = access_names written_class_words s.access in
    let written = class_words_read s.access flags none in
    words_add versioned (codes ".class" ∷ ws ++ s.name ∷ []) (lexeme.Word (codes ".class") ∷ as_words ws ++ lexeme.Word s.name ∷ []) (kind.Directive directive.Class) (statement.Class s.access s.name)
    (fixed_piece (codes ".class") refl, pieces_push ws (s.name ∷ []) (as_words ws) (lexeme.Word s.name ∷ []) (names_are written_class_words s.access class_words_plain) (plain_piece s.name (head_plain s.name (class_head s.name is) word), tt))
    refl refl (class_statement 32 ws s.access s.name written.flags written.apart is) refl

pub interface_line : (s : Source) → is_interface s.access ≡ true → s.access ≡ class_flags s.access → is_class_name s.name ≡ true → is_word s.name ≡ true
    → with_line versioned (join_words (codes ".interface" ∷ access_names written_interface_words s.access ++ s.name ∷ [])) ≡ Ok (named s)
unfolding kind_of is_in_place statement_of is_repeated with_statement
interface_line s some flags is word =
    let ws = access_names written_interface_words s.access in
    let written = interface_words_read s.access flags some in
    words_add versioned (codes ".interface" ∷ ws ++ s.name ∷ []) (lexeme.Word (codes ".interface") ∷ as_words ws ++ lexeme.Word s.name ∷ []) (kind.Directive directive.Interface) (statement.Class s.access s.name)
    (fixed_piece (codes ".interface") refl, pieces_push ws (s.name ∷ []) (as_words ws) (lexeme.Word s.name ∷ []) (names_are written_interface_words s.access interface_words_plain) (plain_piece s.name (head_plain s.name (class_head s.name is) word), tt))
    refl refl (class_statement 1536 ws s.access s.name written.flags written.apart is) refl

-- ---- The superclass and the interfaces

super_statement : (name : List ℕ) → is_class_name name ≡ true → super_line (lexeme.Word name ∷ []) ≡ Ok (statement.Superclass name)
unfolding super_line
super_statement name is = rw is refl

implements_statement : (name : List ℕ) → is_class_name name ≡ true → implements_line (lexeme.Word name ∷ []) ≡ Ok (statement.Implements name)
unfolding implements_line
implements_statement name is = rw is refl

pub superclass_line : (s : Source) → is_class_name s.superclass ≡ true → is_word s.superclass ≡ true → with_line (named s) (join_words (codes ".super" ∷ s.superclass ∷ [])) ≡ Ok (reading part.Super s [] [] [] None)
unfolding kind_of is_in_place statement_of is_repeated with_statement
superclass_line s is word =
    words_add (named s) (codes ".super" ∷ s.superclass ∷ []) (lexeme.Word (codes ".super") ∷ lexeme.Word s.superclass ∷ []) (kind.Directive directive.Super) (statement.Superclass s.superclass)
    (fixed_piece (codes ".super") refl, (plain_piece s.superclass (head_plain s.superclass (class_head s.superclass is) word), tt))
    refl refl (super_statement s.superclass is) refl

-- A part that interfaces and members may follow.
abbrev pub IsEarly : Part → Type 0
IsEarly p = (is_in_order p part.Implements ≡ true) × (is_in_order p part.Members ≡ true)

interface_read : (p : Part) → IsEarly p → (s : Source) (seen : List (List ℕ)) (name : List ℕ) → is_class_name name ≡ true → is_word name ≡ true
    → with_line (reading p s seen [] [] None) (join_words (codes ".implements" ∷ name ∷ [])) ≡ Ok (reading part.Implements s (seen ++ name ∷ []) [] [] None)
unfolding kind_of is_in_place statement_of is_repeated with_statement
interface_read p early s seen name is word =
    words_add (reading p s seen [] [] None) (codes ".implements" ∷ name ∷ []) (lexeme.Word (codes ".implements") ∷ lexeme.Word name ∷ []) (kind.Directive directive.Implements) (statement.Implements name)
    (fixed_piece (codes ".implements") refl, (plain_piece name (head_plain name (class_head name is) word), tt))
    refl early.0 (implements_statement name is) refl

-- Consecutive interfaces are read, and lead to this part.
pub record AreRead (s : Source) (seen rest : List (List ℕ)) (from : Part) : Type 0 where
  pub to : Part
  pub early : IsEarly to
  pub follows : Follows (reading from s seen [] [] None) (map (λ name. join_words (codes ".implements" ∷ name ∷ [])) rest) (reading to s (seen ++ rest) [] [] None)

pub interfaces_read : (rest : List (List ℕ)) (s : Source) (seen : List (List ℕ)) (from : Part) → IsEarly from → AllByRecursion (λ name. is_class_name name ≡ true) rest → list_all is_word rest ≡ true → AreRead s seen rest from
interfaces_read [] s seen from early are words = record { to = from; early = early; follows = ap (λ (is : List (List ℕ)). reading from s is [] [] None) (sym (append-nil seen)) }
interfaces_read (name ∷ rest) s seen from early are words =
    let both = and_parts (is_word name) (list_all is_word rest) words in
    let later = interfaces_read rest s (seen ++ name ∷ []) part.Implements (refl, refl) are.1 both.1 in
    record {
      to = later.to;
      early = later.early;
      follows = (reading part.Implements s (seen ++ name ∷ []) [] [] None, interface_read from early s seen name are.0 both.0, rw (← (append_assoc seen (name ∷ []) rest)) later.follows);
    }
