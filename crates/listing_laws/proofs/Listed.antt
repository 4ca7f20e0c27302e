-- Proves that the lines of a tree's text are read as the tree.
use Rattle.std.proofs.Common.{◌≡◌, ℕ, ◌&&◌, Bool, true, false, cond, List, [], ◌∷◌, ◌++◌, map, None, Ok, refl}
use Rattle.std.specs.Prelude.{codes}
use Rattle.std.specs.List.{list_all, flat_map}
use Rattle.std.specs.Str.Lines.{lines}
use Rattle.std.proofs.lemmas.Bool.{and_parts}
use Rattle.jvms_file.specs.Names.{is_class_name}
use Rattle.jvms_file.specs.Members.{is_interface}
use Rattle.jasmin.specs.declared.source.Source.{Source}
use Rattle.jasmin.specs.declared.reading.Part.{Part}
use Rattle.jasmin.specs.declared.reading.Part.TheVariants as part
use Rattle.jasmin.specs.declared.reading.Reading.{Reading}
use Rattle.jasmin.specs.Sources.{units_of}
use Rattle.jasmin.specs.Reading.{empty_reading, with_line, source_of}
use Rattle.source_form_laws.specs.Formed.{IsFormed}
use Rattle.listing_spec.specs.Printed.{join_words, access_names, written_class_words, written_interface_words, field_line, method_text, lines_of_source}
use Rattle.listing_spec.specs.Printable.{is_word, is_printable_field, is_printable_method, is_printable}
use Rattle.listing_spec.specs.Listable.{IsListable}
use Rattle.listing_spec.specs.TreeOf.{class_flags}
use Rattle.listing_laws.proofs.Follows.{Follows, follow, lines_follow}
use Rattle.listing_laws.proofs.Header.{versioned, named, reading, version_line, plain_class_line, interface_line, superclass_line, interfaces_read}
use Rattle.listing_laws.proofs.Fields.{fields_read}
use Rattle.listing_laws.proofs.Methods.{methods_read}

class_by : (b : Bool) (s : Source) → is_interface s.access ≡ b → s.access ≡ class_flags s.access → is_class_name s.name ≡ true → is_word s.name ≡ true
    → with_line versioned (cond b (join_words (codes ".interface" ∷ access_names written_interface_words s.access ++ s.name ∷ [])) (join_words (codes ".class" ∷ access_names written_class_words s.access ++ s.name ∷ []))) ≡ Ok (named s)
class_by true s is flags name word = interface_line s is flags name word
class_by false s is flags name word = plain_class_line s is flags name word

-- The words of a tree are allowed.
record AreWords (s : Source) : Type 0 where
  pub name : is_word s.name ≡ true
  pub superclass : is_word s.superclass ≡ true
  pub interfaces : list_all is_word s.interfaces ≡ true
  pub fields : list_all is_printable_field s.fields ≡ true
  pub methods : list_all is_printable_method s.methods ≡ true

are_words : (s : Source) → is_printable s ≡ true → AreWords s
unfolding is_printable
are_words s e =
    let a = and_parts (is_word s.name) (is_word s.superclass && (list_all is_word s.interfaces && (list_all is_printable_field s.fields && list_all is_printable_method s.methods))) e in
    let b = and_parts (is_word s.superclass) (list_all is_word s.interfaces && (list_all is_printable_field s.fields && list_all is_printable_method s.methods)) a.1 in
    let c = and_parts (list_all is_word s.interfaces) (list_all is_printable_field s.fields && list_all is_printable_method s.methods) b.1 in
    let d = and_parts (list_all is_printable_field s.fields) (list_all is_printable_method s.methods) c.1 in
    record { name = a.0; superclass = b.0; interfaces = c.0; fields = d.0; methods = d.1 }

-- Returns the state after all lines of a tree.
abbrev all_read : Part → Source → Reading
all_read p s = reading p s s.interfaces s.fields s.methods None

record IsAllRead (s : Source) : Type 0 where
  pub to : Part
  pub follows : Follows empty_reading (lines_of_source s) (all_read to s)

tree_follows : (s : Source) → is_printable s ≡ true → IsFormed s → IsListable s → IsAllRead s
unfolding lines_of_source
tree_follows s printable formed listable =
    let words = are_words s printable in
    let interfaces = interfaces_read s.interfaces s [] part.Super (refl, refl) formed.interfaces words.interfaces in
    let fields = fields_read s.fields s [] interfaces.to interfaces.early.1 formed.fields listable.fields words.fields formed.distinct_fields in
    let methods = methods_read s.methods s [] fields.to fields.late formed.methods listable.methods words.methods formed.distinct_methods in
    let members = follow (map field_line s.fields) (flat_map method_text s.methods) (reading interfaces.to s s.interfaces [] [] None) (reading fields.to s s.interfaces s.fields [] None) (all_read methods.to s) fields.follows methods.follows in
    record {
      to = methods.to;
      follows = (
        versioned,
        version_line,
        (
          named s,
          class_by (is_interface s.access) s refl listable.access formed.name words.name,
          (
            reading part.Super s [] [] [] None,
            superclass_line s formed.superclass words.superclass,
            follow (map (λ name. join_words (codes ".implements" ∷ name ∷ [])) s.interfaces) (map field_line s.fields ++ flat_map method_text s.methods) (reading part.Super s [] [] [] None) (reading interfaces.to s s.interfaces [] [] None) (all_read methods.to s) interfaces.follows members,
          ),
        ),
      );
    }

-- A text whose lines are those of a tree is read as the tree, if the tree is printable, formed and listable.
pub listed_is_read : (text : List ℕ) (tree : Source) → map units_of (lines text) ≡ lines_of_source tree → is_printable tree ≡ true → IsFormed tree → IsListable tree → source_of text ≡ Ok tree
unfolding source_of
listed_is_read text tree same printable formed listable =
    let all = tree_follows tree printable formed listable in
    rw (lines_follow (lines text) (lines_of_source tree) 0 empty_reading (all_read all.to tree) same all.follows) refl
