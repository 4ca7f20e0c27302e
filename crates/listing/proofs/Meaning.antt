-- Applies the laws of listings to a class that bytes spell.
use Rattle.std.proofs.Common.{◌≡◌, ℕ, true, List, map, Ok}
use Rattle.std.specs.Str.Lines.{lines}
use Rattle.jvms_file.specs.declared.class_file.ClassFile.{ClassFile}
use Rattle.jasmin.specs.declared.source.Source.{Source}
use Rattle.jasmin.specs.Sources.{units_of}
use Rattle.class_file.specs.Spelled.{HasSpelling}
use Rattle.listing_spec.specs.TreeOf.{tree_of}
use Rattle.listing_spec.specs.Printed.{lines_of_source}
use Rattle.listing_spec.specs.Printable.{is_printable}
use Rattle.listing_spec.specs.Listable.{IsListable}
use Rattle.listing.specs.Written.{MeansClass}
use Rattle.tree_meaning_laws.proofs.Classes.{tree_means}
use Rattle.tree_form_laws.proofs.Classes.{tree_formed}
use Rattle.tree_form_laws.proofs.Listed.{tree_listable}
use Rattle.listing_laws.proofs.Listed.{listed_is_read}

-- The tree of a class that bytes spell is listable.
pub is_listable : (c : ClassFile) (tree : Source) → HasSpelling c → tree_of c ≡ Ok tree → IsListable tree
is_listable c tree spelled is = tree_listable spelled.0 c tree spelled.1 is

-- A text with its lines means the class.
pub means_class : (text : List ℕ) (c : ClassFile) (tree : Source) → HasSpelling c → tree_of c ≡ Ok tree → is_printable tree ≡ true → map units_of (lines text) ≡ lines_of_source tree → MeansClass text c
means_class text c tree spelled is printable same =
    (tree, listed_is_read text tree same printable (tree_formed spelled.0 c tree spelled.1 is) (is_listable c tree spelled is), tree_means spelled.0 c tree spelled.1 is)
