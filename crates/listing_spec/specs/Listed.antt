-- Defines the listing of a class file: the lines of its tree, or the fault.
use Rattle.std.specs.Prelude.{ℕ, List, Result, Ok}
use Rattle.jvms_file.specs.declared.class_file.ClassFile.{ClassFile}
use Rattle.jvms_file.specs.Results.{◌>>=◌, want}
use Rattle.listing_spec.specs.declared.fault.ListFault.{ListFault}
use Rattle.listing_spec.specs.declared.fault.ListFault.TheVariants as fault
use Rattle.listing_spec.specs.TreeOf.{tree_of}
use Rattle.listing_spec.specs.Printed.{lines_of_source}
use Rattle.listing_spec.specs.Printable.{is_printable}

unfoldable pub listing_of : ClassFile → Result (List (List ℕ)) ListFault
listing_of c = do
  tree ← tree_of c
  _ ← want (is_printable tree) fault.Name
  Ok (lines_of_source tree)
