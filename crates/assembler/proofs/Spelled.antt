-- Applies the laws of assembled classes to the class of a source that a text spells.
use Rattle.std.proofs.Common.{◌≡◌, Ok}
use Rattle.jvms_file.specs.declared.class_file.ClassFile.{ClassFile}
use Rattle.jvms_program.specs.Meaning.{meaning}
use Rattle.jasmin.specs.declared.source.Source.{Source}
use Rattle.jasmin.specs.Denote.{denote}
use Rattle.jasmin_reader.specs.Written.{IsWritten}
use Rattle.pool_entries.specs.Entries.{AreProper}
use Rattle.assembly.specs.Assembled.{class_file_of}
use Rattle.class_file.specs.Spelled.{HasSpelling}
use Rattle.source_form_laws.proofs.Sources.{source_formed}
use Rattle.class_spelling_laws.proofs.Class.{class_is_spelled}
use Rattle.class_meaning_laws.proofs.Classes.{assembled_means}

-- Some bytes spell the class.
pub has_spelling : (s : Source) (c : ClassFile) → IsWritten s → class_file_of s ≡ Ok c → AreProper c.pool → HasSpelling c
has_spelling s c written made proper = class_is_spelled s c made (source_formed written.0 s written.1) proper

-- The class means what the source denotes.
pub means_its_source : (s : Source) (c : ClassFile) → class_file_of s ≡ Ok c → meaning c ≡ denote s
means_its_source s c made = assembled_means s c made
