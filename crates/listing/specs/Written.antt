-- Defines which texts mean a class.
use Rattle.std.specs.Prelude.{◌≡◌, ℕ, List, Ok}
use Rattle.jvms_file.specs.declared.class_file.ClassFile.{ClassFile}
use Rattle.jvms_program.specs.Meaning.{meaning}
use Rattle.jasmin.specs.declared.source.Source.{Source}
use Rattle.jasmin.specs.Denote.{denote}
use Rattle.jasmin.specs.Reading.{source_of}

-- A text is read as a tree that denotes what the class means.
abbrev pub MeansClass : List ℕ → ClassFile → Type 0
MeansClass text c = (tree : Source) × (source_of text ≡ Ok tree) × (denote tree ≡ meaning c)
