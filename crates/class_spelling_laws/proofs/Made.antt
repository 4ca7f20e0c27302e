-- Defines what is made of a part of a source, with the pool in which its indices name what they have to.
use Rattle.std.proofs.Common.{◌≡◌, ℕ, true, List, Some, Ok}
use Rattle.jvms_file.specs.declared.class_file.Constant.{Constant}
use Rattle.jvms_file.specs.ConstantPool.{utf8_at, is_class}
use Rattle.jvms_file.specs.Members.{is_named}
use Rattle.jvms_file.specs.Spelling.{IsU2}
use Rattle.pool_entries.specs.Entries.{text_entry, class_entry}
use Rattle.pool_entries.specs.Kept.{IsKept}
use Rattle.pool_entries.proofs.Lookups.{utf8_at-kept}
use Rattle.assembly.specs.Named.{NamesClass}
use Rattle.source_form_laws.specs.Formed.{IsClassOrArray}
use Rattle.assembled_entry_laws.proofs.Entries.{text_is_entered, class_is_entered}
use Rattle.class_spelling_laws.proofs.Names.{same_here}
use Rattle.class_spelling_laws.proofs.Pools.{IsGood, some_inside}
use Rattle.class_spelling_laws.proofs.Operands.{number_fits, text_good, class_good}

-- The new pool has no fault and keeps the entries of the old one, and a fact holds.
pub record Made (old new : List Constant) (Fact : Type 0) : Type 0 where
  pub good : IsGood new
  pub kept : IsKept old new
  pub fact : Fact

-- An index is that of a text.
abbrev pub NamesText : List Constant → ℕ → List ℕ → Type 0
NamesText pool n text = IsU2 n × (utf8_at pool n ≡ Some text)

pub text-kept : (old new : List Constant) (n : ℕ) (text : List ℕ) → IsKept old new → NamesText old n text → NamesText new n text
text-kept old new n text kept is = (is.0, utf8_at-kept old new n text kept is.1)

-- An index of a text names the attributes of this name.
pub text_is_named : (pool : List Constant) (n : ℕ) (text : List ℕ) → NamesText pool n text → is_named pool n text ≡ true
text_is_named pool n text is = rw is.1 (same_here text)

-- An index of a class's name is that of a Class entry.
pub names_class : (pool : List Constant) (n : ℕ) (name : List ℕ) → NamesClass pool n name → is_class pool n ≡ true
names_class pool n name is = some_inside (utf8_at pool) _ name is.1

pub text_made : (pool new : List Constant) (units : List ℕ) (n : ℕ) → IsGood pool → text_entry pool units ≡ Ok (n, new) → Made pool new (NamesText new n units)
text_made pool new units n good gives =
    let is = text_is_entered pool new units n good.few gives in
    record { good = text_good pool new units n good gives; kept = is.0.kept; fact = (number_fits pool new n is.0, is.1) }

pub class_made : (pool new : List Constant) (name : List ℕ) (n : ℕ) → IsGood pool → IsClassOrArray name → class_entry pool name ≡ Ok (n, new) → Made pool new (NamesClass new n name)
class_made pool new name n good form gives =
    let is = class_is_entered pool new name n good.few gives in
    record { good = class_good pool new name n good form gives; kept = is.0.kept; fact = (number_fits pool new n is.0, is.1) }
