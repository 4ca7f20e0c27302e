use Rattle.pool_entries.proofs.Lookups.{utf8_at-kept, class_name_at-kept, name_and_type_at-kept, IsString-kept, IsMember-kept}
use Rattle.pool_entries.proofs.laws.names_are_kept.Goals as goal

pub returns-clause-texts : goal.returns-clause-texts
returns-clause-texts c = utf8_at-kept

pub returns-clause-classes : goal.returns-clause-classes
returns-clause-classes c = class_name_at-kept

pub returns-clause-names_and_types : goal.returns-clause-names_and_types
returns-clause-names_and_types c = name_and_type_at-kept

pub returns-clause-strings : goal.returns-clause-strings
returns-clause-strings c = IsString-kept

pub returns-clause-members : goal.returns-clause-members
returns-clause-members c = IsMember-kept
