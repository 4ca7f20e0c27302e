use Rattle.assembled_entry_laws.proofs.Entries.{constant_is_entered, text_is_entered, class_is_entered, string_is_entered, integer_is_entered, long_is_entered, name_and_type_is_entered, field_is_entered, method_is_entered}
use Rattle.assembled_entry_laws.proofs.one_entry.Goals as goal

pub returns-clause-constants : goal.returns-clause-constants
returns-clause-constants c = constant_is_entered

pub returns-clause-texts : goal.returns-clause-texts
returns-clause-texts c = text_is_entered

pub returns-clause-classes : goal.returns-clause-classes
returns-clause-classes c = class_is_entered

pub returns-clause-strings : goal.returns-clause-strings
returns-clause-strings c = string_is_entered

pub returns-clause-integers : goal.returns-clause-integers
returns-clause-integers c = integer_is_entered

pub returns-clause-longs : goal.returns-clause-longs
returns-clause-longs c = long_is_entered

pub returns-clause-names_and_types : goal.returns-clause-names_and_types
returns-clause-names_and_types c = name_and_type_is_entered

pub returns-clause-fields : goal.returns-clause-fields
returns-clause-fields c = field_is_entered

pub returns-clause-methods : goal.returns-clause-methods
returns-clause-methods c = method_is_entered
