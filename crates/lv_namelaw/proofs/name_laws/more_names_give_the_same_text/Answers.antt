use Rattle.lv_namelaw.proofs.KeptTexts.{entry_kept, entries_kept, text_joined, text_of_one}
use Rattle.lv_namelaw.proofs.NamedAtMost.{all_named, each_has_names, entries_at_most, entry_at_most}
use Rattle.lv_namelaw.proofs.name_laws.more_names_give_the_same_text.Goals as goal

pub returns-clause-entry : goal.returns-clause-entry
returns-clause-entry c = entry_kept

pub returns-clause-entries : goal.returns-clause-entries
returns-clause-entries c = entries_kept

pub returns-clause-joined : goal.returns-clause-joined
returns-clause-joined c = text_joined

pub returns-clause-one : goal.returns-clause-one
returns-clause-one c = text_of_one

pub returns-clause-entry_named : goal.returns-clause-entry_named
returns-clause-entry_named c = entry_at_most

pub returns-clause-entries_named : goal.returns-clause-entries_named
returns-clause-entries_named c = entries_at_most

pub returns-clause-each : goal.returns-clause-each
returns-clause-each c = each_has_names

pub returns-clause-all_named : goal.returns-clause-all_named
returns-clause-all_named c = all_named
