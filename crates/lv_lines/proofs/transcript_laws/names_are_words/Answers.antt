use Rattle.lv_lines.proofs.NamesAreWords.{program_word, schema_word, session_words}
use Rattle.lv_lines.proofs.transcript_laws.names_are_words.Goals as goal

pub returns-clause-programs : goal.returns-clause-programs
returns-clause-programs c = program_word

pub returns-clause-schema : goal.returns-clause-schema
returns-clause-schema c = schema_word

pub returns-clause-sessions : goal.returns-clause-sessions
returns-clause-sessions c = session_words
