use Rattle.lv_lines.proofs.ExactEntries.{text_tells}
use Rattle.lv_lines.proofs.transcript_laws.text_tells_entries.Goals as goal

pub returns : goal.returns
returns c = text_tells c.args.names.now c.requires
