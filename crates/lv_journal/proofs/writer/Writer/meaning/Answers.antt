use Rattle.lv_journal.proofs.Meaning.{keeps_in, length_counts, told_in, told_records}
use Rattle.lv_journal.proofs.writer.Writer.meaning.Goals as goal

pub returns-clause-told : goal.returns-clause-told
returns-clause-told g c ps q s = told_in ps q (g.D.Disk.seen c.args.self.now.disk) s.payloads s.doubtful s.told

pub returns-clause-images : goal.returns-clause-images
returns-clause-images g c ps q s d left = keeps_in ps q d s.payloads s.doubtful (s.images d left)

pub returns-clause-length : goal.returns-clause-length
returns-clause-length g c ps q s = length_counts ps c.args.self.now.gate s.place

pub returns-clause-records : goal.returns-clause-records
returns-clause-records g c ps s = told_records ps (g.D.Disk.seen c.args.self.now.disk) s.payloads s.told
