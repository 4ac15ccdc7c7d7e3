use Rattle.std.proofs.Common.{sym}
use Rattle.lv_lines.proofs.LastSession.{onto_last-push}
use Rattle.lv_lines.proofs.section.add_to_last.Goals as goal

pub returns-in_ok-push-in-Some-2 : goal.returns-in_ok-push-in-Some-2
returns-in_ok-push-in-Some-2 c = rw (c.in_ok-push-in-Some-2.ensures.added, c.in_ok-push-in-Some.ensures.added, c.in-Some.ensures) (sym (onto_last-push c.pop.new.self c.in-Some.session c.args.statement))
