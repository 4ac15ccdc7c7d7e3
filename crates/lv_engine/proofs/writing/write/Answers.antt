use Rattle.std.proofs.Common.{List, ℕ, Some, sym, subst}
use Rattle.std.specs.Prelude.{map, option_map}
use Rattle.lv_record.specs.Spelling.{Spells, spelling}
use Rattle.lv_engine.proofs.Logged.{failed_logs, has_yet, leaves_yet}
use Rattle.lv_engine.proofs.writing.write.Goals as goal

pub returns-clause-log : goal.returns-clause-log
returns-clause-log g c = λ recs doubt has.
    let seen = g.D.Disk.seen in
    let may_leave = g.D.Disk.may_leave in
    let moment = g.D.Disk.moment in
    let left_since = g.D.Disk.left_since in
    let rec = c.args.rec.now in
    let old = c.args.journal.now in
    let roomy = c.reserve.new.self in
    let room = c.reserve.ensures in
    let there = has_yet seen may_leave moment left_since recs doubt (Some rec) old roomy has room.same room.time room.crash in
    failed_logs seen may_leave moment left_since recs doubt rec c.as_slice.result.now (subst (λ (bytes : List ℕ). Spells bytes rec) (sym c.as_slice.ensures) c.in_ok-payload.ensures.spelled) old roomy c.put.new.self there
    (leaves_yet seen may_leave moment left_since recs doubt (Some rec) old roomy has room.same room.time room.crash)
    (c.put.ensures.images (map spelling recs) (option_map spelling doubt) there.stands)
    (c.in-Err.ensures.failed (map spelling recs) (option_map spelling doubt) there.stands)
