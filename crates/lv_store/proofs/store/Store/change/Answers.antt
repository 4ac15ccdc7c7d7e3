use Rattle.std.proofs.lemmas.Result.{err_from_is_err_and}
use Rattle.lv_store.proofs.ChangedParts.{changed_meets, changed_whole, refused_stands}
use Rattle.lv_store.proofs.store.Store.change.Goals as goal

pub returns-in_err-count-clause-case : goal.returns-in_err-count-clause-case
returns-in_err-count-clause-case g c = λ w is.
    let e = err_from_is_err_and c.from_residual.result c.from_residual.ensures.1 in
    rw (e.1, e.2) (refused_stands c.args.self.now c.args.session c.requires.whole c.requires.live c.args.change.now c.requires.bound w is c.in_err-count.field-0.0 (c.in_err-count.ensures.given w is))

pub returns-clause-case : goal.returns-clause-case
returns-clause-case g c = λ w is. changed_meets c.args.self.now c.args.session c.requires.whole c.requires.live c.args.change.now c.requires.bound c.note.new.self c.in_ok-count.actions c.in_ok-note.ensures.noted w is c.in_ok-count.count (c.in_ok-count.ensures.given w is)

pub returns-clause-whole : goal.returns-clause-whole
returns-clause-whole g c =
    let whole = c.requires.whole in
    changed_whole c.args.self.now c.args.session whole c.requires.live c.args.change.now c.requires.bound c.note.new.self c.in_ok-count.actions c.in_ok-note.ensures.noted
    c.written_rows_stand_under_their_keys.ensures c.in_ok-note.ensures.only c.in_ok-count.count (c.in_ok-count.ensures.given whole.world whole.stands)
