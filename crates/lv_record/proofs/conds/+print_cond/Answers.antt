use Rattle.std.proofs.Common.{◌<◌, sym, arith}
use Rattle.std.proofs.lemmas.List.{append-nil}
use Rattle.lv_record.proofs.Layers.{no_text, layer_text}
use Rattle.lv_record.proofs.conds.+print_cond.Goals as goal

pub print_cond-returns-then-layers-eq0-clause-appended : goal.print_cond-returns-then-layers-eq0-clause-appended
print_cond-returns-then-layers-eq0-clause-appended t c = rw (no_text c.args.layers c.args.cond.now c.if-layers-eq0.true) (sym (append-nil c.args.out.now))

pub print_cond-returns-clause-appended : goal.print_cond-returns-clause-appended
print_cond-returns-clause-appended t c =
    let some : 0 < c.args.layers = omega arith in
    rw (← layer_text c.args.layers c.args.cond.now some) c.print_layer.ensures.appended
