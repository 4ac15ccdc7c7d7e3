use Rattle.std.proofs.Common.{◌≡◌, ◌++◌, map, drop}
use Rattle.lv_txn.specs.Written.{kept_puts, put_of}
use Rattle.lv_txn.proofs.writing.puts_of.Given as goal

abbrev pub invariant-loop-i : goal.invariant-loop-i
invariant-loop-i l =
    let tables = l.schema.tables in
    l.puts ++ kept_puts (map (put_of tables) (drop l.i l.actions)) ≡ kept_puts (map (put_of tables) l.actions)
