use Rattle.std.proofs.Common.{◌≡◌, ◌<◌, ◌+◌, nat_lt, suc, filter, [], length, sym, ap, ◌∙◌, subst, arith}
use Rattle.std.specs.List.{range_with_len}
use Rattle.std.proofs.lemmas.List.{get_or_default}
use Rattle.lv_schema.specs.declared.net.Net.{Net}
use Rattle.lv_stands.specs.Kept.{shown}
use Rattle.lv_stands.specs.Moves.{no_net, rows_after}
use Rattle.lv_base.specs.Bases.{net_in, table_in}
use Rattle.lv_made.specs.Limits.{is_full}
use Rattle.lv_made.proofs.FirstFull.{first_at, none_more}
use Rattle.lv_made.proofs.limits.first_full.Goals as goal

pub returns-then-would_be_full : goal.returns-then-would_be_full
returns-then-would_be_full c =
    let b = c.args.base.now in
    let nets = c.args.nets.now in
    let t = c.loop-table.table in
    let there : t < length nets = omega (arith, c.requires.tables, c.requires.nets, c.loop-table-test.true) in
    let net : c.index-nets-table.result ≡ net_in nets t = c.index-nets-table.is ∙ get_or_default nets t c.index-nets-table.result no_net there in
    sym (first_at (is_full b nets) 0 (length nets) t t there (omega arith) c.loop-table.invariant
    (ap (λ (n : Net). nat_lt 65535 (rows_after (length (shown b.number (table_in b.tables t).versions)) n)) (sym net) ∙ sym c.would_be_full.ensures ∙ c.if-would_be_full.true))

pub loop-table-preserved : goal.loop-table-preserved
loop-table-preserved c =
    let b = c.args.base.now in
    let nets = c.args.nets.now in
    let t = c.loop-table.table in
    let there : t < length nets = omega (arith, c.requires.tables, c.requires.nets, c.loop-table-test.true) in
    let net : c.index-nets-table.result ≡ net_in nets t = c.index-nets-table.is ∙ get_or_default nets t c.index-nets-table.result no_net there in
    let next : suc t ≡ t + 1 = omega arith in
    subst (λ n. filter (is_full b nets) (range_with_len 0 n) ≡ []) next
    (none_more (is_full b nets) 0 t t (omega arith) c.loop-table.invariant
    (ap (λ (n : Net). nat_lt 65535 (rows_after (length (shown b.number (table_in b.tables t).versions)) n)) (sym net) ∙ sym c.would_be_full.ensures ∙ c.if-would_be_full.false))
