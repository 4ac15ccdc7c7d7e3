use Rattle.std.proofs.Common.{◌≡◌, ◌+◌, ◌++◌, true, List, map, sym, ap, subst, ◌∙◌}
use Rattle.std.specs.List.{list_all}
use Rattle.lv_schema.specs.declared.action.Action.{Action}
use Rattle.lv_schema.specs.Cases.{numbered}
use Rattle.lv_overlay.specs.declared.put.Put.{Put}
use Rattle.lv_overlay.specs.Puts.{put_at}
use Rattle.lv_txn.specs.Kept.{TransactionKept}
use Rattle.lv_txn.specs.Written.{kept_puts, left_at, put_of}
use Rattle.lv_txn.proofs.Noting.{all_kept, puts_take}
use Rattle.lv_txn.proofs.transaction.Transaction.note.Goals as goal

pub returns-clause-noted : goal.returns-clause-noted
returns-clause-noted c =
    let tables = c.args.schema.now.tables in
    let actions = c.args.actions in
    let shown = c.self.view_is in
    let all : c.push_numbered.new.list.list ≡ c.args.self.now.actions ++ numbered (c.args.self.now.changes + 1) actions =
    c.push_numbered.ensures
    ∙ ap (λ (l : List Action). l ++ numbered (c.self.inside.changes + 1) actions) c.in_ok-reserve-2.ensures.same
    ∙ ap (λ (t : TransactionKept). t.actions ++ numbered (t.changes + 1) actions) shown in
    record {
      is = λ i. record {
        snapshot = ap (λ (t : TransactionKept). t.snapshot) shown i;
        puts = c.put_all.new.own.list;
        actions = all i;
        changes = ap (λ (t : TransactionKept). t.changes + 1) shown i;
      };
      take = puts_take tables actions c.args.self.now.puts c.put_all.new.own.list c.in_ok-puts.puts (c.in_ok-puts.ensures ∙ ap (λ (l : List Action). kept_puts (map (put_of tables) l)) c.as_slice.ensures)
          (λ p. c.put_all.ensures.left p ∙ ap (λ (l : List Put). left_at c.in_ok-puts.puts p (put_at l p)) (c.in_ok-reserve.ensures.same ∙ ap (λ (t : TransactionKept). t.puts) shown));
    }

pub returns-clause-only : goal.returns-clause-only
returns-clause-only c = λ test a b.
    let tables = c.args.schema.now.tables in
    let made = c.in_ok-puts.ensures ∙ ap (λ (l : List Action). kept_puts (map (put_of tables) l)) c.as_slice.ensures in
    let own = c.in_ok-reserve.ensures.same ∙ ap (λ (t : TransactionKept). t.puts) c.self.view_is in
    c.put_all.ensures.only test
    (subst (λ (l : List Put). list_all test l ≡ true) (sym made) (all_kept test (map (put_of tables) c.args.actions) a))
    (subst (λ (l : List Put). list_all test l ≡ true) (sym own) b)
