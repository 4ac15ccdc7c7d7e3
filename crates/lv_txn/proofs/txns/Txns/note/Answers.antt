use Rattle.std.proofs.Common.{◌≡◌, List, Bool, true, map, sym, subst, ap, ◌∙◌}
use Rattle.std.specs.Prelude.{Option}
use Rattle.std.specs.List.{list_all}
use Rattle.lv_overlay.specs.declared.put.Put.{Put}
use Rattle.lv_txn.specs.Kept.{TransactionKept, transaction_of, IsLive, Changes, SessionChanges}
use Rattle.lv_txn.specs.Written.{put_of}
use Rattle.lv_txn.proofs.SessionChanged.{new_of, nothing_changes, old_of, on_err, on_ok, session_changes}
use Rattle.lv_txn.proofs.txns.Txns.note.Goals as goal

live : (c : goal.After-set) → IsLive c.self.inside.sessions c.args.session
live c = subst (λ (l : List (Option TransactionKept)). IsLive l c.args.session) (sym c.self.view_is) c.requires.live

pub returns-clause-noted : goal.returns-clause-noted
returns-clause-noted c =
    let sessions = c.self.inside.sessions in
    let tables = c.args.schema.now.tables in
    let t = c.unwrap-transaction.result in
    let changed = c.note-noted.new.self in
    on_ok c.note-noted.result (Changes tables c.args.actions t changed) (SessionChanges tables c.args.actions c.args.session c.args.self.now c.set.new.self)
    (λ h. subst (λ (l : List (Option TransactionKept)). SessionChanges tables c.args.actions c.args.session l c.set.new.self) c.self.view_is
    (session_changes sessions c.replace.new.self c.set.new.self c.args.session c.replace.result t changed (live c) c.replace.ensures.taken c.unwrap-transaction.ensures c.replace.ensures.replaced c.set.ensures tables c.args.actions h))
    c.note-noted.ensures.noted

pub returns-clause-only : goal.returns-clause-only
returns-clause-only c =
    let sessions = c.self.inside.sessions in
    let tables = c.args.schema.now.tables in
    let s = c.args.session in
    let t = c.unwrap-transaction.result in
    let changed = c.note-noted.new.self in
    let old : transaction_of c.args.self.now s ≡ t =
    ap (λ (l : List (Option TransactionKept)). transaction_of l s) (sym c.self.view_is)
    ∙ old_of sessions c.replace.new.self c.set.new.self s c.replace.result t changed (live c) c.replace.ensures.taken c.unwrap-transaction.ensures c.replace.ensures.replaced c.set.ensures in
    let new : transaction_of c.set.new.self s ≡ changed =
    new_of sessions c.replace.new.self c.set.new.self s c.replace.result t changed (live c) c.replace.ensures.taken c.unwrap-transaction.ensures c.replace.ensures.replaced c.set.ensures in
    on_ok c.note-noted.result ((test : Put → Bool) → list_all test (map (put_of tables) c.args.actions) ≡ true → list_all test t.puts ≡ true → list_all test changed.puts ≡ true)
    ((test : Put → Bool) → list_all test (map (put_of tables) c.args.actions) ≡ true → list_all test (transaction_of c.args.self.now s).puts ≡ true → list_all test (transaction_of c.set.new.self s).puts ≡ true)
    (λ h test a b.
    subst (λ (x : TransactionKept). list_all test x.puts ≡ true) (sym new) (h test a (subst (λ (x : TransactionKept). list_all test x.puts ≡ true) old b)))
    c.note-noted.ensures.only

pub returns-clause-refused : goal.returns-clause-refused
returns-clause-refused c =
    let sessions = c.self.inside.sessions in
    let t = c.unwrap-transaction.result in
    let changed = c.note-noted.new.self in
    on_err c.note-noted.result (changed ≡ t) (c.set.new.self ≡ c.args.self.now)
    (λ h. nothing_changes sessions c.replace.new.self c.set.new.self c.args.session c.replace.result t changed (live c) c.replace.ensures.taken c.unwrap-transaction.ensures c.replace.ensures.replaced c.set.ensures h ∙ c.self.view_is)
    c.note-noted.ensures.refused
