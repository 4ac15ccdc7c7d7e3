use Rattle.std.proofs.Common.{◌≡◌, true, List, sym, ◌∙◌, ap, subst}
use Rattle.std.specs.List.{list_all}
use Rattle.lv_overlay.specs.declared.put.Put.{Put}
use Rattle.lv_overlay.specs.Puts.{put_at}
use Rattle.lv_overlay.proofs.Writing.{insert_passes, insert_put, insert_up, replaced_put, replaced_up, set_passes}
use Rattle.lv_overlay.proofs.overlay.Overlay.put.Goals as goal

pub replace-requires-clause-order : goal.replace-requires-clause-order
replace-requires-clause-order c =
    let q : Put = record { table = c.args.table; key = c.args.key; row = c.args.row } in
    replaced_up q c.cut-at.result c.args.self.now.list c.cut-at.ensures.order (sym c.has_at.ensures ∙ c.if-has_at.true)

pub insert-requires-clause-order : goal.insert-requires-clause-order
insert-requires-clause-order c =
    let q : Put = record { table = c.args.table; key = c.args.key; row = c.args.row } in
    insert_up q c.cut-at.result c.args.self.now.list c.cut-at.ensures.order c.cut-at.ensures.cut (sym c.has_at.ensures ∙ c.if-has_at.false)

pub returns-then-has_at-clause-put : goal.returns-then-has_at-clause-put
returns-then-has_at-clause-put c =
    let q : Put = record { table = c.args.table; key = c.args.key; row = c.args.row } in
    λ p. ap (λ l. put_at l p) c.replace.ensures.replaced ∙ replaced_put q c.cut-at.result c.args.self.now.list c.cut-at.ensures.order (sym c.has_at.ensures ∙ c.if-has_at.true) p

pub returns-else-has_at-clause-put : goal.returns-else-has_at-clause-put
returns-else-has_at-clause-put c =
    let q : Put = record { table = c.args.table; key = c.args.key; row = c.args.row } in
    λ p. ap (λ l. put_at l p) c.insert.ensures.added ∙ insert_put q c.cut-at.result c.args.self.now.list c.cut-at.ensures.cut p

pub returns-then-has_at-clause-only : goal.returns-then-has_at-clause-only
returns-then-has_at-clause-only c =
    let q : Put = record { table = c.args.table; key = c.args.key; row = c.args.row } in
    λ test h a. subst (λ (l : List Put). list_all test l ≡ true) (sym c.replace.ensures.replaced) (set_passes test c.args.self.now.list c.cut-at.result q h a)

pub returns-else-has_at-clause-only : goal.returns-else-has_at-clause-only
returns-else-has_at-clause-only c =
    let q : Put = record { table = c.args.table; key = c.args.key; row = c.args.row } in
    λ test h a. subst (λ (l : List Put). list_all test l ≡ true) (sym c.insert.ensures.added) (insert_passes test c.args.self.now.list c.cut-at.result q h a)
