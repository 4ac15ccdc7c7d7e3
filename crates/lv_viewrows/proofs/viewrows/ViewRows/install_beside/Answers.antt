use Rattle.std.proofs.Common.{ap, ◌∙◌}
use Rattle.lv_viewrows.specs.Kept.{ViewKept, groups_at}
use Rattle.lv_viewrows.proofs.Changes.{all_before}
use Rattle.lv_viewrows.proofs.Keeping.{kept_after, meet, now_after, shown_after}
use Rattle.lv_viewrows.proofs.viewrows.ViewRows.install_beside.Goals as goal

pub apply_all-requires-clause-meet : goal.apply_all-requires-clause-meet
apply_all-requires-clause-meet c = meet c.self.view_is c.self.invariant c.args.hi c.args.changes c.requires.change

pub invariant_of-self : goal.invariant_of-self
invariant_of-self c = kept_after c.self.view_is c.self.invariant c.args.hi c.args.changes c.requires.change _ c.apply_all.ensures.changed c.apply_all.ensures.order c.apply_all.ensures.each

pub returns-clause-before : goal.returns-clause-before
returns-clause-before c = λ n below.
    ap (groups_at n) c.apply_all.ensures.changed ∙ all_before c.args.hi n c.args.changes c.self.inside.versions.list below ∙ ap (λ (k : ViewKept). groups_at n k.versions) c.self.view_is

pub returns-clause-from : goal.returns-clause-from
returns-clause-from c = now_after c.self.view_is c.self.invariant c.args.hi c.args.changes c.requires.change _ c.apply_all.ensures.changed c.apply_all.ensures.order c.apply_all.ensures.each

pub returns-clause-shown : goal.returns-clause-shown
returns-clause-shown c = shown_after c.self.view_is c.self.invariant c.args.hi c.args.changes c.requires.change _ c.apply_all.ensures.changed c.apply_all.ensures.order c.apply_all.ensures.each
