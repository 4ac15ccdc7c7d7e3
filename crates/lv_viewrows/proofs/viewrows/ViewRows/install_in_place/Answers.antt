use Rattle.lv_viewrows.proofs.Keeping.{kept_pruned, meet, now_pruned, shown_pruned}
use Rattle.lv_viewrows.proofs.viewrows.ViewRows.install_in_place.Goals as goal

pub apply_in_place-requires-clause-meet : goal.apply_in_place-requires-clause-meet
apply_in_place-requires-clause-meet c = meet c.self.view_is c.self.invariant c.args.hi c.args.changes c.requires.change

pub invariant_of-self : goal.invariant_of-self
invariant_of-self c = kept_pruned c.self.view_is c.self.invariant c.args.hi c.args.changes c.requires.change _ c.apply_in_place.ensures.changed

pub returns-clause-from : goal.returns-clause-from
returns-clause-from c = now_pruned c.self.view_is c.self.invariant c.args.hi c.args.changes c.requires.change _ c.apply_in_place.ensures.changed

pub returns-clause-shown : goal.returns-clause-shown
returns-clause-shown c = shown_pruned c.self.view_is c.self.invariant c.args.hi c.args.changes c.requires.change _ c.apply_in_place.ensures.changed
