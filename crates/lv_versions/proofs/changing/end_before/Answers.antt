use Rattle.std.proofs.Common.{◌≡◌, ◌-◌, ◌+◌, ◌<◌, List, length, suc, true, sym, ap, subst, ◌∙◌, arith}
use Rattle.lv_schema.specs.declared.version.RowVersion.{RowVersion}
use Rattle.lv_shelf.specs.Cuts.{IsCut}
use Rattle.lv_shelf.specs.Chains.{before, chain_at, joined, newest_of}
use Rattle.lv_versions.specs.Versions.{is_current, new_version, upto}
use Rattle.lv_versions.proofs.Chaining.{newest_some}
use Rattle.lv_versions.proofs.Ending.{Closed, none_ended, not_ended_here}
use Rattle.lv_versions.proofs.EndingChains.{newest_stands, none_changed, some_same}
use Rattle.lv_versions.proofs.Keeping.{some_version}
use Rattle.lv_versions.proofs.changing.end_before.Goals as goal
use Rattle.lv_versions.proofs.changing.end_before.Goals.{else-place-gt0-via-then-place-gt0+else-is_current, else-place-gt0-via-else-place-gt0}

pub end_at-requires : goal.end_at-requires
end_at-requires c =
    let ps = c.args.positions.now in
    let row = c.args.row.now in
    let number = c.args.number in
    let old = c.args.versions.now in
    let chain = c.args.place - 1 in
    let item = c.newest.result.now in
    let is : c.args.place ≡ chain + 1 = let h = c.if-place-gt0.true in omega arith in
    let within : chain < length old.chains = omega (arith, is, c.requires.within) in
    let some = newest_some (chain_at old.chains chain) item c.newest.ensures in
    let stands = newest_stands old.chains chain within some in
    let current = sym c.is_current.ensures ∙ c.if-is_current.true in
    record {
      stand = c.requires.stand;
      ends = c.requires.ends;
      orders = some_version ps c.args.indexes.now old.spare old.others (joined old.chains) (before old.chains (chain + 1) - 1) stands.item stands.there c.requires.orders;
      current = c.requires.current;
      chain = within;
      cut = subst (λ n. IsCut (upto ps row) (before old.chains n) (joined old.chains)) is c.requires.cut;
      is = λ v e. subst (λ w. is_current ps row number w ≡ true) (some_same (newest_of (chain_at old.chains chain)) item v c.newest.ensures e) current;
      some = some;
    }

pub returns-else-place-gt0-clause-ended : goal.returns-else-place-gt0-clause-ended
returns-else-place-gt0-clause-ended c =
    let cs = c.args.versions.now.chains in
    let ps = c.args.positions.now in
    let row = c.args.row.now in
    let number = c.args.number in
    let place = c.args.place in
    let vs : List RowVersion = joined cs in
    elim c.else-place-gt0.branch [
      | else-place-gt0-via-then-place-gt0+else-is_current w ↦
          let chain = place - 1 in
          let item = w.newest.result.now in
          let is : place ≡ chain + 1 = let h = w.if-place-gt0.true in omega arith in
          let within : chain < length cs = omega (arith, is, c.requires.within) in
          let stands = newest_stands cs chain within (newest_some (chain_at cs chain) item w.newest.ensures) in
          let at = before cs (chain + 1) - 1 in
          let next : suc at ≡ before cs place = omega (arith, stands.next) ∙ ap (before cs) (sym is) in
          let other = sym w.is_current.ensures ∙ w.if-is_current.false in
          sym (none_changed (Closed ps number row) cs
          (not_ended_here ps row number at (before cs place) vs stands.item next c.requires.stand c.requires.cut stands.there
          (ap (is_current ps row number) (some_same (newest_of (chain_at cs chain)) stands.item item stands.newest w.newest.ensures) ∙ other)))
      | else-place-gt0-via-else-place-gt0 w ↦
          let is : place ≡ 0 = let h = w.if-place-gt0.false in omega arith in
          sym (none_changed (Closed ps number row) cs (none_ended ps row number (before cs place) vs (new_version number row) (ap (before cs) is) c.requires.stand c.requires.cut))
    ]
