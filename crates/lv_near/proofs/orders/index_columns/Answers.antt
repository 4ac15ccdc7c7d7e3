use Rattle.std.proofs.Common.{◌≡◌, ◌<◌, ◌∙◌, length, Some, refl, subst}
use Rattle.std.specs.Prelude.{OnOk, Result, Ok, Err, slice_get}
use Rattle.std.proofs.lemmas.Option.{slice_get_past, slice_get_read}
use Rattle.lv_reach.specs.Walk.{columns_to}
use Rattle.lv_base.specs.Bases.{HasIndex}
use Rattle.lv_base.proofs.Reindexed.{index_added}
use Rattle.lv_near.proofs.LinkIndexes.{end_none, end_some, table_within}
use Rattle.lv_near.proofs.orders.index_columns.Goals as goal

pub returns-in_ok-columns-in-Some-clause-kept : goal.returns-in_ok-columns-in-Some-clause-kept
returns-in_ok-columns-in-Some-clause-kept c =
    let base = c.args.base.now in
    let table = c.in-Some.table.now in
    let there : table < length base.tables = table_within (length base.tables) c.args.to table c.args.tables.now c.requires (slice_get_read c.args.tables.now (length c.args.tables.now) c.args.to table refl c.in-Some.ensures.lookup.3.0 c.in-Some.ensures.lookup.1) in
    (index_added c.add_index.result base c.add_index.new.self table c.as_slice.result.now there c.add_index.ensures.added c.add_index.ensures.refused).0

pub returns-in_ok-columns-in-Some-clause-there : goal.returns-in_ok-columns-in-Some-clause-there
returns-in_ok-columns-in-Some-clause-there c =
    let base = c.args.base.now in
    let new = c.add_index.new.self in
    let table = c.in-Some.table.now in
    let tables = c.args.tables.now in
    let links = c.args.links.now in
    let from = c.args.from in
    let to = c.args.to in
    let found : slice_get tables to ≡ Some table = slice_get_read tables (length tables) to table refl c.in-Some.ensures.lookup.3.0 c.in-Some.ensures.lookup.1 in
    let there : table < length base.tables = table_within (length base.tables) to table tables c.requires found in
    let columns : c.as_slice.result.now ≡ columns_to links from to = c.as_slice.ensures ∙ c.in_ok-columns-in-Some.ensures in
    let has = (index_added c.add_index.result base new table c.as_slice.result.now there c.add_index.ensures.added c.add_index.ensures.refused).1 in
    by c.add_index.result
    (λ h. end_some new tables links from to table found (subst (HasIndex new table) columns h)) has
  where
    by : {X E P Q : Type 0} (r : Result X E) → (P → Q) → OnOk r P → OnOk r Q
    by (Ok x) f h = f h
    by (Err e) f h = h

pub returns-in-None-clause-there : goal.returns-in-None-clause-there
returns-in-None-clause-there c = end_none c.args.base.now c.args.tables.now c.args.links.now c.args.from c.args.to (slice_get_past c.args.tables.now c.args.to c.in-None.ensures.lookup.3)
