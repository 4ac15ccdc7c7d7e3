use Rattle.std.proofs.Common.{◌≡◌, ℕ, List, true, map, take}
use Rattle.std.specs.List.{list_all}
use Rattle.lv_viewrows.specs.Kept.{ViewKept}
use Rattle.lv_store.specs.Pending.{AllTake}
use Rattle.lv_store.specs.Querying.{reads_kept, rel_rows_in}
use Rattle.lv_store.proofs.store.Store.query_parts.Given as goal

abbrev pub invariant-loop-rel : goal.invariant-loop-rel
invariant-loop-rel g l = record {
  parts : (floor : ℕ) (last : List ViewKept) → AllTake floor l.pending l.self.rows.list last → l.parts ≡ map (rel_rows_in l.self l.session last) (take l.rel-index l.rels);
  cost : list_all (reads_kept l.self l.session) l.rels ≡ true → l.steps ≡ l.initial.steps;
}
