use Rattle.std.proofs.Common.{◌≡◌, ◌++◌, map, drop}
use Rattle.lv_bind.specs.Seen.{alias_seen}
use Rattle.lv_bind.specs.Rels.{rels_in}
use Rattle.lv_bind.specs.Sources.{AreNarrow, source_of}
use Rattle.lv_bind.proofs.sources.push_refs.Given as goal

abbrev pub invariant-loop-table : goal.invariant-loop-table
invariant-loop-table l = record {
  added : map (alias_seen l.schema.tables l.schema.views) l.out ++ map (source_of l.schema.tables l.schema.views) (drop l.table-index l.refs)
      ≡ map (alias_seen l.schema.tables l.schema.views) l.initial.out ++ map (source_of l.schema.tables l.schema.views) l.refs;
  narrow : AreNarrow (map (alias_seen l.schema.tables l.schema.views) l.initial.out) → AreNarrow (map (alias_seen l.schema.tables l.schema.views) l.out);
  rels : map (λ s. s.rel) l.out ++ rels_in l.schema.tables l.schema.views (drop l.table-index l.refs)
      ≡ map (λ s. s.rel) l.initial.out ++ rels_in l.schema.tables l.schema.views l.refs;
}
