use Rattle.std.proofs.Common.{◌≡◌, drop}
use Rattle.lv_bind.specs.Profile.{names_view}
use Rattle.lv_bind.proofs.profile.names_view.Given as goal

abbrev pub invariant-loop-table : goal.invariant-loop-table
invariant-loop-table l =
    names_view l.schema.tables l.schema.views (drop l.table-index l.refs) ≡ names_view l.schema.tables l.schema.views l.refs
