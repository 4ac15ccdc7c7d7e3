-- What a commit may not exceed.
use Rattle.std.specs.Prelude.{ℕ, Bool, List, length, nat_lt}
use Rattle.lv_schema.specs.declared.net.Net.{Net}
use Rattle.lv_stands.specs.Kept.{shown}
use Rattle.lv_stands.specs.Moves.{rows_after}
use Rattle.lv_base.specs.Bases.{BaseRoom, net_in, table_in}

-- whether a table would have more rows than it may have
abbrev pub is_full : BaseRoom → List Net → ℕ → Bool
is_full b nets t = nat_lt 65535 (rows_after (length (shown b.number (table_in b.tables t).versions)) (net_in nets t))
