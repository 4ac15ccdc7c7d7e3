-- The indexes in which steps of a view look rows up.
use Rattle.std.specs.Prelude.{ℕ, List, IfSome, slice_get}
use Rattle.std.specs.List.{AllByRecursion}
use Rattle.lv_schema.specs.declared.view.ViewDef.{ViewDef}
use Rattle.lv_reach.specs.declared.link.Link.{Link}
use Rattle.lv_reach.specs.Links.{links_of}
use Rattle.lv_reach.specs.Walk.{columns_to}
use Rattle.lv_base.specs.Bases.{BaseRoom, HasIndex}

-- the table of an alias has the index by its columns in the links with another alias
abbrev pub HasEndIndex : BaseRoom → List ℕ → List Link → ℕ → ℕ → Type 0
HasEndIndex b tables links from to = IfSome (slice_get tables to) (λ t. HasIndex b t (columns_to links from to))

-- both ends of a link have theirs
abbrev pub HasBothIndexes : BaseRoom → List ℕ → List Link → Link → Type 0
HasBothIndexes b tables links link = HasEndIndex b tables links link.left.alias link.right.alias × HasEndIndex b tables links link.right.alias link.left.alias

-- and those of each link of a view
abbrev pub HasLinkIndexes : BaseRoom → ViewDef → Type 0
HasLinkIndexes b def = AllByRecursion (HasBothIndexes b def.tables (links_of def.cond)) (links_of def.cond)
