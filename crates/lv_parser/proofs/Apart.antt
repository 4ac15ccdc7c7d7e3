-- Tables apart from their conditions.
use Rattle.std.proofs.Common.{◌≡◌, List, [], ◌∷◌, ◌++◌, Option, Some, None, refl, ap, ◌∙◌}
use Rattle.lv_parser.specs.declared.sources.Joined.{Joined}
use Rattle.lv_parser.specs.declared.tree.CondTree.{CondTree}
use Rattle.lv_parser.specs.Trees.{with_on, parts_of}

with_on_behind : (on : Option CondTree) (xs ys : List CondTree) → with_on on (xs ++ ys) ≡ with_on on xs ++ ys
with_on_behind None xs ys = refl
with_on_behind (Some c) xs ys = refl

-- the condition of WHERE stands behind those of ON
pub filter_behind : (joined : List Joined) (filter : Option CondTree) → parts_of joined filter ≡ parts_of joined None ++ with_on filter []
filter_behind [] filter = refl
filter_behind (j ∷ more) filter = ap (with_on j.on) (filter_behind more filter) ∙ with_on_behind j.on (parts_of more None) (with_on filter [])

-- one more table
pub part_behind : (joined : List Joined) (j : Joined) → parts_of (joined ++ j ∷ []) None ≡ parts_of joined None ++ with_on j.on []
part_behind [] j = refl
part_behind (i ∷ more) j = ap (with_on i.on) (part_behind more j) ∙ with_on_behind i.on (parts_of more None) (with_on j.on [])
