-- Committed states that stand show the rows of each state from the floor on.
use Rattle.std.proofs.Common.{◌≡◌, ℕ, ◌<◌, ◌≤◌, true, nat_lt, List, [], ◌∷◌, map, length, refl, sym, ap, ap₂, ◌∙◌, arith}
use Rattle.std.specs.List.{list_all}
use Rattle.std.proofs.lemmas.Bool.Decides.{nat_tests}
use Rattle.lv_schema.specs.Databases.{rows_of}
use Rattle.lv_schema.specs.JoinViews.{parts_of}
use Rattle.lv_schema.specs.World.{Visible, last, snap}
use Rattle.lv_viewrows.proofs.Ending.{both}
use Rattle.lv_stands.specs.Kept.{TableKept, shown}
use Rattle.lv_stands.specs.Stands.{BaseStands}
use Rattle.lv_base.specs.Bases.{BaseRoom, base_of}
use Rattle.lv_base.proofs.Places.{kept_at}
use Rattle.lv_made.specs.Views.{parts_at, rows_at}

-- two functions that agree below a number
pub map_below : {X : Type 0} (f g : ℕ → X) (n : ℕ) → ((t : ℕ) → t < n → f t ≡ g t) → (ts : List ℕ) → list_all (λ t. nat_lt t n) ts ≡ true → map f ts ≡ map g ts
map_below f g n same [] e = refl
map_below f g n same (t ∷ ts) e =
    let es = both (nat_lt t n) (list_all (λ t. nat_lt t n) ts) e in
    let test = es.0 in
    let lt : t < n = grind (arith, nat_tests) in
    ap₂ (λ x xs. x ∷ xs) (same t lt) (map_below f g n same ts es.1)

-- the rows of tables in use at a commit are those of the state there
pub parts_shown : (s : Visible) (pruned : ℕ) (b : BaseRoom) → BaseStands s pruned (base_of b) → (commit : ℕ) → pruned ≤ commit → commit ≤ last s
    → (tables : List ℕ) → list_all (λ t. nat_lt t (length s.tables)) tables ≡ true → parts_at b commit tables ≡ parts_of tables (snap s commit)
parts_shown s pruned b is commit from to =
    map_below (rows_at b commit) (rows_of (snap s commit)) (length s.tables)
    (λ t lt. ap (λ (k : TableKept). shown commit k.versions) (sym (kept_at b.tables t)) ∙ (is.each t lt).reads commit from to)
