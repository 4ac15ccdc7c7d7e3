-- An assignment that is bound to no key column is passed over.
use Rattle.std.proofs.Common.{◌≡◌, ◌<◌, ◌+◌, ◌++◌, ℕ, zero, suc, map, drop, nat_eq, not, false, List, [], ◌∷◌, length, get_or, Option, sym, ap, ◌∙◌, arith}
use Rattle.std.specs.List.{list_any}
use Rattle.lv_parser.specs.declared.tree.Assign.{Assign}
use Rattle.lv_schema.specs.declared.change.Set.{Set}
use Rattle.lv_bind.specs.Assigned.{assigned_keys}
use Rattle.lv_bind.specs.Binding.{bound_set}
use Rattle.lv_bind.specs.Sources.{Alias, first, shown_unless}

passed : (sources : List Alias) (key : List ℕ) (sets : List Assign) (i : ℕ) (set : Set)
    → i < length (map (bound_set sources) sets) → set ≡ get_or (map (bound_set sources) sets) i set → list_any (nat_eq set.column) key ≡ false
    → first (assigned_keys sources key (drop (suc i) sets)) ≡ first (assigned_keys sources key (drop i sets))
passed sources key [] i set lt at free = absurd (omega arith)
passed sources key (a ∷ sets) zero set lt at free =
    ap (λ b. first (shown_unless (not b) a.column.name ++ assigned_keys sources key sets)) (sym free ∙ ap (λ (s : Set). list_any (nat_eq s.column) key) at)
passed sources key (a ∷ sets) (suc i) set lt at free = passed sources key sets i set (omega arith) at free

pub key_passed : (sources : List Alias) (key : List ℕ) (sets : List Assign) (bound : List Set) (i : ℕ) (set : Set) (found : Option (List ℕ))
    → bound ≡ map (bound_set sources) sets → i < length bound → set ≡ get_or bound i set → list_any (nat_eq set.column) key ≡ false
    → first (assigned_keys sources key (drop i sets)) ≡ found → first (assigned_keys sources key (drop (i + 1) sets)) ≡ found
key_passed sources key sets bound i set found is lt at free was =
    let e : i + 1 ≡ suc i = omega arith in
    rw e (passed sources key sets i set (rw (← is) lt) (rw (← is) at) free ∙ was)
