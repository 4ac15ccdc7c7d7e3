-- What the base is with one table more.
use Rattle.std.proofs.Common.{◌≡◌, ℕ, ◌+◌, ◌<◌, [], ◌∷◌, ◌++◌, length, get_or, sym, ap, ◌∙◌, subst, arith}
use Rattle.std.specs.Prelude.{◌⊎◌}
use Rattle.std.proofs.lemmas.List.{length_push, get_or_append_left, get_or_push}
use Rattle.std.proofs.lemmas.List.Sums.{sum_by_push}
use mathlib.Core.Logic.{inl, inr}
use Rattle.lv_versions.specs.Versions.{Kept}
use Rattle.lv_base.specs.Bases.{BaseRoom, IsBase, IsTableAt, no_versions}

-- b: the base before, k: the new table's versions, free: the room that is left
pub added_base : (b : BaseRoom) (k : Kept) (free : ℕ) → k.def.no ≡ length b.tables → k.versions ≡ [] → k.last ≡ 0 → k.floor ≡ 0 → IsBase b → IsBase (record b { tables = b.tables ++ k ∷ []; free = free })
added_base b k free no_is none last floor is = record {
  each = λ t lt. each t (cases t (length b.tables) (omega (arith, lt, length_push b.tables k)));
  entries_by = is.entries_by;
  entries_floor = is.entries_floor;
  pruned_by = is.pruned_by;
  counted = omega (arith, sum_by_push (λ (v : Kept). length v.versions) b.tables k, ap length none, is.counted);
}
  where
    new : BaseRoom
    new = record b { tables = b.tables ++ k ∷ []; free = free }

    cases : (t n : ℕ) → t < n + 1 → (t < n) ⊎ (t ≡ n)
    cases t n h = grind arith

    each : (t : ℕ) → (t < length b.tables) ⊎ (t ≡ length b.tables) → IsTableAt new t (get_or (b.tables ++ k ∷ []) t no_versions)
    each t (inl lt) =
        subst (IsTableAt new t) (sym (get_or_append_left b.tables (k ∷ []) no_versions t lt))
        (let old = is.each t lt in record { no_is = old.no_is; by = old.by; floor_by = old.floor_by })
    each t (inr e) =
        subst (IsTableAt new t) (sym (get_or_push b.tables k no_versions t (sym e)))
        (record { no_is = no_is ∙ sym e; by = omega (arith, last); floor_by = omega (arith, floor) })
