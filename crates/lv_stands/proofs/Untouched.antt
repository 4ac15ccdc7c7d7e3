-- A table that a commit does not touch may be left as it is.
use Rattle.std.proofs.Common.{◌≡◌, ℕ, suc, ◌<◌, Bool, true, not, List, [], ◌∷◌, map, length, Option, Some, None, refl, sym, ap, ap₂, ◌∙◌, subst, arith}
use Rattle.std.specs.List.{filter, sum_by, AllByRecursion}
use Rattle.std.proofs.lemmas.List.{append-nil}
use Rattle.lv_values.specs.declared.value.Value.{Value}
use Rattle.lv_values.specs.Rows.{key_cmp}
use Rattle.lv_schema.specs.declared.net.Net.{Net}
use Rattle.lv_schema.specs.Databases.{rows_of}
use Rattle.lv_schema.specs.Nets.{has_row, with_net}
use Rattle.lv_schema.specs.Once.{Ascends}
use Rattle.lv_schema.specs.SoundWorld.{IsSound}
use Rattle.lv_schema.specs.declared.version.RowVersion.{RowVersion}
use Rattle.lv_schema.specs.Versions.{end_by}
use Rattle.lv_schema.specs.World.{Visible, last, snap}
use Rattle.lv_schema.proofs.NetsLead.{elements, net_leads}
use Rattle.lv_schema.proofs.Replay.{keyed_database}
use Rattle.lv_stands.specs.Kept.{TableKept}
use Rattle.lv_stands.specs.Moves.{lost, TableCommits, no_net}
use Rattle.lv_stands.specs.Stands.{TableStands}

none_left : (p : List Value → Bool) (rows : List (List Value)) → AllByRecursion (λ r. p r ≡ true) rows → filter (λ r. not (p r)) rows ≡ []
none_left p [] a = refl
none_left p (r ∷ rows) a = rw a.0 (none_left p rows a.1)

pub no_change : (key : List ℕ) (rows : List (List Value)) → Ascends (key_cmp key) rows → with_net key no_net rows ≡ rows
no_change key rows up =
    let none = none_left (λ r. has_row r rows) rows (elements rows) in
    ap (λ (net : Net). with_net key net rows) (λ i. record { minus = sym none i; plus = sym none i }) ∙ net_leads key rows rows up up

pub lost_none : (k : ℕ) (vs : List RowVersion) → map (lost k []) vs ≡ vs
lost_none k [] = refl
lost_none k (v ∷ vs) = ap₂ (λ x xs. x ∷ xs) (ap (λ (u : Option ℕ). record v { until = u }) (by v.until)) (lost_none k vs)
  where
    by : (u : Option ℕ) → end_by u true k ≡ u
    by None = refl
    by (Some j) = refl

pub untouched_table : (s : Visible) (pruned t : ℕ) (k : TableKept) → IsSound s → t < length s.tables → TableStands s pruned t k → TableCommits (last s) no_net k k
untouched_table s pruned t k sound lt is = record {
  def_stays = refl;
  last_by = omega (arith, is.by);
  floor_stays = refl;
  before = λ n le. refl;
  from = λ n above.
      is.newest n (omega (arith, above))
      ∙ sym (no_change k.def.key (rows_of (snap s (last s)) t) (subst (λ def. Ascends (key_cmp def.key) (rows_of (snap s (last s)) t)) (sym is.def_is) ((keyed_database s.tables (snap s (last s)) (sound.fits (last s) (omega arith))).up t lt)))
      ∙ ap (with_net k.def.key no_net) (sym (is.newest (last s) (omega arith)));
  versions_are = λ f. ap (sum_by f) (sym (append-nil (map (lost (suc (last s)) []) k.versions) ∙ lost_none (suc (last s)) k.versions));
}
