-- Lists of tables by place, and what is added up over them.
use Rattle.std.proofs.Common.{◌≡◌, ◌≢◌, ℕ, suc, ◌+◌, ◌<◌, ◌≤◌, Bool, List, [], ◌∷◌, ◌++◌, drop, take, map, length, get_or, refl, sym, ap, ap₂, ◌∙◌, subst, arith}
use Rattle.std.specs.Prelude.{◌⊎◌, slice_set}
use Rattle.std.specs.List.{filter, range_with_len, sum_by}
use mathlib.Core.Logic.{inl, inr}
use Rattle.std.proofs.Math.ListN.{get_or-map}
use Rattle.std.proofs.Math.Seq.{get_or-append_seam, map-set_same}
use Rattle.std.proofs.lemmas.List.{append-nil, drop_all, take_all, get_or_append_left, get_or_default, get_or-set_other, get_or-set_same, length-append, length-map, length-set}
use Rattle.std.proofs.lemmas.List.Sums.{count_by-le-length, length-filter, sum_by-cons}
use Rattle.lv_schema.specs.declared.action.Action.{Action}
use Rattle.lv_schema.specs.declared.net.Net.{Net}
use Rattle.lv_schema.specs.declared.table.TableDef.{TableDef}
use Rattle.lv_schema.specs.declared.version.RowVersion.{RowVersion}
use Rattle.lv_schema.specs.Versions.{ends_after}
use Rattle.lv_schema.specs.Condensed.{condensed}
use Rattle.lv_schema.specs.World.{table_at}
use Rattle.lv_stands.specs.Kept.{TableKept, no_table_kept, table_kept}
use Rattle.lv_stands.specs.Moves.{TableCleaned, TableCommits, lost, no_net}
use Rattle.lv_stands.proofs.Lists.{sum-map}
use Rattle.lv_versions.specs.Versions.{Kept, new_version}
use Rattle.lv_base.specs.Bases.{brought_in, indexes_in, kept_of, net_in, no_versions, table_in, versions_in}

pub kept_at : (tables : List Kept) (t : ℕ) → table_kept (map kept_of tables) t ≡ kept_of (table_in tables t)
kept_at tables t = get_or-map kept_of tables t no_versions

pub def_at : (tables : List Kept) (t : ℕ) → table_at (map (λ k. k.def) tables) t ≡ (table_in tables t).def
def_at tables t = get_or-map (λ (k : Kept). k.def) tables t no_versions

-- ---- sums
sum_from : {X : Type 0} (f : X → ℕ) (g : ℕ → ℕ) (d : X) (xs : List X) (a : ℕ) → ((i : ℕ) → i < length xs → g (a + i) ≡ f (get_or xs i d)) → sum_by g (range_with_len a (length xs)) ≡ sum_by f xs
sum_from f g d [] a h = refl
sum_from f g d (x ∷ xs) a h =
    sum_by-cons g a (range_with_len (a + 1) (length xs))
    ∙ ap₂ (λ m n. m + n) (let e : a + 0 ≡ a = omega arith in ap g (sym e) ∙ h 0 (omega arith))
    (sum_from f g d xs (a + 1) (λ i lt. let e : a + 1 + i ≡ a + suc i = omega arith in ap g e ∙ h (suc i) (omega (arith, lt))))
    ∙ sym (sum_by-cons f x xs)

pub counted_is : (tables : List Kept) → sum_by (λ t. length (table_kept (map kept_of tables) t).versions) (range_with_len 0 (length (map kept_of tables))) ≡ versions_in tables
counted_is tables =
    sum_from (λ (k : TableKept). length k.versions) (λ t. length (table_kept (map kept_of tables) t).versions) no_table_kept (map kept_of tables) 0
    (λ i lt. let e : 0 + i ≡ i = omega arith in ap (λ t. length (table_kept (map kept_of tables) t).versions) e)
    ∙ sum-map kept_of (λ (k : TableKept). length k.versions) tables

sum_both : {X Y Z : Type 0} (f : X → ℕ) (g : Y → ℕ) (h : Z → ℕ) (d : X) (e : Y) (k : Z) (xs : List X) (ys : List Y) (zs : List Z) → length ys ≡ length xs → length zs ≡ length xs
    → ((i : ℕ) → i < length xs → h (get_or zs i k) ≡ f (get_or xs i d) + g (get_or ys i e)) → sum_by h zs ≡ sum_by f xs + sum_by g ys
sum_both f g h d e k [] [] [] a b each = refl
sum_both f g h d e k [] [] (z ∷ zs) a b each = absurd (omega (arith, b))
sum_both f g h d e k [] (y ∷ ys) zs a b each = absurd (omega (arith, a))
sum_both f g h d e k (x ∷ xs) [] zs a b each = absurd (omega (arith, a))
sum_both f g h d e k (x ∷ xs) (y ∷ ys) [] a b each = absurd (omega (arith, b))
sum_both f g h d e k (x ∷ xs) (y ∷ ys) (z ∷ zs) a b each =
    omega (
      arith,
      sum_by-cons h z zs,
      sum_by-cons f x xs,
      sum_by-cons g y ys,
      each 0 (omega arith),
      sum_both f g h d e k xs ys zs (omega (arith, a)) (omega (arith, b)) (λ i lt. each (suc i) (omega (arith, lt))),
    )

sum_fewer : {X Y : Type 0} (f : X → ℕ) (h : Y → ℕ) (d : X) (k : Y) (xs : List X) (ys : List Y) → length ys ≡ length xs → ((i : ℕ) → i < length xs → h (get_or ys i k) ≤ f (get_or xs i d)) → sum_by h ys ≤ sum_by f xs
sum_fewer f h d k [] [] a each = omega arith
sum_fewer f h d k [] (y ∷ ys) a each = absurd (omega (arith, a))
sum_fewer f h d k (x ∷ xs) [] a each = absurd (omega (arith, a))
sum_fewer f h d k (x ∷ xs) (y ∷ ys) a each =
    omega (arith, sum_by-cons h y ys, sum_by-cons f x xs, each 0 (omega arith), sum_fewer f h d k xs ys (omega (arith, a)) (λ i lt. each (suc i) (omega (arith, lt))))

ones : {X : Type 0} (xs : List X) → sum_by (λ x. 1) xs ≡ length xs
ones [] = refl
ones (x ∷ xs) = omega (arith, sum_by-cons (λ y. 1) x xs, ones xs)

-- a commit adds a version for each row that comes
longer : (m : ℕ) (net : Net) (old new : TableKept) → TableCommits m net old new → length new.versions ≡ length old.versions + length net.plus
longer m net old new c =
    sym (ones new.versions)
    ∙ c.versions_are (λ v. 1)
    ∙ ones (map (lost (suc m) net.minus) old.versions ++ map (new_version (suc m)) net.plus)
    ∙ length-append (map (lost (suc m) net.minus) old.versions) (map (new_version (suc m)) net.plus)
    ∙ ap₂ (λ a b. a + b) (length-map old.versions (lost (suc m) net.minus)) (length-map net.plus (new_version (suc m)))

pub all_longer : (m : ℕ) (old new : List Kept) (nets : List Net) → length nets ≡ length old → length new ≡ length old
    → ((t : ℕ) → t < length old → TableCommits m (net_in nets t) (kept_of (table_in old t)) (kept_of (table_in new t))) → versions_in new ≡ versions_in old + brought_in nets
all_longer m old new nets a b each =
    sum_both (λ (k : Kept). length k.versions) (λ (net : Net). length net.plus) (λ (k : Kept). length k.versions) no_versions no_net no_versions old nets new a b
    (λ t lt. longer m (net_in nets t) (kept_of (table_in old t)) (kept_of (table_in new t)) (each t lt))

pub filter_fewer : {X : Type 0} (p : X → Bool) (xs : List X) → length (filter p xs) ≤ length xs
filter_fewer p xs = omega (arith, length-filter p xs, count_by-le-length p xs)

pub all_fewer : (floor : ℕ) (old new : List Kept) → length new ≡ length old → ((t : ℕ) → t < length old → TableCleaned floor (kept_of (table_in old t)) (kept_of (table_in new t))) → versions_in new ≤ versions_in old
all_fewer floor old new a each =
    sum_fewer (λ (k : Kept). length k.versions) (λ (k : Kept). length k.versions) no_versions no_versions old new a
    (λ t lt. subst (λ (vs : List RowVersion). length vs ≤ length (table_in old t).versions) (sym (each t lt).versions_are) (filter_fewer (λ (v : RowVersion). ends_after floor v.until) (table_in old t).versions))

-- ---- the last net change is taken, and those before it are left
pub record AreTaken (m : ℕ) (nets0 : List Net) (old : List Kept) (nets : List Net) (tables : List Kept) : Type 0 where
  pub long : length tables ≡ length old
  pub short : length nets ≤ length old
  pub nets_stay : (t : ℕ) → t < length nets → net_in nets t ≡ net_in nets0 t
  pub tables_stay : (t : ℕ) → t < length nets → table_in tables t ≡ table_in old t
  pub taken : (t : ℕ) → length nets ≤ t → t < length old → TableCommits m (net_in nets0 t) (kept_of (table_in old t)) (kept_of (table_in tables t))
  pub indexes : indexes_in tables ≡ indexes_in old

module _ (m : ℕ) (nets0 : List Net) (old : List Kept) (nets rest : List Net) (net : Net) (tables : List Kept) (held : AreTaken m nets0 old nets tables) (popped : nets ≡ rest ++ net ∷ []) where
  longer_by : length nets ≡ length rest + 1
  longer_by = ap length popped ∙ length-append rest (net ∷ [])

  pub inside : length rest < length tables
  inside = omega (arith, longer_by, held.long, held.short)

  pub last_table : (d : Kept) → get_or tables (length rest) d ≡ table_in old (length rest)
  last_table d = get_or_default tables (length rest) d no_versions inside ∙ held.tables_stay (length rest) (omega (arith, longer_by))

  pub last_net : net ≡ net_in nets0 (length rest)
  last_net = sym (get_or-append_seam rest net [] no_net) ∙ ap (λ (l : List Net). net_in l (length rest)) (sym popped) ∙ held.nets_stay (length rest) (omega (arith, longer_by))

  pub one_more : (item new : Kept) → item ≡ table_in old (length rest) → TableCommits m net (kept_of item) (kept_of new) → new.indexes ≡ item.indexes → AreTaken m nets0 old rest (slice_set tables (length rest) new)
  one_more item new is c same = record {
    long = length-set tables (length rest) new ∙ held.long;
    short = omega (arith, longer_by, held.short);
    nets_stay = λ t lt. sym (get_or_append_left rest (net ∷ []) no_net t lt) ∙ ap (λ (l : List Net). net_in l t) (sym popped) ∙ held.nets_stay t (omega (arith, longer_by, lt));
    tables_stay = λ t lt. get_or-set_other tables (length rest) t new no_versions (other t (length rest) (omega (arith, lt))) ∙ held.tables_stay t (omega (arith, longer_by, lt));
    taken = λ t le lt. by t lt (split t (length rest) le);
    indexes = map-set_same (λ (k : Kept). k.indexes) tables (length rest) new no_versions (same ∙ ap (λ (k : Kept). k.indexes) (is ∙ sym (held.tables_stay (length rest) (omega (arith, longer_by))))) ∙ held.indexes;
  }
    where
      other : (t at : ℕ) → t < at → t ≢ at
      other t at lt = λ e. absurd (omega (arith, lt, e))

      other_above : (t at : ℕ) → at < t → t ≢ at
      other_above t at lt = λ e. absurd (omega (arith, lt, e))

      split : (t at : ℕ) → at ≤ t → (t ≡ at) ⊎ (at < t)
      split t at le = grind arith

      here : TableCommits m (net_in nets0 (length rest)) (kept_of (table_in old (length rest))) (kept_of (table_in (slice_set tables (length rest) new) (length rest)))
      here =
          subst (λ (k : Kept). TableCommits m (net_in nets0 (length rest)) (kept_of (table_in old (length rest))) (kept_of k)) (sym (get_or-set_same tables (length rest) new no_versions inside))
          (subst (λ (k : Kept). TableCommits m (net_in nets0 (length rest)) (kept_of k) (kept_of new)) is (subst (λ (n : Net). TableCommits m n (kept_of item) (kept_of new)) last_net c))

      by : (t : ℕ) → t < length old → (t ≡ length rest) ⊎ (length rest < t) → TableCommits m (net_in nets0 t) (kept_of (table_in old t)) (kept_of (table_in (slice_set tables (length rest) new) t))
      by t lt (inl e) = subst (λ u. TableCommits m (net_in nets0 u) (kept_of (table_in old u)) (kept_of (table_in (slice_set tables (length rest) new) u))) (sym e) here
      by t lt (inr above) =
          subst (λ (k : Kept). TableCommits m (net_in nets0 t) (kept_of (table_in old t)) (kept_of k)) (sym (get_or-set_other tables (length rest) t new no_versions (other_above t (length rest) above)))
          (held.taken t (omega (arith, longer_by, above)) lt)

-- ---- all of a vector, written through a slice
pub whole : (len : ℕ) (new items : List Kept) → length new ≡ length items → len ≡ length items → take len (new ++ drop (length new) items) ≡ new
whole len new items e f =
    ap (λ l. take len (new ++ l)) (drop_all (length new) items (omega (arith, e))) ∙ ap (take len) (append-nil new) ∙ take_all len new (omega (arith, e, f))

-- ---- what holds of each table, after one of them is changed
pub split : (t at : ℕ) → (t ≡ at) ⊎ ((t < at) ⊎ (at < t))
split t at = grind arith

module _ (P : ℕ → Kept → Type 0) (tables : List Kept) (at : ℕ) (new : Kept) (inside : at < length tables) (here : P at new) where
  at_place : (t : ℕ) → t ≡ at → P t (table_in (slice_set tables at new) t)
  at_place t e = subst (λ u. P u (table_in (slice_set tables at new) u)) (sym e) (subst (P at) (sym (get_or-set_same tables at new no_versions inside)) here)

  elsewhere : (t : ℕ) → t ≢ at → P t (table_in tables t) → P t (table_in (slice_set tables at new) t)
  elsewhere t other h = subst (P t) (sym (get_or-set_other tables at t new no_versions other)) h

  pub set_all : ((t : ℕ) → P t (table_in tables t)) → (t : ℕ) → P t (table_in (slice_set tables at new) t)
  set_all each t = by (split t at)
    where
      by : (t ≡ at) ⊎ ((t < at) ⊎ (at < t)) → P t (table_in (slice_set tables at new) t)
      by (inl e) = at_place t e
      by (inr (inl lt)) = elsewhere t (λ e. absurd (omega (arith, lt, e))) (each t)
      by (inr (inr lt)) = elsewhere t (λ e. absurd (omega (arith, lt, e))) (each t)

  pub set_next : ((t : ℕ) → t < at → P t (table_in tables t)) → (t : ℕ) → t < at + 1 → P t (table_in (slice_set tables at new) t)
  set_next each t below = by (split t at)
    where
      by : (t ≡ at) ⊎ ((t < at) ⊎ (at < t)) → P t (table_in (slice_set tables at new) t)
      by (inl e) = at_place t e
      by (inr (inl lt)) = elsewhere t (λ e. absurd (omega (arith, lt, e))) (each t lt)
      by (inr (inr lt)) = absurd (omega (arith, lt, below))

pub later : (t at : ℕ) → at + 1 ≤ t → t ≢ at
later t at le = λ e. absurd (omega (arith, le, e))

pub item_is : (tables : List Kept) (at : ℕ) (d : Kept) → at < length tables → get_or tables at d ≡ table_in tables at
item_is tables at d inside = get_or_default tables at d no_versions inside

pub spare_kept : (old tables : List Kept) (at : ℕ) (d new : Kept) → at < length tables → (get_or tables at d).spare ≤ new.spare → ((t : ℕ) → (table_in old t).spare ≤ (table_in tables t).spare)
    → (t : ℕ) → (table_in old t).spare ≤ (table_in (slice_set tables at new) t).spare
spare_kept old tables at d new inside more kept =
    set_all (λ t k. (table_in old t).spare ≤ k.spare) tables at new inside (omega (arith, kept at, ap (λ (k : Kept). k.spare) (item_is tables at d inside), more)) kept

-- ---- net changes, one after another
pub pushed_each : (g : ℕ → Net) (nets : List Net) (net : Net) (i : ℕ) → length nets ≡ i → ((t : ℕ) → t < i → net_in nets t ≡ g t) → net ≡ g i → (t : ℕ) → t < i + 1 → net_in (nets ++ net ∷ []) t ≡ g t
pushed_each g nets net i long each last t below = by (split t i)
  where
    by : (t ≡ i) ⊎ ((t < i) ⊎ (i < t)) → net_in (nets ++ net ∷ []) t ≡ g t
    by (inl e) =
        let there : t ≡ length nets = omega (arith, e, long) in
        ap (net_in (nets ++ net ∷ [])) there ∙ get_or-append_seam nets net [] no_net ∙ last ∙ ap g (sym e)
    by (inr (inl lt)) = get_or_append_left nets (net ∷ []) no_net t (omega (arith, lt, long)) ∙ each t lt
    by (inr (inr lt)) = absurd (omega (arith, lt, below))

pub condensed_at : (tables : List Kept) (actions : List Action) (i : ℕ) (def : TableDef) (net : Net) → (table_in tables i).def.no ≡ i → def ≡ (table_in tables i).def
    → ((defs : List TableDef) → table_at defs def.no ≡ def → net ≡ condensed defs actions def.no) → net ≡ condensed (map (λ k. k.def) tables) actions i
condensed_at tables actions i def net place is told =
    let defs = map (λ (k : Kept). k.def) tables in
    let no : def.no ≡ i = ap (λ (d : TableDef). d.no) is ∙ place in
    told defs (ap (table_at defs) no ∙ def_at tables i ∙ sym is) ∙ ap (condensed defs actions) no
