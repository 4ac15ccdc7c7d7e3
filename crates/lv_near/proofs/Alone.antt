-- The reach of a change of a view of one alias: no link leads from an alias to itself, so the changed rows alone are near,
-- and of the old rows those alone that go.
use Rattle.std.proofs.Common.{◌≡◌, ℕ, zero, suc, ◌<◌, Bool, true, false, cond, ◌&&◌, ◌||◌, ◌==◌, List, [], ◌∷◌, map, length, get_or, Option, Some, None, refl, sym, ap, ◌∙◌, subst, arith}
use Rattle.std.specs.Prelude.{◌⊎◌}
use mathlib.Core.Logic.{inl}
use Rattle.std.proofs.lemmas.Bool.{and_parts, eqb-true, eq-eqb}
use Rattle.std.specs.List.{filter, filter_map, cons_option, AllByRecursion, AllZip}
use Rattle.lv_values.specs.Rows.{key_cmp}
use Rattle.lv_schema.specs.declared.cond.Col.{Col}
use Rattle.lv_schema.specs.declared.cond.Cond.{Cond}
use Rattle.lv_schema.specs.declared.cond.Cond.TheFolds.{map-Cond}
use Rattle.lv_schema.specs.declared.cond.Cond.TheOpen.{Cond-F}
use Rattle.lv_schema.specs.declared.cond.Cond.TheViews.{roll-Cond, out-Cond, roll-out-Cond}
use Rattle.lv_schema.specs.declared.cond.Op.{Op}
use Rattle.lv_schema.specs.declared.cond.Op.TheVariants.{Eq, Ne, Lt, Le, Gt, Ge}
use Rattle.lv_schema.specs.declared.cond.Operand.{Operand}
use Rattle.lv_schema.specs.declared.cond.Operand.TheVariants.{Column, Number, Text}
use Rattle.lv_schema.specs.declared.part.Part.{Part}
use Rattle.lv_schema.specs.declared.table.TableDef.{TableDef}
use Rattle.lv_schema.specs.Jobs.{IsPart}
use Rattle.lv_schema.specs.Nets.{has_row}
use Rattle.lv_schema.specs.World.{table_at}
use Rattle.lv_schema.proofs.ChangeLists.{ARow}
use Rattle.lv_schema.proofs.NetsLead.{key_total, only_rows}
use Rattle.lv_schema.proofs.Replay.{ascends_filter}
use Rattle.lv_reach.specs.declared.link.Link.{Link}
use Rattle.lv_reach.specs.declared.rows.AliasRow.{AliasRow}
use Rattle.lv_reach.specs.Links.{Found, found, found_step, as_list, link_of, link_of_columns, link_of_comparison, link_of_operands, links_of}
use Rattle.lv_reach.specs.Reach.{all_fit, are_linked, goes, is_changed, IsFar, IsNear, IsReachOf, KeepsReach, Leads, part_at}
use Rattle.lv_reach.proofs.LinkLaws.{found_rolled}
use Rattle.lv_reach.proofs.NearLaws.{changed_near}
use Rattle.lv_base.specs.Bases.{BaseRoom, defs_of}
use Rattle.lv_near.specs.Small.{old_at, with_lost, with_tables}
use Rattle.lv_near.proofs.Parts.{among}
use Rattle.lv_near.proofs.Picked.{any_filter}

-- ---- a link is between two different aliases
abbrev AreApart : List Link → Type 0
AreApart links = AllByRecursion (λ link. (link.left.alias == link.right.alias) ≡ false) links

apart_columns : (left right : Col) → AreApart (as_list (link_of_columns left right))
apart_columns left right = by (left.alias == right.alias) refl
  where
    by : (b : Bool) → (left.alias == right.alias) ≡ b → AreApart (as_list (cond b None (Some (record { left = left; right = right }))))
    by true e = tt
    by false e = (e, tt)

apart_sides : (left right : Operand) → AreApart (as_list (link_of_operands left right))
apart_sides (Column left) (Column right) = apart_columns left right
apart_sides (Column left) (Number n) = tt
apart_sides (Column left) (Text t) = tt
apart_sides (Number n) right = tt
apart_sides (Text t) right = tt

apart_comparison : (op : Op) (left right : Operand) → AreApart (as_list (link_of_comparison op left right))
apart_comparison Eq left right = apart_sides left right
apart_comparison Ne left right = tt
apart_comparison Lt left right = tt
apart_comparison Le left right = tt
apart_comparison Gt left right = tt
apart_comparison Ge left right = tt

own_rolled : (e : Cond-F Cond) → AreApart (as_list (link_of (roll-Cond e)))
own_rolled e = subst (λ (f : Found). AreApart (as_list f.own)) (sym (found_rolled e)) (by e)
  where
    by : (e : Cond-F Cond) → AreApart (as_list (found_step (map-Cond Cond Found found e)).own)
    by Cond-F.True = tt
    by (Cond-F.Cmp op left right) = apart_comparison op left right
    by (Cond-F.And parts) = tt
    by (Cond-F.Or parts) = tt
    by (Cond-F.Not part) = tt

own_apart : (c : Cond) → AreApart (as_list (link_of c))
own_apart c = subst (λ x. AreApart (as_list (link_of x))) (roll-out-Cond c) (own_rolled (out-Cond c))

one_more : (o : Option Link) (links : List Link) → AreApart (as_list o) → AreApart links → AreApart (cons_option o links)
one_more None links a b = b
one_more (Some link) links a b = (a.0, b)

parts_apart : (parts : List Cond) → AreApart (filter_map (λ (part : Found). part.own) (map found parts))
parts_apart [] = tt
parts_apart (c ∷ parts) = one_more (link_of c) _ (own_apart c) (parts_apart parts)

links_rolled : (e : Cond-F Cond) → AreApart (links_of (roll-Cond e))
links_rolled e = subst (λ (f : Found). AreApart f.whole) (sym (found_rolled e)) (by e)
  where
    by : (e : Cond-F Cond) → AreApart (found_step (map-Cond Cond Found found e)).whole
    by Cond-F.True = tt
    by (Cond-F.Cmp op left right) = apart_comparison op left right
    by (Cond-F.And parts) = parts_apart parts
    by (Cond-F.Or parts) = tt
    by (Cond-F.Not part) = tt

links_apart : (c : Cond) → AreApart (links_of c)
links_apart c = subst (λ x. AreApart (links_of x)) (roll-out-Cond c) (links_rolled (out-Cond c))

no_loop : (i : ℕ) (links : List Link) → AreApart links → are_linked links i i ≡ true → true ≡ false
no_loop i [] a h = sym h
no_loop i (link ∷ links) a h = by (goes link i i) refl h (no_loop i links a.1)
  where
    by : (b : Bool) → goes link i i ≡ b → ((b || b) || are_linked links i i) ≡ true → (are_linked links i i ≡ true → true ≡ false) → true ≡ false
    by true e k rest =
        let both = and_parts (link.left.alias == i) (link.right.alias == i) e in
        sym (eq-eqb link.left.alias link.right.alias (eqb-true link.left.alias i both.0 ∙ sym (eqb-true link.right.alias i both.1))) ∙ a.0
    by false e k rest = rest k

-- ---- the one part
module _ (links : List Link) (apart : AreApart links) (p : Part) where
  -- the changed rows, and all past the one alias
  abbrev keep_at : ℕ → ARow → Bool
  keep_at zero row = is_changed p row
  keep_at (suc i) row = true

  abbrev keep : AliasRow → Bool
  keep a = keep_at a.alias a.row

  abbrev parts : List Part
  parts = p ∷ []

  changed_kept : (i : ℕ) (row : ARow) → is_changed (part_at parts i) row ≡ true → keep_at i row ≡ true
  changed_kept zero row h = h
  changed_kept (suc i) row h = refl

  changed_first : (i : ℕ) (row : ARow) → is_changed (part_at parts i) row ≡ true → i ≡ 0
  changed_first zero row h = refl
  changed_first (suc i) row h = let no : false ≡ true = h in cc

  old_first : (i : ℕ) (row : ARow) → has_row row (part_at parts i).old ≡ true → i ≡ 0
  old_first zero row h = refl
  old_first (suc i) row h = let no : false ≡ true = h in cc

  leads_first : (chain : List AliasRow) (a : AliasRow) → Leads links parts chain a → a.alias ≡ 0
  leads_first [] a h = changed_first a.alias a.row h
  leads_first (from ∷ chain) a h = old_first a.alias a.row h.0

  near_kept : (a : AliasRow) (chain : List AliasRow) → Leads links parts chain a → keep a ≡ true
  near_kept a [] h = changed_kept a.alias a.row h
  near_kept a (from ∷ chain) h =
      let both = and_parts (are_linked links from.alias a.alias) (all_fit links from a) h.1 in
      let linked : are_linked links 0 0 ≡ true = (λ i. are_linked links (sym (leads_first chain from h.2) i) (sym (old_first a.alias a.row h.0) i)) ∙ both.0 in
      let no : true ≡ false = no_loop 0 links apart linked in
      cc

  far_kept : (i : ℕ) (row : ARow) → IsFar links parts i → keep_at i row ≡ true
  far_kept zero row far = absurd (far.apart [] (changed_first far.from.alias far.from.row far.changed))
  far_kept (suc i) row far = refl

  keeps : KeepsReach links parts keep
  keeps = record { near = λ a h. near_kept a h.0 h.1; far = λ a far. far_kept a.alias a.row far }

  kept_near : (i : ℕ) (row : ARow) → i < 1 → keep_at i row ≡ true → is_changed (part_at parts i) row ≡ true
  kept_near zero row lt h = h
  kept_near (suc i) row lt h = absurd (omega (arith, lt))

  only : (a : AliasRow) → a.alias < length parts → keep a ≡ true → IsNear links parts a ⊎ IsFar links parts a.alias
  only a lt h = inl (changed_near links parts a (kept_near a.alias a.row lt h))

  -- ---- of the old rows those that go
  lost_is : (def : TableDef) → IsPart def p → p.minus ≡ filter (λ row. is_changed p row) p.old
  lost_is def is =
      only_rows (key_total def.key) p.minus (filter (λ row. is_changed p row) p.old) is.minus_keyed (ascends_filter (key_cmp def.key) (λ row. is_changed p row) p.old is.old_keyed)
      (λ q. by q (has_row q p.minus) (has_row q p.plus) (has_row q p.old) refl refl refl ∙ sym (any_filter (λ row. is_changed p row) q p.old))
    where
      by : (q : ARow) (s t u : Bool) → has_row q p.minus ≡ s → has_row q p.plus ≡ t → has_row q p.old ≡ u → has_row q p.minus ≡ (has_row q p.old && is_changed p q)
      by q true t u d e f = d ∙ sym ((λ i. among (λ r. has_row r p.old ≡ true) p.minus q is.there d i && (d i || has_row q p.plus)))
      by q false true u d e f = d ∙ sym (λ i. among (λ r. has_row r p.old ≡ false) p.plus q is.absent e i && is_changed p q)
      by q false false true d e f = d ∙ sym (λ i. f i && (d i || e i))
      by q false false false d e f = d ∙ sym (λ i. f i && (d i || e i))

  pub alone : (def : TableDef) → IsPart def p → IsReachOf links parts (record { old = p.minus; minus = p.minus; plus = p.plus } ∷ [])
  alone def is = record {
    keep = keep;
    keeps = keeps;
    only = only;
    cut_is = ap (λ rows. record { old = rows; minus = p.minus; plus = p.plus } ∷ []) (lost_is def is);
  }

-- ---- the parts of a view of one alias
pub one_alias : (b : BaseRoom) (lo : ℕ) (cond : Cond) (tables : List ℕ) (changes small : List Part) → length tables ≡ 1 → AllZip (λ t p. IsPart (table_at (defs_of b) t) p) tables (with_tables b tables lo changes)
    → small ≡ map with_lost changes → IsReachOf (links_of cond) (with_tables b tables lo changes) small
one_alias b lo cond [] changes small e each is = absurd (let none = e in omega (arith, none))
one_alias b lo cond (t ∷ []) [] small e each is = absurd each
one_alias b lo cond (t ∷ []) (p ∷ []) small e each is =
    let one : Part = record { old = old_at b (t ∷ []) lo 0; minus = p.minus; plus = p.plus } in
    subst (IsReachOf (links_of cond) (one ∷ [])) (sym is) (alone (links_of cond) (links_apart cond) one (table_at (defs_of b) t) each.0)
one_alias b lo cond (t ∷ []) (p ∷ q ∷ changes) small e each is = absurd each.1
one_alias b lo cond (t ∷ u ∷ tables) changes small e each is = absurd (let more = e in omega (arith, more))

-- ---- the one table
pub only_one : (tables : List ℕ) (d : ℕ) → length tables ≡ 1 → tables ≡ get_or tables 0 d ∷ []
only_one [] d h = absurd (omega (arith, h))
only_one (t ∷ []) d h = refl
only_one (t ∷ u ∷ tables) d h = absurd (omega (arith, h))
