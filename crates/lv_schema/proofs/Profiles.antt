-- What the rules on views come to: a grouped view groups by the columns that it lists; any other lists columns alone, each
-- key column of each alias among them.
use Rattle.std.proofs.Common.{◌≡◌, ℕ, Bool, true, false, List, [], ◌∷◌, ◌++◌, length, refl, sym, ◌∙◌, arith}
use Rattle.std.specs.Prelude.{nat_lt}
use Rattle.std.specs.List.{list_all}
use Rattle.std.proofs.lemmas.Bool.{and_parts, lt-ltb}
use Rattle.lv_schema.specs.declared.cond.Col.{Col}
use Rattle.lv_schema.specs.declared.fault.ProfileRule.{ProfileRule}
use Rattle.lv_schema.specs.declared.fault.ProfileRule.TheVariants as rule
use Rattle.lv_schema.specs.declared.table.TableDef.{TableDef}
use Rattle.lv_schema.specs.declared.view.Item.{Item}
use Rattle.lv_schema.specs.declared.view.ViewDef.{ViewDef}
use Rattle.lv_schema.specs.Bound.{is_plain, all_key_cols, are_among, broken, broken_rules, keeps_group, keeps_count, keeps_key, IsProfile}
use Rattle.lv_schema.specs.JoinViews.{plain_columns}

pub record IsGroupList (view : ViewDef) : Type 0 where
  pub groups_listed : are_among view.groups (plain_columns view.items) ≡ true
  pub listed_grouped : are_among (plain_columns view.items) view.groups ≡ true

pub record IsPlainList (tables : List TableDef) (view : ViewDef) : Type 0 where
  pub plain : list_all is_plain view.items ≡ true
  pub keys_listed : are_among (all_key_cols tables view.tables) (plain_columns view.items) ≡ true

none_broken : (group count key : Bool) → broken group rule.Group ++ (broken count rule.Count ++ broken key rule.Key) ≡ [] → (group ≡ true) × (count ≡ true) × (key ≡ true)
none_broken true true true e = (refl, refl, refl)
none_broken true true false e = cc
none_broken true false key e = cc
none_broken false count key e = cc

pub kept_rules : (tables : List TableDef) (view : ViewDef) → broken_rules tables view ≡ []
    → (keeps_group view.items view.groups ≡ true) × (keeps_count view.items view.groups ≡ true) × (keeps_key tables view.tables view.items view.groups ≡ true)
kept_rules tables view e = none_broken (keeps_group view.items view.groups) (keeps_count view.items view.groups) (keeps_key tables view.tables view.items view.groups) e

grouped_alike : (items : List Item) (groups : List Col) → nat_lt 0 (length groups) ≡ true → keeps_group items groups ≡ true → (are_among (plain_columns items) groups ≡ true) × (are_among groups (plain_columns items) ≡ true)
grouped_alike items [] some h = cc
grouped_alike items (g ∷ groups) some h = and_parts _ _ h

plain_with_keys : (tables : List TableDef) (numbers : List ℕ) (items : List Item) (groups : List Col) → nat_lt 0 (length groups) ≡ false → keeps_group items groups ≡ true → keeps_key tables numbers items groups ≡ true
    → (list_all is_plain items ≡ true) × (are_among (all_key_cols tables numbers) (plain_columns items) ≡ true)
plain_with_keys tables numbers items [] none h k = (h, k)
plain_with_keys tables numbers items (g ∷ groups) none h k = absurd (let some = lt-ltb 0 (length (g ∷ groups)) (omega arith) in cc)

pub group_list : (tables : List TableDef) (view : ViewDef) → IsProfile tables view → view.grouped ≡ true → IsGroupList view
group_list tables view is grouped =
    let alike = grouped_alike view.items view.groups (sym is.grouped ∙ grouped) (kept_rules tables view is.keeps).0 in
    record { groups_listed = alike.1; listed_grouped = alike.0 }

pub plain_list : (tables : List TableDef) (view : ViewDef) → IsProfile tables view → view.grouped ≡ false → IsPlainList tables view
plain_list tables view is joins =
    let rules = kept_rules tables view is.keeps in
    let list = plain_with_keys tables view.tables view.items view.groups (sym is.grouped ∙ joins) rules.0 rules.2 in
    record { plain = list.0; keys_listed = list.1 }
