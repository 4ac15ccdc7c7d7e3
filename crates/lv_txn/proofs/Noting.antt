-- The writes that actions make, one after another.
use Rattle.std.proofs.Common.{◌≡◌, Bool, true, false, cond, ◌&&◌, List, [], ◌∷◌, ◌++◌, map, length, Option, Some, refl, sym, ap, ◌∙◌, arith}
use Rattle.std.specs.Prelude.{unwrap_or}
use Rattle.std.specs.List.{list_all}
use Rattle.lv_values.specs.declared.value.Value.{Value}
use Rattle.lv_schema.specs.declared.action.Action.{Action}
use Rattle.lv_schema.specs.declared.table.TableDef.{TableDef}
use Rattle.lv_schema.specs.Commits.{Place, same_place, written_place}
use Rattle.lv_schema.specs.Keys.{carried, left_by}
use Rattle.lv_schema.proofs.FirstCommitter.{place_of}
use Rattle.lv_overlay.specs.declared.put.Put.{Put}
use Rattle.lv_overlay.specs.Puts.{put_at, PutsTake}
use Rattle.lv_txn.specs.Written.{is_overwritten, kept_puts, left_at, put_of}

pub left_next : (done : List Put) (q : Put) (p : Place) (x : Option (Option (List Value))) → left_at (done ++ q ∷ []) p x ≡ cond (same_place p (q.table, q.key)) (Some q.row) (left_at done p x)
left_next [] q p x = refl
left_next (r ∷ done) q p x = left_next done q p (cond (same_place p (r.table, r.key)) (Some r.row) x)

taken : (tables : List TableDef) (actions : List Action) (p : Place) (x : Option (Option (List Value))) (below : Option (List Value)) → unwrap_or (left_at (map (put_of tables) actions) p x) below ≡ carried tables p (unwrap_or x below) actions
taken tables [] p x below = refl
taken tables (a ∷ actions) p x below =
    taken tables actions p (cond (same_place p (written_place tables a)) (Some (left_by a.kind a.row)) x) below
    ∙ ap (λ row. carried tables p row actions) (by (same_place p (written_place tables a)))
  where
    by : (b : Bool) → unwrap_or (cond b (Some (left_by a.kind a.row)) x) below ≡ cond b (left_by a.kind a.row) (unwrap_or x below)
    by true = refl
    by false = refl

pub and_left : (a b : Bool) → (a && b) ≡ true → a ≡ true
and_left true b e = refl
and_left false b e = e

pub and_right : (a b : Bool) → (a && b) ≡ true → b ≡ true
and_right true b e = e
and_right false b e = cc

pub nothing : {X : Type 0} (xs : List X) → length xs ≡ 0 → xs ≡ []
nothing [] e = refl
nothing (x ∷ xs) e = absurd (omega arith)

-- ---- writes without those that the next one overwrites
overwritten : (q : Put) (puts : List Put) (p : Place) (x : Option (Option (List Value))) → is_overwritten q puts ≡ true → left_at puts p (cond (same_place p (q.table, q.key)) (Some q.row) x) ≡ left_at puts p x
overwritten q [] p x e = cc
overwritten q (r ∷ puts) p x e =
    ap (left_at puts p)
    (ap (λ (at : Place). cond (same_place p (r.table, r.key)) (Some r.row) (cond (same_place p at) (Some q.row) x)) (place_of (q.table, q.key) (r.table, r.key) e)
    ∙ twice (same_place p (r.table, r.key)))
  where
    twice : (b : Bool) → cond b (Some r.row) (cond b (Some q.row) x) ≡ cond b (Some r.row) x
    twice true = refl
    twice false = refl

left_kept : (puts : List Put) (p : Place) (x : Option (Option (List Value))) → left_at (kept_puts puts) p x ≡ left_at puts p x
left_kept [] p x = refl
left_kept (q ∷ puts) p x = by (is_overwritten q puts) refl (left_kept puts p)
  where
    more : Option (Option (List Value))
    more = cond (same_place p (q.table, q.key)) (Some q.row) x

    by : (b : Bool) → is_overwritten q puts ≡ b → ((y : Option (Option (List Value))) → left_at (kept_puts puts) p y ≡ left_at puts p y) → left_at (cond b (kept_puts puts) (q ∷ kept_puts puts)) p x ≡ left_at puts p more
    by true e rest = rest x ∙ sym (overwritten q puts p x e)
    by false e rest = rest more

pub all_kept : (test : Put → Bool) (puts : List Put) → list_all test puts ≡ true → list_all test (kept_puts puts) ≡ true
all_kept test [] e = refl
all_kept test (q ∷ puts) e = by (is_overwritten q puts) (all_kept test puts (and_right (test q) _ e))
  where
    by : (b : Bool) → list_all test (kept_puts puts) ≡ true → list_all test (cond b (kept_puts puts) (q ∷ kept_puts puts)) ≡ true
    by true rest = rest
    by false rest = ap (λ (c : Bool). c && list_all test (kept_puts puts)) (and_left _ _ e) ∙ rest

pub puts_take : (tables : List TableDef) (actions : List Action) (old new puts : List Put) → puts ≡ kept_puts (map (put_of tables) actions) → ((p : Place) → put_at new p ≡ left_at puts p (put_at old p)) → PutsTake tables actions old new
puts_take tables actions old new puts e left p below =
    ap (λ x. unwrap_or x below) (left p ∙ ap (λ l. left_at l p (put_at old p)) e ∙ left_kept (map (put_of tables) actions) p (put_at old p))
    ∙ taken tables actions p (put_at old p) below
