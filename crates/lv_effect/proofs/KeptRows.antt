-- Rows that a condition keeps, with a transaction's writes over them.
use Rattle.std.proofs.Common.{◌≡◌, ℕ, Bool, true, false, cond, List, [], ◌∷◌, filter, Option, Some, None, refl, sym, ap, ◌∙◌, subst}
use Rattle.std.specs.Prelude.{unwrap_or}
use Rattle.std.specs.List.{AllByRecursion}
use Rattle.lv_values.specs.declared.value.Value.{Value}
use Rattle.lv_values.specs.Order.{row_eq}
use Rattle.lv_values.specs.Rows.{key_cmp, values_at}
use Rattle.lv_schema.specs.Keys.{row_at}
use Rattle.lv_schema.specs.Once.{Ascends}
use Rattle.lv_schema.proofs.KeyedRows.{none_at, only_table}
use Rattle.lv_schema.proofs.NetsLead.{row_itself}
use Rattle.lv_schema.proofs.Replay.{ascends_filter}
use Rattle.lv_overlay.specs.declared.put.Put.{Put}
use Rattle.lv_overlay.specs.Puts.{AreOwnRows, put_at, rows_over}

abbrev ARow : Type 0
ARow = List Value

module _ (key : List ℕ) where
  -- a row, if it passes
  abbrev if_kept : (ARow → Bool) → Option ARow → Option ARow
  if_kept p None = None
  if_kept p (Some r) = cond (p r) (Some r) None

  kept_at : (k : ARow) (p : ARow → Bool) (rows : List ARow) → Ascends (key_cmp key) rows → row_at key k (filter p rows) ≡ if_kept p (row_at key k rows)
  kept_at k p [] up = refl
  kept_at k p (r ∷ rows) up = by (p r) refl (row_eq k (values_at key r)) refl (kept_at k p rows up.1)
    where
      by : (s : Bool) → p r ≡ s → (t : Bool) → row_eq k (values_at key r) ≡ t → row_at key k (filter p rows) ≡ if_kept p (row_at key k rows)
          → row_at key k (cond s (r ∷ filter p rows) (filter p rows)) ≡ if_kept p (cond t (Some r) (row_at key k rows))
      by true e true f ih = rw (f, e) refl
      by true e false f ih = rw f ih
      by false e true f ih = ih ∙ ap (if_kept p) (none_at key k r rows f up.0) ∙ sym (ap (λ b. cond b (Some r) None) e)
      by false e false f ih = ih

  -- what holds of all rows holds of the one at a key, and the other way round
  at_key : (P : ARow → Type 0) (k : ARow) (rows : List ARow) (r : ARow) → AllByRecursion P rows → row_at key k rows ≡ Some r → P r
  at_key P k [] r all e = cc
  at_key P k (x ∷ rows) r all e = by (row_eq k (values_at key x)) e (at_key P k rows r all.1)
    where
      by : (t : Bool) → cond t (Some x) (row_at key k rows) ≡ Some r → (row_at key k rows ≡ Some r → P r) → P r
      by true f ih = let one : x ≡ r = cc in subst P one all.0
      by false f ih = ih f

  all_keys : (P : ARow → Type 0) (rows : List ARow) → Ascends (key_cmp key) rows → ((k r : ARow) → row_at key k rows ≡ Some r → P r) → AllByRecursion P rows
  all_keys P [] up h = tt
  all_keys P (x ∷ rows) up h = (h (values_at key x) x (ap (λ b. cond b (Some x) (row_at key (values_at key x) rows)) (row_itself (values_at key x))), all_keys P rows up.1 rest)
    where
      rest : (k r : ARow) → row_at key k rows ≡ Some r → P r
      rest k r e = by (row_eq k (values_at key x)) refl
        where
          by : (t : Bool) → row_eq k (values_at key x) ≡ t → P r
          by true f = let none = none_at key k x rows f up.0 in absurd (apart none)
            where
              apart : row_at key k rows ≡ None → ⊥
              apart none = cc
          by false f = h k r (ap (λ b. cond b (Some x) (row_at key k rows)) f ∙ e)

  module _ (p : ARow → Bool) (t : ℕ) (puts : List Put) (rows : List ARow) (up : Ascends (key_cmp key) rows)
      (own : AreOwnRows key puts t rows (rows_over key puts t rows)) (few : AreOwnRows key puts t (filter p rows) (rows_over key puts t (filter p rows))) where
    over_kept : (w : Option (Option ARow)) (o : Option ARow) → if_kept p (unwrap_or w (if_kept p o)) ≡ if_kept p (unwrap_or w o)
    over_kept (Some row) o = refl
    over_kept None None = refl
    over_kept None (Some r) = by (p r) refl
      where
        by : (b : Bool) → p r ≡ b → if_kept p (cond b (Some r) None) ≡ cond b (Some r) None
        by true e = ap (λ b. cond b (Some r) None) e
        by false e = refl

    -- of the writes over the rows that pass the same pass as of the writes over all
    pub kept_over : filter p (rows_over key puts t (filter p rows)) ≡ filter p (rows_over key puts t rows)
    kept_over =
        only_table key (filter p (rows_over key puts t (filter p rows))) (filter p (rows_over key puts t rows))
        (ascends_filter (key_cmp key) p (rows_over key puts t (filter p rows)) few.ascend) (ascends_filter (key_cmp key) p (rows_over key puts t rows) own.ascend)
        (λ k. kept_at k p (rows_over key puts t (filter p rows)) few.ascend
        ∙ ap (if_kept p) (few.each k ∙ ap (unwrap_or (put_at puts (t, k))) (kept_at k p rows up))
        ∙ over_kept (put_at puts (t, k)) (row_at key k rows)
        ∙ sym (kept_at k p (rows_over key puts t rows) own.ascend ∙ ap (if_kept p) (own.each k)))

    same_over : (w : Option (Option ARow)) (o : Option ARow) (r : ARow) → unwrap_or w (if_kept p o) ≡ Some r → unwrap_or w o ≡ Some r
    same_over (Some row) o r e = e
    same_over None None r e = e
    same_over None (Some x) r e = by (p x) e
      where
        by : (b : Bool) → cond b (Some x) None ≡ Some r → Some x ≡ Some r
        by true f = f
        by false f = cc

    -- and all of them are among these
    pub kept_among : (P : ARow → Type 0) → AllByRecursion P (rows_over key puts t rows) → AllByRecursion P (rows_over key puts t (filter p rows))
    kept_among P all =
        all_keys P (rows_over key puts t (filter p rows)) few.ascend
        (λ k r e. at_key P k (rows_over key puts t rows) r all
        (own.each k ∙ same_over (put_at puts (t, k)) (row_at key k rows) r (sym (few.each k ∙ ap (unwrap_or (put_at puts (t, k))) (kept_at k p rows up)) ∙ e)))
