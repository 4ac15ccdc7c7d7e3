-- Places among the versions that have not ended from which on none comes before a row: at the exact one or above it.
use Rattle.std.proofs.Common.{◌≡◌, ℕ, zero, suc, ◌+◌, ◌≤◌, Bool, true, false, List, [], ◌∷◌, length, drop, set, filter, Some, refl, ap, ◌∙◌, arith}
use Rattle.std.specs.Prelude.{slice_get}
use Rattle.std.specs.List.{AllByRecursion, insert}
use Rattle.std.proofs.lemmas.List.Edits.{length-insert, length-remove}
use Rattle.lv_values.specs.declared.value.Value.{Value}
use Rattle.lv_schema.specs.declared.signed.SignedRow.{SignedRow}
use Rattle.lv_schema.proofs.Apart.{all_weaker}
use Rattle.lv_shelf.specs.Cuts.{IsCut}
use Rattle.lv_viewrows.specs.declared.version.GroupVersion.{GroupVersion}
use Rattle.lv_viewrows.specs.Standing.{AreLeft, NoneBefore, comes_before, ended_at, has_no_end, not_ended, not_ended_before}
use Rattle.lv_viewrows.proofs.Galloping.{all_drop}
use Rattle.lv_viewrows.proofs.NotEnded.{before, before_long, before_next, cut_filtered, filter_ended, filter_inserted}

-- a test that passes up to a place fails from no place before it on
cut_upto : {X : Type 0} (p : X → Bool) (i h : ℕ) (xs : List X) → IsCut p i xs → AllByRecursion (λ x. p x ≡ false) (drop h xs) → i ≤ h
cut_upto p zero h xs c f = omega arith
cut_upto p (suc i) h [] c f = absurd c
cut_upto p (suc i) zero (x ∷ xs) c f = let a = c.0 in let b = f.0 in cc
cut_upto p (suc i) (suc h) (x ∷ xs) c f = let ih = cut_upto p i h xs c.1 f in omega (arith, ih)

-- what holds from a place on holds from a later one on
all_later : {X : Type 0} (P : X → Type 0) (i h : ℕ) (xs : List X) → i ≤ h → AllByRecursion P (drop i xs) → AllByRecursion P (drop h xs)
all_later P zero h xs le a = all_drop P h xs a
all_later P (suc i) zero xs le a = absurd (omega arith)
all_later P (suc i) (suc h) [] le a = tt
all_later P (suc i) (suc h) (x ∷ xs) le a = all_later P i h xs (omega arith) a

-- as many come before a row as do, and no more, where none from there on does
pub few_upto : (row : List Value) (number n few : ℕ) (vs : List GroupVersion) → IsCut (comes_before row number) n vs → NoneBefore row number few (not_ended vs) → not_ended_before n vs ≤ few
few_upto row number n few vs cut above =
    cut_upto (comes_before row number) (not_ended_before n vs) few (not_ended vs) (cut_filtered has_no_end (comes_before row number) n vs cut) above

pub left_wide : (number : ℕ) (rest : List SignedRow) (vs : List GroupVersion) (all among few : ℕ) → AreLeft number rest vs all among → among ≤ few → few ≤ length (not_ended vs) → AreLeft number rest vs all few
left_wide number rest vs all among few left le upto = record {
  order = left.order;
  each = left.each;
  ascend = left.ascend;
  meet = left.meet;
  within = left.within;
  above = left.above;
  within_few = upto;
  above_few = all_weaker (λ (s : SignedRow). NoneBefore s.row number among (not_ended vs)) (λ (s : SignedRow). NoneBefore s.row number few (not_ended vs))
      (λ (s : SignedRow) h. all_later (λ v. comes_before s.row number v ≡ false) among few (not_ended vs) le h) rest left.above_few;
}

-- where one ends and another one follows it, as many have not ended
pub as_many : (number at : ℕ) (vs : List GroupVersion) (item new : GroupVersion) → slice_get vs at ≡ Some item → has_no_end item ≡ true → has_no_end new ≡ true
    → (now : List GroupVersion) → now ≡ insert (set vs at (ended_at number item)) (at + 1) new → length (not_ended now) ≡ length (not_ended vs)
as_many number at vs item new get alive comes now is =
    let left : List GroupVersion = set vs at (ended_at number item) in
    let few = before_next has_no_end at vs item get alive in
    ap (λ l. length (not_ended l)) is
    ∙ ap length (filter_inserted has_no_end (at + 1) left new comes)
    ∙ length-insert (filter has_no_end left) (before has_no_end (at + 1) left) new (before_long has_no_end (at + 1) left)
    ∙ ap (λ l. length l + 1) (filter_ended has_no_end at vs item (ended_at number item) get alive refl)
    ∙ length-remove (filter has_no_end vs) (before has_no_end at vs) (omega (arith, few, before_long has_no_end (suc at) vs))
