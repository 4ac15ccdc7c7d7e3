-- Which records may stay: of no attempt none, of more attempts more, and what becomes of each.
use Rattle.std.proofs.Common.{inl, inr, ◌≡◌, Bool, true, false, List, [], ◌∷◌, ◌++◌, Option, Some, None, refl, sym, ap, ◌∙◌}
use Rattle.std.specs.Prelude.{◌⊎◌, cond, map, filter}
use Rattle.std.specs.List.{cons_option}
use Rattle.std.proofs.lemmas.List.{append_assoc, append-nil}
use Rattle.lv_schema.specs.declared.rec.Rec.{Rec}
use Rattle.lv_plain.specs.declared.entry.Entry.{Entry}
use Rattle.lv_plain.specs.Legal.{after, after_entry, event_of}
use Rattle.lv_plain.specs.Machine.{State}
use Rattle.lv_plain.specs.Rules.{Rules}
use Rattle.lv_plain.specs.WrittenRecords.{entry_record, records_of}
use Rattle.lv_crash.specs.Attempts.{Attempt, MayStay, as_attempt, asked_by, attempts_of, kept_of}
use Rattle.lv_crash.proofs.Follows.{Follows, entry_follows}

-- ---- what is kept
kept_first : (k : Bool) (x : Attempt) (a b : List Attempt) → kept_of (a ++ b) ≡ kept_of a ++ kept_of b
    → map (λ (y : Attempt). y.rec) (cond k (x ∷ filter (λ (y : Attempt). y.kept) (a ++ b)) (filter (λ (y : Attempt). y.kept) (a ++ b)))
    ≡ map (λ (y : Attempt). y.rec) (cond k (x ∷ filter (λ (y : Attempt). y.kept) a) (filter (λ (y : Attempt). y.kept) a)) ++ kept_of b
kept_first true x a b is = ap (λ (l : List Rec). x.rec ∷ l) is
kept_first false x a b is = is

kept_append : (a b : List Attempt) → kept_of (a ++ b) ≡ kept_of a ++ kept_of b
kept_append [] b = refl
kept_append (x ∷ a) b = kept_first x.kept x a b (kept_append a b)

pub kept_attempt : (attempted written : Option Rec) → Follows attempted written → kept_of (as_attempt attempted written) ≡ cons_option written []
kept_attempt None None follows = refl
kept_attempt None (Some w) (inl e) = absurd cc
kept_attempt None (Some w) (inr e) = absurd cc
kept_attempt (Some r) None follows = refl
kept_attempt (Some r) (Some w) (inl e) = absurd cc
kept_attempt (Some r) (Some w) (inr e) = ap (λ (o : Option Rec). cons_option o []) (sym e)

module _ (rules : Rules) where
  cons_is : (o : Option Rec) (rs : List Rec) → cons_option o [] ++ rs ≡ cons_option o rs
  cons_is None rs = refl
  cons_is (Some r) rs = refl

  pub kept_written : (s : State) (es : List Entry) → kept_of (attempts_of rules s es) ≡ records_of rules s es
  kept_written s [] = refl
  kept_written s (e ∷ es) =
      let next = after_entry rules s e in
      kept_append (as_attempt (asked_by rules (event_of s e) s) (entry_record rules s e)) (attempts_of rules next es)
      ∙ ap (λ (l : List Rec). l ++ kept_of (attempts_of rules next es)) (kept_attempt (asked_by rules (event_of s e) s) (entry_record rules s e) (entry_follows rules s e))
      ∙ ap (λ (l : List Rec). cons_option (entry_record rules s e) [] ++ l) (kept_written next es)
      ∙ cons_is (entry_record rules s e) (records_of rules next es)

  -- ---- one entry behind others
  pub attempts_append : (s : State) (es fs : List Entry) → attempts_of rules s (es ++ fs) ≡ attempts_of rules s es ++ attempts_of rules (after rules s es) fs
  attempts_append s [] fs = refl
  attempts_append s (e ∷ es) fs =
      let first = as_attempt (asked_by rules (event_of s e) s) (entry_record rules s e) in
      let next = after_entry rules s e in
      ap (λ (l : List Attempt). first ++ l) (attempts_append next es fs) ∙ sym (append_assoc first (attempts_of rules next es) (attempts_of rules (after rules next es) fs))

-- ---- more attempts
pub stays_on : (a b : List Attempt) (recs : List Rec) → MayStay a recs → MayStay (a ++ b) recs
stays_on a b recs (inl h) = inl (record {
  before = h.before;
  behind = h.behind ++ b;
  are = ap (λ (l : List Attempt). l ++ b) h.are ∙ append_assoc h.before h.behind b;
  left = h.left;
})
stays_on a b recs (inr h) = inr (record {
  before = h.before;
  last = h.last;
  behind = h.behind ++ b;
  are = ap (λ (l : List Attempt). l ++ b) h.are ∙ append_assoc h.before (h.last ∷ h.behind) b;
  left = h.left;
})

pub all_stay : (a : List Attempt) → MayStay a (kept_of a)
all_stay a = inl (record { before = a; behind = []; are = sym (append-nil a); left = refl })

pub last_stays : (a : List Attempt) (last : Attempt) → MayStay (a ++ last ∷ []) (kept_of a ++ last.rec ∷ [])
last_stays a last = inr (record { before = a; last = last; behind = []; are = refl; left = refl })

-- ---- what stays of a first attempt and of the others
abbrev pub Unfolds : Attempt → List Attempt → List Rec → Type 0
Unfolds a rest recs = (recs ≡ []) ⊎ (recs ≡ a.rec ∷ []) ⊎ ((more : List Rec) × MayStay rest more × (recs ≡ cond a.kept (a.rec ∷ more) more))

tail_is : (a b : Attempt) (xs ys : List Attempt) → a ∷ xs ≡ b ∷ ys → (a ≡ b) × (xs ≡ ys)
tail_is a b xs ys e = (cc, cc)

kept_cons : (a : Attempt) (l : List Attempt) → kept_of (a ∷ l) ≡ cond a.kept (a.rec ∷ kept_of l) (kept_of l)
kept_cons a l = by a.kept
  where
    by : (k : Bool) → map (λ (y : Attempt). y.rec) (cond k (a ∷ filter (λ (y : Attempt). y.kept) l) (filter (λ (y : Attempt). y.kept) l)) ≡ cond k (a.rec ∷ kept_of l) (kept_of l)
    by true = refl
    by false = refl

cond_append : (k : Bool) (r : Rec) (l more : List Rec) → cond k (r ∷ l) l ++ more ≡ cond k (r ∷ (l ++ more)) (l ++ more)
cond_append true r l more = refl
cond_append false r l more = refl

pub unfolds : (a : Attempt) (rest : List Attempt) (recs : List Rec) → MayStay (a ∷ rest) recs → Unfolds a rest recs
unfolds a rest recs (inl h) = by h.before h.are h.left
  where
    by : (before : List Attempt) → a ∷ rest ≡ before ++ h.behind → recs ≡ kept_of before → Unfolds a rest recs
    by [] are left = inl left
    by (b ∷ before) are left =
        let is = tail_is a b rest (before ++ h.behind) are in
        inr (inr (kept_of before, inl (record { before = before; behind = h.behind; are = is.1; left = refl }), left ∙ ap (λ (x : Attempt). kept_of (x ∷ before)) (sym is.0) ∙ kept_cons a before))
unfolds a rest recs (inr h) = by h.before h.are h.left
  where
    by : (before : List Attempt) → a ∷ rest ≡ before ++ h.last ∷ h.behind → recs ≡ kept_of before ++ h.last.rec ∷ [] → Unfolds a rest recs
    by [] are left = inr (inl (left ∙ ap (λ (x : Attempt). x.rec ∷ []) (sym (tail_is a h.last rest h.behind are).0)))
    by (b ∷ before) are left =
        let is = tail_is a b rest (before ++ h.last ∷ h.behind) are in
        inr (inr (
          kept_of before ++ h.last.rec ∷ [],
          inr (record { before = before; last = h.last; behind = h.behind; are = is.1; left = refl }),
          left
              ∙ ap (λ (x : Attempt). kept_of (x ∷ before) ++ h.last.rec ∷ []) (sym is.0)
              ∙ ap (λ (l : List Rec). l ++ h.last.rec ∷ []) (kept_cons a before)
              ∙ cond_append a.kept a.rec (kept_of before) (h.last.rec ∷ []),
        ))

pub none_stays : (recs : List Rec) → MayStay [] recs → recs ≡ []
none_stays recs (inl h) = by h.before h.are h.left
  where
    by : (before : List Attempt) → [] ≡ before ++ h.behind → recs ≡ kept_of before → recs ≡ []
    by [] are left = left
    by (b ∷ before) are left = absurd cc
none_stays recs (inr h) = by h.before h.are
  where
    by : (before : List Attempt) → [] ≡ before ++ h.last ∷ h.behind → recs ≡ []
    by [] are = absurd cc
    by (b ∷ before) are = absurd cc
