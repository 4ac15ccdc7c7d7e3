-- What a crash may leave of a run applies behind the records that the run began with.
use Rattle.std.proofs.Common.{inl, inr, ◌≡◌, Bool, true, false, List, [], ◌∷◌, ◌++◌, Option, Some, None, refl, sym, ap, ◌∙◌, subst}
use Rattle.std.specs.Prelude.{is_some}
use Rattle.std.specs.List.{cons_option}
use Rattle.std.proofs.lemmas.List.{append_assoc, append-nil}
use Rattle.lv_schema.specs.declared.rec.Rec.{Rec}
use Rattle.lv_schema.specs.Steady.{IsSteady}
use Rattle.lv_schema.specs.World.{World}
use Rattle.lv_replay.specs.Applies.{all_apply, applies}
use Rattle.lv_replay.specs.Numbers.{AreNumbered}
use Rattle.lv_replay.specs.Replayed.{durable, replayed, state_of}
use Rattle.lv_replay.specs.Runs.{Keeps, noted_record}
use Rattle.lv_replay.proofs.Replays.{replayed_stopped}
use Rattle.lv_replay.proofs.Runs.{run_goes_on}
use Rattle.lv_plain.specs.declared.entry.Entry.{Entry}
use Rattle.lv_plain.specs.declared.event.Event.{Event}
use Rattle.lv_plain.specs.Legal.{after, after_by, after_entry, event_of, shows_failure}
use Rattle.lv_plain.specs.Limits.{IsWithinLimits}
use Rattle.lv_plain.specs.Machine.{State, give}
use Rattle.lv_plain.specs.Rules.{Rules}
use Rattle.lv_plain.specs.Turns.{IsBinding}
use Rattle.lv_plain.specs.WrittenRecords.{entry_record, record_by, records_of, written_by}
use Rattle.lv_crash.specs.Attempts.{MayStay, as_attempt, asked_by, attempts_of}
use Rattle.lv_crash.proofs.Follows.{Follows, entry_follows}
use Rattle.lv_crash.proofs.Keeps.{given_keeps, given_numbered}
use Rattle.lv_crash.proofs.Staying.{Unfolds, none_stays, unfolds}

-- what records leave: they apply, and make what a stop leaves of a world
pub record Makes (recs : List Rec) (w : World) : Type 0 where
  pub apply : all_apply recs ≡ true
  pub made : durable w ≡ state_of recs
  pub steady : IsSteady w
  pub numbered : AreNumbered w.visible

keeps_applies : (o : Option Rec) (r : Rec) (w next : World) → o ≡ Some r → Keeps o w next → applies r (durable w) ≡ true
keeps_applies None r w next e keeps = absurd cc
keeps_applies (Some x) r w next e keeps = subst (λ (y : Rec). applies y (durable w) ≡ true) (some_is x r e) keeps.0
  where
    some_is : (a b : Rec) → ◌≡◌ {A = Option Rec} (Some a) (Some b) → a ≡ b
    some_is a b e = cc

-- one record more, which applies
one_applies : (recs : List Rec) (r : Rec) (w : World) → Makes recs w → applies r (durable w) ≡ true → all_apply (recs ++ r ∷ []) ≡ true
one_applies recs r w makes is = (run_goes_on recs (Some r) w (replayed r (durable w)) makes.apply makes.made (is, replayed_stopped r (durable w) refl)).0

module _ (rules : Rules) (binds : IsBinding rules.reading) (limits : IsWithinLimits rules.program) (given_steady : (fails : Bool) (event : Event) (s : State) → IsSteady s.world → IsSteady (give rules fails event s).next.world) where
  entry_makes : (recs : List Rec) (s : State) (e : Entry) → Makes recs s.world → Makes (recs ++ noted_record (entry_record rules s e)) (after_entry rules s e).world
  entry_makes recs s e makes = by (event_of s e)
    where
      by : (event : Option Event) → Makes (recs ++ noted_record (record_by rules event s e)) (after_by rules event s e).world
      by None = subst (λ (rs : List Rec). Makes rs s.world) (sym (append-nil recs)) makes
      by (Some event) =
          let fails = shows_failure e in
          let on = run_goes_on recs (record_by rules (Some event) s e) s.world (after_by rules (Some event) s e).world makes.apply makes.made (given_keeps rules fails event s binds limits makes.steady makes.numbered) in
          record { apply = on.0; made = on.1; steady = given_steady fails event s makes.steady; numbered = given_numbered rules fails event s makes.steady makes.numbered }

  attempt_applies : (recs : List Rec) (s : State) (e : Entry) (r : Rec) → Makes recs s.world → asked_by rules (event_of s e) s ≡ Some r → all_apply (recs ++ r ∷ []) ≡ true
  attempt_applies recs s e r makes is = by (event_of s e) is
    where
      by : (event : Option Event) → asked_by rules event s ≡ Some r → all_apply (recs ++ r ∷ []) ≡ true
      by None is = absurd cc
      by (Some event) is = one_applies recs r s.world makes (keeps_applies (written_by rules false event s) r s.world (give rules false event s).next.world is (given_keeps rules false event s binds limits makes.steady makes.numbered))

  -- ---- a run
  cons_after : (o : Option Rec) (recs rest : List Rec) → (recs ++ noted_record o) ++ rest ≡ recs ++ cons_option o rest
  cons_after None recs rest = ap (λ (l : List Rec). l ++ rest) (append-nil recs)
  cons_after (Some r) recs rest = append_assoc recs (r ∷ []) rest

  pub run_makes : (recs : List Rec) (s : State) (es : List Entry) → Makes recs s.world → Makes (recs ++ records_of rules s es) (after rules s es).world
  run_makes recs s [] makes = subst (λ (rs : List Rec). Makes rs s.world) (sym (append-nil recs)) makes
  run_makes recs s (e ∷ es) makes =
      let next = after_entry rules s e in
      subst (λ (rs : List Rec). Makes rs (after rules next es).world) (cons_after (entry_record rules s e) recs (records_of rules next es))
      (run_makes (recs ++ noted_record (entry_record rules s e)) next es (entry_makes recs s e makes))

  -- what is left of a first entry and of others, by what is left of the others
  module _ (recs : List Rec) (s : State) (e : Entry) (es : List Entry) (makes : Makes recs s.world) (more : List Rec)
      (again : (rs : List Rec) → Makes rs (after_entry rules s e).world → (others : List Rec) → MayStay (attempts_of rules (after_entry rules s e) es) others → all_apply (rs ++ others) ≡ true) where
    abbrev next : State
    next = after_entry rules s e

    goes : (o : Option Rec) → entry_record rules s e ≡ o → (others : List Rec) → MayStay (attempts_of rules next es) others → all_apply ((recs ++ noted_record o) ++ others) ≡ true
    goes o is others stays = again (recs ++ noted_record o) (subst (λ (x : Option Rec). Makes (recs ++ noted_record x) next.world) is (entry_makes recs s e makes)) others stays

    same_rec : (a b : Rec) → ◌≡◌ {A = Option Rec} (Some a) (Some b) → a ≡ b
    same_rec a b e = cc

    first : (r : Rec) (o : Option Rec) → asked_by rules (event_of s e) s ≡ Some r → entry_record rules s e ≡ o → Follows (Some r) o → Unfolds (record { rec = r; kept = is_some o }) (attempts_of rules next es) more → all_apply (recs ++ more) ≡ true
    first r o asked is follows (inl none) = subst (λ (l : List Rec). all_apply (recs ++ l) ≡ true) (sym none) (subst (λ (l : List Rec). all_apply l ≡ true) (sym (append-nil recs)) makes.apply)
    first r o asked is follows (inr (inl one)) = subst (λ (l : List Rec). all_apply (recs ++ l) ≡ true) (sym one) (attempt_applies recs s e r makes asked)
    first r None asked is follows (inr (inr h)) = subst (λ (l : List Rec). all_apply (recs ++ l) ≡ true) (sym h.2) (subst (λ (l : List Rec). all_apply (l ++ h.0) ≡ true) (append-nil recs) (goes None is h.0 h.1))
    first r (Some w) asked is (inl none) (inr (inr h)) = absurd cc
    first r (Some w) asked is (inr same) (inr (inr h)) =
        subst (λ (l : List Rec). all_apply (recs ++ l) ≡ true) (ap (λ (x : Rec). x ∷ h.0) (same_rec w r same) ∙ sym h.2)
        (subst (λ (l : List Rec). all_apply l ≡ true) (append_assoc recs (w ∷ []) h.0) (goes (Some w) is h.0 h.1))

    entry_left : (asked : Option Rec) → asked_by rules (event_of s e) s ≡ asked → (written : Option Rec) → entry_record rules s e ≡ written → Follows asked written → MayStay (as_attempt asked written ++ attempts_of rules next es) more → all_apply (recs ++ more) ≡ true
    entry_left None asked None is follows stays = subst (λ (l : List Rec). all_apply (l ++ more) ≡ true) (append-nil recs) (goes None is more stays)
    entry_left None asked (Some w) is (inl e) stays = absurd cc
    entry_left None asked (Some w) is (inr e) stays = absurd cc
    entry_left (Some r) asked written is follows stays = first r written asked is follows (unfolds (record { rec = r; kept = is_some written }) (attempts_of rules next es) more stays)

  pub left_apply : (recs : List Rec) (s : State) (es : List Entry) → Makes recs s.world → (more : List Rec) → MayStay (attempts_of rules s es) more → all_apply (recs ++ more) ≡ true
  left_apply recs s [] makes more stays =
      subst (λ (l : List Rec). all_apply (recs ++ l) ≡ true) (sym (none_stays more stays)) (subst (λ (l : List Rec). all_apply l ≡ true) (sym (append-nil recs)) makes.apply)
  left_apply recs s (e ∷ es) makes more stays =
      entry_left recs s e es makes more (λ rs m others st. left_apply rs (after_entry rules s e) es m others st) (asked_by rules (event_of s e) s) refl (entry_record rules s e) refl (entry_follows rules s e) stays
