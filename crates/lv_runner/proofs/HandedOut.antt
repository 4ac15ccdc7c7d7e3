-- How a run ends, from the disk's hand-out on.
use Rattle.std.proofs.Common.{◌≡◌, ℕ, ◌<◌, Bool, List, [], ◌∷◌, ◌++◌, length, Option, Some, None, inl, inr, refl, sym, ap, ◌∙◌, subst, arith}
use Rattle.std.specs.Prelude.{◌⊎◌, IfSome}
use Rattle.std.specs.Io.KnownBytes.{Keeps}
use Rattle.std.proofs.KnownBytes.{Keeps-refl}
use Rattle.lv_engine.specs.Kept.{EngineView}
use Rattle.lv_journal.specs.Bytes.{magic}
use Rattle.lv_journal.specs.declared.fault.JFault.{JFault}
use Rattle.lv_journal.specs.declared.fault.JFault.TheVariants as journal
use Rattle.lv_outside.specs.Causes.{Rose}
use Rattle.lv_outside.specs.Opening.{handed_out}
use Rattle.lv_outside.specs.declared.disks.Openings.{Openings}
use Rattle.lv_recover.specs.Opening.{BadAt}
use Rattle.lv_recover.specs.Reopened.{IsReopened}
use Rattle.lv_schema.specs.declared.rec.Rec.{Rec}
use Rattle.lv_runner.specs.declared.reading.Unread.{Unread}
use Rattle.lv_runner.specs.declared.reading.Unread.TheVariants as why
use Rattle.lv_runner.specs.declared.status.Status.{Status}
use Rattle.lv_runner.specs.declared.status.Status.TheVariants.{Done, Words, Script, SourceFault, SinkFault, BadJournal, OpenFault, NoMemory}
use Rattle.lv_words.specs.declared.words.Words.{Words as SaidWords}
use Rattle.lv_runner.specs.Begun.{EndsOpened, EndsOver, IsKeptBy, IsUntried, TellsAtLeast, unopened_as}
use Rattle.lv_runner.specs.Ends.{Ends, HasInput, Outside, Part, WhyNone, unread_as}
use Rattle.lv_runner.specs.Written.{HasWrittenPart}

-- ---- what is told of the disk's path
retold : (told there : Option (List ℕ)) (P : List ℕ → Type 0) → ((bytes : List ℕ) → told ≡ Some bytes → there ≡ Some bytes) → IfSome there P → IfSome told P
retold None there P h some = tt
retold (Some bytes) there P h some = subst (λ o. IfSome o P) (h bytes refl) some

-- a disk that has bytes keeps them, as told of its path
kept_as_told : (told there now : Option (List ℕ)) → ((bytes : List ℕ) → told ≡ Some bytes → there ≡ Some bytes) → IsKeptBy now there → IsKeptBy now told
kept_as_told told there now tells kept = retold told there (λ bytes. 0 < length bytes → now ≡ Some bytes) tells kept

-- one over which nothing was run tells what was told, or is a new journal
untried_as_told : (told there now : Option (List ℕ)) → ((bytes : List ℕ) → told ≡ Some bytes → there ≡ Some bytes) → IsKeptBy now there → (there ≡ Some [] → (now ≡ Some []) ⊎ (now ≡ Some (magic ++ 0 ∷ []))) → IsUntried now told
untried_as_told None there now tells kept begun = tt
untried_as_told (Some []) there now tells kept begun = by (begun (tells [] refl))
  where
    by : (now ≡ Some []) ⊎ (now ≡ Some (magic ++ 0 ∷ [])) → IsUntried now (Some [])
    by (inl same) = inl same
    by (inr new) = inr (refl, new)
untried_as_told (Some (byte ∷ bytes)) there now tells kept begun =
    inl (subst (λ (o : Option (List ℕ)). IfSome o (λ f. 0 < length f → now ≡ Some f)) (tells (byte ∷ bytes) refl) kept (omega arith))

module _ {D : Type 0} (seen : D → Option (List ℕ)) (may_leave : D → List ℕ → Type 0) (moment : D → ℕ) (left_since : D → ℕ → List ℕ → Type 0) (faults : D → ℕ) where
  pub reopened_as_told : (told : Option (List ℕ)) (disk : D) (recs : List Rec) (e : EngineView D) → TellsAtLeast seen may_leave moment left_since faults told disk → IsReopened seen may_leave (seen disk) recs e
      → IsReopened seen may_leave told recs e
  reopened_as_told told disk recs e tells reopened = record { opens = retold told (seen disk) _ tells reopened.opens; apply = reopened.apply; stands = reopened.stands; records = reopened.records }

  module _ (w : SaidWords) (told : Option (List ℕ)) (bytes : List ℕ) (count : ℕ) where
    -- an engine that was opened
    pub over_opened : (written0 written1 : Option (List ℕ)) (is_flushed : Bool) (sink0 sink1 : ℕ) (status : Status) (back : Option D)
        → EndsOver seen may_leave moment left_since faults w told bytes count written0 written1 is_flushed sink0 sink1 status back → EndsOpened seen may_leave moment left_since faults w told bytes count written0 written1 is_flushed sink0 sink1 status back
    over_opened written0 written1 is_flushed sink0 sink1 status None h = absurd h
    over_opened written0 written1 is_flushed sink0 sink1 Done (Some disk) h = h
    over_opened written0 written1 is_flushed sink0 sink1 Words (Some disk) h = absurd h
    over_opened written0 written1 is_flushed sink0 sink1 (Script line kind) (Some disk) h = absurd h
    over_opened written0 written1 is_flushed sink0 sink1 SourceFault (Some disk) h = absurd h
    over_opened written0 written1 is_flushed sink0 sink1 SinkFault (Some disk) h = h
    over_opened written0 written1 is_flushed sink0 sink1 (BadJournal offset) (Some disk) h = absurd h
    over_opened written0 written1 is_flushed sink0 sink1 OpenFault (Some disk) h = absurd h
    over_opened written0 written1 is_flushed sink0 sink1 NoMemory (Some disk) h = inr h

    -- one that was not
    pub ends_unopened : (there : D) (written : Option (List ℕ)) (is_flushed : Bool) (sink : ℕ) (cause : JFault) (disk : D) (status : Status) → status ≡ unopened_as cause
        → TellsAtLeast seen may_leave moment left_since faults told there
        → ((offset : ℕ) → cause ≡ journal.Bad offset → IfSome (seen there) (λ f. BadAt f offset)) → ((offset : ℕ) → cause ≡ journal.Bad offset → IfSome (seen there) (λ f. seen disk ≡ Some f))
        → (cause ≡ journal.Failed → Rose count (faults disk)) → IsKeptBy (seen disk) (seen there) → (cause ≡ journal.NoMemory → seen there ≡ Some [] → (seen disk ≡ Some []) ⊎ (seen disk ≡ Some (magic ++ 0 ∷ [])))
        → EndsOpened seen may_leave moment left_since faults w told bytes count written written is_flushed sink sink status (Some disk)
    ends_unopened there written is_flushed sink cause disk status is tells bad stays failed left begun =
        subst (λ s. EndsOpened seen may_leave moment left_since faults w told bytes count written written is_flushed sink sink s (Some disk)) (sym is) (by cause bad stays failed begun)
      where
        by : (cause : JFault) → ((offset : ℕ) → cause ≡ journal.Bad offset → IfSome (seen there) (λ f. BadAt f offset)) → ((offset : ℕ) → cause ≡ journal.Bad offset → IfSome (seen there) (λ f. seen disk ≡ Some f))
            → (cause ≡ journal.Failed → Rose count (faults disk)) → (cause ≡ journal.NoMemory → seen there ≡ Some [] → (seen disk ≡ Some []) ⊎ (seen disk ≡ Some (magic ++ 0 ∷ [])))
            → EndsOpened seen may_leave moment left_since faults w told bytes count written written is_flushed sink sink (unopened_as cause) (Some disk)
        by (journal.Bad offset) bad stays failed begun =
            (retold told (seen there) (λ f. BadAt f offset) tells (bad offset refl), Keeps-refl written, retold told (seen there) (λ f. seen disk ≡ Some f) tells (stays offset refl))
        by journal.Failed bad stays failed begun = (failed refl, Keeps-refl written, kept_as_told told (seen there) (seen disk) tells left)
        by journal.NoMemory bad stays failed begun = inl (Keeps-refl written, untried_as_told told (seen there) (seen disk) tells left (begun refl))

  -- ---- the source, the sink and the disks
  module _ (w : SaidWords) (told path : Option (List ℕ)) (old new : Outside) (bytes : List ℕ) (input : HasInput w.make old.left new.left bytes) where
    handed : (count : ℕ) → new.openings ≡ handed_out old.openings path count → new.openings ≡ handed_out old.openings path new.openings.count
    handed count e = e ∙ ap (handed_out old.openings path) (sym (ap (λ (o : Openings). o.count) e))

    abbrev Opened : ℕ → Status → Option D → Type 0
    Opened count status back = EndsOpened seen may_leave moment left_since faults w told bytes count old.written new.written new.is_flushed old.sink_faults new.sink_faults status back

    part : (disk : D) → HasWrittenPart seen may_leave moment left_since faults w told bytes old.written new.written new.openings.count disk → Part seen may_leave moment left_since faults w told path old new (Some disk)
    part disk wrote = record { bytes = bytes; input = input; disk = disk; comes_back = refl; wrote = wrote }

    at_end : new.openings ≡ handed_out old.openings path new.openings.count → (status : Status) (back : Option D) → Opened new.openings.count status back → Ends seen may_leave moment left_since faults w told path old new back status
    at_end out status None h = absurd h
    at_end out Done (Some disk) h = (record { bytes = bytes; input = input; disk = disk; comes_back = refl; wrote = h.0 }, h.1, out)
    at_end out Words (Some disk) h = absurd h
    at_end out (Script line kind) (Some disk) h = absurd h
    at_end out SourceFault (Some disk) h = absurd h
    at_end out SinkFault (Some disk) h = (part disk h.0, h.1, out)
    at_end out (BadJournal offset) (Some disk) h = (h.0, h.1, out, h.2)
    at_end out OpenFault (Some disk) h = (h.0, h.1, inl out, h.2)
    at_end out NoMemory (Some disk) h = by h
      where
        by : (Keeps old.written new.written × IsUntried (seen disk) told) ⊎ HasWrittenPart seen may_leave moment left_since faults w told bytes old.written new.written new.openings.count disk → Ends seen may_leave moment left_since faults w told path old new (Some disk) NoMemory
        by (inl kept) = inr (inl kept, out)
        by (inr wrote) = inr (inr (part disk wrote), out)

    pub ends_opened : (count : ℕ) → new.openings ≡ handed_out old.openings path count → (status : Status) (back : Option D) → Opened count status back → Ends seen may_leave moment left_since faults w told path old new back status
    ends_opened count e status back h = at_end (handed count e) status back (subst (λ k. Opened k status back) (sym (ap (λ (o : Openings). o.count) e)) h)

-- ---- a script that is not read, or not made
module _ {D : Type 0} (seen : D → Option (List ℕ)) (may_leave : D → List ℕ → Type 0) (moment : D → ℕ) (left_since : D → ℕ → List ℕ → Type 0) (faults : D → ℕ) (w : SaidWords) (told path left0 left1 written : Option (List ℕ)) (faults0 faults1 sink_faults disks_faults : ℕ) (is_flushed : Bool) (openings : Openings) where
  abbrev before : Outside
  before = record { left = left0; source_faults = faults0; written = written; is_flushed = is_flushed; sink_faults = sink_faults; disks_faults = disks_faults; openings = openings }

  abbrev behind : Outside
  behind = record { left = left1; source_faults = faults1; written = written; is_flushed = is_flushed; sink_faults = sink_faults; disks_faults = disks_faults; openings = openings }

  pub ends_unread : (unread : Unread) (status : Status) → status ≡ unread_as unread → WhyNone w.make left0 left1 faults0 faults1 unread → Ends seen may_leave moment left_since faults w told path before behind None status
  ends_unread unread status is h = subst (Ends seen may_leave moment left_since faults w told path before behind None) (sym is) (by w.make refl unread h)
    where
      by : (m : Option ℕ) → w.make ≡ m → (u : Unread) → WhyNone m left0 left1 faults0 faults1 u → Ends seen may_leave moment left_since faults w told path before behind None (unread_as u)
      by None m (why.Script line kind) h = (m, h, Keeps-refl written, refl)
      by None m why.Source h = (m, h, Keeps-refl written, refl)
      by (Some n) m (why.Script line kind) h = absurd h
      by (Some n) m why.Source h = absurd h
      by made m why.NoMemory h = inl (Keeps-refl written, refl)

-- ---- a run without a program opens no journal
pub read_first : (unread : Unread) (status : Status) → status ≡ unread_as unread → (status ≡ OpenFault) ⊎ ((offset : ℕ) × (status ≡ BadJournal offset)) → ⊥
read_first unread status is (inl e) = by unread (sym is ∙ e)
  where
    by : (u : Unread) → unread_as u ≡ OpenFault → ⊥
    by (why.Script line kind) e = absurd cc
    by why.Source e = absurd cc
    by why.NoMemory e = absurd cc
read_first unread status is (inr h) = by unread (sym is ∙ h.1)
  where
    by : (u : Unread) → unread_as u ≡ BadJournal h.0 → ⊥
    by (why.Script line kind) e = absurd cc
    by why.Source e = absurd cc
    by why.NoMemory e = absurd cc
