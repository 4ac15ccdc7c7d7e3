-- What each status says, of words that are accepted.
use Rattle.std.proofs.Common.{◌≡◌, ℕ, ◌<◌, ◌+◌, List, [], ◌++◌, length, Option, Some, None, inl, inr, refl, sym, ap, ◌∙◌, subst, arith}
use Rattle.std.specs.Prelude.{◌⊎◌, IsTrue, IfSome, Ok}
use Rattle.std.specs.Io.KnownBytes.{Consumes, IsAtEnd, Keeps}
use Rattle.std.proofs.lemmas.List.{append-nil, length-append}
use Rattle.lv_core.specs.Run.{failures_shown}
use Rattle.lv_core.proofs.Known.{none_failed}
use Rattle.lv_lines.specs.Script.{script_of}
use Rattle.lv_outside.specs.Causes.{Rose}
use Rattle.lv_recover.specs.Opening.{BadAt}
use Rattle.lv_words.specs.declared.words.Words.{Words as SaidWords}
use Rattle.lv_words.specs.Words.{said}
use Rattle.lv_runner.specs.declared.status.Status.{Status}
use Rattle.lv_runner.specs.declared.status.Status.TheVariants.{Done, Words, Script, SourceFault, SinkFault, BadJournal, OpenFault, NoMemory}
use Rattle.lv_plain.specs.declared.program.Program.{Program}
use Rattle.lv_runner.specs.Ends.{All, Completes, Ends, FailedOpening, HandedOut, HasScript, IsLeft, IsSpared, IsUnbegun, IsWell, NotAsked, Outside, Part, Refused, TurnedAway, WroteWell}
use Rattle.lv_runner.specs.Output.{IsBad, limit}
use Rattle.lv_order.proofs.Once.{answer_once}
use Rattle.lv_runner.proofs.Read.{too_long}

-- the words that are said are one
some_or : SaidWords → Option SaidWords → SaidWords
some_or w (Some v) = v
some_or w None = w

same_words : (v w : SaidWords) (words : List (List ℕ)) → said words ≡ Some v → said words ≡ Some w → v ≡ w
unfolding some_or
same_words v w words e f = ap (some_or v) (sym e ∙ f)

-- ---- a script without a fault is not refused
whole_of : (bytes front rest : List ℕ) → bytes ≡ front ++ rest → rest ≡ [] → front ≡ bytes
whole_of bytes front rest is none = sym (is ∙ ap (λ (r : List ℕ). front ++ r) none ∙ append-nil front)

no_fault : (bytes : List ℕ) (program : Program) (line kind : ℕ) → script_of bytes ≡ Ok program → IsBad bytes line kind → ⊥
no_fault bytes program line kind is bad = absurd (cc (is, bad.script))

not_long : (bytes front rest : List ℕ) (program : Program) → bytes ≡ front ++ rest → limit < length front → script_of bytes ≡ Ok program → ⊥
not_long bytes front rest program is long ok =
    let all : length bytes ≡ length front + length rest = ap length is ∙ length-append front rest in
    absurd (cc (ok, too_long bytes (omega (arith, all, long))))

not_refused : (bytes : List ℕ) (program : Program) (left0 left1 : Option (List ℕ)) (line kind : ℕ) → left0 ≡ Some bytes → script_of bytes ≡ Ok program → Refused left0 left1 line kind → ⊥
not_refused bytes program left0 left1 line kind told ok r = by left1 (subst (λ (o : Option (List ℕ)). Consumes o left1 r.bytes) told r.consumed) r.ended
  where
    by : (left1 : Option (List ℕ)) → Consumes (Some bytes) left1 r.bytes → IsAtEnd left1 ⊎ (limit < length r.bytes) → ⊥
    by None consumed ended = absurd consumed
    by (Some rest) consumed (inl none) = no_fault r.bytes program line kind (ap script_of (whole_of bytes r.bytes rest consumed none) ∙ ok) r.refused
    by (Some rest) consumed (inr long) = not_long bytes r.bytes rest program consumed long ok

script_stands : (made : Option ℕ) (left0 left1 : Option (List ℕ)) (line kind : ℕ) → HasScript made left0 → made ≡ None → Refused left0 left1 line kind → ⊥
script_stands None left0 left1 line kind has none r = not_refused has.0 has.1 left0 left1 line kind has.2 has.3 r
script_stands (Some n) left0 left1 line kind has none r = absurd cc

module _ {D : Type 0} (seen : D → Option (List ℕ)) (may_leave : D → List ℕ → Type 0) (moment : D → ℕ) (left_since : D → ℕ → List ℕ → Type 0) (faults : D → ℕ) (holds : Option (List ℕ) → Option (List ℕ)) (old new : Outside) (back : Option D) (words : List (List ℕ)) (v : SaidWords) (is : said words ≡ Some v)
    (s : Status) (ends : Ends seen may_leave moment left_since faults v (holds v.log) v.log old new back s) where
  -- the run's end, told of any words that these are
  ends_of : (w : SaidWords) → said words ≡ Some w → Ends seen may_leave moment left_since faults w (holds w.log) w.log old new back s
  ends_of w there = subst (λ (x : SaidWords). Ends seen may_leave moment left_since faults x (holds x.log) x.log old new back s) (same_words v w words is there) ends

  at : (w : SaidWords) → said words ≡ Some w → (t : Status) → s ≡ t → Ends seen may_leave moment left_since faults w (holds w.log) w.log old new back t
  at w there t e = subst (Ends seen may_leave moment left_since faults w (holds w.log) w.log old new back) e (ends_of w there)

  pub is_done : (w : SaidWords) → said words ≡ Some w → s ≡ Done → All seen may_leave moment left_since faults w (holds w.log) w.log old new back
  is_done w there e = (at w there Done e).0

  pub is_flushed : s ≡ Done → IsTrue new.is_flushed
  is_flushed e = (at v is Done e).1

  pub not_words : s ≡ Words → ⊥
  not_words e = at v is Words e

  pub is_script : (w : SaidWords) (line kind : ℕ) → said words ≡ Some w → s ≡ Script line kind → (w.make ≡ None) × Refused old.left new.left line kind
  is_script w line kind there e = let h = at w there (Script line kind) e in (h.0, h.1)

  pub is_source : (w : SaidWords) → said words ≡ Some w → s ≡ SourceFault → (w.make ≡ None) × Rose old.source_faults new.source_faults
  is_source w there e = let h = at w there SourceFault e in (h.0, h.1)

  pub is_sink : s ≡ SinkFault → Rose old.sink_faults new.sink_faults
  is_sink e = (at v is SinkFault e).1

  pub is_part : (w : SaidWords) → said words ≡ Some w → s ≡ SinkFault → Part seen may_leave moment left_since faults w (holds w.log) w.log old new back
  is_part w there e = (at w there SinkFault e).0

  pub is_bad : (w : SaidWords) (offset : ℕ) → said words ≡ Some w → s ≡ BadJournal offset → IfSome (holds w.log) (λ bytes. BadAt bytes offset)
  is_bad w offset there e = (at w there (BadJournal offset) e).0

  pub is_open : s ≡ OpenFault → FailedOpening faults old.disks_faults new.disks_faults new.openings.count back
  is_open e = (at v is OpenFault e).0

  -- nothing is written only where no disk was handed out, or nothing was run over it
  abbrev Untouched : SaidWords → Type 0
  Untouched w = Keeps old.written new.written × (NotAsked old.openings new.openings back ⊎ IsUnbegun seen (holds w.log) back)

  pub is_short : (w : SaidWords) → said words ≡ Some w → s ≡ NoMemory → (Keeps old.written new.written × (NotAsked old.openings new.openings back ⊎ IsUnbegun seen (holds w.log) back)) ⊎ Part seen may_leave moment left_since faults w (holds w.log) w.log old new back
  is_short w there e = by (at w there NoMemory e)
    where
      by : Ends seen may_leave moment left_since faults w (holds w.log) w.log old new back NoMemory → Untouched w ⊎ Part seen may_leave moment left_since faults w (holds w.log) w.log old new back
      by (inl none) = inl (none.0, inl none.1)
      by (inr (inl kept, out)) = inl (kept.0, inr kept.1)
      by (inr (inr wrote, out)) = inr wrote

  pub is_spared : (w : SaidWords) → said words ≡ Some w → s ≡ OpenFault → IsSpared seen (holds w.log) back
  is_spared w there e = (at w there OpenFault e).3

  -- ---- the openings
  pub asked_none : (s ≡ Words) ⊎ ((line kind : ℕ) × (s ≡ Script line kind)) ⊎ (s ≡ SourceFault) → NotAsked old.openings new.openings back
  asked_none (inl e) = absurd (not_words e)
  asked_none (inr (inl h)) = (at v is (Script h.0 h.1) h.2).3
  asked_none (inr (inr e)) = (at v is SourceFault e).3

  pub handed_out : (w : SaidWords) → said words ≡ Some w → (s ≡ Done) ⊎ (s ≡ SinkFault) ⊎ ((offset : ℕ) × (s ≡ BadJournal offset)) → HandedOut w.log old.openings new.openings back
  handed_out w there (inl e) = (at w there Done e).2
  handed_out w there (inr (inl e)) = (at w there SinkFault e).2
  handed_out w there (inr (inr h)) = (at w there (BadJournal h.0) h.1).2

  pub asked_once : (w : SaidWords) → said words ≡ Some w → s ≡ OpenFault → HandedOut w.log old.openings new.openings back ⊎ TurnedAway w.log old.openings new.openings back
  asked_once w there e = (at w there OpenFault e).2

  pub at_most_once : (w : SaidWords) → said words ≡ Some w → s ≡ NoMemory → NotAsked old.openings new.openings back ⊎ HandedOut w.log old.openings new.openings back
  at_most_once w there e = by (at w there NoMemory e)
    where
      by : Ends seen may_leave moment left_since faults w (holds w.log) w.log old new back NoMemory → NotAsked old.openings new.openings back ⊎ HandedOut w.log old.openings new.openings back
      by (inl none) = inl none.1
      by (inr handed) = inr handed.1

  kept_at : (t : Status) → Ends seen may_leave moment left_since faults v (holds v.log) v.log old new back t → (t ≡ Done → ⊥) → (t ≡ SinkFault → ⊥) → (t ≡ NoMemory → ⊥) → Keeps old.written new.written
  kept_at Done ends done sink short = absurd (done refl)
  kept_at Words ends done sink short = absurd ends
  kept_at (Script line kind) ends done sink short = ends.2
  kept_at SourceFault ends done sink short = ends.2
  kept_at SinkFault ends done sink short = absurd (sink refl)
  kept_at (BadJournal offset) ends done sink short = ends.1
  kept_at OpenFault ends done sink short = ends.1
  kept_at NoMemory ends done sink short = absurd (short refl)

  pub kept_unless : (s ≡ Done → ⊥) → (s ≡ SinkFault → ⊥) → (s ≡ NoMemory → ⊥) → Keeps old.written new.written
  kept_unless done sink short = kept_at s ends done sink short

  pub is_left : (w : SaidWords) (offset : ℕ) → said words ≡ Some w → s ≡ BadJournal offset → IsLeft seen (holds w.log) back
  is_left w offset there e = (at w there (BadJournal offset) e).3

  -- ---- where nothing goes wrong
  abbrev Well : SaidWords → Type 0
  Well w = IsWell seen may_leave moment left_since faults w (holds w.log) w.log old new back

  not_open : (w : SaidWords) → Well w → FailedOpening faults old.disks_faults new.disks_faults new.openings.count back → ⊥
  not_open w well failed = by back refl failed
    where
      by : (b : Option D) → back ≡ b → FailedOpening faults old.disks_faults new.disks_faults new.openings.count b → ⊥
      by None is failed = well.disks failed
      by (Some disk) is failed = well.disk disk is failed

  wrote_well : (w : SaidWords) → Well w → All seen may_leave moment left_since faults w (holds w.log) w.log old new back → WroteWell seen may_leave moment left_since faults w (holds w.log) w.log old new back
  wrote_well w well all = record {
    all = all;
    once = answer_once _ _ _ all.wrote.gives.whole;
    unfailed = none_failed new.openings.count (failures_shown all.wrote.gives.entries) (faults all.disk) all.wrote.has.caused (well.disk all.disk all.comes_back);
  }

  completes_at : (w : SaidWords) (t : Status) → Well w → Ends seen may_leave moment left_since faults w (holds w.log) w.log old new back t → Completes seen may_leave moment left_since faults w (holds w.log) w.log old new back t
  completes_at w Done well ends = inl (refl, wrote_well w well ends.0)
  completes_at w Words well ends = absurd ends
  completes_at w (Script line kind) well ends = absurd (script_stands w.make old.left new.left line kind well.script ends.0 ends.1)
  completes_at w SourceFault well ends = absurd (well.source ends.0 ends.1)
  completes_at w SinkFault well ends = absurd (well.sink ends.1)
  completes_at w (BadJournal offset) well ends = absurd (well.good offset (subst (λ (o : Option (List ℕ)). IfSome o (λ bytes. BadAt bytes offset)) well.tells ends.0))
  completes_at w OpenFault well ends = absurd (not_open w well ends.0)
  completes_at w NoMemory well ends = inr refl

  pub completes : (w : SaidWords) → said words ≡ Some w → Well w → Completes seen may_leave moment left_since faults w (holds w.log) w.log old new back s
  completes w there well = completes_at w s well (ends_of w there)

-- words that are not accepted set nothing
none_is_not : (words : List (List ℕ)) (w : SaidWords) → said words ≡ None → said words ≡ Some w → ⊥
none_is_not words w e f = absurd cc
