-- What is written of an entry is what its event asked the disk to keep, if anything is.
use Rattle.std.proofs.Common.{inl, inr, ◌≡◌, Bool, true, false, Option, Some, None, refl}
use Rattle.std.specs.Prelude.{◌⊎◌}
use Rattle.lv_schema.specs.declared.rec.Rec.{Rec}
use Rattle.lv_plain.specs.declared.entry.Entry.{Entry}
use Rattle.lv_plain.specs.declared.event.Event.{Event}
use Rattle.lv_plain.specs.Legal.{event_of, shows_failure}
use Rattle.lv_plain.specs.Machine.{State, give}
use Rattle.lv_plain.specs.Rules.{Rules}
use Rattle.lv_plain.specs.WrittenRecords.{entry_record, record_by, written_by}
use Rattle.lv_plain.proofs.GivenEntries.{told}
use Rattle.lv_plain.proofs.WrittenEntries.{failed_none}
use Rattle.lv_crash.specs.Attempts.{asked_by}

abbrev pub Follows : Option Rec → Option Rec → Type 0
Follows asked written = (written ≡ None) ⊎ (written ≡ asked)

module _ (rules : Rules) where
  pub event_follows : (fails : Bool) (event : Event) (s : State) → Follows (written_by rules false event s) (written_by rules fails event s)
  event_follows false event s = inr refl
  event_follows true event s = by (told rules event s)
    where
      by : (shows_failure (give rules true event s).entry ≡ true) ⊎ ((give rules true event s ≡ give rules false event s) × (written_by rules true event s ≡ written_by rules false event s))
          → Follows (written_by rules false event s) (written_by rules true event s)
      by (inl shows) = inl (failed_none rules true event s shows)
      by (inr same) = inr same.1

  pub entry_follows : (s : State) (e : Entry) → Follows (asked_by rules (event_of s e) s) (entry_record rules s e)
  entry_follows s e = by (event_of s e)
    where
      by : (event : Option Event) → Follows (asked_by rules event s) (record_by rules event s e)
      by None = inl refl
      by (Some event) = event_follows (shows_failure e) event s
