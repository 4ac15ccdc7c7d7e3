-- Worked examples: transcripts computed from the definitions alone.
use Rattle.std.proofs.Common.{◌≡◌, refl, List, [], ◌∷◌, Some}
use Rattle.std.specs.Prelude.{codes}
use Rattle.lv_schema.specs.declared.bound.Bound.{Bound}
use Rattle.lv_schema.specs.declared.bound.Bound.TheVariants as bound
use Rattle.lv_schema.specs.declared.fault.Fault.TheVariants.{Conflict}
use Rattle.lv_plain.specs.declared.entry.Entry.TheVariants.{Session, Fetched, Installed, Idle, Cleaned, Marked, MarkUnknown}
use Rattle.lv_plain.specs.declared.entry.MarkOutcome.TheVariants.{Upto, Already}
use Rattle.lv_plain.specs.declared.entry.Reply.TheVariants.{Changed, Alone, Began, Committed, RolledBack, Tasks, Refused}
use Rattle.lv_plain.specs.declared.program.OrderItem.TheVariants as item
use Rattle.lv_plain.proofs.Shop.{n, line, add_item, add_sale, program_of, transcript}

-- the first committer of a key wins; what the order leaves runs in rounds
abbrev racing : List Bound
racing = bound.Begin ∷ add_item 1 10 ∷ bound.Commit ∷ add_item 1 11 ∷ []

first_committer_wins :
    transcript racing (program_of (line 0 ∷ line 1 ∷ line 2 ∷ []) (line 0 ∷ line 3 ∷ line 2 ∷ []) (item.Turn 1 ∷ item.Turn 2 ∷ item.Turn 1 ∷ []))
    ≡ Session 1 1 [] (Began 0) ∷ Session 2 1 [] (Began 0) ∷ Session 1 2 [] (Changed 1) ∷ Session 1 3 [] (Committed (Some 1)) ∷ Session 2 2 [] (Changed 1)
    ∷ Session 2 3 [] (Refused (Conflict 0 (n 1 ∷ []) 1)) ∷ []
first_committer_wins = refl

-- a clean-up waits for a reader; workers bring the views up to date; marks write down how far
abbrev tending : List Bound
tending = bound.Begin ∷ bound.Rollback ∷ add_item 1 10 ∷ add_sale 100 1 5 ∷ bound.Tasks ∷ []

tended :
    transcript tending
    (program_of (line 0 ∷ line 1 ∷ []) (line 2 ∷ line 3 ∷ line 4 ∷ [])
    (item.Turn 1 ∷ item.Turn 2 ∷ item.Turn 2 ∷ item.Turn 2 ∷ item.Clean ∷ item.Turn 1 ∷ item.Work 1 ∷ item.Mark (codes "lines") ∷ item.Work 1 ∷ item.Fetch 1
    ∷ item.Mark (codes "lines") ∷ item.Mark (codes "lines") ∷ item.Mark (codes "x") ∷ item.Clean ∷ []))
    ≡ Session 1 1 [] (Began 0) ∷ Session 2 1 [] (Alone 1 (Some 1)) ∷ Session 2 2 [] (Alone 1 (Some 2)) ∷ Session 2 3 [] (Tasks ((0, 1) ∷ (0, 2) ∷ (1, 1) ∷ (1, 2) ∷ []))
    ∷ Cleaned 0 2 2 ∷ Session 1 2 [] RolledBack ∷ Fetched 1 0 0 2 ∷ Installed 1 0 0 2 ∷ Marked 1 Already ∷ Fetched 1 1 0 2 ∷ Installed 1 1 0 2 ∷ Idle 1
    ∷ Marked 1 (Upto 2) ∷ Marked 1 Already ∷ MarkUnknown (codes "x") ∷ Cleaned 2 2 0 ∷ []
tended = refl
