-- What a journal stands for after each of its writes.
use Rattle.std.proofs.Common.{◌≡◌, ◌+◌, ℕ, List, [], ◌∷◌, ◌++◌, length, Option, Some, None, true, false, sym, ◌∙◌, ap, subst}
use Rattle.std.specs.List.{AllByRecursion}
use Rattle.lv_outside.specs.Images.{Holds, Torn, Told, OnlyTold, LeavesOnly}
use Rattle.lv_journal.specs.Bytes.{frame, IsPayload, Closed, Staged}
use Rattle.lv_journal.specs.Passing.{Passes}
use Rattle.lv_journal.specs.Standing.{Keeps, Stands}
use Rattle.lv_journal.specs.declared.writer.Writer.{Writer}
use Rattle.lv_journal.proofs.Bytes.{closed_torn, staged_torn, staged_written, closed_written, opened_written, length-spelled-push}
use Rattle.lv_journal.proofs.Steps.{told_goes, images_go, durable, passes_leave}

abbrev Bytes : Type 0
Bytes = List ℕ

pub all_push : (ps : List Bytes) (p : Bytes) → AllByRecursion IsPayload ps → IsPayload p → AllByRecursion IsPayload (ps ++ p ∷ [])
all_push [] p all is = (is, tt)
all_push (q ∷ ps) p all is = (all.0, all_push ps p all.1 is)

module _ {D : Type 0} (seen : D → Option Bytes) (may_leave : D → Bytes → Type 0) where
  module _ (moment : D → ℕ) (left_since : D → ℕ → Bytes → Type 0) where
    -- a write of the gate in doubt that may have failed
    pub doubt_stays : (j k : Writer D) (ps : List Bytes) (q : Option Bytes) → Stands seen may_leave j ps q → j.in_doubt ≡ true → k.gate ≡ j.gate → k.in_doubt ≡ true
        → Passes seen may_leave moment left_since (Torn j.gate 1) j.disk k.disk → Stands seen may_leave k ps q
    doubt_stays j k ps None s is gate mark passes = absurd (cc (is, s.marked))
    doubt_stays j k ps (Some p) s is gate mark passes =
        let step : (d c : Bytes) → Staged ps p d → Torn j.gate 1 d c → Staged ps p c = λ d c h t. staged_torn ps p d c h (subst (λ (n : ℕ). Torn n 1 d c) s.place t) in
        record {
          payloads = s.payloads;
          doubtful = s.doubtful;
          place = gate ∙ s.place;
          marked = mark;
          told = told_goes (Torn j.gate 1) (Staged ps p) (Staged ps p) (seen j.disk) (seen k.disk) step passes.told s.told;
          images = images_go (Torn j.gate 1) (Staged ps p) (Staged ps p) (may_leave j.disk) (may_leave k.disk) step passes.images s.images;
        }

    pub doubt_leaves : (j : Writer D) (new : D) (ps : List Bytes) (q : Option Bytes) → ((c : Bytes) → left_since j.disk (moment j.disk) c → may_leave j.disk c) → Stands seen may_leave j ps q → j.in_doubt ≡ true
        → Passes seen may_leave moment left_since (Torn j.gate 1) j.disk new → LeavesOnly moment left_since j.disk new (Keeps ps q)
    doubt_leaves j new ps None only s is passes = absurd (cc (is, s.marked))
    doubt_leaves j new ps (Some p) only s is passes =
        passes_leave moment left_since seen may_leave (Torn j.gate 1) j.disk new (Staged ps p) (Staged ps p) only s.images (λ c h. h)
        (λ d c h t. staged_torn ps p d c h (subst (λ (n : ℕ). Torn n 1 d c) s.place t)) passes

    -- a write behind the closed gate that may have failed
    pub behind_stays : (j k : Writer D) (ps : List Bytes) (n : ℕ) → Stands seen may_leave j ps None → k.gate ≡ j.gate → k.in_doubt ≡ j.in_doubt
        → Passes seen may_leave moment left_since (Torn (j.gate + 1) n) j.disk k.disk → Stands seen may_leave k ps None
    behind_stays j k ps n s gate mark passes =
        let step : (d c : Bytes) → Closed ps d → Torn (j.gate + 1) n d c → Closed ps c = λ d c h t. closed_torn ps n d c h (subst (λ (m : ℕ). Torn (m + 1) n d c) s.place t) in
        record {
          payloads = s.payloads;
          doubtful = tt;
          place = gate ∙ s.place;
          marked = mark ∙ s.marked;
          told = told_goes (Torn (j.gate + 1) n) (Closed ps) (Closed ps) (seen j.disk) (seen k.disk) step passes.told s.told;
          images = images_go (Torn (j.gate + 1) n) (Closed ps) (Closed ps) (may_leave j.disk) (may_leave k.disk) step passes.images s.images;
        }

    pub behind_leaves : (j : Writer D) (new : D) (ps : List Bytes) (n : ℕ) → ((c : Bytes) → left_since j.disk (moment j.disk) c → may_leave j.disk c) → Stands seen may_leave j ps None
        → Passes seen may_leave moment left_since (Torn (j.gate + 1) n) j.disk new → LeavesOnly moment left_since j.disk new (Closed ps)
    behind_leaves j new ps n only s passes =
        passes_leave moment left_since seen may_leave (Torn (j.gate + 1) n) j.disk new (Closed ps) (Closed ps) only s.images (λ c h. h)
        (λ d c h t. closed_torn ps n d c h (subst (λ (m : ℕ). Torn (m + 1) n d c) s.place t)) passes

  -- the gate in doubt is closed, on the disk
  pub closed_now : (j k : Writer D) (ps : List Bytes) (q : Option Bytes) → Stands seen may_leave j ps q → j.in_doubt ≡ true → k.gate ≡ j.gate → k.in_doubt ≡ false
      → Told (Holds j.gate (0 ∷ [])) (seen j.disk) (seen k.disk) → OnlyTold (seen k.disk) (may_leave k.disk) → Stands seen may_leave k ps None
  closed_now j k ps None s is gate mark told only = absurd (cc (is, s.marked))
  closed_now j k ps (Some p) s is gate mark told only =
      let now = told_goes (Holds j.gate (0 ∷ [])) (Staged ps p) (Closed ps) (seen j.disk) (seen k.disk) (λ d c h t. closed_written ps p d c h (subst (λ (n : ℕ). Holds n (0 ∷ []) d c) s.place t)) told s.told in
      record { payloads = s.payloads; doubtful = tt; place = gate ∙ s.place; marked = mark; told = now; images = durable (Closed ps) (may_leave k.disk) (seen k.disk) only now }

  -- a frame and a closed gate stand behind the gate, on the disk
  pub staged_now : (j k : Writer D) (ps : List Bytes) (p : Bytes) → Stands seen may_leave j ps None → IsPayload p → k.gate ≡ j.gate → k.in_doubt ≡ true
      → Told (Holds (j.gate + 1) (frame p ++ 0 ∷ [])) (seen j.disk) (seen k.disk) → OnlyTold (seen k.disk) (may_leave k.disk) → Stands seen may_leave k ps (Some p)
  staged_now j k ps p s is gate mark told only =
      let now = told_goes (Holds (j.gate + 1) (frame p ++ 0 ∷ [])) (Closed ps) (Staged ps p) (seen j.disk) (seen k.disk) (λ d c h t. staged_written ps p d c h (subst (λ (n : ℕ). Holds (n + 1) (frame p ++ 0 ∷ []) d c) s.place t)) told s.told in
      record { payloads = s.payloads; doubtful = is; place = gate ∙ s.place; marked = mark; told = now; images = durable (Staged ps p) (may_leave k.disk) (seen k.disk) only now }

  -- the gate is open, on the disk
  pub opened_now : (j k : Writer D) (ps : List Bytes) (p : Bytes) → Stands seen may_leave j ps (Some p) → k.gate ≡ j.gate + (length p + 5) → k.in_doubt ≡ false
      → Told (Holds j.gate (1 ∷ [])) (seen j.disk) (seen k.disk) → OnlyTold (seen k.disk) (may_leave k.disk) → Stands seen may_leave k (ps ++ p ∷ []) None
  opened_now j k ps p s gate mark told only =
      let now = told_goes (Holds j.gate (1 ∷ [])) (Staged ps p) (Closed (ps ++ p ∷ [])) (seen j.disk) (seen k.disk) (λ d c h t. opened_written ps p d c h (subst (λ (n : ℕ). Holds n (1 ∷ []) d c) s.place t)) told s.told in
      record {
        payloads = all_push ps p s.payloads s.doubtful;
        doubtful = tt;
        place = gate ∙ ap (λ (n : ℕ). n + (length p + 5)) s.place ∙ sym (length-spelled-push ps p);
        marked = mark;
        told = now;
        images = durable (Closed (ps ++ p ∷ [])) (may_leave k.disk) (seen k.disk) only now;
      }
