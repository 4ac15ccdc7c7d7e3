-- How what a crash may leave goes on with each recorded call.
use Rattle.std.proofs.Common.{◌≡◌, ◌≤◌, ◌⊎◌, inl, inr, ⊎_elim, ℕ, zero, suc, ◌+◌, ◌-◌, ◌<◌, max, get_or, List, [], ◌∷◌, ◌++◌, length, take, drop, refl, sym, ◌∙◌, ap, subst, arith, length-append, length-drop, append_assoc}
use Rattle.std.proofs.Math.Seq.{take-suc}
use Rattle.std.proofs.lemmas.List.{take_all, take_at, drop_at, take-append-le, length-take, length-take-le, drop_more, get_or-take, get_or-drop}
use Rattle.lv_outside.specs.Images.{Holds, Torn, Follows, Elapses}
use Rattle.lv_outside.specs.Crashes.{left_by, images, picked, filled, filling, size_after, LeadsTo, LeftSince, StartsIn, AreWrites, IsUnwritten, IsNear, size_along}
use Rattle.lv_outside.specs.declared.crash_disk.Call.{Call}
use Rattle.lv_outside.specs.declared.crash_disk.Call.TheVariants.{Wrote, Synced}

wrote_last : (calls : List Call) (before : List ℕ → Type 0) (at n : ℕ) (c : List ℕ) → left_by (calls ++ Wrote at n ∷ []) before c → (d : List ℕ) × left_by calls before d × Torn at n d c
wrote_last [] before at n c left = left
wrote_last (Wrote a m ∷ calls) before at n c left = wrote_last calls (λ e. (d : List ℕ) × before d × Torn a m d e) at n c left
wrote_last (Synced bytes ∷ calls) before at n c left = wrote_last calls (λ e. e ≡ bytes) at n c left

-- after a write an image is an earlier one, torn
pub wrote : (calls : List Call) (at n : ℕ) → Follows (Torn at n) (images calls) (images (calls ++ Wrote at n ∷ []))
wrote calls at n c left = wrote_last calls (λ e. e ≡ []) at n c left

torn_last : (calls : List Call) (before : List ℕ → Type 0) (at n : ℕ) (d c : List ℕ) → left_by calls before d → Torn at n d c → left_by (calls ++ Wrote at n ∷ []) before c
torn_last [] before at n d c left torn = (d, left, torn)
torn_last (Wrote a m ∷ calls) before at n d c left torn = torn_last calls (λ e. (d : List ℕ) × before d × Torn a m d e) at n d c left torn
torn_last (Synced bytes ∷ calls) before at n d c left torn = torn_last calls (λ e. e ≡ bytes) at n d c left torn

-- an image that is torn is one
pub tears : (calls : List Call) (at n : ℕ) (d c : List ℕ) → images calls d → Torn at n d c → images (calls ++ Wrote at n ∷ []) c
tears calls at n d c left torn = torn_last calls (λ e. e ≡ []) at n d c left torn

synced_last : (calls : List Call) (before : List ℕ → Type 0) (bytes c : List ℕ) → left_by (calls ++ Synced bytes ∷ []) before c → c ≡ bytes
synced_last [] before bytes c left = left
synced_last (Wrote a m ∷ calls) before bytes c left = synced_last calls (λ e. (d : List ℕ) × before d × Torn a m d e) bytes c left
synced_last (Synced b ∷ calls) before bytes c left = synced_last calls (λ e. e ≡ b) bytes c left

-- after a sync there is what it put on the disk
pub synced : (calls : List Call) (bytes c : List ℕ) → images (calls ++ Synced bytes ∷ []) c → c ≡ bytes
synced calls bytes c left = synced_last calls (λ e. e ≡ []) bytes c left

last_synced : (calls : List Call) (before : List ℕ → Type 0) (bytes : List ℕ) → left_by (calls ++ Synced bytes ∷ []) before bytes
last_synced [] before bytes = refl
last_synced (Wrote a m ∷ calls) before bytes = last_synced calls (λ e. (d : List ℕ) × before d × Torn a m d e) bytes
last_synced (Synced b ∷ calls) before bytes = last_synced calls (λ e. e ≡ b) bytes

pub stays : (calls : List Call) (bytes : List ℕ) → images (calls ++ Synced bytes ∷ []) bytes
stays calls bytes = last_synced calls (λ e. e ≡ []) bytes

-- time goes on by a call
push_elapses : (calls : List Call) (call : Call) → Elapses (length calls) (length (calls ++ call ∷ [])) (LeftSince calls) (LeftSince (calls ++ call ∷ [])) (images (calls ++ call ∷ []))
push_elapses calls call =
    let all = calls ++ call ∷ [] in
    let size : length all ≡ length calls + 1 = length-append calls (call ∷ []) in
    record {
      later = omega (arith, size);
      nothing_else = λ t c le left. ⊎_elim
          (λ within. inl (record { k = left.k; from = left.from; to = within; image = subst (λ (l : List Call). images l c) (take-append-le left.k calls (call ∷ []) within) left.image }))
          (λ past. inr (subst (λ (l : List Call). images l c) (take_all left.k all (omega (arith, size, past))) left.image))
          (split left.k (length calls));
      keeps = λ t c le left. record { k = left.k; from = left.from; to = omega (arith, size, left.to); image = subst (λ (l : List Call). images l c) (sym (take-append-le left.k calls (call ∷ []) left.to)) left.image };
    }
  where
    split : (k n : ℕ) → (k ≤ n) ⊎ (n + 1 ≤ k)
    split k n = grind arith

pub elapses : (calls later : List Call) (call : Call) → later ≡ calls ++ call ∷ [] → Elapses (length calls) (length later) (LeftSince calls) (LeftSince later) (images later)
elapses calls later call is = subst (λ (l : List Call). Elapses (length calls) (length l) (LeftSince calls) (LeftSince l) (images l)) (sym is) (push_elapses calls call)

pub torn_same : (at n : ℕ) (c : List ℕ) → Torn at n c c
torn_same at n c = record { before = refl; after = refl; no_shorter = omega arith; no_longer = omega arith }

-- one more call leads on
pub leads_push : (calls : List Call) (n m : ℕ) (call : Call) → LeadsTo n calls m → StartsIn m call → LeadsTo n (calls ++ call ∷ []) (size_after m call)
leads_push [] n m call leads starts = (subst (λ (k : ℕ). StartsIn k call) (sym leads) starts, ap (λ (k : ℕ). size_after k call) leads)
leads_push (first ∷ calls) n m call leads starts = (leads.0, leads_push calls (size_after n first) m call leads.1 starts)

pub picked_push : (pick : ℕ) (calls : List Call) (image : List ℕ) (call : Call) → picked pick image (calls ++ call ∷ []) ≡ picked pick (picked pick image calls) (call ∷ [])
picked_push pick [] image call = refl
picked_push pick (Wrote at n ∷ calls) image call = picked_push pick calls (take at image ++ filling pick image at n ++ drop (at + n) image) call
picked_push pick (Synced bytes ∷ calls) image call = picked_push pick calls bytes call

pub length-filling : (pick : ℕ) (image : List ℕ) (at n : ℕ) → length (filling pick image at n) ≡ n
length-filling pick image at zero = refl
length-filling pick image at (suc n) = omega (arith, length-filling pick image at n, length-append (filling pick image at n) (filled pick image (at + n) ∷ []))

-- the length of bytes that a piece was written over
pub holds_size : (at : ℕ) (piece old new : List ℕ) → Holds at piece old new → at ≤ length old → length new ≡ max (length old) (at + length piece)
holds_size at piece old new holds le =
    grind (arith, le, ap length holds, length-append (take at old ++ piece) (drop (at + length piece) old), length-append (take at old) piece, length-take at old, length-drop (at + length piece) old)

-- one more call of a record, replayed
pub one_more : (pick : ℕ) (calls : List Call) (k : ℕ) (call : Call) (image new : List ℕ) → k < length calls → get_or calls k call ≡ call
    → ((cs : List Call) → images cs image → images (cs ++ call ∷ []) new) → new ≡ picked pick image (call ∷ []) → length new ≡ size_after (length image) call
    → images (take k calls) image × (image ≡ picked pick [] (take k calls)) × ((m : ℕ) → LeadsTo 0 calls m → LeadsTo (length image) (drop k calls) m)
    → images (take (k + 1) calls) new × (new ≡ picked pick [] (take (k + 1) calls)) × ((m : ℕ) → LeadsTo 0 calls m → LeadsTo (length new) (drop (k + 1) calls) m)
one_more pick calls k call image new within at leaves exact size before =
    let one : k + 1 ≡ suc k = omega arith in
    let next : take (k + 1) calls ≡ take k calls ++ call ∷ [] = ap (λ (n : ℕ). take n calls) one ∙ take-suc calls k call within ∙ ap (λ (x : Call). take k calls ++ x ∷ []) at in
    let behind : drop k calls ≡ call ∷ drop (k + 1) calls = drop_more calls k call within ∙ ap (λ (x : Call). x ∷ drop (k + 1) calls) at in (
      subst (λ (l : List Call). images l new) (sym next) (leaves (take k calls) before.0),
      exact ∙ ap (λ (l : List ℕ). picked pick l (call ∷ [])) before.1 ∙ sym (picked_push pick (take k calls) [] call) ∙ ap (λ (l : List Call). picked pick [] l) (sym next),
      λ m leads. subst (λ (n : ℕ). LeadsTo n (drop (k + 1) calls) m) (sym size) (subst (λ (l : List Call). LeadsTo (length image) l m) behind (before.2 m leads)).1,
    )

-- bytes written over a range, seen as a write that is cut short
pub holds_torn : (at n : ℕ) (piece old new : List ℕ) → Holds at piece old new → length piece ≡ n → at ≤ length old → Torn at n old new
holds_torn at n piece old new holds size le =
    let long = holds_size at piece old new holds le in
    let front : length (take at old) ≡ at = omega (arith, le, length-take-le at old le) in
    record {
      before = ap (λ (l : List ℕ). take at l) (holds ∙ append_assoc (take at old) piece (drop (at + length piece) old)) ∙ take_at (take at old) (piece ++ drop (at + length piece) old) at front;
      after = ap (λ (l : List ℕ). drop (at + n) l) holds ∙ drop_at (take at old ++ piece) (drop (at + length piece) old) (at + n) (omega (arith, length-append (take at old) piece, front, size)) ∙ ap (λ (k : ℕ). drop (at + k) old) size;
      no_shorter = grind (arith, long);
      no_longer = grind (arith, long, size);
    }

pub holds_exact : (pick at count : ℕ) (piece old new : List ℕ) → Holds at piece old new → piece ≡ filling pick old at count → new ≡ take at old ++ filling pick old at count ++ drop (at + count) old
holds_exact pick at count piece old new holds is =
    let size : length piece ≡ count = ap length is ∙ length-filling pick old at count in
    holds ∙ ap (λ (l : List ℕ). take at old ++ l ++ drop (at + length piece) old) is ∙ ap (λ (n : ℕ). take at old ++ filling pick old at count ++ drop (at + n) old) size

-- after a sync the images come from what it put on the disk
after_sync : (calls : List Call) (before : List ℕ → Type 0) (bytes : List ℕ) (writes : List Call) (c : List ℕ) → left_by (calls ++ Synced bytes ∷ writes) before c → left_by writes (λ e. e ≡ bytes) c
after_sync [] before bytes writes c left = left
after_sync (Wrote at n ∷ calls) before bytes writes c left = after_sync calls (λ e. (d : List ℕ) × before d × Torn at n d e) bytes writes c left
after_sync (Synced b ∷ calls) before bytes writes c left = after_sync calls (λ e. e ≡ b) bytes writes c left

-- a torn write leaves what is not in its range
torn_outside : (at n k : ℕ) (old new : List ℕ) → Torn at n old new → (k < at) ⊎ (at + n ≤ k) → get_or new k 0 ≡ get_or old k 0
torn_outside at n k old new torn outside =
    ⊎_elim
    (λ below. sym (get_or-take at new k 0 below) ∙ ap (λ (l : List ℕ). get_or l k 0) torn.before ∙ get_or-take at old k 0 below)
    (λ past.
    let place : (at + n) + (k - (at + n)) ≡ k = omega (arith, past) in
    ap (λ (j : ℕ). get_or new j 0) (sym place)
    ∙ sym (get_or-drop (at + n) new (k - (at + n)) 0)
    ∙ ap (λ (l : List ℕ). get_or l (k - (at + n)) 0) torn.after
    ∙ get_or-drop (at + n) old (k - (at + n)) 0
    ∙ ap (λ (j : ℕ). get_or old j 0) place)
    outside

-- bytes that are the same as others at the places where V holds, with a length between two
record IsWithin (bytes : List ℕ) (V : ℕ → Type 0) (m : ℕ) (image : List ℕ) : Type 0 where
  pub same : (k : ℕ) → k < length bytes → V k → get_or image k 0 ≡ get_or bytes k 0
  pub no_shorter : length bytes ≤ length image
  pub no_longer : length image ≤ m

near_from : (writes : List Call) (before : List ℕ → Type 0) (bytes : List ℕ) (V : ℕ → Type 0) (m : ℕ) (c : List ℕ) → AreWrites writes → left_by writes before c
    → ((e : List ℕ) → before e → IsWithin bytes V m e) → IsWithin bytes (λ k. V k × IsUnwritten k writes) (size_along m writes) c
near_from [] before bytes V m c are left here =
    let it = here c left in
    record { same = λ k within v. it.same k within v.0; no_shorter = it.no_shorter; no_longer = it.no_longer }
near_from (Wrote at n ∷ writes) before bytes V m c are left here =
    let it =
    near_from writes (λ e. (d : List ℕ) × before d × Torn at n d e) bytes (λ k. V k × ((k < at) ⊎ (at + n ≤ k))) (max m (at + n)) c are left
    (λ e from.
    let d = here from.0 from.1 in
    record {
      same = λ k within v. torn_outside at n k from.0 e from.2 v.1 ∙ d.same k within v.0;
      no_shorter = omega (arith, d.no_shorter, from.2.no_shorter);
      no_longer = grind (arith, d.no_longer, from.2.no_longer);
    }) in
    record { same = λ k within v. it.same k within ((v.0, v.1.0), v.1.1); no_shorter = it.no_shorter; no_longer = it.no_longer }
near_from (Synced b ∷ writes) before bytes V m c are left here = absurd are

-- what a crash may leave of what was synced, after writes
pub near : (calls : List Call) (bytes : List ℕ) (writes : List Call) (c : List ℕ) → AreWrites writes → images (calls ++ Synced bytes ∷ writes) c → IsNear bytes writes c
near calls bytes writes c are left =
    let it =
    near_from writes (λ e. e ≡ bytes) bytes (λ k. Unit {0}) (length bytes) c are (after_sync calls (λ e. e ≡ []) bytes writes c left)
    (λ e is. record { same = λ k within v. ap (λ (l : List ℕ). get_or l k 0) is; no_shorter = omega (arith, ap length is); no_longer = omega (arith, ap length is) }) in
    record { same = λ k within v. it.same k within (tt, v); no_shorter = it.no_shorter; no_longer = it.no_longer }
