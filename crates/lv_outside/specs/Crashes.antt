-- What a crash may leave of a disk that keeps a record of its calls.
use Rattle.std.specs.Prelude.{◌≡◌, ◌⊎◌, ◌≤◌, ◌<◌, ◌+◌, ◌==◌, ℕ, max, List, [], ◌∷◌, ◌++◌, length, take, drop, get_or, if◌then◌else◌}
use Rattle.std.proofs.Common.{zero, suc, sym, subst, arith}
use Rattle.std.proofs.lemmas.List.{take_all}
use Rattle.lv_outside.specs.Images.{Torn}
use Rattle.lv_outside.specs.declared.crash_disk.Call.{Call}
use Rattle.lv_outside.specs.declared.crash_disk.Call.TheVariants.{Wrote, Synced}

-- From what a crash might have left before these calls: each write tears what was there, and after a sync there is
-- what it put on the disk.
abbrev pub left_by : List Call → (List ℕ → Type 0) → List ℕ → Type 0
left_by [] before c = before c
left_by (Wrote at n ∷ calls) before c = left_by calls (λ e. (d : List ℕ) × before d × Torn at n d e) c
left_by (Synced bytes ∷ calls) before c = left_by calls (λ e. e ≡ bytes) c

-- the images of a disk that was empty before these calls
abbrev pub images : List Call → List ℕ → Type 0
images calls = left_by calls (λ e. e ≡ [])

-- the length of the bytes after a call, of so many before it
abbrev pub size_after : ℕ → Call → ℕ
size_after n (Wrote at count) = max n (at + count)
size_after n (Synced bytes) = length bytes

-- a write starts at or below this length
abbrev pub StartsIn : ℕ → Call → Type 0
StartsIn n (Wrote at count) = at ≤ n
StartsIn n (Synced bytes) = Unit {0}

-- from bytes of the first length each write starts at or below the length, and the calls lead to the last length
abbrev pub LeadsTo : ℕ → List Call → ℕ → Type 0
LeadsTo n [] m = n ≡ m
LeadsTo n (call ∷ calls) m = StartsIn n call × LeadsTo (size_after n call) calls m

-- what a pick makes of a byte of a written range: 1 what stood there, and 0 past the end; 2 is 1; 3 is 255
abbrev pub filled : ℕ → List ℕ → ℕ → ℕ
filled pick image at = if pick == 1 then get_or image at 0 else (if pick == 2 then 1 else 255)

-- so many bytes from a place on
abbrev pub filling : ℕ → List ℕ → ℕ → ℕ → List ℕ
filling pick image at zero = []
filling pick image at (suc n) = filling pick image at n ++ filled pick image (at + n) ∷ []

-- the image of a pick after these calls, from the one before them
abbrev pub picked : ℕ → List ℕ → List Call → List ℕ
picked pick image [] = image
picked pick image (Wrote at n ∷ calls) = picked pick (take at image ++ filling pick image at n ++ drop (at + n) image) calls
picked pick image (Synced bytes ∷ calls) = picked pick bytes calls

-- what a recording disk tells; that many more calls pass
pub record Crashing : Type 0 where
  pub bytes : List ℕ
  pub calls : List Call
  pub good : ℕ
  pub faults : ℕ

-- what it may have: what is read is an image, of the length that the calls lead to
pub record IsRecorded (calls : List Call) (bytes : List ℕ) : Type 0 where
  pub image : images calls bytes
  pub size : LeadsTo 0 calls (length bytes)

-- the images at some moment from t on
pub record LeftSince (calls : List Call) (t : ℕ) (c : List ℕ) : Type 0 where
  pub k : ℕ
  pub from : t ≤ k
  pub to : k ≤ length calls
  pub image : images (take k calls) c

-- this moment is one of them
pub counts : (calls : List Call) (t : ℕ) (c : List ℕ) → t ≤ length calls → images calls c → LeftSince calls t c
counts calls t c le now = record {
  k = length calls;
  from = le;
  to = omega arith;
  image = subst (λ (l : List Call). images l c) (sym (take_all (length calls) calls (omega arith))) now;
}

-- since this moment there is no other
pub only : (calls : List Call) (c : List ℕ) → LeftSince calls (length calls) c → images calls c
only calls c left = subst (λ (l : List Call). images l c) (take_all left.k calls left.from) left.image

-- only writes, and no sync
abbrev pub AreWrites : List Call → Type 0
AreWrites [] = Unit {0}
AreWrites (Wrote at n ∷ calls) = AreWrites calls
AreWrites (Synced bytes ∷ calls) = ⊥

-- this place is in no range that these calls wrote
abbrev pub IsUnwritten : ℕ → List Call → Type 0
IsUnwritten k [] = Unit {0}
IsUnwritten k (Wrote at n ∷ calls) = ((k < at) ⊎ (at + n ≤ k)) × IsUnwritten k calls
IsUnwritten k (Synced bytes ∷ calls) = IsUnwritten k calls

-- the greatest length along these calls, where they only write
abbrev pub size_along : ℕ → List Call → ℕ
size_along n [] = n
size_along n (call ∷ calls) = size_along (size_after n call) calls

-- what these writes may have left of bytes that were synced before them: where none of them wrote the bytes are the
-- same, and the length is between the one at the sync and the greatest since
pub record IsNear (bytes : List ℕ) (writes : List Call) (image : List ℕ) : Type 0 where
  pub same : (k : ℕ) → k < length bytes → IsUnwritten k writes → get_or image k 0 ≡ get_or bytes k 0
  pub no_shorter : length bytes ≤ length image
  pub no_longer : length image ≤ size_along (length bytes) writes
