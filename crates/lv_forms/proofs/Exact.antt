-- Each form is exact: what is read was written, and what was written is read again.
use Rattle.std.proofs.Common.{◌≡◌, ℕ, zero, suc, ◌+◌, ◌*◌, ◌/◌, ◌%◌, ◌^◌, ◌<◌, ◌≤◌, Bool, true, false, not, ◌&&◌, ◌⊎◌, inl, inr, List, [], ◌++◌, length, Option, Some, None, refl, sym, ap, subst, ◌∙◌, append_assoc, length-append, arith}
use Rattle.std.specs.Prelude.{ℤ, nat_le, take, drop}
use mir.Val.{bits}
use Rattle.std.specs.Int.{Width, byte_len, cast_unsigned}
use Rattle.std.specs.List.{flat_map}
use Rattle.std.proofs.Math.Facts.{sfits_to_z, Fits-of_z}
use Rattle.std.proofs.lemmas.Int.{of_z-to_z, to_z-of_z}
use Rattle.std.proofs.lemmas.List.{take-append-drop, take_at, drop_at, length-take-le}
use Rattle.std.proofs.lemmas.Bool.{leb-true, le-leb}
use Rattle.lv_reading.specs.Reading.{begins, byte}
use Rattle.lv_reading.proofs.Takes.{Takes, then_takes, last_takes, pure_takes, fail_takes, check_takes, choice_takes, expect_takes, byte_takes, times_takes, many_takes, separated_takes, pair_is, cond_some}
use Rattle.lv_reading.proofs.Again.{IsRead, many_again, begins_again, expect_again, times_again, separated_again}
use Rattle.lv_reading.proofs.Decimals.{natural_takes, natural_again, number_takes, number_again}
use Rattle.lv_forms.specs.Forms.{Form, IsExact, words, nothing, never, both, listed, count_below, wide, bytes_of, read_bytes, binary, after, ended, pair, if_there, FitsIfThere, optional, counted, joined, mapped, text_if, FitsIf, IfIs, partly, either_text, FitsEither, either, repeated, only, signed, chunk, letters, among}

pub takes : {A : Type 0} {f : Form A} → IsExact f → Takes f.Fits f.text [] f.read
takes {A} {f} x = record { takes = λ bytes a rest is e. x.written bytes a rest is e }

pub exact : {A : Type 0} {f : Form A} → Takes f.Fits f.text [] f.read → ((a : A) (rest : List ℕ) → f.Fits a → f.ends rest ≡ true → f.read (f.text a ++ rest) ≡ Some (a, rest)) → IsExact f
exact {A} {f} t again = record { written = λ bytes a rest is e. t.takes bytes a rest is e; again = again }

-- a form that stands alone tells its values, and the bytes behind them
pub tells : {A : Type 0} {f : Form A} → IsExact f → (a b : A) (rest others : List ℕ) → f.Fits a → f.Fits b → f.ends rest ≡ true → f.ends others ≡ true → f.text a ++ rest ≡ f.text b ++ others → (a ≡ b) × (rest ≡ others)
tells {A} {f} x a b rest others fa fb ea eb e = pair_is a b rest others (sym (x.again a rest fa ea) ∙ ap f.read e ∙ x.again b others fb eb)

-- ---- one value

pub words_exact : (w : List ℕ) → IsExact (words w)
words_exact w = exact (expect_takes w) (λ a rest fits e. expect_again w rest)

pub nothing_exact : IsExact nothing
nothing_exact = exact (pure_takes refl tt) (λ a rest fits e. refl)

pub never_exact : {A : Type 0} → IsExact (never {A = A})
never_exact = exact (fail_takes) (λ a rest fits e. absurd fits)

pub count_exact : (limit : ℕ) → limit ≤ 2 ^ 128 → IsExact (count_below limit)
count_exact limit le = exact (natural_takes limit) (λ n rest fits e. natural_again limit n rest le fits e)

pub wide_exact : IsExact wide
wide_exact = exact (number_takes) (number_again)

low : (b n : ℕ) → b < 256 → (b + 256 * n) % 256 ≡ b
low b n h = omega arith

high : (b n : ℕ) → b < 256 → (b + 256 * n) / 256 ≡ n
high b n h = omega arith

fits_more : (k b n : ℕ) → b < 256 → n < 256 ^ k → b + 256 * n < 256 ^ suc k
fits_more k b n h f = let p : 256 ^ suc k ≡ 256 * 256 ^ k = grind arith in omega arith

binary_takes : (k : ℕ) → Takes (λ n. n < 256 ^ k) (bytes_of k) [] (read_bytes k)
binary_takes zero = pure_takes refl (omega arith)
binary_takes (suc k) =
    then_takes byte_takes (λ b h. then_takes (binary_takes k) (λ n f. pure_takes
    (rw (low b n h, high b n h) refl)
    (fits_more k b n h f)))

binary_again : (k n : ℕ) (rest : List ℕ) → n < 256 ^ k → read_bytes k (bytes_of k n ++ rest) ≡ Some (n, rest)
unfolding byte
binary_again zero n rest f = let is : 0 ≡ n = omega arith in ap (λ (m : ℕ). Some (m, rest)) is
binary_again (suc k) n rest f =
    let p : 256 ^ suc k ≡ 256 * 256 ^ k = grind arith in
    let less : n / 256 < 256 ^ k = omega arith in
    let whole : n % 256 + 256 * (n / 256) ≡ n = omega arith in
    rw (binary_again k (n / 256) rest less) (ap (λ (m : ℕ). Some (m, rest)) whole)

pub binary_exact : (k : ℕ) → IsExact (binary k)
binary_exact k = exact (binary_takes k) (λ n rest fits e. binary_again k n rest fits)

pub signed_exact : (w : Width) → 256 ^ byte_len w ≡ 2 ^ bits w → IsExact (signed w)
signed_exact w e = exact
    (then_takes (binary_takes (byte_len w)) (λ n f. (let less : n < 2 ^ bits w = omega (arith, f, e) in pure_takes
    (ap (bytes_of (byte_len w)) (sym (of_z-to_z w n less)))
    (sfits_to_z (record { fits = less })))))
    (λ z rest fits _. (let less : cast_unsigned w z < 256 ^ byte_len w = omega (arith, (Fits-of_z fits).fits, e) in
    rw (binary_again (byte_len w) (cast_unsigned w z) rest less) (ap (λ (y : ℤ). Some (y, rest)) (to_z-of_z w z fits))))

chunk_takes : (k : ℕ) → Takes (λ t. length t ≡ k) (λ t. t) [] (chunk k)
unfolding chunk
chunk_takes k = record {
  takes = λ bytes t rest is e.
      let s = cond_some (nat_le k (length bytes)) (take k bytes, drop k bytes) (t, rest) e in
      let taken : take k bytes ≡ t = ap (λ z. z.0) s.1 in
      let left : drop k bytes ≡ rest = ap (λ z. z.1) s.1 in
      let there : k ≤ length bytes = leb-true k (length bytes) s.0 in (
        sym (take-append-drop k bytes) ∙ ap (λ (f : List ℕ). f ++ drop k bytes) taken ∙ ap (λ (r : List ℕ). t ++ r) left,
        ap length (sym taken) ∙ length-take-le k bytes there,
      );
}

chunk_again : (t rest : List ℕ) → chunk (length t) (t ++ rest) ≡ Some (t, rest)
unfolding chunk
chunk_again t rest =
    let within : nat_le (length t) (length (t ++ rest)) ≡ true = le-leb (length t) (length (t ++ rest)) (omega (arith, length-append t rest)) in
    rw (within, take_at t rest (length t) refl, drop_at t rest (length t) refl) refl

pub letters_exact : {n : Form ℕ} → IsExact n → ((rest : List ℕ) → n.ends rest ≡ true) → IsExact (letters n)
letters_exact {n} c free = exact
    (then_takes (takes c) (λ k fk. then_takes (chunk_takes k) (λ t e. check_takes t (λ u. (
      ap (λ (m : ℕ). n.text m ++ t) (sym e),
      (subst n.Fits (sym e) fk, u),
    )))))
    (λ t rest fits e. rw (append_assoc (n.text (length t)) t rest, c.again (length t) (t ++ rest) fits.0 (free (t ++ rest)), chunk_again t rest, fits.1) refl)

-- ---- one after the other

pub after_exact : {A : Type 0} {f : Form A} (w : List ℕ) → IsExact f → IsExact (after w f)
after_exact {A} {f} w x = exact
    (then_takes (expect_takes w) (λ _ _. last_takes (takes x) (λ a fits. (refl, fits))))
    (λ a rest fits e. rw (append_assoc w (f.text a) rest, expect_again w (f.text a ++ rest)) (x.again a rest fits e))

pub ended_exact : {A : Type 0} {f : Form A} (w : List ℕ) → IsExact f → ((rest : List ℕ) → f.ends (w ++ rest) ≡ true) → IsExact (ended f w)
ended_exact {A} {f} w x fol = exact
    (then_takes (takes x) (λ a fits. then_takes (expect_takes w) (λ _ _. pure_takes refl fits)))
    (λ a rest fits e. rw (append_assoc (f.text a) w rest, x.again a (w ++ rest) fits (fol rest), expect_again w rest) refl)

pub pair_exact : {A B : Type 0} {f : Form A} {g : Form B} (w : List ℕ) → IsExact f → ((rest : List ℕ) → f.ends (w ++ rest) ≡ true) → IsExact g → IsExact (pair f w g)
pair_exact {A} {B} {f} {g} w x fol y = exact
    (then_takes (takes x) (λ a fa. then_takes (expect_takes w) (λ _ _. then_takes (takes y) (λ b fb. pure_takes (append_assoc (f.text a) w (g.text b)) (fa, fb)))))
    (λ p rest fits e.
    rw (append_assoc (f.text p.0) (w ++ g.text p.1) rest, append_assoc w (g.text p.1) rest, x.again p.0 (w ++ (g.text p.1 ++ rest)) fits.0 (fol (g.text p.1 ++ rest)), expect_again w (g.text p.1 ++ rest), y.again p.1 rest fits.1 e) refl)

-- the texts of the second may stand behind those of the first
pub both_exact : {A B : Type 0} {f : Form A} {g : Form B} → IsExact f → ((b : B) (rest : List ℕ) → g.Fits b → f.ends (g.text b ++ rest) ≡ true) → IsExact g → IsExact (both f g)
both_exact {A} {B} {f} {g} x fol y = exact
    (then_takes (takes x) (λ a fa. then_takes (takes y) (λ b fb. pure_takes refl (fa, fb))))
    (λ p rest fits e. rw (append_assoc (f.text p.0) (g.text p.1) rest, x.again p.0 (g.text p.1 ++ rest) fits.0 (fol p.1 rest fits.1), y.again p.1 rest fits.1 e) refl)

not_parts : (a b : Bool) → (not a && b) ≡ true → (a ≡ false) × (b ≡ true)
not_parts true b e = absurd cc
not_parts false b e = (refl, e)

pub optional_exact : {A : Type 0} {f : Form A} (w : List ℕ) → IsExact f → IsExact (optional w f)
optional_exact {A} {f} w x = exact
    (choice_takes (begins w) (then_takes (expect_takes w) (λ _ _. then_takes (takes x) (λ a fits. pure_takes refl fits))) (pure_takes refl tt))
    (here) where
      here : (o : Option A) (rest : List ℕ) → FitsIfThere f o → (not (begins w rest) && f.ends rest) ≡ true → (optional w f).read (if_there f o w ++ rest) ≡ Some (o, rest)
      here (Some a) rest fits e = rw (append_assoc w (f.text a) rest, begins_again w (f.text a ++ rest), expect_again w (f.text a ++ rest), x.again a rest fits (not_parts (begins w rest) (f.ends rest) e).1) refl
      here None rest fits e = rw (not_parts (begins w rest) (f.ends rest) e).0 refl

-- ---- lists

pub counted_exact : {A : Type 0} {n : Form ℕ} {f : Form A} (w : List ℕ) → IsExact n → ((rest : List ℕ) → n.ends (w ++ rest) ≡ true) → IsExact f → ((rest : List ℕ) → f.ends rest ≡ true) → IsExact (counted n w f)
counted_exact {A} {n} {f} w c fol x free = exact
    (then_takes (takes c) (λ k fk. then_takes (expect_takes w) (λ _ _. last_takes (times_takes (takes x) k) (λ xs fits. (
      append_assoc (n.text k) w (flat_map f.text xs) ∙ ap (λ (m : ℕ). n.text m ++ (w ++ flat_map f.text xs)) (sym fits.1),
      (subst n.Fits (sym fits.1) fk, fits.0),
    )))))
    (λ xs rest fits e.
    rw (append_assoc (n.text (length xs)) (w ++ flat_map f.text xs) rest, append_assoc w (flat_map f.text xs) rest, c.again (length xs) (w ++ (flat_map f.text xs ++ rest)) fits.0 (fol (flat_map f.text xs ++ rest)), expect_again w (flat_map f.text xs ++ rest))
    (times_again f.read f.text f.Fits (λ a others fa. x.again a others fa (free others)) xs rest fits.1))

pub listed_exact : {A : Type 0} {n : Form ℕ} {f : Form A} → IsExact n → ((rest : List ℕ) → n.ends rest ≡ true) → IsExact f → ((rest : List ℕ) → f.ends rest ≡ true) → IsExact (listed n f)
listed_exact {A} {n} {f} c fol x free = exact
    (then_takes (takes c) (λ k fk. last_takes (times_takes (takes x) k) (λ xs fits. (ap (λ (m : ℕ). n.text m ++ flat_map f.text xs) (sym fits.1), (subst n.Fits (sym fits.1) fk, fits.0)))))
    (λ xs rest fits e.
    rw (append_assoc (n.text (length xs)) (flat_map f.text xs) rest, c.again (length xs) (flat_map f.text xs ++ rest) fits.0 (fol (flat_map f.text xs ++ rest)))
    (times_again f.read f.text f.Fits (λ a others fa. x.again a others fa (free others)) xs rest fits.1))

pub joined_exact : {A : Type 0} {f : Form A} (w : List ℕ) → 0 < length w → IsExact f → ((rest : List ℕ) → f.ends (w ++ rest) ≡ true) → IsExact (joined w f)
joined_exact {A} {f} w some x fol = exact
    (separated_takes (takes x) w)
    (λ xs rest fits e.
    separated_again w f.read f.text f.Fits (λ bytes. f.ends bytes ≡ true) x.again fol some xs rest fits.0 fits.1 (not_parts _ _ e).1 (not_parts _ _ e).0)

-- ---- under another name

pub mapped_exact : {A B : Type 0} {f : Form A} (make : A → B) (parts : B → A) → IsExact f → ((b : B) → make (parts b) ≡ b) → ((a : A) → parts (make a) ≡ a) → IsExact (mapped make parts f)
mapped_exact {A} {B} {f} make parts x made parted = exact
    (then_takes (takes x) (λ a fits. pure_takes (ap f.text (sym (parted a))) (subst f.Fits (sym (parted a)) fits)))
    (λ b rest fits e. rw (x.again (parts b) rest fits e) (ap (λ (c : B). Some (c, rest)) (made b)))

pub only_exact : {A : Type 0} {f : Form A} (test : A → Bool) → IsExact f → IsExact (only test f)
only_exact {A} {f} test x = exact
    (then_takes (takes x) (λ a fits. check_takes a (λ e. (refl, (fits, e)))))
    (λ a rest fits e. rw (x.again a rest fits.0 e, fits.1) refl)

pub partly_exact : {A B : Type 0} {f : Form A} (make : A → B) (parts : B → Option A) → IsExact f → ((b : B) → IfIs (parts b) (λ a. make a ≡ b)) → ((a : A) → f.Fits a → parts (make a) ≡ Some a) → IsExact (partly make parts f)
partly_exact {A} {B} {f} make parts x made parted =
    exact
    (then_takes (takes x) (λ a fits. pure_takes (ap (text_if f) (sym (parted a fits))) (subst (FitsIf f) (sym (parted a fits)) fits)))
    (λ b rest fits e. here b rest (parts b) (made b) fits e)
  where
    here : (b : B) (rest : List ℕ) (o : Option A) → IfIs o (λ a. make a ≡ b) → FitsIf f o → f.ends rest ≡ true → (partly make parts f).read (text_if f o ++ rest) ≡ Some (b, rest)
    here b rest (Some a) is fits e = rw (x.again a rest fits e) (ap (λ (c : B). Some (c, rest)) is)
    here b rest None is fits e = absurd fits

pub among_exact : {A B : Type 0} {f : Form A} (make : A → B) (parts : B → A) (Good : B → Type 0) → IsExact f → ((b : B) → Good b → make (parts b) ≡ b) → ((a : A) → f.Fits a → (parts (make a) ≡ a) × Good (make a)) → IsExact (among make parts Good f)
among_exact {A} {B} {f} make parts Good x made parted = exact
    (then_takes (takes x) (λ a fits. (let s = parted a fits in pure_takes (ap f.text (sym s.0)) (subst f.Fits (sym s.0) fits, s.1))))
    (λ b rest fits e. rw (x.again (parts b) rest fits.0 e) (ap (λ (c : B). Some (c, rest)) (made b fits.1)))

-- ---- by a test of the bytes

both_true : (a b : Bool) → (a && b) ≡ true → (a ≡ true) × (b ≡ true)
both_true true b e = (refl, e)
both_true false b e = absurd cc

pub either_exact : {A B : Type 0} {f : Form A} {g : Form B} (test : List ℕ → Bool) → IsExact f → IsExact g
    → ((a : A) (rest : List ℕ) → f.Fits a → test (f.text a ++ rest) ≡ true) → ((b : B) (rest : List ℕ) → g.Fits b → test (g.text b ++ rest) ≡ false) → IsExact (either test f g)
either_exact {A} {B} {f} {g} test x y seen other = exact
    (choice_takes test (then_takes (takes x) (λ a fits. pure_takes refl fits)) (then_takes (takes y) (λ b fits. pure_takes refl fits)))
    here where
      here : (o : A ⊎ B) (rest : List ℕ) → FitsEither f g o → (f.ends rest && g.ends rest) ≡ true → (either test f g).read (either_text f g o ++ rest) ≡ Some (o, rest)
      here (inl a) rest fits e = rw (seen a rest fits, x.again a rest fits (both_true (f.ends rest) (g.ends rest) e).0) refl
      here (inr b) rest fits e = rw (other b rest fits, y.again b rest fits (both_true (f.ends rest) (g.ends rest) e).1) refl

not_true : (t : Bool) → not t ≡ true → t ≡ false
not_true true e = absurd cc
not_true false e = refl

pub repeated_exact : {A : Type 0} {f : Form A} (test : List ℕ → Bool) → IsExact f → ((rest : List ℕ) → f.ends rest ≡ true)
    → ((a : A) (rest : List ℕ) → f.Fits a → test (f.text a ++ rest) ≡ true) → ((a : A) → f.Fits a → 0 < length (f.text a)) → IsExact (repeated test f)
repeated_exact {A} {f} test x free seen long = exact
    (many_takes (takes x) test)
    (λ xs rest fits e. many_again next xs rest fits tt (not_true (test rest) e)) where
      next : IsRead test f.read f.text f.Fits (λ _. Unit {0})
      next = record { again = λ a rest fits u. x.again a rest fits (free rest); sees = seen; follows = λ a rest fits. tt; long = long }
