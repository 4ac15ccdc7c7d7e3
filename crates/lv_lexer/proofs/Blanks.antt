-- A run in a line, from a place on.
use Rattle.std.proofs.Common.{◌≡◌, ℕ, ◌+◌, ◌≤◌, ◌<◌, Bool, true, false, List, length, get_or, drop, cond, refl, ap, ◌∙◌}
use Rattle.std.specs.List.{prefix_len}
use Rattle.std.proofs.lemmas.List.{drop_more, drop_all}

module _ (p : ℕ → Bool) (s : List ℕ) (i : ℕ) where
  here : i < length s → prefix_len p (drop i s) ≡ cond (p (get_or s i 0)) (1 + prefix_len p (drop (i + 1) s)) 0
  here h = ap (prefix_len p) (drop_more s i 0 h)

  -- it goes on with this byte
  pub run_goes_on : i < length s → p (get_or s i 0) ≡ true → prefix_len p (drop i s) ≡ 1 + prefix_len p (drop (i + 1) s)
  run_goes_on h e = here h ∙ rw e refl

  -- it is over at this byte
  pub run_stops : i < length s → p (get_or s i 0) ≡ false → prefix_len p (drop i s) ≡ 0
  run_stops h e = here h ∙ rw e refl

  -- it is over at the end
  pub run_ends : length s ≤ i → prefix_len p (drop i s) ≡ 0
  run_ends h = ap (prefix_len p) (drop_all i s h)
