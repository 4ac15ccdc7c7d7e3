-- What is read for a worker's step, where nothing is read.
use Rattle.std.proofs.Common.{ℕ, refl, arith}
use Rattle.lv_schema.specs.UpkeepCases.{Fetched, busy, idle, fetched, Installed, empty, installed, moved}
use Rattle.lv_schema.specs.World.{Visible}
use Rattle.lv_store.specs.Maintaining.{TakesGiven, TakesInstalled}

pub nothing_given : (s : Visible) (a : Fetched) (n : ℕ) → TakesGiven s a n n
nothing_given s busy n = refl
nothing_given s idle n = refl
nothing_given s (fetched f) n = λ k cost. omega arith

pub nothing_installed : (s : Visible) (a : Installed) (n : ℕ) → TakesInstalled s a n n
nothing_installed s empty n = refl
nothing_installed s (installed f) n = λ k cost. omega arith
nothing_installed s (moved f point) n = refl
