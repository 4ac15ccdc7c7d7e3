-- A list, and how many more elements go in without memory.
use Rattle.std.specs.Prelude.{ℕ, List, refl}
use Rattle.std.specs.Coded.{Coded, code_by, coded×, coded_ℕ, coded_list}

pub record Roomy (T : Type 0) : Type 0 where
  pub list : List T
  pub spare : ℕ

abbrev pub roomy_code : {T : Type 0} → Coded T → Coded (Roomy T)
roomy_code {T} c =
    code_by (List T × ℕ) (coded× (coded_list c) coded_ℕ) (λ r. (r.list, r.spare)) (λ p. record { list = p.0; spare = p.1 }) (λ _. refl)
