use Rattle.std.proofs.Common.{◌≤◌, ℕ, subst, ◌≡◌}
use Rattle.lv_shelf.specs.Chains.{joined}
use Rattle.lv_versions.specs.Versions.{Kept, state_at}
use Rattle.lv_versions.proofs.Finding.{newest_rows}
use Rattle.lv_versions.proofs.versions.Versions.newest.Goals as goal

pub returns : goal.returns
returns c =
    let s = c.self.inside in
    subst (λ (v : Kept). (n : ℕ) → v.last ≤ n → state_at n v.versions ≡ state_at v.last v.versions) c.self.view_is (λ n le. newest_rows n s.last (joined s.versions.chains) le c.self.invariant.are.each)
