-- The versions that are looked at for a commit: those among them that are there at it are all that are.
use Rattle.std.proofs.Common.{◌≡◌, ℕ, ◌≤◌, Bool, true, false, List, Option, Some, None, refl, sym, ap, ◌∙◌, subst, arith}
use Rattle.std.specs.Prelude.{◌&&◌, nat_le, nat_lt, is_none, if◌then◌else◌}
use Rattle.std.specs.List.{AllByRecursion}
use Rattle.std.proofs.lemmas.Bool.Decides.{nat_tests}
use Rattle.lv_schema.specs.Versions.{ends_after}
use Rattle.lv_schema.proofs.Apart.{all_filter, all_weaker, apart_filter}
use Rattle.lv_shelf.specs.Cuts.{Apart}
use Rattle.lv_viewrows.specs.declared.version.GroupVersion.{GroupVersion}
use Rattle.lv_viewrows.specs.Kept.{ViewKept, groups_at, is_there}
use Rattle.lv_viewrows.specs.Standing.{AreVersions, EndsAtMost, IsBy, Precedes, has_no_end, not_ended, read_at}
use Rattle.lv_viewrows.proofs.Installing.{dropped_groups}

-- what ended by a commit is not there at it
gone : (at n : ℕ) → at ≤ n → (v : GroupVersion) → IsBy at v → has_no_end v ≡ false → is_there n v ≡ false
gone at n le v by h = ends v.until refl
  where
    no_end : (a : Bool) → (a && false) ≡ false
    no_end true = refl
    no_end false = refl

    ends : (u : Option ℕ) → v.until ≡ u → (nat_le v.from n && ends_after n v.until) ≡ false
    ends None e = let none : is_none v.until ≡ true = ap is_none e in cc
    ends (Some k) e =
        let most : k ≤ at = subst (EndsAtMost at) e by.1 in
        let over : nat_lt n k ≡ false = grind (arith, nat_tests) in
        ap (λ u. nat_le v.from n && ends_after n u) e ∙ ap (λ b. nat_le v.from n && b) over ∙ no_end (nat_le v.from n)

-- of a view k that an answer sees as kept
module _ {k kept : ViewKept} (is : k ≡ kept) (held : AreVersions k.def k.at k.versions) (n : ℕ) (found : List GroupVersion) (looked : found ≡ read_at kept.at n kept.versions) where
  read : found ≡ read_at k.at n k.versions
  read = looked ∙ ap (λ (w : ViewKept). read_at w.at n w.versions) (sym is)

  pub groups_read : groups_at n found ≡ groups_at n k.versions
  groups_read = ap (groups_at n) read ∙ by (nat_le k.at n) refl
    where
      by : (b : Bool) → nat_le k.at n ≡ b → groups_at n (if b then not_ended k.versions else k.versions) ≡ groups_at n k.versions
      by true e = let le : k.at ≤ n = grind (arith, nat_tests) in dropped_groups n has_no_end k.versions (all_weaker (IsBy k.at) (λ v. has_no_end v ≡ false → is_there n v ≡ false) (gone k.at n le) k.versions held.each)
      by false e = refl

  pub order_read : Apart Precedes found
  order_read = subst (Apart Precedes) (sym read) (by (nat_le k.at n))
    where
      by : (b : Bool) → Apart Precedes (if b then not_ended k.versions else k.versions)
      by true = apart_filter Precedes has_no_end k.versions held.order
      by false = held.order

  pub all_read : (P : GroupVersion → Type 0) → AllByRecursion P k.versions → AllByRecursion P found
  all_read P a = subst (AllByRecursion P) (sym read) (by (nat_le k.at n))
    where
      by : (b : Bool) → AllByRecursion P (if b then not_ended k.versions else k.versions)
      by true = all_filter P has_no_end k.versions a
      by false = a
