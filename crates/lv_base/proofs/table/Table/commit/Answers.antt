use Rattle.std.proofs.Common.{◌≡◌, ◌+◌, length, suc, sym, ap, ◌∙◌, subst, arith}
use Rattle.std.proofs.lemmas.List.{nil_from_length}
use Rattle.lv_schema.specs.declared.net.Net.{Net}
use Rattle.lv_stands.specs.Moves.{TableCommits, no_net}
use Rattle.lv_versions.specs.Versions.{Kept}
use Rattle.lv_base.specs.Bases.{CanTakeNet, kept_of}
use Rattle.lv_base.proofs.NetChanges.{applies, gone_fewer, rows_follow, table_commits, unchanged}
use Rattle.lv_base.proofs.table.Table.commit.Goals as goal

pub commit-requires-clause-applies : goal.commit-requires-clause-applies
commit-requires-clause-applies c =
    let old = c.self.inside.versions in
    let takes : CanTakeNet c.args.last c.args.net old = subst (CanTakeNet c.args.last c.args.net) (sym c.self.view_is) c.requires.takes in
    applies c.args.last c.args.net old takes c.newest.ensures

pub overflow_sub-self : goal.overflow_sub-self
overflow_sub-self c =
    let old = c.self.inside.versions in
    let takes : CanTakeNet c.args.last c.args.net old = subst (CanTakeNet c.args.last c.args.net) (sym c.self.view_is) c.requires.takes in
    omega (arith, gone_fewer c.args.last c.args.net old takes c.newest.ensures, c.self.invariant.counted, ap length c.as_slice.ensures)

pub invariant_of-self : goal.invariant_of-self
invariant_of-self c =
    let old = c.self.inside.versions in
    let new = c.commit.new.self in
    let takes : CanTakeNet c.args.last c.args.net old = subst (CanTakeNet c.args.last c.args.net) (sym c.self.view_is) c.requires.takes in
    record {
      counted = rows_follow c.args.last c.args.net old takes c.newest.ensures c.self.inside.rows (length c.as_slice.result.now) (length c.as_slice-2.result.now) new.last new c.self.invariant.counted
          (ap length c.as_slice.ensures) (ap length c.as_slice-2.ensures) (c.commit.ensures.state new.last (omega (arith, c.commit.ensures.last)));
      begins = c.commit.ensures.before 0 (omega arith) ∙ c.self.invariant.begins;
    }

pub returns-clause-commits : goal.returns-clause-commits
returns-clause-commits c =
    let old = c.self.inside.versions in
    let new = c.commit.new.self in
    let takes : CanTakeNet c.args.last c.args.net old = subst (CanTakeNet c.args.last c.args.net) (sym c.self.view_is) c.requires.takes in
    let next : c.args.last + 1 ≡ suc c.args.last = omega arith in
    subst (λ (k : Kept). TableCommits c.args.last c.args.net (kept_of k) (kept_of new)) c.self.view_is
    (table_commits c.args.last c.args.net old takes c.newest.ensures (c.args.last + 1) new next c.commit.ensures.def c.commit.ensures.last c.commit.ensures.floor c.commit.ensures.state c.commit.ensures.before c.commit.ensures.versions)

pub returns-then-len-eq0-2-clause-commits : goal.returns-then-len-eq0-2-clause-commits
returns-then-len-eq0-2-clause-commits c =
    let old = c.self.inside.versions in
    let net : Net = c.args.net in
    let takes : CanTakeNet c.args.last net old = subst (CanTakeNet c.args.last net) (sym c.self.view_is) c.requires.takes in
    let minus = nil_from_length net.minus (sym c.len.ensures ∙ c.if-len-eq0.true) in
    let plus = nil_from_length net.plus (sym c.len-then-len-eq0.ensures ∙ c.if-len-eq0-2.true) in
    let none : net ≡ no_net = λ i. record { minus = minus i; plus = plus i } in
    subst (λ (k : Kept). TableCommits c.args.last net (kept_of k) (kept_of k)) c.self.view_is (unchanged c.args.last net old takes c.newest.ensures none)
