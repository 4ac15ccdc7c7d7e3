use Rattle.std.proofs.Common.{◌≡◌, ◌<◌, ◌++◌, ◌∷◌, [], length, get_or, refl, sym, subst, arith}
use Rattle.std.specs.Prelude.{slice_set}
use Rattle.lv_schema.specs.declared.net.Net.{Net}
use Rattle.lv_stands.specs.Moves.{TableCommits}
use Rattle.lv_base.specs.Bases.{CanTakeNet, kept_of, table_in}
use Rattle.lv_base.proofs.Places.{AreTaken, inside, last_net, last_table, one_more}
use Rattle.lv_base.proofs.tables.commit_each.Goals as goal

pub loop-net-init : goal.loop-net-init
loop-net-init c = record {
  long = refl;
  short = omega (arith, c.requires.all);
  nets_stay = λ t lt. refl;
  tables_stay = λ t lt. refl;
  taken = λ t le lt. absurd (omega (arith, le, lt, c.requires.all));
  indexes = refl;
}

pub commit-requires-clause-takes : goal.commit-requires-clause-takes
commit-requires-clause-takes c =
    let m = c.args.last in
    let nets = c.args.nets in
    let old = c.args.tables.now in
    let tables = c.loop-net.tables in
    let rest = c.pop.new.self in
    let net = c.in-Some.net in
    let d = c.index-tables-len.result in
    let held = c.loop-net.invariant in
    let popped : c.loop-net.nets ≡ rest ++ net ∷ [] = c.in-Some.ensures in
    let at : c.len.result ≡ length rest = c.len.ensures in
    let there : length rest < length old = omega (arith, inside m nets old c.loop-net.nets rest net tables held popped, held.long) in
    subst (λ i. CanTakeNet m net (get_or tables i d)) (sym at)
    (subst (CanTakeNet m net) (sym (last_table m nets old c.loop-net.nets rest net tables held popped d))
    (subst (λ (n : Net). CanTakeNet m n (table_in old (length rest))) (sym (last_net m nets old c.loop-net.nets rest net tables held popped)) (c.requires.each (length rest) there)))

pub loop-net-preserved : goal.loop-net-preserved
loop-net-preserved c =
    let m = c.args.last in
    let nets = c.args.nets in
    let old = c.args.tables.now in
    let tables = c.loop-net.tables in
    let rest = c.pop.new.self in
    let net = c.in-Some.net in
    let d = c.index-tables-len.result in
    let new = c.commit.new.self in
    let held = c.loop-net.invariant in
    let popped : c.loop-net.nets ≡ rest ++ net ∷ [] = c.in-Some.ensures in
    let at : c.len.result ≡ length rest = c.len.ensures in
    subst (λ i. AreTaken m nets old rest (slice_set tables i new)) (sym at)
    (one_more m nets old c.loop-net.nets rest net tables held popped (get_or tables (length rest) d) new (last_table m nets old c.loop-net.nets rest net tables held popped d)
    (subst (λ i. TableCommits m net (kept_of (get_or tables i d)) (kept_of new)) at c.commit.ensures.commits)
    (subst (λ i. new.indexes ≡ (get_or tables i d).indexes) at c.commit.ensures.indexes))
