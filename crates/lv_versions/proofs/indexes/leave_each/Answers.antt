use Rattle.std.proofs.Common.{◌≡◌, ℕ, List, [], ◌+◌, ◌<◌, length, below_more, set, Some, sym, ap, subst, ◌∙◌, arith}
use Rattle.std.specs.Prelude.{slice_get}
use Rattle.std.specs.List.{remove}
use Rattle.std.proofs.lemmas.List.{get_or-set_other, get_or-set_same, get_or_default, length-set}
use Rattle.lv_schema.specs.Once.{Ascends}
use Rattle.lv_schema.specs.declared.version.RowVersion.{RowVersion}
use Rattle.lv_shelf.specs.Shelves.{other_at}
use Rattle.lv_shelf.specs.Chains.{before, chain_at, joined}
use Rattle.lv_versions.specs.Versions.{AreIndexedBut, IsIn, columns_at, index_cmp}
use Rattle.lv_versions.proofs.Chaining.{oldest_flat}
use Rattle.lv_versions.proofs.Indexing.{indexed_left}
use Rattle.lv_versions.proofs.Keeping.{all_got, same_item}
use Rattle.lv_versions.proofs.indexes.leave_each.Goals as goal

pub leave-requires : goal.leave-requires
leave-requires c =
    let ps = c.args.positions.now in
    let cs = c.args.indexes.now in
    let old = c.args.versions.now in
    let i = c.args.chain in
    let s = c.loop-j.versions in
    let j = c.loop-j.j in
    let lt : j < length cs = c.loop-j-test.true in
    let index = c.as_slice.ensures ∙ c.index-indexes-j.is ∙ get_or_default cs j c.index-indexes-j.result [] lt in
    let same = c.loop-j.invariant.same in
    let rest = c.loop-j.invariant.rest j (omega arith) in
    let first = c.requires.indexed j lt in
    record {
      chain = omega (arith, ap length same, c.requires.chain);
      order = omega (arith, lt, c.loop-j.invariant.count, c.requires.count);
      ascends = subst (λ k. Ascends (index_cmp k ps) (other_at s.others (j + 2))) (sym index) (subst (Ascends (index_cmp (columns_at cs j) ps)) (sym rest) first.ascends);
      there = λ w e.
          let e' = subst (λ (l : List (List RowVersion)). slice_get (chain_at l i) 0 ≡ Some w) same e in
          subst (IsIn w) (sym rest) (all_got (λ x. IsIn x (other_at old.others (j + 2))) (joined old.chains) (before old.chains i) w (oldest_flat old.chains i w c.requires.chain e') first.all);
    }

pub loop-j-preserved : goal.loop-j-preserved
loop-j-preserved c =
    let ps = c.args.positions.now in
    let cs = c.args.indexes.now in
    let old = c.args.versions.now in
    let i = c.args.chain in
    let s = c.loop-j.versions in
    let now = c.leave.new.versions in
    let j = c.loop-j.j in
    let lt : j < length cs = c.loop-j-test.true in
    let same = c.loop-j.invariant.same in
    let rest = c.loop-j.invariant.rest j (omega arith) in
    let v = c.oldest-oldest.result.now in
    let there = subst (λ (l : List (List RowVersion)). slice_get (chain_at l i) 0 ≡ Some v) (sym same) c.oldest-oldest.ensures in
    let gone = c.leave.ensures.left v there in
    let place = gone.0 in
    let less : List RowVersion = remove (other_at s.others (j + 2)) place in
    let left : now.others ≡ set s.others (j + 2) less = gone.1.1 in
    let other : (k : ℕ) → (k ≡ j + 2 → ⊥) → other_at now.others k ≡ other_at s.others k = λ k ne. ap (λ l. other_at l k) left ∙ get_or-set_other s.others (j + 2) k less [] ne in
    let chains = c.leave.ensures.same in
    let but : AreIndexedBut (columns_at cs j) ps v (other_at now.others (j + 2)) (joined now.chains) =
    subst (λ l. AreIndexedBut (columns_at cs j) ps v l (joined now.chains))
    (sym (ap (λ l. other_at l (j + 2)) left ∙ get_or-set_same s.others (j + 2) less [] (omega (arith, lt, c.loop-j.invariant.count, c.requires.count)) ∙ ap (λ l. remove l place) rest))
    (subst (λ (l : List (List RowVersion)). AreIndexedBut (columns_at cs j) ps v (remove (other_at old.others (j + 2)) place) (joined l)) (sym (chains ∙ same))
    (indexed_left (columns_at cs j) ps v (other_at old.others (j + 2)) (joined old.chains) place (subst (λ l. slice_get l place ≡ Some v) rest gone.1.0) (c.requires.indexed j lt))) in
    record {
      same = chains ∙ same;
      room = c.leave.ensures.room ∙ c.loop-j.invariant.room;
      count = ap length left ∙ length-set s.others (j + 2) less ∙ c.loop-j.invariant.count;
      ended = other 0 (λ e. absurd (omega arith)) ∙ c.loop-j.invariant.ended;
      current = other 1 (λ e. absurd (omega arith)) ∙ c.loop-j.invariant.current;
      done = λ w k e.
          let e' = subst (λ (l : List (List RowVersion)). slice_get (chain_at l i) 0 ≡ Some w) chains e in
          let is : v ≡ w = same_item (chain_at s.chains i) 0 v w there e' in
          below_more (λ m. AreIndexedBut (columns_at cs m) ps w (other_at now.others (m + 2)) (joined now.chains)) j
          (λ m below. subst (λ l. AreIndexedBut (columns_at cs m) ps w l (joined now.chains)) (sym (other (m + 2) (λ f. absurd (omega arith))))
          (subst (λ (l : List (List RowVersion)). AreIndexedBut (columns_at cs m) ps w (other_at s.others (m + 2)) (joined l)) (sym chains) (c.loop-j.invariant.done w m e' below)))
          (subst (λ x. AreIndexedBut (columns_at cs j) ps x (other_at now.others (j + 2)) (joined now.chains)) is but) k;
      rest = λ k le. other (k + 2) (λ e. absurd (omega arith)) ∙ c.loop-j.invariant.rest k (omega arith);
    }
