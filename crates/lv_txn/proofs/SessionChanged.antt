-- A session's transaction is taken out, changed and put back.
use Rattle.std.proofs.Common.{◌≡◌, ℕ, zero, suc, ◌<◌, List, [], ◌∷◌, length, get_or, set, Option, Some, None, sym, ap, subst, ◌∙◌, arith}
use Rattle.std.specs.Prelude.{unwrap_or, OnErr, OnOk, Result, Ok, Err}
use Rattle.std.proofs.lemmas.List.{get_or-set_same, get_or_default, set-get_or, set-set}
use Rattle.lv_schema.specs.declared.action.Action.{Action}
use Rattle.lv_schema.specs.declared.table.TableDef.{TableDef}
use Rattle.lv_txn.specs.Kept.{TransactionKept, begun, transaction_of, IsLive, Changes, SessionChanges}

pub on_ok : {T E : Type 0} (r : Result T E) (P Q : Type 0) → (P → Q) → OnOk r P → OnOk r Q
on_ok (Ok a) P Q f p = f p
on_ok (Err e) P Q f p = tt

pub on_err : {T E : Type 0} (r : Result T E) (P Q : Type 0) → (P → Q) → OnErr r P → OnErr r Q
on_err (Ok a) P Q f p = tt
on_err (Err e) P Q f p = f p

live_within : (sessions : List (Option TransactionKept)) (s : ℕ) → IsLive sessions s → s < length sessions
live_within [] s live = cc
live_within (o ∷ sessions) zero live = omega arith
live_within (o ∷ sessions) (suc s) live = let lt = live_within sessions s live in omega arith

-- taken is what stood there, emptied the sessions without it, and new those with the transaction put back
module _ (sessions emptied new : List (Option TransactionKept)) (s : ℕ) (taken : Option TransactionKept) (t changed : TransactionKept) (live : IsLive sessions s)
    (there : taken ≡ get_or sessions s taken) (is : taken ≡ Some t) (out : emptied ≡ set sessions s None) (back : new ≡ set emptied s (Some changed)) where
  new_is : new ≡ set sessions s (Some changed)
  new_is = back ∙ ap (λ (l : List (Option TransactionKept)). set l s (Some changed)) out ∙ set-set sessions s None (Some changed)

  was : get_or sessions s None ≡ Some t
  was = get_or_default sessions s None taken (live_within sessions s live) ∙ sym there ∙ is

  pub old_of : transaction_of sessions s ≡ t
  old_of = ap (λ (o : Option TransactionKept). unwrap_or o (begun 0)) was

  pub new_of : transaction_of new s ≡ changed
  new_of = ap (λ (l : List (Option TransactionKept)). unwrap_or (get_or l s None) (begun 0)) new_is
      ∙ ap (λ (o : Option TransactionKept). unwrap_or o (begun 0)) (get_or-set_same sessions s (Some changed) None (live_within sessions s live))

  pub session_changes : (tables : List TableDef) (actions : List Action) → Changes tables actions t changed → SessionChanges tables actions s sessions new
  session_changes tables actions c = record {
    is = new_is ∙ ap (λ (x : TransactionKept). set sessions s (Some x)) (sym new_of);
    changes = subst (λ (x : TransactionKept). Changes tables actions x (transaction_of new s)) (sym old_of) (subst (Changes tables actions t) (sym new_of) c);
  }

  pub nothing_changes : changed ≡ t → new ≡ sessions
  nothing_changes same = new_is ∙ ap (λ (o : Option TransactionKept). set sessions s o) (ap Some same ∙ sym was) ∙ set-get_or sessions s None
