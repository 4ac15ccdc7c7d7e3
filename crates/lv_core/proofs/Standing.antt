-- What the transactions of an engine tell of the world that it stands for, and the store that is the same again.
use Rattle.std.proofs.Common.{◌≡◌, ℕ, zero, suc, Bool, true, false, List, [], ◌∷◌, Option, Some, None, refl, sym, ap, ◌∙◌, subst, arith}
use Rattle.std.specs.Prelude.{◌==◌, is_some, option_map, slice_index_or, unwrap_or, Ok}
use Rattle.std.proofs.lemmas.Bool.Decides.{nat_tests}
use Rattle.lv_schema.specs.declared.bound.Bound.{Bound}
use Rattle.lv_schema.specs.declared.bound.Bound.TheVariants as bound
use Rattle.lv_schema.specs.declared.open.Open.{Open}
use Rattle.lv_schema.specs.declared.table.TableDef.{TableDef}
use Rattle.lv_schema.specs.declared.view.ViewDef.{ViewDef}
use Rattle.lv_schema.specs.Bound.{IsBound}
use Rattle.lv_schema.specs.World.{Visible, World, opened, transaction}
use Rattle.lv_bind.specs.Allowed.{IsAllowed}
use Rattle.lv_bind.specs.Reads.{reads}
use Rattle.lv_bind.proofs.AllowedLines.{reads_allowed}
use Rattle.lv_plain.proofs.Outside.{set_none, set_twice}
use Rattle.lv_plain.specs.Turns.{bound_line, is_open}
use Rattle.lv_txn.specs.Kept.{TransactionKept, begun, live_kept, transaction_at, transaction_of}
use Rattle.lv_stands.specs.Stands.{SessionStands}
use Rattle.lv_stands.proofs.Lists.{zip_get}
use Rattle.lv_store.specs.Kept.{StoreKept}
use Rattle.lv_engine.specs.Kept.{EngineView, Stands}
use Rattle.lv_core.specs.Answering.{is_live, IsNext, IsReady, with_transaction}

-- ---- a session
session_stands : {D : Type 0} (w : World) (e : EngineView D) (session : ℕ) → Stands w e → SessionStands w.visible (slice_index_or w.visible.sessions session None) (transaction_at e.store.sessions session)
session_stands w e session h = zip_get (SessionStands w.visible) w.visible.sessions e.store.sessions session None None tt h.store_stands.sessions_stand

both_none : (s : Visible) (o : Option Open) (t : Option TransactionKept) → SessionStands s o t → t ≡ None → o ≡ None
both_none s None t h e = refl
both_none s (Some o) None h e = absurd h
both_none s (Some o) (Some t) h e = absurd cc

none_both : (s : Visible) (o : Option Open) (t : Option TransactionKept) → SessionStands s o t → o ≡ None → t ≡ None
none_both s o None h e = refl
none_both s None (Some t) h e = absurd h
none_both s (Some o) (Some t) h e = absurd cc

both_some : (s : Visible) (o : Option Open) (t : Option TransactionKept) → SessionStands s o t → is_some o ≡ is_some t
both_some s None None h = refl
both_some s None (Some t) h = absurd h
both_some s (Some o) None h = absurd h
both_some s (Some o) (Some t) h = refl

same_changes : (s : Visible) (o : Option Open) (t : Option TransactionKept) → SessionStands s o t → (unwrap_or t (begun 0)).changes ≡ (unwrap_or o (opened s)).changes
same_changes s None None h = refl
same_changes s None (Some t) h = absurd h
same_changes s (Some o) None h = absurd h
same_changes s (Some o) (Some t) h = h.changes_are

module _ {D : Type 0} (w : World) (e : EngineView D) (session : ℕ) (stands : Stands w e) where
  abbrev slot : Option Open
  slot = slice_index_or w.visible.sessions session None

  pub free_there : transaction_at e.store.sessions session ≡ None → slice_index_or w.visible.sessions session None ≡ None
  free_there is = both_none w.visible slot (transaction_at e.store.sessions session) (session_stands w e session stands) is

  pub free_here : slice_index_or w.visible.sessions session None ≡ None → transaction_at e.store.sessions session ≡ None
  free_here is = none_both w.visible slot (transaction_at e.store.sessions session) (session_stands w e session stands) is

  pub open_is : is_open session w.visible ≡ is_live e session
  open_is = both_some w.visible slot (transaction_at e.store.sessions session) (session_stands w e session stands)

  pub changes_are : (transaction_of e.store.sessions session).changes ≡ (transaction session w.visible).changes
  changes_are = same_changes w.visible slot (transaction_at e.store.sessions session) (session_stands w e session stands)

-- ---- tests
pub none_is : {A : Type 0} (o : Option A) → is_some o ≡ false → o ≡ None
none_is None e = refl
none_is (Some a) e = absurd cc

pub nobody_live : (sessions : List (Option TransactionKept)) → ((k : ℕ) → transaction_at sessions k ≡ None) → live_kept sessions ≡ []
nobody_live [] h = refl
nobody_live (None ∷ sessions) h = nobody_live sessions (λ k. h (suc k))
nobody_live (Some t ∷ sessions) h = absurd (let here = h 0 in cc)

-- what is told of a session is whether it is live
some_map : {A B : Type 0} (f : A → B) (o : Option A) → is_some (option_map f o) ≡ is_some o
some_map f None = refl
some_map f (Some a) = refl

pub live_told : {D : Type 0} (e : EngineView D) (session : ℕ) (o : Option ℕ) (b : Bool) → o ≡ option_map (λ (t : TransactionKept). t.snapshot) (transaction_at e.store.sessions session) → b ≡ is_some o → b ≡ is_live e session
live_told e session o b is told = told ∙ ap (λ (o : Option ℕ). is_some o) is ∙ some_map (λ (t : TransactionKept). t.snapshot) (transaction_at e.store.sessions session)

-- a line is bound against the tables and views that the engine keeps
pub line_told : {D : Type 0} (w : World) (e : EngineView D) (session : ℕ) (line : List ℕ) (tables : List TableDef) (views : List ViewDef) (live : Bool) → Stands w e → tables ≡ e.store.tables → views ≡ e.store.views → live ≡ is_live e session
    → bound_line reads session line w.visible ≡ reads tables views (session == 0) live line
line_told w e session line tables views live h tables_are views_are live_is =
    λ i. reads (sym (tables_are ∙ h.store_stands.tables_are) i) (sym (views_are ∙ h.store_stands.views_are) i) (session == 0) ((open_is w e session h ∙ sym live_is) i) line

is_zero : (n : ℕ) → (n == 0) ≡ true → n ≡ 0
is_zero n e = grind (arith, nat_tests)

pub ready_told : {D : Type 0} (e : EngineView D) (session : ℕ) (line : List ℕ) (b : Bound) (tables : List TableDef) (views : List ViewDef) (live : Bool) → IsNext e session → tables ≡ e.store.tables → views ≡ e.store.views → live ≡ is_live e session
    → IsBound tables views b → reads tables views (session == 0) live line ≡ Ok b → IsReady e session b
ready_told e session line b tables views live next tables_are views_are live_is is found = record {
  next = next;
  bound = subst (λ (ts : List TableDef). IsBound ts e.store.views b) tables_are (subst (λ (vs : List ViewDef). IsBound tables vs b) views_are is);
  allowed = subst (λ (l : Bool). IsAllowed (session == 0) l b) live_is (reads_allowed tables views (session == 0) live line b found);
}

-- where a view is made nobody is live
pub ready_nobody : {D : Type 0} (e : EngineView D) (session : ℕ) (b : Bound) (def : ViewDef) → b ≡ bound.View def → IsReady e session b → live_kept e.store.sessions ≡ []
ready_nobody e session b def is ready = nobody_live e.store.sessions nobody
  where
    allowed : IsAllowed (session == 0) (is_live e session) (bound.View def)
    allowed = subst (λ (x : Bound). IsAllowed (session == 0) (is_live e session) x) is ready.allowed

    own : transaction_at e.store.sessions 0 ≡ None
    own = subst (λ n. transaction_at e.store.sessions n ≡ None) (is_zero session allowed.0) (none_is (transaction_at e.store.sessions session) allowed.1)

    nobody : (k : ℕ) → transaction_at e.store.sessions k ≡ None
    nobody zero = own
    nobody (suc k) = ready.next.first allowed.0 (suc k) (omega arith)

-- ---- the same store again
pub then_set : {D : Type 0} (a b c : EngineView D) (session : ℕ) (s t : Option TransactionKept) → b ≡ with_transaction a session s → c ≡ with_transaction b session t → c ≡ with_transaction a session t
then_set {D} a b c session s t first second =
    second
    ∙ ap (λ (e : EngineView D). with_transaction e session t) first
    ∙ ap (λ (xs : List (Option TransactionKept)). record a { store = record a.store { sessions = xs } }) (set_twice a.store.sessions session s t)

pub ended : {D : Type 0} (a b : EngineView D) (session : ℕ) (t : Option TransactionKept) → b ≡ with_transaction a session t → t ≡ None → b ≡ with_transaction a session None
ended a b session t is none = is ∙ ap (λ (s : Option TransactionKept). with_transaction a session s) none

pub same_again : {D : Type 0} (a b : EngineView D) (session : ℕ) → transaction_at a.store.sessions session ≡ None → b ≡ with_transaction a session None → b ≡ a
same_again a b session free is = is ∙ ap (λ (xs : List (Option TransactionKept)). record a { store = record a.store { sessions = xs } }) (set_none a.store.sessions session free)

-- what lies in memory alone has changed
pub same_journal : {D : Type 0} (a b : EngineView D) (s : StoreKept) → b ≡ record a { store = s } → b.journal ≡ a.journal
same_journal a b s is = λ i. (is i).journal

pub ended_too : {D : Type 0} (a b : EngineView D) (session : ℕ) → a ≡ b → with_transaction a session None ≡ with_transaction b session None
ended_too {D} a b session same = ap (λ (e : EngineView D). with_transaction e session None) same

-- what the engine is run with stays
pub same_combine : {D : Type 0} (a b : EngineView D) (s : List (Option TransactionKept)) → b ≡ record a { store = record a.store { sessions = s } } → a.store.settings.combine ≡ b.store.settings.combine
same_combine a b s is = λ i. (sym is i).store.settings.combine
