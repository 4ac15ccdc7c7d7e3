-- Names while a run goes on.
use Rattle.std.proofs.Common.{◌≡◌, ℕ, zero, suc, List, [], ◌∷◌, ◌++◌, map, length, sym, ap, ◌∙◌, subst, arith}
use Rattle.std.specs.Prelude.{Option, Some, codes, slice_get}
use Rattle.std.proofs.lemmas.List.{append-nil, length-append, length-map, map-append}
use Rattle.lv_core.specs.Run.{CoreView, Gave, IsRun, first_state, rules_of, state_of}
use Rattle.lv_core.proofs.Binds.{reads_binds}
use Rattle.lv_lines.specs.declared.names.Names.{Names}
use Rattle.lv_lines.specs.Entries.{HasNames, HaveNames, numbers_in_use}
use Rattle.lv_plain.specs.declared.entry.Entry.{Entry}
use Rattle.lv_plain.specs.declared.event.Event.{Event}
use Rattle.lv_plain.specs.declared.program.Program.{Program}
use Rattle.lv_plain.specs.declared.program.Script.{Script}
use Rattle.lv_plain.specs.Fronts.{IsFront}
use Rattle.lv_plain.specs.Machine.{State}
use Rattle.lv_plain.specs.Named.{AreNamed, Counts, in_use}
use Rattle.lv_plain.specs.Programs.{session_count}
use Rattle.lv_plain.specs.SessionNames.{session_names}
use Rattle.lv_plain.proofs.Fronts.{given_grows}
use Rattle.lv_plain.proofs.NamedEntries.{entries_named}
use Rattle.lv_schema.specs.declared.table.TableDef.{TableDef}
use Rattle.lv_schema.specs.declared.view.ViewDef.{ViewDef}
use Rattle.lv_schema.specs.World.{Visible}
use Rattle.lv_runner.specs.Following.{WereNames, names_now}
use Rattle.lv_runner.specs.Output.{names_of}
use Rattle.lv_runner.proofs.ShownFaults.{names_no_table}

names_in_use : (p : Program) (s : Visible) → in_use p s ≡ numbers_in_use (names_of p s)
names_in_use p s =
    let sessions : session_count p ≡ length (names_of p s).sessions = omega (arith, length-map p.sessions (λ (script : Script). script.name)) in
    let tables : length s.tables ≡ length (names_of p s).tables = sym (length-map s.tables (λ t. t.name)) in
    let views : length s.views ≡ length (names_of p s).views = sym (length-map s.views (λ v. v.name)) in
    λ i. record { sessions = sessions i; tables = tables i; views = views i }

-- ---- lists of which one is a front of the other
front_same : {A : Type 0} (xs ys : List A) → IsFront xs ys → length xs ≡ length ys → xs ≡ ys
front_same {A} xs ys front same = none front.0 front.1
  where
    none : (more : List A) → ys ≡ xs ++ more → xs ≡ ys
    none [] is = sym (append-nil xs) ∙ sym is
    none (m ∷ more) is = absurd (omega (arith, same, ap length is, length-append xs (m ∷ more)))

pub front_map : {A B : Type 0} (f : A → B) (xs ys : List A) → IsFront xs ys → IsFront (map f xs) (map f ys)
front_map f xs ys front = (map f front.0, ap (map f) front.1 ∙ map-append f xs front.0)

module _ {D : Type 0} (seen : D → Option (List ℕ)) (may_leave : D → List ℕ → Type 0) (moment : D → ℕ) (left_since : D → ℕ → List ℕ → Type 0) (failures : D → ℕ) where
  -- each entry of a run has names
  pub run_has_names : (c : CoreView D) → IsRun seen may_leave moment left_since failures c → HaveNames (names_now c) c.entries
  run_has_names c run =
      subst (λ (n : Counts). AreNamed n c.entries) (names_in_use c.program (state_of c).world.visible)
      (entries_named (rules_of c.settings c.program) reads_binds names_no_table run.within (first_state c) c.entries run.begins.store_stands.steady run.legal)

  -- the names of the sessions, and of an engine's tables and views, are those of the world that it stands for
  pub names_are : (c : CoreView D) (sessions tables views : List (List ℕ)) → IsRun seen may_leave moment left_since failures c → sessions ≡ codes "setup" ∷ session_names c.program
      → tables ≡ map (λ t. t.name) c.engine.store.tables → views ≡ map (λ v. v.name) c.engine.store.views
      → record { sessions = sessions; tables = tables; views = views } ≡ names_now c
  names_are c sessions tables views run s t v =
      let known_tables = t ∙ ap (map (λ d. d.name)) run.stands.store_stands.tables_are in
      let known_views = v ∙ ap (map (λ d. d.name)) run.stands.store_stands.views_are in
      λ i. record { sessions = s i; tables = known_tables i; views = known_views i }

  -- names that there were are those that there are, where there are as many
  module _ (c : CoreView D) (names : Names) (run : IsRun seen may_leave moment left_since failures c) (were : WereNames names c) where
    pub sessions_stay : names.sessions ≡ codes "setup" ∷ session_names c.program
    sessions_stay = ap (λ (n : Names). n.sessions) were.names_are

    pub tables_stay : length names.tables ≡ length c.engine.store.tables → names.tables ≡ map (λ t. t.name) c.engine.store.tables
    tables_stay same =
        let now : c.engine.store.tables ≡ (state_of c).world.visible.tables = run.stands.store_stands.tables_are in
        let count : length were.then_.tables ≡ length (state_of c).world.visible.tables =
        sym (length-map were.then_.tables (λ t. t.name)) ∙ (sym (ap (λ (n : Names). length n.tables) were.names_are) ∙ (same ∙ ap (λ (l : List TableDef). length l) now)) in
        ap (λ (n : Names). n.tables) were.names_are ∙ (ap (map (λ t. t.name)) (front_same were.then_.tables (state_of c).world.visible.tables were.tables count) ∙ sym (ap (map (λ t. t.name)) now))

    pub views_stay : length names.views ≡ length c.engine.store.views → names.views ≡ map (λ v. v.name) c.engine.store.views
    views_stay same =
        let now : c.engine.store.views ≡ (state_of c).world.visible.views = run.stands.store_stands.views_are in
        let count : length were.then_.views ≡ length (state_of c).world.visible.views =
        sym (length-map were.then_.views (λ v. v.name)) ∙ (sym (ap (λ (n : Names). length n.views) were.names_are) ∙ (same ∙ ap (λ (l : List ViewDef). length l) now)) in
        ap (λ (n : Names). n.views) were.names_are ∙ (ap (map (λ v. v.name)) (front_same were.then_.views (state_of c).world.visible.views were.views count) ∙ sym (ap (map (λ v. v.name)) now))

  -- so they are where those of tables and views are copied anew, unless there are as many
  pub renewed : (c : CoreView D) (names : Names) (tables views : List (List ℕ)) → IsRun seen may_leave moment left_since failures c → WereNames names c
      → ((length names.tables ≡ length c.engine.store.tables → names.tables ≡ map (λ t. t.name) c.engine.store.tables) → tables ≡ map (λ t. t.name) c.engine.store.tables)
      → ((length names.views ≡ length c.engine.store.views → names.views ≡ map (λ v. v.name) c.engine.store.views) → views ≡ map (λ v. v.name) c.engine.store.views)
      → record { sessions = names.sessions; tables = tables; views = views } ≡ names_now c
  renewed c names tables views run were t v =
      names_are c names.sessions tables views run (sessions_stay c names run were) (t (tables_stay c names run were)) (v (views_stay c names run were))

  -- the names before an event are names that there were after it
  pub were_names : (event : Event) (old new : CoreView D) (names : Names) → Gave seen may_leave moment left_since failures event old new → names ≡ names_now old → WereNames names new
  were_names event old new names gave is =
      let grown = given_grows (rules_of old.settings old.program) gave.fails event (state_of old) in
      record {
        then_ = (state_of old).world.visible;
        names_are = is ∙ ap (λ p. names_of p (state_of old).world.visible) (sym gave.program);
        tables = subst (λ (s : State). IsFront (state_of old).world.visible.tables s.world.visible.tables) (sym gave.state) grown.0;
        views = subst (λ (s : State). IsFront (state_of old).world.visible.views s.world.visible.views) (sym gave.state) grown.1;
      }

-- ---- the last of entries
pub last_named : (names : Names) (es : List Entry) (e : Entry) → HaveNames names (es ++ e ∷ []) → HasNames names e
last_named names [] e h = h.0
last_named names (x ∷ es) e h = last_named names es e h.1

some_same : (e x : Entry) → Some e ≡ Some x → x ≡ e
some_same e x is = cc

pub named_at : (names : Names) (es : List Entry) (k : ℕ) (e : Entry) → HaveNames names es → Some e ≡ slice_get es k → HasNames names e
named_at names [] k e h is = absurd cc
named_at names (x ∷ es) zero e h is = subst (HasNames names) (some_same e x is) h.0
named_at names (x ∷ es) (suc k) e h is = named_at names es k e h.1 is
