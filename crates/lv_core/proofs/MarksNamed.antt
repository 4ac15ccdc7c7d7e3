-- A mark of a name, by what the engine answers to a mark of the view that it stands for.
use Rattle.std.proofs.Common.{◌≡◌, ℕ, ◌<◌, ◌≤◌, Bool, false, List, [], ◌∷◌, ◌++◌, map, length, Option, Some, None, refl, sym, ap, ◌∙◌, subst, arith}
use Rattle.std.specs.Str.{bytes_eq}
use Rattle.std.proofs.lemmas.List.{length-map}
use Rattle.std.proofs.lemmas.List.Quantifiers.{position-Some}
use Rattle.lv_schema.specs.declared.rec.Rec.{Rec}
use Rattle.lv_schema.specs.declared.view.ViewDef.{ViewDef}
use Rattle.lv_schema.specs.Catalog.{view_named}
use Rattle.lv_journal.specs.declared.writer.Writer.{Writer}
use Rattle.lv_plain.specs.declared.entry.Entry.{Entry}
use Rattle.lv_plain.specs.declared.entry.Entry.TheVariants as entry
use Rattle.lv_plain.specs.declared.event.Event.TheVariants.{Mark as mark_of}
use Rattle.lv_plain.specs.declared.program.Program.{Program}
use Rattle.lv_plain.specs.Legal.{MayHappen}
use Rattle.lv_plain.specs.Machine.{mark_by}
use Rattle.lv_plain.specs.Programs.{Places}
use Rattle.lv_plain.specs.WrittenRecords.{marked_record}
use Rattle.lv_engine.specs.Kept.{EngineView, Stands}
use Rattle.lv_core.specs.Answering.{GivesMark, marking_if}
use Rattle.lv_core.specs.Run.{CoreView, Gave, IsRun, state_of, view_of}
use Rattle.lv_core.proofs.Happened.{happened, its_rules}
use Rattle.lv_core.proofs.MarkAnswers.{mark_follows}
use Rattle.lv_crash.proofs.Keeps.{answered_is}
use Rattle.lv_core.proofs.RecordsGo.{Goes, goes, goes_same, mark_asks}

pub in_use : (views vs : List ViewDef) (name : List ℕ) (v : ℕ) → vs ≡ views → Some v ≡ view_named vs name → v < length views
in_use views vs name v same e =
    subst (λ (l : List ViewDef). v < length l) same (subst (λ n. v < n) (length-map vs (λ (w : ViewDef). w.name)) (position-Some (bytes_eq name) (map (λ (w : ViewDef). w.name) vs) v [] (sym e)).0)

no_less : (a b : ℕ) → b ≡ a → a ≤ b
no_less a b e = omega (arith, e)

module _ {D : Type 0} (seen : D → Option (List ℕ)) (may_leave : D → List ℕ → Type 0) (moment : D → ℕ) (left_since : D → ℕ → List ℕ → Type 0) (failures : D → ℕ) where
  -- what comes of a mark of a name, by the view that it stands for
  pub record Marks (c : CoreView D) (name : List ℕ) (fails : Bool) (new : EngineView D) (e : Entry) (o : Option ℕ) : Type 0 where
    pub entry : e ≡ (mark_by (its_rules c) fails o name (state_of c)).entry
    pub stands : Stands (mark_by (its_rules c) fails o name (state_of c)).next.world new
    pub goes : Goes seen may_leave moment left_since (marked_record (its_rules c) false o (state_of c)) (marked_record (its_rules c) fails o (state_of c)) c.engine.journal new.journal
    pub places : (state_of c).places ≡ (mark_by (its_rules c) fails o name (state_of c)).next.places

  module _ (policy : ℕ) (p : Program) (old opened : EngineView D) (places : Places) (es later more : List Entry) (c : CoreView D) (is : view_of policy p old opened places es ≡ c)
      (held : IsRun seen may_leave moment left_since failures c) (name : List ℕ) (may : MayHappen c.program (state_of c) (mark_of name)) (same : later ≡ es) where
    engine_is : old ≡ c.engine
    engine_is = ap (λ (v : CoreView D). v.engine) is

    named : (vs : List ViewDef) (o : Option ℕ) → vs ≡ old.store.views → o ≡ view_named vs name → o ≡ view_named (state_of c).world.visible.views name
    named vs o kept found = found ∙ ap (λ (l : List ViewDef). view_named l name) (kept ∙ ap (λ (e : EngineView D). e.store.views) engine_is ∙ held.stands.store_stands.views_are)

    pub marked_gave : (number : ℕ) (vs : List ViewDef) (new : EngineView D) (e : Entry) → vs ≡ old.store.views → Some number ≡ view_named vs name → more ≡ later ++ e ∷ [] → new.store.settings ≡ old.store.settings
        → GivesMark seen may_leave moment left_since failures (its_rules c) number (state_of c).world old new e → Gave seen may_leave moment left_since failures (mark_of name) c (view_of policy p new opened places more)
    marked_gave number vs new e kept found added settings gives =
        let h : GivesMark seen may_leave moment left_since failures (its_rules c) number (state_of c).world c.engine new e = subst (λ (x : EngineView D). GivesMark seen may_leave moment left_since failures (its_rules c) number (state_of c).world x new e) engine_is gives in
        let of_number : Marks c name h.fails new e (Some number) = record {
          entry = h.entry;
          stands = h.stands;
          goes = subst (λ (asked : Option Rec). Goes seen may_leave moment left_since asked (marked_record (its_rules c) h.fails (Some number) (state_of c)) c.engine.journal new.journal)
              (mark_asks c.settings (state_of c).world.upkeep h.fails number ∙ answered_is (its_rules c) false number (state_of c).world)
              (goes seen may_leave moment left_since (marking_if seen may_leave moment left_since failures (its_rules c) number (state_of c).world h.fails).attempted (marked_record (its_rules c) h.fails (Some number) (state_of c)) c.engine.journal new.journal
              (mark_follows (its_rules c) h.fails number (state_of c).world.upkeep) h.journal.logs);
          places = refl;
        } in
        let marks : Marks c name h.fails new e (view_named (state_of c).world.visible.views name) = subst (λ (o : Option ℕ). Marks c name h.fails new e o) (named vs (Some number) kept found) of_number in
        happened seen may_leave moment left_since failures policy p old new opened places places es later more c (mark_of name) h.fails e is held may same added (ap (λ (v : CoreView D). v.places) is ∙ held.places_are ∙ marks.places) marks.entry
        (record { stands = marks.stands; settings = settings ∙ ap (λ (e : EngineView D). e.store.settings) engine_is; goes = marks.goes; later = h.journal.later; cause = h.cause })

    pub unknown_gave : (vs : List ViewDef) → vs ≡ old.store.views → None ≡ view_named vs name → more ≡ later ++ entry.MarkUnknown name ∷ [] → Gave seen may_leave moment left_since failures (mark_of name) c (view_of policy p old opened places more)
    unknown_gave vs kept found added =
        let journal_is : old.journal ≡ c.engine.journal = ap (λ (e : EngineView D). e.journal) engine_is in
        let of_none : Marks c name false old (entry.MarkUnknown name) None = record {
          entry = refl;
          stands = subst (λ (e : EngineView D). Stands (state_of c).world e) (sym engine_is) held.stands;
          goes = goes_same seen may_leave moment left_since c.engine.journal old.journal journal_is;
          places = refl;
        } in
        let marks : Marks c name false old (entry.MarkUnknown name) (view_named (state_of c).world.visible.views name) = subst (λ (o : Option ℕ). Marks c name false old (entry.MarkUnknown name) o) (named vs None kept found) of_none in
        happened seen may_leave moment left_since failures policy p old old opened places places es later more c (mark_of name) false (entry.MarkUnknown name) is held may same added (ap (λ (v : CoreView D). v.places) is ∙ held.places_are ∙ marks.places) marks.entry
        (record {
          stands = marks.stands;
          settings = ap (λ (e : EngineView D). e.store.settings) engine_is;
          goes = marks.goes;
          later = no_less (failures c.engine.journal.disk) (failures old.journal.disk) (ap (λ (j : Writer D). failures j.disk) journal_is);
          cause = λ fails. absurd cc;
        })
