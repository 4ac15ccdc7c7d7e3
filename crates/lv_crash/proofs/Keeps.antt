-- Each event keeps what the record that it writes makes of what a stop leaves, and live transactions stay numbered.
use Rattle.std.proofs.Common.{◌≡◌, ℕ, ◌<◌, Bool, true, false, cond, List, [], Option, Some, None, refl, subst}
use Rattle.std.specs.Prelude.{◌==◌, if◌then◌else◌, map, length, slice_index, Result, Ok, Err}
use Rattle.std.proofs.lemmas.List.{length-map}
use Rattle.std.proofs.lemmas.List.Quantifiers.{position-Some}
use Rattle.std.specs.Str.{bytes_eq}
use Rattle.lv_schema.specs.declared.bound.Bound.{Bound}
use Rattle.lv_schema.specs.declared.bound.Bound.TheVariants as bound
use Rattle.lv_schema.specs.declared.fault.Fault.{Fault}
use Rattle.lv_schema.specs.declared.rec.Rec.{Rec}
use Rattle.lv_schema.specs.declared.view.ViewDef.{ViewDef}
use Rattle.lv_schema.specs.Bound.{IsBound}
use Rattle.lv_schema.specs.Cases.{Outcome, good, failed, full, alone, changed}
use Rattle.lv_schema.specs.Catalog.{view_named}
use Rattle.lv_schema.specs.Steady.{IsSteady}
use Rattle.lv_schema.specs.Tasks.{pending_tasks}
use Rattle.lv_schema.specs.UpkeepCases.{Marking, mark_record, marked_by, marking, outcome_of, with_record, with_steps}
use Rattle.lv_schema.specs.World.{Visible, World, point}
use Rattle.lv_replay.specs.Numbers.{AreNumbered}
use Rattle.lv_replay.specs.Runs.{Keeps, mark_written}
use Rattle.lv_replay.proofs.Recorded.{table_keeps, view_keeps, commit_keeps, changed_keeps, alone_keeps}
use Rattle.lv_replay.proofs.Maintained.{fetched_keeps, installed_keeps, marked_keeps}
use Rattle.lv_replay.proofs.Numbered.{began_numbered, rolled_back_numbered, changed_numbered, committed_numbered, alone_numbered, table_numbered, view_numbered}
use Rattle.lv_plain.specs.declared.entry.Reply.TheVariants.{Alone, Changed}
use Rattle.lv_plain.specs.declared.event.Event.{Event}
use Rattle.lv_plain.specs.declared.event.Event.TheVariants.{Turn as turn_of, Fetch as fetch_of, Install as install_of, Release as release_of, Mark as mark_of, Clean as clean_up}
use Rattle.lv_plain.specs.Limits.{IsWithinLimits}
use Rattle.lv_plain.specs.Machine.{State, give, mark_by, steps_of}
use Rattle.lv_plain.specs.Programs.{next_line}
use Rattle.lv_plain.specs.Rules.{Rules}
use Rattle.lv_plain.specs.Turns.{IsBinding, bound_line, bound_turn, is_open, read_turn, turn_by}
use Rattle.lv_plain.specs.WrittenRecords.{answered_record, marked_record, written_by}
use Rattle.lv_plain.proofs.SoundTurns.{each_line}

-- ---- a statement
module _ (outcome : Rec → Outcome) (tasks : List (ℕ × ℕ)) (session : ℕ) (w : World) (steady : IsSteady w) (numbered : AreNumbered w.visible) where
  bound_keeps : (b : Bound) → IsBound w.visible.tables w.visible.views b → let t = bound_turn outcome tasks session b w.visible in Keeps t.written w (record { visible = t.next; upkeep = with_record t.written w.upkeep })
  bound_keeps (bound.Table def) is = table_keeps outcome def w is
  bound_keeps (bound.View def) is = view_keeps outcome def w is
  bound_keeps (bound.Change change) is = by (is_open session w.visible)
    where
      by : (b : Bool) → let t = if b then turn_by Changed (changed session change w.visible) else turn_by (λ done. Alone done.0 done.1) (alone outcome session change w.visible) in
          Keeps t.written w (record { visible = t.next; upkeep = with_record t.written w.upkeep })
      by true = changed_keeps session change w
      by false = alone_keeps outcome session change w steady.sound numbered is
  bound_keeps (bound.Query query) is = refl
  bound_keeps (bound.Begin) is = refl
  bound_keeps (bound.Commit) is = commit_keeps outcome session w steady.sound numbered
  bound_keeps (bound.Rollback) is = refl
  bound_keeps (bound.Tasks) is = refl

  bound_numbered : (b : Bound) → AreNumbered (bound_turn outcome tasks session b w.visible).next
  bound_numbered (bound.Table def) = table_numbered outcome def w.visible numbered
  bound_numbered (bound.View def) = view_numbered outcome def w.visible numbered
  bound_numbered (bound.Change change) = by (is_open session w.visible)
    where
      by : (b : Bool) → AreNumbered (if b then turn_by Changed (changed session change w.visible) else turn_by (λ done. Alone done.0 done.1) (alone outcome session change w.visible)).next
      by true = changed_numbered session change w.visible numbered
      by false = alone_numbered outcome session change w.visible numbered
  bound_numbered (bound.Query query) = numbered
  bound_numbered (bound.Begin) = began_numbered session w.visible numbered
  bound_numbered (bound.Commit) = committed_numbered outcome session w.visible numbered
  bound_numbered (bound.Rollback) = rolled_back_numbered session w.visible numbered
  bound_numbered (bound.Tasks) = numbered

  pub turn_numbered : (line : Result Bound Fault) → AreNumbered (read_turn outcome tasks session line w.visible).next
  turn_numbered (Ok b) = bound_numbered b
  turn_numbered (Err fault) = numbered

  pub turn_keeps : (line : Result Bound Fault) → ((b : Bound) → line ≡ Ok b → IsBound w.visible.tables w.visible.views b) → let t = read_turn outcome tasks session line w.visible in Keeps t.written w (record { visible = t.next; upkeep = with_record t.written w.upkeep })
  turn_keeps (Ok b) is = bound_keeps b (is b refl)
  turn_keeps (Err fault) is = refl

-- ---- a mark of a view in use
pub named_below : (s : Visible) (name : List ℕ) (v : ℕ) → view_named s.views name ≡ Some v → v < length s.views
named_below s name v e =
    let found = position-Some (bytes_eq name) (map (λ (d : ViewDef). d.name) s.views) v [] e in
    subst (λ (n : ℕ). v < n) (length-map s.views (λ (d : ViewDef). d.name)) found.0

module _ (rules : Rules) (fails : Bool) where
  abbrev out_if : World → Rec → Outcome
  out_if w = outcome_of rules.settings fails w.upkeep

  -- the record that the entry of a mark shows is the one that the mark wrote
  abbrev IsAnswered : ℕ → World → Marking → Type 0
  IsAnswered v w m = mark_written m ≡ answered_record rules fails m.answer v w.upkeep

  pub answered_is : (v : ℕ) (w : World) → mark_written (marking (out_if w) v w.upkeep) ≡ answered_record rules fails (marking (out_if w) v w.upkeep).answer v w.upkeep
  answered_is v w = by (slice_index w.upkeep.marks v == point w.upkeep v)
    where
      written : (out : Outcome) → IsAnswered v w (marked_by out v w.upkeep)
      written good = refl
      written failed = refl
      written (full need limit) = refl

      by : (b : Bool) → IsAnswered v w (cond {A = Marking} b (record { answer = Ok None; next = w.upkeep; attempted = None }) (marked_by (out_if w (mark_record v w.upkeep)) v w.upkeep))
      by true = refl
      by false = written (out_if w (mark_record v w.upkeep))

  mark_keeps : (name : List ℕ) (s : State) (o : Option ℕ) → view_named s.world.visible.views name ≡ o → IsSteady s.world → Keeps (marked_record rules fails o s) s.world (mark_by rules fails o name s).next.world
  mark_keeps name s None is steady = refl
  mark_keeps name s (Some v) is steady =
      subst (λ (r : Option Rec). Keeps r s.world (mark_by rules fails (Some v) name s).next.world) (answered_is v s.world) (marked_keeps s.world (out_if s.world) v steady (named_below s.world.visible name v is))

  -- ---- any event
  -- the line of a session's turn is bound
  pub line_bound : (session : ℕ) (s : State) → IsBinding rules.reading → IsWithinLimits rules.program → IsSteady s.world
      → (b : Bound) → bound_line rules.reading session (next_line rules.program s.places session) s.world.visible ≡ Ok b → IsBound s.world.visible.tables s.world.visible.views b
  line_bound session s binds limits steady b e =
      binds s.world.visible.tables s.world.visible.views (session == 0) (is_open session s.world.visible) (next_line rules.program s.places session) b steady.sound.schema (each_line rules.program s.places session limits) e

  turn_given_keeps : (session : ℕ) (s : State) (line : Result Bound Fault) → IsSteady s.world → AreNumbered s.world.visible → ((b : Bound) → line ≡ Ok b → IsBound s.world.visible.tables s.world.visible.views b)
      → let t = read_turn (out_if s.world) (pending_tasks s.world) session line s.world.visible in
      Keeps t.written s.world (record { visible = t.next; upkeep = with_record t.written (with_steps (steps_of rules.settings session line s.world) s.world.upkeep) })
  turn_given_keeps session s (Err fault) steady numbered is = refl
  turn_given_keeps session s (Ok (bound.Query query)) steady numbered is = refl
  turn_given_keeps session s (Ok (bound.Table def)) steady numbered is = turn_keeps (out_if s.world) (pending_tasks s.world) session s.world steady numbered (Ok (bound.Table def)) is
  turn_given_keeps session s (Ok (bound.View def)) steady numbered is = turn_keeps (out_if s.world) (pending_tasks s.world) session s.world steady numbered (Ok (bound.View def)) is
  turn_given_keeps session s (Ok (bound.Change change)) steady numbered is = turn_keeps (out_if s.world) (pending_tasks s.world) session s.world steady numbered (Ok (bound.Change change)) is
  turn_given_keeps session s (Ok (bound.Begin)) steady numbered is = refl
  turn_given_keeps session s (Ok (bound.Commit)) steady numbered is = turn_keeps (out_if s.world) (pending_tasks s.world) session s.world steady numbered (Ok bound.Commit) is
  turn_given_keeps session s (Ok (bound.Rollback)) steady numbered is = refl
  turn_given_keeps session s (Ok (bound.Tasks)) steady numbered is = refl

  pub given_keeps : (event : Event) (s : State) → IsBinding rules.reading → IsWithinLimits rules.program → IsSteady s.world → AreNumbered s.world.visible → Keeps (written_by rules fails event s) s.world (give rules fails event s).next.world
  given_keeps (turn_of session) s binds limits steady numbered =
      turn_given_keeps session s (bound_line rules.reading session (next_line rules.program s.places session) s.world.visible) steady numbered (line_bound session s binds limits steady)
  given_keeps (fetch_of worker) s binds limits steady numbered = fetched_keeps s.world rules.settings worker
  given_keeps (install_of worker) s binds limits steady numbered = installed_keeps s.world worker
  given_keeps (release_of worker) s binds limits steady numbered = refl
  given_keeps (mark_of name) s binds limits steady numbered = mark_keeps name s (view_named s.world.visible.views name) refl steady
  given_keeps clean_up s binds limits steady numbered = refl

  pub given_numbered : (event : Event) (s : State) → IsSteady s.world → AreNumbered s.world.visible → AreNumbered (give rules fails event s).next.world.visible
  given_numbered (turn_of session) s steady numbered =
      turn_numbered (out_if s.world) (pending_tasks s.world) session s.world steady numbered (bound_line rules.reading session (next_line rules.program s.places session) s.world.visible)
  given_numbered (fetch_of worker) s steady numbered = numbered
  given_numbered (install_of worker) s steady numbered = numbered
  given_numbered (release_of worker) s steady numbered = numbered
  given_numbered (mark_of name) s steady numbered = by (view_named s.world.visible.views name)
    where
      by : (o : Option ℕ) → AreNumbered (mark_by rules fails o name s).next.world.visible
      by None = numbered
      by (Some v) = numbered
  given_numbered clean_up s steady numbered = numbered
