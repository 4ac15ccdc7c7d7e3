-- What a core holds may go to another thread: the toolchain finds it of most types, and these are built from them.
use denote.Param.Send.{IsSend, AllSend, enum_send, sendable, recorded_send, struct_send, view_send}
use denote.Struct.Declared.{shape}
use Rattle.lv_schema.specs.contracts.schema.Schema.TheInside as inside
use Rattle.lv_schema.specs.contracts.schema.Schema as schema
use Rattle.lv_schema.specs.contracts.view.ViewDef as view
use Rattle.lv_schema.specs.contracts.cond.Cond as cond
use Rattle.lv_schema.proofs.table.TableDef.TheSendSync as table
use Rattle.lv_schema.proofs.cond.Cond.TheLaws.TheKnot as knot
use Rattle.lv_schema.proofs.cond.Op.TheSendSync as op
use Rattle.lv_schema.proofs.cond.Col.TheSendSync as col
use Rattle.lv_schema.proofs.cond.Operand.TheSendSync as operand
use Rattle.lv_values.proofs.items.Items.TheSendSync as items
use Rattle.lv_values.proofs.boxed.Boxed.TheSendSync as boxed
use Rattle.lv_values.proofs.text.Text.TheSendSync as text
use Rattle.lv_schema.proofs.view.Item.TheSendSync as item
use Rattle.indexmap.proofs.map.IndexMap.TheSendSync as map
use denote.Plain.{UInt}
use mir.Syntax.{w32}
use Rattle.std.proofs.hash.BuildHasherDefault.TheSendSync as builds
use Rattle.std.specs.contracts.hash.BuildHasherDefault as build
use Rattle.std.specs.contracts.hash.FoldHasher as fold
use denote.RattleType.{RattleType}
use Rattle.lv_viewrows.specs.contracts.viewrows.ViewRows as rows
use Rattle.lv_viewrows.specs.contracts.viewrows.ViewRows.TheInside as rows_inside
use Rattle.lv_viewrows.proofs.versions.Versions.TheSendSync as versions
use Rattle.lv_store.specs.contracts.store.Store as store
use Rattle.lv_store.proofs.settings.Settings.TheSendSync as settings
use Rattle.lv_base.proofs.base.Base.TheSendSync as base
use Rattle.lv_upkeep.proofs.upkeep.Upkeep.TheSendSync as upkeep
use Rattle.lv_values.proofs.room.Room.TheSendSync as room
use Rattle.lv_txn.proofs.txns.Txns.TheSendSync as txns
use Rattle.lv_journal.proofs.journal.Journal.TheSendSync as journal
use Rattle.lv_engine.specs.contracts.engine.Engine as engine
use Rattle.lv_engine.specs.contracts.engine.Engine.TheInside as engine_inside
use Rattle.lv_outside.specs.declared.disk.Disk.{Ghosts}
use denote.Enum.Declared.{shape as variants}
use Rattle.lv_plain.proofs.program.Program.TheSendSync as program
use Rattle.lv_plain.proofs.entry.Entry.TheSendSync as entry
use Rattle.lv_schema.proofs.part.Part.TheSendSync as part
use Rattle.lv_schema.proofs.signed.SignedRow.TheSendSync as signed
use Rattle.lv_maint.specs.contracts.input.JobInput as input
use Rattle.lv_maint.specs.contracts.input.JobInput.TheInside as input_inside
use Rattle.lv_maint.specs.contracts.outcome.JobResult as outcome
use Rattle.lv_maint.specs.contracts.outcome.JobResult.TheInside as outcome_inside
use Rattle.lv_core.proofs.opening.Opened.TheSendSync as opened
use Rattle.lv_core.specs.contracts.opening.Opening as opening
use Rattle.lv_core.specs.contracts.running.Run as run
use Rattle.lv_core.specs.contracts.running.Run.TheInside as run_inside
use Rattle.lv_core.specs.contracts.jobs.Jobs as jobs
use Rattle.lv_core.specs.contracts.jobs.Results as results
use Rattle.lv_core.specs.contracts.jobs.Assignment as assignment
use Rattle.std.specs.contracts.option.Option as maybe
use Rattle.lv_values.specs.contracts.items.Items as list
use denote.Bor.{Bor}
use denote.Param.Members.{Mut}
use denote.Param.Object as object
use denote.Param.Sent.{Sends}
use denote.Struct.Field.{usize-field}
use Rattle.std.proofs.Common.{List}
use Rattle.lv_schema.specs.declared.pending.Pending.{Pending}
use Rattle.lv_picker.specs.contracts.picker.Picker as picker
use Rattle.lv_core.specs.contracts.machine.Core as core
use Rattle.std.proofs.Crossing as heap
use Rattle.std.proofs.alloc.Global.TheSendSync as handle
use Rattle.std.proofs.option.Option.TheSendSync as option

pub cond_field : IsSend (cond.the_field).row
cond_field = knot.send-Cond op.the_field_send operand.the_field_send items.the_send boxed.the_send

pub views : AllSend (shape view.the_type).fields
views = (search sendable, (text.the_send, (search sendable, (items.the_send (UInt w32) (search sendable), (cond_field, (items.the_send _ item.the_send, (search sendable, (items.the_send _ col.the_send, tt))))))))

pub view_row : IsSend view.the_row
view_row = recorded_send (view.the_field).row _ _ (view.the_type).to_one (struct_send (shape view.the_type) views)

hasher : IsSend (build.the_row fold.the_row)
hasher = search (sendable, builds.the_send)

pub schemas : AllSend (shape inside.the_type).fields
schemas = (map.the_send _ _ _ _ fold.the_row _ _ _ _ _ text.the_send table.the_send hasher handle.the_send heap.frees, (map.the_send _ _ _ _ fold.the_row _ _ _ _ _ text.the_send view_row hasher handle.the_send heap.frees, (option.the_field_send _ text.the_send, tt)))

pub schema_row : IsSend schema.the_row
schema_row = view_send _ _ _ _ _ (recorded_send (inside.the_field).row _ _ (inside.the_type).to_one (struct_send (shape inside.the_type) schemas))

-- ---- a store
pub rows_of_view : AllSend (shape rows_inside.the_type).fields
rows_of_view = (struct_send (shape view.the_type) views, (search sendable, (versions.the_send, tt)))

pub rows_row : IsSend rows.the_row
rows_row = view_send _ _ _ _ _ (recorded_send (rows_inside.the_field).row _ _ (rows_inside.the_type).to_one (struct_send (shape rows_inside.the_type) rows_of_view))

pub stores : AllSend (shape store.the_type).fields
stores = (settings.the_field_send, (schema_row, (base.the_send, (upkeep.the_send, (room.the_send _ rows_row, (txns.the_send, tt))))))

pub store_field : IsSend (store.the_field).row
store_field = struct_send (shape store.the_type) stores

-- ---- an engine
module _ (D : RattleType) (g : Ghosts D.Denot) (send : IsSend D) where
  pub engines : AllSend (shape (engine_inside.the_type D g)).fields
  engines = (store_field, (journal.the_send D g send, tt))

  pub engine_row : IsSend (engine.the_row D g)
  engine_row = view_send _ _ _ _ _ (recorded_send (engine_inside.the_field D g).row _ _ (engine_inside.the_type D g).to_one (struct_send (shape (engine_inside.the_type D g)) engines))

  pub openings : AllSend (shape (opening.the_type D g)).fields
  openings = (search sendable, (opened.the_field_send, tt))

  pub runs : AllSend (shape (run_inside.the_type D g)).fields
  runs = (engine_row, (struct_send (shape (opening.the_type D g)) openings, (program.the_field_send, (search sendable, (items.the_send (UInt w32) (search sendable), (room.the_send _ entry.the_send, tt))))))

  pub run_row : IsSend (run.the_row D g)
  run_row = view_send _ _ _ _ _ (recorded_send (run_inside.the_field D g).row _ _ (run_inside.the_type D g).to_one (struct_send (shape (run_inside.the_type D g)) runs))

-- ---- work
pub inputs : AllSend (shape input_inside.the_type).fields
inputs = (struct_send (shape view.the_type) views, (search sendable, (search sendable, (items.the_send _ part.the_send, tt))))

pub input_row : IsSend input.the_row
input_row = view_send _ _ _ _ _ (recorded_send (input_inside.the_field).row _ _ (input_inside.the_type).to_one (struct_send (shape input_inside.the_type) inputs))

pub slots_row : IsSend (list.the_row (maybe.the_row input.the_row))
slots_row = items.the_send _ (option.the_send _ input_row)

pub outcomes : AllSend (shape outcome_inside.the_type).fields
outcomes = (input_row, (items.the_send _ signed.the_send, tt))

pub outcome_row : IsSend outcome.the_row
outcome_row = view_send _ _ _ _ _ (recorded_send (outcome_inside.the_field).row _ _ (outcome_inside.the_type).to_one (struct_send (shape outcome_inside.the_type) outcomes))

pub jobs_field : IsSend (jobs.the_field).row
jobs_field = enum_send (variants jobs.the_type) ((items.the_send _ input_row, tt), ((input_row, tt), tt))

pub work_row : IsSend assignment.the_row
work_row = recorded_send (assignment.the_field).row _ _ (assignment.the_type).to_one (struct_send (shape assignment.the_type) (handle.the_field_send, (jobs_field, tt)))

pub results_row : IsSend results.the_row
results_row = recorded_send (results.the_field).row _ _ (results.the_type).to_one (enum_send (variants results.the_type) ((items.the_send _ outcome_row, tt), ((outcome_row, tt), tt)))

-- ---- a core, whose policy may go to another thread
module _ (D T : RattleType) (g : Ghosts D.Denot) (d : object.Ghosts T.Denot) (m : Mut ((x : T.Denot) × (d.1.0 x).0.Denot) (Bor (List Pending) × Unit {0}) (usize-field).Value) where
  policies : Sends (object.table_of T.Denot d) → IsSend T → AllSend (shape (picker.the_type T d m)).fields
  policies table policy = (search sendable, (heap.dyn_box_send T d table policy, tt))

  pub core_row : IsSend D → Sends (object.table_of T.Denot d) → IsSend T → IsSend (core.the_row D T g d m)
  core_row send table policy =
      recorded_send (core.the_field D T g d m).row _ _ (core.the_type D T g d m).to_one
      (struct_send (shape (core.the_type D T g d m)) (run_row D g send, (struct_send (shape (picker.the_type T d m)) (policies table policy), (slots_row, (handle.the_field_send, tt)))))
