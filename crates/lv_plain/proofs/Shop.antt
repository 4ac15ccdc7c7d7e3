-- A shop for worked examples: items with prices, sales of items, sales counted by item, and sales with their items.
use Rattle.std.proofs.Common.{replicate, ℕ, true, false, List, [], ◌∷◌, Ok, Err, Result, pos, slice_index, slice_get, Option, Some, None}
use Rattle.std.specs.Prelude.{codes}
use Rattle.lv_values.specs.declared.value.Value.{Value}
use Rattle.lv_values.specs.declared.value.Value.TheVariants.{Num}
use Rattle.lv_schema.specs.declared.bound.Bound.{Bound}
use Rattle.lv_schema.specs.declared.bound.Bound.TheVariants as bound
use Rattle.lv_schema.specs.declared.change.Change.TheVariants as change
use Rattle.lv_schema.specs.declared.cond.Col.{Col}
use Rattle.lv_schema.specs.declared.cond.Cond.{Cond}
use Rattle.lv_schema.specs.declared.cond.Cond.TheVariants as cond
use Rattle.lv_schema.specs.declared.cond.Op.TheVariants as op
use Rattle.lv_schema.specs.declared.cond.Operand.TheVariants.{Column}
use Rattle.lv_schema.specs.declared.fault.Fault.{Fault}
use Rattle.lv_schema.specs.declared.fault.Fault.TheVariants.{Syntax}
use Rattle.lv_schema.specs.declared.table.Kind.TheVariants.{Int}
use Rattle.lv_schema.specs.declared.table.TableDef.{TableDef}
use Rattle.lv_schema.specs.declared.view.Item.TheVariants.{Plain, Sum, Count}
use Rattle.lv_schema.specs.declared.view.ViewDef.{ViewDef}
use Rattle.lv_schema.specs.World.{World, Settings}
use Rattle.lv_plain.specs.declared.entry.Entry.{Entry}
use Rattle.lv_plain.specs.declared.program.OrderItem.{OrderItem}
use Rattle.lv_plain.specs.declared.program.Program.{Program}
use Rattle.lv_plain.specs.declared.event.Event.{Event}
use Rattle.lv_plain.specs.Events.{schedule}
use Rattle.lv_plain.specs.Machine.{State, give}
use Rattle.lv_plain.specs.Programs.{first_places}
use Rattle.lv_plain.specs.Turns.{Reading}

abbrev pub n : ℕ → Value
n k = Num (pos k)

abbrev pub at : ℕ → ℕ → Col
at alias column = record { alias = alias; column = column }

-- item (id, price, primary key (id)) and sale (no, item, qty, primary key (no))
abbrev pub item : TableDef
item = record { no = 0; name = codes "item"; columns = record { name = codes "id"; kind = Int } ∷ record { name = codes "price"; kind = Int } ∷ []; key = 0 ∷ [] }

abbrev pub sale : TableDef
sale = record { no = 1; name = codes "sale"; columns = record { name = codes "no"; kind = Int } ∷ record { name = codes "item"; kind = Int } ∷ record { name = codes "qty"; kind = Int } ∷ []; key = 0 ∷ [] }

abbrev pub same_item : Cond
same_item = cond.Cmp op.Eq (Column (at 0 1)) (Column (at 1 0))

-- select s.item, sum(s.qty) as total, count(*) as n from sale s, item i where s.item = i.id group by s.item
abbrev pub per_item : ViewDef
per_item = record {
  no = 0;
  name = codes "per_item";
  created = 0;
  tables = 1 ∷ 0 ∷ [];
  cond = same_item;
  items = Plain (at 0 1) (codes "item") ∷ Sum (at 0 2) (codes "total") ∷ Count (codes "n") ∷ [];
  grouped = true;
  groups = at 0 1 ∷ [];
}

-- select s.no, i.id, i.price, s.qty from sale s, item i where s.item = i.id
abbrev pub lines : ViewDef
lines = record {
  no = 1;
  name = codes "lines";
  created = 0;
  tables = 1 ∷ 0 ∷ [];
  cond = same_item;
  items = Plain (at 0 0) (codes "no") ∷ Plain (at 1 0) (codes "id") ∷ Plain (at 1 1) (codes "price") ∷ Plain (at 0 2) (codes "qty") ∷ [];
  grouped = false;
  groups = [];
}

-- a world with these tables and views, in which nothing is committed
abbrev pub shop : World
shop = record {
  visible = record { tables = item ∷ sale ∷ []; views = per_item ∷ lines ∷ []; snaps = ([] ∷ [] ∷ []) ∷ []; commits = []; sessions = replicate 17 None };
  upkeep = record { points = 0 ∷ 0 ∷ []; marks = 0 ∷ 0 ∷ []; claims = replicate 9 None; pruned = 0; journal = 9 };
}

abbrev pub add_item : ℕ → ℕ → Bound
add_item id price = bound.Change (change.Insert 0 ((n id ∷ n price ∷ []) ∷ []))

abbrev pub add_sale : ℕ → ℕ → ℕ → Bound
add_sale key item qty = bound.Change (change.Insert 1 ((n key ∷ n item ∷ n qty ∷ []) ∷ []))

-- a line is the place of its statement in a list
abbrev pub reading : List Bound → Reading
reading statements tables views setup live line = by (slice_get statements (slice_index line 0))
  where
    by : Option Bound → Result Bound Fault
    by None = Err (Syntax 1)
    by (Some b) = Ok b

abbrev pub line : ℕ → List ℕ
line k = k ∷ []

-- the entries of events, where no write fails
abbrev pub run : Settings → List Bound → Program → State → List Event → List Entry
run settings statements p s [] = []
run settings statements p s (e ∷ es) = let given = give (record { settings = settings; reading = reading statements; program = p }) false e s in given.entry ∷ run settings statements p given.next es

-- two sessions, and an order
abbrev pub program_of : List (List ℕ) → List (List ℕ) → List OrderItem → Program
program_of a b order = record { setup = []; sessions = record { name = codes "a"; lines = a } ∷ record { name = codes "b"; lines = b } ∷ []; order = order }

abbrev pub usual : Settings
usual = record { combine = 16; limit = 1073741824; policy = 0 }

-- the entries of the schedule, from the shop
abbrev pub transcript : List Bound → Program → List Entry
transcript statements p = run usual statements p (record { world = shop; places = first_places p }) (schedule p)
