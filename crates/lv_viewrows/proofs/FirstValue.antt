-- Versions by the first value of their rows.
use Rattle.std.proofs.Common.{◌≡◌, ℕ, ℤ, zero, suc, ◌<◌, ◌≤◌, Bool, true, false, not, cond, get_or, List, [], ◌∷◌, length, take, drop, Some, refl, sym, ap, ◌∙◌, arith}
use Rattle.std.specs.Prelude.{nat_lt, slice_get, if◌then◌else◌, position, Option, None, MatchOption}
use Rattle.std.proofs.lemmas.List.Quantifiers.{position-Some}
use Rattle.std.proofs.lemmas.Option.{slice_get-get_or}
use Rattle.std.proofs.lemmas.Bool.Decides.{nat_tests}
use Rattle.std.specs.List.{AllByRecursion}
use Rattle.std.specs.Ordering.{is_gt, is_lt, ordering_then}
use Rattle.std.specs.declared.cmp.Ordering.{Ordering}
use Rattle.std.specs.declared.cmp.Ordering.TheVariants.{Less, Equal, Greater}
use Rattle.std.proofs.lemmas.Cmp.{upto}
use Rattle.lv_values.specs.declared.value.Value.{Value}
use Rattle.lv_values.specs.Order.{row_cmp, value_cmp}
use Rattle.lv_values.specs.OrderLaws.{value_exact, value_total}
use Rattle.lv_values.specs.Rows.{value_in}
use Rattle.lv_schema.specs.declared.signed.SignedRow.{SignedRow}
use Rattle.lv_schema.specs.declared.cond.Col.{Col}
use Rattle.lv_schema.specs.declared.view.Item.{Item}
use Rattle.lv_schema.specs.declared.view.Item.TheVariants.{Plain, Sum, Count}
use Rattle.lv_schema.specs.declared.view.ViewDef.{ViewDef}
use Rattle.lv_schema.proofs.Apart.{all_weaker}
use Rattle.lv_group.specs.Gathered.{group_value, listed_values}
use Rattle.lv_shelf.specs.Cuts.{Apart, Falls, IsCut}
use Rattle.lv_shelf.proofs.Cutting.{got, got_within}
use Rattle.lv_viewrows.specs.declared.version.GroupVersion.{GroupVersion}
use Rattle.lv_viewrows.specs.Beginning.{AllAbove, AllBelow, IsFirst, NonePasses, begins_below, begins_up_to, column_numbered, first_column, first_listed, is_plain}
use Rattle.lv_viewrows.specs.Kept.{row_listed}
use Rattle.lv_viewrows.specs.Standing.{Precedes, precedes_by}
use Rattle.lv_viewrows.proofs.Galloping.{none_passes}
use Rattle.lv_viewrows.proofs.Order.{falls_from, is_less}

-- ---- the order of rows is that of their first values
below_step : (first : Value) (a b : List Value) → is_gt (row_cmp a b) ≡ false → begins_below first b ≡ true → begins_below first a ≡ true
below_step first [] b le t = refl
below_step first (v ∷ a) [] le t = cc
below_step first (v ∷ a) (w ∷ b) le t = by (value_cmp v w) refl le
  where
    by : (o : Ordering) → value_cmp v w ≡ o → is_gt (ordering_then o (row_cmp a b)) ≡ false → is_lt (value_cmp v first) ≡ true
    by Less e le' = ap is_lt (value_total.trans v w first e (is_less (value_cmp w first) t))
    by Equal e le' = ap (λ x. is_lt (value_cmp x first)) (value_exact v w e) ∙ t
    by Greater e le' = cc

not_gt : (o : Ordering) (r : Ordering) → is_gt (ordering_then o r) ≡ false → is_gt o ≡ false
not_gt Less r e = refl
not_gt Equal r e = refl
not_gt Greater r e = e

un_not : (b : Bool) → not b ≡ true → b ≡ false
un_not true e = cc
un_not false e = refl

up_to_step : (first : Value) (a b : List Value) → is_gt (row_cmp a b) ≡ false → begins_up_to first b ≡ true → begins_up_to first a ≡ true
up_to_step first [] b le t = refl
up_to_step first (v ∷ a) [] le t = cc
up_to_step first (v ∷ a) (w ∷ b) le t = ap not (upto value_total v w first (not_gt (value_cmp v w) (row_cmp a b) le) (un_not (is_gt (value_cmp w first)) t))

not_over : (v w : GroupVersion) → Precedes v w → is_gt (row_cmp v.group.row w.group.row) ≡ false
not_over v w r = by (row_cmp v.group.row w.group.row) r
  where
    by : (o : Ordering) → precedes_by o v w → is_gt o ≡ false
    by Less r' = refl
    by Equal r' = refl
    by Greater r' = absurd r'

pub below_falls_first : (first : Value) (vs : List GroupVersion) → Apart Precedes vs → Falls (λ v. begins_below first v.group.row) vs
below_falls_first first vs a = falls_from (λ v. begins_below first v.group.row) Precedes (λ v w r. below_step first v.group.row w.group.row (not_over v w r)) vs a

pub up_to_falls : (first : Value) (vs : List GroupVersion) → Apart Precedes vs → Falls (λ v. begins_up_to first v.group.row) vs
up_to_falls first vs a = falls_from (λ v. begins_up_to first v.group.row) Precedes (λ v w r. up_to_step first v.group.row w.group.row (not_over v w r)) vs a

pub lt_of : (n k : ℕ) → nat_lt n k ≡ true → n < k
lt_of n k e = grind (arith, nat_tests)

-- ---- where the first row has a value, each has one
has_value : (v w : GroupVersion) → 0 < length v.group.row → Precedes v w → 0 < length w.group.row
has_value v w lt r = by v.group.row w.group.row lt (not_over v w r)
  where
    by : (a b : List Value) → 0 < length a → is_gt (row_cmp a b) ≡ false → 0 < length b
    by [] b lt' le = absurd (omega (arith, lt'))
    by (x ∷ a) [] lt' le = cc
    by (x ∷ a) (y ∷ b) lt' le = omega arith

pub all_have_values : (vs : List GroupVersion) → Apart Precedes vs → ((v : GroupVersion) → slice_get vs 0 ≡ Some v → 0 < length v.group.row) → AllByRecursion (λ v. 0 < length v.group.row) vs
all_have_values [] a head = tt
all_have_values (v ∷ vs) a head = let here = head v refl in (here, all_weaker (Precedes v) (λ w. 0 < length w.group.row) (λ w r. has_value v w here r) vs a.0)

-- ---- which versions begin below a value, and which above one
begins_lower : (low : Value) (row : List Value) → 0 < length row → begins_below low row ≡ true → is_lt (value_cmp (value_in row 0) low) ≡ true
begins_lower low [] lt t = absurd (omega (arith, lt))
begins_lower low (v ∷ row) lt t = t

un_true : (b : Bool) → not b ≡ false → b ≡ true
un_true true e = refl
un_true false e = cc

begins_higher : (high : Value) (row : List Value) → begins_up_to high row ≡ false → is_gt (value_cmp (value_in row 0) high) ≡ true
begins_higher high [] t = cc
begins_higher high (v ∷ row) t = un_true (is_gt (value_cmp v high)) t

pub all_before : (low : Value) (i : ℕ) (vs : List GroupVersion) → AllByRecursion (λ v. 0 < length v.group.row) vs → IsCut (λ v. begins_below low v.group.row) i vs → AllBelow (Some low) (take i vs)
all_before low zero vs a h = tt
all_before low (suc i) [] a h = absurd h
all_before low (suc i) (v ∷ vs) a h = (begins_lower low v.group.row a.0 h.0, all_before low i vs a.1 h.1)

pub all_behind_of : (high : Value) (i : ℕ) (vs : List GroupVersion) → IsCut (λ v. begins_up_to high v.group.row) i vs → AllAbove (Some high) (drop i vs)
all_behind_of high i vs h = all_weaker (λ (v : GroupVersion). begins_up_to high v.group.row ≡ false) (λ v. is_gt (value_cmp (value_in v.group.row 0) high) ≡ true) (λ v t. begins_higher high v.group.row t) (drop i vs) (none_passes (λ v. begins_up_to high v.group.row) i vs h)

pub all_take_less : {X : Type 0} (P : X → Type 0) (i j : ℕ) (xs : List X) → j ≤ i → AllByRecursion P (take i xs) → AllByRecursion P (take j xs)
all_take_less P i zero xs le a = tt
all_take_less P zero (suc j) xs le a = absurd (omega (arith, le))
all_take_less P (suc i) (suc j) [] le a = tt
all_take_less P (suc i) (suc j) (x ∷ xs) le a = (a.0, all_take_less P i j xs (omega (arith, le)) a.1)

-- ---- what passes begins between the values
pub none_pass : (view : ViewDef) (p : List Value → Bool) (out : Value → Bool) (vs : List GroupVersion) → ((group : SignedRow) → p (row_listed view group) ≡ true → out (value_in group.row 0) ≡ false)
    → AllByRecursion (λ (v : GroupVersion). out (value_in v.group.row 0) ≡ true) vs → NonePasses view p vs
none_pass view p out vs only outside = all_weaker (λ (v : GroupVersion). out (value_in v.group.row 0) ≡ true) (λ v. (group : SignedRow) → group.row ≡ v.group.row → p (row_listed view group) ≡ false) fails vs outside
  where
    fails : (v : GroupVersion) → out (value_in v.group.row 0) ≡ true → (group : SignedRow) → group.row ≡ v.group.row → p (row_listed view group) ≡ false
    fails v is_out group same = by (p (row_listed view group)) refl
      where
        by : (b : Bool) → p (row_listed view group) ≡ b → b ≡ false
        by false e = refl
        by true e = let inside = only group e in let here = ap (λ r. out (value_in r 0)) same ∙ is_out in cc

-- ---- the column that lists it
pub listed_plain : (first : Col) (more : List Col) (group : SignedRow) (items : List Item) (sums : List ℤ) (at : ℕ) (d : Item) → at < length items → is_plain (get_or items at d) first ≡ true → value_in (listed_values (first ∷ more) group items sums) at ≡ value_in group.row 0
listed_plain first more group [] sums at d lt t = absurd (omega (arith, lt))
listed_plain first more group (Plain col name ∷ items) sums zero d lt t = by group.row
  where
    by : (row : List Value) → group_value (first ∷ more) row col ≡ value_in row 0
    by [] = refl
    by (v ∷ row) = ap (λ b. cond b v (group_value more row col)) t
listed_plain first more group (Sum col name ∷ items) sums zero d lt t = cc
listed_plain first more group (Count name ∷ items) sums zero d lt t = cc
listed_plain first more group (Plain col name ∷ items) sums (suc at) d lt t = listed_plain first more group items sums at d (omega (arith, lt)) t
listed_plain first more group (Sum col name ∷ items) [] (suc at) d lt t = listed_plain first more group items [] at d (omega (arith, lt)) t
listed_plain first more group (Sum col name ∷ items) (n ∷ sums) (suc at) d lt t = listed_plain first more group items sums at d (omega (arith, lt)) t
listed_plain first more group (Count name ∷ items) sums (suc at) d lt t = listed_plain first more group items sums at d (omega (arith, lt)) t

pub lists_first : (view : ViewDef) (groups : List Col) (items : List Item) (d : Col) (at : ℕ) (item : Item) → view.grouped ≡ true → groups ≡ view.groups → items ≡ view.items → 0 < length groups → slice_get items at ≡ Some item → is_plain item (get_or groups 0 d) ≡ true → IsFirst view at
lists_first view [] items d at item grouped by listed lt e t group = absurd (omega (arith, lt))
lists_first view (first ∷ more) items d at item grouped by listed lt e t group =
    (λ i. value_in (if grouped i then listed_values (sym by i) group (sym listed i) group.sums else group.row) at)
    ∙ listed_plain first more group items group.sums at item (got_within items at item e) (ap (λ x. is_plain x first) (got items at item item e) ∙ t)

pub lists_all : (view : ViewDef) → view.grouped ≡ false → IsFirst view 0
lists_all view grouped group = λ i. value_in (if grouped i then listed_values view.groups group view.items group.sums else group.row) 0

-- the column that is found is the first value
pub first_begins : (view : ViewDef) → MatchOption (first_column view) (Unit {0}) (IsFirst view)
first_begins view = by view.grouped refl view.groups refl
  where
    by : (b : Bool) → view.grouped ≡ b → (groups : List Col) → groups ≡ view.groups → MatchOption (if b then column_numbered (first_listed groups view.items) else Some 0) (Unit {0}) (IsFirst view)
    by false grouped groups same = lists_all view grouped
    by true grouped [] same = tt
    by true grouped (first ∷ more) same = found (position (λ item. is_plain item first) view.items) refl
      where
        found : (o : Option ℕ) → position (λ item. is_plain item first) view.items ≡ o → MatchOption (column_numbered o) (Unit {0}) (IsFirst view)
        found None e = tt
        found (Some at) e = numbered (nat_lt at 256) (position-Some (λ item. is_plain item first) view.items at (Count []) e)
          where
            numbered : (b : Bool) → (at < length view.items) × (is_plain (get_or view.items at (Count [])) first ≡ true) × ((k : ℕ) → k < at → is_plain (get_or view.items k (Count [])) first ≡ false)
                → MatchOption (if b then Some at else None) (Unit {0}) (IsFirst view)
            numbered false there = tt
            numbered true there = lists_first view (first ∷ more) view.items first at (get_or view.items at (Count [])) grouped same refl (omega arith) (slice_get-get_or view.items at (Count []) there.0) there.1

pub listed_of : (groups : List Col) (items : List Item) (d : Col) → 0 < length groups → position (λ item. is_plain item (get_or groups 0 d)) items ≡ first_listed groups items
listed_of [] items d some = absurd (omega (arith, some))
listed_of (first ∷ more) items d some = refl
