-- The forms of a transcript's lines are exact.
use Rattle.std.proofs.Common.{◌≡◌, ℕ, ◌^◌, true, List, ◌++◌, Option, Some, None, refl, arith}
use Rattle.std.specs.Prelude.{codes}
use Rattle.lv_reading.specs.Reading.{begins, stops}
use Rattle.lv_forms.proofs.Exact.{exact, nothing_exact, count_exact, wide_exact, after_exact, ended_exact, pair_exact, both_exact, optional_exact, counted_exact, joined_exact, mapped_exact}
use Rattle.lv_forms.proofs.ExactTables.{table_exact}
use Rattle.std.specs.Char.{is_ascii_digit}
use Rattle.lv_forms.specs.Forms.{IsExact, small, count, counted, ended}
use Rattle.lv_schema.specs.declared.fault.Fault.{Fault}
use Rattle.lv_schema.specs.declared.fault.Fault.TheVariants.{Syntax}
use Rattle.lv_schema.specs.declared.fault.LimitKind.{LimitKind}
use Rattle.lv_schema.specs.declared.fault.LimitKind.TheVariants as limit
use Rattle.lv_schema.specs.declared.fault.ProfileRule.{ProfileRule}
use Rattle.lv_schema.specs.declared.fault.ProfileRule.TheVariants as rule
use Rattle.lv_forms.specs.Tables.{make_of, text_of, FitsOf, table, at}
use Rattle.lv_plain.specs.declared.entry.Reply.{Reply}
use Rattle.lv_plain.specs.declared.entry.Reply.TheVariants.{Made}
use Rattle.lv_lines.specs.declared.names.Names.{Names}
use Rattle.lv_lines.specs.Entries.{IsNames, AreWords}
use Rattle.lv_lines.proofs.AgainWords.{name_again, own_word_again, value_again}
use Rattle.lv_lines.proofs.TakesWords.{and_parts, name_takes, own_word_takes, value_takes}
use Rattle.lv_lines.specs.ValueForms.{name, own, any_value, row, key}
use Rattle.lv_lines.specs.FaultForms.{limit_kinds, limit_fields, any_limit, rule_kinds, rule_fields, any_rule, table_key, fault_kinds, fault_fields, any_fault}
use Rattle.lv_lines.specs.ReplyForms.{commit_number, tail_kinds, tail_fields, changes, changed, task, reply_kinds, reply_fields, any_reply, forced, step, forced_line}

-- ---- names and values

pub name_exact : (names : List (List ℕ)) → AreWords names → IsExact (name names)
name_exact names are = exact (name_takes names) (λ i rest fits e. name_again names i rest are fits.0 fits.1 e)

pub own_exact : IsExact own
own_exact = exact (own_word_takes) (λ w rest fits e. own_word_again w rest fits e)

pub value_exact : IsExact any_value
value_exact = exact (value_takes) (λ v rest fits e. value_again v rest fits (and_parts _ _ e))

pub row_exact : IsExact row
unfolding begins
row_exact = after_exact (codes "| ") (ended_exact (codes "\n") (joined_exact (codes " | ") (omega arith) value_exact (λ rest. refl)) (λ rest. refl))

pub key_exact : IsExact key
unfolding begins
key_exact = after_exact (codes "(") (ended_exact (codes ")") (joined_exact (codes ", ") (omega arith) value_exact (λ rest. refl)) (λ rest. refl))

pub small_exact : IsExact small
small_exact = count_exact (2 ^ 32) (omega arith)

pub big_exact : IsExact count
big_exact = count_exact (2 ^ 64) (omega arith)

-- ---- faults

limit_made : (e : LimitKind) → make_of limit_kinds (limit_fields e) ≡ e
limit_made limit.Name = refl
limit_made _ = refl

pub limit_exact : IsExact any_limit
limit_exact = table_exact limit_kinds limit_fields refl (search nothing_exact) limit_made (search refl)

rule_made : (e : ProfileRule) → make_of rule_kinds (rule_fields e) ≡ e
rule_made rule.Base = refl
rule_made _ = refl

pub rule_exact : IsExact any_rule
rule_exact = table_exact rule_kinds rule_fields refl (search nothing_exact) rule_made (search refl)

module _ (names : Names) (is : IsNames names) where
  table_name_exact : IsExact (name names.tables)
  table_name_exact = name_exact names.tables is.tables

  view_name_exact : IsExact (name names.views)
  view_name_exact = name_exact names.views is.views

  table_key_exact : IsExact (table_key names)
  table_key_exact = pair_exact (codes " ") table_name_exact (λ rest. refl) key_exact

  fault_made : (e : Fault) → make_of (fault_kinds names) (fault_fields names e) ≡ e
  fault_made (Syntax byte) = refl
  fault_made _ = refl

  pub fault_exact : IsExact (any_fault names)
  fault_exact =
      table_exact (fault_kinds names) (fault_fields names) refl
      (search (nothing_exact, small_exact, big_exact, wide_exact, own_exact, limit_exact, rule_exact, table_name_exact, table_key_exact, key_exact, pair_exact))
      fault_made (search refl)

pub began_exact : IsExact (ended count (codes "\n"))
began_exact = ended_exact (codes "\n") big_exact (λ rest. refl)

tail_made : (o : Option (Option ℕ)) → make_of tail_kinds (tail_fields o) ≡ o
tail_made None = refl
tail_made _ = refl

pub commit_exact : IsExact commit_number
unfolding begins
commit_exact = ended_exact (codes "\n") (optional_exact (codes " ") big_exact) (λ rest. refl)

tail_exact : IsExact (table tail_kinds tail_fields)
tail_exact = table_exact tail_kinds tail_fields refl (search (nothing_exact, commit_exact)) tail_made (search refl)

tail_ends : (o : Option (Option ℕ)) (rest : List ℕ) → FitsOf tail_kinds (tail_fields o) → stops is_ascii_digit (text_of tail_kinds (tail_fields o) ++ rest) ≡ true
tail_ends None rest fits = refl
tail_ends (Some o) rest fits = refl

pub changes_exact : IsExact changes
changes_exact = both_exact big_exact tail_ends tail_exact

module _ (names : Names) (is : IsNames names) where
  pub task_exact : IsExact (task names)
  task_exact = after_exact (codes "| ") (ended_exact (codes "\n") (pair_exact (codes " | ") (name_exact names.views is.views) (λ rest. refl) big_exact) (λ rest. refl))

  rows_exact : IsExact (counted count (codes "\n") row)
  rows_exact = counted_exact (codes "\n") big_exact (λ rest. refl) row_exact (λ rest. refl)

  tasks_exact : IsExact (counted count (codes "\n") (task names))
  tasks_exact = counted_exact (codes "\n") big_exact (λ rest. refl) task_exact (λ rest. refl)

  refused_exact : IsExact (ended (any_fault names) (codes "\n"))
  unfolding begins
  refused_exact = ended_exact (codes "\n") (fault_exact names is) (λ rest. refl)

  reply_made : (e : Reply) → make_of (reply_kinds names) (reply_fields names e) ≡ e
  reply_made Made = refl
  reply_made _ = refl

  changed_placed : (p : ℕ × Option (Option ℕ)) → reply_fields names (changed p.0 p.1) ≡ at (reply_kinds names) 1 p
  changed_placed p = here p.0 p.1 where
    here : (n : ℕ) (o : Option (Option ℕ)) → reply_fields names (changed n o) ≡ at (reply_kinds names) 1 (n, o)
    here n None = refl
    here n (Some o) = refl

  pub reply_exact : IsExact (any_reply names)
  reply_exact =
      table_exact (reply_kinds names) (reply_fields names) refl
      (search (nothing_exact, changes_exact, began_exact, commit_exact, rows_exact, tasks_exact, refused_exact))
      reply_made (search changed_placed)

  pub step_exact : IsExact (step names)
  step_exact =
      mapped_exact forced (λ f. (f.view, (f.lo, f.hi)))
      (pair_exact (codes " ") (name_exact names.views is.views) (λ rest. refl) (pair_exact (codes " ") big_exact (λ rest. refl) big_exact))
      (λ f. refl) (λ p. refl)

  pub forced_exact : IsExact (forced_line names)
  forced_exact = after_exact (codes "force ") (ended_exact (codes "\n") step_exact (λ rest. refl))
