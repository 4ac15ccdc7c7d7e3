-- The lines of a program.
use Rattle.std.proofs.Common.{◌≡◌, ℕ, zero, suc, List, [], ◌∷◌, sym, subst, arith}
use Rattle.std.specs.Prelude.{slice_get, slice_index_or, Option, Some}
use Rattle.std.specs.List.{All}
use Rattle.std.proofs.lemmas.List.Elements.{All-head, All-tail}
use Rattle.lv_plain.specs.declared.program.Program.{Program}
use Rattle.lv_plain.specs.declared.program.Script.{Script}
use Rattle.lv_plain.specs.Limits.{IsStatementLine, IsWithinLimits}
use Rattle.lv_plain.specs.Programs.{lines_of, no_script}

some_same : {A : Type 0} (y x : A) → ◌≡◌ {A = Option A} (Some y) (Some x) → y ≡ x
some_same y x e = cc

line_of_all : {A : Type 0} (P : A → Type 0) (xs : List A) (k : ℕ) (x : A) → All P xs → slice_get xs k ≡ Some x → P x
line_of_all P [] k x all e = cc
line_of_all P (y ∷ ys) zero x all e = subst P (some_same y x e) (All-head P y ys all)
line_of_all P (y ∷ ys) (suc k) x all e = line_of_all P ys k x (All-tail P y ys all) e

lines_of_all : (sessions : List Script) (session : ℕ) → All (λ s. All IsStatementLine s.lines) sessions → All IsStatementLine (slice_index_or sessions session no_script).lines
lines_of_all [] session all = λ k d lt. absurd (omega arith)
lines_of_all (s ∷ sessions) zero all = All-head (λ (t : Script). All IsStatementLine t.lines) s sessions all
lines_of_all (s ∷ sessions) (suc session) all = lines_of_all sessions session (All-tail (λ (t : Script). All IsStatementLine t.lines) s sessions all)

pub statement_line : (p : Program) (session place : ℕ) (line : List ℕ) → IsWithinLimits p → slice_get (lines_of p session) place ≡ Some line → IsStatementLine line
statement_line p zero place line h e = line_of_all IsStatementLine p.setup place line h.setup e
statement_line p (suc session) place line h e = line_of_all IsStatementLine (lines_of p (suc session)) place line (lines_of_all p.sessions session h.lines) e

pub line_there : (p : Program) (session place : ℕ) (line : List ℕ) → slice_get (lines_of p session) place ≡ Some line → line ≡ slice_index_or (lines_of p session) place []
line_there p session place line e = by (lines_of p session) place e
  where
    by : (xs : List (List ℕ)) (k : ℕ) → slice_get xs k ≡ Some line → line ≡ slice_index_or xs k []
    by [] k e = cc
    by (x ∷ xs) zero e = sym (some_same x line e)
    by (x ∷ xs) (suc k) e = by xs k e
