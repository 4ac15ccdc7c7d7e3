use Rattle.std.proofs.Common.{◌≡◌, ℕ, List, Option, Result, Ok, Err, IfOk, length, refl, arith}
use Rattle.std.specs.List.{All}
use Rattle.lv_values.specs.declared.memory.NoMemory.{NoMemory}
use Rattle.lv_lexer.specs.declared.token.Token.{Token}
use Rattle.lv_lexer.specs.declared.token.Scan.{Scan}
use Rattle.lv_lexer.specs.Scan.{Scans, IsTokenOf, AreInOrder}
use Rattle.lv_lexer.proofs.Spans.{scans_one, each_token, in_order}
use Rattle.lv_lexer.proofs.scanning.tokens.Goals as goal

only : (line : List ℕ) (r : Result Scan NoMemory) → IfOk r (λ s. Scans 0 line s.list s.stopped) → (list : List Token) (stopped : Option ℕ) → Scans 0 line list stopped → IfOk r (λ s. (s.list ≡ list) × (s.stopped ≡ stopped))
only line (Ok s) h list stopped other = scans_one 0 line s.list list s.stopped stopped h other
only line (Err e) h list stopped other = tt

each : (line : List ℕ) (r : Result Scan NoMemory) → IfOk r (λ s. Scans 0 line s.list s.stopped) → IfOk r (λ s. All (IsTokenOf line) s.list)
each line (Ok s) h = each_token line 0 line s.list s.stopped refl h
each line (Err e) h = tt

order : (line : List ℕ) (r : Result Scan NoMemory) → IfOk r (λ s. Scans 0 line s.list s.stopped) → IfOk r (λ s. AreInOrder (length line) 0 s.list s.stopped)
order line (Ok s) h = in_order line 0 line s.list s.stopped refl (omega arith) h
order line (Err e) h = tt

pub returns-clause-only : goal.returns-clause-only
returns-clause-only c = only c.args.line.now c.scan.result (rw c.as_bytes.ensures.same at c.scan.ensures)

pub returns-clause-each : goal.returns-clause-each
returns-clause-each c = each c.args.line.now c.scan.result (rw c.as_bytes.ensures.same at c.scan.ensures)

pub returns-clause-order : goal.returns-clause-order
returns-clause-order c = order c.args.line.now c.scan.result (rw c.as_bytes.ensures.same at c.scan.ensures)
