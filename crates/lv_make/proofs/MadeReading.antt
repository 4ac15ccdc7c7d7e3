-- A script is read line by line, and no line of a made one has a fault.
use Rattle.std.proofs.Common.{◌≡◌, ℕ, ◌+◌, ◌<◌, ◌≤◌, false, List, [], ◌∷◌, ◌++◌, length, refl, sym, ap, ◌∙◌, append_assoc, arith}
use Rattle.std.specs.Prelude.{nat_lt, nat_le, Option, None, Ok}
use Rattle.std.specs.List.{AllByRecursion}
use Rattle.std.proofs.lemmas.List.{append-nil}
use Rattle.lv_plain.specs.declared.program.Script.{Script}
use Rattle.lv_plain.specs.declared.program.Program.{Program}
use Rattle.lv_lines.specs.declared.script_fault.ScriptFaultKind.{ScriptFaultKind}
use Rattle.lv_lines.specs.ScriptLine.{Said, statement, session, setup as setup_line, said}
use Rattle.lv_lines.specs.Script.{said_fault, fault_of, is_out_of_place, with_line, after_line, unless, script_from, onto_last, start}
use Rattle.lv_make.proofs.MadeStatements.{IsPlain, IsStatement}
use Rattle.lv_make.proofs.MadeLines.{plain_utf8}

-- ---- a script as far as it is read

-- the type of what a function takes
abbrev domain : {A B : Type 0} → (A → B) → Type 0
domain {A} f = A

abbrev pub Part : Type 0
Part = domain after_line

-- ---- one line

short_line : (line : List ℕ) → length line ≤ 65536 → nat_lt 65536 (length line) ≡ false
short_line line h = grind arith

-- a line that is text and short enough has only the faults of what it says
pub clear_line : (part : Part) (line : List ℕ) (says : Said) → IsPlain 65536 line → said line ≡ says → said_fault part line says ≡ None → fault_of part line ≡ None
clear_line part line says plain is none = rw (is, plain_utf8 line plain.plain, short_line line plain.short) none

few : (count : ℕ) → count < 100000 → nat_le 100000 count ≡ false
few count h = grind arith

statement_none : (part : Part) (line : List ℕ) → is_out_of_place part.section statement ≡ false → part.statements < 100000 → said_fault part line statement ≡ None
statement_none part line place less = rw (place, few part.statements less) refl

-- these lines make this program of a part
abbrev pub Reads : Part → List (List ℕ) → Program → Type 0
Reads part lines p = (number : ℕ) → script_from part number lines ≡ Ok p

pub step : (part : Part) (line : List ℕ) (says : Said) (lines : List (List ℕ)) (p : Program) → IsPlain 65536 line → said line ≡ says → said_fault part line says ≡ None
    → Reads (with_line part line says) lines p → Reads part (line ∷ lines) p
step part line says lines p plain is none later number =
    ap (λ (f : Option ScriptFaultKind). unless f number (script_from (after_line part line) (number + 1) lines)) (clear_line part line says plain is none)
    ∙ ap (λ (s : Said). script_from (with_line part line s) (number + 1) lines) is
    ∙ later (number + 1)

-- ---- the statements of the setup

abbrev pub setup_part : List (List ℕ) → ℕ → Part
setup_part lines count = record (with_line start [] setup_line) { program = record { setup = lines; sessions = []; order = [] }; statements = count }

pub setup_reads : (ls rest : List (List ℕ)) (p : Program) (lines all : List (List ℕ)) (count total : ℕ) → AllByRecursion IsStatement ls
    → lines ++ ls ≡ all → count + length ls ≡ total → total ≤ 100000 → Reads (setup_part all total) rest p → Reads (setup_part lines count) (ls ++ rest) p
setup_reads [] rest p lines all count total are e n most later =
    let same : lines ≡ all = sym (append-nil lines) ∙ e in
    let as_many : count ≡ total = omega (arith, n) in
    λ number. ap (λ (ls : List (List ℕ)). script_from (setup_part ls count) number rest) same ∙ ap (λ (k : ℕ). script_from (setup_part all k) number rest) as_many ∙ later number
setup_reads (l ∷ ls) rest p lines all count total are e n most later =
    let less : count < 100000 = omega (arith, n, most) in
    step (setup_part lines count) l statement (ls ++ rest) p are.0.plain are.0.says (statement_none (setup_part lines count) l refl less)
    (setup_reads ls rest p (lines ++ l ∷ []) all (count + 1) total are.1 (append_assoc lines (l ∷ []) ls ∙ e) (omega (arith, n)) most later)

-- ---- the statements of a session, which is the last

abbrev pub session_part : List (List ℕ) → List Script → ℕ → Part
session_part lines sessions count = record (with_line start [] (session [])) { program = record { setup = lines; sessions = sessions; order = [] }; statements = count }

abbrev pub with_last : List Script → List ℕ → List (List ℕ) → List Script
with_last before name lines = before ++ record { name = name; lines = lines } ∷ []

last_line : (before : List Script) (name : List ℕ) (lines : List (List ℕ)) (l : List ℕ) → onto_last (with_last before name lines) l ≡ with_last before name (lines ++ l ∷ [])
last_line [] name lines l = refl
last_line (s ∷ []) name lines l = refl
last_line (s ∷ t ∷ before) name lines l = ap (λ (ss : List Script). s ∷ ss) (last_line (t ∷ before) name lines l)

pub session_reads : (ls rest : List (List ℕ)) (p : Program) (setup : List (List ℕ)) (before : List Script) (name : List ℕ) (lines all : List (List ℕ)) (count total : ℕ) → AllByRecursion IsStatement ls
    → lines ++ ls ≡ all → count + length ls ≡ total → total ≤ 100000
    → Reads (session_part setup (with_last before name all) total) rest p → Reads (session_part setup (with_last before name lines) count) (ls ++ rest) p
session_reads [] rest p setup before name lines all count total are e n most later =
    let same : lines ≡ all = sym (append-nil lines) ∙ e in
    let as_many : count ≡ total = omega (arith, n) in
    λ number. ap (λ (ls : List (List ℕ)). script_from (session_part setup (with_last before name ls) count) number rest) same
    ∙ ap (λ (k : ℕ). script_from (session_part setup (with_last before name all) k) number rest) as_many ∙ later number
session_reads (l ∷ ls) rest p setup before name lines all count total are e n most later =
    let less : count < 100000 = omega (arith, n, most) in
    let part = session_part setup (with_last before name lines) count in
    step part l statement (ls ++ rest) p are.0.plain are.0.says (statement_none part l refl less)
    (λ number. ap (λ (ss : List Script). script_from (session_part setup ss (count + 1)) number (ls ++ rest)) (last_line before name lines l)
    ∙ session_reads ls rest p setup before name (lines ++ l ∷ []) all (count + 1) total are.1 (append_assoc lines (l ∷ []) ls ∙ e) (omega (arith, n)) most later number)

pub test : ℕ
test = 0
