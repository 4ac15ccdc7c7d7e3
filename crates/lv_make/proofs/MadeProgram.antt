-- A made script says its program.
use Rattle.std.proofs.Common.{◌≡◌, ℕ, ◌+◌, ◌≤◌, true, false, List, [], ◌∷◌, ◌++◌, length, refl, sym, ap, subst, append_assoc, ◌∙◌, arith}
use Rattle.std.specs.Prelude.{codes, nat_lt, Ok}
use Rattle.std.specs.List.{list_all, AllByRecursion}
use Rattle.std.proofs.lemmas.List.{length-append}
use Rattle.std.proofs.lemmas.List.FromFn.{length-map-range_with_len}
use Rattle.lv_plain.specs.declared.program.Program.{Program}
use Rattle.lv_lines.specs.ScriptLine.{session, setup as setup_says, lines_of}
use Rattle.lv_lines.specs.Script.{script_from, script_of, start}
use Rattle.lv_make.specs.ScriptText.{shop, setup_lines, load_lines, edit_lines, read_lines, setup, sale_line, insert_lines, insert_count, edits, reads, order_line, made_lines, made_script}
use Rattle.lv_make.specs.MadeProgram.{made_program, MadeScriptsAreRead}
use Rattle.lv_make.proofs.MadeStatements.{is_plain, IsPlain, IsStatement, all_append, setup_statements, insert_statements, edit_statements, read_statements}
use Rattle.lv_make.proofs.MadeLines.{lines_back, text_short}
use Rattle.lv_make.proofs.MadeReading.{Reads, step, setup_part, setup_reads, session_part, with_last, session_reads}
use Rattle.lv_make.proofs.MadeOrder.{named, order_plain, order_reads}

-- the sections, one after another
abbrev from_read : List (List ℕ) → List ℕ → List (List ℕ)
from_read read line = codes "@session read" ∷ (read ++ line ∷ [])

abbrev from_edit : List (List ℕ) → List (List ℕ) → List ℕ → List (List ℕ)
from_edit edit read line = codes "@session edit" ∷ (edit ++ from_read read line)

abbrev from_load : List (List ℕ) → List (List ℕ) → List (List ℕ) → List ℕ → List (List ℕ)
from_load load edit read line = codes "@session load" ∷ (load ++ from_edit edit read line)

abbrev from_setup : List (List ℕ) → List (List ℕ) → List (List ℕ) → List (List ℕ) → List ℕ → List (List ℕ)
from_setup setup load edit read line = codes "@setup" ∷ (setup ++ from_load load edit read line)

module _ (setup load edit read : List (List ℕ)) (line : List ℕ) (p : Program) where
  sections_read : (total : ℕ) → length setup + length load + length edit + length read ≡ total → total ≤ 100000
      → AllByRecursion IsStatement setup → AllByRecursion IsStatement load → AllByRecursion IsStatement edit → AllByRecursion IsStatement read
      → Reads (session_part setup (named load edit read) total) (line ∷ []) p → Reads start (from_setup setup load edit read line) p
  sections_read total sum most in_setup in_load in_edit in_read later =
      let after_setup = length setup in
      let after_load = after_setup + length load in
      let after_edit = after_load + length edit in
      step start (codes "@setup") setup_says (setup ++ from_load load edit read line) p (record { plain = refl; short = omega arith }) refl refl
      (setup_reads setup (from_load load edit read line) p [] setup 0 after_setup in_setup refl (omega arith) (omega arith)
      (step (setup_part setup after_setup) (codes "@session load") (session (codes "load")) (load ++ from_edit edit read line) p (record { plain = refl; short = omega arith }) refl refl
      (session_reads load (from_edit edit read line) p setup [] (codes "load") [] load after_setup after_load in_load refl refl (omega arith)
      (step (session_part setup (with_last [] (codes "load") load) after_load) (codes "@session edit") (session (codes "edit")) (edit ++ from_read read line) p (record { plain = refl; short = omega arith }) refl refl
      (session_reads edit (from_read read line) p setup (with_last [] (codes "load") load) (codes "edit") [] edit after_load after_edit in_edit refl refl (omega arith)
      (step (session_part setup (with_last (with_last [] (codes "load") load) (codes "edit") edit) after_edit) (codes "@session read") (session (codes "read")) (read ++ line ∷ []) p (record { plain = refl; short = omega arith }) refl refl
      (session_reads read (line ∷ []) p setup (with_last (with_last [] (codes "load") load) (codes "edit") edit) (codes "read") [] read after_edit total in_read refl sum most later)))))))

-- ---- the whole script

plain_of : (ls : List (List ℕ)) → AllByRecursion IsStatement ls → AllByRecursion (IsPlain 65536) ls
plain_of [] all = tt
plain_of (l ∷ ls) all = (all.0.plain, plain_of ls all.1)

setup_length : length setup ≡ 5
unfolding shop
setup_length = refl

edits_length : length edits ≡ 3
unfolding edits
edits_length = refl

reads_length : length reads ≡ 2
unfolding reads
reads_length = refl

inserts_length : (n : ℕ) → length (insert_lines n) ≡ insert_count n
inserts_length n = length-map-range_with_len (sale_line n) 0 (insert_count n)

inserts_all : (n : ℕ) → n ≤ 65536 → AllByRecursion IsStatement (insert_lines n)
inserts_all n most = insert_statements n 0 (insert_count n) most (omega arith)

word_plain : (line : List ℕ) → list_all is_plain line ≡ true → length line ≤ 200 → IsPlain 65536 line
word_plain line plain short = record { plain = plain; short = omega arith }

-- the lines, each section behind the other
abbrev made : ℕ → List (List ℕ)
made n = from_setup setup (insert_lines n) edits reads (order_line n)

in_turn : (a b c d e : List (List ℕ)) → (((a ++ b) ++ c) ++ d) ++ e ≡ a ++ (b ++ (c ++ (d ++ e)))
in_turn a b c d e = simp append_assoc

made_is : (n : ℕ) → made_lines n ≡ made n
unfolding setup_lines load_lines edit_lines read_lines
made_is n = in_turn setup_lines (load_lines n) edit_lines read_lines (order_line n ∷ [])

all_plain : (n : ℕ) → n ≤ 65536 → AllByRecursion (IsPlain 65536) (made n)
all_plain n most =
    let all = all_append (IsPlain 65536) in (
      word_plain (codes "@setup") refl (omega arith),
      all setup (from_load (insert_lines n) edits reads (order_line n)) (plain_of setup setup_statements) (
        word_plain (codes "@session load") refl (omega arith),
        all (insert_lines n) (from_edit edits reads (order_line n)) (plain_of (insert_lines n) (inserts_all n most)) (
          word_plain (codes "@session edit") refl (omega arith),
          all edits (from_read reads (order_line n)) (plain_of edits edit_statements)
              (word_plain (codes "@session read") refl (omega arith), all reads (order_line n ∷ []) (plain_of reads read_statements) (order_plain n most, tt)),
        ),
      ),
    )

lines_plain : (n : ℕ) → n ≤ 65536 → AllByRecursion (IsPlain 65536) (made_lines n)
lines_plain n most = subst (AllByRecursion (IsPlain 65536)) (sym (made_is n)) (all_plain n most)

made_few : (n : ℕ) → n ≤ 65536 → length (made n) ≤ 200
made_few n most =
    omega (
      arith,
      setup_length,
      edits_length,
      reads_length,
      inserts_length n,
      length-append setup (from_load (insert_lines n) edits reads (order_line n)),
      length-append (insert_lines n) (from_edit edits reads (order_line n)),
      length-append edits (from_read reads (order_line n)),
      length-append reads (order_line n ∷ []),
    )

lines_few : (n : ℕ) → n ≤ 65536 → length (made_lines n) ≤ 200
lines_few n most = subst (λ (ls : List (List ℕ)). length ls ≤ 200) (sym (made_is n)) (made_few n most)

lines_read : (n : ℕ) → 1 ≤ n → n ≤ 65536 → Reads start (made n) (made_program n)
unfolding made_program
lines_read n least most =
    let total = length setup + length (insert_lines n) + length edits + length reads in
    sections_read setup (insert_lines n) edits reads (order_line n) (made_program n) total refl (omega (arith, setup_length, edits_length, reads_length, inserts_length n))
    setup_statements (inserts_all n most) edit_statements read_statements
    (order_reads n setup (insert_lines n) edits reads total least most (inserts_length n))

short : (k : ℕ) → k ≤ 16777216 → nat_lt 16777216 k ≡ false
short k h = grind arith

script_read : (bytes : List ℕ) (ls : List (List ℕ)) (p : Program) → length bytes ≤ 16777216 → lines_of bytes ≡ ls → Reads start ls p → script_of bytes ≡ Ok p
script_read bytes ls p few are read = rw (short (length bytes) few) (ap (script_from start 1) are ∙ read 1)

pub made_scripts_are_read : MadeScriptsAreRead
unfolding made_script made_program
made_scripts_are_read n least most =
    script_read (made_script n) (made n) (made_program n)
    (omega (arith, text_short (made_lines n) (lines_plain n most), lines_few n most))
    (lines_back (made_lines n) (lines_plain n most) ∙ made_is n)
    (lines_read n least most)
