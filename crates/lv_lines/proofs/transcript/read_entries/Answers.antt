use Rattle.std.proofs.Common.{◌≡◌, ℕ, List, sym, ◌∙◌, subst}
use Rattle.std.specs.Prelude.{IfOk, IfSome}
use Rattle.lv_plain.specs.declared.entry.Entry.{Entry}
use Rattle.lv_lines.specs.EntryForms.{AreEntries, entries}
use Rattle.lv_lines.specs.Transcript.{text_of}
use Rattle.lv_lines.proofs.ExactEntries.{entries_exact}
use Rattle.lv_lines.proofs.SameText.{text_same}
use Rattle.lv_lines.proofs.transcript.read_entries.Goals as goal

pub read_whole-requires-clause-exact : goal.read_whole-requires-clause-exact
read_whole-requires-clause-exact c = entries_exact c.args.names.now c.requires

pub returns-clause-found : goal.returns-clause-found
returns-clause-found c =
    let names = c.args.names.now in
    let same : (entries names).text ≡ text_of names = λ i list. sym (text_same names list) i in
    subst (λ (text : List Entry → List ℕ). IfOk c.read_whole.result (λ found. IfSome found (λ list. AreEntries names list × (c.args.bytes.now ≡ text list)))) same c.read_whole.ensures.found

pub returns-clause-only : goal.returns-clause-only
returns-clause-only c = λ list fits e. c.read_whole.ensures.only list fits (e ∙ text_same c.args.names.now list)
