use Rattle.std.proofs.Common.{◌≡◌, ℕ, List, codes, subst}
use Rattle.std.specs.Result.{OnOk}
use Rattle.lv_make.specs.ScriptText.{insert_words}
use Rattle.lv_make.proofs.Joined.{three_behind}
use Rattle.lv_make.proofs.script_text.add_insert_words.Goals as goal

pub returns : goal.returns
unfolding insert_words
returns c =
    let parts = three_behind c.args.out.now (codes "insert into ") c.args.table.now (codes " values ") _ _ c.in_ok-extend_from_slice.ensures.added c.in_ok-extend_from_slice-2.ensures.added in
    subst (λ (text : List ℕ). OnOk c.extend_from_slice-3.result (c.extend_from_slice-3.new.self ≡ text)) parts c.extend_from_slice-3.ensures.added
