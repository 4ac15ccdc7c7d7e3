use Rattle.std.proofs.Common.{◌≡◌, ◌+◌, ap, ◌∙◌, arith}
use Rattle.std.specs.Prelude.{option_map, slice_get}
use Rattle.lv_relevance.specs.Relevance.{told_part, used_columns}
use Rattle.lv_relevance.proofs.ToldParts.{part_told}
use Rattle.lv_relevance.proofs.laws.parts_are_told_alias_by_alias.Goals as goal

pub returns : goal.returns
returns c = λ view parts alias.
    let e : 0 + alias ≡ alias = omega arith in
    part_told (used_columns view) 0 alias parts ∙ ap (λ n. option_map (told_part (used_columns view) n) (slice_get parts alias)) e
