use Rattle.lv_plain.specs.Legal.{begun}
use Rattle.lv_plain.proofs.NamedEntries.{entries_named}
use Rattle.lv_plain.proofs.laws.entries_name_what_is_in_use.Goals as goal

pub returns : goal.returns
returns c = λ rules w es binds names limits steady legal. entries_named rules binds names limits (begun rules w) es steady legal
