use Rattle.lv_overlay.proofs.OwnRows.{own_rows}
use Rattle.lv_overlay.proofs.laws.writes_give_own_rows.Goals as goal

pub returns : goal.returns
returns c = λ key puts t rows stand. own_rows key t puts rows stand
