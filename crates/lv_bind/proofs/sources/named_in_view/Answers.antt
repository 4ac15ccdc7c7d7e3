use Rattle.lv_schema.specs.World.{view_at}
use Rattle.lv_bind.proofs.SourceLemmas.{named_in_items}
use Rattle.lv_bind.proofs.sources.named_in_view.Goals as goal

pub returns : goal.returns
returns c = named_in_items c.args.schema.now.tables (view_at c.args.schema.now.views c.args.number) c.args.name.now _ _ c.view_items.ensures c.named_item.ensures
