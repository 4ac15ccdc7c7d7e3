use Rattle.lv_schema.proofs.NetsLead.{nets_lead}
use Rattle.lv_schema.proofs.laws.net_changes_lead_on.Goals as goal

pub returns : goal.returns
returns c = nets_lead
