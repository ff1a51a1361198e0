use Rattle.vfs_model.proofs.AskedSteps.{asked-leads}
use Rattle.vfs_model.proofs.laws.asked_steps_lead_on.Goals as goal

pub returns : goal.returns
returns c deck describe schedule s e = asked-leads deck describe schedule s e
