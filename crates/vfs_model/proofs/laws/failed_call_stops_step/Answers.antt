use Rattle.vfs_model.proofs.StoppedCalls.{failed-call-stops}
use Rattle.vfs_model.proofs.laws.failed_call_stops_step.Goals as goal

pub returns : goal.returns
returns c number f cache asked = failed-call-stops number f cache asked
