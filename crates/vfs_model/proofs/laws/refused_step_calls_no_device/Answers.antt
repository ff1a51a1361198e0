use Rattle.vfs_model.proofs.StoppedCalls.{refused-calls}
use Rattle.vfs_model.proofs.laws.refused_step_calls_no_device.Goals as goal

pub returns : goal.returns
returns c f cache asked e = refused-calls f cache asked e
