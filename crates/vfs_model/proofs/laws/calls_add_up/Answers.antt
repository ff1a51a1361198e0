use Rattle.vfs_model.proofs.SmallCaches.{calls-add-up}
use Rattle.vfs_model.proofs.laws.calls_add_up.Goals as goal

pub returns : goal.returns
returns c w io first second = calls-add-up w io first second
