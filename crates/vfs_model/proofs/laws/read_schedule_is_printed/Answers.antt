use Rattle.vfs_model.proofs.ScheduleExactness.{schedule-exact}
use Rattle.vfs_model.proofs.laws.read_schedule_is_printed.Goals as goal

pub returns : goal.returns
returns c line schedule e = schedule-exact line schedule e
