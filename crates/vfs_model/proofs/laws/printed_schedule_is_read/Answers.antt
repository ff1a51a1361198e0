use Rattle.vfs_model.proofs.ScheduleReading.{schedule-read}
use Rattle.vfs_model.proofs.laws.printed_schedule_is_read.Goals as goal

pub returns : goal.returns
returns c schedule k = schedule-read schedule k
