use Rattle.vfs_model.proofs.FaultSums.{fault-marks-have-faults}
use Rattle.vfs_model.proofs.laws.fault_marks_have_faults.Goals as goal

pub returns : goal.returns
returns c deck describe schedule trace s = λ rise e x. fault-marks-have-faults deck describe schedule trace s rise e x
