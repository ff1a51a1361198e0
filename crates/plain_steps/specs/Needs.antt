-- Which steps may need memory.
use Rattle.std.specs.Prelude.{Bool, true, false, nat_lt}
use Rattle.vfs_base.specs.declared.step.Step.{Step}
use Rattle.vfs_base.specs.declared.step.Step.TheVariants as step

-- the step may need memory, whatever stands in the namespace and whoever asks it
abbrev pub may_need : Step → Bool
may_need (step.Close hold) = false
may_need (step.Unmap hold) = false
may_need step.Home = false
may_need (step.Size id) = false
may_need (step.Sync id) = false
may_need (step.Trunc id len) = nat_lt 0 len
may_need (step.Flush row) = false
may_need (step.Reclaim row) = false
may_need step.Shutdown = false
may_need _ = true
