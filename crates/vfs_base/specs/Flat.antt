-- Which steps and replies hold no list, so that a copy of them takes no memory.
use Rattle.vfs_base.specs.declared.reply.Reply.{Reply}
use Rattle.vfs_base.specs.declared.reply.Reply.TheVariants as reply
use Rattle.vfs_base.specs.declared.step.Step.{Step}
use Rattle.vfs_base.specs.declared.step.Step.TheVariants as step

-- the step holds no text
abbrev pub IsFlatStep : Step → Type 0
IsFlatStep (step.Stat path) = ⊥
IsFlatStep (step.Open path flags) = ⊥
IsFlatStep (step.Mkdir path) = ⊥
IsFlatStep (step.Rmdir path) = ⊥
IsFlatStep (step.Unlink path) = ⊥
IsFlatStep (step.Rename old new) = ⊥
IsFlatStep (step.List path) = ⊥
IsFlatStep (step.Chdir path) = ⊥
IsFlatStep (step.Mount source point fs) = ⊥
IsFlatStep (step.Umount point) = ⊥
IsFlatStep (step.Mkfs name) = ⊥
IsFlatStep (step.Write file off bytes) = ⊥
IsFlatStep (step.Append file bytes) = ⊥
IsFlatStep (step.Store file off bytes) = ⊥
IsFlatStep _ = Unit {0}

-- the reply holds neither a path nor bytes nor a list
abbrev pub IsFlat : Reply → Type 0
IsFlat (reply.Listing path entries) = ⊥
IsFlat (reply.At path) = ⊥
IsFlat (reply.Got bytes) = ⊥
IsFlat (reply.MountList lines) = ⊥
IsFlat (reply.Holders lines) = ⊥
IsFlat (reply.Files files) = ⊥
IsFlat (reply.DeviceList lines) = ⊥
IsFlat _ = Unit {0}
