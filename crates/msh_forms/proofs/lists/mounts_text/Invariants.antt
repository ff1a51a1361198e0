use Rattle.std.proofs.Common.{◌≡◌, ◌++◌, drop}
use Rattle.std.specs.List.{flat_map}
use Rattle.vfs_model.specs.MountCommands.{mount_text}
use Rattle.msh_forms.proofs.lists.mounts_text.Given as goal

abbrev pub invariant-loop-mount : goal.invariant-loop-mount
invariant-loop-mount l = l.text ++ flat_map mount_text (drop l.mount-index l.mounts) ≡ flat_map mount_text l.mounts
