use Rattle.std.proofs.Common.{◌≡◌, replicate}
use Rattle.vfs_model.specs.declared.world.FileState.TheVariants as file
use Rattle.plain_steps.proofs.start.no_files.Given as goal

abbrev pub invariant-loop-place : goal.invariant-loop-place
invariant-loop-place l = l.list ≡ replicate l._place (file.Unbound 0)
