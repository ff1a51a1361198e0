use Rattle.std.proofs.Common.{◌≡◌, ◌++◌, drop, map}
use Rattle.vfs_base.specs.Path.{AllAre}
use Rattle.plain_mounts.specs.Unmounting.{HasRoom}
use Rattle.plain_mounts.proofs.unmounting.make_all_leaving.Given as goal

abbrev pub invariant-loop-mount : goal.invariant-loop-mount
invariant-loop-mount l = record {
  mounts : map (λ one. one.mount) l.leaving.items ++ drop l.mount-index l.namespace.mounts ≡ l.namespace.mounts;
  room : AllAre (HasRoom l.namespace) l.leaving.items;
}
