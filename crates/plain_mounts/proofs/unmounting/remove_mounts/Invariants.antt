use Rattle.std.proofs.Common.{◌≡◌, ◌+◌, ◌≤◌, fold, length, map, reverse}
use Rattle.std.specs.Prelude.{vec_len, vec_capacity}
use Rattle.vfs_base.specs.Path.{AllAre}
use Rattle.vfs_model.specs.UmountSteps.{remove_mount}
use Rattle.plain_mounts.specs.Leaving.{live_count, rows_so_far, TreesShrink}
use Rattle.plain_mounts.specs.Unmounting.{HasRoom}
use Rattle.plain_mounts.proofs.unmounting.remove_mounts.Given as goal

abbrev pub invariant-loop-mount : goal.invariant-loop-mount
invariant-loop-mount l = record {
  next : fold remove_mount (rows_so_far l.namespace l.changes.items) (reverse (map (λ one. one.mount) l.leaving.items))
      ≡ fold remove_mount (rows_so_far l.initial.namespace l.initial.changes.items) (reverse (map (λ one. one.mount) l.initial.leaving.items));
  live_files : length l.namespace.live_files ≡ 1024;
  trees : TreesShrink l.initial.namespace l.namespace;
  names : AllAre (HasRoom l.namespace) l.leaving.items;
  room : vec_len l.changes + live_count l.namespace ≤ vec_capacity l.changes;
}

abbrev pub decreases-loop-mount : goal.decreases-loop-mount
decreases-loop-mount l = vec_len l.leaving
