use Rattle.std.proofs.Common.{◌≡◌, ◌+◌, ◌≤◌, drop, fold, length}
use Rattle.std.specs.Prelude.{vec_len, vec_capacity}
use Rattle.vfs_model.specs.FileLife.{end_of_unmounted, free_row}
use Rattle.vfs_model.specs.UmountSteps.{rows_of_mount}
use Rattle.plain_mounts.specs.Leaving.{live_count, rows_from, rows_so_far}
use Rattle.plain_mounts.proofs.leaving.free_rows_of.Given as goal

abbrev pub invariant-loop-place : goal.invariant-loop-place
invariant-loop-place l = record {
  next : fold (free_row end_of_unmounted) (rows_so_far l.namespace l.changes.items) (rows_from l.number (l.place + 1) (drop l.place l.namespace.live_files))
      ≡ fold (free_row end_of_unmounted) (rows_so_far l.initial.namespace l.initial.changes.items) (rows_of_mount l.initial.namespace l.number);
  live_files : length l.namespace.live_files ≡ 1024;
  trees : l.namespace.trees ≡ l.initial.namespace.trees;
  room : vec_len l.changes + live_count l.namespace ≤ vec_capacity l.changes;
}
