use Rattle.std.proofs.Common.{◌≡◌, ◌+◌, ◌≤◌, drop, fold, length}
use Rattle.std.specs.Prelude.{vec_len, vec_capacity}
use Rattle.vfs_model.specs.FileLife.{end_of_dropped, free_row}
use Rattle.vfs_model.specs.UmountSteps.{unlinked_rows}
use Rattle.plain_mounts.specs.Leaving.{live_count, rows_so_far}
use Rattle.plain_mounts.specs.Resting.{unlinked_from}
use Rattle.plain_mounts.proofs.resting.free_unlinked.Given as goal

abbrev pub invariant-loop-place : goal.invariant-loop-place
invariant-loop-place l = record {
  next : fold (free_row end_of_dropped) (rows_so_far l.namespace l.changes.items)
      (unlinked_from l.initial.namespace.trees (l.place + 1) (drop l.place l.namespace.live_files))
      ≡ fold (free_row end_of_dropped) (rows_so_far l.initial.namespace l.initial.changes.items) (unlinked_rows l.initial.namespace);
  live_files : length l.namespace.live_files ≡ 1024;
  trees : l.namespace.trees ≡ l.initial.namespace.trees;
  room : vec_len l.changes + live_count l.namespace ≤ vec_capacity l.changes;
}
