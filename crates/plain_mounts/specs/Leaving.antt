-- Mounts that leave, and the rows that they free.
use Rattle.std.specs.Prelude.{ℕ, ◌≤◌, Option, List, map, filter, length, count_by, is_some}
use Rattle.std.specs.List.{enumerate_from}
use Rattle.vfs_model.specs.FileLife.{Rows}
use Rattle.vfs_model.specs.Namespace.{tree_of}
use Rattle.vfs_model.specs.declared.namespace.Namespace.{Namespace}
use Rattle.vfs_model.specs.UmountSteps.{is_of_mount}
use Rattle.vfs_model.specs.declared.namespace.LiveFile.{LiveFile}
use Rattle.plain_nodes.specs.Changes.{row_change}
use Rattle.plain_nodes.specs.declared.changes.Change.{Change}

-- the namespace on its way through a step, and the changes that were told so far
abbrev pub rows_so_far : Namespace → List Change → Rows
rows_so_far n changes = record { next = n; changes = map row_change changes }

-- how many rows have a file
abbrev pub live_count : Namespace → ℕ
live_count n = count_by is_some n.live_files

-- no tree has more nodes than before
abbrev pub TreesShrink : Namespace → Namespace → Type 0
TreesShrink old new = (number : ℕ) → length (tree_of new number) ≤ length (tree_of old number)

-- the rows of a mount's files from this row on, among the live files of these rows
abbrev pub rows_from : ℕ → ℕ → List (Option LiveFile) → List ℕ
rows_from number row live_files = map (λ row. row.0) (filter (λ row. is_of_mount number row.1) (enumerate_from row live_files))
