-- The least free row, by the two lists that say which rows are free.
use Rattle.std.specs.Prelude.{◌≡◌, ℕ, Option, List, length, map, zip}
use Rattle.std.specs.List.{position_or_len}
use Rattle.vfs_model.specs.FileLife.{is_free_row}
use Rattle.vfs_model.specs.declared.namespace.LiveFile.{LiveFile}
use Rattle.vfs_model.specs.declared.namespace.Namespace.{Namespace}

-- the place of the first free row, counted from 0, or the number of rows
abbrev pub first_free : List (Option LiveFile) → List ℕ → ℕ
first_free live_files generations = position_or_len (λ free. free) (map (λ row. is_free_row row.0 row.1) (zip live_files generations))

-- each row has a generation
abbrev pub RowsMatch : Namespace → Type 0
RowsMatch n = length n.live_files ≡ length n.generations
