-- Files without a name, and how they are freed.
use Rattle.std.specs.Prelude.{ℕ, ◌&&◌, not, is_some, Option, List, map, filter, fold, if◌then◌else◌}
use Rattle.std.specs.List.{enumerate_from, list_any}
use Rattle.vfs_model.specs.FileLife.{Rows, end_of_dropped, free_row, has_row, is_linked}
use Rattle.vfs_model.specs.Namespace.{Tree, life_at}
use Rattle.vfs_model.specs.UmountSteps.{unlinked_rows}
use Rattle.vfs_model.specs.declared.namespace.LiveFile.{LiveFile}

-- the rows from this row on whose files stand in none of the trees, among the live files of these rows
abbrev pub unlinked_from : List Tree → ℕ → List (Option LiveFile) → List ℕ
unlinked_from trees row live_files =
    map (λ row. row.0) (filter (λ row. is_some row.1 && not (list_any (has_row row.0) trees)) (enumerate_from row live_files))

-- the files that stand at no path are freed, by row
abbrev pub free_unlinked : Rows → Rows
free_unlinked rows = fold (free_row end_of_dropped) rows (unlinked_rows rows.next)

-- the row is freed, if its file stands at no path
abbrev pub free_if_unlinked : Rows → ℕ → Rows
free_if_unlinked rows row =
    if is_some (life_at rows.next row) && not (is_linked rows.next row) then free_row end_of_dropped rows row else rows
