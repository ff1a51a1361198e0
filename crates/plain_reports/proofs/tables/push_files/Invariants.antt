use Rattle.std.proofs.Common.{◌≡◌, ◌++◌, drop}
use Rattle.std.specs.List.{filter_map}
use Rattle.vfs_model.specs.Tables.{file_of_node}
use Rattle.plain_reports.proofs.tables.push_files.Given as goal

abbrev pub invariant-loop-entry : goal.invariant-loop-entry
invariant-loop-entry l =
    l.files ++ filter_map (λ entry. file_of_node entry.1) (drop l.entry-index l.tree) ≡ l.initial.files ++ filter_map (λ entry. file_of_node entry.1) l.tree
