use Rattle.std.proofs.Common.{◌≡◌, drop, find}
use Rattle.vfs_model.specs.FileLife.{is_file_of_row}
use Rattle.plain_reports.proofs.holders.entry_of_row.Given as goal

abbrev pub invariant-loop-entry : goal.invariant-loop-entry
invariant-loop-entry l = find (λ entry. is_file_of_row l.row entry.1) (drop l.entry-index l.tree) ≡ find (λ entry. is_file_of_row l.row entry.1) l.tree
