use Rattle.std.proofs.Common.{◌≡◌, ◌++◌, drop}
use Rattle.plain_reports.proofs.holders.push_folders.Given as goal

abbrev pub invariant-loop-folder : goal.invariant-loop-folder
invariant-loop-folder l = l.paths ++ drop l.folder-index l.working_directories ≡ l.initial.paths ++ l.working_directories
