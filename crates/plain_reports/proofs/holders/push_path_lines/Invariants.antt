use Rattle.std.proofs.Common.{◌≡◌, ◌++◌, map}
use Rattle.vfs_model.specs.Holders.{path_line}
use Rattle.plain_reports.proofs.holders.push_path_lines.Given as goal

abbrev pub invariant-loop-path : goal.invariant-loop-path
invariant-loop-path l = l.lines ++ map path_line l.path-iterator ≡ l.initial.lines ++ map path_line l.fn.counts.entries
