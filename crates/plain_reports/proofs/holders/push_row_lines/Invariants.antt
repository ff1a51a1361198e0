use Rattle.std.proofs.Common.{◌≡◌, ◌++◌, map}
use Rattle.vfs_model.specs.Holders.{row_line}
use Rattle.plain_reports.proofs.holders.push_row_lines.Given as goal

abbrev pub invariant-loop-row : goal.invariant-loop-row
invariant-loop-row l = l.lines ++ map row_line l.row-iterator ≡ l.initial.lines ++ map row_line l.fn.counts.entries
