use Rattle.std.proofs.Common.{◌≡◌, [], drop, fold}
use Rattle.std.specs.FinMap.Entries.{put}
use Rattle.std.specs.Ordering.{nat_cmp}
use Rattle.plain_reports.proofs.tables.by_row.Given as goal

abbrev pub invariant-loop-file : goal.invariant-loop-file
invariant-loop-file l =
    fold (λ found file. put nat_cmp file.row file found) l.found.entries (drop l.file-index l.files)
    ≡ fold (λ found file. put nat_cmp file.row file found) [] l.files
