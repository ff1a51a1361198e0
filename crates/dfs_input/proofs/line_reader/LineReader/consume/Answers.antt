use Rattle.std.proofs.Common.{◌+◌, ◌≤◌, refl, arith}
use Rattle.dfs_input.proofs.LineReaderLemmas.{drop-slice_range, length-slice_range}
use Rattle.dfs_input.proofs.line_reader.LineReader.consume.Goals as goal

pub returns : goal.returns
returns c =
    let reader = c.self.inside in
    let fits : reader.start + c.args.count ≤ reader.end = omega (arith, rw (← c.self.view_is) at c.requires, length-slice_range reader.buffer reader.start reader.end) in
    rw (← c.self.view_is, drop-slice_range reader.buffer reader.start reader.end c.args.count fits) refl
