use Rattle.std.proofs.Common.{arith, rules}
use Rattle.std.proofs.lemmas.Result.{err_from_is_err_and}
use Rattle.dfs_input.proofs.LineReaderLemmas.{BeginsBad-long, StopsAtLastLine-far}
use Rattle.dfs_input.proofs.line_reader.LineReader.last_line.Goals as goal

pub returns-then-len-gt-LINE_MAX-clause-stop : goal.returns-then-len-gt-LINE_MAX-clause-stop
returns-then-len-gt-LINE_MAX-clause-stop c = BeginsBad-long c.args.self.now.size c.args.held c.requires.unended (omega arith)

pub returns-in_err-count_line-clause-stop : goal.returns-in_err-count_line-clause-stop
returns-in_err-count_line-clause-stop c =
    let p = err_from_is_err_and c.from_residual.result c.from_residual.ensures.1 in
    let far = rw c.len-2.ensures at c.in_err-count_line.ensures.stop in
    rw (p.1, p.2) (StopsAtLastLine-far c.args.self.now.size c.args.held c.requires.unended (search rules) _ far)
