use Rattle.std.proofs.Common.{rules, arith, ap}
use Rattle.std.proofs.lemmas.Result.{err_from_is_err_and}
use Rattle.dfs_input.specs.LineReader.{ReaderState}
use Rattle.dfs_input.proofs.LineReaderLemmas.{Holding-filled, Holding-more, HoldsAll-some, ReadsLine-feed, StopsReading-bad, line-last, StopsInLine-failed}
use Rattle.dfs_input.proofs.line_reader.LineReader.next_line.Goals as goal

pub returns-in_err-fill-clause-stop : goal.returns-in_err-fill-clause-stop
returns-in_err-fill-clause-stop g c =
    let p = err_from_is_err_and c.from_residual.result c.from_residual.ensures.1 in
    let failed = c.in_err-fill.ensures in
    let holding = c.loop-held.invariant.holding in
    let size = ap (λ (r : ReaderState). r.size) failed.err.0 in
    rw (p.1, p.2, failed.err.0) (StopsInLine-failed holding (omega (arith, failed.within, size, holding.size)) failed.err.1 failed.err.2 failed.left)

pub returns-in_err-take_part-clause-stop : goal.returns-in_err-take_part-clause-stop
returns-in_err-take_part-clause-stop g c =
    let p = err_from_is_err_and c.from_residual-in_err-take_part.result c.from_residual-in_err-take_part.ensures.1 in
    rw (p.1, p.2) (StopsReading-bad (Holding-filled c.loop-held.invariant.holding c.in_ok-fill.ensures.ok) _ _ c.in_err-take_part.ensures.stop)

pub returns-then-branch-2-clause-line : goal.returns-then-branch-2-clause-line
returns-then-branch-2-clause-line g c =
    ReadsLine-feed (Holding-filled c.loop-held.invariant.holding c.in_ok-fill.ensures.ok) (c.in_ok-take_part.ensures.ended c.if-branch-2.true) c.take_part.ensures.at_end

pub loop-held-preserved : goal.loop-held-preserved
loop-held-preserved g c =
    let all = c.in_ok-take_part.ensures.more c.if-branch-2.false in
    record {
      holding = Holding-more (Holding-filled c.loop-held.invariant.holding c.in_ok-fill.ensures.ok) all;
      fresh = λ none. absurd (HoldsAll-some all (c.in_ok-fill.ensures.some.0 c.if-branch.true) none);
      at_end = search rules;
      again = search rules;
      sees = search rules;
      tells = search rules;
      faults = search rules;
    }

pub returns-clause-line : goal.returns-clause-line
returns-clause-line g c =
    line-last (Holding-filled c.loop-held.invariant.holding c.in_ok-fill.ensures.ok) (search rules) (search rules) _ c.last_line.result c.last_line.ensures.some
