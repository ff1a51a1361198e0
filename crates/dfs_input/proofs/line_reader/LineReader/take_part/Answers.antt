use Rattle.std.proofs.Common.{◌+◌, ◌++◌, [], ◌∷◌, take, drop, ap, arith, rules, append-nil, length-append, sym}
use Rattle.std.proofs.lemmas.Result.{err_from_is_err_and}
use Rattle.dfs_input.specs.LineReader.{SplitsAtFeed, ReaderState}
use Rattle.dfs_input.proofs.LineReaderLemmas.{StopsAtBadLine-past, StopsAtBadLine-far, is_bad_line-feed}
use Rattle.dfs_input.proofs.line_reader.LineReader.take_part.Goals as goal

pub returns-in_err-hold-in-Some-clause-stop : goal.returns-in_err-hold-in-Some-clause-stop
returns-in_err-hold-in-Some-clause-stop c =
    let reader = c.args.self.now in
    let split : SplitsAtFeed reader.buffered c.in-Some.at = rw c.buffered.ensures at c.in-Some.ensures.some in
    let past = rw (c.size.ensures.value, c.buffered-in-Some.ensures) at c.in_err-hold-in-Some.ensures.stop in
    let p = err_from_is_err_and c.from_residual.result c.from_residual.ensures.1 in
    rw (p.1, p.2) (StopsAtBadLine-past reader.size c.args.held.now (take c.in-Some.at reader.buffered) (10 ∷ drop (c.in-Some.at + 1) reader.buffered) reader.buffered c.requires.unended split.unended (omega arith) split.feed _ past)

pub returns-in_err-count_line-in-Some-clause-stop :
    goal.returns-in_err-count_line-in-Some-clause-stop
returns-in_err-count_line-in-Some-clause-stop c =
    let reader = c.args.self.now in
    let split : SplitsAtFeed reader.buffered c.in-Some.at = rw c.buffered.ensures at c.in-Some.ensures.some in
    let far = rw (c.len.ensures, c.in_ok-hold-in-Some.ensures.ok, c.buffered-in-Some.ensures) at c.in_err-count_line-in-Some.ensures.stop in
    let p = err_from_is_err_and c.from_residual-in_err-count_line-in-Some.result c.from_residual-in_err-count_line-in-Some.ensures.1 in
    rw (p.1, p.2) (StopsAtBadLine-far reader.size c.args.held.now (take c.in-Some.at reader.buffered) (drop (c.in-Some.at + 1) reader.buffered) reader.buffered c.requires.unended split.unended split.feed _ far)

pub returns-in_err-hold-in-None-clause-stop : goal.returns-in_err-hold-in-None-clause-stop
returns-in_err-hold-in-None-clause-stop c =
    let reader = c.args.self.now in
    let past = rw (c.size-in-None.ensures.value, c.buffered-in-None.ensures) at c.in_err-hold-in-None.ensures.stop in
    let p = err_from_is_err_and c.from_residual-in_err-hold-in-None.result c.from_residual-in_err-hold-in-None.ensures.1 in
    rw (p.1, p.2) (StopsAtBadLine-past reader.size c.args.held.now reader.buffered [] reader.buffered c.requires.unended (rw c.buffered.ensures at c.in-None.ensures.none) (omega arith) (sym (append-nil reader.buffered)) _ past)

pub returns-in_ok-count_line-in-Some-clause-ended :
    goal.returns-in_ok-count_line-in-Some-clause-ended
returns-in_ok-count_line-in-Some-clause-ended c = λ _.
    let reader = c.args.self.now in
    let line = c.args.held.now ++ take c.in-Some.at reader.buffered in
    let within = rw (c.size.ensures.value, c.in_ok-hold-in-Some.ensures.ok, c.buffered-in-Some.ensures) at c.in_ok-hold-in-Some.ensures.form in
    let len = rw (c.in_ok-hold-in-Some.ensures.ok, c.buffered-in-Some.ensures) at c.len.ensures in
    let counted = ap (λ (r : ReaderState). r.size) c.in_ok-count_line-in-Some.ensures.ok in
    let consumed = ap (λ (r : ReaderState). r.size) c.consume.ensures in
    record {
      part = take c.in-Some.at reader.buffered;
      feed = search rules;
      unended = search rules;
      text = search rules;
      form = is_bad_line-feed reader.size line within (omega (arith, counted, c.in_ok-count_line-in-Some.ensures.within));
      number = search rules;
      size = omega (arith, counted, consumed, length-append line (10 ∷ []));
      within = omega (arith, counted, consumed, c.in_ok-count_line-in-Some.ensures.within);
    }
