use Rattle.std.proofs.Common.{◌<◌, ◌≤◌, sym, subst, ◌∙◌}
use Rattle.holders.proofs.Taking.{taken-all, taken-first, taken-more}
use Rattle.holders.proofs.moves.take_paths.Goals as goal

pub loop-place-init : goal.loop-place-init
loop-place-init c = taken-first c.args.paths.now c.args.news c.requires

pub loop-place-preserved : goal.loop-place-preserved
loop-place-preserved c =
    rw (c.take_path.ensures, c.replace.ensures.list)
    (taken-more c.loop-place.invariant (subst (λ n. c.loop-place.place < n) (c.len-place-end.ensures ∙ sym c.loop-place.invariant.size) c.loop-place-test.true) c.replace.result c.replace.ensures.value)

pub returns-clause-length : goal.returns-clause-length
returns-clause-length c = c.loop-place.invariant.count

pub returns-clause-paths : goal.returns-clause-paths
returns-clause-paths c = taken-all c.loop-place.invariant (subst (λ n. n ≤ c.loop-place.place) c.len-place-end.ensures c.loop-place-test.false)
