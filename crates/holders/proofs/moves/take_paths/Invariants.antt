use Rattle.holders.proofs.Taking.{Taken}
use Rattle.holders.proofs.moves.take_paths.Given as goal

abbrev pub invariant-loop-place : goal.invariant-loop-place
invariant-loop-place l = Taken l.initial.paths l.initial.news l.place l.paths l.news
