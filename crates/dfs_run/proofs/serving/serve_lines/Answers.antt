use Rattle.std.proofs.Common.{refl}
use Rattle.dfs_run.proofs.ServingLemmas.{Serves-refl, Stops-after}
use Rattle.dfs_run.proofs.serving.serve_lines.Goals as goal

pub lines-init : goal.lines-init
lines-init g c = record { serves = Serves-refl _; knows = λ known. known; source_quiet = refl; sink_quiet = refl }

pub returns-in-Err-clause-stop : goal.returns-in-Err-clause-stop
returns-in-Err-clause-stop g c = Stops-after _ _ _ _ _ c.in-Err.stop c.lines.invariant.serves c.in-Err.ensures.stop
