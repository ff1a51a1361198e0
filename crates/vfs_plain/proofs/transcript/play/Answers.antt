use Rattle.std.proofs.lemmas.Result.{err_from_is_err_and}
use Rattle.vfs_plain.proofs.transcript.play.Goals as goal

pub returns-in_err-take_all : goal.returns-in_err-take_all
returns-in_err-take_all c =
    let p = err_from_is_err_and c.from_residual.result c.from_residual.ensures.1 in
    rw (p.1, p.2) c.in_err-take_all.ensures.taken
