use Rattle.std.proofs.Common.{◌∙◌, ◌++◌, ap}
use Rattle.vfs_model.specs.CommandText.{whole_lines}
use Rattle.msh_session.proofs.Heads.{finished-block}
use Rattle.msh_session.proofs.turn.turn_of.Goals as goal

pub returns : goal.returns
returns c =
    finished-block c.args.head c.in-Finished.text c.in_ok-block-in-Finished.block c.args.command.now
    (λ state. c.in_ok-next.ensures state ∙ c.in-Finished.is)
    (c.in_ok-block-in-Finished.ensures ∙ ap (λ text. c.args.head ++ whole_lines text) c.as_slice.ensures)
