use Rattle.std.proofs.Common.{◌≡◌, IfOk, subst, sym}
use Rattle.vfs_model.specs.CopyCommands.{destination_opened}
use Rattle.msh_text_commands.specs.CopyTalks.{copy_talk, file_of}
use Rattle.msh_text_commands.proofs.copies.destination_opened.Goals as goal

pub returns-in-Opened : goal.returns-in-Opened
returns-in-Opened c =
    subst (λ reply. IfOk c.copy_from_start.result (λ next. copy_talk next ≡ destination_opened (file_of c.args.src) c.args.word reply))
    (sym c.in-Opened.is) c.copy_from_start.ensures
