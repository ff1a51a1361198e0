use Rattle.std.proofs.Common.{◌≡◌, List, ◌∷◌, IfOk, subst, sym}
use Rattle.vfs_base.specs.declared.reply.Reply.{Reply}
use Rattle.vfs_model.specs.CopyCommands.{Reads, Writes}
use Rattle.vfs_model.specs.declared.shell_state.ShellState.{ShellState}
use Rattle.msh_text_commands.specs.CopyTalks.{copy_talk}
use Rattle.msh_text_commands.proofs.CopyKeeps.{copy_fed}
use Rattle.msh_text_commands.proofs.copies.CopyCommand.fed.Goals as goal

pub returns-in-Read : goal.returns-in-Read
returns-in-Read c =
    subst (λ self. IfOk c.copy_read.result (λ command. (state : ShellState) → (later : List Reply) → copy_talk command state later ≡ copy_talk self state (c.args.reply.now ∷ later)))
    (sym c.in-Read.is)
    (copy_fed c.in-Read.src c.in-Read.dst (Reads c.in-Read.offset) c.args.reply.now c.copy_read.result c.copy_read.ensures)

pub returns-in-Write : goal.returns-in-Write
returns-in-Write c =
    subst (λ self. IfOk c.copy_written.result (λ command. (state : ShellState) → (later : List Reply) → copy_talk command state later ≡ copy_talk self state (c.args.reply.now ∷ later)))
    (sym c.in-Write.is)
    (copy_fed c.in-Write.src c.in-Write.dst (Writes c.in-Write.offset c.in-Write.bytes) c.args.reply.now c.copy_written.result c.copy_written.ensures)
