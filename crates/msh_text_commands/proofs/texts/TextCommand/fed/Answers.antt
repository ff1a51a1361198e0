use Rattle.std.proofs.Common.{◌≡◌, List, ◌∷◌, IfOk, subst, sym}
use Rattle.vfs_base.specs.declared.reply.Reply.{Reply}
use Rattle.vfs_model.specs.declared.shell_state.ShellState.{ShellState}
use Rattle.msh_text_commands.specs.TextTalks.{text_talk}
use Rattle.msh_text_commands.proofs.TextKeeps.{cat_fed, echo_fed}
use Rattle.msh_text_commands.proofs.texts.TextCommand.fed.Goals as goal

pub returns-in-CatRead : goal.returns-in-CatRead
returns-in-CatRead c =
    subst (λ self. IfOk c.cat_read.result (λ command. (state : ShellState) → (later : List Reply) → text_talk command state later ≡ text_talk self state (c.args.reply.now ∷ later)))
    (sym c.in-CatRead.is) (cat_fed c.in-CatRead.reading c.args.reply.now c.cat_read.result c.cat_read.ensures)

pub returns-in-EchoAppend : goal.returns-in-EchoAppend
returns-in-EchoAppend c =
    subst (λ self. IfOk c.echo_appended.result (λ command. (state : ShellState) → (later : List Reply) → text_talk command state later ≡ text_talk self state (c.args.reply.now ∷ later)))
    (sym c.in-EchoAppend.is)
    (echo_fed c.in-EchoAppend.word c.in-EchoAppend.hold c.in-EchoAppend.file c.in-EchoAppend.bytes c.args.reply.now c.echo_appended.result c.echo_appended.ensures)
