-- Which replies a command takes. A reply of a form that the step doesn't have ends the command, and needs nothing.
use Rattle.vfs_base.specs.declared.reply.Reply.{Reply}
use Rattle.vfs_model.specs.StepForms.{TellsFolder}
use Rattle.vfs_model.specs.declared.shell_state.Next.{Next}
use Rattle.vfs_model.specs.declared.shell_state.Next.TheVariants as next

-- a step is asked, and the reply to it tells no folder of a path that is too long
abbrev pub TakesReply : Next → Reply → Type 0
TakesReply (next.Ask step) reply = TellsFolder reply
TakesReply (next.Finished text) reply = ⊥
