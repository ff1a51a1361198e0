-- Who takes a step of which form, and what a reply tells of a folder.
use Rattle.std.specs.Prelude.{◌≡◌, ◌≤◌, ◌||◌, true, is_some, length}
use Rattle.vfs_base.specs.Path.{printed}
use Rattle.vfs_base.specs.declared.entry.Who.{Who}
use Rattle.vfs_base.specs.declared.entry.Who.TheVariants as who
use Rattle.vfs_base.specs.declared.limits.TheConstants.{PATH_MAX}
use Rattle.vfs_base.specs.declared.reply.Reply.{Reply}
use Rattle.vfs_base.specs.declared.reply.Reply.TheVariants as reply
use Rattle.vfs_base.specs.declared.step.Step.{Step}
use Rattle.vfs_model.specs.NamespaceStep.{is_shutdown}
use Rattle.vfs_model.specs.World.{step_row}

-- a session takes any step, and who is none takes a file's step, the worker's, or the end's
abbrev pub MayTake : Who → Step → Type 0
MayTake (who.Session k) asked = Unit {0}
MayTake _ asked = (is_some (step_row asked) || is_shutdown asked) ≡ true

-- the printed path of a folder that is told is not too long
abbrev pub TellsFolder : Reply → Type 0
TellsFolder (reply.At path) = length (printed path) ≤ PATH_MAX
TellsFolder _ = Unit {0}
