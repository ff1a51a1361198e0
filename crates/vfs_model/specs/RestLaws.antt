-- Laws of the end: what it leaves in use, and what it does where nothing is in use.
use Rattle.std.specs.Prelude.{◌≡◌, ◌≢◌, true, []}
use Rattle.vfs_base.specs.declared.entry.Mark.{Mark}
use Rattle.vfs_base.specs.declared.entry.Who.{Who}
use Rattle.vfs_base.specs.declared.errno.Errno.TheVariants as errno
use Rattle.vfs_base.specs.declared.reply.Reply.TheVariants as reply
use Rattle.vfs_base.specs.declared.step.Step.TheVariants as step
use Rattle.vfs_model.specs.Asking.{is_at_rest}
use Rattle.vfs_model.specs.Consistency.{RowsUsed}
use Rattle.vfs_model.specs.UmountSteps.{come_to_rest}
use Rattle.vfs_model.specs.World.{world_step}
use Rattle.vfs_model.specs.declared.namespace.Namespace.{Namespace}
use Rattle.vfs_model.specs.declared.world.WorldState.{WorldState}

-- after a Shutdown that memory allows, no reference is left and each session is in `/`, whatever was in use before
abbrev pub ShutdownLeavesRest : Type 0
ShutdownLeavesRest = (w : WorldState) (asker : Who) (m : Mark) → (world_step w asker step.Shutdown m).reply ≢ reply.Refused errno.ENOMEM →
    is_at_rest (world_step w asker step.Shutdown m).next.namespace ≡ true

-- where nothing is in use and each live file is, there is nothing to bring to rest
abbrev pub RestStaysSame : Type 0
RestStaysSame = (n : Namespace) → RowsUsed n → is_at_rest n ≡ true → come_to_rest n ≡ record { next = n; changes = [] }
