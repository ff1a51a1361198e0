-- What a talk leaves where no further reply comes.
use Rattle.std.proofs.Common.{◌≡◌, ℕ, List, [], refl}
use Rattle.vfs_base.specs.declared.reply.Reply.{Reply}
use Rattle.vfs_base.specs.declared.reply.Reply.TheVariants as reply
use Rattle.vfs_model.specs.FolderCommands.{done_or_fails}
use Rattle.vfs_model.specs.Talk.{Talk}
use Rattle.vfs_model.specs.declared.shell_state.ShellState.{ShellState}

-- with no further reply the talk leaves this state, and has no reference
abbrev pub Leaves : Talk → ShellState → ShellState → Type 0
Leaves talk state left = ((talk state []).state ≡ left) × ((talk state []).own ≡ [])

pub done_leaves : (name subject : List ℕ) (reply : Reply) (state : ShellState) → Leaves (done_or_fails name subject reply) state state
done_leaves name subject (reply.Refused errno) state = (refl, refl)
done_leaves name subject _ state = (refl, refl)
