-- One step of the plain world, and who may ask it.
use Rattle.std.specs.Prelude.{◌≡◌, ℕ, Bool, true, false, Option, Some, None, fold, if◌then◌else◌}
use Rattle.vfs_base.specs.declared.entry.Mark.{Mark}
use Rattle.vfs_base.specs.declared.entry.Who.{Who}
use Rattle.vfs_base.specs.declared.entry.Who.TheVariants as who
use Rattle.vfs_base.specs.declared.ids.FileId.{FileId}
use Rattle.vfs_base.specs.declared.reply.Reply.{Reply}
use Rattle.vfs_base.specs.declared.reply.Reply.TheVariants as reply
use Rattle.vfs_base.specs.declared.step.Step.{Step}
use Rattle.vfs_base.specs.declared.step.Step.TheVariants as step
use Rattle.vfs_model.specs.FileLife.{volume_named}
use Rattle.vfs_model.specs.FileMoves.{file_step, fits_file}
use Rattle.vfs_model.specs.FileStep.{FileOutcome, step_file}
use Rattle.vfs_model.specs.NamespaceOutcome.{NamespaceOutcome}
use Rattle.vfs_model.specs.NamespaceStep.{fits_namespace, namespace_step}
use Rattle.vfs_model.specs.declared.world.WorldState.{WorldState}
use Rattle.vfs_model.specs.Homes.{change_row, file_at, with_empty_cells, with_file}

abbrev pub is_done : Reply → Bool
is_done reply.Done = true
is_done _ = false

-- formatting a volume takes the bytes of its files
abbrev pub after_format : WorldState → Step → Reply → WorldState
after_format w (step.Mkfs name) answer =
    if is_done answer then record w { homes = with_empty_cells w.homes (volume_named w.namespace name) } else w
after_format w _ answer = w

-- what a step answers, and the world that it leaves
pub record WorldOutcome : Type 0 where
  pub reply : Reply
  pub next : WorldState

-- a step of the namespace, and then its changes of rows in their order
abbrev pub namespace_part : WorldState → NamespaceOutcome → Step → WorldOutcome
namespace_part w outcome asked = record {
  reply = outcome.reply;
  next = after_format (fold change_row (record w { namespace = outcome.next }) outcome.changes) asked outcome.reply;
}

-- a step of one file
abbrev pub file_part : WorldState → ℕ → FileOutcome → WorldOutcome
file_part w row outcome = record { reply = outcome.reply; next = with_file w row outcome.next }

-- the row of a file's step or of the worker's
abbrev pub step_row : Step → Option ℕ
step_row (step.Flush row) = Some row
step_row (step.Reclaim row) = Some row
step_row asked = row_of (step_file asked)
  where
    row_of : Option FileId → Option ℕ
    row_of None = None
    row_of (Some id) = Some id.row

abbrev pub session_of : Who → ℕ
session_of (who.Session k) = k
session_of (who.Flush row) = 0
session_of (who.Reclaim row) = 0
session_of who.End = 0

abbrev pub step_on : WorldState → ℕ → Step → Mark → Option ℕ → WorldOutcome
step_on w k asked m None = namespace_part w (namespace_step w.namespace k asked m) asked
step_on w k asked m (Some row) = file_part w row (file_step (file_at w row) asked m)

-- what a step answers, and the world that it leaves
unfoldable pub world_step : WorldState → Who → Step → Mark → WorldOutcome
world_step w asker asked m = step_on w (session_of asker) asked m (step_row asked)

abbrev pub fits_on : WorldState → ℕ → Step → Mark → Option ℕ → Bool
fits_on w k asked m None = fits_namespace w.namespace k asked m
fits_on w k asked m (Some row) = fits_file (file_at w row) asked m

-- a mark that a step may have
unfoldable pub fits_step : WorldState → Who → Step → Mark → Bool
fits_step w asker asked m = fits_on w (session_of asker) asked m (step_row asked)

abbrev pub FitsStep : WorldState → Who → Step → Mark → Type 0
FitsStep w asker asked m = fits_step w asker asked m ≡ true
