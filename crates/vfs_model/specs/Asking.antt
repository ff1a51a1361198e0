-- Who may ask which step, and lists of steps.
use Rattle.std.specs.Prelude.{◌≡◌, ℕ, ◌==◌, Bool, true, false, not, ◌&&◌, ◌||◌, is_none, Option, Some, None, List, [], ◌∷◌}
use Rattle.std.specs.List.{list_any, list_all}
use Rattle.vfs_base.specs.declared.entry.Mark.{Mark}
use Rattle.vfs_base.specs.declared.entry.Who.{Who}
use Rattle.vfs_base.specs.declared.entry.Who.TheVariants as who
use Rattle.vfs_base.specs.declared.ids.FileId.{FileId}
use Rattle.vfs_base.specs.declared.reply.Reply.{Reply}
use Rattle.vfs_base.specs.declared.step.Step.{Step}
use Rattle.vfs_base.specs.declared.step.Step.TheVariants as step
use Rattle.vfs_model.specs.FileStep.{step_file}
use Rattle.vfs_model.specs.Namespace.{references_of, same_path}
use Rattle.vfs_model.specs.NamespaceStep.{is_shutdown}
use Rattle.vfs_model.specs.World.{step_row, world_step}
use Rattle.vfs_model.specs.declared.namespace.Namespace.{Namespace}
use Rattle.vfs_model.specs.declared.namespace.Reference.{Reference}
use Rattle.vfs_model.specs.declared.world.WorldState.{WorldState}

abbrev pub names_file : FileId → Option Reference → Bool
names_file id None = false
names_file id (Some reference) = reference.file.row == id.row && reference.file.generation == id.generation

-- the session has a reference to the file
abbrev pub has_file : Namespace → ℕ → FileId → Bool
has_file n k id = list_any (names_file id) (references_of n k)

-- the steps of a file for which no reference is needed
abbrev pub needs_no_reference : Step → Bool
needs_no_reference (step.Size id) = true
needs_no_reference (step.Sync id) = true
needs_no_reference _ = false

abbrev pub may_ask_file : Namespace → ℕ → Step → Option FileId → Bool
may_ask_file n k asked None = is_none (step_row asked) && not (is_shutdown asked)
may_ask_file n k asked (Some id) = needs_no_reference asked || has_file n k id

abbrev pub is_flush_of : ℕ → Step → Bool
is_flush_of row (step.Flush other) = other == row
is_flush_of row _ = false

abbrev pub is_reclaim_of : ℕ → Step → Bool
is_reclaim_of row (step.Reclaim other) = other == row
is_reclaim_of row _ = false

-- no reference is left, and each session is in `/`
abbrev pub is_at_rest : Namespace → Bool
is_at_rest n = list_all is_none n.references && list_all (same_path []) n.working_directories

-- A session asks a step of the namespace, the size or the write-back of any file, and another step of a file that
-- it has a reference to. The worker asks what its name says of its row, and the end asks Shutdown.
unfoldable pub may_ask : WorldState → Who → Step → Bool
may_ask w (who.Session k) asked = may_ask_file w.namespace k asked (step_file asked)
may_ask w (who.Flush row) asked = is_flush_of row asked
may_ask w (who.Reclaim row) asked = is_reclaim_of row asked
may_ask w who.End asked = is_shutdown asked && is_at_rest w.namespace

abbrev pub MayAsk : WorldState → Who → Step → Type 0
MayAsk w asker asked = may_ask w asker asked ≡ true

-- A step that is asked: by whom, which one, and how it comes out.
pub record Asked : Type 0 where
  pub who : Who
  pub step : Step
  pub mark : Mark

-- what a list of steps answers, and the world that it leaves
pub record RunOutcome : Type 0 where
  pub replies : List Reply
  pub next : WorldState

abbrev pub before_replies : Reply → RunOutcome → RunOutcome
before_replies reply run = record run { replies = reply ∷ run.replies }

-- the steps one after the other
abbrev pub run_steps : WorldState → List Asked → RunOutcome
run_steps w [] = record { replies = []; next = w }
run_steps w (asked ∷ later) =
    let outcome = world_step w asked.who asked.step asked.mark in
    before_replies outcome.reply (run_steps outcome.next later)
