-- Short words for examples of lines of the shell.
use Rattle.std.specs.Prelude.{ℕ, List, [], ◌∷◌, ◌++◌}
use Rattle.hex.specs.Hex.{encode_with}
use Rattle.vfs_base.specs.declared.ids.HoldId.{HoldId}
use Rattle.vfs_base.specs.declared.reply.Reply.{Reply}
use Rattle.vfs_base.specs.declared.step.Step.{Step}
use Rattle.vfs_base.specs.declared.step.Step.TheVariants as step
use Rattle.vfs_model.specs.Command.{line_talk}
use Rattle.vfs_model.specs.CommandText.{line}
use Rattle.vfs_model.specs.Mappings.{add_mapping, check_mapping, may_map, remove_mapping}
use Rattle.vfs_model.specs.OpenFiles.{add_file, close_file, dup_file, seek, set_place}
use Rattle.vfs_model.specs.Talk.{Answer}
use Rattle.vfs_model.specs.declared.shell_state.Next.{Next}
use Rattle.vfs_model.specs.declared.shell_state.Next.TheVariants as next
use Rattle.vfs_model.specs.declared.shell_state.ShellState.{ShellState}

-- a line, and the replies to its steps
pub record Posted : Type 0 where
  pub line : List ℕ
  pub replies : List Reply

abbrev pub posts : List ℕ → List Reply → Posted
posts line replies = record { line = line; replies = replies }

-- what is asked, and what is owed if the command is given up there
pub record Moment : Type 0 where
  pub next : Next
  pub own : List Step

abbrev pub moment : Answer → Moment
moment answer = record { next = answer.next; own = answer.own }

-- what a line asks, one step after the other, and what it shows
abbrev pub moments_from : ShellState → List ℕ → List Reply → List Reply → List Moment
moments_from state text front [] = moment (line_talk text state front) ∷ []
moments_from state text front (reply ∷ replies) =
    moment (line_talk text state front) ∷ moments_from state text (front ++ reply ∷ []) replies

-- the same of lines one after the other
abbrev pub moments : ShellState → List Posted → List (List Moment)
moments state [] = []
moments state (posted ∷ later) =
    moments_from state posted.line [] posted.replies ∷ moments (line_talk posted.line state posted.replies).state later

abbrev pub shell_after : ShellState → List Posted → ShellState
shell_after state [] = state
shell_after state (posted ∷ later) = shell_after (line_talk posted.line state posted.replies).state later

abbrev pub asks : Step → Moment
asks asked = record { next = next.Ask asked; own = [] }

-- the step gives up a reference that only the command has
abbrev pub gives_up : Step → Moment
gives_up asked = record { next = next.Ask asked; own = asked ∷ [] }

abbrev pub holds : List HoldId → Step → Moment
holds own asked = record { next = next.Ask asked; own = closes own }
  where
    closes : List HoldId → List Step
    closes [] = []
    closes (hold ∷ more) = step.Close hold ∷ closes more

abbrev pub ends : List ℕ → Moment
ends text = record { next = next.Finished text; own = [] }

-- a text of one line
abbrev pub says : List ℕ → Moment
says text = ends (line text)

abbrev pub nothing : Moment
nothing = ends []

-- what an example computes with: a theorem unfolds it by the line `unfolding shell`
unfoldable pub shell : Unit {0}
unfolding encode_with add_file close_file dup_file seek set_place may_map add_mapping check_mapping remove_mapping
shell = tt
