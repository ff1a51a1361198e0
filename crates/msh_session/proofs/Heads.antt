-- A block in its parts, and a command behind the head of its block.
use Rattle.std.proofs.Common.{◌≡◌, ◌∙◌, ℕ, Bool, true, false, Some, None, Err, Ok, Result, List, [], ◌∷◌, ◌++◌, refl, sym, ap, codes, append_assoc}
use Rattle.std.specs.Prelude.{is_some}
use Rattle.vfs_base.specs.Path.{Path, printed}
use Rattle.vfs_base.specs.declared.reply.Reply.{Reply}
use Rattle.vfs_base.specs.declared.step.Step.{Step}
use Rattle.vfs_model.specs.CommandText.{whole_lines}
use Rattle.vfs_model.specs.Session.{SessionRun, after_line, block_before, block_of, lines_run}
use Rattle.vfs_model.specs.ShellLaws.{is_finished}
use Rattle.vfs_model.specs.Talk.{Answer, shows}
use Rattle.vfs_model.specs.declared.shell_state.Next.{Next}
use Rattle.vfs_model.specs.declared.shell_state.Next.TheVariants as next
use Rattle.vfs_model.specs.declared.shell_state.ShellState.{ShellState}
use Rattle.msh_commands.specs.CommandTalks.{command_talk}
use Rattle.msh_desk.specs.FitsReply.{TakesReply}
use Rattle.msh_commands.specs.declared.command.Command.{Command}
use Rattle.msh_session.proofs.Commands.{commands-rest}
use Rattle.msh_session.specs.Blocks.{after_head, block_head}
use Rattle.msh_session.specs.SessionTalks.{FitsWanted, given_up, stopped}

-- the run of a command that asks
abbrev pub asked_run : Step → Answer → SessionRun
asked_run asked answer = record { blocks = []; wanted = Some asked; own = answer.own; state = answer.state; left = [] }

pub head-asks : (head : List ℕ) (asked : Step) (answer : Answer) (later : ShellState → List Reply → SessionRun) →
    answer.next ≡ next.Ask asked → after_head head answer later ≡ asked_run asked answer
head-asks head asked answer later e = rw e refl

pub head-shows : (head text : List ℕ) (answer : Answer) (later : ShellState → List Reply → SessionRun) →
    answer.next ≡ next.Finished text → after_head head answer later ≡ block_before (head ++ whole_lines text) (later answer.state answer.left)
head-shows head text answer later e = rw e refl

line-asks : (state : ShellState) (line : List ℕ) (asked : Step) (answer : Answer) (later : ShellState → List Reply → SessionRun) →
    answer.next ≡ next.Ask asked → after_line state line answer later ≡ asked_run asked answer
line-asks state line asked answer later e = rw e refl

line-shows : (state : ShellState) (line text : List ℕ) (answer : Answer) (later : ShellState → List Reply → SessionRun) →
    answer.next ≡ next.Finished text → after_line state line answer later ≡ block_before (block_of state.shown line text) (later answer.state answer.left)
line-shows state line text answer later e = rw e refl

block-parts : (shown : Path) (line text : List ℕ) → block_of shown line text ≡ block_head shown line ++ whole_lines text
block-parts shown line text = sym (append_assoc (codes "msh " ++ printed shown ++ codes ">" ++ line) (10 ∷ []) (whole_lines text))

-- a line's block begins with the prompt and the line
pub line-head : (state : ShellState) (line : List ℕ) (answer : Answer) (later : ShellState → List Reply → SessionRun) →
    after_line state line answer later ≡ after_head (block_head state.shown line) answer later
line-head state line answer later =
    elim answer.next as (λ x. answer.next ≡ x → after_line state line answer later ≡ after_head (block_head state.shown line) answer later) [
      | next.Ask asked ↦ λ e. line-asks state line asked answer later e ∙ sym (head-asks (block_head state.shown line) asked answer later e)
      | next.Finished text ↦ λ e.
          line-shows state line text answer later e
          ∙ ap (λ block. block_before block (later answer.state answer.left)) (block-parts state.shown line text)
          ∙ sym (head-shows (block_head state.shown line) text answer later e)
    ] refl

-- a command that is finished has its block, whatever comes behind
pub finished-block : (head text block : List ℕ) (command : Command) →
    ((state : ShellState) → (command_talk command state []).next ≡ next.Finished text) → block ≡ head ++ whole_lines text →
    (state : ShellState) (replies : List Reply) (later : ShellState → List Reply → SessionRun) →
    after_head head (command_talk command state replies) later ≡ block_before block (later state replies)
finished-block head text block command ends same state replies later =
    ap (λ answer. after_head head answer later) ((commands-rest command).finished state state text replies (ends state))
    ∙ ap (λ whole. block_before whole (later state replies)) (sym same)

pub asks-on : (command : Command) (asked : Step) → ((state : ShellState) → (command_talk command state []).next ≡ next.Ask asked) →
    (state : ShellState) → is_finished (command_talk command state []).next ≡ false
asks-on command asked asks state = ap is_finished (asks state)

-- a command that isn't finished wants a step
pub asking-wants : (head : List ℕ) (answer : Answer) (later : ShellState → List Reply → SessionRun) →
    is_finished answer.next ≡ false → is_some (after_head head answer later).wanted ≡ true
asking-wants head answer later = elim answer.next as (λ x. answer.next ≡ x → is_finished x ≡ false → is_some (after_head head answer later).wanted ≡ true) [
  | next.Ask asked ↦ λ e h. ap (λ r. is_some r.wanted) (head-asks head asked answer later e)
  | next.Finished text ↦ λ e h. absurd (cc)
] refl

-- the step that is asked is wanted
pub wanted-asked : (head : List ℕ) (asked : Step) (answer : Answer) (later : ShellState → List Reply → SessionRun) →
    answer.next ≡ next.Ask asked → Some asked ≡ (after_head head answer later).wanted
wanted-asked head asked answer later e = sym (ap (λ r. r.wanted) (head-asks head asked answer later e))

pub wanted-shown : (head text : List ℕ) (answer : Answer) →
    answer.next ≡ next.Finished text → None ≡ (after_head head answer (lines_run [])).wanted
wanted-shown head text answer e = sym (ap (λ r. r.wanted) (head-shows head text answer (lines_run []) e))

-- a reply that fits what is wanted fits what is asked
pub wanted-takes : (head : List ℕ) (answer : Answer) (reply : Reply) →
    FitsWanted (after_head head answer (lines_run [])).wanted reply → TakesReply answer.next reply
wanted-takes head answer reply = elim answer.next as (λ x. answer.next ≡ x → FitsWanted (after_head head answer (lines_run [])).wanted reply → TakesReply x reply) [
  | next.Ask asked ↦ λ e h. rw (head-asks head asked answer (lines_run []) e) at h
  | next.Finished text ↦ λ e h. absurd (rw (head-shows head text answer (lines_run []) e) at h)
] refl

-- a pending command is given up as it stands
pub pending-stops : (head : List ℕ) (command : Command) (state : ShellState) (replies : List Reply) →
    is_some (after_head head (command_talk command state []) (lines_run [])).wanted ≡ true →
    record { blocks = []; wanted = None; own = (command_talk command state []).own; state = state; left = replies }
    ≡ given_up (after_head head (command_talk command state []) (lines_run [])) replies
pending-stops head command state replies =
    let answer = command_talk command state [] in
    elim answer.next as (λ x. answer.next ≡ x → is_some (after_head head answer (lines_run [])).wanted ≡ true →
    record { blocks = []; wanted = None; own = answer.own; state = state; left = replies } ≡ given_up (after_head head answer (lines_run [])) replies) [
      | next.Ask asked ↦ λ e h.
          ap (λ same. record { blocks = []; wanted = None; own = answer.own; state = same; left = replies }) (sym ((commands-rest command).state state))
          ∙ sym (ap (λ r. given_up r replies) (head-asks head asked answer (lines_run []) e))
      | next.Finished text ↦ λ e h.
          let none = ap (λ r. is_some r.wanted) (head-shows head text answer (lines_run []) e) in absurd (cc)
    ] refl
