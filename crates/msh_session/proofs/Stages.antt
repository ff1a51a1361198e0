-- Where a session stands, and what it does from there.
use Rattle.std.proofs.Common.{◌≡◌, ◌∙◌, ℕ, true, false, Ok, Err, List, [], ◌∷◌, ◌++◌, refl, sym, ap}
use Rattle.vfs_base.specs.declared.reply.Reply.{Reply}
use Rattle.vfs_model.specs.Command.{command as command_of, line_talk, words_talk}
use Rattle.vfs_model.specs.Session.{SessionRun, block_before, is_pending, lines_run}
use Rattle.vfs_model.specs.Shown.{bad_line_text}
use Rattle.vfs_model.specs.Talk.{Answer}
use Rattle.vfs_model.specs.Words.{LineFault, line_words}
use Rattle.vfs_model.specs.declared.shell_state.Next.{Next}
use Rattle.vfs_model.specs.declared.shell_state.Next.TheVariants as next
use Rattle.vfs_model.specs.declared.shell_state.ShellState.{ShellState}
use Rattle.msh_commands.specs.CommandTalks.{command_talk}
use Rattle.msh_desk.specs.State.{state_of}
use Rattle.msh_commands.specs.declared.command.Command.{Command}
use Rattle.msh_session.proofs.Commands.{commands-rest}
use Rattle.msh_session.proofs.Heads.{head-asks, head-shows, line-head}
use Rattle.msh_session.specs.Blocks.{after_head, block_head}
use Rattle.msh_session.specs.SessionTalks.{is_ready, is_ready_stage, session_rest, stage_rest}
use Rattle.msh_session.specs.declared.session.Session.{Session}
use Rattle.msh_session.specs.declared.stage.Stage.{Stage}
use Rattle.msh_session.specs.declared.stage.Stage.TheVariants as stage

pub stage-ready : (at : Stage) (state : ShellState) (lines : List (List ℕ)) (replies : List Reply) → is_ready_stage at ≡ true →
    stage_rest at state lines replies ≡ lines_run lines state replies
stage-ready stage.Ready state lines replies e = refl
stage-ready (stage.Pending head command) state lines replies e = absurd (cc)
stage-ready (stage.GivenUp command) state lines replies e = absurd (cc)

-- a session with nothing pending runs the lines
pub ready-rest : (s : Session) (lines : List (List ℕ)) (replies : List Reply) → is_ready s ≡ true →
    session_rest s lines replies ≡ lines_run lines (state_of s.desk) replies
ready-rest s lines replies e = stage-ready s.stage (state_of s.desk) lines replies e

-- a line that is posted goes on as its command
pub posted-line : (s : Session) (line head : List ℕ) (words : List (List ℕ)) (command : Command) (middle : ShellState) →
    is_ready s ≡ true → head ≡ block_head (state_of s.desk).shown line → line_words line ≡ Ok words →
    ((later : List Reply) → command_talk command middle later ≡ command_of words (state_of s.desk) later) →
    (lines : List (List ℕ)) (replies : List Reply) →
    session_rest s (line ∷ lines) replies ≡ after_head head (command_talk command middle replies) (lines_run lines)
posted-line s line head words command middle ready same e begins lines replies =
    ready-rest s (line ∷ lines) replies ready
    ∙ line-head (state_of s.desk) line (line_talk line (state_of s.desk) replies) (lines_run lines)
    ∙ ap (λ found. after_head (block_head (state_of s.desk).shown line) (words_talk found (state_of s.desk) replies) (lines_run lines)) e
    ∙ ap (λ answer. after_head (block_head (state_of s.desk).shown line) answer (lines_run lines)) (sym (begins replies))
    ∙ ap (λ front. after_head front (command_talk command middle replies) (lines_run lines)) (sym same)

-- a line whose words are faulty shows its block
pub bad-line : (s : Session) (line head block : List ℕ) (fault : LineFault) →
    is_ready s ≡ true → head ≡ block_head (state_of s.desk).shown line → line_words line ≡ Err fault → block ≡ head ++ bad_line_text →
    (lines : List (List ℕ)) (replies : List Reply) →
    session_rest s (line ∷ lines) replies ≡ block_before block (session_rest s lines replies)
bad-line s line head block fault ready same e shown lines replies =
    ready-rest s (line ∷ lines) replies ready
    ∙ line-head (state_of s.desk) line (line_talk line (state_of s.desk) replies) (lines_run lines)
    ∙ ap (λ found. after_head (block_head (state_of s.desk).shown line) (words_talk found (state_of s.desk) replies) (lines_run lines)) e
    ∙ ap (λ front. block_before (front ++ bad_line_text) (lines_run lines (state_of s.desk) replies)) (sym same)
    ∙ ap (λ whole. block_before whole (lines_run lines (state_of s.desk) replies)) (sym shown)
    ∙ ap (block_before block) (sym (ready-rest s lines replies ready))

-- what a line's command stands for is what the line does
pub begun-line : (line : List ℕ) (words : List (List ℕ)) (state : ShellState) (replies : List Reply) → line_words line ≡ Ok words →
    line_talk line state replies ≡ command_of words state replies
begun-line line words state replies e = ap (λ found. words_talk found state replies) e

head-state : (head : List ℕ) (command : Command) (state : ShellState) →
    (after_head head (command_talk command state []) (lines_run [])).state ≡ state
head-state head command state =
    let answer = command_talk command state [] in
    elim answer.next as (λ x. answer.next ≡ x → (after_head head answer (lines_run [])).state ≡ state) [
      | next.Ask asked ↦ λ e. ap (λ r. r.state) (head-asks head asked answer (lines_run []) e) ∙ (commands-rest command).state state
      | next.Finished text ↦ λ e. ap (λ r. r.state) (head-shows head text answer (lines_run []) e) ∙ (commands-rest command).state state
    ] refl

stage-state : (at : Stage) (state : ShellState) → (stage_rest at state [] []).state ≡ state
stage-state stage.Ready state = refl
stage-state (stage.Pending head command) state = head-state head command state
stage-state (stage.GivenUp command) state = refl

-- with no further line and reply the shell is as it is
pub rest-state : (s : Session) → (session_rest s [] []).state ≡ state_of s.desk
rest-state s = stage-state s.stage (state_of s.desk)

head-more : (head : List ℕ) (answer : Answer) (more : List (List ℕ)) → is_pending (after_head head answer (lines_run [])) ≡ true →
    (after_head head answer (lines_run more) ≡ after_head head answer (lines_run [])) × ((after_head head answer (lines_run [])).blocks ≡ [])
head-more head answer more =
    elim answer.next as (λ x. answer.next ≡ x → is_pending (after_head head answer (lines_run [])) ≡ true →
    (after_head head answer (lines_run more) ≡ after_head head answer (lines_run [])) × ((after_head head answer (lines_run [])).blocks ≡ [])) [
      | next.Ask asked ↦ λ e h. (
        head-asks head asked answer (lines_run more) e ∙ sym (head-asks head asked answer (lines_run []) e),
        ap (λ r. r.blocks) (head-asks head asked answer (lines_run []) e),
      )
      | next.Finished text ↦ λ e h. let none = ap is_pending (head-shows head text answer (lines_run []) e) in absurd (cc)
    ] refl

stage-more : (at : Stage) (state : ShellState) (more : List (List ℕ)) → is_pending (stage_rest at state [] []) ≡ true →
    (stage_rest at state more [] ≡ stage_rest at state [] []) × ((stage_rest at state [] []).blocks ≡ [])
stage-more stage.Ready state more e = absurd (cc)
stage-more (stage.Pending head command) state more e = head-more head (command_talk command state []) more e
stage-more (stage.GivenUp command) state more e = absurd (cc)

-- lines behind a pending command change nothing before its reply, and no block is shown
pub pending-more : (s : Session) (more : List (List ℕ)) → is_pending (session_rest s [] []) ≡ true →
    (session_rest s more [] ≡ session_rest s [] []) × ((session_rest s [] []).blocks ≡ [])
pending-more s more e = stage-more s.stage (state_of s.desk) more e
