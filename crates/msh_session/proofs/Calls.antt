-- What the calls of a session leave.
use Rattle.std.proofs.Common.{◌≡◌, ◌∙◌, ℕ, true, false, ◌⊎◌, inl, inr, Option, None, Result, Ok, Err, IfOk, OnErr, List, [], ◌∷◌, refl, sym, ap, subst}
use Rattle.std.specs.Option.{option_to_list}
use Rattle.vfs_base.specs.declared.no_memory.NoMemory.{NoMemory}
use Rattle.vfs_base.specs.declared.reply.Reply.{Reply}
use Rattle.vfs_model.specs.Command.{command as command_of, line_talk}
use Rattle.vfs_model.specs.Session.{is_pending, lines_run}
use Rattle.vfs_model.specs.Words.{line_words}
use Rattle.vfs_model.specs.declared.shell_state.ShellState.{ShellState}
use Rattle.msh_commands.specs.CommandTalks.{command_talk}
use Rattle.msh_desk.specs.State.{state_of}
use Rattle.msh_commands.specs.declared.command.Command.{Command}
use Rattle.msh_session.proofs.Commands.{commands-rest}
use Rattle.msh_session.proofs.Heads.{pending-stops}
use Rattle.msh_session.proofs.Stages.{begun-line, posted-line}
use Rattle.msh_session.specs.Blocks.{after_head, block_head}
use Rattle.msh_session.specs.SessionTalks.{HasTaken, LosesLine, LosesReply, StopsAt, blocks_before, given_up, given_up_stage, is_ready, session_rest, stage_rest, stopped}
use Rattle.msh_desk.specs.declared.desk.Desk.{Desk}
use Rattle.msh_session.specs.declared.session.Session.{Session}
use Rattle.msh_session.specs.declared.stage.Stage.{Stage}
use Rattle.msh_session.specs.declared.stage.Stage.TheVariants as stage

-- a command that was given up stands where it stopped
given-stops : (command : Command) (state : ShellState) (lines : List (List ℕ)) (replies : List Reply) →
    stage_rest (stage.GivenUp command) state lines replies ≡ stopped (command_talk command state []) replies
given-stops command state lines replies =
    ap (λ same. record { blocks = []; wanted = None; own = (command_talk command state []).own; state = same; left = replies })
    (sym ((commands-rest command).state state))

pub post-rest : (old new : Session) (line head : List ℕ) (words : List (List ℕ)) (command : Command) (middle : ShellState)
    (block : Result (Option (List ℕ)) NoMemory) →
    is_ready old ≡ true → head ≡ block_head (state_of old.desk).shown line → line_words line ≡ Ok words →
    ((later : List Reply) → command_talk command middle later ≡ command_of words (state_of old.desk) later) →
    IfOk block (λ block. (lines : List (List ℕ)) (replies : List Reply) →
    after_head head (command_talk command middle replies) (lines_run lines) ≡ blocks_before (option_to_list block) (session_rest new lines replies)) →
    IfOk block (λ block. (lines : List (List ℕ)) (replies : List Reply) →
    session_rest old (line ∷ lines) replies ≡ blocks_before (option_to_list block) (session_rest new lines replies))
post-rest old new line head words command middle (Ok block) ready same e begins goes =
    λ lines replies. posted-line old line head words command middle ready same e begins lines replies ∙ goes lines replies
post-rest old new line head words command middle (Err fault) ready same e begins goes = tt

pub post-lost : (old new : Session) (line : List ℕ) (words : List (List ℕ)) (command : Command) (middle : Desk)
    (block : Result (Option (List ℕ)) NoMemory) → line_words line ≡ Ok words →
    ((later : List Reply) → command_talk command (state_of middle) later ≡ command_of words (state_of old.desk) later) →
    new.desk ≡ middle → OnErr block (new.stage ≡ stage.GivenUp command) → OnErr block (LosesLine old line new)
post-lost old new line words command middle (Ok block) e begins same lost = tt
post-lost old new line words command middle (Err fault) e begins same lost = inr (λ replies.
    ap (λ at. stage_rest at (state_of new.desk) [] replies) lost
    ∙ given-stops command (state_of new.desk) [] replies
    ∙ ap (λ (desk : Desk). stopped (command_talk command (state_of desk) []) replies) same
    ∙ ap (λ answer. stopped answer replies) (begins [])
    ∙ ap (λ answer. stopped answer replies) (sym (begun-line line words (state_of old.desk) [] e)))

pub taken-stops : (before : Stage) (s : ShellState) (reply : Reply) (after : Stage) (t : ShellState) (new : Session) →
    HasTaken before s reply after t → new.stage ≡ given_up_stage after → state_of new.desk ≡ t → StopsAt before s reply new
taken-stops (stage.Pending head command) s reply (stage.Pending same next) t new taken given state = λ lines replies.
    ap (λ at. stage_rest at (state_of new.desk) lines replies) given
    ∙ ap (λ now. stage_rest (stage.GivenUp next) now lines replies) state
    ∙ ap (λ own. record { blocks = []; wanted = None; own = own; state = t; left = replies }) taken.1
    ∙ ap (λ now. record { blocks = []; wanted = None; own = (command_talk command s (reply ∷ [])).own; state = now; left = replies }) taken.0
taken-stops (stage.Pending head command) s reply stage.Ready t new taken given state = absurd taken
taken-stops (stage.Pending head command) s reply (stage.GivenUp next) t new taken given state = absurd taken
taken-stops stage.Ready s reply after t new taken given state = absurd taken
taken-stops (stage.GivenUp command) s reply after t new taken given state = absurd taken

stage-abandoned : (at : Stage) (state : ShellState) (lines : List (List ℕ)) (replies : List Reply) → is_pending (stage_rest at state [] []) ≡ true →
    stage_rest (given_up_stage at) state lines replies ≡ given_up (stage_rest at state [] []) replies
stage-abandoned stage.Ready state lines replies e = absurd (cc)
stage-abandoned (stage.Pending head command) state lines replies e = pending-stops head command state replies e
stage-abandoned (stage.GivenUp command) state lines replies e = absurd (cc)

-- a pending command is given up
pub abandoned : (s new : Session) → new ≡ record s { stage = given_up_stage s.stage } → is_pending (session_rest s [] []) ≡ true →
    (lines : List (List ℕ)) (replies : List Reply) → session_rest new lines replies ≡ given_up (session_rest s [] []) replies
abandoned s new same e lines replies =
    ap (λ session. session_rest session lines replies) same ∙ stage-abandoned s.stage (state_of s.desk) lines replies e
