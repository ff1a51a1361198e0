-- What a session does from where it stands.
use Rattle.std.specs.Prelude.{◌≡◌, ℕ, Bool, true, false, Option, Some, None, List, [], ◌∷◌, ◌++◌, drop, if◌then◌else◌, ◌⊎◌}
use Rattle.std.specs.List.{filter_map}
use Rattle.vfs_base.specs.declared.reply.Reply.{Reply}
use Rattle.vfs_base.specs.declared.step.Step.{Step}
use Rattle.vfs_model.specs.Command.{line_talk}
use Rattle.vfs_model.specs.Session.{SessionRun, close_step, files_to_close, home_steps, lines_run, unmap_step}
use Rattle.vfs_model.specs.Talk.{Answer}
use Rattle.vfs_model.specs.declared.shell_state.ShellState.{ShellState}
use Rattle.msh_commands.specs.CommandTalks.{command_talk}
use Rattle.vfs_model.specs.StepForms.{TellsFolder}
use Rattle.msh_desk.specs.State.{state_of}
use Rattle.msh_session.specs.Blocks.{after_head}
use Rattle.msh_session.specs.declared.exits.Exits.{Exits}
use Rattle.msh_session.specs.declared.session.Session.{Session}
use Rattle.msh_session.specs.declared.stage.Stage.{Stage}
use Rattle.msh_session.specs.declared.stage.Stage.TheVariants as stage

-- nothing goes on any more: what has a step pending is given up, and only exits follow
abbrev pub given_up : SessionRun → List Reply → SessionRun
given_up run replies = record { blocks = []; wanted = None; own = run.own; state = run.state; left = replies }

-- the same of a command that came so far
abbrev pub stopped : Answer → List Reply → SessionRun
stopped answer replies = record { blocks = []; wanted = None; own = answer.own; state = answer.state; left = replies }

abbrev pub stage_rest : Stage → ShellState → List (List ℕ) → List Reply → SessionRun
stage_rest stage.Ready state lines replies = lines_run lines state replies
stage_rest (stage.Pending head command) state lines replies =
    after_head head (command_talk command state replies) (lines_run lines)
stage_rest (stage.GivenUp command) state lines replies =
    record { blocks = []; wanted = None; own = (command_talk command state []).own; state = state; left = replies }

-- how far the pending command and further lines come with these replies, from here on
abbrev pub session_rest : Session → List (List ℕ) → List Reply → SessionRun
session_rest s lines replies = stage_rest s.stage (state_of s.desk) lines replies

-- blocks before those of the lines behind them
abbrev pub blocks_before : List (List ℕ) → SessionRun → SessionRun
blocks_before blocks run = record run { blocks = blocks ++ run.blocks }

abbrev pub is_ready_stage : Stage → Bool
is_ready_stage stage.Ready = true
is_ready_stage (stage.Pending head command) = false
is_ready_stage (stage.GivenUp command) = false

-- nothing is pending, and no command was given up
abbrev pub is_ready : Session → Bool
is_ready s = is_ready_stage s.stage

abbrev pub is_given_up_stage : Stage → Bool
is_given_up_stage stage.Ready = false
is_given_up_stage (stage.Pending head command) = false
is_given_up_stage (stage.GivenUp command) = true

-- a command was given up
abbrev pub is_given_up : Session → Bool
is_given_up s = is_given_up_stage s.stage

abbrev pub has_command_stage : Stage → Bool
has_command_stage stage.Ready = false
has_command_stage (stage.Pending head command) = true
has_command_stage (stage.GivenUp command) = false

-- a command has begun that wasn't given up
abbrev pub has_command : Session → Bool
has_command s = has_command_stage s.stage

-- the stage behind a command that is given up, if one is pending
abbrev pub given_up_stage : Stage → Stage
given_up_stage stage.Ready = stage.Ready
given_up_stage (stage.Pending head command) = stage.GivenUp command
given_up_stage (stage.GivenUp command) = stage.GivenUp command

-- a step is wanted, and the reply fits it
abbrev pub FitsWanted : Option Step → Reply → Type 0
FitsWanted None reply = ⊥
FitsWanted (Some step) reply = TellsFolder reply

-- the exit steps of a run that are left when so many of each kind are made
abbrev pub exits_behind : Exits → SessionRun → List Step
exits_behind made run =
    drop made.own run.own
    ++ drop made.mappings (filter_map unmap_step run.state.mappings)
    ++ drop made.files (filter_map (close_step run.state.open_files) (files_to_close run.state.open_files.descriptors))
    ++ (if made.is_home then [] else home_steps run.state.shown)

-- the exit steps that are left
abbrev pub exits_left : Session → List Step
exits_left s = exits_behind s.exits (session_rest s [] [])

-- no exit step is made
abbrev pub no_exits : Exits
no_exits = record { own = 0; mappings = 0; files = 0; is_home = false }

-- A line was lost for want of memory: the session is as before, or the line's command was given up behind its beginning.
abbrev pub LosesLine : Session → List ℕ → Session → Type 0
LosesLine old line new =
    ((replies : List Reply) → session_rest new [] replies ≡ session_rest old [] replies)
    ⊎ ((replies : List Reply) → session_rest new [] replies ≡ stopped (line_talk line (state_of old.desk) []) replies)

-- the stage's command took in the reply and was given up
abbrev pub StopsAt : Stage → ShellState → Reply → Session → Type 0
StopsAt stage.Ready state reply new = ⊥
StopsAt (stage.Pending head command) state reply new =
    (lines : List (List ℕ)) (replies : List Reply) →
    session_rest new lines replies ≡ stopped (command_talk command state (reply ∷ [])) replies
StopsAt (stage.GivenUp command) state reply new = ⊥

-- a reply was lost for want of memory: the command took it in and was given up
abbrev pub LosesReply : Session → Reply → Session → Type 0
LosesReply old reply new = StopsAt old.stage (state_of old.desk) reply new

-- the pending command has taken in a reply, with the state that it leaves and the references that it has
abbrev pub HasTaken : Stage → ShellState → Reply → Stage → ShellState → Type 0
HasTaken (stage.Pending head command) before reply (stage.Pending same next) after =
    (after ≡ (command_talk command before (reply ∷ [])).state)
    × ((command_talk next after []).own ≡ (command_talk command before (reply ∷ [])).own)
HasTaken _ before reply _ after = ⊥
