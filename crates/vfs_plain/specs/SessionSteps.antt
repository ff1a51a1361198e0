-- What a session of a script does next.
use Rattle.std.specs.Prelude.{Bool, Option, is_none, IsSome, [], slice_get, if◌then◌else◌}
use Rattle.vfs_base.specs.declared.reply.Reply.{Reply}
use Rattle.vfs_base.specs.declared.step.Step.{Step}
use Rattle.vfs_model.specs.Session.{is_pending}
use Rattle.vfs_model.specs.StepForms.{TellsFolder}
use Rattle.msh_session.specs.SessionTalks.{exits_left, session_rest}
use Rattle.msh_session.specs.declared.session.Session.{Session}

-- a command of the session has begun, and isn't finished
abbrev pub is_asking : Session → Bool
is_asking s = is_pending (session_rest s [] [])

-- the step that the session takes next: its pending command's, or the first exit step that is left
abbrev pub next_step : Session → Option Step
next_step s = if is_asking s then (session_rest s [] []).wanted else slice_get (exits_left s) 0

-- the session is through with its lines and with its exit
abbrev pub is_through : Session → Bool
is_through s = is_none (next_step s)

-- the session has a step to take, and no reply to it tells of a folder with a long path
abbrev pub TakesReply : Session → Reply → Type 0
TakesReply s reply = IsSome (next_step s) × TellsFolder reply
