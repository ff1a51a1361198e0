-- What a session is at.
use Rattle.std.specs.Prelude.{Bool, true, false, not, []}
use Rattle.vfs_model.specs.Session.{is_pending}
use Rattle.msh_session.specs.SessionTalks.{is_ready, session_rest}
use Rattle.msh_session.specs.declared.session.Session.{Session}
use Rattle.script_stage.specs.declared.phase.Phase.{Phase}
use Rattle.script_stage.specs.declared.phase.Phase.TheVariants as phase

-- the session is at what the phase says
abbrev pub fits_phase : Phase → Session → Bool
fits_phase phase.Idle s = is_ready s
fits_phase phase.Asking s = is_pending (session_rest s [] [])
fits_phase phase.Lost s = not (is_pending (session_rest s [] []))

-- a command was lost for want of memory
abbrev pub is_lost : Phase → Bool
is_lost phase.Idle = false
is_lost phase.Asking = false
is_lost phase.Lost = true
