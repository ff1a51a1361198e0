-- What a session is at after a call.
use Rattle.std.proofs.Common.{◌≡◌, ◌≢◌, ℕ, Bool, true, false, List, [], refl, ap, ◌∙◌, inl, inr}
use Rattle.std.specs.Prelude.{not}
use Rattle.vfs_base.specs.declared.reply.Reply.{Reply}
use Rattle.vfs_model.specs.Session.{is_pending}
use Rattle.vfs_model.specs.declared.shell_state.ShellState.{ShellState}
use Rattle.msh_session.proofs.Stages.{ready-rest}
use Rattle.msh_session.specs.SessionTalks.{LosesLine, LosesReply, StopsAt, is_ready, session_rest}
use Rattle.msh_session.specs.declared.session.Session.{Session}
use Rattle.msh_session.specs.declared.stage.Stage.{Stage}
use Rattle.msh_session.specs.declared.stage.Stage.TheVariants as stage
use Rattle.script_stage.specs.Phases.{fits_phase}
use Rattle.script_stage.specs.declared.phase.Phase.{Phase}
use Rattle.script_stage.specs.declared.phase.Phase.TheVariants as phase

-- nothing is pending where the session is ready
ready-idle : (s : Session) → is_ready s ≡ true → is_pending (session_rest s [] []) ≡ false
ready-idle s ready = ap is_pending (ready-rest s [] [] ready)

stopped-idle : (at : Stage) (state : ShellState) (reply : Reply) (new : Session) → StopsAt at state reply new → is_pending (session_rest new [] []) ≡ false
stopped-idle stage.Ready state reply new stops = absurd stops
stopped-idle (stage.Pending head command) state reply new stops = ap is_pending (stops [] [])
stopped-idle (stage.GivenUp command) state reply new stops = absurd stops

-- a command that was given up is not pending
pub lost_reply : (old new : Session) (reply : Reply) → LosesReply old reply new → fits_phase phase.Lost new ≡ true
lost_reply old new reply loses = ap not (stopped-idle old.stage _ reply new loses)

pub lost_line : (old new : Session) (line : List ℕ) → is_ready old ≡ true → LosesLine old line new → fits_phase phase.Lost new ≡ true
lost_line old new line ready loses =
    elim loses [
      | inl same ↦ ap not (ap is_pending (same []) ∙ ready-idle old ready)
      | inr given ↦ ap (λ r. not (is_pending r)) (given [])
    ]

not-true : (b : Bool) → not b ≡ true → b ≡ false
not-true true e = absurd (cc)
not-true false e = refl

-- a session that is not asking has nothing pending
pub not_asking : (p : Phase) (s : Session) → fits_phase p s ≡ true → p ≢ phase.Asking → is_pending (session_rest s [] []) ≡ false
not_asking phase.Idle s fits other = ready-idle s fits
not_asking phase.Asking s fits other = absurd (other refl)
not_asking phase.Lost s fits other = not-true (is_pending (session_rest s [] [])) fits
