-- A session's step that the world took.
use Rattle.std.specs.Prelude.{◌≡◌, ℕ, Some, None, [], slice_get}
use Rattle.vfs_base.specs.declared.entry.Mark.{Mark}
use Rattle.vfs_base.specs.declared.entry.Who.TheVariants as who
use Rattle.vfs_base.specs.declared.reply.Reply.{Reply}
use Rattle.vfs_base.specs.declared.step.Step.{Step}
use Rattle.msh_session.specs.SessionTalks.{exits_left, session_rest}
use Rattle.script_stage.specs.Sessions.{FollowsExit, FollowsReply}
use Rattle.step_world.specs.Taking.{Takes}
use Rattle.step_world.specs.WorldView.{WorldView}
use Rattle.script_stage.specs.declared.stage_session.StageSession.{StageSession}

-- The world took the step that the session's pending command asked, and the session heard the reply.
pub record TakesWanted (before after : StageSession) (old new : WorldView) (k : ℕ) (m : Mark) : Type 0 where
  pub asked : Step
  pub reply : Reply
  pub wanted : (session_rest before.session [] []).wanted ≡ Some asked
  pub takes : Takes old new (who.Session k) asked (reply, m)
  pub follows : FollowsReply before after reply

-- The world took the session's next exit step.
pub record TakesExit (before after : StageSession) (old new : WorldView) (k : ℕ) (m : Mark) : Type 0 where
  pub asked : Step
  pub reply : Reply
  pub left : slice_get (exits_left before.session) 0 ≡ Some asked
  pub takes : Takes old new (who.Session k) asked (reply, m)
  pub follows : FollowsExit before after

-- No exit step is left, and nothing has changed.
pub record StaysThrough (before after : StageSession) (old new : WorldView) : Type 0 where
  pub session : after ≡ before
  pub world : new ≡ old
  pub none : slice_get (exits_left before.session) 0 ≡ None
