-- A session of a script at work, where its lines and its replies lead it.
use Rattle.std.specs.Prelude.{◌≡◌, ℕ, Bool, true, false, List, [], ◌∷◌, ◌++◌, is_none, slice_get}
use Rattle.std.specs.List.{concat}
use Rattle.vfs_base.specs.declared.reply.Reply.{Reply}
use Rattle.msh_session.specs.Following.{Follows, Leaves}
use Rattle.msh_session.specs.SessionTalks.{exits_left, no_exits}
use Rattle.script_stage.specs.Phases.{fits_phase, is_lost}
use Rattle.script_stage.specs.declared.stage_session.StageSession.{StageSession}

-- The session stands after these lines and replies, and no exit step is made. What its finished blocks showed is what
-- was handed out of it, and then its text.
pub record AtWork (p : StageSession) (posted : List (List ℕ)) (heard : List Reply) (handed : List ℕ) : Type 0 where
  pub blocks : List (List ℕ)
  pub follows : Follows p.session posted heard blocks
  pub exits : p.session.exits ≡ no_exits
  pub kept : is_lost p.phase ≡ false
  pub fits : fits_phase p.phase p.session ≡ true
  pub text : concat blocks ≡ handed ++ p.text

-- The session has done these lines, and leaves: the replies behind those to the lines were to exit steps.
pub record AtExit (p : StageSession) (posted : List (List ℕ)) (heard : List Reply) (handed : List ℕ) : Type 0 where
  pub blocks : List (List ℕ)
  pub before : List Reply
  pub replies : List Reply
  pub parts : heard ≡ before ++ replies
  pub leaves : Leaves p.session posted before blocks replies
  pub text : concat blocks ≡ handed ++ p.text

-- a line was posted to the session
abbrev pub FollowsLine : StageSession → StageSession → List ℕ → Type 0
FollowsLine old new line =
    (posted : List (List ℕ)) (heard : List Reply) (handed : List ℕ) → AtWork old posted heard handed →
    AtWork new (posted ++ line ∷ []) heard handed

-- the session took in the reply to its pending step
abbrev pub FollowsReply : StageSession → StageSession → Reply → Type 0
FollowsReply old new reply =
    (posted : List (List ℕ)) (heard : List Reply) (handed : List ℕ) → AtWork old posted heard handed →
    AtWork new posted (heard ++ reply ∷ []) handed

-- the session made an exit step, whatever the reply
abbrev pub FollowsExit : StageSession → StageSession → Type 0
FollowsExit old new =
    (posted : List (List ℕ)) (heard : List Reply) (handed : List ℕ) (reply : Reply) → AtExit old posted heard handed →
    AtExit new posted (heard ++ reply ∷ []) handed

-- no exit step is left
abbrev pub is_through : StageSession → Bool
is_through p = is_none (slice_get (exits_left p.session) 0)
