-- How a session follows the lines that were posted to it and the replies that it had.
use Rattle.std.specs.Prelude.{◌≡◌, ℕ, true, false, Option, None, List, [], ◌∷◌, ◌++◌, drop, length, slice_get}
use Rattle.std.specs.Option.{option_to_list}
use Rattle.vfs_base.specs.declared.reply.Reply.{Reply}
use Rattle.vfs_model.specs.Session.{SessionRun, exit_steps, is_pending, session_run, wanted_step}
use Rattle.msh_session.specs.SessionTalks.{blocks_before, exits_left, given_up, is_ready, no_exits, session_rest}
use Rattle.msh_session.specs.declared.session.Session.{Session}

-- The session stands where these lines and replies lead a session. They have shown these blocks.
pub record Follows (s : Session) (lines : List (List ℕ)) (heard : List Reply) (blocks : List (List ℕ)) : Type 0 where
  pub goes_on : (more : List (List ℕ)) (later : List Reply) →
      session_run (lines ++ more) (heard ++ later) ≡ blocks_before blocks (session_rest s more later)

-- All lines are done, and the session has made as many exit steps as it had replies to them.
pub record Leaves (s : Session) (lines : List (List ℕ)) (heard : List Reply) (blocks : List (List ℕ)) (replies : List Reply) : Type 0 where
  pub follows : Follows s lines heard blocks
  pub is_ready : is_ready s ≡ true
  pub made : exits_left s ≡ drop (length replies) (exit_steps (session_rest s [] []))

-- a session that is as a session of any lines follows no line
abbrev pub NewSessionFollows : Type 0
NewSessionFollows = (s : Session) →
    ((lines : List (List ℕ)) (replies : List Reply) → session_rest s lines replies ≡ session_run lines replies) →
    Follows s [] [] []

-- a session to which a line was posted follows this line too
abbrev pub PostedLineIsFollowed : Type 0
PostedLineIsFollowed =
    (old new : Session) (line : List ℕ) (block : Option (List ℕ)) (lines : List (List ℕ)) (heard : List Reply) (blocks : List (List ℕ)) →
    ((more : List (List ℕ)) (later : List Reply) →
    session_rest old (line ∷ more) later ≡ blocks_before (option_to_list block) (session_rest new more later)) →
    Follows old lines heard blocks → Follows new (lines ++ line ∷ []) heard (blocks ++ option_to_list block)

-- a session that had a reply follows this reply too
abbrev pub TakenReplyIsFollowed : Type 0
TakenReplyIsFollowed =
    (old new : Session) (reply : Reply) (block : Option (List ℕ)) (lines : List (List ℕ)) (heard : List Reply) (blocks : List (List ℕ)) →
    ((more : List (List ℕ)) (later : List Reply) →
    session_rest old more (reply ∷ later) ≡ blocks_before (option_to_list block) (session_rest new more later)) →
    Follows old lines heard blocks → Follows new lines (heard ++ reply ∷ []) (blocks ++ option_to_list block)

-- A step is pending, whatever lines come behind.
pub record PendingNext (run : SessionRun) (blocks : List (List ℕ)) (s : Session) : Type 0 where
  pub shown : run.blocks ≡ blocks
  pub wanted : run.wanted ≡ (session_rest s [] []).wanted
  pub is_next : wanted_step run ≡ (session_rest s [] []).wanted

abbrev pub PendingStepIsNext : Type 0
PendingStepIsNext =
    (s : Session) (lines more : List (List ℕ)) (heard : List Reply) (blocks : List (List ℕ)) →
    Follows s lines heard blocks → is_pending (session_rest s [] []) ≡ true → PendingNext (session_run (lines ++ more) heard) blocks s

-- a session that has done all lines and made no exit step begins to leave
abbrev pub DoneSessionLeaves : Type 0
DoneSessionLeaves =
    (s : Session) (lines : List (List ℕ)) (heard : List Reply) (blocks : List (List ℕ)) →
    Follows s lines heard blocks → is_ready s ≡ true → s.exits ≡ no_exits → Leaves s lines heard blocks []

-- with an exit step and the reply to it a session goes on leaving
abbrev pub MadeExitIsFollowed : Type 0
MadeExitIsFollowed =
    (old new : Session) (reply : Reply) (lines : List (List ℕ)) (heard : List Reply) (blocks : List (List ℕ)) (replies : List Reply) →
    ((more : List (List ℕ)) (later : List Reply) → session_rest new more later ≡ session_rest old more later) →
    is_ready new ≡ is_ready old → exits_left new ≡ drop 1 (exits_left old) →
    Leaves old lines heard blocks replies → Leaves new lines heard blocks (replies ++ reply ∷ [])

-- Nothing is pending, and the next step is the first exit step that is left.
pub record ExitNext (run : SessionRun) (blocks : List (List ℕ)) (s : Session) : Type 0 where
  pub shown : run.blocks ≡ blocks
  pub wanted : run.wanted ≡ None
  pub is_next : wanted_step run ≡ slice_get (exits_left s) 0

abbrev pub ExitStepIsNext : Type 0
ExitStepIsNext =
    (s : Session) (lines : List (List ℕ)) (heard : List Reply) (blocks : List (List ℕ)) (replies : List Reply) →
    Leaves s lines heard blocks replies → ExitNext (session_run lines (heard ++ replies)) blocks s

-- before any exit step is made, all those are left that the session's state and a command that was given up want
abbrev pub AllExitsAreLeft : Type 0
AllExitsAreLeft = (s : Session) → s.exits ≡ no_exits → exits_left s ≡ exit_steps (session_rest s [] [])

-- a command that is given up leaves the exit steps that its session's lines and replies want
abbrev pub AbandonedSessionLeaves : Type 0
AbandonedSessionLeaves =
    (old new : Session) (lines : List (List ℕ)) (heard : List Reply) (blocks : List (List ℕ)) →
    Follows old lines heard blocks →
    ((more : List (List ℕ)) (later : List Reply) → session_rest new more later ≡ given_up (session_rest old [] []) later) →
    new.exits ≡ no_exits → exits_left new ≡ exit_steps (session_run lines heard)
