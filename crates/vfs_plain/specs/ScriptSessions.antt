-- A session of a script, where its lines and its replies lead it.
use Rattle.std.specs.Prelude.{◌≡◌, ◌⊎◌, ℕ, ◌==◌, Bool, true, false, not, Option, is_some, List, [], ◌∷◌, ◌++◌, drop}
use Rattle.std.specs.List.{concat, flat_map, list_any}
use Rattle.std.specs.Option.{option_to_list}
use Rattle.vfs_base.specs.declared.deck.Act.{Act}
use Rattle.vfs_base.specs.declared.deck.Act.TheVariants as act
use Rattle.vfs_base.specs.declared.reply.Reply.{Reply}
use Rattle.vfs_model.specs.Deck.{posted_to}
use Rattle.msh_session.specs.Following.{Follows, Leaves}
use Rattle.msh_session.specs.SessionTalks.{blocks_before, is_ready, no_exits, session_rest}
use Rattle.msh_session.specs.declared.session.Session.{Session}
use Rattle.vfs_plain.specs.SessionSteps.{is_asking}
use Rattle.vfs_plain.specs.declared.script_session.ScriptSession.{ScriptSession}

-- the lines for a session at this place of a script, and behind it
abbrev pub lines_from : ℕ → List Act → ℕ → List (List ℕ)
lines_from k acts place = flat_map (posted_to k) (drop place acts)

-- a line for a session is an act's
abbrev pub is_line_of : ℕ → Act → Bool
is_line_of k (act.Post j text go) = j == k
is_line_of k (act.Events askers) = false

-- a script posts to the session
abbrev pub has_line : ℕ → List Act → Bool
has_line k acts = list_any (is_line_of k) acts

-- a step is pending, after these lines and replies
pub record IsAsking (s : Session) (posted : List (List ℕ)) (heard : List Reply) (blocks : List (List ℕ)) : Type 0 where
  pub follows : Follows s posted heard blocks
  pub pending : is_asking s ≡ true
  pub exits : s.exits ≡ no_exits

-- nothing is pending, after these lines and replies, and no exit step is made
pub record IsIdle (s : Session) (posted : List (List ℕ)) (heard : List Reply) (blocks : List (List ℕ)) : Type 0 where
  pub follows : Follows s posted heard blocks
  pub ready : is_ready s ≡ true
  pub exits : s.exits ≡ no_exits

-- all lines are done, and so many exit steps are made as had replies
pub record IsLeaving (s : Session) (posted : List (List ℕ)) (heard : List Reply) (blocks : List (List ℕ)) : Type 0 where
  pub before : List Reply
  pub replies : List Reply
  pub parts : heard ≡ before ++ replies
  pub leaves : Leaves s posted before blocks replies

-- a step is pending, or no line is left and the session leaves
abbrev pub Stands : Session → List (List ℕ) → List (List ℕ) → List Reply → List (List ℕ) → Type 0
Stands s posted left heard blocks = IsAsking s posted heard blocks ⊎ ((left ≡ []) × IsLeaving s posted heard blocks)

-- The session's lines up to its place are posted, and these replies were heard; its text is that of the finished blocks.
pub record Plays (p : ScriptSession) (acts : List Act) (heard : List Reply) : Type 0 where
  pub posted : List (List ℕ)
  pub blocks : List (List ℕ)
  pub lines : lines_from p.k acts 0 ≡ posted ++ lines_from p.k acts p.place
  pub text : p.text ≡ concat blocks
  pub stands : Stands p.session posted (lines_from p.k acts p.place) heard blocks

-- the same between two lines, where more may be left
pub record Pauses (p : ScriptSession) (acts : List Act) (heard : List Reply) : Type 0 where
  pub posted : List (List ℕ)
  pub blocks : List (List ℕ)
  pub lines : lines_from p.k acts 0 ≡ posted ++ lines_from p.k acts p.place
  pub text : p.text ≡ concat blocks
  pub idle : IsIdle p.session posted heard blocks

-- the session, its number and its place in the script stay
pub record SameBesideText (old new : ScriptSession) : Type 0 where
  pub session : new.session ≡ old.session
  pub place : new.place ≡ old.place
  pub number : new.k ≡ old.k

-- A command came to its block, which stands behind the text, or else asks a step.
pub record ComesTo (old new : ScriptSession) (block : Option (List ℕ)) (is_finished : Bool) : Type 0 where
  pub finished : is_some block ≡ is_finished
  pub ready : is_ready new.session ≡ is_finished
  pub pending : is_asking new.session ≡ not is_finished
  pub exits : new.session.exits ≡ old.session.exits
  pub text : new.text ≡ old.text ++ concat (option_to_list block)
  pub place : new.place ≡ old.place
  pub number : new.k ≡ old.k

-- a line was posted, and its command came to its block or asks a step
pub record PostsLine (old new : ScriptSession) (line : List ℕ) (is_finished : Bool) : Type 0 where
  pub block : Option (List ℕ)
  pub rest : (lines : List (List ℕ)) (replies : List Reply) →
      session_rest old.session (line ∷ lines) replies ≡ blocks_before (option_to_list block) (session_rest new.session lines replies)
  pub comes : ComesTo old new block is_finished

-- a reply was taken in, and the command came to its block or asks a step again
pub record TakesIn (old new : ScriptSession) (reply : Reply) (is_finished : Bool) : Type 0 where
  pub block : Option (List ℕ)
  pub rest : (lines : List (List ℕ)) (replies : List Reply) →
      session_rest old.session lines (reply ∷ replies) ≡ blocks_before (option_to_list block) (session_rest new.session lines replies)
  pub comes : ComesTo old new block is_finished
