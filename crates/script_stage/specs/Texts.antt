-- What sessions show, for those that a script posts to.
use Rattle.std.specs.Prelude.{ℕ, ◌+◌, ◌==◌, Bool, false, List, [], ◌∷◌, ◌++◌, if◌then◌else◌}
use Rattle.std.specs.List.{list_any}
use Rattle.vfs_base.specs.declared.deck.Act.{Act}
use Rattle.vfs_base.specs.declared.deck.Act.TheVariants as act
use Rattle.vfs_model.specs.Transcript.{session_title}
use Rattle.script_stage.specs.declared.stage_session.StageSession.{StageSession}

-- a line for a session is an act's
abbrev pub is_line_of : ℕ → Act → Bool
is_line_of k (act.Post j text go) = j == k
is_line_of k (act.Events askers) = false

-- a script posts to the session
abbrev pub has_line : ℕ → List Act → Bool
has_line k acts = list_any (is_line_of k) acts

-- what a session shows, with its title, if the script posts to it
abbrev pub titled_text : ℕ → List Act → List ℕ → List ℕ
titled_text k acts text = if has_line k acts then session_title k ++ text else []

-- the same of sessions that are numbered from this one on
abbrev pub titled_texts : ℕ → List Act → List StageSession → List ℕ
titled_texts k acts [] = []
titled_texts k acts (p ∷ later) = titled_text k acts p.text ++ titled_texts (k + 1) acts later
