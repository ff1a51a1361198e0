-- What a script shows under a schedule.
use Rattle.std.specs.Prelude.{ℕ, ◌+◌, Bool, true, false, Option, option_map, List, [], ◌∷◌, ◌++◌, filter, if◌then◌else◌}
use Rattle.std.specs.List.{concat, flat_map}
use Rattle.vfs_base.specs.declared.deck.Deck.{Deck}
use Rattle.vfs_base.specs.declared.describe.Describe.{Describe}
use Rattle.vfs_base.specs.declared.entry.Entry.{Entry}
use Rattle.vfs_model.specs.Deck.{session_lines}
use Rattle.vfs_model.specs.Schedule.{schedule_line}
use Rattle.vfs_model.specs.declared.script_form.ScriptForm.{ScriptForm}
use Rattle.vfs_model.specs.declared.script_form.ScriptForm.TheVariants as form
use Rattle.vfs_model.specs.ScriptRun.{RunState, run_of, sessions, state_after}

-- the script posts a line to the session
abbrev pub has_lines : Deck → ℕ → Bool
has_lines deck k = is_named (session_lines deck k)
  where
    is_named : List (List ℕ) → Bool
    is_named [] = false
    is_named (line ∷ lines) = true

-- the sessions that a script posts to, by number
abbrev pub named_sessions : Deck → List ℕ
named_sessions deck = filter (has_lines deck) sessions

-- the blocks of a session that are finished
abbrev pub session_text : Deck → RunState → ℕ → List ℕ
session_text deck s k = concat (run_of deck s k).blocks

-- the line `[k]` over a session's blocks
abbrev pub session_title : ℕ → List ℕ
session_title k = 91 ∷ (48 + k) ∷ 93 ∷ 10 ∷ []

-- the blocks of all sessions that the script posts to
abbrev pub sessions_text : Deck → RunState → List ℕ
sessions_text deck s = flat_map (λ k. session_title k ++ session_text deck s k) (named_sessions deck)

-- all blocks that are finished: a shell has one session, and shows its blocks alone
abbrev pub finished_text : ScriptForm → Deck → RunState → List ℕ
finished_text form.Shell deck s = session_text deck s 1
finished_text form.Replay deck s = sessions_text deck s
finished_text form.Run deck s = sessions_text deck s

-- what the sessions are shown, where each entry of the schedule can be taken
unfoldable pub shown : ScriptForm → Deck → Describe → List Entry → Option (List ℕ)
shown shape deck describe schedule = option_map (finished_text shape deck) (state_after deck describe schedule)

-- the same, and behind it the schedule's line where the schedule is whole
unfoldable pub transcript : ScriptForm → Deck → Describe → List Entry → Option (List ℕ)
transcript shape deck describe schedule =
    option_map (λ s. finished_text shape deck s ++ (if s.is_over then schedule_line schedule else [])) (state_after deck describe schedule)
