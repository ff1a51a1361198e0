-- Worked examples: which schedules are those of a script, and what they show of it.
use Rattle.std.specs.Prelude.{◌≡◌, ℕ, Bool, true, false, Option, Some, None, List, [], ◌∷◌, codes, refl}
use Rattle.vfs_model.proofs.CommandRuns.{shell}
use Rattle.vfs_model.proofs.ExampleSteps.{bare, steps}
use Rattle.vfs_model.proofs.ScriptExamples.{ended}
use Rattle.vfs_model.proofs.TranscriptRuns.{replay, replays, scheduled, script, scripts}
use Rattle.vfs_model.specs.ScriptRun.{first_untaken, no_schedule_at}
use Rattle.vfs_model.specs.Transcript.{transcript}
use Rattle.vfs_model.specs.Turns.{follows_script}
use Rattle.vfs_model.specs.declared.script_form.ScriptForm.TheVariants as form

-- two sessions append to one file, and a third shows it
abbrev pub appends : List (List ℕ)
appends = codes "@1 echo AA /f" ∷ codes "@2 echo BB /f" ∷ codes "! 1 2 2 1" ∷ codes "3 cat /f" ∷ []

abbrev pub untaken : List ℕ → Option ℕ
untaken line = first_untaken (script appends) bare (scheduled line)

-- what is shown where the third session shows this
abbrev pub shows : List ℕ → List ℕ → Option (List ℕ)
shows text line = Some (ended (
    codes "[1]"
    ∷ codes "msh />echo AA /f"
    ∷ codes "[2]"
    ∷ codes "msh />echo BB /f"
    ∷ codes "[3]"
    ∷ codes "msh />cat /f"
    ∷ text
    ∷ line
    ∷ []
    ))

pub the_schedule_decides_on_the_text :
    (replay appends (codes "# 1 2 2 1 3 3 3 3 1 2 z") ≡ shows (codes "BBAA") (codes "# 1 2 2 1 3 3 3 3 1 2 z"))
    × (replay appends (codes "# 1 2 1 2 3 3 3 3 1 2 z") ≡ shows (codes "AABB") (codes "# 1 2 1 2 3 3 3 3 1 2 z"))
    × (replays appends (codes "# 1 2 2 1 3 3 3 3 1 2 z") ≡ true)
    × (replays appends (codes "# 1 2 1 2 3 3 3 3 1 2 z") ≡ false)
    × (replays appends (codes "# 1 2 2 1 3 3 3 3 2 1 z") ≡ false)
unfolding steps shell scripts
the_schedule_decides_on_the_text = (refl, refl, refl, refl, refl)

pub a_step_left_out_or_doubled_is_no_schedule :
    (replay appends (codes "# 1 2 2 1 3 3 3 1 2 z") ≡ None)
    × (untaken (codes "# 1 2 2 1 3 3 3 1 2 z") ≡ Some 9)
    × (replay appends (codes "# 1 2 2 1 3 3 3 3 3 1 2 z") ≡ None)
    × (untaken (codes "# 1 2 2 1 3 3 3 3 3 1 2 z") ≡ Some 8)
    × (untaken (codes "# 1 2 2 1 3 3 3 3 1 z 2") ≡ Some 9)
    × (untaken (codes "# 1 2 2 1 3 3 3 3 1 2 z z") ≡ Some 11)
    × (untaken (codes "# 1 2 2 1 3 3 3 3 1 2 z f1") ≡ Some 11)
    × (untaken (codes "# 4") ≡ Some 0)
    × (untaken (codes "# 1 2 2 1 3 3 3 3 1 2 z") ≡ None)
unfolding steps shell scripts
a_step_left_out_or_doubled_is_no_schedule = (refl, refl, refl, refl, refl, refl, refl, refl, refl)

pub a_mark_that_does_not_fit_is_no_schedule :
    (untaken (codes "# 1!0") ≡ Some 0)
    × (untaken (codes "# 1m1") ≡ Some 0)
    × (untaken (codes "# 1 1m1") ≡ Some 1)
    × (untaken (codes "# 1 1!0") ≡ Some 1)
    × (untaken (codes "# f1!0") ≡ Some 0)
    × (untaken (codes "# 1 1m0") ≡ None)
unfolding steps shell scripts
a_mark_that_does_not_fit_is_no_schedule = (refl, refl, refl, refl, refl, refl)

pub want_of_memory_is_shown : replay appends (codes "# 1m0 2 2 3 3 3 3 2 zm0") ≡ Some (ended (
    codes "[1]"
    ∷ codes "msh />echo AA /f"
    ∷ codes "echo: /f: ENOMEM"
    ∷ codes "[2]"
    ∷ codes "msh />echo BB /f"
    ∷ codes "[3]"
    ∷ codes "msh />cat /f"
    ∷ codes "BB"
    ∷ codes "# 1m0 2 2 3 3 3 3 2 zm0"
    ∷ []
    ))
unfolding steps shell scripts
want_of_memory_is_shown = refl

pub the_worker_changes_no_text :
    (replay appends (codes "# r1024 1 f1 2 2 1 3 r1 3 3 3 1 2 f2 z") ≡ shows (codes "BBAA") (codes "# r1024 1 f1 2 2 1 3 r1 3 3 3 1 2 f2 z"))
    × (replays appends (codes "# r1024 1 2 2 1 3 3 3 3 1 2 z") ≡ false)
unfolding steps shell scripts
the_worker_changes_no_text = (refl, refl)

pub a_front_shows_what_is_finished :
    (replay appends [] ≡ Some (ended (codes "[1]" ∷ codes "[2]" ∷ codes "[3]" ∷ [])))
    × (replay appends (codes "# 1 2 2 1 3 3 3 3 1") ≡ Some (ended (
    codes "[1]" ∷ codes "msh />echo AA /f" ∷ codes "[2]" ∷ codes "[3]" ∷ codes "msh />cat /f" ∷ codes "BBAA" ∷ [])))
    × (replays appends (codes "# 1 2 2 1 3 3 3 3 1") ≡ true)
    × (no_schedule_at (script appends) bare (scheduled (codes "# 1 2 2 1 3 3 3 3 1")) ≡ Some 9)
    × (no_schedule_at (script appends) bare [] ≡ Some 0)
    × (no_schedule_at (script appends) bare (scheduled (codes "# 1 2 2 1 3 3 3 3 1 2 z")) ≡ None)
unfolding steps shell scripts
a_front_shows_what_is_finished = (refl, refl, refl, refl, refl, refl)

-- posts and events of pending and of idle sessions, and commands without steps
abbrev pub waits : List (List ℕ)
waits =
    codes "! 1 2"
    ∷ codes "@1 mkdir /a"
    ∷ codes "@1 echo"
    ∷ codes "! 1"
    ∷ codes "@2 cat /b"
    ∷ codes "! f7 2 2"
    ∷ codes "@3 cd /a"
    ∷ codes "@1 cd a"
    ∷ codes "1 pwd"
    ∷ []

abbrev pub in_turn : List ℕ → Bool
in_turn line = replays waits line

pub a_post_waits_for_its_session :
    (in_turn (codes "# 1 2 f7 1 1 3 1 3 z") ≡ false)
    × (in_turn (codes "# 1 f7 2 1 1 3 1 3 z") ≡ true)
    × (in_turn (codes "# 1 f7 2 1 1 1 3 3 z") ≡ false)
    × (in_turn (codes "# 1 f7 2 2 1 1 3 1 3 z") ≡ false)
    × (in_turn (codes "# 1 1 f7 2 1 3 1 3 z") ≡ false)
unfolding steps shell scripts
a_post_waits_for_its_session = (refl, refl, refl, refl, refl)

pub a_post_waits_before_others_go_on :
    (replays (codes "@1 mkdir /a" ∷ codes "@1 mkdir /b" ∷ codes "2 ls /" ∷ []) (codes "# 1 2 1 z") ≡ true)
    × (replays (codes "@1 mkdir /a" ∷ codes "@1 mkdir /b" ∷ codes "2 ls /" ∷ []) (codes "# 2 1 1 z") ≡ false)
unfolding steps shell scripts
a_post_waits_before_others_go_on = (refl, refl)

-- a run by threads
abbrev pub pairs : List (List ℕ)
pairs = codes "1 mkdir /a" ∷ codes "1 ls /" ∷ codes "2 mkdir /b" ∷ []

abbrev pub runs : List ℕ → Bool
runs line = follows_script form.Run (script pairs) bare (scheduled line)

pub threads_go_in_any_order :
    (runs (codes "# 1 2 1 z") ≡ true)
    × (runs (codes "# 2 1 1 z") ≡ true)
    × (runs (codes "# 2 1 1") ≡ false)
    × (runs [] ≡ false)
    × (replays pairs (codes "# 2 1 1 z") ≡ false)
    × (transcript form.Run (script pairs) bare (scheduled (codes "# 2 1 1 z")) ≡ Some (ended (
    codes "[1]" ∷ codes "msh />mkdir /a" ∷ codes "msh />ls /" ∷ codes "Directory /:"
    ∷ codes "a                   <DIR>" ∷ codes "b                   <DIR>" ∷ codes "[2]" ∷ codes "msh />mkdir /b"
    ∷ codes "# 2 1 1 z" ∷ [])))
unfolding steps shell scripts
threads_go_in_any_order = (refl, refl, refl, refl, refl, refl)
