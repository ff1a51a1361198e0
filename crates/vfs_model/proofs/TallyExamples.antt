-- Worked examples of what is told of a whole schedule.
use Rattle.std.specs.Prelude.{◌≡◌, true, false, Some, None, List, [], ◌∷◌, ◌++◌, codes, map, replicate, refl}
use Rattle.vfs_base.specs.declared.deck.Act.TheVariants as act
use Rattle.vfs_base.specs.declared.deck.Deck.{Deck}
use Rattle.vfs_base.specs.declared.entry.Entry.{Entry}
use Rattle.vfs_base.specs.declared.entry.Mark.TheVariants as mark
use Rattle.vfs_base.specs.declared.entry.Who.{Who}
use Rattle.vfs_base.specs.declared.entry.Who.TheVariants as who
use Rattle.vfs_model.proofs.CacheExamples.{reads_and_writes}
use Rattle.vfs_model.proofs.DeviceExamples.{sd0}
use Rattle.vfs_model.proofs.CommandRuns.{shell}
use Rattle.vfs_model.proofs.ExampleSteps.{steps}
use Rattle.vfs_model.proofs.TranscriptRuns.{scripts}
use Rattle.vfs_model.specs.Script.{first_bad_line, first_line_past_size}
use Rattle.vfs_model.specs.Tally.{asked_of, tally}

abbrev pub clear : Who → Entry
clear asker = record { who = asker; mark = mark.Clear }

-- a script whose `sync` comes late: another file has the row by then
abbrev pub late_sync : Deck
late_sync = record {
  roms = [];
  acts = act.Post 1 (codes "mkdir /v") true ∷ act.Post 1 (codes "mount sd0 /v cell") true ∷ act.Post 1 (codes "echo a /v/f") true
      ∷ act.Post 2 (codes "sync") false ∷ act.Events (who.Session 2 ∷ []) ∷ act.Post 1 (codes "rm /v/f") true
      ∷ act.Post 1 (codes "echo b /v/g") true ∷ act.Events (who.Session 2 ∷ []) ∷ act.Post 1 (codes "rm /v/g") true ∷ [];
}

abbrev pub late_schedule : List Entry
late_schedule =
    map (λ k. clear (who.Session k)) (1 ∷ 1 ∷ 1 ∷ 1 ∷ 1 ∷ 2 ∷ 1 ∷ 1 ∷ 1 ∷ 1 ∷ 2 ∷ 1 ∷ []) ++ clear who.End ∷ []

pub a_late_sync_writes_nothing : tally late_sync (sd0 (4 ∷ [])) late_schedule ≡ Some (reads_and_writes 0 0)
unfolding steps shell scripts tally asked_of
a_late_sync_writes_nothing = refl

pub a_stopped_schedule_has_no_tally : tally late_sync (sd0 (4 ∷ [])) (record { who = who.Session 1; mark = mark.NoMem 0 } ∷ []) ≡ None
unfolding steps shell scripts tally
a_stopped_schedule_has_no_tally = refl

pub an_entry_that_cannot_be_taken_has_no_tally : tally late_sync (sd0 (4 ∷ [])) (clear who.End ∷ []) ≡ None
unfolding steps shell scripts tally asked_of
an_entry_that_cannot_be_taken_has_no_tally = refl

-- a line of 2,000 bytes is outside a script's form, and within the size
pub a_long_line_is_within_the_size : first_line_past_size (replicate 2000 120) ≡ None
a_long_line_is_within_the_size = refl

pub a_long_line_is_no_line_of_a_script : first_bad_line (replicate 2000 120) ≡ Some 1
a_long_line_is_no_line_of_a_script = refl
