-- What stands behind a transcript: the calls of each volume. And what a soak shows in place of its transcript.
use Rattle.std.specs.Prelude.{ℕ, ◌-◌, Option, option_map, List, [], ◌∷◌, ◌++◌, length, codes, ◌==◌, ◌&&◌, Some, None, if◌then◌else◌}
use Rattle.std.specs.Fmt.{decimal}
use Rattle.vfs_base.specs.declared.describe.Counts.{Counts}
use Rattle.vfs_base.specs.declared.describe.Describe.{Describe}
use Rattle.vfs_base.specs.declared.describe.VolumeShape.{VolumeShape}
use Rattle.vfs_base.specs.declared.entry.Entry.{Entry}
use Rattle.vfs_model.specs.Soak.{soak_deck}
use Rattle.vfs_model.specs.Transcript.{shown}
use Rattle.vfs_model.specs.declared.script_form.ScriptForm.TheVariants as form

-- how often a volume was called between two counts
abbrev pub rise : Counts → Counts → Counts
rise before now = record { reads = now.reads - before.reads; writes = now.writes - before.writes; faults = now.faults - before.faults }

-- `NAME reads A writes B faults C`
abbrev pub volume_line : List ℕ → Counts → List ℕ
volume_line name counts =
    name ++ codes " reads " ++ decimal counts.reads ++ codes " writes " ++ decimal counts.writes
    ++ codes " faults " ++ decimal counts.faults ++ 10 ∷ []

-- a line for each volume in the order handed in, by its counts at the start of a call and at its end
abbrev pub volume_lines : List VolumeShape → List Counts → List Counts → List ℕ
volume_lines [] before now = []
volume_lines (volume ∷ volumes) [] now = []
volume_lines (volume ∷ volumes) (first ∷ before) [] = []
volume_lines (volume ∷ volumes) (first ∷ before) (last ∷ now) =
    volume_line volume.name (rise first last) ++ volume_lines volumes before now

-- the seed and the number of lines, the number of entries, and the number of bytes that are shown
abbrev pub soak_text : ℕ → ℕ → ℕ → ℕ → List ℕ
soak_text seed count entries bytes =
    codes "soak seed " ++ decimal seed ++ codes " lines " ++ decimal count ++ 10 ∷ codes "entries " ++ decimal entries
    ++ 10 ∷ codes "shown " ++ decimal bytes ++ 10 ∷ []

-- the summary of a soak under a schedule: its bytes are those of the replay without the schedule's line
unfoldable pub soak_summary : ℕ → ℕ → Describe → List Entry → Option (List ℕ)
soak_summary seed count describe schedule =
    option_map (λ text. soak_text seed count (length schedule) (length text)) (shown form.Replay (soak_deck seed count) describe schedule)

-- the lines of all volumes, where each has its two counts
abbrev pub volume_report : List VolumeShape → List Counts → List Counts → Option (List ℕ)
volume_report volumes before now =
    if length before == length volumes && length now == length volumes then Some (volume_lines volumes before now) else None

-- what a run writes that nothing ends early: the transcript or the soak's summary, and behind it the lines of the volumes
abbrev pub job_text : Option (List ℕ) → Option (List ℕ) → Option (List ℕ)
job_text None report = None
job_text (Some text) report = option_map (λ lines. text ++ lines) report
