-- The laws of schedules, sessions and transcripts, each proved once for all who stand on them.
use Rattle.std.specs.Prelude.{◌≡◌, ◌⊎◌, ℕ, ◌<◌, ◌≤◌, ◌^◌, All, Bool, true, false, is_some, is_none, Some, Ok, List, [], ◌∷◌, ◌++◌, length, map, take, slice_index_or}
use Rattle.std.specs.Option.{option_and_then}
use Rattle.vfs_base.specs.declared.deck.Deck.{Deck}
use Rattle.vfs_base.specs.declared.describe.Describe.{Describe}
use Rattle.vfs_base.specs.declared.entry.Entry.{Entry}
use Rattle.vfs_base.specs.declared.entry.Mark.{Mark}
use Rattle.vfs_base.specs.declared.entry.Mark.TheVariants as mark
use Rattle.vfs_base.specs.declared.entry.Who.{Who}
use Rattle.vfs_base.specs.declared.entry.Who.TheVariants as who
use Rattle.vfs_base.specs.declared.limits.TheConstants.{ROWS, SESSIONS}
use Rattle.vfs_base.specs.declared.reply.Reply.{Reply}
use Rattle.vfs_model.specs.Command.{line_talk}
use Rattle.vfs_model.specs.DeckLaws.{IsScript}
use Rattle.vfs_model.specs.Schedule.{is_end_last, schedule_entries, schedule_line, schedule_text}
use Rattle.vfs_model.specs.Session.{SessionRun, block_of, is_pending, session_run, wanted_step}
use Rattle.vfs_model.specs.ScriptRun.{IsWhole, RunState, first_untaken, has_ended, run_of, state_after, take_entry}
use Rattle.vfs_model.specs.Transcript.{shown, transcript}
use Rattle.vfs_model.specs.Turns.{FollowsScript}
use Rattle.vfs_model.specs.declared.script_form.ScriptForm.{ScriptForm}
use Rattle.vfs_model.specs.declared.script_form.ScriptForm.TheVariants as form
use Rattle.vfs_model.specs.declared.shell_state.Next.TheVariants as next

-- the numbers of who takes a step are in their ranges
abbrev pub IsWho : Who → Type 0
IsWho (who.Session k) = (1 ≤ k) × (k ≤ SESSIONS)
IsWho (who.Flush row) = (1 ≤ row) × (row ≤ ROWS)
IsWho (who.Reclaim row) = (1 ≤ row) × (row ≤ ROWS)
IsWho who.End = Unit {0}

-- a mark's number of bytes is one of 64 bits
abbrev pub IsMark : Mark → Type 0
IsMark mark.Clear = Unit {0}
IsMark (mark.Fault n) = n < 2 ^ 64
IsMark (mark.NoMem n) = n < 2 ^ 64

-- both parts of an entry are in their ranges
abbrev pub IsEntry : Entry → Type 0
IsEntry entry = IsWho entry.who × IsMark entry.mark

-- a printed schedule reads back as itself, with its line feed and without it
abbrev pub PrintedScheduleIsRead : Type 0
PrintedScheduleIsRead = (schedule : List Entry) → All IsEntry schedule →
    (schedule_entries (schedule_line schedule) ≡ Ok schedule) × (schedule_entries (schedule_text schedule) ≡ Ok schedule)

-- what is read as a schedule is a printed one, with its line feed or without it
abbrev pub ReadScheduleIsPrinted : Type 0
ReadScheduleIsPrinted = (line : List ℕ) (schedule : List Entry) → schedule_entries line ≡ Ok schedule →
    ((line ≡ schedule_line schedule) ⊎ (line ≡ schedule_text schedule)) × All IsEntry schedule

-- the entry can be taken after these
abbrev pub can_take : Deck → Describe → List Entry → Entry → Bool
can_take deck describe front entry = is_some (option_and_then (λ s. take_entry deck s entry) (state_after deck describe front))

-- Each entry before this place can be taken after those before it, and the one at the place can't.
pub record IsFirstUntaken (deck : Deck) (describe : Describe) (schedule : List Entry) (at : ℕ) : Type 0 where
  pub front : List Entry
  pub entry : Entry
  pub rest : List Entry
  pub parts : schedule ≡ front ++ entry ∷ rest
  pub place : length front ≡ at
  pub taken : is_some (state_after deck describe front) ≡ true
  pub refused : can_take deck describe front entry ≡ false

-- each entry of the schedule can be taken after those before it
abbrev pub EachIsTaken : Deck → Describe → List Entry → Type 0
EachIsTaken deck describe schedule =
    (front rest : List Entry) (entry : Entry) → schedule ≡ front ++ entry ∷ rest → can_take deck describe front entry ≡ true

-- the transcript is defined, and what is shown
abbrev pub IsDefined : ScriptForm → Deck → Describe → List Entry → Type 0
IsDefined shape deck describe schedule =
    (is_some (transcript shape deck describe schedule) ≡ true) × (is_some (shown shape deck describe schedule) ≡ true)

-- the transcript is defined exactly where each entry of the schedule can be taken after those before it
abbrev pub TranscriptNeedsEachEntry : Type 0
TranscriptNeedsEachEntry = (shape : ScriptForm) (deck : Deck) (describe : Describe) (schedule : List Entry) →
    (IsDefined shape deck describe schedule → EachIsTaken deck describe schedule)
    × (EachIsTaken deck describe schedule → IsDefined shape deck describe schedule)

-- where it is undefined, there is a first entry that can't be taken, and that is the place that is told
abbrev pub UndefinedTranscriptHasPlace : Type 0
UndefinedTranscriptHasPlace = (shape : ScriptForm) (deck : Deck) (describe : Describe) (schedule : List Entry) →
    (is_some (transcript shape deck describe schedule) ≡ is_none (first_untaken deck describe schedule))
    × ((at : ℕ) → first_untaken deck describe schedule ≡ Some at → IsFirstUntaken deck describe schedule at)
    × ((at : ℕ) → IsFirstUntaken deck describe schedule at → first_untaken deck describe schedule ≡ Some at)

-- a front of a schedule that has a transcript has one
abbrev pub FrontHasTranscript : Type 0
FrontHasTranscript = (shape : ScriptForm) (deck : Deck) (describe : Describe) (front rest : List Entry) →
    IsDefined shape deck describe (front ++ rest) → IsDefined shape deck describe front

-- a schedule whose entries can be taken is whole exactly where the end is last
abbrev pub WholeScheduleEndsLast : Type 0
WholeScheduleEndsLast = (deck : Deck) (describe : Describe) (schedule : List Entry) →
    is_some (state_after deck describe schedule) ≡ true → has_ended (state_after deck describe schedule) ≡ is_end_last schedule

-- the marks of a schedule
abbrev pub marks_of : List Entry → List Mark
marks_of schedule = map (λ entry. entry.mark) schedule

-- in a shell or a replay the script and the marks leave no choice of who takes which step
abbrev pub ScriptSaysTurns : Type 0
ScriptSaysTurns = (deck : Deck) (describe : Describe) (one other : List Entry) → marks_of one ≡ marks_of other →
    (FollowsScript form.Shell deck describe one → FollowsScript form.Shell deck describe other → one ≡ other)
    × (FollowsScript form.Replay deck describe one → FollowsScript form.Replay deck describe other → one ≡ other)

-- A block shows a line: behind the prompt of the folder that was shown before the line stand the line and the text
-- that its command finished with, from the state and the replies that the lines before it left.
pub record ShowsLine (before : SessionRun) (line block : List ℕ) : Type 0 where
  pub text : List ℕ
  pub finished : (line_talk line before.state before.left).next ≡ next.Finished text
  pub shows : block ≡ block_of before.state.shown line text

-- a session's blocks are those of its lines in their order, each after the lines before it
abbrev pub EachBlockShowsItsLine : Type 0
EachBlockShowsItsLine = (lines : List (List ℕ)) (replies : List Reply) (i : ℕ) →
    i < length (session_run lines replies).blocks →
    (i < length lines)
    × ShowsLine (session_run (take i lines) replies) (slice_index_or lines i []) (slice_index_or (session_run lines replies).blocks i [])

-- what a session was shown stays: after more of a schedule its blocks are those that it had, and others behind them
abbrev pub ShownBlocksStay : Type 0
ShownBlocksStay = (deck : Deck) (describe : Describe) (front rest : List Entry) (before after : RunState) (k : ℕ) →
    state_after deck describe front ≡ Some before → state_after deck describe (front ++ rest) ≡ Some after →
    (later : List (List ℕ)) × ((run_of deck after k).blocks ≡ (run_of deck before k).blocks ++ later)

-- the step that a pending command asks is the one that its session wants, whatever lines are posted behind it
abbrev pub PendingStepIsWanted : Type 0
PendingStepIsWanted = (posted more : List (List ℕ)) (replies : List Reply) → is_pending (session_run posted replies) ≡ true →
    wanted_step (session_run (posted ++ more) replies) ≡ (session_run posted replies).wanted

-- the schedule is whole, or goes on by one entry that nothing stops
abbrev pub IsWholeOrGoesOn : ScriptForm → Deck → Describe → List Entry → Type 0
IsWholeOrGoesOn shape deck describe schedule =
    IsWhole deck describe schedule
    ⊎ ((asker : Who) × FollowsScript shape deck describe (schedule ++ record { who = asker; mark = mark.Clear } ∷ []))

-- a shell and a replay never get stuck: whoever's turn it is has a step to take, until the schedule is whole
abbrev pub ScriptGoesOn : Type 0
ScriptGoesOn = (deck : Deck) (describe : Describe) (schedule : List Entry) → IsScript deck →
    (FollowsScript form.Shell deck describe schedule → IsWholeOrGoesOn form.Shell deck describe schedule)
    × (FollowsScript form.Replay deck describe schedule → IsWholeOrGoesOn form.Replay deck describe schedule)
