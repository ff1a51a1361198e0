-- The blocks of a session are those of its lines.
use Rattle.std.proofs.Common.{◌≡◌, ℕ, zero, suc, ◌<◌, Bool, true, false, cond, Option, Some, None, List, [], ◌∷◌, length, take, get_or, refl, sym, ap, ◌∙◌, arith}
use Rattle.std.specs.Option.{option_and_then}
use Rattle.std.specs.Prelude.{is_some}
use Rattle.vfs_base.specs.declared.deck.Deck.{Deck}
use Rattle.vfs_base.specs.declared.describe.Describe.{Describe}
use Rattle.vfs_base.specs.declared.entry.Entry.{Entry}
use Rattle.vfs_base.specs.declared.reply.Reply.{Reply}
use Rattle.vfs_base.specs.declared.step.Step.{Step}
use Rattle.vfs_model.specs.Command.{line_talk}
use Rattle.vfs_model.specs.Schedule.{is_end, is_end_last}
use Rattle.vfs_model.specs.Session.{SessionRun, after_line, block_before, block_of, lines_run, session_run}
use Rattle.vfs_model.specs.Talk.{Answer}
use Rattle.vfs_model.specs.ScriptRun.{RunState, entry_step, has_ended, opening_state, state_after, take_entries, take_entry, take_step}
use Rattle.vfs_model.specs.TranscriptLaws.{EachBlockShowsItsLine, ShowsLine}
use Rattle.vfs_model.specs.World.{fits_step}
use Rattle.vfs_model.specs.declared.shell_state.Next.TheVariants as next
use Rattle.vfs_model.specs.declared.shell_state.ShellState.{ShellState}

-- the block of a finished line, and then the lines behind it
pub finished-line : (state : ShellState) (line text : List ℕ) (answer : Answer) (later : ShellState → List Reply → SessionRun) →
    answer.next ≡ next.Finished text →
    after_line state line answer later ≡ block_before (block_of state.shown line text) (later answer.state answer.left)
finished-line state line text answer later e = rw e refl

pub asking-line : (state : ShellState) (line : List ℕ) (asked : Step) (answer : Answer) (later : ShellState → List Reply → SessionRun) →
    answer.next ≡ next.Ask asked → (after_line state line answer later).blocks ≡ []
asking-line state line asked answer later e = rw e refl

-- what a block shows, from a state and replies on
abbrev Shows : List (List ℕ) → ShellState → List Reply → ℕ → Type 0
Shows lines state replies i =
    (i < length lines)
    × ShowsLine (lines_run (take i lines) state replies) (get_or lines i []) (get_or (lines_run lines state replies).blocks i [])

block-shows : (lines : List (List ℕ)) (state : ShellState) (replies : List Reply) (i : ℕ) →
    i < length (lines_run lines state replies).blocks → Shows lines state replies i
block-shows [] state replies i h = absurd (omega arith)
block-shows (line ∷ lines) state replies i h = elim (line_talk line state replies).next as (λ x. (line_talk line state replies).next ≡ x → Shows (line ∷ lines) state replies i) [
  | next.Ask asked ↦ λ e.
      let none = asking-line state line asked (line_talk line state replies) (lines_run lines) e in
      absurd (omega (arith, ap length none))
  | next.Finished text ↦ λ e. by_place i h e (finished-line state line text (line_talk line state replies) (lines_run lines) e)
      (block-shows lines (line_talk line state replies).state (line_talk line state replies).left)
] refl
  where
    by_place : {text : List ℕ} (i : ℕ) → i < length (lines_run (line ∷ lines) state replies).blocks →
        (line_talk line state replies).next ≡ next.Finished text →
        lines_run (line ∷ lines) state replies ≡ block_before (block_of state.shown line text) (lines_run lines (line_talk line state replies).state (line_talk line state replies).left) →
        ((j : ℕ) → j < length (lines_run lines (line_talk line state replies).state (line_talk line state replies).left).blocks → Shows lines (line_talk line state replies).state (line_talk line state replies).left j) →
        Shows (line ∷ lines) state replies i
    by_place {text} zero h e run later = (omega arith, record { text = text; finished = e; shows = ap (λ r. get_or r.blocks 0 []) run })
    by_place {text} (suc j) h e run later =
        let answer = line_talk line state replies in
        let inner = lines_run lines answer.state answer.left in
        let front = finished-line state line text answer (lines_run (take j lines)) e in
        let shorter : length (lines_run (line ∷ lines) state replies).blocks ≡ suc (length inner.blocks) = ap (λ r. length r.blocks) run in
        let found = later j (omega (arith, shorter)) in (
          omega (arith, found.0),
          record {
            text = found.1.text;
            finished = ap (λ r. (line_talk (get_or lines j []) r.state r.left).next) front ∙ found.1.finished;
            shows = ap (λ r. get_or r.blocks (suc j) []) run ∙ found.1.shows ∙ sym (ap (λ r. block_of r.state.shown (get_or lines j []) found.1.text) front);
          },
        )

pub each-block-shows : EachBlockShowsItsLine
unfolding session_run
each-block-shows lines replies i h = block-shows lines _ replies i h

-- an entry that is taken ends everything just where it is the end
pub take-over : (deck : Deck) (s t : RunState) (entry : Entry) → take_entry deck s entry ≡ Some t → t.is_over ≡ is_end entry.who
unfolding take_entry
take-over deck s t entry e = by_over s.is_over e
  where
    by_fit : (asked : Step) (b : Bool) (next : RunState) → next.is_over ≡ is_end entry.who → (cond b (Some next) None) ≡ Some t → t.is_over ≡ is_end entry.who
    by_fit asked true next h e = let same : next ≡ t = cc in sym (ap (λ r. r.is_over) same) ∙ h
    by_fit asked false next h e = absurd (cc)

    by_step : (x : Option Step) → take_step s entry x ≡ Some t → t.is_over ≡ is_end entry.who
    by_step None e = absurd (cc)
    by_step (Some asked) e = by_fit asked (fits_step s.world entry.who asked entry.mark) _ refl e

    by_over : (b : Bool) → cond b None (take_step s entry (entry_step deck s entry.who)) ≡ Some t → t.is_over ≡ is_end entry.who
    by_over true e = absurd (cc)
    by_over false e = by_step (entry_step deck s entry.who) e

-- after one entry and others everything has ended just where the last of them is the end
pub ended-last : (deck : Deck) (s t : RunState) (entry : Entry) (entries : List Entry) →
    take_entries deck s (entry ∷ entries) ≡ Some t → t.is_over ≡ is_end_last (entry ∷ entries)
ended-last deck s t entry [] e = elim (take_entry deck s entry) as (λ x. take_entry deck s entry ≡ x → t.is_over ≡ is_end_last (entry ∷ [])) [
  | None ↦ λ f. let no : option_and_then (λ u. take_entries deck u []) None ≡ Some t = sym (ap (option_and_then (λ u. take_entries deck u [])) f) ∙ e in absurd (cc)
  | Some u ↦ λ f. let same : Some u ≡ Some t = sym (ap (option_and_then (λ u. take_entries deck u [])) f) ∙ e in take-over deck s t entry (f ∙ same)
] refl
ended-last deck s t entry (later ∷ entries) e = elim (take_entry deck s entry) as (λ x. take_entry deck s entry ≡ x → t.is_over ≡ is_end_last (entry ∷ later ∷ entries)) [
  | None ↦ λ f. let no : option_and_then (λ u. take_entries deck u (later ∷ entries)) None ≡ Some t = sym (ap (option_and_then (λ u. take_entries deck u (later ∷ entries))) f) ∙ e in absurd (cc)
  | Some u ↦ λ f. ended-last deck u t later entries (sym (ap (option_and_then (λ u. take_entries deck u (later ∷ entries))) f) ∙ e)
] refl

-- a schedule whose entries can be taken is whole just where the end is last
pub whole-last : (deck : Deck) (describe : Describe) (schedule : List Entry) → is_some (state_after deck describe schedule) ≡ true →
    has_ended (state_after deck describe schedule) ≡ is_end_last schedule
whole-last deck describe [] e = refl
whole-last deck describe (entry ∷ entries) e = by_state (state_after deck describe (entry ∷ entries)) refl e
  where
    by_state : (x : Option RunState) → state_after deck describe (entry ∷ entries) ≡ x → is_some x ≡ true → has_ended x ≡ is_end_last (entry ∷ entries)
    by_state None f e = absurd (cc)
    by_state (Some t) f e = ended-last deck (opening_state deck describe) t entry entries f
