-- What a stage's calls say of the lines of a shell.
use Rattle.std.proofs.Common.{◌≡◌, ℕ, suc, ◌≤◌, true, false, Some, None, option_map, List, [], ◌∷◌, ◌++◌, length, map, take, refl, sym, ap, ◌∙◌, subst, append_assoc, append-nil, arith}
use Rattle.std.specs.List.{concat}
use Rattle.std.proofs.Math.Seq.{take-append_seam}
use Rattle.std.proofs.lemmas.List.{append_cancel_right, take_all}
use Rattle.vfs_base.specs.declared.entry.Entry.{Entry}
use Rattle.vfs_base.specs.declared.reply.Reply.{Reply}
use Rattle.vfs_model.proofs.BlockLemmas.{asking-line, finished-line}
use Rattle.vfs_model.proofs.GrowingRuns.{Grows, shown-stays}
use Rattle.vfs_model.specs.Command.{line_talk}
use Rattle.vfs_model.specs.Deck.{session_lines, shell_deck}
use Rattle.vfs_model.specs.ScriptRun.{RunState, has_ended, heard_by, rom_image, run_of, state_after}
use Rattle.vfs_model.specs.Session.{block_of, is_pending, lines_run, session_run}
use Rattle.vfs_model.specs.Transcript.{finished_text, session_text, shown}
use Rattle.vfs_model.specs.Turns.{Posts, RunOut, Task, follows_script, script_tasks}
use Rattle.vfs_model.specs.declared.script_form.ScriptForm.TheVariants as form
use Rattle.vfs_model.specs.declared.shell_state.Next.TheVariants as next
use Rattle.vfs_model.specs.declared.shell_state.ShellState.{ShellState}
use Rattle.script_stage.specs.Scenes.{GoesOn, Halts, IsNumber, Scene, Script, TellsMore, entries_before, posted_to, told_entries}
use Rattle.script_stage.specs.Standing.{Breaks, ClosesAt, Does, IsFresh, IsIdle, Opens, StandsAt, StopsAt, closing_tasks}
use Rattle.script_stage.proofs.Ending.{script-lines, work-here}
use Rattle.script_stage.proofs.SessionLemmas.{exit-idle, exit-shows, idle-leaves}
use Rattle.script_stage.proofs.Counting.{none-falls, taken-later}
use Rattle.step_world.specs.WorldView.{WorldView}
use Rattle.vfs_model.specs.Homes.{opening_world}
use Rattle.vfs_model.specs.FaultCounts.{ByDevice, NoneFalls}
use Rattle.dfs_run.proofs.Unstarved.{before-unstarved, unstarved}
use Rattle.dfs_run.specs.Ending.{Closes, HasFront, KeepsSteps, LeavesOpen}
use Rattle.dfs_run.specs.Serving.{GivesUp, RunsLine, ShowsUpTo}
use Rattle.dfs_run.specs.Standing.{StandsBehind, StopsBehind, with_lines}

one-is-number : IsNumber 1
one-is-number = (omega arith, omega arith)

-- the lines of a shell's script
pub shell-lines : (lines : List (List ℕ)) → session_lines (shell_deck lines) 1 ≡ lines
shell-lines [] = refl
shell-lines (line ∷ lines) = ap (λ l. line ∷ l) (shell-lines lines)

-- no more blocks than lines, and where nothing is pending as many
few-blocks : (lines : List (List ℕ)) (state : ShellState) (replies : List Reply) → length (lines_run lines state replies).blocks ≤ length lines
few-blocks [] state replies = omega arith
few-blocks (line ∷ lines) state replies = elim (line_talk line state replies).next as (λ x. (line_talk line state replies).next ≡ x → length (lines_run (line ∷ lines) state replies).blocks ≤ suc (length lines)) [
  | next.Ask asked ↦ λ e. let none = ap length (asking-line state line asked (line_talk line state replies) (lines_run lines) e) in omega (arith, none)
  | next.Finished text ↦ λ e.
      let answer = line_talk line state replies in
      let some = ap (λ r. length r.blocks) (finished-line state line text answer (lines_run lines) e) in
      let rest = few-blocks lines answer.state answer.left in omega (arith, some, rest)
] refl

all-blocks : (lines : List (List ℕ)) (state : ShellState) (replies : List Reply) → is_pending (lines_run lines state replies) ≡ false →
    length (lines_run lines state replies).blocks ≡ length lines
all-blocks [] state replies h = refl
all-blocks (line ∷ lines) state replies h = elim (line_talk line state replies).next as (λ x. (line_talk line state replies).next ≡ x → length (lines_run (line ∷ lines) state replies).blocks ≡ suc (length lines)) [
  | next.Ask asked ↦ λ e. let pending : is_pending (lines_run (line ∷ lines) state replies) ≡ true = rw e refl in absurd (cc)
  | next.Finished text ↦ λ e.
      let answer = line_talk line state replies in
      let done = finished-line state line text answer (lines_run lines) e in
      let some = ap (λ r. length r.blocks) done in
      let rest = all-blocks lines answer.state answer.left (ap is_pending (sym done) ∙ h) in omega (arith, some, rest)
] refl

-- more lines leave the blocks, and add some
lines-grow : (lines more : List (List ℕ)) (state : ShellState) (replies : List Reply) → Grows (lines_run lines state replies).blocks (lines_run (lines ++ more) state replies).blocks
lines-grow [] more state replies = ((lines_run more state replies).blocks, refl)
lines-grow (line ∷ lines) more state replies = elim (line_talk line state replies).next as (λ x. (line_talk line state replies).next ≡ x → Grows (lines_run (line ∷ lines) state replies).blocks (lines_run (line ∷ lines ++ more) state replies).blocks) [
  | next.Ask asked ↦ λ e.
      let short = asking-line state line asked (line_talk line state replies) (lines_run lines) e in
      ((lines_run (line ∷ lines ++ more) state replies).blocks, ap (λ front. front ++ (lines_run (line ∷ lines ++ more) state replies).blocks) (sym short))
  | next.Finished text ↦ λ e.
      let answer = line_talk line state replies in
      let short = finished-line state line text answer (lines_run lines) e in
      let long = finished-line state line text answer (lines_run (lines ++ more)) e in
      let inner = lines-grow lines more answer.state answer.left in
      (inner.0, ap (λ r. r.blocks) long ∙ ap (λ blocks. block_of state.shown line text ∷ blocks) inner.1 ∙ sym (ap (λ r. r.blocks ++ inner.0) short))
] refl

-- The blocks of lines that were run to their ends: as many as the lines, and all that was handed out.
record FirstBlocks (deck_lines lines : List (List ℕ)) (s : RunState) (handed : List ℕ) : Type 0 where
  blocks : List (List ℕ)
  more : List (List ℕ)
  shown : (run_of (shell_deck deck_lines) s 1).blocks ≡ blocks ++ more
  count : length blocks ≡ length lines
  text : concat blocks ≡ handed

module _ (scene : Scene) (base : Script) (lines : List (List ℕ)) (handed : List ℕ) (p : StandsBehind scene base lines handed) where
  -- the lines that were posted
  posted-lines : (later : List (List ℕ)) → posted_to (p.stands later).plays.posted 1 ≡ lines
  posted-lines later =
      let at = (p.stands later).plays in
      let both : lines ++ later ≡ posted_to at.posted 1 ++ later =
      sym (shell-lines (lines ++ later)) ∙ at.left 1 one-is-number
      ∙ ap (λ l. posted_to at.posted 1 ++ l) (script-lines 1 (shell_deck later) ∙ shell-lines later) in
      sym (append_cancel_right lines (posted_to at.posted 1) later both)

  here-blocks : (later : List (List ℕ)) → FirstBlocks (lines ++ later) lines (p.stands later).plays.s handed
  unfolding session_run
  here-blocks later =
      let at = (p.stands later).plays in
      let a = at.each 1 one-is-number in
      let fresh = p.fresh a.session a.found in
      let posted = posted-lines later in
      let heard = heard_by at.s 1 in
      let leaves = idle-leaves a.session (posted_to at.posted 1) heard handed a.stands fresh.0 in
      let idle = ap (λ l. is_pending (session_run l heard)) (sym posted) ∙ exit-idle a.session (posted_to at.posted 1) heard handed leaves in
      let grown = lines-grow lines later _ heard in
      record {
        blocks = (session_run lines heard).blocks;
        more = grown.0;
        shown = ap (λ l. (session_run l heard).blocks) (shell-lines (lines ++ later)) ∙ grown.1;
        count = all-blocks lines _ heard idle;
        text = ap (λ l. concat (session_run l heard).blocks) (sym posted) ∙ exit-shows a.session (posted_to at.posted 1) heard handed leaves
            ∙ ap (λ t. handed ++ t) fresh.1 ∙ append-nil handed;
      }

  -- behind more steps too
  behind-blocks : (later : List (List ℕ)) (more : List Entry) (s : RunState) → state_after (shell_deck (lines ++ later)) base.describe (scene.schedule ++ more) ≡ Some s →
      FirstBlocks (lines ++ later) lines s handed
  behind-blocks later more s taken =
      let at = (p.stands later).plays in
      let here = here-blocks later in
      let grown = shown-stays (shell_deck (lines ++ later)) base.describe scene.schedule more at.s s 1 at.reaches.taken taken in
      record {
        blocks = here.blocks;
        more = here.more ++ grown.0;
        shown = grown.1 ∙ ap (λ l. l ++ grown.0) here.shown ∙ append_assoc here.blocks here.more grown.0;
        count = here.count;
        text = here.text;
      }

  -- the first lines show what was handed out
  pub first-shown : (later : List (List ℕ)) (more : List Entry) (s : RunState) → state_after (shell_deck (lines ++ later)) base.describe (scene.schedule ++ more) ≡ Some s →
      concat (take (length lines) (run_of (shell_deck (lines ++ later)) s 1).blocks) ≡ handed
  first-shown later more s taken =
      let b = behind-blocks later more s taken in
      ap (λ n. concat (take n (run_of (shell_deck (lines ++ later)) s 1).blocks)) (sym b.count)
      ∙ ap (λ l. concat (take (length b.blocks) l)) b.shown ∙ ap concat (take-append_seam b.blocks b.more) ∙ b.text

  -- and where no line comes behind them, that is all
  pub all-shown : (more : List Entry) (s : RunState) → state_after (shell_deck lines) base.describe (scene.schedule ++ more) ≡ Some s →
      session_text (shell_deck lines) s 1 ≡ handed
  unfolding session_run
  all-shown more s taken =
      let same : lines ++ [] ≡ lines = append-nil lines in
      let shown = subst (λ l. state_after (shell_deck l) base.describe (scene.schedule ++ more) ≡ Some s → concat (take (length lines) (run_of (shell_deck l) s 1).blocks) ≡ handed) same
      (first-shown [] more s) taken in
      let few : length (run_of (shell_deck lines) s 1).blocks ≤ length lines =
      subst (λ l. length (session_run l (heard_by s 1)).blocks ≤ length lines) (sym (shell-lines lines)) (few-blocks lines _ (heard_by s 1)) in
      sym (ap concat (take_all (length lines) (run_of (shell_deck lines) s 1).blocks few)) ∙ shown

  -- the same as a bound
  first-bound : (line : List ℕ) (new : Scene) → GoesOn scene new → ShowsUpTo new base (lines ++ line ∷ []) (length lines) (length handed)
  first-bound line new on more s taken =
      let is = first-shown (line ∷ []) (on.later ++ more) s
      (ap (state_after (shell_deck (lines ++ line ∷ [])) base.describe) (sym (append_assoc scene.schedule on.later more) ∙ ap (λ l. l ++ more) (sym on.schedule)) ∙ taken) in
      let size = ap length is in omega (arith, size)

  pub here-bound : ShowsUpTo scene base lines (length lines) (length handed)
  here-bound more s taken =
      let is = ap (λ l. length l) (first-shown-none more s taken) in omega (arith, is)
    where
      first-shown-none : (more : List Entry) (s : RunState) → state_after (shell_deck lines) base.describe (scene.schedule ++ more) ≡ Some s →
          concat (take (length lines) (run_of (shell_deck lines) s 1).blocks) ≡ handed
      first-shown-none more s taken =
          subst (λ l. state_after (shell_deck l) base.describe (scene.schedule ++ more) ≡ Some s → concat (take (length lines) (run_of (shell_deck l) s 1).blocks) ≡ handed) (append-nil lines)
          (first-shown [] more s) taken

-- the text that was handed out is the line's block
abbrev pub HandsOut : Scene → Scene → List ℕ → Type 0
HandsOut old new text = (script : Script) (tasks : List Task) (handed : List ℕ) → StandsAt old script tasks handed → StandsAt new script tasks (handed ++ text)

goes-halted : (a b c : Scene) → GoesOn a b → Halts b c → GoesOn a c
goes-halted a b c on halts = record { later = on.later; schedule = halts.schedule ∙ on.schedule; leaves_at = halts.leaves_at ∙ on.leaves_at }

-- a line was run to its end and its block handed out
pub runs_line : (old mid new : Scene) (line text : List ℕ) → Does old mid (RunOut 1 ∷ Posts 1 line ∷ RunOut 1 ∷ []) → GoesOn old mid → IsIdle mid.sessions 1 →
    HandsOut mid new text → (IsIdle mid.sessions 1 → IsFresh new) → Halts mid new → RunsLine old new line text
runs_line old mid new line text does on idle = λ hands fresh halts. record {
  stands = λ base lines handed p. record {
    stands = λ later.
        hands (with_lines base ((lines ++ line ∷ []) ++ later)) (script_tasks (shell_deck later)) handed
        (does (with_lines base ((lines ++ line ∷ []) ++ later)) (script_tasks (shell_deck later)) handed
        (subst (λ l. StandsAt old (with_lines base l) (script_tasks (shell_deck (line ∷ later))) handed)
        (sym (append_assoc lines (line ∷ []) later)) (p.stands (line ∷ later))));
    fresh = fresh idle;
  };
  prompt = λ base lines handed p. first-bound old base lines handed p line new (goes-halted old mid new on halts);
}

-- memory was wanting in a line
pub gives_up : (old new : Scene) (line : List ℕ) → Breaks old new (RunOut 1 ∷ Posts 1 line ∷ RunOut 1 ∷ []) → GoesOn old new → GivesUp old new line
gives_up old new line breaks on = record {
  stops = λ base lines handed p. record {
    stops = breaks (with_lines base (lines ++ line ∷ [])) (script_tasks (shell_deck [])) handed (p.stands (line ∷ []));
    stays = on.leaves_at ∙ (p.stands []).stays;
  };
  prompt = λ base lines handed p. first-bound old base lines handed p line new on;
}

-- a stage between lines may end early
pub stops_behind : (scene : Scene) (base : Script) (lines : List (List ℕ)) (handed : List ℕ) → StandsBehind scene base lines handed → StopsBehind scene base lines handed
stops_behind scene base lines handed p = record {
  stops = subst (λ l. StopsAt scene (with_lines base l) handed) (append-nil lines) (work-here scene (with_lines base (lines ++ [])) (script_tasks (shell_deck [])) handed (p.stands []));
  stays = (p.stands []).stays;
}

-- a new stage stands before the first line
pub stands_new : (scene : Scene) (view : WorldView) (base : Script) → ((script : Script) → Opens script view → StandsAt scene script (script_tasks script.deck) []) →
    IsFresh scene → base.deck ≡ shell_deck [] → Opens base view → StandsBehind scene base [] []
stands_new scene view base new fresh none opens = record {
  stands = λ later. new (with_lines base later) (record { world = opens.world ∙ ap (λ d. Some (opening_world (map rom_image d.roms) base.describe)) none; counted = opens.counted });
  fresh = fresh;
}

-- steps of lines that came so far
pub front-steps : (scene : Scene) (base : Script) (lines : List (List ℕ)) (handed : List ℕ) (last : ByDevice) → NoneFalls scene.view.faults last →
    StopsAt scene (with_lines base lines) handed → HasFront base lines (told_entries scene) last handed
unfolding follows_script shown
front-steps scene base lines handed last rising p = record {
  later = p.later;
  follows = p.turns;
  taken = ap (option_map (finished_text form.Shell (shell_deck lines))) p.taken ∙ ap Some p.shown;
  unended = ap has_ended p.taken ∙ p.is_open;
  taken_on = taken-later (with_lines base lines) (told_entries scene) scene.view.faults last rising p.taken_on;
  unstarved = before-unstarved (shell_deck lines) base.describe (told_entries scene) p.before;
  before = p.before;
}

-- want of memory kept the steps so far
pub keeps_steps : (scene : Scene) (last : ByDevice) → NoneFalls scene.view.faults last → KeepsSteps scene (told_entries scene) last
keeps_steps scene last rising base lines handed p = (
  front-steps scene base lines handed last rising p.stops,
  ([], ap (λ x. entries_before x scene.schedule) p.stays ∙ sym (append-nil scene.schedule)),
)

-- a stage that stood behind lines had only its end before it
closing-behind : (scene : Scene) (base : Script) (lines : List (List ℕ)) (handed : List ℕ) → StandsBehind scene base lines handed →
    StandsAt scene (with_lines base lines) closing_tasks handed
closing-behind scene base lines handed p = subst (λ l. StandsAt scene (with_lines base l) closing_tasks handed) (append-nil lines) (p.stands [])

abbrev pub EndsEarly : Scene → Scene → Type 0
EndsEarly old new = (script : Script) (handed : List ℕ) → StandsAt old script closing_tasks handed → StopsAt new script handed

abbrev pub TakesEnd : Scene → Scene → Type 0
TakesEnd old new = (script : Script) (handed : List ℕ) → StandsAt old script closing_tasks handed → ClosesAt new script handed

-- want of memory kept a stage from its end
pub leaves_open : (old new : Scene) (last : ByDevice) → EndsEarly old new → (old.leaves_at ≡ None → TellsMore old new) → NoneFalls new.view.faults last →
    LeavesOpen old (told_entries new) last
leaves_open old new last stops tells rising = λ base lines handed p.
    let more = tells (p.stands []).stays in (
      front-steps new base lines handed last rising (stops (with_lines base lines) handed (closing-behind old base lines handed p)),
      (more.more, more.told),
    )

-- the same where the end was taken, and there is no memory for what comes behind it
pub lacks_end : (old new : Scene) → TakesEnd old new → (old.leaves_at ≡ None → TellsMore old new) → LeavesOpen old (told_entries new) new.view.faults
lacks_end old new closes tells =
    leaves_open old new new.view.faults (λ script handed at. (closes script handed at).stops) tells (none-falls new.view.faults)

-- the end was taken
pub closes_lines : (old new : Scene) → TakesEnd old new → (old.leaves_at ≡ None → TellsMore old new) → Closes old new.schedule new.view.faults
unfolding follows_script shown
closes_lines old new closes tells base lines handed p =
    let more = tells (p.stands []).stays in
    let c = closes (with_lines base lines) handed (closing-behind old base lines handed p) in
    let text = all-shown old base lines handed p more.later c.s (ap (state_after (shell_deck lines) base.describe) (sym more.schedule) ∙ c.taken) in (
      record {
        follows = c.turns;
        taken = ap (option_map (finished_text form.Shell (shell_deck lines))) c.taken ∙ ap Some text;
        whole = ap has_ended c.taken ∙ c.is_over;
        taken_on = c.taken_on;
        unstarved = unstarved (with_lines base lines) new.schedule new.view.faults c.there c.taken_on;
      },
      (more.later, more.schedule),
    )
