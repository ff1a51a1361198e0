-- How the run of a script ends, and what a replay of its input shows.
use Rattle.std.proofs.Common.{◌≡◌, ℕ, suc, ◌+◌, ◌<◌, ◌≤◌, true, false, inl, inr, drop, get_or, add-one, Option, Some, None, Result, Ok, Err, option_map, length, List, [], ◌∷◌, ◌++◌, refl, sym, ap, ◌∙◌, subst, append_assoc}
use Rattle.std.specs.List.{flat_map}
use Rattle.std.specs.Result.{result_ok, result_err}
use Rattle.std.specs.Io.KnownBytes.{Appends}
use Rattle.std.proofs.KnownBytes.{Appends-nil}
use Rattle.std.proofs.Math.Seq.{drop-cons, take-length}
use Rattle.std.proofs.lemmas.List.{drop_all}
use Rattle.vfs_base.specs.declared.deck.Act.{Act}
use Rattle.vfs_base.specs.declared.deck.Deck.{Deck}
use Rattle.vfs_base.specs.declared.entry.Entry.{Entry}
use Rattle.vfs_model.specs.Deck.{deck_of}
use Rattle.vfs_model.specs.FaultCounts.{ByDevice, NoneFalls}
use Rattle.vfs_model.specs.Schedule.{schedule_line}
use Rattle.vfs_model.specs.ScriptRun.{RunState, has_ended, state_after}
use Rattle.vfs_model.specs.Transcript.{finished_text, sessions_text, transcript}
use Rattle.vfs_model.specs.Turns.{act_tasks, follows_script}
use Rattle.vfs_model.specs.declared.script_form.ScriptForm.{ScriptForm}
use Rattle.vfs_model.specs.declared.script_form.ScriptForm.TheVariants as form
use Rattle.dfs_run.proofs.HeadlineLemmas.{open_text, over_text}
use Rattle.dfs_run.proofs.Unstarved.{before-unstarved, unstarved}
use Rattle.dfs_run.specs.Headline.{HasTranscript, ReplayShows, ShowsFrontOf}
use Rattle.dfs_run.specs.Replaying.{IsReadAs, PlaysFor, ReplayEnds, ReplayEndsFor, StopsScript, WritesTranscript, script_note, written_io}
use Rattle.dfs_run.specs.Run.{Run, Streams, run_for}
use Rattle.dfs_run.specs.declared.report.FaultNote.{FaultNote}
use Rattle.dfs_run.specs.declared.report.FaultNote.TheVariants as fault
use Rattle.dfs_run.specs.declared.script_stop.ScriptStop.{ScriptStop}
use Rattle.dfs_run.specs.declared.script_stop.ScriptStop.TheVariants as stop
use Rattle.dfs_run.proofs.ServingLemmas.{is_supposed, supposed}
use Rattle.script_stage.proofs.Counting.{none-falls, taken-later}
use Rattle.script_stage.specs.Scenes.{Scene, Script, told_entries}
use Rattle.script_stage.specs.Standing.{Breaks, ClosesAt, Does, StandsAt, StopsAt, closing_tasks}

-- the transcript after the end
pub transcript_closed : (scene : Scene) (script : Script) (s : RunState) → state_after script.deck script.describe scene.schedule ≡ Some s
    → s.is_over ≡ true → transcript form.Replay script.deck script.describe scene.schedule ≡ Some (sessions_text script.deck s ++ schedule_line scene.schedule)
unfolding transcript
transcript_closed scene script s taken over =
    over_text (state_after script.deck script.describe scene.schedule) (finished_text form.Replay script.deck) (sessions_text script.deck s) (schedule_line scene.schedule)
    (ap (option_map (finished_text form.Replay script.deck)) taken) (ap has_ended taken ∙ over)

module _ (script : Script) (io : Streams) (last : ByDevice) (why : Option FaultNote) where
  -- the whole schedule of a script has this transcript
  pub closed-transcript : (scene : Scene) (text : List ℕ) → ClosesAt scene script [] → transcript form.Replay script.deck script.describe scene.schedule ≡ Some text →
      NoneFalls scene.view.faults last → HasTranscript form.Replay script.deck (run_for script io scene.schedule last why) true text
  unfolding follows_script
  closed-transcript scene text c e rising = record {
    follows = c.turns;
    taken = e;
    ends = ap has_ended c.taken ∙ c.is_over;
    taken_on = taken-later script scene.schedule scene.view.faults last rising c.taken_on;
    unstarved = unstarved script scene.schedule scene.view.faults c.there c.taken_on;
    before = λ e. absurd (cc);
  }

  -- a schedule that want of memory stopped has a transcript, of which nothing was written
  pub stopped-front : (scene : Scene) → io.now ≡ io.before → StopsAt scene script [] → NoneFalls scene.view.faults last →
      ShowsFrontOf form.Replay script.deck false (run_for script io (told_entries scene) last why)
  unfolding follows_script transcript
  stopped-front scene same p rising = record {
    text = sessions_text script.deck p.s;
    size = 0;
    transcript = record {
      follows = p.turns;
      taken = open_text (state_after script.deck script.describe (told_entries scene)) (finished_text form.Replay script.deck) (sessions_text script.deck p.s) (schedule_line (told_entries scene))
          (ap (option_map (finished_text form.Replay script.deck)) p.taken) (ap has_ended p.taken ∙ p.is_open);
      ends = ap has_ended p.taken ∙ p.is_open;
      taken_on = taken-later script (told_entries scene) scene.view.faults last rising p.taken_on;
      unstarved = before-unstarved script.deck script.describe (told_entries scene) p.before;
      before = λ e. p.before;
    };
    written = subst (λ o. Appends io.before o []) (sym same) (Appends-nil io.before);
  }

-- how a run ends that want of memory stopped
pub plays_stopped : (script : Script) (scene : Scene) (steps : List Entry) (last : ByDevice) (before : Option (List ℕ)) (told : Option FaultNote) →
    steps ≡ told_entries scene → told ≡ Some fault.NoMemory → StopsAt scene script [] → NoneFalls scene.view.faults last → PlaysFor told script steps last before before
plays_stopped script scene steps last before told same is = λ p rising.
    subst (λ t. PlaysFor t script steps last before before) (sym is) (
      refl,
      inr (subst (λ l. ShowsFrontOf form.Replay script.deck false (run_for script (written_io before before) l last None)) (sym same)
          (stopped-front script (written_io before before) last None scene refl p rising)),
    )

-- how a run ends whose end was taken
pub plays_written : (script : Script) (scene : Scene) (steps : List Entry) (last : ByDevice) (before now : Option (List ℕ)) (told : Option FaultNote) →
    ClosesAt scene script [] → last ≡ scene.view.faults → WritesTranscript told script scene steps before now → PlaysFor told script steps last before now
plays_written script scene steps last before now None c e = λ w. record {
  text = w.1;
  transcript = subst (λ l. HasTranscript form.Replay script.deck (run_for script (written_io before now) l last None) true w.1) (sym w.0)
      (closed-transcript script (written_io before now) last None scene w.1 c w.2 (subst (NoneFalls scene.view.faults) (sym e) (none-falls scene.view.faults)));
  written = w.3;
}
plays_written script scene steps last before now (Some fault.NoMemory) c e = λ w. (
  w.1,
  inr (subst (λ o. ShowsFrontOf form.Replay script.deck false (run_for script (written_io before o) steps last None)) (sym w.1)
      (subst (λ l. ShowsFrontOf form.Replay script.deck false (run_for script (written_io before before) l last None)) (sym w.0)
      (stopped-front script (written_io before before) last None scene refl c.stops (subst (NoneFalls scene.view.faults) (sym e) (none-falls scene.view.faults))))),
)
plays_written script scene steps last before now (Some fault.WriteFault) c e = λ w. record {
  text = w.1;
  size = w.3;
  transcript = subst (λ l. HasTranscript form.Replay script.deck (run_for script (written_io before now) l last None) true w.1) (sym w.0)
      (closed-transcript script (written_io before now) last None scene w.1 c w.2 (subst (NoneFalls scene.view.faults) (sym e) (none-falls scene.view.faults)));
  written = w.4;
}
plays_written script scene steps last before now (Some fault.Usage) c e = λ w. absurd w
plays_written script scene steps last before now (Some (fault.BadDeck line)) c e = λ w. absurd w
plays_written script scene steps last before now (Some fault.ReadFault) c e = λ w. absurd w
plays_written script scene steps last before now (Some (fault.DeviceFault device)) c e = λ w. absurd w

-- a transcript of a run is one of the same run with another source
same-transcript : (shape : ScriptForm) (deck : Deck) (whole : Rattle.std.specs.Prelude.Bool) (text : List ℕ) (script : Script) (io other : Streams) (steps : List Entry) (last : ByDevice) (why told : Option FaultNote) →
    HasTranscript shape deck (run_for script io steps last why) whole text → HasTranscript shape deck (run_for script other steps last told) whole text
same-transcript shape deck whole text script io other steps = λ last why told t.
    record { follows = t.follows; taken = t.taken; ends = t.ends; taken_on = t.taken_on; unstarved = t.unstarved; before = t.before }

same-front : (shape : ScriptForm) (deck : Deck) (whole : Rattle.std.specs.Prelude.Bool) (script : Script) (io : Streams) (steps : List Entry) (last : ByDevice) (told : Option FaultNote) →
    ShowsFrontOf shape deck whole (run_for script (written_io io.before io.now) steps last None) → ShowsFrontOf shape deck whole (run_for script io steps last told)
same-front shape deck whole script io steps last told f = record {
  text = f.text;
  size = f.size;
  transcript = same-transcript shape deck whole f.text script (written_io io.before io.now) io steps last None told f.transcript;
  written = f.written;
}

-- the run of a script that was read is the replay of its input
module _ (script : Script) (io : Streams) (steps : List Entry) (last : ByDevice) (input : List ℕ) (read : deck_of input ≡ Ok script.deck) where
  plays-ends : (why told : Option FaultNote) → PlaysFor why script steps last io.before io.now → ReplayEndsFor why (run_for script io steps last told) input
  plays-ends None told p = record {
    deck = script.deck;
    text = p.text;
    script = ap result_ok read;
    transcript = same-transcript form.Replay script.deck true p.text script (written_io io.before io.now) io steps last None told p.transcript;
    written = p.written;
  }
  plays-ends (Some fault.NoMemory) told (same, inl none) = inl (record { schedule = none; written = same })
  plays-ends (Some fault.NoMemory) told (same, inr front) =
      inr (same, record { deck = script.deck; script = read; front = same-front form.Replay script.deck false script io steps last told front })
  plays-ends (Some fault.Usage) told p = absurd p
  plays-ends (Some (fault.BadDeck line)) told p = absurd p
  plays-ends (Some fault.ReadFault) told p = absurd p
  plays-ends (Some fault.WriteFault) told p = record { deck = script.deck; script = read; front = same-front form.Replay script.deck true script io steps last told p }
  plays-ends (Some (fault.DeviceFault device)) told p = absurd p

-- a replay whose script was read
pub plays_told : (script : Script) (io : Streams) (steps : List Entry) (last : ByDevice) (told : Option FaultNote) → IsReadAs io.given script.deck →
    PlaysFor told script steps last io.before io.now → ReplayEnds (run_for script io steps last told)
plays_told script io steps last told (input, known, read) p = (input, known, plays-ends script io steps last input read told told p)

-- no script was read
pub stops_told : (script : Script) (io : Streams) (last : ByDevice) (why : ScriptStop) (steps : List Entry) (told : Option FaultNote) → steps ≡ [] → told ≡ Some (script_note why) →
    io.now ≡ io.before → StopsScript io.given io.rest why → ReplayEnds (run_for script io steps last told)
stops_told script io last why steps told none is same = λ s.
    subst (λ t. ReplayEnds (run_for script io steps last t)) (sym is) (by_stop why s)
  where
    by_stop : (why : ScriptStop) → StopsScript io.given io.rest why → ReplayEnds (run_for script io steps last (Some (script_note why)))
    by_stop stop.NoMemory s = (supposed io.given, is_supposed io.given, inl (record { schedule = none; written = same }))
    by_stop (stop.BadLine line) s = (s.1.0, s.1.1, (s.1.2, record { schedule = none; written = same }))
    by_stop stop.ReadFault s = (supposed io.given, is_supposed io.given, record { schedule = none; written = same })

-- however a replay ends, it shows all or nothing
pub read_as : (read : Result Deck ℕ) (deck : Deck) → result_ok read ≡ Some deck → read ≡ Ok deck
read_as (Ok found) deck e = cc
read_as (Err line) deck e = cc

pub replay_shows : (run : Run) (input : List ℕ) (why : Option FaultNote) → ReplayEndsFor why run input → ReplayShows why run input
replay_shows run input None e = record {
  deck = e.deck;
  script = read_as (deck_of input) e.deck e.script;
  front = record {
    text = e.text;
    size = length e.text;
    transcript = e.transcript;
    written = subst (Appends run.io.before run.io.now) (sym (take-length e.text)) e.written;
  };
}
replay_shows run input (Some fault.NoMemory) e = e
replay_shows run input (Some fault.Usage) e = absurd e
replay_shows run input (Some (fault.BadDeck line)) e = e.1
replay_shows run input (Some fault.ReadFault) e = e
replay_shows run input (Some fault.WriteFault) e = e
replay_shows run input (Some (fault.DeviceFault device)) e = absurd e

-- the acts from a place on
acts_at : (acts : List Act) (i : ℕ) (act : Act) → i < length acts → act ≡ get_or acts i act → drop i acts ≡ act ∷ drop (i + 1) acts
acts_at acts i act h is =
    drop-cons acts i act h ∙ ap (λ first. first ∷ drop (suc i) acts) (sym is) ∙ ap (λ n. act ∷ drop n acts) (sym (add-one i))

-- memory was wanting in an act
pub act_stops : (old new : Scene) (script : Script) (acts : List Act) (act : Act) (i : ℕ) → i < length acts → act ≡ get_or acts i act
    → Breaks old new (act_tasks act) → StandsAt old script (flat_map act_tasks (drop i acts) ++ closing_tasks) [] → StopsAt new script []
act_stops old new script acts act i h is breaks = λ p.
    breaks script (flat_map act_tasks (drop (i + 1) acts) ++ closing_tasks) []
    (subst (λ tasks. StandsAt old script tasks [])
    (ap (λ l. flat_map act_tasks l ++ closing_tasks) (acts_at acts i act h is)
    ∙ append_assoc (act_tasks act) (flat_map act_tasks (drop (i + 1) acts)) closing_tasks) p)

-- an act was played
pub act_done : (old new : Scene) (script : Script) (acts : List Act) (act : Act) (i : ℕ) → i < length acts → act ≡ get_or acts i act
    → Does old new (act_tasks act) → StandsAt old script (flat_map act_tasks (drop i acts) ++ closing_tasks) []
    → StandsAt new script (flat_map act_tasks (drop (i + 1) acts) ++ closing_tasks) []
act_done old new script acts act i h is does = λ p.
    does script (flat_map act_tasks (drop (i + 1) acts) ++ closing_tasks) []
    (subst (λ tasks. StandsAt old script tasks [])
    (ap (λ l. flat_map act_tasks l ++ closing_tasks) (acts_at acts i act h is)
    ∙ append_assoc (act_tasks act) (flat_map act_tasks (drop (i + 1) acts)) closing_tasks) p)

-- all acts were played
pub acts_over : (scene : Scene) (script : Script) (acts : List Act) (i : ℕ) → length acts ≤ i
    → StandsAt scene script (flat_map act_tasks (drop i acts) ++ closing_tasks) [] → StandsAt scene script closing_tasks []
acts_over scene script acts i h p = subst (λ l. StandsAt scene script (flat_map act_tasks l ++ closing_tasks) []) (drop_all i acts h) p

-- the transcript of a stage behind its end
pub transcript_written : (scene : Scene) (script : Script) (nothing sessions line whole : List ℕ) → nothing ≡ [] → ClosesAt scene script [] →
    ((s : RunState) → state_after script.deck script.describe scene.schedule ≡ Some s → sessions ≡ nothing ++ sessions_text script.deck s) → line ≡ schedule_line scene.schedule →
    whole ≡ sessions ++ line → transcript form.Replay script.deck script.describe scene.schedule ≡ Some whole
transcript_written scene script nothing sessions line whole none c shown is joined =
    let text : sessions ≡ sessions_text script.deck c.s = shown c.s c.taken ∙ ap (λ l. l ++ sessions_text script.deck c.s) none in
    transcript_closed scene script c.s c.taken c.is_over ∙ ap Some (sym (joined ∙ ap (λ l. l ++ line) text ∙ ap (λ l. sessions_text script.deck c.s ++ l) is))
