-- A run of the shell ends as its serving ended.
use Rattle.std.proofs.Common.{◌≡◌, ℕ, arith, true, false, Option, Some, None, List, [], ◌++◌, map, take, refl, sym, ◌∙◌, subst}
use Rattle.std.specs.List.{concat}
use Rattle.std.specs.Prelude.{IfNone}
use Rattle.std.specs.Io.KnownBytes.{Appends}
use Rattle.std.proofs.KnownBytes.{Appends-nil}
use Rattle.vfs_base.specs.declared.entry.Entry.{Entry}
use Rattle.vfs_model.specs.Deck.{shell_deck}
use Rattle.vfs_model.specs.FaultCounts.{ByDevice}
use Rattle.vfs_model.specs.Leaving.{is_leaving}
use Rattle.vfs_model.specs.Script.{line_text, raw_lines}
use Rattle.vfs_model.specs.Schedule.{schedule_line}
use Rattle.vfs_model.specs.Session.{session_run}
use Rattle.vfs_model.specs.Transcript.{shown}
use Rattle.vfs_model.specs.Turns.{follows_script}
use Rattle.dfs_input.specs.LineReader.{ReaderState}
use Rattle.dfs_run.proofs.HeadlineLemmas.{ends-at-bad-line, begun-input, ends-at-read-fault, ends-well, front-of, front-unended, front-whole, served-end, transcript-open}
use Rattle.dfs_run.proofs.ServingLemmas.{is_supposed, served_posts, supposed}
use Rattle.dfs_run.proofs.StandingLemmas.{TakesEnd, closes_lines, lacks_end}
use Rattle.dfs_run.proofs.Unstarved.{before-unstarved}
use Rattle.dfs_run.specs.Causes.{note_of}
use Rattle.dfs_run.specs.Ending.{Closes, ClosesFor, EndsFor, HasFront, KeepsSteps, LeavesOpen, ShellEnds, StopsFor, WritesLine}
use Rattle.dfs_run.specs.Run.{Streams, run_for}
use Rattle.dfs_run.specs.Serving.{Posts, moment_of, opening_moment}
use Rattle.dfs_run.specs.Standing.{StandsBehind, with_lines}
use Rattle.dfs_run.specs.Stopping.{ServesAll, Stops}
use Rattle.dfs_run.specs.declared.line_stop.LineStop.{LineStop}
use Rattle.dfs_run.specs.declared.line_stop.LineStop.TheVariants as stop
use Rattle.dfs_run.specs.declared.report.FaultNote.{FaultNote}
use Rattle.dfs_run.specs.declared.report.FaultNote.TheVariants as fault
use Rattle.script_stage.proofs.Counting.{no-entry, taken-none}
use Rattle.script_stage.specs.Scenes.{Scene, Script, TellsMore, told_entries}

-- a new reader and a new stage stand before the first line
pub opening_moment-of : (reader : ReaderState) (stage : Scene) (left sink : Option (List ℕ))
    → reader ≡ record { number = 0; size = 0; buffered = []; at_end = false } → moment_of reader stage left sink ≡ opening_moment stage left sink
opening_moment-of reader stage left sink r = rw r refl

-- a run that ends so for what it is told to have ended for
told-so : (base : Script) (io : Streams) (steps : List Entry) (last : ByDevice) (why told : Option FaultNote) → told ≡ why →
    EndsFor why (run_for base io steps last why) → ShellEnds (run_for base io steps last told)
told-so base io steps last why told e p = subst (λ f. ShellEnds (run_for base io steps last f)) (sym e) p

module _ (base : Script) (io : Streams) (start : Scene) (stands : StandsBehind start base [] []) where
  -- want of memory while lines are served
  pub ends-kept : (scene : Scene) (steps : List Entry) (last : ByDevice) (told : Option FaultNote) → told ≡ Some fault.NoMemory →
      Posts (opening_moment start io.given io.before) scene io.now false → KeepsSteps scene steps last → ShellEnds (run_for base io steps last told)
  ends-kept scene steps last told e p keeps =
      told-so base io steps last (Some fault.NoMemory) told e
      (front-unended base io steps last (Some fault.NoMemory) start scene false p stands (keeps base (map line_text p.raws) p.text (p.comes base [] [] stands)))

  -- lines that were posted, and want of memory kept the run from its end
  posted-open : (scene : Scene) (steps : List Entry) (last : ByDevice) (p : Posts (opening_moment start io.given io.before) scene io.now true) → LeavesOpen scene steps last →
      ShellEnds (run_for base io steps last (Some fault.NoMemory))
  posted-open scene steps last p leaves =
      front-unended base io steps last (Some fault.NoMemory) start scene true p stands (leaves base (map line_text p.raws) p.text (p.comes base [] [] stands))

  -- serving stopped at a line or in one, or at the sink
  ends-stopped : (scene : Scene) (steps : List Entry) (last : ByDevice) (why : LineStop) (told : Option FaultNote) →
      Stops (opening_moment start io.given io.before) scene io.now io.rest why → StopsFor (note_of why) told scene steps last →
      (why ≡ stop.NoMemory → ⊥) → ShellEnds (run_for base io steps last told)
  ends-stopped scene steps last why None s h other = absurd h
  ends-stopped scene steps last stop.NoMemory told s h other = absurd (other refl)
  ends-stopped scene steps last (stop.BadLine line) (Some fault.NoMemory) s h other =
      posted-open scene steps last (served_posts (opening_moment start io.given io.before) s.now io.now scene s.written s.stage s.serves) h
  ends-stopped scene steps last stop.ReadFault (Some fault.NoMemory) s h other =
      posted-open scene steps last (served_posts (opening_moment start io.given io.before) s.now io.now scene s.written s.stage s.serves) h
  ends-stopped scene steps last stop.WriteFault (Some fault.NoMemory) s h other = posted-open scene steps last s h
  ends-stopped scene steps last (stop.BadLine line) (Some (fault.BadDeck place)) s h other =
      let same : place ≡ line = bad-same place line h.0 in
      subst (λ n. ShellEnds (run_for base io steps last (Some (fault.BadDeck n)))) (sym same)
      (ends-at-bad-line base io steps last (Some (fault.BadDeck line)) start s.now s.serves stands line s.line s.bad s.written
      (subst (λ x. Closes x steps last) s.stage h.1 base (map line_text s.serves.raws) s.serves.text (s.serves.stands base [] [] stands)))
    where
      bad-same : (place line : ℕ) → fault.BadDeck place ≡ fault.BadDeck line → place ≡ line
      bad-same place line e = cc
  ends-stopped scene steps last stop.ReadFault (Some fault.ReadFault) s h other =
      ends-at-read-fault base io steps last (Some fault.ReadFault) start s.now s.serves stands s.unended s.breaks s.written
      (subst (λ x. Closes x steps last) s.stage h.1 base (map line_text s.serves.raws) s.serves.text (s.serves.stands base [] [] stands))
  ends-stopped scene steps last stop.WriteFault (Some fault.WriteFault) s h other =
      front-whole base io steps last (Some fault.WriteFault) start scene s stands (h.1 base (map line_text s.raws) s.text (s.comes base [] [] stands))
  ends-stopped scene steps last (stop.BadLine line) (Some told) s h other = let e = h.0 in absurd (cc)
  ends-stopped scene steps last stop.ReadFault (Some told) s h other = let e = h.0 in absurd (cc)
  ends-stopped scene steps last stop.WriteFault (Some told) s h other = let e = h.0 in absurd (cc)

  pub stopped-ends : (scene : Scene) (steps : List Entry) (last : ByDevice) (why : LineStop) (told : Option FaultNote) →
      Stops (opening_moment start io.given io.before) scene io.now io.rest why → StopsFor (note_of why) told scene steps last →
      (why ≡ stop.NoMemory → ⊥) → ShellEnds (run_for base io steps last told)
  stopped-ends scene steps last why told s h other = ends-stopped scene steps last why told s h other

  -- all lines were served, and the schedule's line was written, or not
  pub ends-closed : (scene : Scene) (mid : Option (List ℕ)) (steps : List Entry) (last : ByDevice) (told : Option FaultNote) →
      ServesAll (opening_moment start io.given io.before) scene mid → ClosesFor told scene steps last mid io.now → ShellEnds (run_for base io steps last told)
  ends-closed scene mid steps last None s h =
      ends-well base io steps last None start s.now s.serves stands s.over
      (subst (λ x. Closes x steps last) s.stage h.closes base (map line_text s.serves.raws) s.serves.text (s.serves.stands base [] [] stands))
      (subst (λ o. Appends o io.now (schedule_line steps)) s.written h.written)
  ends-closed scene mid steps last (Some fault.NoMemory) s h =
      posted-open scene steps last (served_posts (opening_moment start io.given io.before) s.now io.now scene (h.1 ∙ s.written) s.stage s.serves) h.0
  ends-closed scene mid steps last (Some fault.WriteFault) s h = (
    concat s.serves.raws ++ supposed s.now.ahead,
    begun-input base io steps last (Some fault.WriteFault) start s.now s.serves stands (supposed s.now.ahead) (is_supposed s.now.ahead),
    served-end base io steps last (Some fault.WriteFault) start s.now s.serves stands (supposed s.now.ahead) (is_supposed s.now.ahead) h.count
        (subst (λ x. Closes x steps last) s.stage h.closes base (map line_text s.serves.raws) s.serves.text (s.serves.stands base [] [] stands))
        (subst (λ o. Appends o io.now (take h.count (schedule_line steps))) s.written h.written),
  )
  ends-closed scene mid steps last (Some fault.Usage) s h = absurd h
  ends-closed scene mid steps last (Some (fault.BadDeck line)) s h = absurd h
  ends-closed scene mid steps last (Some fault.ReadFault) s h = absurd h
  ends-closed scene mid steps last (Some (fault.DeviceFault device)) s h = absurd h

-- no line was posted, and no step taken
none-front : (base : Script) → HasFront base [] [] base.counted []
unfolding follows_script shown session_run
none-front base = record {
  later = [];
  follows = refl;
  taken = refl;
  unended = refl;
  taken_on = taken-none (with_lines base []) base.counted refl;
  unstarved = before-unstarved (shell_deck []) base.describe [] (no-entry (shell_deck []) base.describe (λ s asked entry. is_leaving (shell_deck []) s entry.who ≡ false));
  before = no-entry (shell_deck []) base.describe (λ s asked entry. is_leaving (shell_deck []) s entry.who ≡ false);
}

-- a run that could not begin
pub ends_unbegun : (base : Script) (io : Streams) (steps : List Entry) (told : Option FaultNote) → steps ≡ [] → told ≡ Some fault.NoMemory → io.now ≡ io.before →
    ShellEnds (run_for base io steps base.counted told)
ends_unbegun base io steps told none is same =
    told-so base io steps base.counted (Some fault.NoMemory) told is
    (subst (λ l. EndsFor (Some fault.NoMemory) (run_for base io l base.counted (Some fault.NoMemory))) (sym none) (
      supposed io.given,
      is_supposed io.given,
      front-of base io [] base.counted (Some fault.NoMemory) false (supposed io.given) [] (raw_lines (supposed io.given)) (none-front base).later 0 refl
          (transcript-open base io [] base.counted (Some fault.NoMemory) [] [] (none-front base))
          (subst (λ now. Appends io.before now []) (sym same) (Appends-nil io.before)) (λ s taken. omega arith),
    ))

-- what is done behind the end
pub closes_so : (old mid : Scene) (steps : List Entry) (last : ByDevice) (before now : Option (List ℕ)) (told : Option FaultNote) → TakesEnd old mid →
    (old.leaves_at ≡ None → TellsMore old mid) → last ≡ mid.view.faults → WritesLine told mid steps before now → ClosesFor told old steps last before now
closes_so old mid steps last before now None closes tells = λ e h. record {
  closes = subst (λ l. Closes old l last) (sym h.0) (subst (Closes old mid.schedule) (sym e) (closes_lines old mid closes tells));
  written = subst (λ l. Appends before now (schedule_line l)) (sym h.0) h.1;
}
closes_so old mid steps last before now (Some fault.NoMemory) closes tells = λ e h.
    (subst (λ l. LeavesOpen old l last) (sym h.0) (subst (LeavesOpen old (told_entries mid)) (sym e) (lacks_end old mid closes tells)), h.1)
closes_so old mid steps last before now (Some fault.WriteFault) closes tells = λ e h. record {
  count = h.1;
  closes = subst (λ l. Closes old l last) (sym h.0) (subst (Closes old mid.schedule) (sym e) (closes_lines old mid closes tells));
  written = subst (λ l. Appends before now (take h.1 (schedule_line l))) (sym h.0) h.2;
}
closes_so old mid steps last before now (Some fault.Usage) closes tells = λ e h. absurd h
closes_so old mid steps last before now (Some (fault.BadDeck line)) closes tells = λ e h. absurd h
closes_so old mid steps last before now (Some fault.ReadFault) closes tells = λ e h. absurd h
closes_so old mid steps last before now (Some (fault.DeviceFault device)) closes tells = λ e h. absurd h

-- a run that stopped early, and took its end
pub stops_closed : (why : LineStop) (old mid : Scene) (steps : List Entry) (last : ByDevice) (told : Option FaultNote) → (why ≡ stop.NoMemory → ⊥) → TakesEnd old mid →
    (old.leaves_at ≡ None → TellsMore old mid) → steps ≡ mid.schedule → last ≡ mid.view.faults → told ≡ Some (note_of why) → StopsFor (note_of why) told old steps last
stops_closed why old mid steps last told other = λ closes tells same e is.
    subst (λ t. StopsFor (note_of why) t old steps last) (sym is) (closed why other
    (subst (λ l. Closes old l last) (sym same) (subst (Closes old mid.schedule) (sym e) (closes_lines old mid closes tells))))
  where
    closed : (why : LineStop) → (why ≡ stop.NoMemory → ⊥) → Closes old steps last → StopsFor (note_of why) (Some (note_of why)) old steps last
    closed stop.NoMemory other c = absurd (other refl)
    closed (stop.BadLine line) other c = (refl, c)
    closed stop.ReadFault other c = (refl, c)
    closed stop.WriteFault other c = (refl, c)

-- a run that stopped early, and want of memory kept it from its end
pub stops_open : (why : FaultNote) (old : Scene) (steps told_steps : List Entry) (last : ByDevice) (told : Option FaultNote) → LeavesOpen old told_steps last → steps ≡ told_steps →
    told ≡ Some fault.NoMemory → StopsFor why told old steps last
stops_open why old steps told_steps last told leaves same is =
    subst (λ t. StopsFor why t old steps last) (sym is) (subst (λ l. LeavesOpen old l last) (sym same) leaves)

-- want of memory kept a run from its end, and nothing was written
pub closes_open : (old : Scene) (steps told_steps : List Entry) (last : ByDevice) (before : Option (List ℕ)) (told : Option FaultNote) → LeavesOpen old told_steps last →
    steps ≡ told_steps → told ≡ Some fault.NoMemory → ClosesFor told old steps last before before
closes_open old steps told_steps last before told leaves same is =
    subst (λ t. ClosesFor t old steps last before before) (sym is) (subst (λ l. LeavesOpen old l last) (sym same) leaves, refl)

-- a run that stopped early has a reason
pub stopped_over : (why : FaultNote) (told : Option FaultNote) (scene : Scene) (steps : List Entry) (last : ByDevice) (P : Type 0) → StopsFor why told scene steps last → IfNone told P
stopped_over why None scene steps last P h = absurd h
stopped_over why (Some told) scene steps last P h = tt

-- and it is the one for which it stopped, or want of memory
pub stopped_cause : (why : FaultNote) (told : Option FaultNote) (scene : Scene) (steps : List Entry) (last : ByDevice) (P : Option FaultNote → Type 0) → P (Some fault.NoMemory) →
    P (Some why) → StopsFor why told scene steps last → P told
stopped_cause why None scene steps last P none p h = absurd h
stopped_cause why (Some fault.NoMemory) scene steps last P none p h = none
stopped_cause why (Some fault.Usage) scene steps last P none p h = subst (λ n. P (Some n)) (sym h.0) p
stopped_cause why (Some (fault.BadDeck line)) scene steps last P none p h = subst (λ n. P (Some n)) (sym h.0) p
stopped_cause why (Some fault.ReadFault) scene steps last P none p h = subst (λ n. P (Some n)) (sym h.0) p
stopped_cause why (Some fault.WriteFault) scene steps last P none p h = subst (λ n. P (Some n)) (sym h.0) p
stopped_cause why (Some (fault.DeviceFault device)) scene steps last P none p h = subst (λ n. P (Some n)) (sym h.0) p
