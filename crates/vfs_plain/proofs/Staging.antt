-- The sessions of a script among all, beside the definitions of its state.
use Rattle.std.proofs.Common.{◌≡◌, ◌∙◌, ℕ, zero, suc, ◌+◌, ◌-◌, ◌<◌, ◌≤◌, false, Some, List, [], ◌∷◌, ◌++◌, length, get_or, set, replicate, refl, subst, sym, ap, arith, inl, inr}
use Rattle.std.proofs.lemmas.List.{get_or-set_other, get_or-set_same, length-set}
use Rattle.std.proofs.lemmas.Option.{slice_get_within}
use Rattle.std.specs.Prelude.{is_none, slice_get}
use Rattle.std.specs.List.{concat, list_all, range_with_len}
use Rattle.vfs_base.specs.declared.deck.Act.{Act}
use Rattle.vfs_base.specs.declared.deck.Deck.{Deck}
use Rattle.vfs_base.specs.declared.entry.Who.{Who}
use Rattle.vfs_base.specs.declared.entry.Who.TheVariants as who
use Rattle.vfs_base.specs.declared.limits.TheConstants.{SESSIONS}
use Rattle.vfs_base.specs.declared.reply.Reply.{Reply}
use Rattle.vfs_model.proofs.NodeLaws.{same_or_other}
use Rattle.vfs_model.specs.Deck.{session_lines}
use Rattle.vfs_model.specs.Schedule.{is_end}
use Rattle.vfs_model.specs.ScriptRun.{RunState, heard_after, is_done, run_of, sessions as numbers}
use Rattle.vfs_model.specs.Session.{session_run, wanted_step}
use Rattle.vfs_plain.proofs.Places.{all-numbers, get-last, get-other, get-same}
use Rattle.vfs_plain.proofs.Playing.{plays-run}
use Rattle.vfs_plain.specs.ScriptSessions.{Plays, lines_from}
use Rattle.vfs_plain.specs.SessionSteps.{is_through, next_step}
use Rattle.vfs_plain.specs.Stages.{AllPlay, AllStart, PlaysAt, StandsAt, told}
use Rattle.vfs_plain.specs.declared.script_session.ScriptSession.{ScriptSession}
use Rattle.vfs_plain.specs.declared.stage.Stage.{Stage}

same-everywhere : {X : Type 0} (n place : ℕ) (x : X) → get_or (replicate n x) place x ≡ x
same-everywhere zero place x = refl
same-everywhere (suc n) zero x = refl
same-everywhere (suc n) (suc place) x = same-everywhere n place x

-- at the start no session had a reply
pub all-start : (sessions : List ScriptSession) (acts : List Act) → length sessions ≡ SESSIONS → AllStart sessions acts →
    AllPlay sessions acts (replicate 8 [])
all-start sessions acts count start = record {
  count = count;
  hearers = refl;
  each = λ place p found. subst (λ (heard : List Reply). PlaysAt p acts heard place) (sym (same-everywhere 8 place [])) (start place p found);
}

-- one more session at its start
pub start-more : (sessions : List ScriptSession) (acts : List Act) (next : ScriptSession) → AllStart sessions acts →
    next.k ≡ length sessions + 1 → Plays next acts [] → AllStart (sessions ++ next ∷ []) acts
start-more sessions acts next start number plays place p found =
    elim (get-last sessions next place p found) [
      | inl before ↦ start place p before
      | inr last ↦
          subst (λ (n : ℕ). PlaysAt p acts [] n) (sym last.0)
          (subst (λ (q : ScriptSession). PlaysAt q acts [] (length sessions)) last.1 (record { number = number; plays = plays }))
    ]

module _ (deck : Deck) (s : RunState) (sessions : List ScriptSession) (all : AllPlay sessions deck.acts s.heard) where
  -- the session at a place runs as the number behind the place does
  run-same : (place : ℕ) (p : ScriptSession) → slice_get sessions place ≡ Some p →
      run_of deck s (1 + place) ≡ session_run (lines_from p.k deck.acts 0) (get_or s.heard place [])
  run-same place p found =
      let number : 1 + place ≡ p.k = omega (arith, (all.each place p found).number) in
      let before : (1 + place) - 1 ≡ place = omega arith in
      ap (λ k. session_run (session_lines deck k) (get_or s.heard ((1 + place) - 1) [])) number
      ∙ ap (λ n. session_run (session_lines deck p.k) (get_or s.heard n [])) before

  pub shown-same : (place : ℕ) (p : ScriptSession) → slice_get sessions place ≡ Some p →
      concat (run_of deck s (1 + place)).blocks ≡ p.text
  shown-same place p found =
      ap (λ run. concat run.blocks) (run-same place p found)
      ∙ (plays-run p deck.acts (get_or s.heard place []) (all.each place p found).plays).shown

  pub step-same : (place : ℕ) (p : ScriptSession) → slice_get sessions place ≡ Some p →
      wanted_step (run_of deck s (1 + place)) ≡ next_step p.session
  step-same place p found =
      ap wanted_step (run-same place p found)
      ∙ (plays-run p deck.acts (get_or s.heard place []) (all.each place p found).plays).is_next

  -- a session's next step is the one that its number wants
  pub session-step : (k : ℕ) (p : ScriptSession) → 1 ≤ k → slice_get sessions (k - 1) ≡ Some p →
      next_step p.session ≡ wanted_step (run_of deck s k)
  session-step k p least found =
      let number : 1 + (k - 1) ≡ k = omega arith in
      sym (step-same (k - 1) p found) ∙ ap (λ n. wanted_step (run_of deck s n)) number

  -- all are through where all numbers are done
  pub through-same : list_all (λ p. is_through p.session) sessions ≡ list_all (is_done deck s) numbers
  through-same =
      all-numbers (λ p. is_through p.session) (is_done deck s) 1 sessions (λ place p found. ap is_none (sym (step-same place p found)))
      ∙ ap (λ n. list_all (is_done deck s) (range_with_len 1 n)) all.count

-- a session hears a reply, and the others stay
pub all-hear : (sessions : List ScriptSession) (acts : List Act) (heard : List (List Reply)) (place : ℕ) (old new : ScriptSession) (reply : Reply) →
    AllPlay sessions acts heard → slice_get sessions place ≡ Some old → new.k ≡ old.k →
    ((before : List Reply) → Plays old acts before → Plays new acts (before ++ reply ∷ [])) →
    AllPlay (set sessions place new) acts (set heard place (get_or heard place [] ++ reply ∷ []))
all-hear sessions acts heard place old new reply all found number plays =
    let later = get_or heard place [] ++ reply ∷ [] in
    let within : place < length sessions = slice_get_within sessions place old found in
    let counts : length heard ≡ length sessions = all.hearers ∙ sym all.count in
    let inside : place < length heard = omega arith in
    let here : PlaysAt new acts (get_or (set heard place later) place []) place =
    subst (λ (h : List Reply). PlaysAt new acts h place) (sym (get_or-set_same heard place later [] inside))
    (record { number = number ∙ (all.each place old found).number; plays = plays (get_or heard place []) (all.each place old found).plays }) in
    record {
      count = length-set sessions place new ∙ all.count;
      hearers = length-set heard place later ∙ all.hearers;
      each = λ at p there. elim (same_or_other at place) [
        | inl same ↦
            let there_too : slice_get (set sessions place new) place ≡ Some p = ap (slice_get (set sessions place new)) (sym same) ∙ there in
            let is : slice_get (set sessions place new) place ≡ Some new = get-same sessions place new within in
            let one : new ≡ p = cc in
            subst (λ (n : ℕ). PlaysAt p acts (get_or (set heard place later) n []) n) (sym same)
            (subst (λ (q : ScriptSession). PlaysAt q acts (get_or (set heard place later) place []) place) one here)
        | inr other ↦
            let before : slice_get sessions at ≡ Some p = sym (get-other sessions place at new other) ∙ there in
            subst (λ (h : List Reply). PlaysAt p acts h at) (sym (get_or-set_other heard place at later [] other)) (all.each at p before)
      ];
    }

-- a session is told the reply to its step
pub told-session : (old new : Stage) (acts : List Act) (s : RunState) (k : ℕ) (reply : Reply) (p next : ScriptSession) →
    StandsAt old acts s → new.world ≡ old.world → new.is_over ≡ false → new.sessions.items ≡ set old.sessions.items (k - 1) next →
    slice_get old.sessions.items (k - 1) ≡ Some p → next.k ≡ p.k →
    ((before : List Reply) → Plays p acts before → Plays next acts (before ++ reply ∷ [])) →
    StandsAt new acts (told s (who.Session k) reply)
told-session old new acts s k reply p next stands world over items found number plays = record {
  world = world ∙ stands.world;
  sessions = subst (λ (list : List ScriptSession). AllPlay list acts (heard_after s.heard (who.Session k) reply)) (sym items)
      (all-hear old.sessions.items acts s.heard (k - 1) p next reply stands.sessions found number plays);
  is_over = over;
}

-- nobody else is told a reply
pub told-none : (old new : Stage) (acts : List Act) (s : RunState) (asker : Who) (reply : Reply) →
    StandsAt old acts s → new.world ≡ old.world → new.is_over ≡ is_end asker → new.sessions.items ≡ old.sessions.items →
    heard_after s.heard asker reply ≡ s.heard → StandsAt new acts (told s asker reply)
told-none old new acts s asker reply stands world over items same = record {
  world = world ∙ stands.world;
  sessions = subst (λ (list : List ScriptSession). AllPlay list acts (heard_after s.heard asker reply)) (sym items)
      (subst (λ (heard : List (List Reply)). AllPlay old.sessions.items acts heard) (sym same) stands.sessions);
  is_over = over;
}
