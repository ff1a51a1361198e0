-- What the sessions of a script show, beside the definition of its transcript.
use Rattle.std.proofs.Common.{◌≡◌, ◌∙◌, ℕ, ◌+◌, true, false, Bool, Some, None, Ok, Err, List, [], ◌∷◌, ◌++◌, length, replicate, refl, sym, ap, arith}
use Rattle.std.specs.Prelude.{◌==◌, IfErr, IfOk, Result, cond, filter, map, option_map, slice_get}
use Rattle.std.specs.List.{flat_map, range_with_len}
use Rattle.std.specs.Option.{option_or}
use Rattle.vfs_base.specs.declared.deck.Act.{Act}
use Rattle.vfs_base.specs.declared.deck.Act.TheVariants as act
use Rattle.vfs_base.specs.declared.deck.Deck.{Deck}
use Rattle.vfs_base.specs.declared.deck.RomText.{RomText}
use Rattle.vfs_base.specs.declared.describe.Describe.{Describe}
use Rattle.vfs_base.specs.declared.entry.Entry.{Entry}
use Rattle.vfs_model.specs.Homes.{opening_world}
use Rattle.vfs_model.specs.Schedule.{schedule_line}
use Rattle.vfs_model.specs.ScriptRun.{RunState, first_bad_rom, has_ended, no_schedule_at, opening_state, rom_image, sessions as numbers, state_after, take_entries}
use Rattle.vfs_model.specs.Transcript.{finished_text, has_lines, session_text, session_title, sessions_text, transcript}
use Rattle.vfs_model.specs.declared.script_form.ScriptForm.TheVariants as form
use Rattle.vfs_model.specs.declared.world.WorldState.{WorldState}
use Rattle.plain_steps.specs.Opening.{StopsOpening, is_untold}
use Rattle.plain_steps.specs.declared.plain_fault.PlainFault.{PlainFault}
use Rattle.plain_steps.specs.declared.plain_fault.PlainFault.TheVariants as fault
use Rattle.vfs_plain.proofs.Places.{joined-numbers}
use Rattle.vfs_plain.proofs.Staging.{shown-same}
use Rattle.vfs_plain.specs.PlainText.{IsPlainText, LacksText}
use Rattle.vfs_plain.specs.ScriptSessions.{has_line}
use Rattle.vfs_plain.specs.Stages.{AllPlay, ShowsAll, StandsAt, TakesAll, TakesWhole, titled_text}
use Rattle.vfs_plain.specs.declared.script_session.ScriptSession.{ScriptSession}
use Rattle.vfs_plain.specs.declared.stage.Stage.{Stage}

-- a script posts to a session exactly where it has lines for it
named-same : (roms : List RomText) (acts : List Act) (k : ℕ) → has_line k acts ≡ has_lines (record { roms = roms; acts = acts }) k
named-same roms [] k = refl
named-same roms (act.Events askers ∷ acts) k = named-same roms acts k
named-same roms (act.Post j text go ∷ acts) k =
    elim (j == k) as (λ b. (j == k) ≡ b → has_line k (act.Post j text go ∷ acts) ≡ has_lines (record { roms = roms; acts = act.Post j text go ∷ acts }) k) [
      | true ↦ λ e. rw e refl
      | false ↦ λ e. rw e (named-same roms acts k)
    ] refl

-- those that pass a test, joined
joined-filter : {X A : Type 0} (test : X → Bool) (f : X → List A) (xs : List X) →
    flat_map f (filter test xs) ≡ flat_map (λ x. cond (test x) (f x) []) xs
joined-filter test f [] = refl
joined-filter test f (x ∷ xs) =
    elim (test x) as (λ b. flat_map f (cond b (x ∷ filter test xs) (filter test xs)) ≡ cond b (f x) [] ++ flat_map (λ x. cond (test x) (f x) []) xs) [
      | true ↦ ap (λ rest. f x ++ rest) (joined-filter test f xs)
      | false ↦ joined-filter test f xs
    ]

module _ (deck : Deck) (s : RunState) (sessions : List ScriptSession) (all : AllPlay sessions deck.acts s.heard) where
  titled-same : (place : ℕ) (p : ScriptSession) → slice_get sessions place ≡ Some p →
      titled_text deck.acts p ≡ cond (has_lines deck (1 + place)) (session_title (1 + place) ++ session_text deck s (1 + place)) []
  titled-same place p found =
      let number : p.k ≡ 1 + place = omega (arith, (all.each place p found).number) in
      ap (λ k. cond (has_line k deck.acts) (session_title k ++ p.text) []) number
      ∙ ap (λ text. cond (has_line (1 + place) deck.acts) (session_title (1 + place) ++ text) []) (sym (shown-same deck s sessions all place p found))
      ∙ ap (λ named. cond named (session_title (1 + place) ++ session_text deck s (1 + place)) []) (named-same deck.roms deck.acts (1 + place))

  -- the sessions show their text
  pub texts-same : flat_map (titled_text deck.acts) sessions ≡ sessions_text deck s
  texts-same =
      joined-numbers (titled_text deck.acts) (λ k. cond (has_lines deck k) (session_title k ++ session_text deck s k) []) 1 sessions titled-same
      ∙ ap (λ n. flat_map (λ k. cond (has_lines deck k) (session_title k ++ session_text deck s k) []) (range_with_len 1 n)) all.count
      ∙ sym (joined-filter (has_lines deck) (λ k. session_title k ++ session_text deck s k) numbers)

-- no world was opened, for the first of the reasons
pub opens-not : (deck : Deck) (describe : Describe) (schedule : List Entry) (why : PlainFault) →
    StopsOpening deck describe why → LacksText deck describe schedule why
opens-not deck describe schedule (fault.BadRom index) stops = stops
opens-not deck describe schedule fault.Untold stops = stops
opens-not deck describe schedule fault.NoMemory stops = tt
opens-not deck describe schedule (fault.NoSchedule at) stops = absurd stops

-- the start of a script, where its world was opened
pub opening-stands : (stage : Stage) (deck : Deck) (describe : Describe) (w : WorldState) → w ≡ opening_world (map rom_image deck.roms) describe →
    StandsAt stage deck.acts (record { world = w; heard = replicate 8 []; is_over = false }) → StandsAt stage deck.acts (opening_state deck describe)
opening-stands stage deck describe w opens stands = record {
  world = stands.world ∙ opens;
  sessions = stands.sessions;
  is_over = stands.is_over;
}

module _ (stage now : Stage) (deck : Deck) (describe : Describe) (schedule : List Entry) (w : WorldState)
    (opens : w ≡ opening_world (map rom_image deck.roms) describe) (roms : first_bad_rom deck ≡ None) (told : is_untold describe ≡ false)
    (stands : StandsAt stage deck.acts (record { world = w; heard = replicate 8 []; is_over = false })) where
  transcript-is : (whole : TakesWhole now deck (opening_state deck describe) schedule) →
      transcript form.Replay deck describe schedule ≡ Some (sessions_text deck whole.next ++ schedule_line schedule)
  unfolding transcript
  transcript-is whole =
      ap (option_map (λ s. finished_text form.Replay deck s ++ cond s.is_over (schedule_line schedule) [])) whole.entries
      ∙ ap (λ b. Some (sessions_text deck whole.next ++ cond b (schedule_line schedule) [])) whole.ended

  no-gap : (whole : TakesWhole now deck (opening_state deck describe) schedule) → no_schedule_at deck describe schedule ≡ None
  no-gap whole =
      let ended : has_ended (take_entries deck (opening_state deck describe) schedule) ≡ true = ap has_ended whole.entries ∙ whole.ended in
      ap (λ u. option_or u (cond (has_ended (state_after deck describe schedule)) None (Some (length schedule)))) whole.untaken
      ∙ ap (λ b. option_or None (cond b None (Some (length schedule)))) ended

  by-fault : (why : PlainFault) → TakesAll now deck (opening_state deck describe) schedule (Err why) → LacksText deck describe schedule why
  by-fault (fault.BadRom index) takes = absurd takes
  by-fault fault.Untold takes = absurd takes
  by-fault fault.NoMemory takes = tt
  by-fault (fault.NoSchedule at) takes = (roms, told, takes)

  -- all entries were taken, and this is shown
  pub played-text : (result : Result (List ℕ) PlainFault) →
      ((s : RunState) → StandsAt stage deck.acts s → ShowsAll now deck s schedule result) → IfOk result (IsPlainText deck describe schedule)
  played-text (Ok text) shows =
      let all : ShowsAll now deck (opening_state deck describe) schedule (Ok text) =
      shows (opening_state deck describe) (opening-stands stage deck describe w opens stands) in
      record {
        roms = roms;
        told = told;
        whole = no-gap all.0;
        shown =
            transcript-is all.0
            ∙ ap (λ shown. Some (shown ++ schedule_line schedule)) (sym (texts-same deck all.0.next now.sessions.items all.0.stands.sessions))
            ∙ ap Some (sym all.1);
      }
  played-text (Err why) shows = tt

  -- not all entries were taken
  pub played-lacks : (result : Result (List ℕ) PlainFault) →
      ((s : RunState) → StandsAt stage deck.acts s → ShowsAll now deck s schedule result) → IfErr result (LacksText deck describe schedule)
  played-lacks (Ok text) shows = tt
  played-lacks (Err why) shows = by-fault why (shows (opening_state deck describe) (opening-stands stage deck describe w opens stands))
