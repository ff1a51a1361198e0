-- What the calls of a run say, joined: each lemma takes what one call answered.
use Rattle.std.proofs.Common.{◌≡◌, ◌∙◌, ℕ, suc, ◌+◌, ◌-◌, ◌<◌, ◌≤◌, true, false, Bool, Option, Some, None, Result, Ok, Err, List, [], ◌∷◌, ◌++◌, drop, length, get_or, set, refl, subst, sym, ap, arith, add-one, append_assoc, length-append}
use Rattle.std.proofs.Math.Seq.{drop-cons, set-append_seam}
use Rattle.std.proofs.lemmas.Option.{slice_get-get_or}
use Rattle.std.specs.Prelude.{cond, IfOk, IfSome, OnOk, slice_get}
use Rattle.std.specs.Bool.{OnFalse, OnTrue}
use Rattle.std.specs.List.{flat_map, list_all}
use Rattle.vfs_base.specs.declared.deck.Act.{Act}
use Rattle.vfs_base.specs.declared.deck.Deck.{Deck}
use Rattle.vfs_base.specs.declared.entry.Entry.{Entry}
use Rattle.vfs_base.specs.declared.entry.Who.{Who}
use Rattle.vfs_base.specs.declared.entry.Who.TheVariants as who
use Rattle.vfs_base.specs.declared.no_memory.NoMemory.{NoMemory}
use Rattle.vfs_base.specs.declared.reply.Reply.{Reply}
use Rattle.vfs_base.specs.declared.step.Step.{Step}
use Rattle.vfs_base.specs.declared.step.Step.TheVariants as step
use Rattle.vfs_model.specs.ScriptRun.{RunState, entry_step, take_entry, take_step}
use Rattle.msh_session.specs.SessionTalks.{FitsWanted, session_rest}
use Rattle.vfs_plain.proofs.Playing.{posted-turns, taken-pauses, taken-plays}
use Rattle.vfs_plain.proofs.Staging.{session-step, start-more, through-same, told-session}
use Rattle.vfs_plain.proofs.TakenEntries.{entry-is}
use Rattle.vfs_plain.specs.ScriptSessions.{Pauses, Plays, PostsLine, TakesIn, lines_from}
use Rattle.vfs_plain.specs.SessionSteps.{is_through, next_step}
use Rattle.vfs_plain.specs.Stages.{AddsSession, AllStart, AsksStep, StandsAt, TakesTo, titled_text, told}
use Rattle.vfs_plain.specs.declared.script_session.ScriptSession.{ScriptSession}
use Rattle.vfs_plain.specs.declared.stage.Stage.{Stage}

-- a line was posted, and more may follow
pub turn-more : (result : Result Bool NoMemory) (old middle new : ScriptSession) (acts : List Act) (line : List ℕ) →
    IfOk result (PostsLine middle new line) → middle.k ≡ old.k → middle.session ≡ old.session → middle.text ≡ old.text →
    lines_from old.k acts old.place ≡ line ∷ lines_from old.k acts middle.place →
    IfOk result (λ more. OnTrue more ((heard : List Reply) → Pauses old acts heard → Pauses new acts heard))
turn-more (Ok more) old middle new acts line posts number session text first =
    (posted-turns old middle new acts line more number session text first posts).pauses
turn-more (Err error) old middle new acts line posts number session text first = tt

-- or its command asks a step
pub turn-over : (result : Result Bool NoMemory) (old middle new : ScriptSession) (acts : List Act) (line : List ℕ) →
    IfOk result (PostsLine middle new line) → middle.k ≡ old.k → middle.session ≡ old.session → middle.text ≡ old.text →
    lines_from old.k acts old.place ≡ line ∷ lines_from old.k acts middle.place →
    IfOk result (λ more. OnFalse more ((heard : List Reply) → Pauses old acts heard → Plays new acts heard))
turn-over (Ok more) old middle new acts line posts number session text first =
    (posted-turns old middle new acts line more number session text first posts).plays
turn-over (Err error) old middle new acts line posts number session text first = tt

module _ (old middle : ScriptSession) (acts : List Act) (reply : Reply) (finished : Bool)
    (fits : FitsWanted (session_rest old.session [] []).wanted reply) (takes : TakesIn old middle reply finished) where
  -- the command is finished with a reply, and more lines were posted
  pub hears-last : (result : Result (Unit {0}) NoMemory) (new : ScriptSession) → finished ≡ true →
      OnOk result ((heard : List Reply) → Pauses middle acts heard → Plays new acts heard) →
      OnOk result ((heard : List Reply) → Plays old acts heard → Plays new acts (heard ++ reply ∷ []))
  hears-last (Ok done) new is plays = λ heard p.
      plays (heard ++ reply ∷ []) (taken-pauses old middle acts reply heard fits (subst (TakesIn old middle reply) is takes) p)
  hears-last (Err error) new is plays = tt

  -- the command asks another step
  pub hears-more : finished ≡ false → (heard : List Reply) → Plays old acts heard → Plays middle acts (heard ++ reply ∷ [])
  hears-more is heard p = taken-plays old middle acts reply heard fits (subst (TakesIn old middle reply) is takes) p

-- one more session's text was appended
pub texts-more : (out next : List ℕ) (acts : List Act) (sessions : List ScriptSession) (i : ℕ) (p : ScriptSession) (all : List ℕ) →
    i < length sessions → p ≡ get_or sessions i p → next ≡ out ++ titled_text acts p →
    out ++ flat_map (titled_text acts) (drop i sessions) ≡ all → next ++ flat_map (titled_text acts) (drop (i + 1) sessions) ≡ all
texts-more out next acts sessions i p all within is appended before =
    let left : drop i sessions ≡ p ∷ drop (i + 1) sessions =
    drop-cons sessions i p within ∙ ap (λ q. q ∷ drop (suc i) sessions) (sym is) ∙ ap (λ n. p ∷ drop n sessions) (sym (add-one i)) in
    ap (λ text. text ++ flat_map (titled_text acts) (drop (i + 1) sessions)) appended
    ∙ append_assoc out (titled_text acts p) (flat_map (titled_text acts) (drop (i + 1) sessions))
    ∙ ap (λ rest. out ++ flat_map (titled_text acts) rest) (sym left)
    ∙ before

module _ (stage : Stage) (asker : Who) (k place : ℕ) (p : ScriptSession) (asks : asker ≡ who.Session k) (at : place ≡ k - 1)
    (least : 1 ≤ k) (bound : place < 8) (is : p ≡ get_or stage.sessions.items place p) where
  stands-there : slice_get stage.sessions.items (k - 1) ≡ Some p
  stands-there =
      let count : length stage.sessions.items ≡ 8 = stage.count in
      ap (slice_get stage.sessions.items) (sym at) ∙ slice_get-get_or stage.sessions.items place p (omega arith) ∙ ap Some (sym is)

  -- the step that a session's entry stands for
  pub session-entry : (result : Result (Option Step) NoMemory) → IfOk result (λ step. step ≡ next_step p.session) →
      IfOk result (λ step. (deck : Deck) (s : RunState) → StandsAt stage deck.acts s → step ≡ entry_step deck s asker)
  session-entry (Ok step) same = λ deck s stands.
      same ∙ session-step deck s stage.sessions.items stands.sessions k p least stands-there ∙ ap (entry_step deck s) (sym asks)
  session-entry (Err error) same = tt

  asks-it : (step : Option Step) → step ≡ next_step p.session → IfSome step (AsksStep stage.sessions.items asker)
  asks-it None same = tt
  asks-it (Some step) same =
      subst (λ (a : Who). AsksStep stage.sessions.items a step) (sym asks)
      (λ q found. let one : p ≡ q = by_place q found in ap (λ r. next_step r.session) (sym one) ∙ sym same)
    where
      by_place : (q : ScriptSession) → slice_get stage.sessions.items (k - 1) ≡ Some q → p ≡ q
      by_place q found = let here = stands-there in cc

  pub session-asks : (result : Result (Option Step) NoMemory) → IfOk result (λ step. step ≡ next_step p.session) →
      IfOk result (λ step. IfSome step (AsksStep stage.sessions.items asker))
  session-asks (Ok step) same = asks-it step same
  session-asks (Err error) same = tt

  -- the session hears the reply
  pub session-hears : (result : Result (Unit {0}) NoMemory) (new : Stage) (acts told_acts : List Act) (reply : Reply) (next : ScriptSession) →
      told_acts ≡ acts → new.world ≡ stage.world → new.is_over ≡ false → new.sessions.items ≡ set stage.sessions.items place next →
      OnOk result (next.k ≡ p.k) →
      OnOk result ((heard : List Reply) → Plays p told_acts heard → Plays next told_acts (heard ++ reply ∷ [])) →
      OnOk result ((s : RunState) → StandsAt stage acts s → StandsAt new acts (told s asker reply))
  session-hears (Ok done) new acts told_acts reply next same world over items number plays = λ s stands.
      subst (λ (a : Who). StandsAt new acts (told s a reply)) (sym asks)
      (told-session stage new acts s k reply p next stands world over
      (items ∙ ap (λ n. set stage.sessions.items n next) at) stands-there number
      (subst (λ (all : List Act). (heard : List Reply) → Plays p all heard → Plays next all (heard ++ reply ∷ [])) same plays))
  session-hears (Err error) new acts told_acts reply next same world over items number plays = tt

-- the end's step, where all sessions are through
pub end-entry : (stage : Stage) (asker : Who) (through : Bool) (deck : Deck) (s : RunState) → asker ≡ who.End →
    through ≡ list_all (λ session. is_through session.session) stage.sessions.items → StandsAt stage deck.acts s →
    cond through (Some step.Shutdown) None ≡ entry_step deck s asker
end-entry stage asker through deck s asks is stands =
    ap (λ b. cond b (Some step.Shutdown) None) (is ∙ through-same deck s stage.sessions.items stands.sessions)
    ∙ ap (entry_step deck s) (sym asks)

-- an entry is taken as its step is
pub entry-takes : (result : Result Bool NoMemory) (old new : Stage) (deck : Deck) (entry : Entry) (step : Option Step) → old.is_over ≡ false →
    ((deck : Deck) (s : RunState) → StandsAt old deck.acts s → step ≡ entry_step deck s entry.who) →
    IfOk result (λ taken. (s : RunState) → StandsAt old deck.acts s → TakesTo new deck.acts taken (take_step s entry step)) →
    IfOk result (λ taken. (s : RunState) → StandsAt old deck.acts s → TakesTo new deck.acts taken (take_entry deck s entry))
entry-takes (Ok taken) old new deck entry step goes is takes = λ s stands.
    subst (TakesTo new deck.acts taken) (sym (entry-is deck s entry step (sym stands.is_over ∙ goes) (is deck s stands))) (takes s stands)
entry-takes (Err error) old new deck entry step goes is takes = tt

-- what was pushed stands last
pub pushed-last : (old items : List ScriptSession) (place : ℕ) (session found : ScriptSession) → length old ≡ place →
    items ≡ old ++ session ∷ [] → found ≡ get_or items place found → found ≡ session
pushed-last old items place session found count pushed is =
    is ∙ ap (λ list. get_or list place found) pushed ∙ ap (λ n. get_or (old ++ session ∷ []) n found) (sym count) ∙ last old
  where
    last : (xs : List ScriptSession) → get_or (xs ++ session ∷ []) (length xs) found ≡ session
    last [] = refl
    last (x ∷ xs) = last xs

-- one more session was added
pub adds-one : (result : Result (Unit {0}) NoMemory) (old pushed new : List ScriptSession) (acts told_acts : List Act) (place : ℕ)
    (session found next : ScriptSession) → length old ≡ place → pushed ≡ old ++ session ∷ [] → found ≡ get_or pushed place found →
    new ≡ set pushed place next → told_acts ≡ acts → Pauses session acts [] → session.k ≡ place + 1 → OnOk result (next.k ≡ found.k) →
    OnOk result ((heard : List Reply) → Pauses found told_acts heard → Plays next told_acts heard) →
    OnOk result (AddsSession old new acts (place + 1))
adds-one (Ok done) old pushed new acts told_acts place session found next count items is put same pauses number k plays =
    let one : found ≡ session = pushed-last old pushed place session found count items is in
    record {
      session = next;
      items =
          put ∙ ap (λ list. set list place next) items ∙ ap (λ n. set (old ++ session ∷ []) n next) (sym count)
          ∙ set-append_seam old session [] next;
      number = k ∙ ap (λ p. p.k) one ∙ number;
      plays =
          subst (λ (all : List Act). Plays next all []) same
          (plays [] (subst (λ (all : List Act). Pauses found all []) (sym same) (subst (λ (p : ScriptSession). Pauses p acts []) (sym one) pauses)));
    }
adds-one (Err error) old pushed new acts told_acts place session found next count items is put same pauses number k plays = tt

-- so one more stands at its start
pub adds-start : (old new : List ScriptSession) (acts : List Act) (place : ℕ) → length old ≡ place → AddsSession old new acts (place + 1) →
    AllStart old acts → AllStart new acts
adds-start old new acts place count adds start =
    subst (λ (list : List ScriptSession). AllStart list acts) (sym adds.items)
    (start-more old acts adds.session start (adds.number ∙ ap (λ n. n + 1) (sym count)) adds.plays)

pub adds-count : (old new : List ScriptSession) (acts : List Act) (place : ℕ) → length old ≡ place → AddsSession old new acts (place + 1) →
    length new ≡ place + 1
adds-count old new acts place count adds =
    ap length adds.items ∙ length-append old (adds.session ∷ []) ∙ ap (λ n. n + 1) count
