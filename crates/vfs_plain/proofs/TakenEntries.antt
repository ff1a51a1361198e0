-- Entries of a schedule, taken or not, beside the definitions of a script's state.
use Rattle.std.proofs.Common.{◌≡◌, ◌∙◌, ℕ, suc, ◌+◌, ◌<◌, true, false, Option, Some, None, List, ◌∷◌, drop, length, get_or, refl, subst, sym, ap, add-one}
use Rattle.std.proofs.Math.Seq.{drop-cons, drop-length}
use Rattle.std.specs.Prelude.{IsSome, cond}
use Rattle.std.specs.Option.{option_and_then, option_or}
use Rattle.vfs_base.specs.declared.deck.Act.{Act}
use Rattle.vfs_base.specs.declared.deck.Deck.{Deck}
use Rattle.vfs_base.specs.declared.entry.Entry.{Entry}
use Rattle.vfs_base.specs.declared.entry.Who.{Who}
use Rattle.vfs_base.specs.declared.entry.Who.TheVariants as who
use Rattle.vfs_base.specs.declared.reply.Reply.{Reply}
use Rattle.vfs_base.specs.declared.step.Step.{Step}
use Rattle.plain_nodes.specs.WorldAnswer.{leaving}
use Rattle.vfs_model.specs.ScriptRun.{RunState, entry_step, has_ended, state_after_step, take_entries, take_entry, take_step, untaken_from}
use Rattle.vfs_model.specs.StepForms.{MayTake, TellsFolder}
use Rattle.vfs_model.specs.World.{fits_step, world_step}
use Rattle.vfs_plain.specs.Stages.{AllPlay, AsksStep, Reaches, StandsAt, TakesReplyOf, TakesTo, TakesWhole, gap_at, told}
use Rattle.vfs_plain.specs.declared.script_session.ScriptSession.{ScriptSession}
use Rattle.vfs_plain.specs.declared.stage.Stage.{Stage}

-- who asks a step may take it
pub asks-may : (sessions : List ScriptSession) (asker : Who) (asked : Step) → AsksStep sessions asker asked → MayTake asker asked
asks-may sessions (who.Session k) asked asks = tt
asks-may sessions (who.Flush row) asked asks = rw asks refl
asks-may sessions (who.Reclaim row) asked asks = rw asks refl
asks-may sessions who.End asked asks = rw asks refl

-- who asks a step takes the reply to it
pub asks-takes : (sessions : List ScriptSession) (asker : Who) (asked : Step) (reply : Reply) → AsksStep sessions asker asked →
    TellsFolder reply → TakesReplyOf sessions asker reply
asks-takes sessions (who.Session k) asked reply asks tells =
    λ p found. (subst (λ (step : Option Step). IsSome step) (sym (asks p found)) refl, tells)
asks-takes sessions (who.Flush row) asked reply asks tells = tt
asks-takes sessions (who.Reclaim row) asked reply asks tells = tt
asks-takes sessions who.End asked reply asks tells = tt

unfit-step : (s : RunState) (entry : Entry) (asked : Step) → fits_step s.world entry.who asked entry.mark ≡ false →
    take_step s entry (Some asked) ≡ None
unfit-step s entry asked unfit = rw unfit refl

fit-step : (s : RunState) (entry : Entry) (asked : Step) → fits_step s.world entry.who asked entry.mark ≡ true →
    take_step s entry (Some asked) ≡ Some (state_after_step s entry.who (world_step s.world entry.who asked entry.mark))
fit-step s entry asked fit = rw fit refl

-- a mark that does not fit is not taken
pub refuses-step : (stage now : Stage) (acts : List Act) (s : RunState) (entry : Entry) (asked : Step) → StandsAt stage acts s →
    fits_step stage.world entry.who asked entry.mark ≡ false → TakesTo now acts false (take_step s entry (Some asked))
refuses-step stage now acts s entry asked stands unfit =
    subst (TakesTo now acts false) (sym (unfit-step s entry asked (ap (λ w. fits_step w entry.who asked entry.mark) (sym stands.world) ∙ unfit))) tt

-- the world takes the step, and who asked it is told the reply
pub takes-step : (old middle new : Stage) (acts : List Act) (s : RunState) (entry : Entry) (asked : Step) (reply : Reply) →
    StandsAt old acts s → fits_step old.world entry.who asked entry.mark ≡ true →
    world_step old.world entry.who asked entry.mark ≡ leaving middle.world reply →
    middle.sessions.items ≡ old.sessions.items → middle.is_over ≡ old.is_over →
    ((t : RunState) → StandsAt middle acts t → StandsAt new acts (told t entry.who reply)) →
    TakesTo new acts true (take_step s entry (Some asked))
takes-step old middle new acts s entry asked reply stands fit step items over tells =
    let at : StandsAt middle acts (record s { world = middle.world }) = record {
      world = refl;
      sessions = subst (λ (list : List ScriptSession). AllPlay list acts s.heard) (sym items) stands.sessions;
      is_over = over ∙ stands.is_over;
    } in
    let next : take_step s entry (Some asked) ≡ Some (told (record s { world = middle.world }) entry.who reply) =
    fit-step s entry asked (ap (λ w. fits_step w entry.who asked entry.mark) (sym stands.world) ∙ fit)
    ∙ ap (λ w. Some (state_after_step s entry.who (world_step w entry.who asked entry.mark))) (sym stands.world)
    ∙ ap (λ outcome. Some (state_after_step s entry.who outcome)) step in
    subst (TakesTo new acts true) (sym next) (tells (record s { world = middle.world }) at)

-- nothing is taken after the end
pub over-refuses : (stage : Stage) (deck : Deck) (s : RunState) (entry : Entry) → s.is_over ≡ true →
    TakesTo stage deck.acts false (take_entry deck s entry)
unfolding take_entry
over-refuses stage deck s entry over = rw over tt

-- before the end an entry is taken as its step is
pub entry-is : (deck : Deck) (s : RunState) (entry : Entry) (step : Option Step) → s.is_over ≡ false →
    step ≡ entry_step deck s entry.who → take_entry deck s entry ≡ take_step s entry step
unfolding take_entry
entry-is deck s entry step goes same = rw goes (ap (take_step s entry) (sym same))

-- no entry is taken yet
pub reaches-none : (stage : Stage) (deck : Deck) (s : RunState) (schedule : List Entry) → StandsAt stage deck.acts s →
    Reaches stage deck s schedule 0
reaches-none stage deck s schedule stands = record { now = s; stands = stands; entries = refl; untaken = refl }

module _ (old new : Stage) (deck : Deck) (s : RunState) (schedule : List Entry) (place : ℕ) (entry : Entry)
    (within : place < length schedule) (is : entry ≡ get_or schedule place entry) (before : Reaches old deck s schedule place) where
  left : drop place schedule ≡ entry ∷ drop (place + 1) schedule
  left =
      drop-cons schedule place entry within
      ∙ ap (λ e. e ∷ drop (suc place) schedule) (sym is)
      ∙ ap (λ n. entry ∷ drop n schedule) (sym (add-one place))

  -- the entry is taken too
  pub reaches-more : ((t : RunState) → StandsAt old deck.acts t → TakesTo new deck.acts true (take_entry deck t entry)) →
      Reaches new deck s schedule (place + 1)
  reaches-more takes =
      elim (take_entry deck before.now entry) as (λ found. take_entry deck before.now entry ≡ found → TakesTo new deck.acts true found → Reaches new deck s schedule (place + 1)) [
        | Some next ↦ λ e stands. record {
          now = next;
          stands = stands;
          entries =
              before.entries ∙ ap (take_entries deck before.now) left
              ∙ ap (option_and_then (λ next. take_entries deck next (drop (place + 1) schedule))) e;
          untaken = before.untaken ∙ ap (untaken_from place deck before.now) left ∙ rw e refl;
        }
        | None ↦ λ e stands. absurd stands
      ] refl (takes before.now before.stands)

  -- or it is the first that can't be
  pub stops-at : ((t : RunState) → StandsAt old deck.acts t → TakesTo new deck.acts false (take_entry deck t entry)) →
      gap_at deck s schedule ≡ Some place
  stops-at refuses =
      elim (take_entry deck before.now entry) as (λ found. take_entry deck before.now entry ≡ found → TakesTo new deck.acts false found → gap_at deck s schedule ≡ Some place) [
        | Some next ↦ λ e stands. absurd stands
        | None ↦ λ e none.
            let first : untaken_from place deck before.now (entry ∷ drop (place + 1) schedule) ≡ Some place = rw e refl in
            ap (λ u. option_or u (cond (has_ended (take_entries deck s schedule)) None (Some (length schedule))))
            (before.untaken ∙ ap (untaken_from place deck before.now) left ∙ first)
      ] refl (refuses before.now before.stands)

module _ (stage : Stage) (deck : Deck) (s : RunState) (schedule : List Entry) (all : Reaches stage deck s schedule (length schedule)) where
  all-entries : take_entries deck s schedule ≡ Some all.now
  all-entries = all.entries ∙ ap (take_entries deck all.now) (drop-length schedule)

  all-untaken : untaken_from 0 deck s schedule ≡ None
  all-untaken = all.untaken ∙ ap (untaken_from (length schedule) deck all.now) (drop-length schedule)

  -- the end was taken last
  pub ends-whole : stage.is_over ≡ true → TakesWhole stage deck s schedule
  ends-whole over = record {
    next = all.now;
    stands = all.stands;
    entries = all-entries;
    untaken = all-untaken;
    ended = sym all.stands.is_over ∙ over;
  }

  -- or it is missed behind the last entry
  pub ends-early : stage.is_over ≡ false → gap_at deck s schedule ≡ Some (length schedule)
  ends-early goes =
      let ended : has_ended (take_entries deck s schedule) ≡ false = ap has_ended all-entries ∙ sym all.stands.is_over ∙ goes in
      ap (λ u. option_or u (cond (has_ended (take_entries deck s schedule)) None (Some (length schedule)))) all-untaken
      ∙ ap (λ b. option_or None (cond b None (Some (length schedule)))) ended
