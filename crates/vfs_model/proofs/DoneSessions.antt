-- A session with nothing pending, and one that is done, stay so.
use Rattle.std.proofs.Common.{◌≡◌, ℕ, zero, suc, ◌≤◌, Bool, true, false, cond, ◌&&◌, Option, Some, None, List, [], ◌∷◌, ◌++◌, length, refl, sym, ap, ◌∙◌, arith, length-append}
use Rattle.std.specs.Prelude.{is_some, is_none, slice_get}
use Rattle.std.specs.List.{list_all}
use Rattle.vfs_base.specs.declared.deck.Deck.{Deck}
use Rattle.vfs_base.specs.declared.reply.Reply.{Reply}
use Rattle.vfs_base.specs.declared.step.Step.{Step}
use Rattle.vfs_model.proofs.BlockLemmas.{finished-line}
use Rattle.vfs_model.proofs.GrowingRuns.{Grows}
use Rattle.vfs_model.proofs.LineTalks.{line-takes}
use Rattle.vfs_model.specs.Command.{line_talk}
use Rattle.vfs_model.specs.Deck.{session_lines}
use Rattle.vfs_model.specs.ScriptRun.{RunState, heard_by, is_done, run_of}
use Rattle.vfs_model.specs.Session.{SessionRun, after_line, block_before, block_of, exit_step, exit_steps, is_pending, lines_run, session_run, wanted_step}
use Rattle.vfs_model.specs.ShellLaws.{is_finished, with_left}
use Rattle.vfs_model.specs.Talk.{Answer}
use Rattle.vfs_model.specs.declared.shell_state.Next.TheVariants as next
use Rattle.vfs_model.specs.declared.shell_state.ShellState.{ShellState}

-- the run with more replies behind it
abbrev pub longer : SessionRun → List Reply → SessionRun
longer run more = record run { left = run.left ++ more }

idle-run : (lines : List (List ℕ)) (state : ShellState) (replies more : List Reply) → is_pending (lines_run lines state replies) ≡ false →
    lines_run lines state (replies ++ more) ≡ longer (lines_run lines state replies) more
idle-run [] state replies more h = refl
idle-run (line ∷ lines) state replies more h =
    elim (line_talk line state replies).next as (λ x. (line_talk line state replies).next ≡ x → lines_run (line ∷ lines) state (replies ++ more) ≡ longer (lines_run (line ∷ lines) state replies) more) [
      | next.Ask asked ↦ λ e. let yes : is_pending (lines_run (line ∷ lines) state replies) ≡ true = asks asked (line_talk line state replies) (lines_run lines) e in absurd (cc)
      | next.Finished text ↦ λ e.
          let answer = line_talk line state replies in
          let taken : line_talk line state (replies ++ more) ≡ with_left answer more = (line-takes line state replies).finished (ap is_finished e) more in
          let now = finished-line state line text answer (lines_run lines) e in
          let later : lines_run (line ∷ lines) state (replies ++ more) ≡ block_before (block_of state.shown line text) (lines_run lines answer.state (answer.left ++ more)) =
          ap (λ a. after_line state line a (lines_run lines)) taken ∙ finished-line state line text (with_left answer more) (lines_run lines) e in
          let idle : is_pending (lines_run lines answer.state answer.left) ≡ false = ap is_pending (sym now) ∙ h in
          later ∙ ap (block_before (block_of state.shown line text)) (idle-run lines answer.state answer.left more idle) ∙ ap (λ r. longer r more) (sym now)
    ] refl
  where
    asks : (asked : Step) (answer : Answer) (later : ShellState → List Reply → SessionRun) → answer.next ≡ next.Ask asked → is_pending (after_line state line answer later) ≡ true
    asks asked answer later e = rw e refl

-- the run of a session that has nothing pending, after it heard more
idle-longer : (deck : Deck) (s t : RunState) (k : ℕ) → is_pending (run_of deck s k) ≡ false → (g : Grows (heard_by s k) (heard_by t k)) →
    run_of deck t k ≡ longer (run_of deck s k) g.0
unfolding session_run
idle-longer deck s t k h g = ap (session_run (session_lines deck k)) g.1 ∙ idle-run (session_lines deck k) _ (heard_by s k) g.0 h

pub idle-stays : (deck : Deck) (s t : RunState) (k : ℕ) → is_pending (run_of deck s k) ≡ false → Grows (heard_by s k) (heard_by t k) → is_pending (run_of deck t k) ≡ false
idle-stays deck s t k h g = ap is_pending (idle-longer deck s t k h g) ∙ h

by-wanted : (x y : Option Step) → is_none (cond (is_some x) x y) ≡ true → (is_some x ≡ false) × (is_none y ≡ true)
by-wanted None y e = (refl, e)
by-wanted (Some asked) y e = absurd (cc)

pub done-parts : (run : SessionRun) → is_none (wanted_step run) ≡ true → (is_pending run ≡ false) × (is_none (exit_step run) ≡ true)
done-parts run e = by-wanted run.wanted (exit_step run) e

pub parts-done : (run : SessionRun) → is_pending run ≡ false → is_none (exit_step run) ≡ true → is_none (wanted_step run) ≡ true
parts-done run h e = rw h e

past-end : (steps : List Step) (n m : ℕ) → n ≤ m → is_none (slice_get steps n) ≡ true → is_none (slice_get steps m) ≡ true
past-end [] n m h e = refl
past-end (step ∷ steps) zero m h e = absurd (cc)
past-end (step ∷ steps) (suc n) zero h e = absurd (omega (arith, h))
past-end (step ∷ steps) (suc n) (suc m) h e = past-end steps n m (omega (arith, h)) e

pub done-stays : (deck : Deck) (s t : RunState) (k : ℕ) → is_done deck s k ≡ true → Grows (heard_by s k) (heard_by t k) → is_done deck t k ≡ true
done-stays deck s t k e g =
    let run = run_of deck s k in
    let parts = done-parts run e in
    let more = idle-longer deck s t k parts.0 g in
    let exit : is_none (exit_step (longer run g.0)) ≡ true =
    past-end (exit_steps run) (length run.left) (length (run.left ++ g.0)) (omega (arith, length-append run.left g.0)) parts.1 in
    ap (λ r. is_none (wanted_step r)) more ∙ parts-done (longer run g.0) parts.0 exit

pub all-stay : (p q : ℕ → Bool) (ks : List ℕ) → ((k : ℕ) → p k ≡ true → q k ≡ true) → list_all p ks ≡ true → list_all q ks ≡ true
all-stay p q [] h e = refl
all-stay p q (k ∷ ks) h e = let parts = both-true (p k) (list_all p ks) e in rw (h k parts.0) (all-stay p q ks h parts.1)
  where
    both-true : (x y : Bool) → (x && y) ≡ true → (x ≡ true) × (y ≡ true)
    both-true true y h = (refl, h)
    both-true false y h = absurd (cc)
