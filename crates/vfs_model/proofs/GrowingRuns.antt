-- A session's run grows with its replies and its lines.
use Rattle.std.proofs.Common.{◌≡◌, ℕ, zero, suc, ◌-◌, Bool, true, false, Option, Some, None, List, [], ◌∷◌, ◌++◌, set, get_or, refl, sym, ap, ◌∙◌, subst, append_assoc, append-nil}
use Rattle.std.specs.Prelude.{is_some, cond}
use Rattle.std.specs.Option.{option_and_then}
use Rattle.vfs_base.specs.declared.deck.Deck.{Deck}
use Rattle.vfs_base.specs.declared.entry.Entry.{Entry}
use Rattle.vfs_base.specs.declared.entry.Who.{Who}
use Rattle.vfs_base.specs.declared.entry.Who.TheVariants as who
use Rattle.vfs_base.specs.declared.reply.Reply.{Reply}
use Rattle.vfs_base.specs.declared.step.Step.{Step}
use Rattle.vfs_model.proofs.BlockLemmas.{asking-line, finished-line}
use Rattle.vfs_model.proofs.LineTalks.{line-takes}
use Rattle.vfs_model.proofs.TranscriptLemmas.{take_entries-append}
use Rattle.vfs_model.specs.Command.{line_talk}
use Rattle.vfs_model.specs.Deck.{session_lines}
use Rattle.vfs_model.specs.ScriptRun.{RunState, entry_step, heard_after, heard_by, opening_state, take_entries, take_entry, take_step}
use Rattle.vfs_model.specs.Session.{SessionRun, after_line, block_before, block_of, is_pending, lines_run, session_run}
use Rattle.vfs_model.specs.ShellLaws.{is_finished, with_left}
use Rattle.vfs_model.specs.Talk.{Answer}
use Rattle.vfs_model.specs.TranscriptLaws.{PendingStepIsWanted, ShownBlocksStay}
use Rattle.vfs_model.specs.World.{fits_step}
use Rattle.vfs_model.specs.declared.shell_state.Next.TheVariants as next
use Rattle.vfs_model.specs.declared.shell_state.ShellState.{ShellState}

-- the one list begins with the other
abbrev pub Grows : {X : Type 0} → List X → List X → Type 0
Grows {X} before after = (later : List X) × (after ≡ before ++ later)

-- more replies leave the blocks, and add some
pub blocks-grow : (lines : List (List ℕ)) (state : ShellState) (replies more : List Reply) →
    Grows (lines_run lines state replies).blocks (lines_run lines state (replies ++ more)).blocks
blocks-grow [] state replies more = ([], refl)
blocks-grow (line ∷ lines) state replies more =
    elim (line_talk line state replies).next as (λ x. (line_talk line state replies).next ≡ x → Grows (lines_run (line ∷ lines) state replies).blocks (lines_run (line ∷ lines) state (replies ++ more)).blocks) [
      | next.Ask asked ↦ λ e.
          let none = asking-line state line asked (line_talk line state replies) (lines_run lines) e in
          (_, ap (λ front. front ++ (lines_run (line ∷ lines) state (replies ++ more)).blocks) (sym none))
      | next.Finished text ↦ λ e.
          let answer = line_talk line state replies in
          let longer : line_talk line state (replies ++ more) ≡ with_left answer more = (line-takes line state replies).finished (ap is_finished e) more in
          let now = finished-line state line text answer (lines_run lines) e in
          let later : lines_run (line ∷ lines) state (replies ++ more) ≡ block_before (block_of state.shown line text) (lines_run lines answer.state (answer.left ++ more)) =
          ap (λ a. after_line state line a (lines_run lines)) longer ∙ finished-line state line text (with_left answer more) (lines_run lines) e in
          let inner = blocks-grow lines answer.state answer.left more in
          (inner.0, ap (λ r. r.blocks) later ∙ ap (λ blocks. block_of state.shown line text ∷ blocks) inner.1 ∙ sym (ap (λ r. r.blocks ++ inner.0) now))
    ] refl

-- what a session heard grows
set-grows : (heard : List (List Reply)) (i j : ℕ) (reply : Reply) → Grows (get_or heard j []) (get_or (set heard i (get_or heard i [] ++ reply ∷ [])) j [])
set-grows [] i j reply = ([], refl)
set-grows (first ∷ heard) zero zero reply = (reply ∷ [], refl)
set-grows (first ∷ heard) zero (suc j) reply = ([], sym (append-nil (get_or heard j [])))
set-grows (first ∷ heard) (suc i) zero reply = ([], sym (append-nil first))
set-grows (first ∷ heard) (suc i) (suc j) reply = set-grows heard i j reply

heard-grows : (heard : List (List Reply)) (asker : Who) (reply : Reply) (j : ℕ) → Grows (get_or heard j []) (get_or (heard_after heard asker reply) j [])
heard-grows heard (who.Session k) reply j = set-grows heard (k - 1) j reply
heard-grows heard (who.Flush row) reply j = ([], sym (append-nil (get_or heard j [])))
heard-grows heard (who.Reclaim row) reply j = ([], sym (append-nil (get_or heard j [])))
heard-grows heard who.End reply j = ([], sym (append-nil (get_or heard j [])))

pub entry-grows : (deck : Deck) (s t : RunState) (entry : Entry) (k : ℕ) → take_entry deck s entry ≡ Some t → Grows (heard_by s k) (heard_by t k)
unfolding take_entry
entry-grows deck s t entry k e = by_over s.is_over e
  where
    by_fit : (b : Bool) (next : RunState) → Grows (heard_by s k) (heard_by next k) → cond b (Some next) None ≡ Some t → Grows (heard_by s k) (heard_by t k)
    by_fit true next h e = let same : next ≡ t = cc in subst (λ r. Grows (heard_by s k) (heard_by r k)) same h
    by_fit false next h e = absurd (cc)

    by_step : (x : Option Step) → take_step s entry x ≡ Some t → Grows (heard_by s k) (heard_by t k)
    by_step None e = absurd (cc)
    by_step (Some asked) e = by_fit (fits_step s.world entry.who asked entry.mark) _ (heard-grows s.heard entry.who _ (k - 1)) e

    by_over : (b : Bool) → cond b None (take_step s entry (entry_step deck s entry.who)) ≡ Some t → Grows (heard_by s k) (heard_by t k)
    by_over true e = absurd (cc)
    by_over false e = by_step (entry_step deck s entry.who) e

grows-then : {X : Type 0} (a b c : List X) → Grows a b → Grows b c → Grows a c
grows-then a b c g h = (g.0 ++ h.0, h.1 ∙ ap (λ l. l ++ h.0) g.1 ∙ append_assoc a g.0 h.0)

entries-grow : (deck : Deck) (s t : RunState) (entries : List Entry) (k : ℕ) → take_entries deck s entries ≡ Some t → Grows (heard_by s k) (heard_by t k)
entries-grow deck s t [] k e = let same : s ≡ t = cc in subst (λ r. Grows (heard_by s k) (heard_by r k)) same ([], sym (append-nil (heard_by s k)))
entries-grow deck s t (entry ∷ entries) k e = by_entry (take_entry deck s entry) refl e (λ u. entries-grow deck u t entries k)
  where
    by_entry : (x : Option RunState) → take_entry deck s entry ≡ x → option_and_then (λ u. take_entries deck u entries) x ≡ Some t →
        ((u : RunState) → take_entries deck u entries ≡ Some t → Grows (heard_by u k) (heard_by t k)) → Grows (heard_by s k) (heard_by t k)
    by_entry None f e h = absurd (cc)
    by_entry (Some u) f e h = grows-then (heard_by s k) (heard_by u k) (heard_by t k) (entry-grows deck s u entry k f) (h u e)

pub shown-stays : ShownBlocksStay
unfolding session_run
shown-stays deck describe front rest before after k e f =
    let both : take_entries deck before rest ≡ Some after =
    sym (ap (option_and_then (λ t. take_entries deck t rest)) e) ∙ sym (take_entries-append deck (opening_state deck describe) front rest) ∙ f in
    let heard = entries-grow deck before after rest k both in
    let grown = blocks-grow (session_lines deck k) _ (heard_by before k) heard.0 in
    (grown.0, ap (λ replies. (session_run (session_lines deck k) replies).blocks) heard.1 ∙ grown.1)

-- lines that are posted behind a pending command don't change what it asks
pending-same : (posted more : List (List ℕ)) (state : ShellState) (replies : List Reply) → is_pending (lines_run posted state replies) ≡ true →
    (lines_run (posted ++ more) state replies).wanted ≡ (lines_run posted state replies).wanted
pending-same [] more state replies h = absurd (cc)
pending-same (line ∷ posted) more state replies h =
    elim (line_talk line state replies).next as (λ x. (line_talk line state replies).next ≡ x → (lines_run (line ∷ posted ++ more) state replies).wanted ≡ (lines_run (line ∷ posted) state replies).wanted) [
      | next.Ask asked ↦ λ e. asked-step asked (line_talk line state replies) (lines_run (posted ++ more)) e ∙ sym (asked-step asked (line_talk line state replies) (lines_run posted) e)
      | next.Finished text ↦ λ e.
          let answer = line_talk line state replies in
          let short = finished-line state line text answer (lines_run posted) e in
          let long = finished-line state line text answer (lines_run (posted ++ more)) e in
          ap (λ r. r.wanted) long
          ∙ pending-same posted more answer.state answer.left (ap (λ r. is_some r.wanted) (sym short) ∙ h)
          ∙ sym (ap (λ r. r.wanted) short)
    ] refl
  where
    asked-step : (asked : Step) (answer : Answer) (later : ShellState → List Reply → SessionRun) → answer.next ≡ next.Ask asked →
        (after_line state line answer later).wanted ≡ Some asked
    asked-step asked answer later e = rw e refl

pub pending-wanted : PendingStepIsWanted
unfolding session_run
pending-wanted posted more replies h =
    let same = pending-same posted more _ replies h in
    let is : is_pending (session_run (posted ++ more) replies) ≡ true = ap is_some same ∙ h in
    rw is same
