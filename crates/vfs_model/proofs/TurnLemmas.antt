-- The lines of a script leave no choice of whose turn it is.
use Rattle.std.proofs.Common.{◌≡◌, Bool, true, false, ◌&&◌, Some, None, List, [], ◌∷◌, refl, sym, ap, ap₂, ◌∙◌, arith}
use Rattle.vfs_base.specs.declared.deck.Deck.{Deck}
use Rattle.vfs_base.specs.declared.describe.Describe.{Describe}
use Rattle.vfs_base.specs.declared.entry.Entry.{Entry}
use Rattle.vfs_base.specs.declared.entry.Mark.{Mark}
use Rattle.vfs_base.specs.declared.entry.Who.{Who}
use Rattle.vfs_base.specs.declared.entry.Who.TheVariants as who
use Rattle.vfs_model.specs.ScriptRun.{RunState, opening_state, take_entry}
use Rattle.vfs_model.specs.TranscriptLaws.{marks_of}
use Rattle.vfs_model.specs.Turns.{Agenda, FollowsScript, Turn, follows_script, keeps_turns, next_turn, opening_agenda, same_who}
use Rattle.vfs_model.specs.declared.script_form.ScriptForm.TheVariants as form

both-true : (a b : Bool) → (a && b) ≡ true → (a ≡ true) × (b ≡ true)
both-true true b h = (refl, h)
both-true false b h = absurd (cc)

pub same_who-is : (a b : Who) → same_who a b ≡ true → a ≡ b
same_who-is (who.Session j) (who.Session k) h = ap who.Session (grind arith)
same_who-is (who.Flush p) (who.Flush q) h = ap who.Flush (grind arith)
same_who-is (who.Reclaim p) (who.Reclaim q) h = ap who.Reclaim (grind arith)
same_who-is who.End who.End h = refl
same_who-is (who.Session k) (who.Flush q) h = absurd (cc)
same_who-is (who.Session k) (who.Reclaim q) h = absurd (cc)
same_who-is (who.Session k) who.End h = absurd (cc)
same_who-is (who.Flush p) (who.Session k) h = absurd (cc)
same_who-is (who.Flush p) (who.Reclaim q) h = absurd (cc)
same_who-is (who.Flush p) who.End h = absurd (cc)
same_who-is (who.Reclaim p) (who.Session k) h = absurd (cc)
same_who-is (who.Reclaim p) (who.Flush q) h = absurd (cc)
same_who-is (who.Reclaim p) who.End h = absurd (cc)
same_who-is who.End (who.Session k) h = absurd (cc)
same_who-is who.End (who.Flush q) h = absurd (cc)
same_who-is who.End (who.Reclaim q) h = absurd (cc)

-- An entry keeps its turn: it is of the one whose turn it is, it can be taken, and so on from there.
pub record KeepsTurn (deck : Deck) (s : RunState) (agenda : Agenda) (entry : Entry) (entries : List Entry) : Type 0 where
  pub turn : Turn
  pub found : next_turn s agenda.posted agenda.tasks ≡ Some turn
  pub who : turn.who ≡ entry.who
  pub next : RunState
  pub taken : take_entry deck s entry ≡ Some next
  pub later : keeps_turns deck next turn.agenda entries ≡ true

pub keeps-turn : (deck : Deck) (s : RunState) (agenda : Agenda) (entry : Entry) (entries : List Entry) →
    keeps_turns deck s agenda (entry ∷ entries) ≡ true → KeepsTurn deck s agenda entry entries
keeps-turn deck s agenda entry entries h = elim (next_turn s agenda.posted agenda.tasks) as (λ x. next_turn s agenda.posted agenda.tasks ≡ x → KeepsTurn deck s agenda entry entries) [
  | None ↦ λ e. let no : keeps_turns deck s agenda (entry ∷ entries) ≡ false = rw e refl in absurd (cc)
  | Some turn ↦ λ e. elim (take_entry deck s entry) as (λ x. take_entry deck s entry ≡ x → KeepsTurn deck s agenda entry entries) [
    | None ↦ λ f.
        let is : (same_who turn.who entry.who && false) ≡ keeps_turns deck s agenda (entry ∷ entries) = rw (e, f) refl in
        let both = both-true (same_who turn.who entry.who) false (is ∙ h) in absurd (cc)
    | Some next ↦ λ f.
        let is : (same_who turn.who entry.who && keeps_turns deck next turn.agenda entries) ≡ keeps_turns deck s agenda (entry ∷ entries) = rw (e, f) refl in
        let both = both-true (same_who turn.who entry.who) (keeps_turns deck next turn.agenda entries) (is ∙ h) in
        record { turn = turn; found = e; who = same_who-is turn.who entry.who both.0; next = next; taken = f; later = both.1 }
  ] refl
] refl

parts-same : (a b : Mark) (xs ys : List Mark) → (a ∷ xs) ≡ (b ∷ ys) → (a ≡ b) × (xs ≡ ys)
parts-same a b xs ys e = (cc, cc)

pub some-turn : (a b : Turn) → Some a ≡ Some b → a ≡ b
some-turn a b e = cc

some-state : (a b : RunState) → Some a ≡ Some b → a ≡ b
some-state a b e = cc

-- entries that keep their turns and have the same marks are the same
pub turns-unique : (deck : Deck) (s : RunState) (agenda : Agenda) (one other : List Entry) → marks_of one ≡ marks_of other →
    keeps_turns deck s agenda one ≡ true → keeps_turns deck s agenda other ≡ true → one ≡ other
turns-unique deck s agenda [] [] e h k = refl
turns-unique deck s agenda [] (entry ∷ other) e h k = absurd (cc)
turns-unique deck s agenda (entry ∷ one) [] e h k = absurd (cc)
turns-unique deck s agenda (a ∷ one) (b ∷ other) e h k =
    let p = keeps-turn deck s agenda a one h in
    let q = keeps-turn deck s agenda b other k in
    let marks = parts-same a.mark b.mark (marks_of one) (marks_of other) e in
    let turn = some-turn p.turn q.turn (sym p.found ∙ q.found) in
    let same : a ≡ b = ap₂ (λ w m. let e : Entry = record { who = w; mark = m } in e) (sym p.who ∙ ap (λ t. t.who) turn ∙ q.who) marks.0 in
    let next = some-state p.next q.next (sym p.taken ∙ ap (take_entry deck s) same ∙ q.taken) in
    let later : keeps_turns deck p.next p.turn.agenda other ≡ true =
    ap (λ t. keeps_turns deck t p.turn.agenda other) next ∙ ap (λ t. keeps_turns deck q.next t.agenda other) turn ∙ q.later in
    ap₂ (λ x xs. x ∷ xs) same (turns-unique deck p.next p.turn.agenda one other marks.1 p.later later)

pub shells-unique : (deck : Deck) (describe : Describe) (one other : List Entry) → marks_of one ≡ marks_of other →
    FollowsScript form.Shell deck describe one → FollowsScript form.Shell deck describe other → one ≡ other
unfolding follows_script
shells-unique deck describe one other e h k = turns-unique deck (opening_state deck describe) (opening_agenda deck) one other e h k

pub replays-unique : (deck : Deck) (describe : Describe) (one other : List Entry) → marks_of one ≡ marks_of other →
    FollowsScript form.Replay deck describe one → FollowsScript form.Replay deck describe other → one ≡ other
unfolding follows_script
replays-unique deck describe one other e h k = turns-unique deck (opening_state deck describe) (opening_agenda deck) one other e h k
