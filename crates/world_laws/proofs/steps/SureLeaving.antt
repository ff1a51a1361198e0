-- By what a session leaves it gives back what it has, and so it needs no memory; nor does the end.
use Rattle.std.proofs.Common.{◌≡◌, ℕ, ◌-◌, ◌==◌, Bool, true, false, not, ◌&&◌, nat_lt, is_some, Option, Some, None, List, [], ◌∷◌, ◌++◌, map, slice_index_or, if◌then◌else◌, refl, sym, ap, subst, ◌∙◌}
use Rattle.std.specs.List.{list_all}
use Rattle.vfs_base.specs.Path.{AllAre}
use Rattle.vfs_base.specs.declared.deck.Deck.{Deck}
use Rattle.vfs_base.specs.declared.entry.Entry.{Entry}
use Rattle.vfs_base.specs.declared.entry.Who.{Who}
use Rattle.vfs_base.specs.declared.entry.Who.TheVariants as who
use Rattle.vfs_base.specs.declared.ids.HoldId.{HoldId}
use Rattle.vfs_base.specs.declared.step.Step.{Step}
use Rattle.vfs_base.specs.declared.step.Step.TheVariants as step
use Rattle.vfs_model.proofs.HeldReferences.{file_kept, held-at}
use Rattle.vfs_model.proofs.OwnLines.{session-asks-its-own}
use Rattle.vfs_model.specs.HeldFiles.{file_held, gives_back, held_by, own_by}
use Rattle.vfs_model.specs.Leaving.{is_leaving}
use Rattle.vfs_model.specs.Namespace.{references_of}
use Rattle.vfs_model.specs.ScriptRun.{RunState, entry_step, heard_by, is_done, run_of, sessions}
use Rattle.vfs_model.specs.Session.{is_pending}
use Rattle.vfs_model.specs.Tally.{has_reference, needs_no_memory}
use Rattle.vfs_model.specs.World.{session_of}
use Rattle.vfs_model.specs.declared.namespace.Namespace.{Namespace}
use Rattle.vfs_model.specs.declared.namespace.Reference.{Reference}
use Rattle.world_laws.proofs.steps.ScriptAsking.{AllAskOn, ends-with, gives-now, stands-after}
use Rattle.world_laws.specs.Leaving.{LeavingNeedsNoMemory, ScheduleLeavesSurely}
use Rattle.world_laws.specs.Scripts.{IsThere}

-- what gives back a reference that keeps a file needs no memory

same-there : (found : Option Reference) → is_some (file_kept found) ≡ is_some found
same-there None = refl
same-there (Some reference) = refl

has-there : (own : Bool) (references : List (Option Reference)) (place : ℕ) →
    is_some (if own then slice_index_or (map file_kept references) place None else None) ≡ true → (own && is_some (slice_index_or references place None)) ≡ true
has-there true references place h = sym (ap is_some (held-at references place) ∙ same-there (slice_index_or references place None)) ∙ h
has-there false references place h = absurd (cc)

has-held : (n : Namespace) (k : ℕ) (hold : HoldId) → is_some (file_held (held_by n k) k hold) ≡ true → has_reference n k hold ≡ true
has-held n k hold h = has-there (hold.session == k && nat_lt 0 hold.number) (references_of n k) (hold.number - 1) h

back-needs-none : (n : Namespace) (k : ℕ) (asked : Step) → gives_back k (held_by n k) asked ≡ true → needs_no_memory n k asked ≡ true
unfolding needs_no_memory
back-needs-none n k (step.Close hold) h = has-held n k hold h
back-needs-none n k (step.Unmap hold) h = has-held n k hold h
back-needs-none n k step.Home h = refl
back-needs-none n k _ h = absurd (cc)

end-needs-none : (n : Namespace) (k : ℕ) → needs_no_memory n k step.Shutdown ≡ true
unfolding needs_no_memory
end-needs-none n k = refl

none-pending : (pending : Bool) → not pending ≡ true → pending ≡ false
none-pending false h = refl
none-pending true h = absurd (cc)

-- where each session asks its own, it leaves by what needs no memory
leaves-surely : (claims : ℕ → Bool) (deck : Deck) (s : RunState) (asker : Who) (asked : Step) → AllAskOn claims deck s → IsThere asker → is_leaving deck s asker ≡ true →
    entry_step deck s asker ≡ Some asked → needs_no_memory s.world.namespace (session_of asker) asked ≡ true
leaves-surely claims deck s (who.Session k) asked all there idle e = by s.is_over refl
  where
    by : (over : Bool) → s.is_over ≡ over → needs_no_memory s.world.namespace k asked ≡ true
    by true o = let none = all.over o k there.0 there.1 in let no : None ≡ Some asked = sym none ∙ e in absurd (cc)
    by false o =
        let stands = all.going o k there.0 there.1 in
        back-needs-none s.world.namespace k asked
        (gives-now deck k (own_by stands.whole s.world.namespace k) (heard_by s k) asked stands.asks (none-pending (is_pending (run_of deck s k)) idle) e)
leaves-surely claims deck s (who.Flush row) asked all there idle e = absurd (cc)
leaves-surely claims deck s (who.Reclaim row) asked all there idle e = absurd (cc)
leaves-surely claims deck s who.End asked all there idle e =
    subst (λ x. needs_no_memory s.world.namespace 0 x ≡ true) (ends-with (list_all (is_done deck s) sessions) asked e) (end-needs-none s.world.namespace 0)

pub leaving_needs_no_memory : LeavingNeedsNoMemory
leaving_needs_no_memory deck describe schedule s asker asked all there e = λ idle wanted.
    leaves-surely (λ k. false) deck s asker asked (stands-after session-asks-its-own (λ k. false) deck describe schedule s all (λ k claim. absurd (cc)) e) there idle wanted

-- what holds of each entry holds of each before one, and of that one
front-there : (Good : Entry → Type 0) (front : List Entry) (entry : Entry) (later : List Entry) → AllAre Good (front ++ entry ∷ later) → AllAre Good front × Good entry
front-there Good [] entry later h = (tt, h.0)
front-there Good (first ∷ front) entry later h = let rest = front-there Good front entry later h.1 in ((h.0, rest.0), rest.1)

pub schedule_leaves_surely : ScheduleLeavesSurely
schedule_leaves_surely deck describe schedule all starves front later entry = λ s asked e stands wanted idle.
    let there = front-there (λ x. IsThere x.who) front entry later (subst (AllAre (λ x. IsThere x.who)) e all) in
    starves front later entry s asked e stands wanted (leaving_needs_no_memory deck describe front s entry.who asked there.0 there.1 stands idle wanted)
