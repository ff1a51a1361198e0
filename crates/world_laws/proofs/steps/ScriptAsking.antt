-- Where a script stands after any schedule, each session and the worker may ask what they want; and where the session's steps that give
-- up were answered Done, it has left when it is done.
use Rattle.std.proofs.Common.{◌≡◌, inl, inr, ℕ, ◌-◌, ◌*◌, ◌==◌, ◌≢◌, ◌<◌, ◌≤◌, Bool, true, false, Option, Some, None, is_none, List, [], ◌∷◌, ◌++◌, length, map, take, replicate, slice_index_or, slice_set, if◌then◌else◌, refl, sym, ap, subst, ◌∙◌, arith, append_assoc, append-nil}
use Rattle.std.proofs.lemmas.List.{drop-replicate, get_or-replicate, get_or-set_other, get_or-set_same, length-replicate, length-set, take-replicate}
use Rattle.std.proofs.lemmas.List.FromFn.{get_or-range_with_len}
use Rattle.std.proofs.lemmas.List.Sums.{AllPass-from_list_all}
use Rattle.std.specs.List.{list_all}
use Rattle.vfs_base.specs.Path.{AllAre, Path}
use Rattle.vfs_base.specs.declared.deck.Deck.{Deck}
use Rattle.vfs_base.specs.declared.describe.Describe.{Describe}
use Rattle.vfs_base.specs.declared.entry.Entry.{Entry}
use Rattle.vfs_base.specs.declared.entry.Mark.{Mark}
use Rattle.vfs_base.specs.declared.entry.Mark.TheVariants as mark
use Rattle.vfs_base.specs.declared.entry.Who.{Who}
use Rattle.vfs_base.specs.declared.entry.Who.TheVariants as who
use Rattle.vfs_base.specs.declared.ids.FileId.{FileId}
use Rattle.vfs_base.specs.declared.reply.Reply.{Reply}
use Rattle.vfs_base.specs.declared.reply.Reply.TheVariants as reply
use Rattle.vfs_base.specs.declared.step.Step.{Step}
use Rattle.vfs_base.specs.declared.step.Step.TheVariants as step
use Rattle.vfs_model.proofs.HeldReferences.{file_kept, may-ask-same}
use Rattle.vfs_model.proofs.HeldWorlds.{flush-leaves, reclaim-leaves, whole-stays, world-leaves}
use Rattle.vfs_model.proofs.OwnLines.{nothing_held}
use Rattle.vfs_model.proofs.Rests.{shutdown-leaves-rest}
use Rattle.vfs_model.specs.Asking.{MayAsk, may_ask}
use Rattle.vfs_model.specs.Boxes.{IsConsistent}
use Rattle.vfs_model.specs.Deck.{session_lines}
use Rattle.vfs_model.specs.ExitLaws.{HasLeft, gives_up}
use Rattle.vfs_model.specs.FileStep.{step_file}
use Rattle.vfs_model.specs.HeldFiles.{AsksItsOwn, CanReply, Held, IsEmpty, gives_back, held_after, held_by, may_ask_held, own_by}
use Rattle.vfs_model.specs.Homes.{opening_world}
use Rattle.vfs_model.specs.Namespace.{folder_of, opening_namespace}
use Rattle.vfs_model.specs.NamespaceStep.{is_shutdown, namespace_step, shutdown_step}
use Rattle.vfs_model.specs.Schedule.{is_end}
use Rattle.vfs_model.specs.ScriptRun.{RunState, entry_step, heard_by, is_done, opening_state, rom_image, run_of, sessions, state_after, state_after_step, take_entry}
use Rattle.vfs_model.specs.Session.{SessionRun, is_pending, session_run, wanted_step}
use Rattle.vfs_model.specs.World.{FitsStep, world_step}
use Rattle.vfs_model.specs.declared.namespace.Namespace.{Namespace}
use Rattle.vfs_model.specs.declared.namespace.RomImage.{RomImage}
use Rattle.vfs_model.specs.declared.world.WorldState.{WorldState}
use Rattle.world_laws.proofs.lists.Lists.{number-itself, same-number, same-or-other, same-some}
use Rattle.world_laws.proofs.steps.LeftSessions.{empty-left, left-rest, rest-left}
use Rattle.world_laws.proofs.steps.Opening.{opened-consistent}
use Rattle.world_laws.proofs.steps.ScriptKeeping.{IsTaken, entries-keep-along, entry-consistent}
use Rattle.world_laws.specs.Keeping.{HasNumber}
use Rattle.world_laws.specs.Scripts.{AreGivenUp, DoneSessionsHaveLeft, IsThere, ScriptEndMayBeAsked, ScriptStepsMayBeAsked}

-- the same run asks the same
same-run : (k : ℕ) (later : List Reply) (held : Held) (run other : List Reply → SessionRun) →
    ((more : List Reply) → run more ≡ other more) → AsksItsOwn k later held run → AsksItsOwn k later held other
same-run k [] held run other e h = record {
  wants = λ asked wanted. h.wants asked (ap wanted_step (e []) ∙ wanted);
  gives = λ idle asked wanted. h.gives (ap is_pending (e []) ∙ idle) asked (ap wanted_step (e []) ∙ wanted);
  leaves = λ none whole. h.leaves (ap wanted_step (e []) ∙ none) whole;
}
same-run k (answer ∷ later) held run other e h = λ asked wanted can.
    same-run k later (held_after k held asked answer) (λ more. run (answer ∷ more)) (λ more. other (answer ∷ more)) (λ more. e (answer ∷ more))
    (h asked (ap wanted_step (e []) ∙ wanted) can)

-- a session that heard this, and whose references keep these files, asks its own by whatever it hears
abbrev pub AsksOn : Deck → ℕ → Held → List Reply → Type 0
AsksOn deck k held heard = (later : List Reply) → AsksItsOwn k later held (λ more. session_run (session_lines deck k) (heard ++ more))

-- what it wants now it may ask
asks-now : (deck : Deck) (k : ℕ) (held : Held) (heard : List Reply) (asked : Step) → AsksOn deck k held heard →
    wanted_step (session_run (session_lines deck k) heard) ≡ Some asked → may_ask_held held.files asked (step_file asked) ≡ true
asks-now deck k held heard asked asks wanted =
    (asks []).wants asked (ap (λ found. wanted_step (session_run (session_lines deck k) found)) (append-nil heard) ∙ wanted)

-- where its lines are done it gives back what it has
pub gives-now : (deck : Deck) (k : ℕ) (held : Held) (heard : List Reply) (asked : Step) → AsksOn deck k held heard →
    is_pending (session_run (session_lines deck k) heard) ≡ false → wanted_step (session_run (session_lines deck k) heard) ≡ Some asked →
    gives_back k held.files asked ≡ true
gives-now deck k held heard asked asks idle wanted =
    (asks []).gives (ap (λ found. is_pending (session_run (session_lines deck k) found)) (append-nil heard) ∙ idle) asked
    (ap (λ found. wanted_step (session_run (session_lines deck k) found)) (append-nil heard) ∙ wanted)

-- and where it wants nothing more it has nothing
has-nothing : (deck : Deck) (k : ℕ) (held : Held) (heard : List Reply) → AsksOn deck k held heard →
    wanted_step (session_run (session_lines deck k) heard) ≡ None → held.whole ≡ true → IsEmpty held
has-nothing deck k held heard asks none whole =
    (asks []).leaves (ap (λ found. wanted_step (session_run (session_lines deck k) found)) (append-nil heard) ∙ none) whole

-- and it does so after it heard a reply that it can have
asks-next : (deck : Deck) (k : ℕ) (held : Held) (heard : List Reply) (asked : Step) (answer : Reply) → AsksOn deck k held heard →
    wanted_step (session_run (session_lines deck k) heard) ≡ Some asked → CanReply k held.files asked answer → AsksOn deck k (held_after k held asked answer) (heard ++ answer ∷ [])
asks-next deck k held heard asked answer asks wanted can = λ later.
    same-run k later (held_after k held asked answer) (λ more. session_run (session_lines deck k) (heard ++ answer ∷ more))
    (λ more. session_run (session_lines deck k) ((heard ++ answer ∷ []) ++ more))
    (λ more. ap (session_run (session_lines deck k)) (sym (append_assoc heard (answer ∷ []) more)))
    (asks (answer ∷ later) asked (ap (λ found. wanted_step (session_run (session_lines deck k) found)) (append-nil heard) ∙ wanted) can)

no-shutdown : (held : List (Option FileId)) (asked : Step) → may_ask_held held asked (step_file asked) ≡ true → is_shutdown asked ≡ false
no-shutdown held step.Shutdown h = absurd (cc)
no-shutdown held _ h = refl

none-is : {X : Type 0} (found : Option X) → is_none found ≡ true → found ≡ None
none-is None h = refl
none-is (Some x) h = absurd (cc)

-- how a session stands: it asks its own by what it has, of which nothing was lost where that is claimed
pub record Stands (claims : ℕ → Bool) (deck : Deck) (n : Namespace) (heard : List Reply) (k : ℕ) : Type 0 where
  pub whole : Bool
  pub asks : AsksOn deck k (own_by whole n k) heard
  pub claimed : claims k ≡ true → whole ≡ true

-- where a script stands: each session asks its own, until the end was taken, and wants nothing then and has left
pub record AllAskOn (claims : ℕ → Bool) (deck : Deck) (s : RunState) : Type 0 where
  pub consistent : IsConsistent s.world
  pub listened : length s.heard ≡ 8
  pub going : s.is_over ≡ false → (k : ℕ) → 0 < k → k ≤ 8 → Stands claims deck s.world.namespace (heard_by s k) k
  pub over : s.is_over ≡ true → (k : ℕ) → 0 < k → k ≤ 8 → wanted_step (run_of deck s k) ≡ None
  pub left : s.is_over ≡ true → (k : ℕ) → 0 < k → k ≤ 8 → claims k ≡ true → HasLeft s.world.namespace k

-- a session that is done has left
stands-left : (claims : ℕ → Bool) (deck : Deck) (n : Namespace) (heard : List Reply) (k : ℕ) → 0 < k → Stands claims deck n heard k → claims k ≡ true →
    wanted_step (session_run (session_lines deck k) heard) ≡ None → HasLeft n k
stands-left claims deck n heard k above stands claim none =
    empty-left n k stands.whole above (has-nothing deck k (own_by stands.whole n k) heard stands.asks none (stands.claimed claim))

-- the start

opening-held : (roms : List RomImage) (describe : Describe) (k : ℕ) → 0 < k → k ≤ 8 → held_by (opening_namespace roms describe) k ≡ replicate 32 None
unfolding opening_namespace
opening-held roms describe k above within =
    ap (λ references. map file_kept (take (32 * k - 32 * (k - 1)) references)) (drop-replicate (32 * (k - 1)) 256 None)
    ∙ ap (map file_kept) (take-replicate (32 * k - 32 * (k - 1)) (256 - 32 * (k - 1)) None (omega (arith, above, within)))
    ∙ ap (λ size. map file_kept (replicate size None)) (let e : 32 * k - 32 * (k - 1) ≡ 32 = omega (arith, above) in e)

opening-root : (roms : List RomImage) (describe : Describe) (k : ℕ) → 0 < k → k ≤ 8 → folder_of (opening_namespace roms describe) k ≡ []
unfolding opening_namespace
opening-root roms describe k above within = get_or-replicate 8 (k - 1) [] [] (omega (arith, above, within))

-- what is told of its files and its folder is what it has
held-told : (held : Held) (files : List (Option FileId)) (folder : Path) → files ≡ held.files → folder ≡ held.folder →
    (let told : Held = record { files = files; folder = folder; whole = held.whole } in told) ≡ held
held-told held files folder e f =
    ap (λ (x : List (Option FileId)). (let told : Held = record { files = x; folder = folder; whole = held.whole } in told)) e
    ∙ ap (λ (x : Path). (let told : Held = record { files = held.files; folder = x; whole = held.whole } in told)) f

-- one entry

-- what a session hears
own-heard : (heard : List (List Reply)) (k : ℕ) (answer : Reply) → 0 < k → k ≤ 8 → length heard ≡ 8 →
    slice_index_or (slice_set heard (k - 1) (slice_index_or heard (k - 1) [] ++ answer ∷ [])) (k - 1) [] ≡ slice_index_or heard (k - 1) [] ++ answer ∷ []
own-heard heard k answer above within whole = get_or-set_same heard (k - 1) _ [] (omega (arith, above, within, whole))

module _ (claims : ℕ → Bool) (deck : Deck) (s : RunState) (all : AllAskOn claims deck s) where
  session-stands : (j : ℕ) (m : Mark) (asked : Step) (above : 0 < j) (within : j ≤ 8) (unended : s.is_over ≡ false) → wanted_step (run_of deck s j) ≡ Some asked →
      FitsStep s.world (who.Session j) asked m →
      (claims j ≡ true → gives_up asked ≡ true → (world_step s.world (who.Session j) asked m).reply ≡ reply.Done) →
      (let outcome = world_step s.world (who.Session j) asked m in Stands claims deck outcome.next.namespace (heard_by s j ++ outcome.reply ∷ []) j)
  session-stands j m asked above within unended wanted fits = λ done.
      let outcome = world_step s.world (who.Session j) asked m in
      let heard = heard_by s j in
      let stands = all.going unended j above within in
      let held = own_by stands.whole s.world.namespace j in
      let may = asks-now deck j held heard asked stands.asks wanted in
      let leaves = world-leaves stands.whole s.world j asked m above within all.consistent.references_bounded all.consistent.sizes.working_directories (no-shutdown held.files asked may) fits in
      let after = held_after j held asked outcome.reply in
      let told = held-told after (held_by outcome.next.namespace j) (folder_of outcome.next.namespace j) leaves.own leaves.folder in
      record {
        whole = after.whole;
        asks = subst (λ found. AsksOn deck j found (heard ++ outcome.reply ∷ [])) (sym told) (asks-next deck j held heard asked outcome.reply stands.asks wanted leaves.can);
        claimed = λ claim. whole-stays j held asked outcome.reply (done claim) ∙ stands.claimed claim;
      }

  other-stands : (j k : ℕ) (m : Mark) (asked : Step) (above : 0 < j) (within : j ≤ 8) (unended : s.is_over ≡ false) → wanted_step (run_of deck s j) ≡ Some asked →
      FitsStep s.world (who.Session j) asked m → 0 < k → k ≤ 8 → k ≢ j →
      Stands claims deck (world_step s.world (who.Session j) asked m).next.namespace (heard_by s k) k
  other-stands j k m asked above within unended wanted fits = λ l u d.
      let outcome = world_step s.world (who.Session j) asked m in
      let mine = all.going unended j above within in
      let held = own_by mine.whole s.world.namespace j in
      let may = asks-now deck j held (heard_by s j) asked mine.asks wanted in
      let leaves = world-leaves mine.whole s.world j asked m above within all.consistent.references_bounded all.consistent.sizes.working_directories (no-shutdown held.files asked may) fits in
      let stands = all.going unended k l u in
      let told = held-told (own_by stands.whole s.world.namespace k) (held_by outcome.next.namespace k) (folder_of outcome.next.namespace k) (leaves.others k l d) (leaves.elsewhere k l d) in
      record {
        whole = stands.whole;
        asks = subst (λ found. AsksOn deck k found (heard_by s k)) (sym told) stands.asks;
        claimed = stands.claimed;
      }

  session-keeps : (j : ℕ) (m : Mark) (asked : Step) → 0 < j → j ≤ 8 → s.is_over ≡ false → wanted_step (run_of deck s j) ≡ Some asked →
      FitsStep s.world (who.Session j) asked m →
      (claims j ≡ true → gives_up asked ≡ true → (world_step s.world (who.Session j) asked m).reply ≡ reply.Done) →
      IsConsistent (world_step s.world (who.Session j) asked m).next → AllAskOn claims deck (state_after_step s (who.Session j) (world_step s.world (who.Session j) asked m))
  session-keeps j m asked above within unended wanted fits = λ done consistent.
      let outcome = world_step s.world (who.Session j) asked m in
      let heard = heard_by s j in
      record {
        consistent = consistent;
        listened = length-set s.heard (j - 1) (heard ++ outcome.reply ∷ []) ∙ all.listened;
        going = λ o k l u. elim (same-or-other k j) [
          | inl e ↦ subst (λ i. Stands claims deck outcome.next.namespace (heard_by (state_after_step s (who.Session j) outcome) i) i) (sym e)
              (subst (λ found. Stands claims deck outcome.next.namespace found j) (sym (own-heard s.heard j outcome.reply above within all.listened))
              (session-stands j m asked above within unended wanted fits done))
          | inr d ↦
              let same : heard_by (state_after_step s (who.Session j) outcome) k ≡ heard_by s k =
              get_or-set_other s.heard (j - 1) (k - 1) (heard ++ outcome.reply ∷ []) [] (λ e. d (omega (arith, e, l, above))) in
              subst (λ found. Stands claims deck outcome.next.namespace found k) (sym same)
              (other-stands j k m asked above within unended wanted fits l u d)
        ];
        over = λ o. absurd (cc);
        left = λ o. absurd (cc);
      }

  -- a step that leaves the namespace, and that no session hears
  worker-keeps : (next : RunState) → s.is_over ≡ false → next.is_over ≡ false → next.world.namespace ≡ s.world.namespace → next.heard ≡ s.heard →
      IsConsistent next.world → AllAskOn claims deck next
  worker-keeps next unended still namespace heard consistent = record {
    consistent = consistent;
    listened = ap length heard ∙ all.listened;
    going = λ o k l u.
        subst (λ n. Stands claims deck n (heard_by next k) k) (sym namespace)
        (subst (λ found. Stands claims deck s.world.namespace (slice_index_or found (k - 1) []) k) (sym heard) (all.going unended k l u));
    over = λ o. let no : true ≡ false = sym o ∙ still in absurd (cc);
    left = λ o. let no : true ≡ false = sym o ∙ still in absurd (cc);
  }

done-at : (deck : Deck) (s : RunState) (k : ℕ) → list_all (is_done deck s) sessions ≡ true → 0 < k → k ≤ 8 → wanted_step (run_of deck s k) ≡ None
done-at deck s k done above within =
    none-is (wanted_step (run_of deck s k))
    (sym (ap (is_done deck s) (get_or-range_with_len 1 8 (k - 1) 0 (omega (arith, above, within)) ∙ omega (arith, above)))
    ∙ AllPass-from_list_all (is_done deck s) sessions done (k - 1) 0 (omega (arith, above, within)))

ended : (done : Bool) (asked : Step) → (if done then Some step.Shutdown else None) ≡ Some asked → done ≡ true
ended true asked e = refl
ended false asked e = absurd (cc)

-- where a session has left, the end leaves it so
end-left : (w : WorldState) (m : Mark) (k : ℕ) → HasLeft w.namespace k → HasLeft (world_step w who.End step.Shutdown m).next.namespace k
unfolding world_step namespace_step shutdown_step
end-left w mark.Clear k left = rest-left (world_step w who.End step.Shutdown mark.Clear).next.namespace k (shutdown-leaves-rest w who.End mark.Clear (λ e. cc))
end-left w (mark.Fault moved) k left =
    rest-left (world_step w who.End step.Shutdown (mark.Fault moved)).next.namespace k (shutdown-leaves-rest w who.End (mark.Fault moved) (λ e. cc))
end-left w (mark.NoMem moved) k left = left

pub ends-with : (done : Bool) (asked : Step) → (if done then Some step.Shutdown else None) ≡ Some asked → step.Shutdown ≡ asked
ends-with true asked e = same-some step.Shutdown asked e
ends-with false asked e = absurd (cc)

-- where it is claimed of a session, its step that gives up is answered Done
abbrev IsGiven : (ℕ → Bool) → RunState → Who → Step → Mark → Type 0
IsGiven claims s asker asked m =
    (k : ℕ) → claims k ≡ true → asker ≡ who.Session k → gives_up asked ≡ true → (world_step s.world asker asked m).reply ≡ reply.Done

module _ (claims : ℕ → Bool) (deck : Deck) (s : RunState) (all : AllAskOn claims deck s) where
  asker-keeps : (asker : Who) (m : Mark) (asked : Step) → IsThere asker → s.is_over ≡ false → entry_step deck s asker ≡ Some asked → FitsStep s.world asker asked m →
      IsGiven claims s asker asked m → IsConsistent (world_step s.world asker asked m).next → AllAskOn claims deck (state_after_step s asker (world_step s.world asker asked m))
  asker-keeps (who.Session j) m asked there unended e fits = λ given consistent.
      session-keeps claims deck s all j m asked there.0 there.1 unended e fits (λ claim. given j claim refl) consistent
  asker-keeps (who.Flush row) m asked there unended e fits = λ given consistent.
      let same : (world_step s.world (who.Flush row) asked m).next.namespace ≡ s.world.namespace =
      subst (λ step. (world_step s.world (who.Flush row) step m).next.namespace ≡ s.world.namespace) (same-some (step.Flush row) asked e) (flush-leaves s.world row m) in
      worker-keeps claims deck s all (state_after_step s (who.Flush row) (world_step s.world (who.Flush row) asked m)) unended refl same refl consistent
  asker-keeps (who.Reclaim row) m asked there unended e fits = λ given consistent.
      let same : (world_step s.world (who.Reclaim row) asked m).next.namespace ≡ s.world.namespace =
      subst (λ step. (world_step s.world (who.Reclaim row) step m).next.namespace ≡ s.world.namespace) (same-some (step.Reclaim row) asked e) (reclaim-leaves s.world row m) in
      worker-keeps claims deck s all (state_after_step s (who.Reclaim row) (world_step s.world (who.Reclaim row) asked m)) unended refl same refl consistent
  asker-keeps who.End m asked there unended e fits = λ given consistent.
      let done = ended (list_all (is_done deck s) sessions) asked e in
      record {
        consistent = consistent;
        listened = all.listened;
        going = λ o. absurd (cc);
        over = λ o k l u. done-at deck s k done l u;
        left = λ o k l u claim.
            subst (λ x. HasLeft (world_step s.world who.End x m).next.namespace k) (ends-with (list_all (is_done deck s) sessions) asked e)
            (end-left s.world m k
            (stands-left claims deck s.world.namespace (heard_by s k) k l (all.going unended k l u) claim (done-at deck s k done l u)));
      }

numbered : (asker : Who) → IsThere asker → HasNumber asker
numbered (who.Session k) there = there.0
numbered (who.Flush row) there = tt
numbered (who.Reclaim row) there = tt
numbered who.End there = tt

-- what is claimed is given up from here on
abbrev AreClaimed : (ℕ → Bool) → Deck → RunState → List Entry → Type 0
AreClaimed claims deck s entries = (k : ℕ) → claims k ≡ true → AreGivenUp k deck s entries

module _ (claims : ℕ → Bool) (deck : Deck) where
  entry-keeps : (s next : RunState) (entry : Entry) (entries : List Entry) → IsThere entry.who → AreClaimed claims deck s (entry ∷ entries) → AllAskOn claims deck s →
      IsTaken deck s next entry → take_entry deck s entry ≡ Some next → AllAskOn claims deck next × AreClaimed claims deck next entries
  entry-keeps s next entry entries there along all taken f =
      let consistent : IsConsistent (world_step s.world entry.who taken.step entry.mark).next =
      subst (λ t. IsConsistent t.world) (sym taken.leads) (entry-consistent deck s next entry (numbered entry.who there) all.consistent taken) in
      let given : IsGiven claims s entry.who taken.step entry.mark = λ k claim is. (along k claim).0 is taken.step taken.asked in (
        subst (AllAskOn claims deck) taken.leads (asker-keeps claims deck s all entry.who entry.mark taken.step there taken.going taken.asked taken.fits given consistent),
        λ k claim. (along k claim).1 next f,
      )

  -- what a session wants it may ask, and what the worker does
  may-ask-now : (s : RunState) (asker : Who) (asked : Step) → AllAskOn claims deck s → IsThere asker → is_end asker ≡ false → entry_step deck s asker ≡ Some asked → MayAsk s.world asker asked
  unfolding may_ask
  may-ask-now s (who.Session k) asked all there last e = by s.is_over refl
    where
      by : (over : Bool) → s.is_over ≡ over → MayAsk s.world (who.Session k) asked
      by true o = let none = all.over o k there.0 there.1 in let no : None ≡ Some asked = sym none ∙ e in absurd (cc)
      by false o =
          let stands = all.going o k there.0 there.1 in
          may-ask-same s.world.namespace k asked
          ∙ asks-now deck k (own_by stands.whole s.world.namespace k) (heard_by s k) asked stands.asks e
  may-ask-now s (who.Flush row) asked all there last e = subst (MayAsk s.world (who.Flush row)) (same-some (step.Flush row) asked e) (number-itself row)
  may-ask-now s (who.Reclaim row) asked all there last e = subst (MayAsk s.world (who.Reclaim row)) (same-some (step.Reclaim row) asked e) (number-itself row)
  may-ask-now s who.End asked all there last e = absurd (cc)

  -- a session that is done has left
  left-now : (s : RunState) (k : ℕ) → AllAskOn claims deck s → 0 < k → k ≤ 8 → claims k ≡ true → wanted_step (run_of deck s k) ≡ None → HasLeft s.world.namespace k
  left-now s k all above within claim none = by s.is_over refl
    where
      by : (over : Bool) → s.is_over ≡ over → HasLeft s.world.namespace k
      by true o = all.left o k above within claim
      by false o = stands-left claims deck s.world.namespace (heard_by s k) k above (all.going o k above within) claim none

-- where each session asks its own, by its replies alone
module _ (own : (k : ℕ) (lines : List (List ℕ)) (whole : Bool) (size : ℕ) (replies : List Reply) → AsksItsOwn k replies (nothing_held whole size) (λ more. session_run lines more)) where
  opening-asks : (claims : ℕ → Bool) (deck : Deck) (describe : Describe) → AllAskOn claims deck (opening_state deck describe)
  unfolding opening_world
  opening-asks claims deck describe = record {
    consistent = opened-consistent deck describe;
    listened = length-replicate {A = List Reply} 8 [];
    going = λ o k l u.
        let n = opening_namespace (map rom_image deck.roms) describe in
        let start : AsksOn deck k (nothing_held true 32) [] = λ later. own k (session_lines deck k) true 32 later in
        let told = held-told (nothing_held true 32) (held_by n k) (folder_of n k) (opening-held (map rom_image deck.roms) describe k l u) (opening-root (map rom_image deck.roms) describe k l u) in
        record {
          whole = true;
          asks = subst (λ held. AsksOn deck k held (heard_by (opening_state deck describe) k)) (sym told)
              (subst (AsksOn deck k (nothing_held true 32)) (sym (get_or-replicate 8 (k - 1) [] [] (omega (arith, l, u)))) start);
          claimed = λ claim. refl;
        };
    over = λ o. absurd (cc);
    left = λ o. absurd (cc);
  }

  pub stands-after : (claims : ℕ → Bool) (deck : Deck) (describe : Describe) (schedule : List Entry) (s : RunState) → AllAre (λ entry. IsThere entry.who) schedule →
      AreClaimed claims deck (opening_state deck describe) schedule → state_after deck describe schedule ≡ Some s → AllAskOn claims deck s
  stands-after claims deck describe schedule s all along e =
      entries-keep-along deck (λ entry. IsThere entry.who) (AllAskOn claims deck) (AreClaimed claims deck) (entry-keeps claims deck)
      (opening_state deck describe) s schedule all along (opening-asks claims deck describe) e

  pub script-asks : ScriptStepsMayBeAsked
  script-asks deck describe schedule s asker asked all there = λ last e wanted.
      may-ask-now (λ k. false) deck s asker asked (stands-after (λ k. false) deck describe schedule s all (λ k claim. absurd (cc)) e) there last wanted

  pub sessions-leave : DoneSessionsHaveLeft
  sessions-leave deck describe schedule s k all above within e = λ given done.
      let stands = stands-after (λ other. other == k) deck describe schedule s all
      (λ other claim. subst (λ x. AreGivenUp x deck (opening_state deck describe) schedule) (sym (same-number other k claim)) given) e in
      left-now (λ other. other == k) deck s k stands above within (number-itself k) (none-is (wanted_step (run_of deck s k)) done)

  pub end-asks : ScriptEndMayBeAsked
  unfolding may_ask
  end-asks deck describe schedule s asked all e = λ given wanted.
      let stands = stands-after (λ k. true) deck describe schedule s all (λ k claim. given k) e in
      let done = ended (list_all (is_done deck s) sessions) asked wanted in
      let rest = left-rest s.world.namespace stands.consistent.references_bounded stands.consistent.sizes.working_directories
      (λ k l u. left-now (λ k. true) deck s k stands l u refl (done-at deck s k done l u)) in
      subst (MayAsk s.world who.End) (ends-with (list_all (is_done deck s) sessions) asked wanted) rest
