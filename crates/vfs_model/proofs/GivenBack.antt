-- What is left of a session's exit steps gives back references that the session has, each once.
use Rattle.std.proofs.Common.{◌≡◌, ◌≢◌, ◌⊎◌, inl, inr, ℕ, suc, ◌+◌, ◌-◌, ◌≤◌, Bool, true, false, ◌||◌, nat_lt, is_some, Option, Some, None, option_map, List, [], ◌∷◌, ◌++◌, slice_index_or, slice_set, if◌then◌else◌, refl, sym, ap, ◌∙◌, arith}
use Rattle.std.proofs.lemmas.Bool.Decides.{eqb_tells}
use Rattle.std.specs.List.{cons_option, filter_map, list_any}
use Rattle.std.specs.Prelude.{slice_get}
use Rattle.vfs_base.specs.Path.{AllAre, Path}
use Rattle.vfs_base.specs.declared.ids.FileId.{FileId}
use Rattle.vfs_base.specs.declared.ids.HoldId.{HoldId}
use Rattle.vfs_base.specs.declared.reply.Reply.{Reply}
use Rattle.vfs_base.specs.declared.reply.Reply.TheVariants as reply
use Rattle.vfs_base.specs.declared.step.Step.{Step}
use Rattle.vfs_base.specs.declared.step.Step.TheVariants as step
use Rattle.vfs_model.proofs.KnownFiles.{Knows, OfFile, OfMapping, Place, is-held, keeps_open, keeps_window, known_at, or-second, other-held}
use Rattle.vfs_model.proofs.LeavingSessions.{leaving}
use Rattle.vfs_model.specs.HeldFiles.{Held, file_held, gives_back, held_after}
use Rattle.vfs_model.specs.OpenFiles.{file_numbered, leads_to}
use Rattle.vfs_model.specs.Session.{close_step, exit_steps, files_to_close, home_steps, unmap_step}
use Rattle.vfs_model.specs.declared.shell_state.OpenFile.{OpenFile}
use Rattle.vfs_model.specs.declared.shell_state.OpenFiles.{OpenFiles}
use Rattle.vfs_model.specs.declared.shell_state.ShellState.{ShellState}
use Rattle.vfs_model.specs.declared.shell_state.Window.{Window}

-- the step gives up the reference of this number
abbrev GivesUp : Step → ℕ → Type 0
GivesUp (step.Close hold) number = hold.number ≡ number
GivesUp (step.Unmap hold) number = hold.number ≡ number
GivesUp _ number = ⊥

-- the two steps give up no reference both
abbrev IsApart : Step → Step → Type 0
IsApart asked other = (number : ℕ) → GivesUp asked number → GivesUp other number → ⊥

-- each of the steps gives back a reference that the session has, or goes back to `/`, and none gives back what another does
abbrev pub GiveBack : ℕ → List (Option FileId) → List Step → Type 0
GiveBack k files [] = Unit {0}
GiveBack k files (asked ∷ later) = (gives_back k files asked ≡ true) × AllAre (IsApart asked) later × GiveBack k files later

pub first-back : (k : ℕ) (files : List (Option FileId)) (steps : List Step) (asked : Step) → GiveBack k files steps → slice_get steps 0 ≡ Some asked →
    gives_back k files asked ≡ true
first-back k files [] asked back e = absurd (cc)
first-back k files (x ∷ steps) asked back e = let same : x ≡ asked = cc in ap (gives_back k files) (sym same) ∙ back.0

-- one step more

some-there : {X : Type 0} (found : Option X) → is_some found ≡ true → (x : X) × (found ≡ Some x)
some-there None h = absurd (cc)
some-there (Some x) h = (x, refl)

-- a reference that is given up leaves those that the other steps give back
module _ (k : ℕ) (files : List (Option FileId)) (gone : HoldId) (given : Step) (named : GivesUp given gone.number)
    (above : nat_lt 0 gone.number ≡ true) where
  still-held : (hold : HoldId) → hold.number ≢ gone.number → is_some (file_held files k hold) ≡ true →
      is_some (file_held (slice_set files (gone.number - 1) None) k hold) ≡ true
  still-held hold apart h =
      let there = some-there (file_held files k hold) h in
      ap is_some (other-held files k gone hold there.0 None above apart there.1)

  still-back : (asked : Step) → IsApart given asked → gives_back k files asked ≡ true → gives_back k (slice_set files (gone.number - 1) None) asked ≡ true
  still-back (step.Close hold) apart h = still-held hold (λ same. apart gone.number named same) h
  still-back (step.Unmap hold) apart h = still-held hold (λ same. apart gone.number named same) h
  still-back step.Home apart h = refl
  still-back _ apart h = absurd (cc)

  all-back : (later : List Step) → AllAre (IsApart given) later → GiveBack k files later → GiveBack k (slice_set files (gone.number - 1) None) later
  all-back [] apart back = tt
  all-back (asked ∷ later) apart back = (still-back asked apart.0 back.0, back.1, all-back later apart.1 back.2)

held-above : (k : ℕ) (files : List (Option FileId)) (hold : HoldId) → is_some (file_held files k hold) ≡ true → nat_lt 0 hold.number ≡ true
held-above k files hold h = let there = some-there (file_held files k hold) h in (is-held files k hold there.0 there.1).1

module _ (k : ℕ) (held : Held) (later : List Step) where
  closed-back : (hold : HoldId) (answer : Reply) → GiveBack k held.files (step.Close hold ∷ later) → GiveBack k (held_after k held (step.Close hold) answer).files later
  closed-back hold reply.Done back = all-back k held.files hold (step.Close hold) refl (held-above k held.files hold back.0) later back.1 back.2
  closed-back hold _ back = back.2

  unmapped-back : (hold : HoldId) (answer : Reply) → GiveBack k held.files (step.Unmap hold ∷ later) → GiveBack k (held_after k held (step.Unmap hold) answer).files later
  unmapped-back hold reply.Done back = all-back k held.files hold (step.Unmap hold) refl (held-above k held.files hold back.0) later back.1 back.2
  unmapped-back hold _ back = back.2

  homed-back : (answer : Reply) → GiveBack k held.files (step.Home ∷ later) → GiveBack k (held_after k held step.Home answer).files later
  homed-back reply.Done back = back.2
  homed-back _ back = back.2

  -- whatever it is answered, the steps behind it give back what the session has
  pub step-back : (asked : Step) (answer : Reply) → GiveBack k held.files (asked ∷ later) → GiveBack k (held_after k held asked answer).files later
  step-back (step.Close hold) answer back = closed-back hold answer back
  step-back (step.Unmap hold) answer back = unmapped-back hold answer back
  step-back step.Home answer back = homed-back answer back
  step-back _ answer back = let none = back.0 in absurd (cc)

-- the exit steps give back what is known, each from a place of its own

all-both : (P : Step → Type 0) (xs ys : List Step) → AllAre P xs → AllAre P ys → AllAre P (xs ++ ys)
all-both P [] ys p q = q
all-both P (x ∷ xs) ys p q = (p.0, all-both P xs ys p.1 q)

-- a mapping of this number, or of one behind it
abbrev IsMappingFrom : ℕ → Place → Type 0
IsMappingFrom from place = (n : ℕ) × (place ≡ OfMapping n) × (from ≤ n)

-- an open file that one of the descriptors leads to
abbrev IsFileOf : List (Option ℕ) → Place → Type 0
IsFileOf descriptors place = (n : ℕ) × (place ≡ OfFile n) × (list_any (leads_to n) descriptors ≡ true)

leads-itself : (number : ℕ) (later : List (Option ℕ)) → list_any (leads_to number) (Some number ∷ later) ≡ true
leads-itself number later = elim (eqb_tells number number) [
  | inl h ↦ ap (λ b. b || list_any (leads_to number) later) h.0
  | inr h ↦ absurd (h.1 refl)
]

module _ (k : ℕ) (files : List (Option FileId)) (place_of : ℕ → Place) where
  -- what the step gives up has such a place
  abbrev ComesFrom : (Place → Type 0) → Step → Type 0
  ComesFrom Q asked = (number : ℕ) → GivesUp asked number → Q (place_of number)

  all-from : (P Q : Place → Type 0) → ((place : Place) → P place → Q place) → (steps : List Step) → AllAre (ComesFrom P) steps → AllAre (ComesFrom Q) steps
  all-from P Q more [] p = tt
  all-from P Q more (asked ∷ later) p = (λ number given. more (place_of number) (p.0 number given), all-from P Q more later p.1)

  -- the steps give back what the session has, each from a place of its own
  record AreGiven (Q : Place → Type 0) (steps : List Step) : Type 0 where
    back : GiveBack k files steps
    from : AllAre (ComesFrom Q) steps

  -- a reference that the session has, from this place
  record IsAt (place : Place) (hold : HoldId) : Type 0 where
    held : is_some (file_held files k hold) ≡ true
    at : place_of hold.number ≡ place

  -- what comes from other places is another reference
  module _ (P Q : Place → Type 0) (differ : (place : Place) → P place → Q place → ⊥) where
    all-apart : (asked : Step) (later : List Step) → ComesFrom P asked → AllAre (ComesFrom Q) later → AllAre (IsApart asked) later
    all-apart asked [] p q = tt
    all-apart asked (other ∷ later) p q = (λ number given again. differ (place_of number) (p number given) (q.0 number again), all-apart asked later p q.1)

    both-back : (xs ys : List Step) → AllAre (ComesFrom P) xs → AllAre (ComesFrom Q) ys → GiveBack k files xs → GiveBack k files ys → GiveBack k files (xs ++ ys)
    both-back [] ys p q h g = g
    both-back (asked ∷ xs) ys p q h g =
        (h.0, all-both (IsApart asked) xs ys h.1 (all-apart asked ys p.0 q), both-back xs ys p.1 q h.2 g)

    both-given : (xs ys : List Step) → AreGiven P xs → AreGiven Q ys → AreGiven (λ place. P place ⊎ Q place) (xs ++ ys)
    both-given xs ys p q = record {
      back = both-back xs ys p.from q.from p.back q.back;
      from = all-both (ComesFrom (λ place. P place ⊎ Q place)) xs ys
          (all-from P (λ place. P place ⊎ Q place) (λ place h. inl h) xs p.from)
          (all-from Q (λ place. P place ⊎ Q place) (λ place h. inr h) ys q.from);
    }

  -- mappings

  abbrev AreMapped : ℕ → List (Option Window) → Type 0
  AreMapped from mappings = (place : ℕ) (window : Window) → slice_index_or mappings place None ≡ Some window → IsAt (OfMapping (from + place)) window.hold

  mapped-behind : (from : ℕ) (first : Option Window) (mappings : List (Option Window)) → AreMapped from (first ∷ mappings) → AreMapped (suc from) mappings
  mapped-behind from first mappings known = λ place window e.
      let is = known (suc place) window e in
      record { held = is.held; at = is.at ∙ ap OfMapping (omega arith) }

  unmaps-behind : (from : ℕ) (later : List Step) → AreGiven (IsMappingFrom (suc from)) later → AreGiven (IsMappingFrom from) later
  unmaps-behind from later given = record {
    back = given.back;
    from = all-from (IsMappingFrom (suc from)) (IsMappingFrom from) (λ place is. (is.0, is.1, omega (arith, is.2))) later given.from;
  }

  unmap-given : (from : ℕ) (window : Window) (later : List Step) → IsAt (OfMapping from) window.hold → AreGiven (IsMappingFrom (suc from)) later →
      AreGiven (IsMappingFrom from) (step.Unmap window.hold ∷ later)
  unmap-given from window later is given = record {
    back = (is.held, all-apart (λ place. place ≡ OfMapping from) (IsMappingFrom (suc from)) differ (step.Unmap window.hold) later here given.from, given.back);
    from = (λ number e. (from, here number e, omega arith), (unmaps-behind from later given).from);
  }
    where
      here : (number : ℕ) → window.hold.number ≡ number → place_of number ≡ OfMapping from
      here number e = ap place_of (sym e) ∙ is.at

      differ : (place : Place) → place ≡ OfMapping from → IsMappingFrom (suc from) place → ⊥
      differ place now behind =
          let same : OfMapping from ≡ OfMapping behind.0 = sym now ∙ behind.1 in
          let number : from ≡ behind.0 = cc in
          let l = behind.2 in
          omega (arith, number, l)

  unmaps-given : (from : ℕ) (mappings : List (Option Window)) → AreMapped from mappings → AreGiven (IsMappingFrom from) (filter_map unmap_step mappings)
  unmaps-given from [] known = record { back = tt; from = tt }
  unmaps-given from (None ∷ mappings) known =
      unmaps-behind from (filter_map unmap_step mappings) (unmaps-given (suc from) mappings (mapped-behind from None mappings known))
  unmaps-given from (Some window ∷ mappings) known =
      let first = known 0 window refl in
      unmap-given from window (filter_map unmap_step mappings) (record { held = first.held; at = first.at ∙ ap OfMapping (omega arith) })
      (unmaps-given (suc from) mappings (mapped-behind from (Some window) mappings known))

  -- open files

  closes-behind : (descriptors : List (Option ℕ)) (first : Option ℕ) (later : List Step) → AreGiven (IsFileOf descriptors) later → AreGiven (IsFileOf (first ∷ descriptors)) later
  closes-behind descriptors first later given = record {
    back = given.back;
    from = all-from (IsFileOf descriptors) (IsFileOf (first ∷ descriptors))
        (λ place is. (is.0, is.1, or-second (leads_to is.0 first) (list_any (leads_to is.0) descriptors) is.2)) later given.from;
  }

  close-given : (number : ℕ) (behind : List (Option ℕ)) (found : Option OpenFile) (later : List Step) →
      ((file : OpenFile) → found ≡ Some file → IsAt (OfFile number) file.hold) → list_any (leads_to number) behind ≡ false →
      AreGiven (IsFileOf behind) later → AreGiven (IsFileOf (Some number ∷ behind)) (cons_option (option_map (λ file. step.Close file.hold) found) later)
  close-given number behind None later known last given = closes-behind behind (Some number) later given
  close-given number behind (Some file) later known last given = record {
    back = ((known file refl).held, all-apart (λ place. place ≡ OfFile number) (IsFileOf behind) differ (step.Close file.hold) later here given.from, given.back);
    from = (λ n e. (number, here n e, leads-itself number behind), (closes-behind behind (Some number) later given).from);
  }
    where
      here : (n : ℕ) → file.hold.number ≡ n → place_of n ≡ OfFile number
      here n e = ap place_of (sym e) ∙ (known file refl).at

      differ : (place : Place) → place ≡ OfFile number → IsFileOf behind place → ⊥
      differ place now is =
          let same : OfFile number ≡ OfFile is.0 = sym now ∙ is.1 in
          let one : number ≡ is.0 = cc in
          let clash : true ≡ false = sym is.2 ∙ ap (λ n. list_any (leads_to n) behind) (sym one) ∙ last in
          cc

  abbrev AreOpen : OpenFiles → Type 0
  AreOpen open_files = (number : ℕ) (file : OpenFile) → file_numbered open_files number ≡ Some file → IsAt (OfFile number) file.hold

  module _ (open_files : OpenFiles) (known : AreOpen open_files) where
    closed-by : (number : ℕ) (later : List (Option ℕ)) (behind : Bool) → list_any (leads_to number) later ≡ behind →
        AreGiven (IsFileOf later) (filter_map (close_step open_files) (files_to_close later)) →
        AreGiven (IsFileOf (Some number ∷ later)) (filter_map (close_step open_files) (if behind then files_to_close later else number ∷ files_to_close later))
    closed-by number later true e given = closes-behind later (Some number) (filter_map (close_step open_files) (files_to_close later)) given
    closed-by number later false e given =
        close-given number later (file_numbered open_files number) (filter_map (close_step open_files) (files_to_close later)) (known number) e given

    closes-given : (descriptors : List (Option ℕ)) → AreGiven (IsFileOf descriptors) (filter_map (close_step open_files) (files_to_close descriptors))
    closes-given [] = record { back = tt; from = tt }
    closes-given (None ∷ later) = closes-behind later None (filter_map (close_step open_files) (files_to_close later)) (closes-given later)
    closes-given (Some number ∷ later) = closed-by number later (list_any (leads_to number) later) refl (closes-given later)

  homes-given : (shown : Path) → AreGiven (λ place. ⊥) (home_steps shown)
  homes-given [] = record { back = tt; from = tt }
  homes-given (name ∷ names) = record { back = (refl, tt, tt); from = (λ number e. e, tt) }

-- the exit steps of a session whose lines are done
module _ (k : ℕ) (held : Held) (state : ShellState) (knows : Knows k held state None None) where
  mapped : AreMapped k held.files knows.are.place_of 0 state.mappings
  mapped place window e =
      let there : known_at state None None (OfMapping place) ≡ Some (keeps_window window) = ap (option_map keeps_window) e in
      record {
        held = ap is_some (knows.are.kept (OfMapping place) (keeps_window window) there);
        at = knows.are.placed (OfMapping place) (keeps_window window) there ∙ ap OfMapping (omega arith);
      }

  opened : AreOpen k held.files knows.are.place_of state.open_files
  opened number file e =
      let there : known_at state None None (OfFile number) ≡ Some (keeps_open file) = ap (option_map keeps_open) e in
      record {
        held = ap is_some (knows.are.kept (OfFile number) (keeps_open file) there);
        at = knows.are.placed (OfFile number) (keeps_open file) there;
      }

  pub exit-back : GiveBack k held.files (exit_steps (leaving state []))
  exit-back =
      let unmaps : List Step = filter_map unmap_step state.mappings in
      let closes : List Step = filter_map (close_step state.open_files) (files_to_close state.open_files.descriptors) in
      let place_of = knows.are.place_of in
      let mappings = unmaps-given k held.files place_of 0 state.mappings mapped in
      let open_files = closes-given k held.files place_of state.open_files opened state.open_files.descriptors in
      let references = both-given k held.files place_of (IsMappingFrom 0) (IsFileOf state.open_files.descriptors)
      (λ place one other. let clash : OfMapping one.0 ≡ OfFile other.0 = sym one.1 ∙ other.1 in cc) unmaps closes mappings open_files in
      (both-given k held.files place_of (λ place. IsMappingFrom 0 place ⊎ IsFileOf state.open_files.descriptors place) (λ place. ⊥)
      (λ place some none. none) (unmaps ++ closes) (home_steps state.shown) references (homes-given k held.files place_of state.shown)).back
