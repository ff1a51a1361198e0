-- The references that a session knows of: each keeps its file, and none is known in two places.
use Rattle.std.proofs.Common.{◌≡◌, ◌≢◌, ◌⊎◌, inl, inr, ℕ, zero, suc, ◌-◌, ◌==◌, ◌<◌, Bool, true, false, ◌&&◌, ◌||◌, nat_lt, is_some, Option, Some, None, option_map, List, [], ◌∷◌, slice_index_or, slice_set, if◌then◌else◌, refl, sym, ap, subst, ◌∙◌, arith}
use Rattle.std.proofs.lemmas.Bool.Decides.{eqb_tells, nat_tests}
use Rattle.std.proofs.lemmas.List.{get_or-set_same, get_or-set_other}
use Rattle.std.specs.List.{list_any}
use Rattle.vfs_base.specs.Path.{Path}
use Rattle.vfs_base.specs.declared.ids.FileId.{FileId}
use Rattle.vfs_base.specs.declared.ids.HoldId.{HoldId}
use Rattle.vfs_model.specs.FolderCommands.{in_folder}
use Rattle.vfs_model.specs.HeldFiles.{Held, IsNew, file_held, held_after_move, keeps_file, lost, with_held}
use Rattle.vfs_base.specs.declared.reply.Reply.TheVariants as reply
use Rattle.vfs_model.specs.DescriptorLaws.{IsSound}
use Rattle.vfs_model.specs.OpenFiles.{file_numbered}
use Rattle.vfs_model.specs.declared.shell_state.OpenFile.{OpenFile}
use Rattle.vfs_model.specs.declared.shell_state.ShellState.{ShellState}
use Rattle.vfs_model.specs.declared.shell_state.Window.{Window}

-- a reference, and the file that it keeps
pub record Keeper : Type 0 where
  pub hold : HoldId
  pub file : FileId

-- where a session knows a reference from: an open file, a mapping, or one of two that a command has
pub data Place : Type 0 where
  OfFile : ℕ → Place
  OfMapping : ℕ → Place
  OfFirst : Place
  OfSecond : Place

abbrev pub keeps_open : OpenFile → Keeper
keeps_open file = record { hold = file.hold; file = file.file }

abbrev pub keeps_window : Window → Keeper
keeps_window window = record { hold = window.hold; file = window.file }

-- what is known at each place
abbrev pub known_at : ShellState → Option Keeper → Option Keeper → Place → Option Keeper
known_at state first second (OfFile number) = option_map keeps_open (file_numbered state.open_files number)
known_at state first second (OfMapping place) = option_map keeps_window (slice_index_or state.mappings place None)
known_at state first second OfFirst = first
known_at state first second OfSecond = second

-- a reference of this number is known
pub record IsKnown (known : Place → Option Keeper) (number : ℕ) : Type 0 where
  pub at : Place
  pub one : Keeper
  pub there : known at ≡ Some one
  pub numbered : one.hold.number ≡ number

-- each known reference keeps its file, and has one place; and where nothing was lost, each that keeps a file is known
pub record AreKept (k : ℕ) (held : Held) (known : Place → Option Keeper) : Type 0 where
  pub place_of : ℕ → Place
  pub kept : (place : Place) (one : Keeper) → known place ≡ Some one → file_held held.files k one.hold ≡ Some one.file
  pub placed : (place : Place) (one : Keeper) → known place ≡ Some one → place_of one.hold.number ≡ place
  pub each : held.whole ≡ true → (place : ℕ) → is_some (slice_index_or held.files place None) ≡ true → IsKnown known (suc place)

-- what a session knows, and the command at hand; its open files are sound, and its shell shows its working directory
pub record Knows (k : ℕ) (held : Held) (state : ShellState) (first second : Option Keeper) : Type 0 where
  pub are : AreKept k held (known_at state first second)
  pub sound : IsSound state.open_files
  pub shown : state.shown ≡ held.folder

pub fewer-kept : (k : ℕ) (held : Held) (known fewer : Place → Option Keeper) → AreKept k held known →
    ((place : Place) (one : Keeper) → fewer place ≡ Some one → known place ≡ Some one) →
    (held.whole ≡ true → (place : Place) (one : Keeper) → known place ≡ Some one → fewer place ≡ Some one) → AreKept k held fewer
fewer-kept k held known fewer kept less more = record {
  place_of = kept.place_of;
  kept = λ place one e. kept.kept place one (less place one e);
  placed = λ place one e. kept.placed place one (less place one e);
  each = λ whole place e.
      let is = kept.each whole place e in
      record { at = is.at; one = is.one; there = more whole is.at is.one is.there; numbered = is.numbered };
}

-- where a step that gives up was not answered Done, nothing is claimed of what is kept and not known
pub lost-kept : (k : ℕ) (held : Held) (known fewer : Place → Option Keeper) → AreKept k held known →
    ((place : Place) (one : Keeper) → fewer place ≡ Some one → known place ≡ Some one) → AreKept k (lost held) fewer
lost-kept k held known fewer kept less = record {
  place_of = kept.place_of;
  kept = λ place one e. kept.kept place one (less place one e);
  placed = λ place one e. kept.placed place one (less place one e);
  each = λ whole place e. absurd (cc);
}

-- a number at a place of its own, and the others as before
abbrev with_place_of : ℕ → Place → (ℕ → Place) → ℕ → Place
with_place_of number place place_of other = if other == number then place else place_of other

place-here : (number : ℕ) (place : Place) (place_of : ℕ → Place) → with_place_of number place place_of number ≡ place
place-here number place place_of = elim (eqb_tells number number) [
  | inl h ↦ ap (λ b. if b then place else place_of number) h.0
  | inr h ↦ absurd (h.1 refl)
]

place-there : (number other : ℕ) (place : Place) (place_of : ℕ → Place) → other ≢ number →
    with_place_of number place place_of other ≡ place_of other
place-there number other place place_of ne = elim (eqb_tells other number) [
  | inl h ↦ absurd (ne h.1)
  | inr h ↦ ap (λ b. if b then place else place_of other) h.0
]

same-keeper : (one other : Keeper) → Some one ≡ Some other → one ≡ other
same-keeper one other e = cc

-- a reference is known at another place now
pub moved-kept : (k : ℕ) (held : Held) (known after : Place → Option Keeper) (from to : Place) (moved : Keeper) →
    AreKept k held known → known from ≡ Some moved →
    ((place : Place) (one : Keeper) → after place ≡ Some one →
    ((place ≡ to) × (one ≡ moved)) ⊎ ((place ≢ from) × (known place ≡ Some one))) →
    after to ≡ Some moved → ((place : Place) (one : Keeper) → known place ≡ Some one → (place ≡ from) ⊎ (after place ≡ Some one)) →
    AreKept k held after
moved-kept k held known after from to moved kept = λ at change arrives stays. record {
  place_of = with_place_of moved.hold.number to kept.place_of;
  kept = λ place one e. elim (change place one e) [
    | inl h ↦ subst (λ x. file_held held.files k x.hold ≡ Some x.file) (sym h.1) (kept.kept from moved at)
    | inr h ↦ kept.kept place one h.1
  ];
  placed = λ place one e. elim (change place one e) [
    | inl h ↦ ap (λ x. with_place_of moved.hold.number to kept.place_of x.hold.number) h.1
        ∙ place-here moved.hold.number to kept.place_of ∙ sym h.0
    | inr h ↦
        let there = kept.placed from moved at in
        let here = kept.placed place one h.1 in
        let other : one.hold.number ≢ moved.hold.number = λ same. h.0 (sym here ∙ ap kept.place_of same ∙ there) in
        place-there moved.hold.number one.hold.number to kept.place_of other ∙ here
  ];
  each = λ whole place e.
      let is = kept.each whole place e in
      elim (stays is.at is.one is.there) [
        | inl h ↦
            let same : Some moved ≡ Some is.one = sym at ∙ ap known (sym h) ∙ is.there in
            record { at = to; one = moved; there = arrives; numbered = ap (λ found. found.hold.number) (same-keeper moved is.one same) ∙ is.numbered }
        | inr h ↦ record { at = is.at; one = is.one; there = h; numbered = is.numbered }
      ];
}

held-by : (held : List (Option FileId)) (k : ℕ) (hold : HoldId) (file : FileId) (own above : Bool) →
    (if own && above then slice_index_or held (hold.number - 1) None else None) ≡ Some file →
    (own ≡ true) × (above ≡ true) × (slice_index_or held (hold.number - 1) None ≡ Some file)
held-by held k hold file true true e = (refl, refl, e)
held-by held k hold file true false e = absurd (cc)
held-by held k hold file false above e = absurd (cc)

-- a reference that keeps a file: whose it is, and where it stands
pub is-held : (held : List (Option FileId)) (k : ℕ) (hold : HoldId) (file : FileId) → file_held held k hold ≡ Some file →
    ((hold.session == k) ≡ true) × (nat_lt 0 hold.number ≡ true) × (slice_index_or held (hold.number - 1) None ≡ Some file)
is-held held k hold file e = held-by held k hold file (hold.session == k) (nat_lt 0 hold.number) e

pub held-from : (held : List (Option FileId)) (k : ℕ) (hold : HoldId) (file : Option FileId) → (hold.session == k) ≡ true →
    nat_lt 0 hold.number ≡ true → slice_index_or held (hold.number - 1) None ≡ file → file_held held k hold ≡ file
held-from held k hold file own above e =
    ap (λ b. if b && nat_lt 0 hold.number then slice_index_or held (hold.number - 1) None else None) own
    ∙ ap (λ b. if b then slice_index_or held (hold.number - 1) None else None) above ∙ e

-- a write at another reference leaves what this one keeps
pub other-held : (held : List (Option FileId)) (k : ℕ) (hold other : HoldId) (file : FileId) (written : Option FileId) →
    nat_lt 0 hold.number ≡ true → other.number ≢ hold.number → file_held held k other ≡ Some file →
    file_held (slice_set held (hold.number - 1) written) k other ≡ Some file
other-held held k hold other file written above ne e =
    let is = is-held held k other file e in
    let apart : other.number - 1 ≢ hold.number - 1 =
    λ same. ne (let a : 0 < hold.number = grind (arith, nat_tests, above) in let b : 0 < other.number = grind (arith, nat_tests, is.1) in omega (arith, a, b, same)) in
    held-from (slice_set held (hold.number - 1) written) k other (Some file) is.0 is.1
    (get_or-set_other held (hold.number - 1) (other.number - 1) written None apart ∙ is.2)

above-zero : (number : ℕ) → 0 < number → nat_lt 0 number ≡ true
above-zero number l = grind (arith, nat_tests, l)

-- a new reference keeps its file from now on
pub added-kept : (k : ℕ) (held : Held) (known after : Place → Option Keeper) (to : Place) (new : Keeper) →
    AreKept k held known → IsNew k held.files new.hold →
    ((place : Place) (one : Keeper) → after place ≡ Some one → ((place ≡ to) × (one ≡ new)) ⊎ (known place ≡ Some one)) →
    after to ≡ Some new → ((place : Place) (one : Keeper) → known place ≡ Some one → after place ≡ Some one) →
    AreKept k (with_held new.hold (Some new.file) held) after
added-kept k held known after to new kept = λ fresh change arrives stays.
    let above = above-zero new.hold.number fresh.above in
    let session : (new.hold.session == k) ≡ true = elim (eqb_tells new.hold.session k) [ inl h ↦ h.0 | inr h ↦ absurd (h.1 fresh.session) ] in
    let here : file_held (slice_set held.files (new.hold.number - 1) (Some new.file)) k new.hold ≡ Some new.file =
    held-from (slice_set held.files (new.hold.number - 1) (Some new.file)) k new.hold (Some new.file) session above
    (get_or-set_same held.files (new.hold.number - 1) (Some new.file) None (let a = fresh.above in let b = fresh.below in omega (arith, a, b))) in
    let apart : (place : Place) (one : Keeper) → known place ≡ Some one → one.hold.number ≢ new.hold.number =
    λ place one e same.
    let stands = (is-held held.files k one.hold one.file (kept.kept place one e)).2 in
    let free : slice_index_or held.files (one.hold.number - 1) None ≡ None = ap (λ n. slice_index_or held.files (n - 1) None) same ∙ fresh.free in
    absurd (cc) in
    record {
      place_of = with_place_of new.hold.number to kept.place_of;
      kept = λ place one e. elim (change place one e) [
        | inl h ↦ subst (λ x. file_held (slice_set held.files (new.hold.number - 1) (Some new.file)) k x.hold ≡ Some x.file) (sym h.1) here
        | inr h ↦ other-held held.files k new.hold one.hold one.file (Some new.file) above (apart place one h) (kept.kept place one h)
      ];
      placed = λ place one e. elim (change place one e) [
        | inl h ↦ ap (λ x. with_place_of new.hold.number to kept.place_of x.hold.number) h.1
            ∙ place-here new.hold.number to kept.place_of ∙ sym h.0
        | inr h ↦ place-there new.hold.number one.hold.number to kept.place_of (apart place one h) ∙ kept.placed place one h
      ];
      each = λ whole place e. elim (eqb_tells place (new.hold.number - 1)) [
        | inl h ↦
            let number : new.hold.number ≡ suc place = let a = fresh.above in let b = h.1 in omega (arith, a, b) in
            record { at = to; one = new; there = arrives; numbered = number }
        | inr h ↦
            let before = ap is_some (sym (get_or-set_other held.files (new.hold.number - 1) place (Some new.file) None h.1)) ∙ e in
            let is = kept.each whole place before in
            record { at = is.at; one = is.one; there = stays is.at is.one is.there; numbered = is.numbered }
      ];
    }

-- what was taken out of a table is gone
pub default-there : {X : Type 0} (xs : List (Option X)) (place : ℕ) → slice_index_or (slice_set xs place None) place None ≡ None
default-there [] place = refl
default-there (x ∷ xs) zero = refl
default-there (x ∷ xs) (suc place) = default-there xs place

-- a reference that is given up is known nowhere any more
pub dropped-kept : (k : ℕ) (held : Held) (known after : Place → Option Keeper) (from : Place) (gone : Keeper) →
    AreKept k held known → known from ≡ Some gone →
    ((place : Place) (one : Keeper) → after place ≡ Some one → (place ≢ from) × (known place ≡ Some one)) →
    ((place : Place) (one : Keeper) → known place ≡ Some one → (place ≡ from) ⊎ (after place ≡ Some one)) →
    AreKept k (with_held gone.hold None held) after
dropped-kept k held known after from gone kept = λ at change stays.
    let above = (is-held held.files k gone.hold gone.file (kept.kept from gone at)).1 in
    let there = kept.placed from gone at in
    record {
      place_of = kept.place_of;
      kept = λ place one e.
          let h = change place one e in
          let other : one.hold.number ≢ gone.hold.number =
          λ same. h.0 (sym (kept.placed place one h.1) ∙ ap kept.place_of same ∙ there) in
          other-held held.files k gone.hold one.hold one.file None above other (kept.kept place one h.1);
      placed = λ place one e. kept.placed place one (change place one e).1;
      each = λ whole place e. elim (eqb_tells place (gone.hold.number - 1)) [
        | inl h ↦
            let none = ap is_some (ap (λ p. slice_index_or (slice_set held.files (gone.hold.number - 1) None) p None) h.1 ∙ default-there held.files (gone.hold.number - 1)) in
            absurd (cc)
        | inr h ↦
            let before = ap is_some (sym (get_or-set_other held.files (gone.hold.number - 1) place None None h.1)) ∙ e in
            let is = kept.each whole place before in
            elim (stays is.at is.one is.there) [
              | inl m ↦
                  let same : Some gone ≡ Some is.one = sym at ∙ ap known (sym m) ∙ is.there in
                  let number : gone.hold.number ≡ suc place = ap (λ found. found.hold.number) (same-keeper gone is.one same) ∙ is.numbered in
                  absurd (h.1 (omega (arith, number)))
              | inr m ↦ record { at = is.at; one = is.one; there = m; numbered = is.numbered }
            ]
      ];
    }

-- a file that a reference keeps is one of those that are kept
keeps-itself : (id : FileId) → keeps_file id (Some id) ≡ true
keeps-itself id =
    let row : (id.row == id.row) ≡ true = elim (eqb_tells id.row id.row) [ inl h ↦ h.0 | inr h ↦ absurd (h.1 refl) ] in
    let generation : (id.generation == id.generation) ≡ true =
    elim (eqb_tells id.generation id.generation) [ inl h ↦ h.0 | inr h ↦ absurd (h.1 refl) ] in
    ap (λ b. b && id.generation == id.generation) row ∙ generation

or-first : (a b : Bool) → a ≡ true → (a || b) ≡ true
or-first true b h = refl
or-first false b h = absurd (cc)

pub or-second : (a b : Bool) → b ≡ true → (a || b) ≡ true
or-second true b h = refl
or-second false b h = h

one-keeps : (held : List (Option FileId)) (place : ℕ) (id : FileId) → slice_index_or held place None ≡ Some id → list_any (keeps_file id) held ≡ true
one-keeps [] place id e = absurd (cc)
one-keeps (x ∷ held) zero id e = or-first (keeps_file id x) (list_any (keeps_file id) held) (ap (keeps_file id) e ∙ keeps-itself id)
one-keeps (x ∷ held) (suc place) id e = or-second (keeps_file id x) (list_any (keeps_file id) held) (one-keeps held place id e)

pub known-kept : (k : ℕ) (held : Held) (known : Place → Option Keeper) (place : Place) (one : Keeper) → AreKept k held known →
    known place ≡ Some one → list_any (keeps_file one.file) held.files ≡ true
known-kept k held known place one kept e =
    one-keeps held.files (one.hold.number - 1) one.file (is-held held.files k one.hold one.file (kept.kept place one e)).2

module _ (state : ShellState) (k : ℕ) (held : Held) where
  -- what a command had is known no more
  fewer : (first second : Option Keeper) (place : Place) (one : Keeper) → known_at state None None place ≡ Some one → known_at state first second place ≡ Some one
  fewer first second (OfFile number) one e = e
  fewer first second (OfMapping place) one e = e
  fewer first second OfFirst one e = absurd (cc)
  fewer first second OfSecond one e = absurd (cc)

  -- what a command had is forgotten, as it was lost
  pub forgets : (first second : Option Keeper) → Knows k held state first second → Knows k (lost held) state None None
  forgets first second knows = record {
    are = lost-kept k held (known_at state first second) (known_at state None None) knows.are (fewer first second);
    sound = knows.sound;
    shown = knows.shown;
  }

  -- the second reference of a command is forgotten, as it was lost
  pub forgets-second : (first second : Option Keeper) → Knows k held state first second → Knows k (lost held) state first None
  forgets-second first second knows = record {
    are = lost-kept k held (known_at state first second) (known_at state first None) knows.are still;
    sound = knows.sound;
    shown = knows.shown;
  }
    where
      still : (place : Place) (one : Keeper) → known_at state first None place ≡ Some one → known_at state first second place ≡ Some one
      still (OfFile number) one e = e
      still (OfMapping place) one e = e
      still OfFirst one e = e
      still OfSecond one e = absurd (cc)

  -- a command has a new reference
  pub first-opened : (new : Keeper) → Knows k held state None None → IsNew k held.files new.hold →
      Knows k (with_held new.hold (Some new.file) held) state (Some new) None
  first-opened new knows fresh = record {
    are = added-kept k held (known_at state None None) (known_at state (Some new) None) OfFirst new knows.are fresh still refl stays;
    sound = knows.sound;
    shown = knows.shown;
  }
    where
      still : (place : Place) (one : Keeper) → known_at state (Some new) None place ≡ Some one →
          ((place ≡ OfFirst) × (one ≡ new)) ⊎ (known_at state None None place ≡ Some one)
      still (OfFile number) one e = inr e
      still (OfMapping place) one e = inr e
      still OfFirst one e = inl (refl, cc)
      still OfSecond one e = absurd (cc)

      stays : (place : Place) (one : Keeper) → known_at state None None place ≡ Some one → known_at state (Some new) None place ≡ Some one
      stays (OfFile number) one e = e
      stays (OfMapping place) one e = e
      stays OfFirst one e = absurd (cc)
      stays OfSecond one e = absurd (cc)

  pub second-opened : (first : Option Keeper) (new : Keeper) → Knows k held state first None → IsNew k held.files new.hold →
      Knows k (with_held new.hold (Some new.file) held) state first (Some new)
  second-opened first new knows fresh = record {
    are = added-kept k held (known_at state first None) (known_at state first (Some new)) OfSecond new knows.are fresh still refl stays;
    sound = knows.sound;
    shown = knows.shown;
  }
    where
      still : (place : Place) (one : Keeper) → known_at state first (Some new) place ≡ Some one →
          ((place ≡ OfSecond) × (one ≡ new)) ⊎ (known_at state first None place ≡ Some one)
      still (OfFile number) one e = inr e
      still (OfMapping place) one e = inr e
      still OfFirst one e = inr e
      still OfSecond one e = inl (refl, cc)

      stays : (place : Place) (one : Keeper) → known_at state first None place ≡ Some one → known_at state first (Some new) place ≡ Some one
      stays (OfFile number) one e = e
      stays (OfMapping place) one e = e
      stays OfFirst one e = e
      stays OfSecond one e = absurd (cc)

  -- a reference of a command is given up
  pub first-closed : (second : Option Keeper) (gone : Keeper) → Knows k held state (Some gone) second →
      Knows k (with_held gone.hold None held) state None second
  first-closed second gone knows = record {
    are = dropped-kept k held (known_at state (Some gone) second) (known_at state None second) OfFirst gone knows.are refl still stays;
    sound = knows.sound;
    shown = knows.shown;
  }
    where
      still : (place : Place) (one : Keeper) → known_at state None second place ≡ Some one →
          (place ≢ OfFirst) × (known_at state (Some gone) second place ≡ Some one)
      still (OfFile number) one e = (λ same. cc, e)
      still (OfMapping place) one e = (λ same. cc, e)
      still OfFirst one e = absurd (cc)
      still OfSecond one e = (λ same. cc, e)

      stays : (place : Place) (one : Keeper) → known_at state (Some gone) second place ≡ Some one → (place ≡ OfFirst) ⊎ (known_at state None second place ≡ Some one)
      stays (OfFile number) one e = inr e
      stays (OfMapping place) one e = inr e
      stays OfFirst one e = inl refl
      stays OfSecond one e = inr e

  pub second-closed : (first : Option Keeper) (gone : Keeper) → Knows k held state first (Some gone) →
      Knows k (with_held gone.hold None held) state first None
  second-closed first gone knows = record {
    are = dropped-kept k held (known_at state first (Some gone)) (known_at state first None) OfSecond gone knows.are refl still stays;
    sound = knows.sound;
    shown = knows.shown;
  }
    where
      still : (place : Place) (one : Keeper) → known_at state first None place ≡ Some one →
          (place ≢ OfSecond) × (known_at state first (Some gone) place ≡ Some one)
      still (OfFile number) one e = (λ same. cc, e)
      still (OfMapping place) one e = (λ same. cc, e)
      still OfFirst one e = (λ same. cc, e)
      still OfSecond one e = absurd (cc)

      stays : (place : Place) (one : Keeper) → known_at state first (Some gone) place ≡ Some one → (place ≡ OfSecond) ⊎ (known_at state first None place ≡ Some one)
      stays (OfFile number) one e = inr e
      stays (OfMapping place) one e = inr e
      stays OfFirst one e = inr e
      stays OfSecond one e = inl refl

-- the session stands in another folder, which its shell shows
pub moved-known : (path : Path) (state : ShellState) (k : ℕ) (held : Held) (first second : Option Keeper) → Knows k held state first second →
    Knows k (held_after_move held (reply.At path)) (in_folder path state) first second
moved-known path state k held first second knows = record {
  are = record { place_of = knows.are.place_of; kept = kept; placed = placed; each = each };
  sound = knows.sound;
  shown = refl;
}
  where
    still : (place : Place) → known_at (in_folder path state) first second place ≡ known_at state first second place
    still (OfFile number) = refl
    still (OfMapping place) = refl
    still OfFirst = refl
    still OfSecond = refl

    kept : (place : Place) (one : Keeper) → known_at (in_folder path state) first second place ≡ Some one → file_held held.files k one.hold ≡ Some one.file
    kept place one e = knows.are.kept place one (sym (still place) ∙ e)

    placed : (place : Place) (one : Keeper) → known_at (in_folder path state) first second place ≡ Some one → knows.are.place_of one.hold.number ≡ place
    placed place one e = knows.are.placed place one (sym (still place) ∙ e)

    each : held.whole ≡ true → (place : ℕ) → is_some (slice_index_or held.files place None) ≡ true → IsKnown (known_at (in_folder path state) first second) (suc place)
    each whole place e =
        let is = knows.are.each whole place e in
        record { at = is.at; one = is.one; there = still is.at ∙ is.there; numbered = is.numbered }
