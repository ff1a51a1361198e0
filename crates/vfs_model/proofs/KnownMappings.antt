-- A session knows its references where they were as its mappings change, or where they are now.
use Rattle.std.proofs.Common.{◌≡◌, ◌≢◌, ◌⊎◌, inl, inr, ℕ, ◌+◌, ◌-◌, ◌==◌, ◌<◌, length, is_none, arith, Bool, true, false, not, ◌&&◌, nat_lt, Option, Some, None, option_map, Result, Ok, Err, List, slice_index_or, slice_set, if◌then◌else◌, refl, sym, ap, subst, ◌∙◌}
use Rattle.std.proofs.lemmas.Bool.Decides.{eqb_tells}
use Rattle.std.proofs.lemmas.List.{get_or-set_same, get_or-set_other}
use Rattle.std.specs.List.{list_any, position_or_len}
use Rattle.vfs_base.specs.declared.errno.Errno.{Errno}
use Rattle.vfs_base.specs.declared.errno.Errno.TheVariants as errno
use Rattle.vfs_model.proofs.FreePlaces.{free-lt, free-none, not-full}
use Rattle.vfs_model.proofs.KnownFiles.{Keeper, Knows, OfFile, OfFirst, OfMapping, OfSecond, Place, keeps_window, known-kept, known_at, moved-kept}
use Rattle.vfs_model.proofs.KnownOpenFiles.{map-some, no-more, set-cases, then-ok}
use Rattle.vfs_model.specs.Chain.{◌>>=◌, ◌>>◌, refuse◌when◌, wanted}
use Rattle.vfs_model.specs.HeldFiles.{Held, keeps_file}
use Rattle.vfs_model.specs.MappingCommands.{with_mappings}
use Rattle.vfs_model.specs.Mappings.{FileOffset, NewMapping, TakenMapping, add_mapping, check_mapping, has_all_mappings, least_free_mapping, mapping, remove_mapping, with_mapping}
use Rattle.vfs_model.specs.declared.shell_state.ShellState.{ShellState}
use Rattle.vfs_model.specs.declared.shell_state.Window.{Window}

ok-same : {X : Type 0} (a b : X) → (let found : Result X Errno = Ok a in found ≡ Ok b) → a ≡ b
ok-same a b e = cc

-- where a mapping of a number stands
mapping-place : (mappings : List (Option Window)) (number : ℕ) (none : Bool) (window : Window) →
    wanted errno.EINVAL (if none then None else slice_index_or mappings (number - 1) None) ≡ Ok window → slice_index_or mappings (number - 1) None ≡ Some window
mapping-place mappings number true window e = absurd (cc)
mapping-place mappings number false window e = wanted-some (slice_index_or mappings (number - 1) None) e
  where
    wanted-some : (found : Option Window) → wanted errno.EINVAL found ≡ Ok window → found ≡ Some window
    wanted-some None e = absurd (cc)
    wanted-some (Some x) e = cc

pub mapping-there : (mappings : List (Option Window)) (number : ℕ) (window : Window) → mapping mappings number ≡ Ok window →
    slice_index_or mappings (number - 1) None ≡ Some window
mapping-there mappings number window e = mapping-place mappings number (number == 0) window e

pub mapping-kept : (k : ℕ) (held : Held) (state : ShellState) (first second : Option Keeper) (number : ℕ) (window : Window) →
    Knows k held state first second → mapping state.mappings number ≡ Ok window → list_any (keeps_file window.file) held.files ≡ true
mapping-kept k held state first second number window knows e =
    known-kept k held (known_at state first second) (OfMapping (number - 1)) (keeps_window window) knows.are
    (ap (option_map keeps_window) (mapping-there state.mappings number window e))

-- a new mapping's reference was the command's
added-mapping : (k : ℕ) (held : Held) (state : ShellState) (window : Window) (n : ℕ) (after : List (Option Window)) →
    after ≡ slice_set state.mappings n (Some window) → n < length state.mappings → slice_index_or state.mappings n None ≡ None →
    Knows k held state (Some (keeps_window window)) None → Knows k held (with_mappings after state) None None
added-mapping k held state window n after set small free = λ knows. record {
  are = moved-kept k held (known_at state (Some (keeps_window window)) None) (known_at (with_mappings after state) None None) OfFirst (OfMapping n)
      (keeps_window window) knows.are refl change arrives stays;
  sound = knows.sound;
  shown = knows.shown;
}
  where
    change : (place : Place) (one : Keeper) → known_at (with_mappings after state) None None place ≡ Some one →
        ((place ≡ OfMapping n) × (one ≡ keeps_window window)) ⊎ ((place ≢ OfFirst) × (known_at state (Some (keeps_window window)) None place ≡ Some one))
    change (OfFile number) one e = inr (λ same. cc, e)
    change (OfMapping place) one e =
        let found = map-some keeps_window (slice_index_or after place None) one e in
        let at : slice_index_or (slice_set state.mappings n (Some window)) place None ≡ Some found.0 = ap (λ xs. slice_index_or xs place None) (sym set) ∙ found.1 in
        elim (set-cases state.mappings n place (Some window) found.0 at) [
          | inl h ↦ let is : window ≡ found.0 = cc in inl (ap OfMapping h.0, found.2 ∙ ap keeps_window (sym is))
          | inr h ↦ inr (λ same. cc, ap (option_map keeps_window) h.1 ∙ ap Some (sym found.2))
        ]
    change OfFirst one e = absurd (cc)
    change OfSecond one e = absurd (cc)

    arrives : option_map keeps_window (slice_index_or after n None) ≡ Some (keeps_window window)
    arrives =
        ap (λ xs. option_map keeps_window (slice_index_or xs n None)) set
        ∙ ap (option_map keeps_window) (get_or-set_same state.mappings n (Some window) None small)

    stays : (place : Place) (one : Keeper) → known_at state (Some (keeps_window window)) None place ≡ Some one →
        (place ≡ OfFirst) ⊎ (known_at (with_mappings after state) None None place ≡ Some one)
    stays (OfFile number) one e = inr e
    stays (OfMapping place) one e =
        let found = map-some keeps_window (slice_index_or state.mappings place None) one e in
        elim (eqb_tells place n) [
          | inl h ↦ absurd (no-more (slice_index_or state.mappings place None) found.0 found.1 (ap (λ p. slice_index_or state.mappings p None) h.1 ∙ free))
          | inr h ↦ inr (ap (λ xs. option_map keeps_window (slice_index_or xs place None)) set
              ∙ ap (option_map keeps_window) (get_or-set_other state.mappings n place (Some window) None h.1) ∙ e)
        ]
    stays OfFirst one e = inl refl
    stays OfSecond one e = absurd (cc)

-- a mapping is added exactly where one is free
record AddsMapping (mappings : List (Option Window)) (window : Window) (new : NewMapping) : Type 0 where
  set : new.mappings ≡ slice_set mappings (position_or_len is_none mappings) (Some window)
  room : has_all_mappings mappings ≡ false

add-of : (mappings : List (Option Window)) (window : Window) (new : NewMapping) (full : Bool) → has_all_mappings mappings ≡ full →
    ((refuse errno.EMFILE when full) >> Ok (let m : NewMapping = record { number = least_free_mapping mappings; mappings = with_mapping mappings (least_free_mapping mappings) (Some window) } in m)) ≡ Ok new →
    AddsMapping mappings window new
add-of mappings window new true e r = absurd (cc)
add-of mappings window new false e r =
    let m : NewMapping = record { number = least_free_mapping mappings; mappings = with_mapping mappings (least_free_mapping mappings) (Some window) } in
    record {
      set = ap (λ x. x.mappings) (sym (ok-same m new r)) ∙ ap (λ place. slice_set mappings place (Some window)) (omega arith);
      room = e;
    }

adds-mapping : (mappings : List (Option Window)) (window : Window) (new : NewMapping) → add_mapping mappings window ≡ Ok new → AddsMapping mappings window new
unfolding add_mapping
adds-mapping mappings window new r = add-of mappings window new (has_all_mappings mappings) refl r

pub map-known : (k : ℕ) (held : Held) (state : ShellState) (window : Window) (new : NewMapping) →
    add_mapping state.mappings window ≡ Ok new → Knows k held state (Some (keeps_window window)) None → Knows k held (with_mappings new.mappings state) None None
map-known k held state window new r knows =
    let adds = adds-mapping state.mappings window new r in
    added-mapping k held state window (position_or_len is_none state.mappings) new.mappings adds.set
    (free-lt state.mappings (not-full (list_any is_none state.mappings) adds.room)) (free-none state.mappings) knows

-- where a mapping is free, none is refused
pub map-passes : (mappings : List (Option Window)) (window : Window) (fault : Errno) → has_all_mappings mappings ≡ false → add_mapping mappings window ≡ Err fault → ⊥
unfolding add_mapping
map-passes mappings window fault room r = by (has_all_mappings mappings) room r
  where
    by : (full : Bool) → full ≡ false →
        ((refuse errno.EMFILE when full) >> Ok (let m : NewMapping = record { number = least_free_mapping mappings; mappings = with_mapping mappings (least_free_mapping mappings) (Some window) } in m)) ≡ Err fault → ⊥
    by true e r = cc
    by false e r = cc

-- a mapping that was taken out: where it stood, and what is left
record TakesOne (mappings : List (Option Window)) (number : ℕ) (taken : TakenMapping) : Type 0 where
  there : mapping mappings number ≡ Ok taken.window
  left : taken.mappings ≡ slice_set mappings (number - 1) None

remove-of : (mappings : List (Option Window)) (number : ℕ) (taken : TakenMapping) (found : Result Window Errno) → mapping mappings number ≡ found →
    (found >>= λ window. Ok (let t : TakenMapping = record { window = window; mappings = with_mapping mappings number None } in t)) ≡ Ok taken →
    TakesOne mappings number taken
remove-of mappings number taken (Err errno) e r = absurd (cc)
remove-of mappings number taken (Ok window) e r =
    let t : TakenMapping = record { window = window; mappings = with_mapping mappings number None } in
    let same : t ≡ taken = ok-same t taken r in
    record { there = e ∙ ap (λ x. Ok x.window) same; left = ap (λ x. x.mappings) (sym same) }

taken-one : (k : ℕ) (held : Held) (state : ShellState) (number : ℕ) (taken : TakenMapping) → TakesOne state.mappings number taken →
    Knows k held state None None → Knows k held (with_mappings taken.mappings state) (Some (keeps_window taken.window)) None
taken-one k held state number taken takes knows = record {
  are = moved-kept k held (known_at state None None) (known_at (with_mappings taken.mappings state) (Some (keeps_window taken.window)) None) (OfMapping (number - 1)) OfFirst
      (keeps_window taken.window) knows.are (ap (option_map keeps_window) (mapping-there state.mappings number taken.window takes.there)) change refl stays;
  sound = knows.sound;
  shown = knows.shown;
}
  where
    change : (place : Place) (one : Keeper) → known_at (with_mappings taken.mappings state) (Some (keeps_window taken.window)) None place ≡ Some one →
        ((place ≡ OfFirst) × (one ≡ keeps_window taken.window)) ⊎ ((place ≢ OfMapping (number - 1)) × (known_at state None None place ≡ Some one))
    change (OfFile number) one e = inr (λ same. cc, e)
    change (OfMapping place) one e =
        let found = map-some keeps_window (slice_index_or taken.mappings place None) one e in
        let at : slice_index_or (slice_set state.mappings (number - 1) None) place None ≡ Some found.0 = ap (λ xs. slice_index_or xs place None) (sym takes.left) ∙ found.1 in
        elim (set-cases state.mappings (number - 1) place None found.0 at) [
          | inl h ↦ absurd (cc)
          | inr h ↦ inr (λ same. h.0 (cc), ap (option_map keeps_window) h.1 ∙ ap Some (sym found.2))
        ]
    change OfFirst one e = inl (refl, cc)
    change OfSecond one e = absurd (cc)

    stays : (place : Place) (one : Keeper) → known_at state None None place ≡ Some one →
        (place ≡ OfMapping (number - 1)) ⊎ (known_at (with_mappings taken.mappings state) (Some (keeps_window taken.window)) None place ≡ Some one)
    stays (OfFile number) one e = inr e
    stays (OfMapping place) one e = elim (eqb_tells place (number - 1)) [
      | inl h ↦ inl (ap OfMapping h.1)
      | inr h ↦ inr (ap (λ xs. option_map keeps_window (slice_index_or xs place None)) takes.left
          ∙ ap (option_map keeps_window) (get_or-set_other state.mappings (number - 1) place None None h.1) ∙ e)
    ]
    stays OfFirst one e = absurd (cc)
    stays OfSecond one e = absurd (cc)

pub remove-known : (k : ℕ) (held : Held) (state : ShellState) (number : ℕ) (taken : TakenMapping) →
    remove_mapping state.mappings number ≡ Ok taken → Knows k held state None None → Knows k held (with_mappings taken.mappings state) (Some (keeps_window taken.window)) None
unfolding remove_mapping
remove-known k held state number taken r knows =
    taken-one k held state number taken (remove-of state.mappings number taken (mapping state.mappings number) refl r) knows

check-of : (found : Result Window Errno) (number off len : ℕ) (is_write : Bool) (at : FileOffset) →
    (found >>= λ window. (refuse errno.EACCES when (is_write && not window.writes)) >> ((refuse errno.EFAULT when nat_lt window.len (off + len))
    >> Ok (let p : FileOffset = record { file = window.file; offset = window.off + off } in p))) ≡ Ok at →
    (window : Window) × (found ≡ Ok window) × (at.file ≡ window.file)
check-of (Err errno) number off len is_write at r = absurd (cc)
check-of (Ok window) number off len is_write at r =
    let p : FileOffset = record { file = window.file; offset = window.off + off } in
    let last = then-ok (refuse errno.EFAULT when nat_lt window.len (off + len)) (Ok p) at
    (then-ok (refuse errno.EACCES when (is_write && not window.writes)) ((refuse errno.EFAULT when nat_lt window.len (off + len)) >> Ok p) at r) in
    (window, refl, ap (λ x. x.file) (sym (ok-same p at last)))

-- a part of a mapping may be read and written
pub check-kept : (k : ℕ) (held : Held) (state : ShellState) (number off len : ℕ) (is_write : Bool) (at : FileOffset) →
    Knows k held state None None → check_mapping state.mappings number off len is_write ≡ Ok at → list_any (keeps_file at.file) held.files ≡ true
unfolding check_mapping
check-kept k held state number off len is_write at knows = λ r.
    let found = check-of (mapping state.mappings number) number off len is_write at r in
    subst (λ file. list_any (keeps_file file) held.files ≡ true) (sym found.2) (mapping-kept k held state None None number found.0 knows found.1)
