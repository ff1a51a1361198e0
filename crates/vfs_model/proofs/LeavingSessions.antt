-- What is left of a session's exit steps gives up all that the session has.
use Rattle.std.proofs.Common.{◌≡◌, ◌⊎◌, inl, inr, ℕ, suc, ◌-◌, true, false, ◌&&◌, Option, Some, None, is_some, option_map, List, [], ◌∷◌, ◌++◌, slice_index_or, slice_set, refl, sym, ap, ◌∙◌, arith}
use Rattle.std.proofs.lemmas.Bool.{and_parts}
use Rattle.std.proofs.lemmas.Bool.Decides.{eqb_tells}
use Rattle.std.proofs.lemmas.List.{get_or-set_other}
use Rattle.std.specs.List.{cons_option, filter_map, list_all}
use Rattle.vfs_base.specs.Path.{Path}
use Rattle.vfs_base.specs.declared.ids.FileId.{FileId}
use Rattle.vfs_base.specs.declared.ids.HoldId.{HoldId}
use Rattle.vfs_base.specs.declared.reply.Reply.{Reply}
use Rattle.vfs_base.specs.declared.reply.Reply.TheVariants as reply
use Rattle.vfs_base.specs.declared.step.Step.{Step}
use Rattle.vfs_base.specs.declared.step.Step.TheVariants as step
use Rattle.vfs_model.proofs.ExitLemmas.{gives-up-all}
use Rattle.vfs_model.proofs.KnownFiles.{Keeper, Knows, OfFile, OfFirst, OfMapping, OfSecond, Place, default-there, keeps_open, keeps_window, known_at}
use Rattle.vfs_model.proofs.KnownOpenFiles.{map-some}
use Rattle.vfs_model.specs.ExitLaws.{GivesUpAll, IsOneOf, gives_up}
use Rattle.vfs_model.specs.HeldFiles.{Held, IsEmpty, held_after}
use Rattle.vfs_model.specs.OpenFiles.{file_numbered}
use Rattle.vfs_model.specs.Session.{SessionRun, close_step, exit_steps, files_to_close, home_steps, unmap_step}
use Rattle.vfs_model.specs.declared.shell_state.OpenFile.{OpenFile}
use Rattle.vfs_model.specs.declared.shell_state.OpenFiles.{OpenFiles}
use Rattle.vfs_model.specs.declared.shell_state.ShellState.{ShellState}
use Rattle.vfs_model.specs.declared.shell_state.Window.{Window}

-- one of the steps gives up a reference of this number
record GivesNumber (steps : List Step) (number : ℕ) : Type 0 where
  hold : HoldId
  numbered : hold.number ≡ number
  given : IsOneOf (step.Close hold) steps ⊎ IsOneOf (step.Unmap hold) steps

-- the steps only give up, and where nothing was lost they give up all that is kept, and go back to `/`
pub record IsLeaving (held : Held) (steps : List Step) : Type 0 where
  only : list_all gives_up steps ≡ true
  gives : held.whole ≡ true → (place : ℕ) → is_some (slice_index_or held.files place None) ≡ true → GivesNumber steps (suc place)
  home : held.whole ≡ true → (held.folder ≡ []) ⊎ IsOneOf step.Home steps

-- where no step is left, nothing is kept

none-kept : (found : Option FileId) → (is_some found ≡ true → ⊥) → found ≡ None
none-kept None never = refl
none-kept (Some file) never = absurd (never refl)

gives-none : (number : ℕ) → GivesNumber [] number → ⊥
gives-none number gives = elim gives.given [ inl h ↦ h | inr h ↦ h ]

pub left-empty : (held : Held) → IsLeaving held [] → held.whole ≡ true → IsEmpty held
left-empty held leaving whole = record {
  files = λ place. none-kept (slice_index_or held.files place None) (λ e. gives-none (suc place) (leaving.gives whole place e));
  folder = elim (leaving.home whole) [ inl h ↦ h | inr h ↦ absurd h ];
}

-- one step more

same-close : (hold other : HoldId) → step.Close hold ≡ step.Close other → hold ≡ other
same-close hold other e = cc

same-unmap : (hold other : HoldId) → step.Unmap hold ≡ step.Unmap other → hold ≡ other
same-unmap hold other e = cc

-- a reference was given up that isn't of this number
module _ (later : List Step) (number : ℕ) where
  gives-behind : (asked : Step) (gives : GivesNumber (asked ∷ later) number) →
      (step.Close gives.hold ≡ asked → ⊥) → (step.Unmap gives.hold ≡ asked → ⊥) → GivesNumber later number
  gives-behind asked gives closed unmapped = record {
    hold = gives.hold;
    numbered = gives.numbered;
    given = elim gives.given [
      | inl h ↦ elim h [ inl e ↦ absurd (closed e) | inr e ↦ inl e ]
      | inr h ↦ elim h [ inl e ↦ absurd (unmapped e) | inr e ↦ inr e ]
    ];
  }

no-home : (asked : Step) (later : List Step) → (step.Home ≡ asked → ⊥) → IsOneOf step.Home (asked ∷ later) → IsOneOf step.Home later
no-home asked later other h = elim h [ inl e ↦ absurd (other e) | inr e ↦ e ]

other-place : (hold : HoldId) (place number : ℕ) → hold.number ≡ number → number ≡ suc place → place ≡ hold.number - 1
other-place hold place number e f = omega (arith, e, f)

-- what is kept at another place was kept before
before-gone : (files : List (Option FileId)) (gone place : ℕ) → is_some (slice_index_or (slice_set files gone None) place None) ≡ true →
    ((place ≡ gone) → ⊥) × (is_some (slice_index_or files place None) ≡ true)
before-gone files gone place e = elim (eqb_tells place gone) [
  | inl h ↦
      let none = ap is_some (ap (λ p. slice_index_or (slice_set files gone None) p None) h.1 ∙ default-there files gone) in
      absurd (cc)
  | inr h ↦ (h.1, ap is_some (sym (get_or-set_other files gone place None None h.1)) ∙ e)
]

only-later : (asked : Step) (later : List Step) → list_all gives_up (asked ∷ later) ≡ true → list_all gives_up later ≡ true
only-later asked later h = (and_parts (gives_up asked) (list_all gives_up later) h).1

module _ (k : ℕ) (held : Held) (later : List Step) where
  lost-leaving : (after : Held) → after.whole ≡ false → list_all gives_up later ≡ true → IsLeaving after later
  lost-leaving after lost only = record { only = only; gives = λ whole place e. absurd (cc); home = λ whole. absurd (cc) }

  closed-leaving : (hold : HoldId) (answer : Reply) → IsLeaving held (step.Close hold ∷ later) → IsLeaving (held_after k held (step.Close hold) answer) later
  closed-leaving hold reply.Done leaving = record {
    only = only-later (step.Close hold) later leaving.only;
    gives = λ whole place e.
        let before = before-gone held.files (hold.number - 1) place e in
        let gives = leaving.gives whole place before.1 in
        gives-behind later (suc place) (step.Close hold) gives
        (λ same. before.0 (other-place hold place gives.hold.number (ap (λ x. x.number) (sym (same-close gives.hold hold same))) gives.numbered)) (λ same. cc);
    home = λ whole. elim (leaving.home whole) [ inl h ↦ inl h | inr h ↦ inr (no-home (step.Close hold) later (λ same. cc) h) ];
  }
  closed-leaving hold _ leaving = lost-leaving _ refl (only-later (step.Close hold) later leaving.only)

  unmapped-leaving : (hold : HoldId) (answer : Reply) → IsLeaving held (step.Unmap hold ∷ later) → IsLeaving (held_after k held (step.Unmap hold) answer) later
  unmapped-leaving hold reply.Done leaving = record {
    only = only-later (step.Unmap hold) later leaving.only;
    gives = λ whole place e.
        let before = before-gone held.files (hold.number - 1) place e in
        let gives = leaving.gives whole place before.1 in
        gives-behind later (suc place) (step.Unmap hold) gives (λ same. cc)
        (λ same. before.0 (other-place hold place gives.hold.number (ap (λ x. x.number) (sym (same-unmap gives.hold hold same))) gives.numbered));
    home = λ whole. elim (leaving.home whole) [ inl h ↦ inl h | inr h ↦ inr (no-home (step.Unmap hold) later (λ same. cc) h) ];
  }
  unmapped-leaving hold _ leaving = lost-leaving _ refl (only-later (step.Unmap hold) later leaving.only)

  homed-leaving : (answer : Reply) → IsLeaving held (step.Home ∷ later) → IsLeaving (held_after k held step.Home answer) later
  homed-leaving reply.Done leaving = record {
    only = only-later step.Home later leaving.only;
    gives = λ whole place e. gives-behind later (suc place) step.Home (leaving.gives whole place e) (λ same. cc) (λ same. cc);
    home = λ whole. inl refl;
  }
  homed-leaving _ leaving = lost-leaving _ refl (only-later step.Home later leaving.only)

  pub step-leaving : (asked : Step) (answer : Reply) → IsLeaving held (asked ∷ later) → IsLeaving (held_after k held asked answer) later
  step-leaving (step.Close hold) answer leaving = closed-leaving hold answer leaving
  step-leaving (step.Unmap hold) answer leaving = unmapped-leaving hold answer leaving
  step-leaving step.Home answer leaving = homed-leaving answer leaving
  step-leaving _ answer leaving = let only = leaving.only in absurd (cc)

-- the exit steps only give up

unmaps-give : (mappings : List (Option Window)) → list_all gives_up (filter_map unmap_step mappings) ≡ true
unmaps-give [] = refl
unmaps-give (None ∷ mappings) = unmaps-give mappings
unmaps-give (Some window ∷ mappings) = unmaps-give mappings

close-gives : (found : Option OpenFile) (rest : List Step) → list_all gives_up rest ≡ true →
    list_all gives_up (cons_option (option_map (λ file. step.Close file.hold) found) rest) ≡ true
close-gives None rest h = h
close-gives (Some file) rest h = h

closes-give : (open_files : OpenFiles) (numbers : List ℕ) → list_all gives_up (filter_map (close_step open_files) numbers) ≡ true
closes-give open_files [] = refl
closes-give open_files (number ∷ numbers) =
    close-gives (file_numbered open_files number) (filter_map (close_step open_files) numbers) (closes-give open_files numbers)

homes-give : (shown : Path) → list_all gives_up (home_steps shown) ≡ true
homes-give [] = refl
homes-give (name ∷ names) = refl

both-give : (xs ys : List Step) → list_all gives_up xs ≡ true → list_all gives_up ys ≡ true → list_all gives_up (xs ++ ys) ≡ true
both-give [] ys h k = k
both-give (asked ∷ xs) ys h k =
    let parts = and_parts (gives_up asked) (list_all gives_up xs) h in
    ap (λ b. b && list_all gives_up (xs ++ ys)) parts.0 ∙ both-give xs ys parts.1 k

-- a session whose lines are done, with replies to exit steps
abbrev pub leaving : ShellState → List Reply → SessionRun
leaving state left = record { blocks = []; wanted = None; own = []; state = state; left = left }

exits-give : (state : ShellState) → list_all gives_up (exit_steps (leaving state [])) ≡ true
exits-give state =
    let unmaps : List Step = filter_map unmap_step state.mappings in
    let closes : List Step = filter_map (close_step state.open_files) (files_to_close state.open_files.descriptors) in
    both-give (unmaps ++ closes) (home_steps state.shown)
    (both-give unmaps closes (unmaps-give state.mappings) (closes-give state.open_files (files_to_close state.open_files.descriptors)))
    (homes-give state.shown)

-- whatever is known is given up

module _ (k : ℕ) (held : Held) (state : ShellState) (knows : Knows k held state None None) where
  all : GivesUpAll (leaving state [])
  all = gives-up-all (leaving state []) knows.sound

  gives-known : (number : ℕ) (at : Place) (one : Keeper) → known_at state None None at ≡ Some one → one.hold.number ≡ number → GivesNumber (exit_steps (leaving state [])) number
  gives-known number (OfFile place) one e numbered =
      let found = map-some keeps_open (file_numbered state.open_files place) one e in
      record {
        hold = found.0.hold;
        numbered = ap (λ x. x.hold.number) (sym found.2) ∙ numbered;
        given = inl (all.files place found.0 found.1);
      }
  gives-known number (OfMapping place) one e numbered =
      let found = map-some keeps_window (slice_index_or state.mappings place None) one e in
      record {
        hold = found.0.hold;
        numbered = ap (λ x. x.hold.number) (sym found.2) ∙ numbered;
        given = inr (all.mappings place found.0 found.1);
      }
  gives-known number OfFirst one e numbered = absurd (cc)
  gives-known number OfSecond one e numbered = absurd (cc)

  goes-home : (shown : Path) → state.shown ≡ shown → (held.folder ≡ []) ⊎ IsOneOf step.Home (exit_steps (leaving state []))
  goes-home [] e = inl (sym knows.shown ∙ e)
  goes-home (name ∷ names) e = inr (all.home (λ root. let clash : [] ≡ name ∷ names = sym root ∙ e in cc))

  pub knows-leaving : IsLeaving held (exit_steps (leaving state []))
  knows-leaving = record {
    only = exits-give state;
    gives = λ whole place e. let is = knows.are.each whole place e in gives-known (suc place) is.at is.one is.there is.numbered;
    home = λ whole. goes-home state.shown refl;
  }
