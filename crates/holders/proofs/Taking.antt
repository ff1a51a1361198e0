-- New paths are taken over, one after the other.
use Rattle.std.proofs.Common.{◌≡◌, ◌≢◌, ℕ, ◌+◌, ◌<◌, ◌≤◌, Option, Some, None, is_some, List, length, inl, inr, refl, sym, ap, ◌∙◌, arith, slice_index_or, slice_set, if◌then◌else◌}
use Rattle.std.specs.Option.{option_or}
use Rattle.std.proofs.lemmas.Bool.{cases_lt}
use Rattle.std.proofs.lemmas.List.{get_or-set_other, get_or-set_same, get_or_past, length-set}
use Rattle.vfs_base.specs.Path.{Path}
use Rattle.holders.proofs.Slots.{same-or-other}

abbrev pub Paths : Type 0
Paths = List (Option Path)

-- as far as this place each path is the new one, where there is one
pub record Taken (paths news : Paths) (at : ℕ) (now left : Paths) : Type 0 where
  pub count : length now ≡ length paths
  pub size : length left ≡ length news
  pub fits : length news ≤ length paths
  pub before : (place : ℕ) → place < at → slice_index_or now place None ≡ option_or (slice_index_or news place None) (slice_index_or paths place None)
  pub later : (place : ℕ) → at ≤ place → slice_index_or now place None ≡ slice_index_or paths place None
  pub rest : (place : ℕ) → at ≤ place → slice_index_or left place None ≡ slice_index_or news place None

pub taken-first : (paths news : Paths) → length news ≤ length paths → Taken paths news 0 paths news
taken-first paths news fits = record { count = refl; size = refl; fits = fits; before = λ place l. absurd (omega (arith, l)); later = λ place l. refl; rest = λ place l. refl }

new-one : (new : Option Path) (now : Paths) (at : ℕ) (old : Option Path) → at < length now → slice_index_or now at None ≡ old →
    slice_index_or (if is_some new then slice_set now at new else now) at None ≡ option_or new old
new-one None now at old l e = e
new-one (Some path) now at old l e = get_or-set_same now at (Some path) None l

other-one : (new : Option Path) (now : Paths) (at place : ℕ) → place ≢ at → slice_index_or (if is_some new then slice_set now at new else now) place None ≡ slice_index_or now place None
other-one None now at place apart = refl
other-one (Some path) now at place apart = get_or-set_other now at place (Some path) None apart

same-length : (new : Option Path) (now : Paths) (at : ℕ) → length (if is_some new then slice_set now at new else now) ≡ length now
same-length None now at = refl
same-length (Some path) now at = length-set now at (Some path)

pub taken-more : {paths news now left : Paths} {at : ℕ} → Taken paths news at now left → at < length left → (new : Option Path) → new ≡ slice_index_or left at None →
    Taken paths news (at + 1) (if is_some new then slice_set now at new else now) (slice_set left at None)
taken-more {paths} {news} {now} {left} {at} t l new e =
    let told : new ≡ slice_index_or news at None = e ∙ t.rest at (omega arith) in
    let within : at < length now = let a = t.count in let b = t.size in let c = t.fits in omega (arith, a, b, c, l) in
    record {
      count = same-length new now at ∙ t.count;
      size = length-set left at None ∙ t.size;
      fits = t.fits;
      before = λ place w. elim (same-or-other place at) [
        | inl same ↦
            ap (λ p. slice_index_or (if is_some new then slice_set now at new else now) p None) same
            ∙ new-one new now at (slice_index_or paths at None) within (t.later at (omega arith))
            ∙ ap (λ o. option_or o (slice_index_or paths at None)) told
            ∙ ap (λ p. option_or (slice_index_or news p None) (slice_index_or paths p None)) (sym same)
        | inr other ↦ other-one new now at place other ∙ t.before place (let apart = other in grind arith)
      ];
      later = λ place w. other-one new now at place (λ same. absurd (omega (arith, w, same))) ∙ t.later place (omega (arith, w));
      rest = λ place w. get_or-set_other left at place None None (λ same. absurd (omega (arith, w, same))) ∙ t.rest place (omega (arith, w));
    }

pub taken-all : {paths news now left : Paths} {at : ℕ} → Taken paths news at now left → length news ≤ at → (place : ℕ) → slice_index_or now place None ≡ option_or (slice_index_or news place None) (slice_index_or paths place None)
taken-all {paths} {news} {now} {left} {at} t end place = elim (cases_lt place at) [
  | inl l ↦ t.before place l
  | inr past ↦
      t.later place past
      ∙ sym (ap (λ o. option_or o (slice_index_or paths place None)) (get_or_past news place None (omega (arith, end, past))))
]
