-- A reference is put or given up: what the sessions' references keep then, each its own part of the list.
use Rattle.std.proofs.Common.{◌≡◌, ◌≢◌, inl, inr, ℕ, zero, suc, ◌==◌, ◌&&◌, ◌||◌, ◌+◌, ◌-◌, ◌*◌, ◌<◌, ◌≤◌, is_none, Option, Some, None, option_map, List, [], ◌∷◌, length, map, take, drop, slice_index_or, slice_set, refl, ap, ◌∙◌, arith}
use Rattle.std.proofs.Math.Seq.{take-set-lt}
use Rattle.std.proofs.lemmas.Bool.Decides.{leb_tells}
use Rattle.std.proofs.lemmas.List.{drop-set-add, drop-set-lt, length-drop, length-map, length-take, map-set, take-set-le}
use Rattle.std.specs.List.{list_any, position_or_len}
use Rattle.std.specs.Prelude.{slice_range}
use Rattle.vfs_base.specs.declared.ids.FileId.{FileId}
use Rattle.vfs_base.specs.declared.step.Step.{Step}
use Rattle.vfs_model.specs.Asking.{may_ask_file, names_file, needs_no_reference}
use Rattle.vfs_model.specs.FileStep.{step_file}
use Rattle.vfs_model.specs.HeldFiles.{IsNew, held_by, keeps_file, may_ask_held}
use Rattle.vfs_model.specs.Namespace.{references_of, with_reference}
use Rattle.vfs_model.specs.OpenStep.{least_free_number}
use Rattle.vfs_model.specs.declared.namespace.Namespace.{Namespace}
use Rattle.vfs_model.specs.declared.namespace.Reference.{Reference}
use Rattle.vfs_model.proofs.FreePlaces.{free-none}

-- a part of a list, after a place of it was set
range-set : {X : Type 0} (xs : List X) (a b i : ℕ) (x : X) → i < b - a → slice_range (slice_set xs (a + i) x) a b ≡ slice_set (slice_range xs a b) i x
range-set xs a b i x l = ap (take (b - a)) (drop-set-add a xs i x) ∙ take-set-lt (b - a) (drop a xs) i x l

-- and after another place was set
range-before : {X : Type 0} (xs : List X) (a b i : ℕ) (x : X) → i < a → slice_range (slice_set xs i x) a b ≡ slice_range xs a b
range-before xs a b i x l = ap (take (b - a)) (drop-set-lt a xs i x l)

range-behind : {X : Type 0} (xs : List X) (a b i : ℕ) (x : X) → b - a ≤ i → slice_range (slice_set xs (a + i) x) a b ≡ slice_range xs a b
range-behind xs a b i x l = ap (take (b - a)) (drop-set-add a xs i x) ∙ take-set-le (b - a) (drop a xs) i x l

abbrev pub file_kept : Option Reference → Option FileId
file_kept found = option_map (λ reference. reference.file) found

-- the files that one part of the references keeps
abbrev pub held_in : List (Option Reference) → ℕ → List (Option FileId)
held_in references k = map file_kept (slice_range references (32 * (k - 1)) (32 * k))

pub held-set : (n : Namespace) (k number : ℕ) (found : Option Reference) → 0 < k → number - 1 < 32 →
    held_by (with_reference n k number found) k ≡ slice_set (held_by n k) (number - 1) (file_kept found)
held-set n k number found above small =
    ap (map file_kept) (range-set n.references (32 * (k - 1)) (32 * k) (number - 1) found (omega (arith, above, small)))
    ∙ map-set file_kept (references_of n k) (number - 1) found

-- the references of the other sessions
pub others-stay : (n : Namespace) (k number : ℕ) (found : Option Reference) (other : ℕ) → 0 < k → number - 1 < 32 → 0 < other → other ≢ k →
    held_by (with_reference n k number found) other ≡ held_by n other
others-stay n k number found other above small positive differ = elim (leb_tells other k) [
  | inl l ↦
      let below : other < k = below l.1 in
      let at : 32 * (k - 1) + (number - 1) ≡ 32 * (other - 1) + (32 * (k - other) + (number - 1)) = omega (arith, below, positive) in
      ap (λ place. map file_kept (slice_range (slice_set n.references place found) (32 * (other - 1)) (32 * other))) at
      ∙ ap (map file_kept) (range-behind n.references (32 * (other - 1)) (32 * other) (32 * (k - other) + (number - 1)) found (omega (arith, below, positive)))
  | inr l ↦ ap (map file_kept) (range-before n.references (32 * (other - 1)) (32 * other) (32 * (k - 1) + (number - 1)) found (omega (arith, l.1, above, small)))
]
  where
    below : other ≤ k → other < k
    below l = elim (leb_tells k other) [
      | inl m ↦ absurd (differ (omega (arith, l, m.1)))
      | inr m ↦ m.1
    ]

pub length-held : (n : Namespace) (k : ℕ) → 0 < k → k ≤ 8 → length n.references ≡ 256 → length (held_by n k) ≡ 32
length-held n k above within whole =
    let mapped = length-map (references_of n k) file_kept in
    let cut = length-take (32 * k - 32 * (k - 1)) (drop (32 * (k - 1)) n.references) in
    let rest = length-drop (32 * (k - 1)) n.references in
    omega (arith, mapped, cut, rest, whole, above, within)

-- what a place keeps
pub held-at : (references : List (Option Reference)) (place : ℕ) → slice_index_or (map file_kept references) place None ≡ file_kept (slice_index_or references place None)
held-at [] place = refl
held-at (found ∷ references) zero = refl
held-at (found ∷ references) (suc place) = held-at references place

-- the least free number is that of a new reference
pub number-new : (n : Namespace) (k : ℕ) → 0 < k → k ≤ 8 → length n.references ≡ 256 → least_free_number n k ≤ 32 →
    IsNew k (held_by n k) (record { session = k; number = least_free_number n k })
number-new n k above within whole small = record {
  session = refl;
  above = omega arith;
  below = let e = length-held n k above within whole in omega (arith, e, small);
  free =
      ap (λ place. slice_index_or (held_by n k) place None) (omega arith)
      ∙ held-at (references_of n k) (position_or_len is_none (references_of n k))
      ∙ ap file_kept (free-none (references_of n k));
}

-- what a session may ask by its references it may ask by the files that they keep

names-same : (id : FileId) (found : Option Reference) → names_file id found ≡ keeps_file id (file_kept found)
names-same id None = refl
names-same id (Some reference) = refl

any-same : (id : FileId) (references : List (Option Reference)) → list_any (names_file id) references ≡ list_any (keeps_file id) (map file_kept references)
any-same id [] = refl
any-same id (None ∷ references) = any-same id references
any-same id (Some reference ∷ references) =
    ap (λ later. (reference.file.row == id.row && reference.file.generation == id.generation) || later) (any-same id references)

asks-same : (n : Namespace) (k : ℕ) (asked : Step) (found : Option FileId) → may_ask_file n k asked found ≡ may_ask_held (held_by n k) asked found
asks-same n k asked None = refl
asks-same n k asked (Some id) = ap (λ held. needs_no_reference asked || held) (any-same id (references_of n k))

pub may-ask-same : (n : Namespace) (k : ℕ) (asked : Step) → may_ask_file n k asked (step_file asked) ≡ may_ask_held (held_by n k) asked (step_file asked)
may-ask-same n k asked = asks-same n k asked (step_file asked)
