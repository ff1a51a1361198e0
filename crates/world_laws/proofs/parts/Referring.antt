-- A working directory changes, and references come and go.
use Rattle.std.proofs.Common.{◌≡◌, ◌≢◌, ℕ, ◌-◌, ◌≤◌, true, Option, Some, None, List, [], length, slice_index_or, slice_set, inl, inr, sym, ap, subst, ◌∙◌}
use Rattle.std.proofs.lemmas.List.{length-set, set_past}
use Rattle.vfs_base.specs.Path.{Path, printed}
use Rattle.vfs_model.specs.Consistency.{IsLive, ReferencesLive, is_number}
use Rattle.vfs_model.specs.Lookup.{covering_mount, is_folder, node_at}
use Rattle.vfs_model.specs.Namespace.{with_folder_of}
use Rattle.vfs_model.specs.declared.namespace.Namespace.{Namespace}
use Rattle.vfs_model.specs.declared.namespace.Reference.{Reference}
use Rattle.world_laws.proofs.parts.Beside.{alive-beside, boxes-beside, working_directories-beside, live-beside}
use Rattle.world_laws.proofs.lists.Lists.{below-or-past, same-or-other, same-some, set-here, set-there}
use Rattle.world_laws.proofs.parts.Standing.{Held, IsUsed, NamespaceSizes, Nothing, Only, Stands}

-- what holds of a new item, and held of the old ones, holds at each place of the list
pub set-keeps : {X : Type 0} (P : X → Type 0) (xs : List X) (place other : ℕ) (x d : X) → P x → P (slice_index_or xs other d) → P (slice_index_or (slice_set xs place x) other d)
set-keeps P xs place other x d new old = elim (same-or-other other place) [
  | inr e ↦ subst P (sym (set-there xs place other x d e)) old
  | inl e ↦ elim (below-or-past place (length xs)) [
    | inl l ↦ subst P (sym (ap (λ k. slice_index_or (slice_set xs place x) k d) e ∙ set-here xs place x d l)) new
    | inr l ↦ subst P (sym (ap (λ ys. slice_index_or ys other d) (set_past xs place x l))) old
  ]
]

-- a session goes into a folder
pub folder-stands : (Excused : ℕ → Type 0) (n : Namespace) (k : ℕ) (path : Path) → is_folder n path ≡ true → length (printed path) ≤ 1024 →
    Stands Excused n → Stands Excused (with_folder_of n k path)
unfolding node_at covering_mount
folder-stands Excused n k path there short s = record {
  live = live-beside n (slice_set n.working_directories (k - 1) path) n.volumes n.devices s.live;
  used = s.used;
  alone = s.alone;
  working_directories = record {
    working_directories = λ j. set-keeps (λ p. is_folder n p ≡ true) n.working_directories (k - 1) (j - 1) path [] there (s.working_directories.working_directories j);
    short = λ j. set-keeps (λ p. length (printed p) ≤ 1024) n.working_directories (k - 1) (j - 1) path [] short (s.working_directories.short j);
    root = s.working_directories.root;
    points = s.working_directories.points;
    points_differ = s.working_directories.points_differ;
    numbers_differ = s.working_directories.numbers_differ;
    numbers = s.working_directories.numbers;
    nested = s.working_directories.nested;
    unused = s.working_directories.unused;
  };
  trees = s.trees;
  boxes = boxes-beside n n.trees (slice_set n.working_directories (k - 1) path) n.references n.generations s.boxes;
  live_files = s.live_files;
  roms = s.roms;
  sizes = record {
    live_files = s.sizes.live_files;
    generations = s.sizes.generations;
    trees = s.sizes.trees;
    working_directories = length-set n.working_directories (k - 1) path ∙ s.sizes.working_directories;
    mounts = s.sizes.mounts;
    references = s.sizes.references;
  };
}

-- a reference stands at a place, or none
abbrev pub with_place : Namespace → ℕ → Option Reference → Namespace
with_place n place found = record n { references = slice_set n.references place found }

-- what is asked of a reference
abbrev pub IsGood : Namespace → Reference → Type 0
IsGood n reference = IsLive n reference.file reference.kind reference.mount × (is_number n reference.mount ≡ true)

good-beside : (n : Namespace) (references : List (Option Reference)) (reference : Reference) → IsGood n reference → IsGood (record n { references = references }) reference
good-beside n references reference good = (alive-beside n (record n { references = references }) reference.file reference.kind reference.mount good.0, good.1)

place-live : (n : Namespace) (place : ℕ) (found : Option Reference) → ((reference : Reference) → found ≡ Some reference → IsGood n reference) → ReferencesLive n → ReferencesLive (with_place n place found)
place-live n place found good live = record {
  linked = λ number path id kind h. alive-beside n (with_place n place found) id kind number (live.linked number path id kind h);
  held = λ other reference h. good-beside n (slice_set n.references place found) reference
      (set-keeps (λ x. (reference : Reference) → x ≡ Some reference → IsGood n reference) n.references place other found None good (live.held other) reference h);
}

held-beside : (n : Namespace) (place : ℕ) (found : Option Reference) (row : ℕ) → (held : Held n row) → held.place ≢ place → Held (with_place n place found) row
held-beside n place found row held h = record { place = held.place; reference = held.reference; there = set-there n.references place held.place found None h ∙ held.there; is = held.is }

place-sizes : (n : Namespace) (place : ℕ) (found : Option Reference) → NamespaceSizes n → NamespaceSizes (with_place n place found)
place-sizes n place found sizes = record {
  live_files = sizes.live_files;
  generations = sizes.generations;
  trees = sizes.trees;
  working_directories = sizes.working_directories;
  mounts = sizes.mounts;
  references = length-set n.references place found ∙ sizes.references;
}

still-held : (Excused : ℕ → Type 0) (n : Namespace) (place row : ℕ) (reference : Reference) → slice_index_or n.references place None ≡ None →
    IsUsed Excused n row → IsUsed Excused (with_place n place (Some reference)) row
still-held Excused n place row reference none (inl linked) = inl linked
still-held Excused n place row reference none (inr (inr excused)) = inr (inr excused)
still-held Excused n place row reference none (inr (inl held)) =
    inr (inl (held-beside n place (Some reference) row held (λ e. let h = held.there in let same = ap (λ k. slice_index_or n.references k None) e in absurd (cc))))

-- a reference comes to a place that has none
pub refer-stands : (Excused : ℕ → Type 0) (n : Namespace) (place : ℕ) (reference : Reference) → slice_index_or n.references place None ≡ None → IsGood n reference →
    Stands Excused n → Stands Excused (with_place n place (Some reference))
refer-stands Excused n place reference none good s = record {
  live = place-live n place (Some reference) (λ other e. subst (IsGood n) (same-some reference other e) good) s.live;
  used = λ row l h. still-held Excused n place row reference none (s.used row l h);
  alone = s.alone;
  working_directories = working_directories-beside n n.live_files n.generations (slice_set n.references place (Some reference)) n.volumes n.devices s.working_directories;
  trees = s.trees;
  boxes = boxes-beside n n.trees n.working_directories (slice_set n.references place (Some reference)) n.generations s.boxes;
  live_files = s.live_files;
  roms = s.roms;
  sizes = place-sizes n place (Some reference) s.sizes;
}

lost-held : (n : Namespace) (place row : ℕ) (reference : Reference) → slice_index_or n.references place None ≡ Some reference →
    IsUsed Nothing n row → IsUsed (Only reference.file.row) (with_place n place None) row
lost-held n place row reference there (inl linked) = inl linked
lost-held n place row reference there (inr (inr none)) = absurd none
lost-held n place row reference there (inr (inl held)) = elim (same-or-other held.place place) [
  | inr e ↦ inr (inl (held-beside n place None row held e))
  | inl e ↦ inr (inr (sym held.is ∙ ap (λ found. found.file.row)
      (same-some held.reference reference (sym held.there ∙ ap (λ k. slice_index_or n.references k None) e ∙ there))))
]

-- a reference goes, and perhaps nothing else names its file's row
pub unrefer-stands : (n : Namespace) (place : ℕ) (reference : Reference) → slice_index_or n.references place None ≡ Some reference →
    Stands Nothing n → Stands (Only reference.file.row) (with_place n place None)
unrefer-stands n place reference there s = record {
  live = place-live n place None (λ other e. absurd (cc)) s.live;
  used = λ row l h. lost-held n place row reference there (s.used row l h);
  alone = s.alone;
  working_directories = working_directories-beside n n.live_files n.generations (slice_set n.references place None) n.volumes n.devices s.working_directories;
  trees = s.trees;
  boxes = boxes-beside n n.trees n.working_directories (slice_set n.references place None) n.generations s.boxes;
  live_files = s.live_files;
  roms = s.roms;
  sizes = place-sizes n place None s.sizes;
}
