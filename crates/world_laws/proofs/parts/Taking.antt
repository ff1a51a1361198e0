-- What a live file lies on: cells and devices, taken and given back.
use Rattle.std.proofs.Common.{◌≡◌, ◌≢◌, ℕ, ◌+◌, ◌-◌, ◌<◌, Bool, true, false, Option, None, List, [], length, slice_index_or, slice_set, ◌⊎◌, inl, inr, refl, sym, ap, subst, ◌∙◌, arith}
use Rattle.std.proofs.lemmas.List.{length-set, set_past}
use Rattle.std.proofs.lemmas.List.Folds.{position_or_len-set}
use Rattle.std.proofs.lemmas.List.Sums.{sum_by-set}
use Rattle.std.specs.Prelude.{count_by}
use Rattle.vfs_model.specs.Boxes.{BoxesPlaced, cell_files, fits_kind, is_backed_by, is_cell_mount, is_kept_dir, is_kept_on, lies_on_cell, lies_on_device, one_if}
use Rattle.vfs_model.specs.Consistency.{IsClosedTree}
use Rattle.vfs_model.specs.Content.{is_mounted}
use Rattle.vfs_model.specs.FileLife.{no_device, no_volume, volume_at, volume_named, with_cell, with_device, with_spare_cell}
use Rattle.vfs_model.specs.Namespace.{all_mounts, life_at, same_bytes}
use Rattle.vfs_base.specs.declared.kinds.FsType.TheVariants as fs
use Rattle.vfs_model.specs.declared.namespace.LiveFile.{LiveFile}
use Rattle.vfs_model.specs.declared.namespace.Mount.{Mount}
use Rattle.vfs_model.specs.declared.namespace.Namespace.{Namespace}
use Rattle.world_laws.proofs.lists.Filters.{PassingDiffer, kept-differ, passing-differ}
use Rattle.world_laws.proofs.lists.Lists.{below-or-past, same-or-other, set-here, set-there}

-- what holds of a new item at its place, and held of the old ones, holds at each place of the list
pub set-at : {X : Type 0} (P : X → Type 0) (xs : List X) (place other : ℕ) (x d : X) → (other ≡ place → P x) → P (slice_index_or xs other d) → P (slice_index_or (slice_set xs place x) other d)
set-at P xs place other x d new old = elim (same-or-other other place) [
  | inr e ↦ subst P (sym (set-there xs place other x d e)) old
  | inl e ↦ elim (below-or-past place (length xs)) [
    | inl l ↦ subst P (sym (ap (λ k. slice_index_or (slice_set xs place x) k d) e ∙ set-here xs place x d l)) (new e)
    | inr l ↦ subst P (sym (ap (λ ys. slice_index_or ys other d) (set_past xs place x l))) old
  ]
]

-- the count after a write at a place
pub count-set : {X : Type 0} (p : X → Bool) (xs : List X) (place : ℕ) (x d : X) → place < length xs →
    count_by p (slice_set xs place x) + one_if (p (slice_index_or xs place d)) ≡ count_by p xs + one_if (p x)
count-set p xs place x d l = sum_by-set (λ x. one_if (p x)) xs place x d l

-- the source of each cell mount is the name of a volume
abbrev pub SourcesNamed : Namespace → Type 0
SourcesNamed n = (place : ℕ) (d : Mount) → place < length (all_mounts n) → is_cell_mount (slice_index_or (all_mounts n) place d) ≡ true →
    volume_named n (slice_index_or (all_mounts n) place d).source < length n.volumes

-- and so where the volumes have the names that they had
pub sources-beside : (n m : Namespace) → all_mounts m ≡ all_mounts n → ((name : List ℕ) → volume_named m name ≡ volume_named n name) → length m.volumes ≡ length n.volumes →
    SourcesNamed n → SourcesNamed m
sources-beside n m mounts names many h = λ place d l k.
    let old = h place d (subst (λ ms. place < length ms) mounts l) (sym (ap (λ ms. is_cell_mount (slice_index_or ms place d)) mounts) ∙ k) in
    let name = names (slice_index_or (all_mounts m) place d).source in
    let same = ap (λ ms. volume_named n (slice_index_or ms place d).source) mounts in
    omega (arith, old, name, same, many)

-- all that is said of cells and devices but how many files have each
pub record BoxesBut (n : Namespace) : Type 0 where
  pub spares : (volume : ℕ) → length (volume_at n volume).spare ≡ length (volume_at n volume).pages
  pub kinds : (row : ℕ) → fits_kind (life_at n row) ≡ true
  pub mounted : (volume : ℕ) → is_mounted n fs.Cell (volume_at n volume).name ≡ true → (volume_at n volume).kept ≡ []
  pub kept : (volume : ℕ) → IsClosedTree is_kept_dir (volume_at n volume).kept
  pub sources_differ : PassingDiffer is_cell_mount (λ mount. mount.source) (all_mounts n)
  pub sources : SourcesNamed n
  pub named : (volume : ℕ) → ((volume_at n volume).kept ≡ []) ⊎ (volume_named n (volume_at n volume).name ≡ volume)

abbrev pub CellsPlaced : Namespace → Type 0
CellsPlaced n = (volume cell : ℕ) → volume < length n.volumes → cell < length (volume_at n volume).pages →
    cell_files n volume cell + one_if (slice_index_or (volume_at n volume).spare cell false) ≡ 1

abbrev pub DevicesPlaced : Namespace → Type 0
DevicesPlaced n = (device : ℕ) → device < length n.devices → count_by (is_backed_by (lies_on_device device)) n.live_files ≡ one_if (slice_index_or n.devices device no_device).is_out

pub boxes-but : (n : Namespace) → BoxesPlaced n → BoxesBut n
boxes-but n boxes = record {
  spares = boxes.spares;
  kinds = boxes.kinds;
  mounted = boxes.mounted;
  kept = boxes.kept;
  sources_differ = passing-differ is_cell_mount (λ mount. mount.source) (all_mounts n) boxes.sources_differ;
  sources = boxes.sources;
  named = boxes.named;
}

pub boxes-all : (n : Namespace) → CellsPlaced n → DevicesPlaced n → BoxesBut n → BoxesPlaced n
boxes-all n cells devices boxes = record {
  cells = cells;
  spares = boxes.spares;
  devices = devices;
  kinds = boxes.kinds;
  mounted = boxes.mounted;
  kept = boxes.kept;
  sources_differ = kept-differ is_cell_mount (λ mount. mount.source) (all_mounts n) boxes.sources_differ;
  sources = boxes.sources;
  named = boxes.named;
}

-- a cell that is taken or spare again changes no volume otherwise
pub cell-name : (b : Bool) (n : Namespace) (volume cell other : ℕ) → (volume_at (with_cell b n volume cell) other).name ≡ (volume_at n other).name
cell-name b n volume cell other =
    set-at (λ v. v.name ≡ (volume_at n other).name) n.volumes volume other (with_spare_cell b cell (volume_at n volume)) no_volume (λ e. ap (λ k. (volume_at n k).name) (sym e)) refl

pub cell-pages : (b : Bool) (n : Namespace) (volume cell other : ℕ) → (volume_at (with_cell b n volume cell) other).pages ≡ (volume_at n other).pages
cell-pages b n volume cell other =
    set-at (λ v. v.pages ≡ (volume_at n other).pages) n.volumes volume other (with_spare_cell b cell (volume_at n volume)) no_volume (λ e. ap (λ k. (volume_at n k).pages) (sym e)) refl

pub cell-kept : (b : Bool) (n : Namespace) (volume cell other : ℕ) → (volume_at (with_cell b n volume cell) other).kept ≡ (volume_at n other).kept
cell-kept b n volume cell other =
    set-at (λ v. v.kept ≡ (volume_at n other).kept) n.volumes volume other (with_spare_cell b cell (volume_at n volume)) no_volume (λ e. ap (λ k. (volume_at n k).kept) (sym e)) refl

cell-spares : (b : Bool) (n : Namespace) (volume cell other : ℕ) → length (volume_at (with_cell b n volume cell) other).spare ≡ length (volume_at n other).spare
cell-spares b n volume cell other =
    set-at (λ v. length v.spare ≡ length (volume_at n other).spare) n.volumes volume other (with_spare_cell b cell (volume_at n volume)) no_volume
    (λ e. length-set (volume_at n volume).spare cell b ∙ ap (λ k. length (volume_at n k).spare) (sym e)) refl

pub cell-named : (b : Bool) (n : Namespace) (volume cell : ℕ) (name : List ℕ) → volume_named (with_cell b n volume cell) name ≡ volume_named n name
cell-named b n volume cell name =
    position_or_len-set (λ v. same_bytes v.name name) n.volumes volume (with_spare_cell b cell (volume_at n volume)) no_volume refl

pub but-cell : (b : Bool) (n : Namespace) (volume cell : ℕ) → BoxesBut n → BoxesBut (with_cell b n volume cell)
but-cell b n volume cell boxes = record {
  spares = λ other. cell-spares b n volume cell other ∙ boxes.spares other ∙ sym (ap (λ xs. length xs) (cell-pages b n volume cell other));
  kinds = boxes.kinds;
  mounted = λ other h. cell-kept b n volume cell other ∙ boxes.mounted other (sym (ap (is_mounted n fs.Cell) (cell-name b n volume cell other)) ∙ h);
  kept = λ other. subst (IsClosedTree is_kept_dir) (sym (cell-kept b n volume cell other)) (boxes.kept other);
  sources_differ = boxes.sources_differ;
  sources = sources-beside n (with_cell b n volume cell) refl (cell-named b n volume cell) (length-set n.volumes volume (with_spare_cell b cell (volume_at n volume))) boxes.sources;
  named = λ other. elim (boxes.named other) [
    | inl h ↦ inl (cell-kept b n volume cell other ∙ h)
    | inr h ↦ inr (cell-named b n volume cell _ ∙ ap (volume_named n) (cell-name b n volume cell other) ∙ h)
  ];
}

pub but-device : (b : Bool) (n : Namespace) (device : ℕ) → BoxesBut n → BoxesBut (with_device b n device)
but-device b n device boxes = record { spares = boxes.spares; kinds = boxes.kinds; mounted = boxes.mounted; kept = boxes.kept; sources_differ = boxes.sources_differ; sources = boxes.sources; named = boxes.named }

-- a row becomes a live file, or free
abbrev pub with_life : Namespace → ℕ → Option LiveFile → List ℕ → Namespace
with_life n row found generations = record n { live_files = slice_set n.live_files (row - 1) found; generations = generations }

pub but-life : (n : Namespace) (row : ℕ) (found : Option LiveFile) (generations : List ℕ) → fits_kind found ≡ true → BoxesBut n → BoxesBut (with_life n row found generations)
but-life n row found generations fits boxes = record {
  spares = boxes.spares;
  kinds = λ other. set-at (λ life. fits_kind life ≡ true) n.live_files (row - 1) (other - 1) found None (λ e. fits) (boxes.kinds other);
  mounted = boxes.mounted;
  kept = boxes.kept;
  sources_differ = boxes.sources_differ;
  sources = boxes.sources;
  named = boxes.named;
}

-- whether a cell is spare after one was taken or given back
pub spare-other : (b : Bool) (n : Namespace) (volume cell other at : ℕ) → (other ≡ volume → at ≢ cell) →
    slice_index_or (volume_at (with_cell b n volume cell) other).spare at false ≡ slice_index_or (volume_at n other).spare at false
spare-other b n volume cell other at h =
    set-at (λ v. slice_index_or v.spare at false ≡ slice_index_or (volume_at n other).spare at false) n.volumes volume other (with_spare_cell b cell (volume_at n volume)) no_volume
    (λ e. set-there (volume_at n volume).spare cell at b false (h e) ∙ ap (λ k. slice_index_or (volume_at n k).spare at false) (sym e)) refl

pub spare-here : (b : Bool) (n : Namespace) (volume cell : ℕ) → volume < length n.volumes → cell < length (volume_at n volume).spare →
    slice_index_or (volume_at (with_cell b n volume cell) volume).spare cell false ≡ b
spare-here b n volume cell l m =
    ap (λ v. slice_index_or v.spare cell false) (set-here n.volumes volume (with_spare_cell b cell (volume_at n volume)) no_volume l)
    ∙ set-here (volume_at n volume).spare cell b false m

-- how many files a cell has is counted over lives and kept names
pub cell-files : (b : Bool) (n : Namespace) (volume cell other at : ℕ) → cell_files (with_cell b n volume cell) other at ≡ cell_files n other at
cell-files b n volume cell other at = ap (λ names. count_by (is_backed_by (lies_on_cell other at)) n.live_files + count_by (λ entry. is_kept_on at entry.1) names) (cell-kept b n volume cell other)
