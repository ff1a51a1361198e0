-- The world at the start is consistent.
use Rattle.std.proofs.Common.{◌≡◌, ℕ, zero, suc, ◌-◌, ◌<◌, Bool, true, false, Option, None, is_some, List, [], ◌∷◌, length, map, replicate, slice_index_or, inl, refl, sym, ap, subst, ◌∙◌, arith}
use Rattle.std.specs.FinMap.Entries.{find as value_at}
use Rattle.vfs_base.specs.Path.{Path, path_cmp}
use Rattle.vfs_base.specs.declared.describe.CharsShape.{CharsShape}
use Rattle.vfs_base.specs.declared.describe.Describe.{Describe}
use Rattle.vfs_base.specs.declared.describe.VolumeShape.{VolumeShape}
use Rattle.vfs_model.specs.Boxes.{BoxesPlaced, CellsFit, HasSizes, HomesFit, IsConsistent, RomsClosed, fits_kind, is_cell_mount, is_kept_dir, one_if}
use Rattle.vfs_model.specs.Consistency.{FoldersStand, IsClosedTree, LivesFit, ReferencesLive, RowsUsed, agrees}
use Rattle.vfs_model.specs.FileLife.{no_device, no_volume}
use Rattle.vfs_model.specs.Homes.{empty_cells, file_at, opening_home, opening_world}
use Rattle.vfs_model.specs.Lookup.{covering_mount, is_dir_node, is_folder, node_at}
use Rattle.vfs_model.specs.Namespace.{folder_of, generation_at, life_at, opening_device, opening_namespace, opening_volume, root_mount, tree_of}
use Rattle.vfs_model.specs.declared.namespace.Mount.{Mount}
use Rattle.vfs_model.specs.declared.namespace.RomImage.{RomImage}
use Rattle.vfs_model.specs.declared.world.FileState.TheVariants as file

all-same : {X : Type 0} (count : ℕ) (x : X) (place : ℕ) → slice_index_or (replicate count x) place x ≡ x
all-same zero x place = refl
all-same (suc count) x zero = refl
all-same (suc count) x (suc place) = all-same count x place

empty-closed : {X : Type 0} (is_dir : Option X → Bool) → IsClosedTree is_dir []
empty-closed is_dir = record { sorted = tt; rootless = refl; parents = λ front name h. absurd (cc); bounded = omega arith }

opened-keeps : (shapes : List VolumeShape) (place : ℕ) → (slice_index_or (map opening_volume shapes) place no_volume).kept ≡ []
opened-keeps [] place = refl
opened-keeps (shape ∷ shapes) zero = refl
opened-keeps (shape ∷ shapes) (suc place) = opened-keeps shapes place

length-of-replicate : {X : Type 0} (count : ℕ) (x : X) → length (replicate count x) ≡ count
length-of-replicate zero x = refl
length-of-replicate (suc count) x = ap suc (length-of-replicate count x)

opened-spares : (shapes : List VolumeShape) (place : ℕ) →
    length (slice_index_or (map opening_volume shapes) place no_volume).spare ≡ length (slice_index_or (map opening_volume shapes) place no_volume).pages
opened-spares [] place = refl
opened-spares (shape ∷ shapes) zero = length-of-replicate (length shape.pages) true
opened-spares (shape ∷ shapes) (suc place) = opened-spares shapes place

in-range : {X : Type 0} (count : ℕ) (x d : X) (place : ℕ) → place < count → slice_index_or (replicate count x) place d ≡ x
in-range zero x d place l = absurd (omega arith)
in-range (suc count) x d zero l = refl
in-range (suc count) x d (suc place) l = in-range count x d place (omega arith)

opened-spare : (shapes : List VolumeShape) (place cell : ℕ) → cell < length (slice_index_or (map opening_volume shapes) place no_volume).pages →
    slice_index_or (slice_index_or (map opening_volume shapes) place no_volume).spare cell false ≡ true
opened-spare [] place cell l = absurd (omega arith)
opened-spare (shape ∷ shapes) zero cell l = in-range (length shape.pages) true false cell l
opened-spare (shape ∷ shapes) (suc place) cell l = opened-spare shapes place cell l

opened-bytes : (shapes : List VolumeShape) (volume cell : ℕ) → slice_index_or (slice_index_or (map empty_cells shapes) volume []) cell [] ≡ []
opened-bytes [] volume cell = refl
opened-bytes (shape ∷ shapes) zero cell = all-same (length shape.pages) [] cell
opened-bytes (shape ∷ shapes) (suc volume) cell = opened-bytes shapes volume cell

opened-lengths : (shapes : List VolumeShape) → length (map empty_cells shapes) ≡ length (map opening_volume shapes)
opened-lengths [] = refl
opened-lengths (shape ∷ shapes) = ap suc (opened-lengths shapes)

opened-cells : (shapes : List VolumeShape) (volume : ℕ) →
    length (slice_index_or (map empty_cells shapes) volume []) ≡ length (slice_index_or (map opening_volume shapes) volume no_volume).pages
opened-cells [] volume = refl
opened-cells (shape ∷ shapes) zero = length-of-replicate (length shape.pages) []
opened-cells (shape ∷ shapes) (suc volume) = opened-cells shapes volume

opened-devices : (shapes : List CharsShape) → length (map opening_home shapes) ≡ length (map opening_device shapes)
opened-devices [] = refl
opened-devices (shape ∷ shapes) = ap suc (opened-devices shapes)

opened-device : (shapes : List CharsShape) (place : ℕ) → (slice_index_or (map opening_device shapes) place no_device).is_out ≡ false
opened-device [] place = refl
opened-device (shape ∷ shapes) zero = refl
opened-device (shape ∷ shapes) (suc place) = opened-device shapes place

one-place : (place : ℕ) (mount d : Mount) → place < 1 → slice_index_or (mount ∷ []) place d ≡ mount
one-place zero mount d l = refl
one-place (suc place) mount d l = absurd (omega arith)

module _ (roms : List RomImage) (describe : Describe) where
  no-life : (row : ℕ) → life_at (opening_namespace roms describe) row ≡ None
  unfolding opening_namespace
  no-life row = all-same 1024 None (row - 1)

  no-tree : (number : ℕ) → tree_of (opening_namespace roms describe) number ≡ []
  unfolding opening_namespace
  no-tree number = all-same 16 [] number

  no-reference : (place : ℕ) → slice_index_or (opening_namespace roms describe).references place None ≡ None
  unfolding opening_namespace
  no-reference place = all-same 256 None place

  no-node : (number : ℕ) (path : Path) → value_at path_cmp path (tree_of (opening_namespace roms describe) number) ≡ None
  no-node number path = ap (value_at path_cmp path) (no-tree number)

  at-root : (k : ℕ) → folder_of (opening_namespace roms describe) k ≡ []
  unfolding opening_namespace
  at-root k = all-same 8 [] (k - 1)

  rows-agree : (row : ℕ) → agrees (life_at (opening_namespace roms describe) row) (generation_at (opening_namespace roms describe) row) (file_at (opening_world roms describe) row) ≡ true
  unfolding opening_namespace opening_world
  rows-agree row =
      ap (λ life. agrees life (generation_at (opening_namespace roms describe) row) (file_at (opening_world roms describe) row)) (all-same 1024 None (row - 1))
      ∙ ap (λ generation. agrees None generation (file_at (opening_world roms describe) row)) (all-same 1024 0 (row - 1))
      ∙ ap (agrees None 0) (all-same 1024 (file.Unbound 0) (row - 1))

  references-live : ReferencesLive (opening_namespace roms describe)
  references-live = record {
    linked = λ number path id kind h. let none = no-node number path in absurd (cc);
    held = λ place reference h. let none = no-reference place in absurd (cc);
  }

  rows-used : RowsUsed (opening_namespace roms describe)
  rows-used = record {
    used = λ row l h. let none : is_some (life_at (opening_namespace roms describe) row) ≡ false = ap is_some (no-life row) in absurd (cc);
    alone = λ number other p q id same kind like h k e. let none = no-node number p in absurd (cc);
  }

  working_directories-stand : FoldersStand (opening_namespace roms describe)
  unfolding opening_namespace node_at covering_mount
  working_directories-stand = record {
    working_directories = λ k. ap (is_folder (opening_namespace roms describe)) (at-root k);
    short = λ k. rw (at-root k) (omega arith);
    root = (refl, refl, refl);
    points = λ place d l. absurd (omega arith);
    points_differ = λ place other d l m e. omega arith;
    numbers_differ = λ place other d l m e. omega arith;
    numbers = λ place d l. rw (one-place place root_mount d l) (omega arith);
    nested = λ place other d l m. absurd (omega arith);
    unused = λ number h. no-tree number;
  }

  boxes-placed : BoxesPlaced (opening_namespace roms describe)
  unfolding opening_namespace
  boxes-placed = record {
    cells = λ volume cell v c. rw (opened-keeps describe.volumes volume, opened-spare describe.volumes volume cell c) refl;
    spares = λ volume. opened-spares describe.volumes volume;
    devices = λ device d. sym (ap one_if (opened-device describe.chars device));
    kinds = λ row. ap fits_kind (all-same 1024 None (row - 1));
    mounted = λ volume h. opened-keeps describe.volumes volume;
    kept = λ volume. subst (IsClosedTree is_kept_dir) (sym (opened-keeps describe.volumes volume)) (empty-closed is_kept_dir);
    sources_differ = λ place other d l m e. absurd (omega (arith, l));
    sources = λ place d l h. let none : is_cell_mount (slice_index_or (root_mount ∷ []) place d) ≡ false = ap is_cell_mount (one-place place root_mount d l) in absurd (cc);
    named = λ volume. inl (opened-keeps describe.volumes volume);
  }

  live_files-fit : LivesFit (opening_namespace roms describe)
  live_files-fit row life h = let none = no-life row in absurd (cc)

  cells-fit : CellsFit (opening_world roms describe)
  unfolding opening_namespace opening_world
  cells-fit = record {
    live = λ row volume cell h. rw (all-same 1024 (file.Unbound 0) (row - 1)) (omega arith);
    home = λ volume cell. rw (opened-bytes describe.volumes volume cell) (omega arith);
  }

  homes-fit : HomesFit (opening_world roms describe)
  unfolding opening_namespace opening_world
  homes-fit = record {
    volumes = opened-lengths describe.volumes;
    cells = λ volume. opened-cells describe.volumes volume;
    devices = opened-devices describe.chars;
    kept = λ volume cell h. opened-bytes describe.volumes volume cell;
    out = λ device h. let no = opened-device describe.chars device in absurd (cc);
  }

  sizes : HasSizes (opening_world roms describe)
  unfolding opening_namespace opening_world
  sizes = record { files = refl; live_files = refl; generations = refl; trees = refl; working_directories = refl; mounts = omega arith }

  pub opening-consistent : RomsClosed roms → IsConsistent (opening_world roms describe)
  unfolding opening_world opening_namespace
  opening-consistent closed = record {
    rows_agree = rows-agree;
    references_live = references-live;
    rows_used = rows-used;
    references_bounded = refl;
    folders_stand = working_directories-stand;
    trees_closed = λ number. subst (IsClosedTree is_dir_node) (sym (no-tree number)) (empty-closed is_dir_node);
    boxes_placed = boxes-placed;
    live_files_fit = live_files-fit;
    cells_fit = cells-fit;
    homes_fit = homes-fit;
    roms_closed = closed;
    sizes = sizes;
  }
