-- A free row becomes a live file, which nothing names yet.
use Rattle.std.proofs.Common.{◌≡◌, ◌≢◌, ℕ, ◌+◌, ◌-◌, ◌<◌, ◌==◌, Bool, true, false, ◌&&◌, Option, Some, None, is_some, IsSomeAnd, List, length, slice_index_or, slice_set, ◌⊎◌, inl, inr, refl, sym, ap, subst, ◌∙◌, arith}
use Rattle.std.proofs.lemmas.List.{length-set}
use Rattle.std.specs.Prelude.{count_by}
use Rattle.std.specs.FinMap.Entries.{find as value_at}
use Rattle.vfs_base.specs.Path.{Path, path_cmp}
use Rattle.vfs_base.specs.declared.ids.FileId.{FileId}
use Rattle.vfs_base.specs.declared.kinds.NodeKind.TheVariants as node
use Rattle.vfs_base.specs.declared.kinds.Kind.{Kind}
use Rattle.vfs_model.specs.Boxes.{BoxesPlaced, RomsClosed, cell_files, fits_kind, is_backed_by, lies_on_cell, lies_on_device, one_if}
use Rattle.vfs_model.specs.Consistency.{FoldersStand, IsClosedTree, IsLive, LivesFit, ReferencesLive, fits_mount, mount_numbered, same_kind}
use Rattle.vfs_model.specs.FileLife.{after_taking, bind_row, no_device, volume_at, with_cell, with_device}
use Rattle.vfs_model.specs.Lookup.{is_dir_node}
use Rattle.vfs_model.specs.Namespace.{generation_at, life_at, tree_of}
use Rattle.vfs_model.specs.OpenStep.{kind_of}
use Rattle.vfs_model.specs.declared.namespace.Backing.{Backing}
use Rattle.vfs_model.specs.declared.namespace.Backing.TheVariants as backing
use Rattle.vfs_model.specs.declared.namespace.DeviceState.{DeviceState}
use Rattle.vfs_model.specs.declared.namespace.LiveFile.{LiveFile}
use Rattle.vfs_model.specs.declared.namespace.Mount.{Mount}
use Rattle.vfs_model.specs.declared.namespace.Namespace.{Namespace}
use Rattle.vfs_model.specs.declared.namespace.VolumeState.{VolumeState}
use Rattle.world_laws.proofs.parts.Beside.{working_directories-beside, live-beside}
use Rattle.world_laws.proofs.lists.Lists.{number-itself, other-number, same-or-other, same-some, set-here, set-there}
use Rattle.world_laws.proofs.lists.Passing.{and-both}
use Rattle.world_laws.proofs.parts.Standing.{IsUsed, NamespaceSizes, Nothing, Only, Stands}
use Rattle.world_laws.proofs.parts.Taking.{BoxesBut, CellsPlaced, DevicesPlaced, boxes-all, boxes-but, but-cell, but-device, but-life, cell-files, cell-named, cell-pages, count-set, set-at, spare-here, spare-other, with_life}

-- what a row may take: nothing, a spare cell, or a device that is at home
abbrev pub IsFreeBacking : Namespace → Backing → Type 0
IsFreeBacking n backing.Memory = Unit {0}
IsFreeBacking n (backing.Cell volume cell) =
    (volume < length n.volumes) × (cell < length (volume_at n volume).spare) × (slice_index_or (volume_at n volume).spare cell false ≡ true)
IsFreeBacking n (backing.Device device) = (device < length n.devices) × ((slice_index_or n.devices device no_device).is_out ≡ false)

-- a live file that may come to a row
pub record MayBind (n : Namespace) (row : ℕ) (life : LiveFile) : Type 0 where
  pub counted : 0 < row
  pub within : row - 1 < 1024
  pub free : life_at n row ≡ None
  pub kind : fits_kind (Some life) ≡ true
  pub mount : IsSomeAnd (mount_numbered n life.mount) (λ mount. fits_mount n life mount ≡ true)
  pub backing : IsFreeBacking n life.backing

-- the row's list of generations after the row was bound
abbrev pub next_generations : Namespace → ℕ → List ℕ
next_generations n row = slice_set n.generations (row - 1) (generation_at n row + 1)

pub some-life : (found : Option LiveFile) (P : LiveFile → Type 0) → IsSomeAnd found P → found ≢ None
some-life None P h e = h
some-life (Some life) P h e = absurd (cc)

-- files of other rows live on
pub alive-bound : (n : Namespace) (row : ℕ) (found : Option LiveFile) (id : FileId) (kind : Kind) (number : ℕ) → life_at n row ≡ None →
    IsLive n id kind number → IsLive (with_life n row found (next_generations n row)) id kind number
alive-bound n row found id kind number free live =
    let other : id.row - 1 ≢ row - 1 = λ e. some-life (life_at n id.row) _ live.life (ap (λ k. slice_index_or n.live_files k None) e ∙ free) in
    record {
      row = live.row;
      generation = set-there n.generations (row - 1) (id.row - 1) (generation_at n row + 1) 0 other ∙ live.generation;
      life = subst (λ x. IsSomeAnd x (λ life. (life.kind ≡ kind) × (life.mount ≡ number))) (sym (set-there n.live_files (row - 1) (id.row - 1) found None other)) live.life;
    }

pub live-bound : (n : Namespace) (row : ℕ) (found : Option LiveFile) → life_at n row ≡ None → ReferencesLive n → ReferencesLive (with_life n row found (next_generations n row))
live-bound n row found free live = record {
  linked = λ number path id kind h. alive-bound n row found id kind number free (live.linked number path id kind h);
  held = λ place reference h.
      (alive-bound n row found reference.file reference.kind reference.mount free (live.held place reference h).0, (live.held place reference h).1);
}

only-used : (n : Namespace) (row other : ℕ) → IsUsed Nothing n other → IsUsed (Only row) n other
only-used n row other (inl linked) = inl linked
only-used n row other (inr (inl held)) = inr (inl held)
only-used n row other (inr (inr none)) = absurd none

used-bound : (n : Namespace) (row : ℕ) (found : Option LiveFile) (other : ℕ) → 0 < row → 0 < other → (other - 1 ≡ row - 1) ⊎ (other - 1 ≢ row - 1) →
    ((at : ℕ) → 0 < at → is_some (life_at n at) ≡ true → IsUsed Nothing n at) →
    is_some (slice_index_or (slice_set n.live_files (row - 1) found) (other - 1) None) ≡ true → IsUsed (Only row) n other
used-bound n row found other l m (inl e) used h = inr (inr (omega (arith, e)))
used-bound n row found other l m (inr e) used h =
    only-used n row other (used other m (ap is_some (sym (set-there n.live_files (row - 1) (other - 1) found None e)) ∙ h))

-- how many files a cell has after a row was bound
pub cells-bound : (n : Namespace) (row : ℕ) (life : LiveFile) (generations : List ℕ) (volume cell : ℕ) → row - 1 < length n.live_files → life_at n row ≡ None →
    cell_files (with_life n row (Some life) generations) volume cell ≡ cell_files n volume cell + one_if (lies_on_cell volume cell life.backing)
cells-bound n row life generations volume cell l free =
    let counted = count-set (is_backed_by (lies_on_cell volume cell)) n.live_files (row - 1) (Some life) None l in
    let before : one_if (is_backed_by (lies_on_cell volume cell) (life_at n row)) ≡ 0 = ap (λ x. one_if (is_backed_by (lies_on_cell volume cell) x)) free in
    omega (arith, counted, before)

devices-bound : (n : Namespace) (row : ℕ) (life : LiveFile) (device : ℕ) → row - 1 < length n.live_files → life_at n row ≡ None →
    count_by (is_backed_by (lies_on_device device)) (slice_set n.live_files (row - 1) (Some life)) ≡
    count_by (is_backed_by (lies_on_device device)) n.live_files + one_if (lies_on_device device life.backing)
devices-bound n row life device l free =
    let counted = count-set (is_backed_by (lies_on_device device)) n.live_files (row - 1) (Some life) None l in
    let before : one_if (is_backed_by (lies_on_device device) (life_at n row)) ≡ 0 = ap (λ x. one_if (is_backed_by (lies_on_device device) x)) free in
    omega (arith, counted, before)

-- the other cells, and the other devices, have as many files as before
pub apart-cell : (volume cell v c : ℕ) → (volume ≡ v → cell ≢ c) → lies_on_cell volume cell (backing.Cell v c) ≡ false
apart-cell volume cell v c h = elim (same-or-other v volume) [
  | inl e ↦ elim (same-or-other c cell) [
    | inl f ↦ absurd (h (sym e) (sym f))
    | inr f ↦ ap (λ b. (v == volume) && b) (other-number c cell f) ∙ and-false (v == volume)
  ]
  | inr e ↦ ap (λ b. b && (c == cell)) (other-number v volume e)
]
  where
    and-false : (b : Bool) → (b && false) ≡ false
    and-false true = refl
    and-false false = refl

pub own-cell : (v c : ℕ) → lies_on_cell v c (backing.Cell v c) ≡ true
own-cell v c = and-both (v == v) (c == c) (number-itself v) (number-itself c)

-- one cell, or another
pub this-or-other : (volume cell v c : ℕ) → ((volume ≡ v) × (cell ≡ c)) ⊎ (volume ≡ v → cell ≢ c)
this-or-other volume cell v c = elim (same-or-other volume v) [
  | inl e ↦ elim (same-or-other cell c) [ inl f ↦ inl (e, f) | inr f ↦ inr (λ _. f) ]
  | inr e ↦ inr (λ f. absurd (e f))
]

cells-taken : (n : Namespace) (row : ℕ) (life : LiveFile) (generations : List ℕ) → row - 1 < length n.live_files → life_at n row ≡ None → IsFreeBacking n life.backing →
    CellsPlaced n → (b : Backing) → life.backing ≡ b → CellsPlaced (after_taking (with_life n row (Some life) generations) b)
cells-taken n row life generations l free may cells backing.Memory e volume cell v c =
    let bound = cells-bound n row life generations volume cell l free in
    let none : one_if (lies_on_cell volume cell life.backing) ≡ 0 = ap (λ x. one_if (lies_on_cell volume cell x)) e in
    let before = cells volume cell v c in
    omega (arith, bound, none, before)
cells-taken n row life generations l free may cells (backing.Device device) e volume cell v c =
    let bound = cells-bound n row life generations volume cell l free in
    let none : one_if (lies_on_cell volume cell life.backing) ≡ 0 = ap (λ x. one_if (lies_on_cell volume cell x)) e in
    let before = cells volume cell v c in
    omega (arith, bound, none, before)
cells-taken n row life generations l free may cells (backing.Cell w d) e volume cell v c =
    let m = with_life n row (Some life) generations in
    let bound = cells-bound n row life generations volume cell l free in
    let same = cell-files false m w d volume cell in
    let taken = subst (IsFreeBacking n) e may in
    let in_pages : cell < length (volume_at n volume).pages = subst (λ xs. cell < length xs) (cell-pages false m w d volume) c in
    let before = cells volume cell (subst (λ x. volume < x) (length-set n.volumes w _) v) in_pages in
    elim (this-or-other volume cell w d) [
      | inl h ↦
          let one : one_if (lies_on_cell volume cell life.backing) ≡ 1 =
          ap (λ x. one_if (lies_on_cell volume cell x)) (e ∙ ap (λ x. backing.Cell x d) (sym h.0) ∙ ap (λ x. backing.Cell volume x) (sym h.1)) ∙ ap one_if (own-cell volume cell) in
          let was : one_if (slice_index_or (volume_at n volume).spare cell false) ≡ 1 =
          ap (λ x. one_if (slice_index_or (volume_at n x).spare cell false)) h.0 ∙ ap (λ x. one_if (slice_index_or (volume_at n w).spare x false)) h.1 ∙ ap one_if taken.2 in
          let is : one_if (slice_index_or (volume_at (with_cell false m w d) volume).spare cell false) ≡ 0 =
          ap (λ x. one_if (slice_index_or (volume_at (with_cell false m w d) x).spare cell false)) h.0
          ∙ ap (λ x. one_if (slice_index_or (volume_at (with_cell false m w d) w).spare x false)) h.1 ∙ ap one_if (spare-here false m w d taken.0 taken.1) in
          omega (arith, bound, same, before, one, was, is)
      | inr h ↦
          let none : one_if (lies_on_cell volume cell life.backing) ≡ 0 = ap (λ x. one_if (lies_on_cell volume cell x)) e ∙ ap one_if (apart-cell volume cell w d h) in
          let is : one_if (slice_index_or (volume_at (with_cell false m w d) volume).spare cell false) ≡ one_if (slice_index_or (volume_at n volume).spare cell false) =
          ap one_if (spare-other false m w d volume cell h) in
          omega (arith, bound, same, before, none, is)
    ]

-- devices taken
pub devices-same : (n : Namespace) (row : ℕ) (life : LiveFile) (device : ℕ) → row - 1 < length n.live_files → life_at n row ≡ None → lies_on_device device life.backing ≡ false →
    DevicesPlaced n → device < length n.devices →
    count_by (is_backed_by (lies_on_device device)) (slice_set n.live_files (row - 1) (Some life)) ≡ one_if (slice_index_or n.devices device no_device).is_out
devices-same n row life device l free apart devices d =
    let bound = devices-bound n row life device l free in
    let none : one_if (lies_on_device device life.backing) ≡ 0 = ap one_if apart in
    let before = devices device d in
    omega (arith, bound, none, before)

-- whether a device is out, after one was taken or given back
pub out-other : (b : Bool) (n : Namespace) (device other : ℕ) → other ≢ device →
    (slice_index_or (with_device b n device).devices other no_device).is_out ≡ (slice_index_or n.devices other no_device).is_out
out-other b n device other h = ap (λ d. d.is_out) (set-there n.devices device other (record (slice_index_or n.devices device no_device) { is_out = b }) no_device h)

pub out-here : (b : Bool) (n : Namespace) (device : ℕ) → device < length n.devices → (slice_index_or (with_device b n device).devices device no_device).is_out ≡ b
out-here b n device l = ap (λ d. d.is_out) (set-here n.devices device (record (slice_index_or n.devices device no_device) { is_out = b }) no_device l)

pub devices-taken : (n : Namespace) (row : ℕ) (life : LiveFile) (generations : List ℕ) → row - 1 < length n.live_files → life_at n row ≡ None → IsFreeBacking n life.backing →
    DevicesPlaced n → (b : Backing) → life.backing ≡ b → DevicesPlaced (after_taking (with_life n row (Some life) generations) b)
devices-taken n row life generations l free may devices backing.Memory e device d =
    devices-same n row life device l free (ap (lies_on_device device) e) devices d
devices-taken n row life generations l free may devices (backing.Cell v c) e device d =
    devices-same n row life device l free (ap (lies_on_device device) e) devices d
devices-taken n row life generations l free may devices (backing.Device one) e device d =
    let m = with_life n row (Some life) generations in
    let within : device < length n.devices = subst (λ x. device < x) (length-set n.devices one _) d in
    elim (same-or-other device one) [
      | inr h ↦
          devices-same n row life device l free (ap (lies_on_device device) e ∙ other-number one device (λ f. h (sym f))) devices within
          ∙ ap one_if (sym (out-other true m one device h))
      | inl h ↦
          let taken = subst (IsFreeBacking n) e may in
          let bound = devices-bound n row life device l free in
          let counts : one_if (lies_on_device device life.backing) ≡ 1 =
          ap (λ x. one_if (lies_on_device device x)) (e ∙ ap backing.Device (sym h)) ∙ ap one_if (number-itself device) in
          let was : one_if (slice_index_or n.devices device no_device).is_out ≡ 0 = ap (λ x. one_if (slice_index_or n.devices x no_device).is_out) h ∙ ap one_if taken.1 in
          let is : one_if (slice_index_or (with_device true m one).devices device no_device).is_out ≡ 1 =
          ap (λ x. one_if (slice_index_or (with_device true m one).devices x no_device).is_out) h ∙ ap one_if (out-here true m one taken.0) in
          let before = devices device within in
          omega (arith, bound, counts, was, is, before)
    ]

pub but-taken : (m : Namespace) (b : Backing) → BoxesBut m → BoxesBut (after_taking m b)
but-taken m backing.Memory boxes = boxes
but-taken m (backing.Cell volume cell) boxes = but-cell false m volume cell boxes
but-taken m (backing.Device device) boxes = but-device true m device boxes

boxes-bound : (n : Namespace) (row : ℕ) (life : LiveFile) (generations : List ℕ) → row - 1 < length n.live_files → life_at n row ≡ None → IsFreeBacking n life.backing →
    fits_kind (Some life) ≡ true → BoxesPlaced n → BoxesPlaced (after_taking (with_life n row (Some life) generations) life.backing)
boxes-bound n row life generations l free may kind boxes =
    let m = with_life n row (Some life) generations in
    boxes-all (after_taking m life.backing)
    (cells-taken n row life generations l free may boxes.cells life.backing refl)
    (devices-taken n row life generations l free may boxes.devices life.backing refl)
    (but-taken m life.backing (but-life n row (Some life) generations kind (boxes-but n boxes)))

-- live files fit their mounts
pub live_files-set : (n : Namespace) (row : ℕ) (found : Option LiveFile) (generations : List ℕ) →
    ((life : LiveFile) → found ≡ Some life → IsSomeAnd (mount_numbered n life.mount) (λ mount. fits_mount n life mount ≡ true)) →
    LivesFit n → LivesFit (with_life n row found generations)
live_files-set n row found generations new fit other life h =
    set-at (λ x. (life : LiveFile) → x ≡ Some life → IsSomeAnd (mount_numbered n life.mount) (λ mount. fits_mount n life mount ≡ true))
    n.live_files (row - 1) (other - 1) found None (λ e. new) (fit other) life h

some-and : {X : Type 0} (P Q : X → Type 0) (found : Option X) → ((x : X) → P x → Q x) → IsSomeAnd found P → IsSomeAnd found Q
some-and P Q None f h = h
some-and P Q (Some x) f h = f x h

-- a live file's cell is of its mount's volume, also after a cell was taken or given back
fits-cell : (b : Bool) (n : Namespace) (volume cell : ℕ) (life : LiveFile) (mount : Mount) → (backing_is : Backing) → life.backing ≡ backing_is →
    fits_mount n life mount ≡ true → fits_mount (with_cell b n volume cell) life mount ≡ true
fits-cell b n volume cell life mount backing.Memory e h = subst (λ x. fits_mount (with_cell b n volume cell) (record life { backing = x }) mount ≡ true) (sym e)
    (subst (λ x. fits_mount n (record life { backing = x }) mount ≡ true) e h)
fits-cell b n volume cell life mount (backing.Device device) e h = subst (λ x. fits_mount (with_cell b n volume cell) (record life { backing = x }) mount ≡ true) (sym e)
    (subst (λ x. fits_mount n (record life { backing = x }) mount ≡ true) e h)
fits-cell b n volume cell life mount (backing.Cell v c) e h = subst (λ x. fits_mount (with_cell b n volume cell) (record life { backing = x }) mount ≡ true) (sym e)
    (subst (λ place. (same_kind life.kind (kind_of mount.fs) && (v == place)) ≡ true) (sym (cell-named b n volume cell mount.source))
    (subst (λ x. fits_mount n (record life { backing = x }) mount ≡ true) e h))

pub live_files-cell : (b : Bool) (n : Namespace) (volume cell : ℕ) → LivesFit n → LivesFit (with_cell b n volume cell)
live_files-cell b n volume cell fit row life h =
    some-and (λ mount. fits_mount n life mount ≡ true) (λ mount. fits_mount (with_cell b n volume cell) life mount ≡ true) (mount_numbered n life.mount)
    (λ mount. fits-cell b n volume cell life mount life.backing refl) (fit row life h)

pub live_files-taken : (m : Namespace) (b : Backing) → LivesFit m → LivesFit (after_taking m b)
live_files-taken m backing.Memory fit = fit
live_files-taken m (backing.Cell volume cell) fit = live_files-cell false m volume cell fit
live_files-taken m (backing.Device device) fit = fit

-- what holds beside cells and devices
pub record Rest (Excused : ℕ → Type 0) (n : Namespace) : Type 0 where
  pub live : ReferencesLive n
  pub used : (row : ℕ) → 0 < row → is_some (life_at n row) ≡ true → IsUsed Excused n row
  pub alone : (number other : ℕ) (p q : Path) (id same : FileId) (kind like : Kind) →
      value_at path_cmp p (tree_of n number) ≡ Some (node.File id kind) →
      value_at path_cmp q (tree_of n other) ≡ Some (node.File same like) →
      id.row ≡ same.row → (number ≡ other) × (p ≡ q)
  pub working_directories : FoldersStand n
  pub trees : (number : ℕ) → IsClosedTree is_dir_node (tree_of n number)
  pub roms : RomsClosed n.roms
  pub sizes : NamespaceSizes n

pub rest-of : (Excused : ℕ → Type 0) (n : Namespace) → Stands Excused n → Rest Excused n
rest-of Excused n s = record { live = s.live; used = s.used; alone = s.alone; working_directories = s.working_directories; trees = s.trees; roms = s.roms; sizes = s.sizes }

pub rest-stands : (Excused : ℕ → Type 0) (n : Namespace) → Rest Excused n → BoxesPlaced n → LivesFit n → Stands Excused n
rest-stands Excused n s boxes live_files =
    record { live = s.live; used = s.used; alone = s.alone; working_directories = s.working_directories; trees = s.trees; boxes = boxes; live_files = live_files; roms = s.roms; sizes = s.sizes }

-- it does not hang on volumes and devices
pub rest-beside : (Excused : ℕ → Type 0) (n : Namespace) (volumes : List VolumeState) (devices : List DeviceState) → Rest Excused n → Rest Excused (record n { volumes = volumes; devices = devices })
rest-beside Excused n volumes devices s = record {
  live = live-beside n n.working_directories volumes devices s.live;
  used = s.used;
  alone = s.alone;
  working_directories = working_directories-beside n n.live_files n.generations n.references volumes devices s.working_directories;
  trees = s.trees;
  roms = s.roms;
  sizes = record {
    live_files = s.sizes.live_files;
    generations = s.sizes.generations;
    trees = s.sizes.trees;
    working_directories = s.sizes.working_directories;
    mounts = s.sizes.mounts;
    references = s.sizes.references;
  };
}

pub rest-taken : (Excused : ℕ → Type 0) (m : Namespace) (b : Backing) → Rest Excused m → Rest Excused (after_taking m b)
rest-taken Excused m backing.Memory s = s
rest-taken Excused m (backing.Cell volume cell) s = rest-beside Excused m (with_cell false m volume cell).volumes m.devices s
rest-taken Excused m (backing.Device device) s = rest-beside Excused m m.volumes (with_device true m device).devices s

-- a row is bound, and nothing names it yet
pub bind-stands : (n : Namespace) (row : ℕ) (life : LiveFile) → MayBind n row life → Stands Nothing n → Stands (Only row) (bind_row n row life)
unfolding bind_row
bind-stands n row life may s =
    let within : row - 1 < length n.live_files = subst (λ x. row - 1 < x) (sym s.sizes.live_files) may.within in
    rest-stands (Only row) _
    (rest-taken (Only row) (with_life n row (Some life) (next_generations n row)) life.backing (record {
      live = live-bound n row (Some life) may.free s.live;
      used = λ other l h. used-bound n row (Some life) other may.counted l (same-or-other (other - 1) (row - 1)) s.used h;
      alone = s.alone;
      working_directories = working_directories-beside n (slice_set n.live_files (row - 1) (Some life)) (next_generations n row) n.references n.volumes n.devices s.working_directories;
      trees = s.trees;
      roms = s.roms;
      sizes = record {
        live_files = length-set n.live_files (row - 1) (Some life) ∙ s.sizes.live_files;
        generations = length-set n.generations (row - 1) _ ∙ s.sizes.generations;
        trees = s.sizes.trees;
        working_directories = s.sizes.working_directories;
        mounts = s.sizes.mounts;
        references = s.sizes.references;
      };
    }))
    (boxes-bound n row life (next_generations n row) within may.free may.backing may.kind s.boxes)
    (live_files-taken _ life.backing (live_files-set n row (Some life) (next_generations n row)
    (λ other e. subst (λ x. IsSomeAnd (mount_numbered n x.mount) (λ mount. fits_mount n x mount ≡ true)) (same-some life other e) may.mount) s.live_files))
