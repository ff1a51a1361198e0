-- A volume that is not mounted keeps what it kept, through changes of rows and of the names that other volumes keep.
use Rattle.std.proofs.Common.{◌≡◌, ◌≢◌, ℕ, ◌+◌, ◌-◌, ◌<◌, ◌≤◌, Bool, true, false, not, ◌&&◌, ◌==◌, Some, None, List, [], ◌∷◌, ◌++◌, length, fold, slice_index_or, slice_set, ◌⊎◌, inl, inr, refl, sym, ap, subst, ◌∙◌}
use Rattle.std.proofs.lemmas.List.{set_past}
use Rattle.std.proofs.lemmas.List.Folds.{position_or_len-set}
use Rattle.std.proofs.lemmas.List.Sums.{fold-append, passes_at_first}
use Rattle.std.specs.Cmp.Lexicographic.{bytes_decides}
use Rattle.std.specs.List.{list_any, position_or_len}
use Rattle.vfs_base.specs.Path.{Path}
use Rattle.vfs_base.specs.declared.ids.FileId.{FileId}
use Rattle.vfs_base.specs.declared.kinds.FsType.{FsType}
use Rattle.vfs_base.specs.declared.kinds.FsType.TheVariants as fs
use Rattle.vfs_model.specs.Content.{is_mounted, same_type}
use Rattle.vfs_model.specs.FileLife.{Rows, after_end, after_taking, backing_of, bind_row, end_of_unmounted, free_row, no_volume, volume_at, volume_named, with_cell, with_kept}
use Rattle.vfs_model.specs.Homes.{bytes_of, cell_bytes, change_row, file_at, homes_after_bind, homes_after_end, with_cell_bytes}
use Rattle.vfs_model.specs.Namespace.{all_mounts, file_of, generation_at, life_at, same_bytes}
use Rattle.vfs_model.specs.UmountSteps.{empty_mount, keep_names, remove_mount, rows_of_mount}
use Rattle.vfs_model.specs.declared.namespace.Backing.{Backing}
use Rattle.vfs_model.specs.declared.namespace.Backing.TheVariants as backing
use Rattle.vfs_model.specs.declared.namespace.End.{End}
use Rattle.vfs_model.specs.declared.namespace.End.TheVariants as end
use Rattle.vfs_model.specs.declared.namespace.KeptNode.{KeptNode}
use Rattle.vfs_model.specs.declared.namespace.LiveFile.{LiveFile}
use Rattle.vfs_model.specs.declared.namespace.Mount.{Mount}
use Rattle.vfs_model.specs.declared.namespace.Namespace.{Namespace}
use Rattle.vfs_model.specs.declared.namespace.Origin.{Origin}
use Rattle.vfs_model.specs.declared.namespace.Origin.TheVariants as origin
use Rattle.vfs_model.specs.declared.namespace.RowChange.{RowChange}
use Rattle.vfs_model.specs.declared.namespace.RowChange.TheVariants as change
use Rattle.vfs_model.specs.declared.world.FileState.{FileState}
use Rattle.vfs_model.specs.declared.world.Homes.{Homes}
use Rattle.vfs_model.specs.declared.world.WorldState.{WorldState}
use Rattle.world_laws.proofs.lists.Filters.{none-filtered}
use Rattle.world_laws.proofs.lists.Lists.{below-or-past, neither, nor-first, nor-second, set-there}
use Rattle.world_laws.proofs.parts.AtHome.{no-cell}
use Rattle.world_laws.proofs.parts.Taking.{cell-kept, cell-named, set-at}

-- it is a mount of the volume of this name
abbrev pub is_of_volume : List ℕ → Mount → Bool
is_of_volume name mount = same_type mount.fs fs.Cell && same_bytes mount.source name

-- what the volume keeps is as it was: its names, and the bytes that lie on its cells; and it is not mounted
pub record Untouched (name : List ℕ) (n m : Namespace) (changes : List RowChange) : Type 0 where
  pub place : (word : List ℕ) → volume_named m word ≡ volume_named n word
  pub kept : (volume_at m (volume_named n name)).kept ≡ (volume_at n (volume_named n name)).kept
  pub off : is_mounted m fs.Cell name ≡ false
  pub bytes : (v : WorldState) (cell : ℕ) → cell_bytes (fold change_row v changes).homes (volume_named n name) cell ≡ cell_bytes v.homes (volume_named n name) cell

-- no live file lies on the volume
abbrev pub IsBare : List ℕ → Namespace → Namespace → Type 0
IsBare name n m = (row cell : ℕ) → backing_of (life_at m row) ≢ backing.Cell (volume_named n name) cell

pub untouched-same : (name : List ℕ) (n : Namespace) → is_mounted n fs.Cell name ≡ false → Untouched name n n []
untouched-same name n off = record { place = λ word. refl; kept = refl; off = off; bytes = λ v cell. refl }

-- volumes of other names are other ones, or there is none of the name
pub other-volume : (m : Namespace) (source name : List ℕ) → source ≢ name → (volume_named m source ≢ volume_named m name) ⊎ (length m.volumes ≤ volume_named m source)
other-volume m source name differ = elim (below-or-past (volume_named m source) (length m.volumes)) [
  | inr past ↦ inr past
  | inl l ↦ inl (λ e.
      let own : (volume_at m (volume_named m source)).name ≡ source =
      (bytes_decides (volume_at m (volume_named m source)).name source).0 (passes_at_first (λ v. same_bytes v.name source) m.volumes no_volume l) in
      let other : (volume_at m (volume_named m name)).name ≡ name =
      (bytes_decides (volume_at m (volume_named m name)).name name).0 (passes_at_first (λ v. same_bytes v.name name) m.volumes no_volume (subst (λ k. k < length m.volumes) e l)) in
      differ (sym own ∙ ap (λ k. (volume_at m k).name) e ∙ other))
]

module _ (name : List ℕ) (n : Namespace) where
  abbrev volume : ℕ
  volume = volume_named n name

  -- it hangs on mounts and volumes alone
  pub untouched-beside : (m other : Namespace) (changes : List RowChange) → all_mounts other ≡ all_mounts m → other.volumes ≡ m.volumes → Untouched name n m changes → Untouched name n other changes
  untouched-beside m other changes mounts volumes u = record {
    place = λ word. ap (position_or_len (λ v. same_bytes v.name word)) volumes ∙ u.place word;
    kept = ap (λ all. (slice_index_or all (volume_named n name) no_volume).kept) volumes ∙ u.kept;
    off = ap (list_any (is_of_volume name)) mounts ∙ u.off;
    bytes = u.bytes;
  }

  untouched-cell : (b : Bool) (m : Namespace) (other cell : ℕ) (changes : List RowChange) → Untouched name n m changes → Untouched name n (with_cell b m other cell) changes
  untouched-cell b m other cell changes u = record {
    place = λ word. cell-named b m other cell word ∙ u.place word;
    kept = cell-kept b m other cell (volume_named n name) ∙ u.kept;
    off = u.off;
    bytes = u.bytes;
  }

  -- another volume keeps other names
  pub untouched-named : (m : Namespace) (source : List ℕ) (names : List (Path × KeptNode)) (changes : List RowChange) → source ≢ name → Untouched name n m changes →
      Untouched name n (with_kept m (volume_named m source) names) changes
  untouched-named m source names changes differ u = record {
    place = λ word. position_or_len-set (λ v. same_bytes v.name word) m.volumes (volume_named m source) (record (volume_at m (volume_named m source)) { kept = names }) no_volume refl ∙ u.place word;
    kept = elim (other-volume m source name differ) [
      | inr past ↦ ap (λ all. (slice_index_or all (volume_named n name) no_volume).kept) (set_past m.volumes (volume_named m source) (record (volume_at m (volume_named m source)) { kept = names }) past)
      | inl apart ↦ ap (λ v. v.kept) (set-there m.volumes (volume_named m source) (volume_named n name) (record (volume_at m (volume_named m source)) { kept = names }) no_volume
          (λ e. apart (sym e ∙ sym (u.place name))))
    ] ∙ u.kept;
    off = u.off;
    bytes = u.bytes;
  }

  -- a change of a row more
  untouched-change : (m : Namespace) (changes : List RowChange) (more : RowChange) →
      ((v : WorldState) (cell : ℕ) → cell_bytes (change_row v more).homes (volume_named n name) cell ≡ cell_bytes v.homes (volume_named n name) cell) →
      Untouched name n m changes → Untouched name n m (changes ++ more ∷ [])
  untouched-change m changes more h u = record {
    place = u.place;
    kept = u.kept;
    off = u.off;
    bytes = λ v cell. ap (λ w. cell_bytes w.homes (volume_named n name) cell) (fold-append change_row v changes (more ∷ [])) ∙ h (fold change_row v changes) cell ∙ u.bytes v cell;
  }

  -- bytes that are put on a cell of another volume
  other-bytes : (homes : Homes) (other at cell : ℕ) (bytes : List ℕ) → other ≢ volume_named n name → cell_bytes (with_cell_bytes homes other at bytes) (volume_named n name) cell ≡ cell_bytes homes (volume_named n name) cell
  other-bytes homes other at cell bytes apart = ap (λ cells. slice_index_or cells cell []) (set-there homes.cells other (volume_named n name) (slice_set (slice_index_or homes.cells other []) at bytes) [] (λ e. apart (sym e)))

  -- a row's file comes to an end that leaves nothing on the volume
  abbrev pub IsAway : End → Type 0
  IsAway ending = (cell : ℕ) → ending ≢ end.Kept (volume_named n name) cell

  end-bytes : (homes : Homes) (f : FileState) (ending : End) → IsAway ending → (cell : ℕ) → cell_bytes (homes_after_end homes f ending) (volume_named n name) cell ≡ cell_bytes homes (volume_named n name) cell
  end-bytes homes f end.Nothing away cell = refl
  end-bytes homes f (end.Spare other at) away cell = refl
  end-bytes homes f (end.Device device) away cell = refl
  end-bytes homes f (end.Kept other at) away cell = other-bytes homes other at cell (bytes_of f) (λ e. away at (ap (λ k. end.Kept k at) e))

  end-untouched : (m : Namespace) (ending : End) (changes : List RowChange) → Untouched name n m changes → Untouched name n (after_end m ending) changes
  end-untouched m end.Nothing changes u = u
  end-untouched m (end.Spare other at) changes u = untouched-cell true m other at changes u
  end-untouched m (end.Kept other at) changes u = u
  end-untouched m (end.Device device) changes u = untouched-beside m (after_end m (end.Device device)) changes refl refl u

  pub freed-untouched : (ending : Backing → End) (rows : Rows) (row : ℕ) → IsAway (ending (backing_of (life_at rows.next row))) → Untouched name n rows.next rows.changes →
      Untouched name n (free_row ending rows row).next (free_row ending rows row).changes
  unfolding free_row
  freed-untouched ending rows row away u =
      let m = rows.next in
      let e = ending (backing_of (life_at m row)) in
      let without = record m { live_files = slice_set m.live_files (row - 1) None } in
      untouched-change (after_end without e) rows.changes (change.Free (file_of m row) e) (λ v cell. end-bytes v.homes (file_at v row) e away cell)
      (end-untouched without e rows.changes (untouched-beside m without rows.changes refl refl u))

  -- a row takes a file that lies on no cell of the volume at home
  abbrev pub BeginsAway : Origin → Type 0
  BeginsAway begins = (cell : ℕ) → begins ≢ origin.Cell (volume_named n name) cell

  bind-bytes : (homes : Homes) (begins : Origin) → BeginsAway begins → (cell : ℕ) → cell_bytes (homes_after_bind homes begins) (volume_named n name) cell ≡ cell_bytes homes (volume_named n name) cell
  bind-bytes homes origin.Empty away cell = refl
  bind-bytes homes (origin.Rom place path) away cell = refl
  bind-bytes homes (origin.NewCell other at) away cell = refl
  bind-bytes homes (origin.Device device) away cell = refl
  bind-bytes homes (origin.Cell other at) away cell = other-bytes homes other at cell [] (λ e. away at (ap (λ k. origin.Cell k at) e))

  taken-untouched : (m : Namespace) (b : Backing) (changes : List RowChange) → Untouched name n m changes → Untouched name n (after_taking m b) changes
  taken-untouched m backing.Memory changes u = u
  taken-untouched m (backing.Cell other at) changes u = untouched-cell false m other at changes u
  taken-untouched m (backing.Device device) changes u = untouched-beside m (after_taking m (backing.Device device)) changes refl refl u

  pub bound-untouched : (m : Namespace) (row : ℕ) (life : LiveFile) (id : FileId) (begins : Origin) (changes : List RowChange) → BeginsAway begins → Untouched name n m changes →
      Untouched name n (bind_row m row life) (changes ++ change.Bind id begins ∷ [])
  unfolding bind_row
  bound-untouched m row life id begins changes away u =
      let bound = record m { live_files = slice_set m.live_files (row - 1) (Some life); generations = slice_set m.generations (row - 1) (generation_at m row + 1) } in
      untouched-change (after_taking bound life.backing) changes (change.Bind id begins) (λ v cell. bind-bytes v.homes begins away cell)
      (taken-untouched bound life.backing changes (untouched-beside m bound changes refl refl u))

  -- a row that is freed leaves no file on the volume
  bare-end : (m : Namespace) (ending : End) → IsBare name n m → IsBare name n (after_end m ending)
  bare-end m end.Nothing bare = bare
  bare-end m (end.Spare other at) bare = bare
  bare-end m (end.Kept other at) bare = bare
  bare-end m (end.Device device) bare = bare

  pub bare-freed : (ending : Backing → End) (rows : Rows) (row : ℕ) → IsBare name n rows.next → IsBare name n (free_row ending rows row).next
  unfolding free_row
  bare-freed ending rows row bare =
      let m = rows.next in
      bare-end (record m { live_files = slice_set m.live_files (row - 1) None }) (ending (backing_of (life_at m row)))
      (λ other cell. set-at (λ life. backing_of life ≢ backing.Cell (volume_named n name) cell) m.live_files (row - 1) (other - 1) None None (λ e. no-cell (volume_named n name) cell) (bare other cell))

  -- rows on the way through a step in which the volume is left alone
  pub record Passes (rows : Rows) : Type 0 where
    pub untouched : Untouched name n rows.next rows.changes
    pub bare : IsBare name n rows.next

  pub freed-passes : (ending : Backing → End) → ((b : Backing) → ((cell : ℕ) → b ≢ backing.Cell (volume_named n name) cell) → IsAway (ending b)) →
      (left : List ℕ) (rows : Rows) → Passes rows → Passes (fold (free_row ending) rows left)
  freed-passes ending away [] rows p = p
  freed-passes ending away (row ∷ left) rows p = freed-passes ending away left (free_row ending rows row) (record {
    untouched = freed-untouched ending rows row (away (backing_of (life_at rows.next row)) (λ cell. p.bare row cell)) p.untouched;
    bare = bare-freed ending rows row p.bare;
  })

  unmounted-away : (b : Backing) → ((cell : ℕ) → b ≢ backing.Cell (volume_named n name) cell) → IsAway (end_of_unmounted b)
  unmounted-away backing.Memory other cell e = absurd (cc)
  unmounted-away (backing.Device device) other cell e = absurd (cc)
  unmounted-away (backing.Cell v c) other cell e = other c (ap (λ k. backing.Cell k c) (volume-of e))
    where
      place : End → ℕ
      place end.Nothing = v
      place (end.Spare w d) = w
      place (end.Kept w d) = w
      place (end.Device d) = v

      volume-of : end.Kept v c ≡ end.Kept (volume_named n name) cell → v ≡ volume_named n name
      volume-of h = ap place h

  -- a mount of another source
  kept-passes : (rows : Rows) (mount : Mount) (f : FsType) → mount.fs ≡ f → is_of_volume name mount ≡ false → Passes rows → Passes (record rows { next = keep_names rows.next mount f })
  kept-passes rows mount fs.Tmp e other p = record { untouched = p.untouched; bare = p.bare }
  kept-passes rows mount fs.Rom e other p = record { untouched = p.untouched; bare = p.bare }
  kept-passes rows mount fs.Dev e other p = record { untouched = p.untouched; bare = p.bare }
  kept-passes rows mount fs.Cell e other p = record {
    untouched = untouched-named rows.next mount.source _ rows.changes (λ h.
        let none : same_bytes mount.source name ≡ false = sym (ap (λ t. same_type t fs.Cell && same_bytes mount.source name) e) ∙ other in
        let yes = (bytes_decides mount.source name).1 h in
        absurd (cc)) p.untouched;
    bare = p.bare;
  }

  pub emptied-passes : (rows : Rows) (mount : Mount) → is_of_volume name mount ≡ false → Passes rows → Passes (empty_mount rows mount)
  unfolding empty_mount
  emptied-passes rows mount other p =
      let kept = kept-passes rows mount mount.fs refl other p in
      freed-passes end_of_unmounted unmounted-away (rows_of_mount rows.next mount.number) _ (record {
        untouched = untouched-beside (keep_names rows.next mount mount.fs) _ rows.changes refl refl kept.untouched;
        bare = kept.bare;
      })

  pub removed-passes : (rows : Rows) (mount : Mount) → is_of_volume name mount ≡ false → Passes rows → Passes (remove_mount rows mount)
  unfolding remove_mount
  removed-passes rows mount other p =
      let e = emptied-passes rows mount other p in
      let m = (empty_mount rows mount).next in
      record {
        untouched = record {
          place = e.untouched.place;
          kept = e.untouched.kept;
          off = neither (is_of_volume name m.root) _ (nor-first (is_of_volume name m.root) (list_any (is_of_volume name) m.mounts) e.untouched.off)
              (none-filtered (is_of_volume name) (λ x. not (x.number == mount.number)) m.mounts (nor-second (is_of_volume name m.root) (list_any (is_of_volume name) m.mounts) e.untouched.off));
          bytes = e.untouched.bytes;
        };
        bare = e.bare;
      }

  pub all-removed-pass : (left : List Mount) (rows : Rows) → list_any (is_of_volume name) left ≡ false → Passes rows → Passes (fold remove_mount rows left)
  all-removed-pass [] rows none p = p
  all-removed-pass (mount ∷ left) rows none p =
      all-removed-pass left (remove_mount rows mount) (nor-second (is_of_volume name mount) (list_any (is_of_volume name) left) none)
      (removed-passes rows mount (nor-first (is_of_volume name mount) (list_any (is_of_volume name) left) none) p)
