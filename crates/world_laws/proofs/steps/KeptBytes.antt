-- The bytes of a mount's files lie on their cells after the mount has gone.
use Rattle.std.proofs.Common.{◌≡◌, ◌≢◌, ℕ, ◌-◌, ◌<◌, ◌≤◌, List, [], ◌∷◌, ◌++◌, length, map, fold, None, ◌*◌, slice_index_or, slice_set, ◌⊎◌, inl, inr, refl, sym, ap, subst, ◌∙◌, arith, append_assoc}
use Rattle.std.proofs.lemmas.List.{append-nil, get_or_past, length-set}
use Rattle.vfs_base.specs.declared.limits.TheConstants.{PAGE_SIZE}
use Rattle.vfs_model.proofs.Rests.{changed-namespace}
use Rattle.vfs_model.specs.Boxes.{IsConsistent}
use Rattle.vfs_model.specs.FileLife.{after_end, backing_of, end_of_unmounted, free_row, no_volume, volume_at}
use Rattle.vfs_model.specs.Homes.{bytes_of, cell_bytes, cell_capacity, change_row, file_at, homes_after_end}
use Rattle.vfs_model.specs.Namespace.{file_of, generation_at, life_at}
use Rattle.vfs_model.specs.UmountSteps.{remove_mount, rows_of_mount}
use Rattle.vfs_model.specs.declared.namespace.Backing.{Backing}
use Rattle.vfs_model.specs.declared.namespace.Backing.TheVariants as backing
use Rattle.vfs_model.specs.declared.namespace.Mount.{Mount}
use Rattle.vfs_model.specs.declared.namespace.Namespace.{Namespace}
use Rattle.vfs_model.specs.declared.namespace.RowChange.{RowChange}
use Rattle.vfs_model.specs.declared.namespace.RowChange.TheVariants as change
use Rattle.vfs_model.specs.declared.world.FileState.{FileState}
use Rattle.vfs_model.specs.declared.world.FileState.TheVariants as file
use Rattle.vfs_model.specs.declared.world.Homes.{Homes}
use Rattle.vfs_model.specs.declared.world.WorldState.{WorldState}
use Rattle.world_laws.proofs.lists.Leaving.{in-left}
use Rattle.world_laws.proofs.lists.Lists.{below-or-past, set-here, set-there}
use Rattle.world_laws.proofs.parts.Agreeing.{agreed-length}
use Rattle.world_laws.proofs.parts.AtHome.{bytes-set}
use Rattle.world_laws.proofs.parts.Emptying.{AllAbove, InRows, RowsLeft, above-apart, backed, rows-differ, still-life}
use Rattle.world_laws.proofs.parts.Freeing.{without_life}
use Rattle.world_laws.proofs.parts.Standing.{Nothing, Stands, stands-of}
use Rattle.world_laws.proofs.parts.Taking.{set-at}
use Rattle.world_laws.proofs.steps.Keeping.{Keeps}
use Rattle.world_laws.proofs.steps.MountRemoval.{removal, removed}
use Rattle.world_laws.proofs.steps.Unmounting.{MayLeave, left-rows, left-same, left_by}
use Rattle.world_laws.proofs.steps.Vacating.{above-in, same-cell}
use Rattle.world_laws.proofs.steps.WorldSteps.{changed-consistent}

-- rows in their order
abbrev Rising : List ℕ → Type 0
Rising [] = Unit {0}
Rising (r ∷ rows) = (0 < r) × AllAbove r rows × Rising rows

rising : (number : ℕ) (m : Namespace) (rows : List ℕ) → RowsLeft number m rows → Rising rows
rising number m [] left = tt
rising number m (r ∷ rows) left = (left.0, left.3, rising number m rows left.4)

-- how a row's file comes to its end where its mount goes
abbrev ending : Namespace → ℕ → RowChange
ending m row = change.Free (file_of m row) (end_of_unmounted (backing_of (life_at m row)))

-- and so the rows behind one that was freed
same-endings : (m : Namespace) (row : ℕ) (b : Backing) (rows : List ℕ) → 0 < row → AllAbove row rows →
    map (ending (after_end (without_life m row) (end_of_unmounted b))) rows ≡ map (ending m) rows
same-endings m row b [] l above = refl
same-endings m row b (r ∷ rows) l above =
    ap (λ first. first ∷ map (ending (after_end (without_life m row) (end_of_unmounted b))) rows) (same b)
    ∙ ap (λ rest. ending m r ∷ rest) (same-endings m row b rows l above.1)
  where
    life : life_at (without_life m row) r ≡ life_at m r
    life = still-life m row r (rows-differ row r l above.0)

    same : (b : Backing) → ending (after_end (without_life m row) (end_of_unmounted b)) r ≡ ending m r
    same backing.Memory = ap (λ found. change.Free (file_of m r) (end_of_unmounted (backing_of found))) life
    same (backing.Cell volume cell) = ap (λ found. change.Free (file_of m r) (end_of_unmounted (backing_of found))) life
    same (backing.Device device) = ap (λ found. change.Free (file_of m r) (end_of_unmounted (backing_of found))) life

-- the changes of the rows, as the first namespace has them
endings : (rows : List ℕ) (m : Namespace) (changes : List RowChange) → Rising rows →
    (fold (free_row end_of_unmounted) (record { next = m; changes = changes }) rows).changes ≡ changes ++ map (ending m) rows
unfolding free_row
endings [] m changes up = sym (append-nil changes)
endings (r ∷ rows) m changes up =
    let b = backing_of (life_at m r) in
    endings rows (after_end (without_life m r) (end_of_unmounted b)) (changes ++ ending m r ∷ []) up.2
    ∙ ap (λ rest. (changes ++ ending m r ∷ []) ++ rest) (same-endings m r b rows up.0 up.1)
    ∙ append_assoc changes (ending m r ∷ []) (map (ending m) rows)

module _ (m : Namespace) (volume cell : ℕ) where
  -- a file of another cell
  ended-other : (homes : Homes) (f : FileState) (b : Backing) → b ≢ backing.Cell volume cell → cell_bytes (homes_after_end homes f (end_of_unmounted b)) volume cell ≡ cell_bytes homes volume cell
  ended-other homes f backing.Memory other = refl
  ended-other homes f (backing.Device device) other = refl
  ended-other homes f (backing.Cell v c) other = elim (bytes-set homes v c volume cell (bytes_of f)) [
    | inl same ↦ same
    | inr is ↦ absurd (other (ap (λ x. backing.Cell x c) (sym is.0) ∙ ap (backing.Cell volume) (sym is.1)))
  ]

  ended-sizes : (homes : Homes) (f : FileState) (b : Backing) →
      (length (homes_after_end homes f (end_of_unmounted b)).cells ≡ length homes.cells)
      × (length (slice_index_or (homes_after_end homes f (end_of_unmounted b)).cells volume []) ≡ length (slice_index_or homes.cells volume []))
  ended-sizes homes f backing.Memory = (refl, refl)
  ended-sizes homes f (backing.Device device) = (refl, refl)
  ended-sizes homes f (backing.Cell v c) = (
    length-set homes.cells v (slice_set (slice_index_or homes.cells v []) c (bytes_of f)),
    set-at (λ cells. length cells ≡ length (slice_index_or homes.cells volume [])) homes.cells v volume (slice_set (slice_index_or homes.cells v []) c (bytes_of f)) []
        (λ e. length-set (slice_index_or homes.cells v []) c (bytes_of f) ∙ ap (λ k. length (slice_index_or homes.cells k [])) (sym e)) refl,
  )

  rest-ended : (rows : List ℕ) (v : WorldState) → ((row : ℕ) → InRows rows row → backing_of (life_at m row) ≢ backing.Cell volume cell) →
      cell_bytes (fold change_row v (map (ending m) rows)).homes volume cell ≡ cell_bytes v.homes volume cell
  rest-ended [] v none = refl
  rest-ended (r ∷ rows) v none =
      rest-ended rows (change_row v (ending m r)) (λ row i. none row (inr i)) ∙ ended-other v.homes (file_at v r) (backing_of (life_at m r)) (none r (inl refl))

  own-ended : (homes : Homes) (f : FileState) (b : Backing) → b ≡ backing.Cell volume cell → volume < length homes.cells → cell < length (slice_index_or homes.cells volume []) →
      cell_bytes (homes_after_end homes f (end_of_unmounted b)) volume cell ≡ bytes_of f
  own-ended homes f b e l k =
      ap (λ x. cell_bytes (homes_after_end homes f (end_of_unmounted x)) volume cell) e
      ∙ ap (λ cells. slice_index_or cells cell []) (set-here homes.cells volume (slice_set (slice_index_or homes.cells volume []) cell (bytes_of f)) [] l)
      ∙ set-here (slice_index_or homes.cells volume []) cell (bytes_of f) [] k

  -- the bytes of the one file of the cell come home
  come-home : (rows : List ℕ) (v : WorldState) (row : ℕ) → Rising rows → InRows rows row → backing_of (life_at m row) ≡ backing.Cell volume cell →
      ((other : ℕ) → InRows rows other → backing_of (life_at m other) ≡ backing.Cell volume cell → other ≡ row) →
      volume < length v.homes.cells → cell < length (slice_index_or v.homes.cells volume []) →
      cell_bytes (fold change_row v (map (ending m) rows)).homes volume cell ≡ bytes_of (file_at v row)
  come-home [] v row up i own = absurd i
  come-home (r ∷ rows) v row up (inl e) own = λ one l k.
      rest-ended rows (change_row v (ending m r)) (λ other i h. above-apart r other rows up.1 i (one other (inr i) h ∙ e))
      ∙ own-ended v.homes (file_at v r) (backing_of (life_at m r)) (ap (λ x. backing_of (life_at m x)) (sym e) ∙ own) l k
      ∙ ap (λ x. bytes_of (file_at v x)) (sym e)
  come-home (r ∷ rows) v row up (inr i) own = λ one l k.
      let sizes = ended-sizes v.homes (file_at v r) (backing_of (life_at m r)) in
      come-home rows (change_row v (ending m r)) row up.2 i own (λ other j h. one other (inr j) h) (subst (λ x. volume < x) (sym sizes.0) l) (subst (λ x. cell < x) (sym sizes.1) k)
      ∙ ap bytes_of (set-there v.files (r - 1) (row - 1) (file.Unbound (file_of m r).generation) (file.Unbound 0) (rows-differ r row up.0 (above-in r row rows up.1 i)))

-- a cell that there is not has no room
no-room : (n : Namespace) (volume cell : ℕ) → (length n.volumes ≤ volume) ⊎ (length (volume_at n volume).pages ≤ cell) → cell_capacity n volume cell ≡ 0
no-room n volume cell (inl past) = ap (λ found. PAGE_SIZE * slice_index_or found.pages cell 0) (get_or_past n.volumes volume no_volume past)
no-room n volume cell (inr past) = ap (λ pages. PAGE_SIZE * pages) (get_or_past (volume_at n volume).pages cell 0 past)

no-bytes : (bytes : List ℕ) → length bytes ≤ 0 → bytes ≡ []
no-bytes [] l = refl
no-bytes (b ∷ bytes) l = absurd (omega (arith, l))

-- the world that a mount leaves
abbrev pub unmounted_world : WorldState → Mount → WorldState
unmounted_world w mount =
    let rows = remove_mount (record { next = w.namespace; changes = [] }) mount in
    fold change_row (record w { namespace = rows.next }) rows.changes

module _ (w : WorldState) (mount : Mount) (c : IsConsistent w) (may : MayLeave w.namespace mount) where
  s : Stands Nothing w.namespace
  s = stands-of w c

  abbrev left : WorldState
  left = unmounted_world w mount

  left-keeps : Keeps w.namespace (remove_mount (record { next = w.namespace; changes = [] }) mount).next (remove_mount (record { next = w.namespace; changes = [] }) mount).changes
  left-keeps = let out = removal w.namespace mount [] s may in record { stands = out.stands; pages = out.pages; files = λ v a. out.files v a }

  pub left-consistent : IsConsistent (unmounted_world w mount)
  left-consistent =
      let rows = remove_mount (record { next = w.namespace; changes = [] }) mount in
      changed-consistent w rows.next rows.changes c left-keeps

  abbrev rows : List ℕ
  rows = rows_of_mount w.namespace mount.number

  freed : (remove_mount (record { next = w.namespace; changes = [] }) mount).changes ≡ map (ending (left_by w.namespace mount mount.fs)) (rows_of_mount w.namespace mount.number)
  freed =
      ap (λ r. r.changes) (removed w.namespace mount [])
      ∙ endings rows (left_by w.namespace mount mount.fs) [] (rising mount.number w.namespace rows (left-rows w.namespace mount s may))

  -- the bytes of a file of the mount lie on its cell then
  pub bytes-kept : (row volume cell : ℕ) → InRows (rows_of_mount w.namespace mount.number) row → backing_of (life_at w.namespace row) ≡ backing.Cell volume cell →
      cell_bytes (unmounted_world w mount).homes volume cell ≡ bytes_of (file_at w row)
  bytes-kept row volume cell i own = elim (below-or-past volume (length w.namespace.volumes)) [
    | inr past ↦ neither (no-room w.namespace volume cell (inl past))
    | inl within ↦ elim (below-or-past cell (length (volume_at w.namespace volume).pages)) [
      | inr past ↦ neither (no-room w.namespace volume cell (inr past))
      | inl inside ↦ inside-kept within inside
    ]
  ]
    where
      neither : cell_capacity w.namespace volume cell ≡ 0 → cell_bytes left.homes volume cell ≡ bytes_of (file_at w row)
      neither none =
          let home = left-consistent.cells_fit.home volume cell in
          let out = remove_mount (record { next = w.namespace; changes = [] }) mount in
          let pages : cell_capacity left.namespace volume cell ≡ cell_capacity w.namespace volume cell =
          ap (λ m. cell_capacity m volume cell) (changed-namespace out.changes (record w { namespace = out.next })) ∙ left-keeps.pages volume cell in
          let live = c.cells_fit.live row volume cell own in
          let length = agreed-length (life_at w.namespace row) (generation_at w.namespace row) (file_at w row) (c.rows_agree row) in
          no-bytes (cell_bytes left.homes volume cell) (omega (arith, home, pages, none)) ∙ sym (no-bytes (bytes_of (file_at w row)) (omega (arith, live, length, none)))

      inside-kept : volume < length w.namespace.volumes → cell < length (volume_at w.namespace volume).pages → cell_bytes left.homes volume cell ≡ bytes_of (file_at w row)
      inside-kept within inside =
          let m = left_by w.namespace mount mount.fs in
          let same = (left-same w.namespace mount s may mount.fs).0 in
          let start = record w { namespace = (remove_mount (record { next = w.namespace; changes = [] }) mount).next } in
          ap (λ changes. cell_bytes (fold change_row start changes).homes volume cell) freed
          ∙ come-home m volume cell rows start row (rising mount.number w.namespace rows (left-rows w.namespace mount s may)) i
          (ap (λ live_files. backing_of (slice_index_or live_files (row - 1) None)) same ∙ own)
          (λ other j h.
          let there = sym (ap (λ live_files. backing_of (slice_index_or live_files (other - 1) None)) same) ∙ h in
          let a = in-left mount.number w.namespace rows other (left-rows w.namespace mount s may) j in
          let b = in-left mount.number w.namespace rows row (left-rows w.namespace mount s may) i in
          same-cell w.namespace mount s may volume cell other row within inside a.0 b.0 a.1 b.1
          (backed volume cell (life_at w.namespace other) there) (backed volume cell (life_at w.namespace row) own))
          (subst (λ x. volume < x) (sym c.homes_fit.volumes) within) (subst (λ x. cell < x) (sym (c.homes_fit.cells volume)) inside)
