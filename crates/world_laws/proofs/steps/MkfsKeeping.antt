-- Formatting a volume keeps what holds.
use Rattle.std.proofs.Common.{◌≡◌, ◌≢◌, ℕ, ◌+◌, ◌<◌, Bool, true, false, ◌&&◌, ◌==◌, Option, Some, None, IsSomeAnd, List, [], length, replicate, slice_index_or, ◌⊎◌, inl, inr, refl, sym, ap, subst, ◌∙◌, arith}
use Rattle.std.proofs.lemmas.List.{get_or-replicate, length-replicate, length-set}
use Rattle.std.proofs.lemmas.List.Folds.{position_or_len-set}
use Rattle.std.proofs.lemmas.List.Sums.{passes_at_first}
use Rattle.std.specs.Cmp.Lexicographic.{bytes_decides}
use Rattle.std.specs.List.{list_any}
use Rattle.std.specs.Prelude.{count_by}
use Rattle.vfs_base.specs.declared.kinds.FsType.TheVariants as fs
use Rattle.vfs_model.specs.Boxes.{cell_files, fits_kind, is_backed_by, is_cell_mount, is_kept_dir, is_kept_on, lies_on_cell, one_if}
use Rattle.vfs_model.specs.Consistency.{IsClosedTree, LivesFit, fits_mount, mount_numbered, same_kind}
use Rattle.vfs_model.specs.Content.{is_mounted, same_type}
use Rattle.vfs_model.specs.FileLife.{no_volume, volume_at, volume_named}
use Rattle.vfs_model.specs.Namespace.{all_mounts, life_at, same_bytes}
use Rattle.vfs_model.specs.OpenStep.{kind_of}
use Rattle.vfs_model.specs.UmountSteps.{format_volume}
use Rattle.vfs_model.specs.declared.namespace.Backing.{Backing}
use Rattle.vfs_model.specs.declared.namespace.Backing.TheVariants as backing
use Rattle.vfs_model.specs.declared.namespace.LiveFile.{LiveFile}
use Rattle.vfs_model.specs.declared.namespace.Mount.{Mount}
use Rattle.vfs_model.specs.declared.namespace.Namespace.{Namespace}
use Rattle.world_laws.proofs.parts.Binding.{rest-beside, rest-of, rest-stands}
use Rattle.world_laws.proofs.lists.Counting.{none-count}
use Rattle.world_laws.proofs.lists.Lists.{any-place, place-any, same-number, same-or-other, set-here, set-there, true-or-false}
use Rattle.world_laws.proofs.lists.Passing.{and-both, and-first, and-second}
use Rattle.world_laws.proofs.parts.Standing.{Nothing, Stands}
use Rattle.world_laws.proofs.parts.Taking.{set-at, sources-beside}
use Rattle.world_laws.proofs.steps.UmountKeeping.{found-at}
use Rattle.world_laws.proofs.steps.Vacating.{cell-kind-is, on-cell}

module _ (n : Namespace) (name : List ℕ) (s : Stands Nothing n) (off : is_mounted n fs.Cell name ≡ false) where
  abbrev place : ℕ
  place = volume_named n name

  abbrev formatted : Namespace
  formatted = format_volume n place

  -- no live file lies on the volume
  pub no-life : (cell : ℕ) (row : ℕ) → is_backed_by (lies_on_cell (volume_named n name) cell) (life_at n row) ≡ true → ⊥
  no-life cell row h = by (life_at n row) refl h
    where
      mounted : (life : LiveFile) (mount : Mount) → mount_numbered n life.mount ≡ Some mount → life_at n row ≡ Some life → life.backing ≡ backing.Cell place cell → fits_mount n life mount ≡ true → ⊥
      mounted life mount e there on fits =
          let fit : (same_kind life.kind (kind_of mount.fs) && (place == volume_named n mount.source)) ≡ true = subst (λ b. fits_mount n (record life { backing = b }) mount ≡ true) on fits in
          let same : place ≡ volume_named n mount.source = same-number place (volume_named n mount.source) (and-second (same_kind life.kind (kind_of mount.fs)) _ fit) in
          let cell_mount : mount.fs ≡ fs.Cell = cell-kind-is life place cell mount.fs on (sym (ap fits_kind there) ∙ s.boxes.kinds row) (and-first (same_kind life.kind (kind_of mount.fs)) _ fit) in
          let at = found-at (λ m. m.number == life.mount) (all_mounts n) mount e in
          let within : volume_named n mount.source < length n.volumes =
          subst (λ m. volume_named n m.source < length n.volumes) at.is (s.boxes.sources at.place mount at.within (ap is_cell_mount at.is ∙ ap (λ t. same_type t fs.Cell) cell_mount)) in
          let own : (volume_at n place).name ≡ name =
          (bytes_decides (volume_at n place).name name).0 (passes_at_first (λ v. same_bytes v.name name) n.volumes no_volume (subst (λ k. k < length n.volumes) (sym same) within)) in
          let other : (volume_at n place).name ≡ mount.source =
          ap (λ k. (volume_at n k).name) same ∙ (bytes_decides (volume_at n (volume_named n mount.source)).name mount.source).0 (passes_at_first (λ v. same_bytes v.name mount.source) n.volumes no_volume within) in
          let yes : is_mounted n fs.Cell name ≡ true =
          place-any (λ m. same_type m.fs fs.Cell && same_bytes m.source name) (all_mounts n) at.place mount at.within
          (ap (λ m. same_type m.fs fs.Cell && same_bytes m.source name) at.is
          ∙ and-both (same_type mount.fs fs.Cell) (same_bytes mount.source name) (ap (λ t. same_type t fs.Cell) cell_mount) ((bytes_decides mount.source name).1 (sym other ∙ own))) in
          absurd (cc)

      found : (life : LiveFile) (mounts : Option Mount) → mount_numbered n life.mount ≡ mounts → life_at n row ≡ Some life → life.backing ≡ backing.Cell place cell → IsSomeAnd mounts (λ m. fits_mount n life m ≡ true) → ⊥
      found life None e there on fits = fits
      found life (Some mount) e there on fits = mounted life mount e there on fits

      by : (x : Option LiveFile) → life_at n row ≡ x → is_backed_by (lies_on_cell place cell) x ≡ true → ⊥
      by None e k = absurd (cc)
      by (Some life) e k = found life (mount_numbered n life.mount) refl e (on-cell place cell life.backing k) (s.live_files row life e)

  none-live_files : (cell : ℕ) → count_by (is_backed_by (lies_on_cell place cell)) n.live_files ≡ 0
  none-live_files cell = none-count (is_backed_by (lies_on_cell place cell)) n.live_files (elim (true-or-false (list_any (is_backed_by (lies_on_cell place cell)) n.live_files)) [
    | inr h ↦ h
    | inl h ↦
        let at = any-place (is_backed_by (lies_on_cell place cell)) n.live_files None h in
        absurd (no-life cell (at.place + 1) (ap (λ k. is_backed_by (lies_on_cell place cell) (slice_index_or n.live_files k None)) (omega arith) ∙ at.holds))
  ])

  abbrev blank_spare : List Bool
  blank_spare = replicate (length (volume_at n place).pages) true

  pub format-pages : (u : ℕ) → (volume_at (format_volume n (volume_named n name)) u).pages ≡ (volume_at n u).pages
  format-pages u =
      set-at (λ v. v.pages ≡ (volume_at n u).pages) n.volumes (volume_named n name) u (record (volume_at n (volume_named n name)) { spare = replicate (length (volume_at n (volume_named n name)).pages) true; kept = [] }) no_volume
      (λ e. ap (λ k. (volume_at n k).pages) (sym e)) refl

  format-name : (u : ℕ) → (volume_at (format_volume n (volume_named n name)) u).name ≡ (volume_at n u).name
  format-name u =
      set-at (λ v. v.name ≡ (volume_at n u).name) n.volumes (volume_named n name) u (record (volume_at n (volume_named n name)) { spare = replicate (length (volume_at n (volume_named n name)).pages) true; kept = [] }) no_volume
      (λ e. ap (λ k. (volume_at n k).name) (sym e)) refl

  pub format-named : (word : List ℕ) → volume_named (format_volume n (volume_named n name)) word ≡ volume_named n word
  format-named word =
      position_or_len-set (λ v. same_bytes v.name word) n.volumes (volume_named n name) (record (volume_at n (volume_named n name)) { spare = replicate (length (volume_at n (volume_named n name)).pages) true; kept = [] }) no_volume refl

  format-other : (u : ℕ) → u ≢ volume_named n name → volume_at (format_volume n (volume_named n name)) u ≡ volume_at n u
  format-other u h = set-there n.volumes (volume_named n name) u (record (volume_at n (volume_named n name)) { spare = replicate (length (volume_at n (volume_named n name)).pages) true; kept = [] }) no_volume h

  format-kept : (u : ℕ) → ((volume_at (format_volume n (volume_named n name)) u).kept ≡ []) ⊎ ((volume_at (format_volume n (volume_named n name)) u).kept ≡ (volume_at n u).kept)
  format-kept u =
      set-at (λ v. (v.kept ≡ []) ⊎ (v.kept ≡ (volume_at n u).kept)) n.volumes (volume_named n name) u (record (volume_at n (volume_named n name)) { spare = replicate (length (volume_at n (volume_named n name)).pages) true; kept = [] }) no_volume
      (λ e. inl refl) (inr refl)

  format-spares : (u : ℕ) → length (volume_at (format_volume n (volume_named n name)) u).spare ≡ length (volume_at (format_volume n (volume_named n name)) u).pages
  format-spares u =
      set-at (λ v. length v.spare ≡ length v.pages) n.volumes (volume_named n name) u (record (volume_at n (volume_named n name)) { spare = replicate (length (volume_at n (volume_named n name)).pages) true; kept = [] }) no_volume
      (λ e. length-replicate (length (volume_at n (volume_named n name)).pages) true) (s.boxes.spares u)

  empty-closed : IsClosedTree is_kept_dir []
  empty-closed = record { sorted = tt; rootless = refl; parents = λ front word h. absurd (cc); bounded = omega arith }

  format-fits : (life : LiveFile) (m : Mount) → fits_mount (format_volume n (volume_named n name)) life m ≡ fits_mount n life m
  format-fits life m = by life.backing
    where
      by : (b : Backing) → fits_mount (format_volume n (volume_named n name)) (record life { backing = b }) m ≡ fits_mount n (record life { backing = b }) m
      by backing.Memory = refl
      by (backing.Device device) = refl
      by (backing.Cell volume cell) = ap (λ x. same_kind life.kind (kind_of m.fs) && (volume == x)) (format-named m.source)

  format-live_files : LivesFit (format_volume n (volume_named n name))
  format-live_files row life h = by (mount_numbered n life.mount) (s.live_files row life h)
    where
      by : (found : Option Mount) → IsSomeAnd found (λ m. fits_mount n life m ≡ true) → IsSomeAnd found (λ m. fits_mount (format_volume n (volume_named n name)) life m ≡ true)
      by None k = k
      by (Some m) k = format-fits life m ∙ k

  format-cells : (volume cell : ℕ) → volume < length (format_volume n (volume_named n name)).volumes → cell < length (volume_at (format_volume n (volume_named n name)) volume).pages →
      cell_files (format_volume n (volume_named n name)) volume cell + one_if (slice_index_or (volume_at (format_volume n (volume_named n name)) volume).spare cell false) ≡ 1
  format-cells volume cell v c =
      let within : volume < length n.volumes = subst (λ x. volume < x) (length-set n.volumes (volume_named n name) _) v in
      let inside : cell < length (volume_at n volume).pages = subst (λ pages. cell < length pages) (format-pages volume) c in
      elim (same-or-other volume (volume_named n name)) [
        | inr h ↦
            let same = format-other volume h in
            let placed = s.boxes.cells volume cell within inside in
            let kept = ap (λ x. count_by (λ entry. is_kept_on cell entry.1) x.kept) same in
            let spare = ap (λ x. one_if (slice_index_or x.spare cell false)) same in
            omega (arith, placed, kept, spare)
        | inl e ↦
            let own = subst (λ x. x < length n.volumes) e within in
            let is : volume_at (format_volume n (volume_named n name)) volume ≡ record (volume_at n (volume_named n name)) { spare = replicate (length (volume_at n (volume_named n name)).pages) true; kept = [] } =
            ap (volume_at (format_volume n (volume_named n name))) e ∙ set-here n.volumes (volume_named n name) (record (volume_at n (volume_named n name)) { spare = replicate (length (volume_at n (volume_named n name)).pages) true; kept = [] }) no_volume own in
            let kept : count_by (λ entry. is_kept_on cell entry.1) (volume_at (format_volume n (volume_named n name)) volume).kept ≡ 0 = ap (λ x. count_by (λ entry. is_kept_on cell entry.1) x.kept) is in
            let spare : one_if (slice_index_or (volume_at (format_volume n (volume_named n name)) volume).spare cell false) ≡ 1 =
            ap (λ x. one_if (slice_index_or x.spare cell false)) is ∙ ap one_if (get_or-replicate (length (volume_at n (volume_named n name)).pages) cell true false (subst (λ x. cell < length (volume_at n x).pages) e inside)) in
            let live_files = ap (λ x. count_by (is_backed_by (lies_on_cell x cell)) n.live_files) e in
            let none = none-live_files cell in
            omega (arith, kept, spare, live_files, none)
      ]

  pub format-stands : Stands Nothing (format_volume n (volume_named n name))
  format-stands =
      rest-stands Nothing (format_volume n (volume_named n name)) (rest-beside Nothing n (format_volume n (volume_named n name)).volumes n.devices (rest-of Nothing n s))
      (record {
        cells = format-cells;
        spares = format-spares;
        devices = s.boxes.devices;
        kinds = s.boxes.kinds;
        mounted = λ u h. elim (format-kept u) [
          | inl e ↦ e
          | inr e ↦ e ∙ s.boxes.mounted u (sym (ap (is_mounted n fs.Cell) (format-name u)) ∙ h)
        ];
        kept = λ u. elim (format-kept u) [
          | inl e ↦ subst (IsClosedTree is_kept_dir) (sym e) empty-closed
          | inr e ↦ subst (IsClosedTree is_kept_dir) (sym e) (s.boxes.kept u)
        ];
        sources_differ = s.boxes.sources_differ;
        sources = sources-beside n (format_volume n (volume_named n name)) refl format-named (length-set n.volumes (volume_named n name) _) s.boxes.sources;
        named = λ u. elim (format-kept u) [
          | inl e ↦ inl e
          | inr e ↦ elim (s.boxes.named u) [
            | inl h ↦ inl (e ∙ h)
            | inr h ↦ inr (format-named _ ∙ ap (volume_named n) (format-name u) ∙ h)
          ]
        ];
      }) format-live_files
