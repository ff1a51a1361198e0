-- Mounting keeps what holds between steps.
use Rattle.std.proofs.Common.{◌≡◌, ◌≢◌, ℕ, suc, ◌+◌, ◌*◌, ◌<◌, ◌≤◌, Bool, true, false, cond, ◌||◌, ◌&&◌, ◌==◌, Option, Some, None, is_some, IsSomeAnd, List, [], ◌∷◌, ◌++◌, length, map, find, slice_index_or, ◌⊎◌, inl, inr, if◌then◌else◌, refl, sym, ap, subst, ◌∙◌, arith, length-append}
use Rattle.std.proofs.lemmas.List.{get_or_past, length-set, set_past}
use Rattle.std.proofs.lemmas.List.Folds.{find-append, list_any-append, position_or_len-set}
use Rattle.std.proofs.lemmas.List.Sums.{sum_by-cons, count_by-le-length}
use Rattle.std.specs.FinMap.Entries.{find as value_at}
use Rattle.std.specs.List.{list_any}
use Rattle.std.specs.Option.{option_or}
use Rattle.std.specs.Ordering.{eq_by_cmp}
use Rattle.std.specs.Prelude.{count_by}
use Rattle.vfs_base.specs.Path.{Path, path_cmp}
use Rattle.vfs_base.specs.PathLaws.{path_cmp_exact}
use Rattle.vfs_base.specs.declared.kinds.FsType.{FsType}
use Rattle.vfs_base.specs.declared.kinds.FsType.TheVariants as fs
use Rattle.vfs_base.specs.declared.kinds.Kind.{Kind}
use Rattle.vfs_base.specs.declared.kinds.Kind.TheVariants as kind
use Rattle.vfs_model.specs.Boxes.{cell_files, is_backed_by, is_cell_mount, is_kept_dir, is_kept_on, lies_on_cell, lies_on_device, one_if, fits_kind}
use Rattle.vfs_model.specs.Consistency.{IsClosedTree, LivesFit, fits_mount, mount_numbered, same_kind}
use Rattle.vfs_model.specs.Content.{Content, content_of, device_content, file_count, is_mounted, kept_origin, no_rom, rom_at, rom_origin, same_type}
use Rattle.vfs_model.specs.FileLife.{free_rows, no_device, no_volume, volume_at, volume_named, with_kept}
use Rattle.vfs_model.specs.Homes.{cell_capacity}
use Rattle.vfs_model.specs.MountStep.{is_taken, without_kept}
use Rattle.vfs_model.specs.Namespace.{all_mounts, life_at, same_bytes}
use Rattle.vfs_model.specs.OpenStep.{kind_of}
use Rattle.vfs_model.specs.ReferenceSteps.{is_device_kind}
use Rattle.vfs_model.specs.declared.namespace.Backing.{Backing}
use Rattle.vfs_model.specs.declared.namespace.Backing.TheVariants as backing
use Rattle.std.specs.Cmp.Lexicographic.{bytes_decides}
use Rattle.vfs_model.specs.declared.namespace.KeptNode.{KeptNode}
use Rattle.vfs_model.specs.declared.namespace.KeptNode.TheVariants as kept
use Rattle.vfs_model.specs.declared.namespace.LiveFile.{LiveFile}
use Rattle.vfs_model.specs.declared.namespace.Mount.{Mount}
use Rattle.vfs_model.specs.declared.namespace.Namespace.{Namespace}
use Rattle.vfs_model.specs.declared.namespace.Origin.{Origin}
use Rattle.vfs_model.specs.declared.namespace.RomNode.{RomNode}
use Rattle.vfs_model.specs.declared.namespace.RomNode.TheVariants as rom
use Rattle.world_laws.proofs.steps.Adding.{MayMount, named-sources, placed, one-live_files, one-rest, with_one}
use Rattle.world_laws.proofs.parts.Binding.{Rest, rest-beside}
use Rattle.world_laws.proofs.parts.Contents.{AllDevices, IsDevice, IsTree, device-content, empty-tree, kept-tree, rom-tree}
use Rattle.world_laws.proofs.steps.Filling.{AllFit, Fill, Fits, InTree, begins_on, content_shape, pending}
use Rattle.world_laws.proofs.lists.Filters.{PassingDiffer}
use Rattle.world_laws.proofs.parts.FreeRows.{free_count, rows-length}
use Rattle.world_laws.proofs.lists.Lists.{AnyPlace, any-later, below-or-past, found-any, no-place, nor-first, nor-second, number-itself, or-either, same-or-other, same-some, set-here, set-there, equal-is, other-number, true-or-false}
use Rattle.world_laws.proofs.lists.Passing.{and-both, and-first, and-second}
use Rattle.world_laws.proofs.parts.Standing.{IsUsed, Nothing, Stands}
use Rattle.world_laws.proofs.parts.Taking.{BoxesBut, boxes-but, set-at, sources-beside}

-- one of a list passes where the count isn't 0
counted-cons : {X : Type 0} (p : X → Bool) (x : X) (xs : List X) (d : X) (b : Bool) → p x ≡ b → 0 < one_if b + count_by p xs → (0 < count_by p xs → AnyPlace p xs d) → AnyPlace p (x ∷ xs) d
counted-cons p x xs d true e l later = record { place = 0; within = omega arith; holds = e }
counted-cons p x xs d false e l later = any-later p x xs d (later (omega (arith, l)))

pub counted-place : {X : Type 0} (p : X → Bool) (xs : List X) (d : X) → 0 < count_by p xs → AnyPlace p xs d
counted-place p [] d l = absurd (omega (arith, l))
counted-place p (x ∷ xs) d l =
    counted-cons p x xs d (p x) refl (let e : count_by p (x ∷ xs) ≡ one_if (p x) + count_by p xs = sum_by-cons (λ y. one_if (p y)) x xs in omega (arith, e, l)) (counted-place p xs d)

same-kind-is : (a b : Kind) → same_kind a b ≡ true → a ≡ b
same-kind-is kind.Tmp kind.Tmp h = refl
same-kind-is kind.Rom kind.Rom h = refl
same-kind-is kind.Cell kind.Cell h = refl
same-kind-is kind.Chr kind.Chr h = refl
same-kind-is kind.Tmp kind.Rom h = absurd (cc)
same-kind-is kind.Tmp kind.Cell h = absurd (cc)
same-kind-is kind.Tmp kind.Chr h = absurd (cc)
same-kind-is kind.Rom kind.Tmp h = absurd (cc)
same-kind-is kind.Rom kind.Cell h = absurd (cc)
same-kind-is kind.Rom kind.Chr h = absurd (cc)
same-kind-is kind.Cell kind.Tmp h = absurd (cc)
same-kind-is kind.Cell kind.Rom h = absurd (cc)
same-kind-is kind.Cell kind.Chr h = absurd (cc)
same-kind-is kind.Chr kind.Tmp h = absurd (cc)
same-kind-is kind.Chr kind.Rom h = absurd (cc)
same-kind-is kind.Chr kind.Cell h = absurd (cc)

chr-is-dev : (f : FsType) → kind.Chr ≡ kind_of f → f ≡ fs.Dev
chr-is-dev fs.Tmp e = absurd (cc)
chr-is-dev fs.Rom e = absurd (cc)
chr-is-dev fs.Cell e = absurd (cc)
chr-is-dev fs.Dev e = refl

-- a life that has a device is a character device's
pub device-life : (device : ℕ) (life : LiveFile) → lies_on_device device life.backing ≡ true → fits_kind (Some life) ≡ true → life.kind ≡ kind.Chr
device-life device life h fits = by life.backing refl
  where
    chr : (k : Kind) → is_device_kind k ≡ true → k ≡ kind.Chr
    chr kind.Tmp e = absurd (cc)
    chr kind.Rom e = absurd (cc)
    chr kind.Cell e = absurd (cc)
    chr kind.Chr e = refl

    by : (b : Backing) → life.backing ≡ b → life.kind ≡ kind.Chr
    by backing.Memory e = let none = sym (ap (lies_on_device device) e) ∙ h in absurd (cc)
    by (backing.Cell volume cell) e = let none = sym (ap (lies_on_device device) e) ∙ h in absurd (cc)
    by (backing.Device other) e = chr life.kind (subst (λ x. fits_kind (Some (record life { backing = x })) ≡ true) e fits)

-- without a devfs mount each device is at home
pub all-home : (n : Namespace) (source : List ℕ) → Stands Nothing n → is_taken n fs.Dev source ≡ false → (device : ℕ) → device < length n.devices → (slice_index_or n.devices device no_device).is_out ≡ false
all-home n source s free device l = elim (true-or-false (slice_index_or n.devices device no_device).is_out) [
  | inr h ↦ h
  | inl h ↦
      let one : count_by (is_backed_by (lies_on_device device)) n.live_files ≡ 1 = s.boxes.devices device l ∙ ap one_if h in
      absurd (at (counted-place (is_backed_by (lies_on_device device)) n.live_files None (omega (arith, one))))
]
  where
    dev : (life : LiveFile) (found : Option Mount) → mount_numbered n life.mount ≡ found → life.kind ≡ kind.Chr → IsSomeAnd found (λ m. fits_mount n life m ≡ true) → ⊥
    dev life None e k h = h
    dev life (Some m) e k h =
        let same : kind.Chr ≡ kind_of m.fs = sym k ∙ same-kind-is life.kind (kind_of m.fs) (and-first (same_kind life.kind (kind_of m.fs)) _ h) in
        let is : same_type m.fs fs.Dev ≡ true = ap (λ t. same_type t fs.Dev) (chr-is-dev m.fs same) in
        let yes = found-any (λ x. x.number == life.mount) (λ x. same_type x.fs fs.Dev) (all_mounts n) m e is in
        absurd (cc)

    live : (place : ℕ) (found : Option LiveFile) → slice_index_or n.live_files place None ≡ found → is_backed_by (lies_on_device device) found ≡ true → ⊥
    live place None e h = absurd (cc)
    live place (Some life) e h =
        let there : life_at n (suc place) ≡ Some life = ap (λ k. slice_index_or n.live_files k None) (omega arith) ∙ e in
        let fits : fits_kind (Some life) ≡ true = sym (ap fits_kind there) ∙ s.boxes.kinds (suc place) in
        dev life (mount_numbered n life.mount) refl (device-life device life h fits) (s.live_files (suc place) life there)

    at : AnyPlace (is_backed_by (lies_on_device device)) n.live_files None → ⊥
    at found = live found.place (slice_index_or n.live_files found.place None) refl found.holds

-- what is in the devices' content
device-there : (n : Namespace) (p : Path) (o : Option Origin) (content : Content) → AllDevices n content → value_at path_cmp p content ≡ Some o → IsDevice n p o
device-there n p o [] all h = absurd (cc)
device-there n p o (e ∷ content) all h = by (true-or-false (eq_by_cmp path_cmp p e.0)) (λ later. device-there n p o content all.1 later)
  where
    by : (eq_by_cmp path_cmp p e.0 ≡ true) ⊎ (eq_by_cmp path_cmp p e.0 ≡ false) → (value_at path_cmp p content ≡ Some o → IsDevice n p o) → IsDevice n p o
    by (inl k) later =
        let same : e.1 ≡ o = same-some e.1 o (sym (ap (λ b. cond b (Some e.1) (value_at path_cmp p content)) k) ∙ h) in
        subst (λ q. IsDevice n q o) (sym (path_cmp_exact p e.0 (equal-is (path_cmp p e.0) k))) (subst (λ x. IsDevice n e.0 x) same all.0)
    by (inr k) later = later (sym (ap (λ b. cond b (Some e.1) (value_at path_cmp p content)) k) ∙ h)

some-content : (found : Option (Option Origin)) → content_shape found ≢ 0 → (o : Option Origin) × (found ≡ Some o)
some-content None h = absurd (h refl)
some-content (Some o) h = (o, refl)

all-files : (n : Namespace) (content : Content) → AllDevices n content → file_count content ≡ length content
all-files n [] all = refl
all-files n (e ∷ content) all =
    let one : file_count (e ∷ content) ≡ one_if (is_some e.1) + file_count content = sum_by-cons (λ entry. one_if (is_some entry.1)) e content in
    let some : one_if (is_some e.1) ≡ 1 = ap (λ o. one_if (is_some o)) all.0.is in
    let later = all-files n content all.1 in
    omega (arith, one, some, later)

front-empty : (front : Path) (name other : List ℕ) → front ++ name ∷ [] ≡ other ∷ [] → front ≡ []
front-empty [] name other e = refl
front-empty (x ∷ front) name other e =
    let l : length (x ∷ front ++ name ∷ []) ≡ 1 = ap (λ p. length p) e in
    let m : length (x ∷ front ++ name ∷ []) ≡ length (x ∷ front) + 1 = length-append (x ∷ front) (name ∷ []) in
    absurd (omega (arith, l, m))

devices-tree : (n : Namespace) → Stands Nothing n → file_count (device_content n) ≤ free_count n → IsTree (device_content n)
devices-tree n s room = record {
  sorted = (device-content n).sorted;
  rootless = none (value_at path_cmp [] (device_content n)) refl;
  parents = λ front name h.
      let found = some-content (value_at path_cmp (front ++ name ∷ []) (device_content n)) h in
      let device = device-there n (front ++ name ∷ []) found.0 (device_content n) (device-content n).all found.1 in
      inr (front-empty front name (slice_index_or n.devices device.device no_device).name device.name);
  bounded =
      let all = all-files n (device_content n) (device-content n).all in
      let most = count_by-le-length (λ free. free) (free_rows n) in
      let rows = rows-length n s.sizes.live_files s.sizes.generations in
      omega (arith, all, room, most, rows);
}
  where
    none : (found : Option (Option Origin)) → value_at path_cmp [] (device_content n) ≡ found → content_shape found ≡ 0
    none None e = refl
    none (Some o) e =
        let device = device-there n [] o (device_content n) (device-content n).all e in
        let l = ap (λ p. length p) device.name in absurd (omega (arith, l))

-- what a mount has begun with, where its refusals were passed
module _ (n : Namespace) (mount : Mount) (s : Stands Nothing n) (may : MayMount n mount) (taken : is_taken n mount.fs mount.source ≡ false)
    (room : file_count (content_of n mount.fs mount.source) ≤ free_count n) where
  abbrev start : FsType → Namespace
  start f = without_kept (with_one n mount) f mount.source

  volume : ℕ
  volume = volume_named n mount.source

  -- names stay where names that are kept are taken
  kept-name : (u : ℕ) → (volume_at (with_kept (with_one n mount) (volume_named n mount.source) []) u).name ≡ (volume_at n u).name
  kept-name u =
      set-at (λ v. v.name ≡ (volume_at n u).name) n.volumes (volume_named n mount.source) u (record (volume_at n (volume_named n mount.source)) { kept = [] }) no_volume
      (λ e. ap (λ k. (volume_at n k).name) (sym e)) refl

  kept-pages : (u : ℕ) → (volume_at (with_kept (with_one n mount) (volume_named n mount.source) []) u).pages ≡ (volume_at n u).pages
  kept-pages u =
      set-at (λ v. v.pages ≡ (volume_at n u).pages) n.volumes (volume_named n mount.source) u (record (volume_at n (volume_named n mount.source)) { kept = [] }) no_volume
      (λ e. ap (λ k. (volume_at n k).pages) (sym e)) refl

  kept-spare : (u : ℕ) → (volume_at (with_kept (with_one n mount) (volume_named n mount.source) []) u).spare ≡ (volume_at n u).spare
  kept-spare u =
      set-at (λ v. v.spare ≡ (volume_at n u).spare) n.volumes (volume_named n mount.source) u (record (volume_at n (volume_named n mount.source)) { kept = [] }) no_volume
      (λ e. ap (λ k. (volume_at n k).spare) (sym e)) refl

  kept-own : (u : ℕ) → u ≡ volume_named n mount.source → (volume_at (with_kept (with_one n mount) (volume_named n mount.source) []) u).kept ≡ []
  kept-own u e = elim (below-or-past (volume_named n mount.source) (length n.volumes)) [
    | inl l ↦ ap (λ k. (volume_at (with_kept (with_one n mount) (volume_named n mount.source) []) k).kept) e
        ∙ ap (λ v. v.kept) (set-here n.volumes (volume_named n mount.source) (record (volume_at n (volume_named n mount.source)) { kept = [] }) no_volume l)
    | inr l ↦ ap (λ vs. (slice_index_or vs u no_volume).kept) (set_past n.volumes (volume_named n mount.source) (record (volume_at n (volume_named n mount.source)) { kept = [] }) l)
        ∙ ap (λ v. v.kept) (get_or_past n.volumes u no_volume (subst (λ k. length n.volumes ≤ k) (sym e) l))
  ]

  kept-other : (u : ℕ) → u ≢ volume_named n mount.source → (volume_at (with_kept (with_one n mount) (volume_named n mount.source) []) u).kept ≡ (volume_at n u).kept
  kept-other u h = ap (λ v. v.kept) (set-there n.volumes (volume_named n mount.source) u (record (volume_at n (volume_named n mount.source)) { kept = [] }) no_volume h)

  kept-named : (name : List ℕ) → volume_named (with_kept (with_one n mount) (volume_named n mount.source) []) name ≡ volume_named n name
  kept-named name =
      position_or_len-set (λ v. same_bytes v.name name) n.volumes (volume_named n mount.source) (record (volume_at n (volume_named n mount.source)) { kept = [] }) no_volume refl

  -- which volumes are mounted then
  mounted-then : (m : Namespace) (name : List ℕ) → all_mounts m ≡ all_mounts n ++ mount ∷ [] →
      is_mounted m fs.Cell name ≡ (is_mounted n fs.Cell name || ((same_type mount.fs fs.Cell && same_bytes mount.source name) || false))
  mounted-then m name e =
      ap (list_any (λ x. same_type x.fs fs.Cell && same_bytes x.source name)) e ∙ list_any-append (λ x. same_type x.fs fs.Cell && same_bytes x.source name) (all_mounts n) (mount ∷ [])

  -- a volume that is mounted was not mounted before
  not-taken : (f : FsType) → is_taken n f mount.source ≡ false → same_type f fs.Cell ≡ true → is_mounted n fs.Cell mount.source ≡ false
  not-taken fs.Tmp h e = absurd (cc)
  not-taken fs.Rom h e = absurd (cc)
  not-taken fs.Cell h e = h
  not-taken fs.Dev h e = absurd (cc)

  old-source : (place : ℕ) (d : Mount) → place < length (all_mounts n) → same_type (slice_index_or (all_mounts n) place d).fs fs.Cell ≡ true → same_type mount.fs fs.Cell ≡ true →
      (slice_index_or (all_mounts n) place d).source ≢ mount.source
  old-source place d l k j e =
      let free = not-taken mount.fs taken j in
      let none : (same_type (slice_index_or (all_mounts n) place d).fs fs.Cell && same_bytes (slice_index_or (all_mounts n) place d).source mount.source) ≡ false =
      no-place (λ x. same_type x.fs fs.Cell && same_bytes x.source mount.source) (all_mounts n) place d free l in
      let yes = and-both (same_type (slice_index_or (all_mounts n) place d).fs fs.Cell) (same_bytes (slice_index_or (all_mounts n) place d).source mount.source) k
      (ap (λ w. same_bytes w mount.source) e ∙ (bytes_decides mount.source mount.source).1 refl) in
      absurd (cc)

  apart-sources : PassingDiffer is_cell_mount (λ m. m.source) (all_mounts (with_one n mount))
  apart-sources place other d l m k j e = elim (placed (all_mounts n) mount place d l).is [
    | inl x ↦ elim (placed (all_mounts n) mount other d m).is [
      | inl y ↦ (boxes-but n s.boxes).sources_differ place other d x.0 y.0 (sym (ap (λ z. same_type z.fs fs.Cell) x.1) ∙ k) (sym (ap (λ z. same_type z.fs fs.Cell) y.1) ∙ j)
          (sym (ap (λ z. z.source) x.1) ∙ e ∙ ap (λ z. z.source) y.1)
      | inr y ↦ absurd (old-source place d x.0 (sym (ap (λ z. same_type z.fs fs.Cell) x.1) ∙ k) (sym (ap (λ z. same_type z.fs fs.Cell) y.1) ∙ j)
          (sym (ap (λ z. z.source) x.1) ∙ e ∙ ap (λ z. z.source) y.1))
    ]
    | inr x ↦ elim (placed (all_mounts n) mount other d m).is [
      | inl y ↦ absurd (old-source other d y.0 (sym (ap (λ z. same_type z.fs fs.Cell) y.1) ∙ j) (sym (ap (λ z. same_type z.fs fs.Cell) x.1) ∙ k)
          (sym (ap (λ z. z.source) y.1) ∙ sym e ∙ ap (λ z. z.source) x.1))
      | inr y ↦ x.0 ∙ sym y.0
    ]
  ]

  other-boxes : same_type mount.fs fs.Cell ≡ false → BoxesBut (with_one n mount)
  other-boxes h = record {
    spares = s.boxes.spares;
    kinds = s.boxes.kinds;
    mounted = λ u k. s.boxes.mounted u (sym (or-false (is_mounted n fs.Cell (volume_at n u).name))
        ∙ sym (ap (λ b. is_mounted n fs.Cell (volume_at n u).name || ((b && same_bytes mount.source (volume_at n u).name) || false)) h)
        ∙ sym (mounted-then (with_one n mount) (volume_at n u).name refl) ∙ k);
    kept = s.boxes.kept;
    sources_differ = apart-sources;
    sources = named-sources n mount s may;
    named = s.boxes.named;
  }
    where
      or-false : (b : Bool) → (b || false) ≡ b
      or-false true = refl
      or-false false = refl

  empty-kept : IsClosedTree is_kept_dir []
  empty-kept = record { sorted = tt; rootless = refl; parents = λ front name h. absurd (cc); bounded = omega arith }

  cell-boxes : BoxesBut (with_kept (with_one n mount) (volume_named n mount.source) [])
  cell-boxes = record {
    spares = λ u. ap (λ xs. length xs) (kept-spare u) ∙ s.boxes.spares u ∙ sym (ap (λ xs. length xs) (kept-pages u));
    kinds = s.boxes.kinds;
    mounted = λ u k. elim (same-or-other u (volume_named n mount.source)) [
      | inl e ↦ kept-own u e
      | inr e ↦ kept-other u e ∙ elim (s.boxes.named u) [
        | inl h ↦ h
        | inr h ↦
            let name = (volume_at n u).name in
            let now : (is_mounted n fs.Cell name || ((same_type mount.fs fs.Cell && same_bytes mount.source name) || false)) ≡ true =
            sym (ap (is_mounted (with_kept (with_one n mount) (volume_named n mount.source) []) fs.Cell) (kept-name u) ∙ mounted-then (with_kept (with_one n mount) (volume_named n mount.source) []) name refl) ∙ k in
            elim (or-either (is_mounted n fs.Cell name) _ now) [
              | inl x ↦ s.boxes.mounted u x
              | inr x ↦
                  let same : same_bytes mount.source name ≡ true = and-second (same_type mount.fs fs.Cell) (same_bytes mount.source name) (or-only _ x) in
                  let word : mount.source ≡ name = (bytes_decides mount.source name).0 same in
                  absurd (e (sym h ∙ ap (volume_named n) (sym word)))
            ]
      ]
    ];
    kept = λ u. elim (same-or-other u (volume_named n mount.source)) [
      | inl e ↦ subst (IsClosedTree is_kept_dir) (sym (kept-own u e)) empty-kept
      | inr e ↦ subst (IsClosedTree is_kept_dir) (sym (kept-other u e)) (s.boxes.kept u)
    ];
    sources_differ = apart-sources;
    sources = sources-beside (with_one n mount) (with_kept (with_one n mount) (volume_named n mount.source) []) refl kept-named (length-set n.volumes (volume_named n mount.source) _) (named-sources n mount s may);
    named = λ u. elim (same-or-other u (volume_named n mount.source)) [
      | inl e ↦ inl (kept-own u e)
      | inr e ↦ elim (s.boxes.named u) [
        | inl h ↦ inl (kept-other u e ∙ h)
        | inr h ↦ inr (kept-named _ ∙ ap (volume_named n) (kept-name u) ∙ h)
      ]
    ];
  }
    where
      or-only : (b : Bool) → (b || false) ≡ true → b ≡ true
      or-only true h = refl
      or-only false h = h

  -- the mount is found by its number
  found-own : mount_numbered (with_one n mount) mount.number ≡ Some mount
  found-own =
      find-append (λ x. x.number == mount.number) (all_mounts n) (mount ∷ [])
      ∙ ap (λ x. option_or x (find (λ x. x.number == mount.number) (mount ∷ []))) (none-found (all_mounts n) may.own)
      ∙ ap (λ b. if b then Some mount else None) (number-itself mount.number)
    where
      none-found : (mounts : List Mount) → list_any (λ other. other.number == mount.number) mounts ≡ false → find (λ x. x.number == mount.number) mounts ≡ None
      none-found [] h = refl
      none-found (x ∷ mounts) h =
          ap (λ b. if b then Some x else find (λ x. x.number == mount.number) mounts) (nor-first (x.number == mount.number) _ h)
          ∙ none-found mounts (nor-second (x.number == mount.number) (list_any (λ other. other.number == mount.number) mounts) h)

  nothing-in : (row : ℕ) → IsUsed Nothing n row → IsUsed (InTree []) n row
  nothing-in row (inl linked) = inl linked
  nothing-in row (inr (inl held)) = inr (inl held)
  nothing-in row (inr (inr none)) = absurd none

  start-rest : Rest (InTree []) (with_one n mount)
  start-rest =
      let r = one-rest n mount s may in
      record {
        live = r.live;
        used = λ row l h. nothing-in row (s.used row l h);
        alone = r.alone;
        working_directories = r.working_directories;
        trees = r.trees;
        roms = r.roms;
        sizes = r.sizes;
      }

  -- a mount of which nothing lies on cells that are kept
  other-start : same_type mount.fs fs.Cell ≡ false → (content : Content) → IsTree content → AllFit mount (with_one n mount) content →
      ((volume cell : ℕ) → pending content volume cell ≡ 0) → file_count content ≤ free_count n → Fill mount (with_one n mount) (with_one n mount) [] [] content
  other-start h content tree fit none count = record {
    rest = start-rest;
    boxes = other-boxes h;
    devices = s.boxes.devices;
    cells = λ volume cell v c. let before = s.boxes.cells volume cell v c in let no = none volume cell in omega (arith, before, no);
    live_files = one-live_files n mount s may;
    found = found-own;
    files = λ path id kind e. absurd (cc);
    alone = λ p q id same kind like e f r. absurd (cc);
    shape = λ p. refl;
    sorted = tt;
    small = omega arith;
    order = tree.sorted;
    room = count;
    fit = fit;
    root = refl;
    mounts = refl;
    working_directories = refl;
    trees = refl;
  }

  -- a mount of a volume: the cells of its files are to be bound again
  kept-live_files : LivesFit (with_kept (with_one n mount) (volume_named n mount.source) [])
  kept-live_files row life h =
      some-and-kept (mount_numbered (with_one n mount) life.mount) life (one-live_files n mount s may row life h)
    where
      some-and-kept : (found : Option Mount) (life : LiveFile) → IsSomeAnd found (λ m. fits_mount (with_one n mount) life m ≡ true) →
          IsSomeAnd found (λ m. fits_mount (with_kept (with_one n mount) (volume_named n mount.source) []) life m ≡ true)
      some-and-kept None life h = h
      some-and-kept (Some m) life h = by life.backing refl h
        where
          by : (b : Backing) → life.backing ≡ b → fits_mount (with_one n mount) life m ≡ true → fits_mount (with_kept (with_one n mount) (volume_named n mount.source) []) life m ≡ true
          by backing.Memory e k = subst (λ x. fits_mount (with_kept (with_one n mount) (volume_named n mount.source) []) (record life { backing = x }) m ≡ true) (sym e)
              (subst (λ x. fits_mount (with_one n mount) (record life { backing = x }) m ≡ true) e k)
          by (backing.Device device) e k = subst (λ x. fits_mount (with_kept (with_one n mount) (volume_named n mount.source) []) (record life { backing = x }) m ≡ true) (sym e)
              (subst (λ x. fits_mount (with_one n mount) (record life { backing = x }) m ≡ true) e k)
          by (backing.Cell v c) e k = subst (λ x. fits_mount (with_kept (with_one n mount) (volume_named n mount.source) []) (record life { backing = x }) m ≡ true) (sym e)
              (subst (λ place. (same_kind life.kind (kind_of m.fs) && (v == place)) ≡ true) (sym (kept-named m.source))
              (subst (λ x. fits_mount (with_one n mount) (record life { backing = x }) m ≡ true) e k))

  abbrev kept_content : Content
  kept_content = map (λ entry. (entry.0, kept_origin (volume_named n mount.source) entry.1)) (volume_at n (volume_named n mount.source)).kept

  pending-own : (v cell : ℕ) → v ≡ volume_named n mount.source → (nodes : List (Path × KeptNode)) →
      pending (map (λ entry. (entry.0, kept_origin (volume_named n mount.source) entry.1)) nodes) v cell ≡ count_by (λ entry. is_kept_on cell entry.1) nodes
  pending-own v cell e [] = refl
  pending-own v cell e (entry ∷ nodes) =
      let one : pending (map (λ entry. (entry.0, kept_origin (volume_named n mount.source) entry.1)) (entry ∷ nodes)) v cell
      ≡ one_if (begins_on v cell (kept_origin (volume_named n mount.source) entry.1)) + pending (map (λ entry. (entry.0, kept_origin (volume_named n mount.source) entry.1)) nodes) v cell =
      sum_by-cons (λ entry. one_if (begins_on v cell entry.1)) (entry.0, kept_origin (volume_named n mount.source) entry.1) (map (λ entry. (entry.0, kept_origin (volume_named n mount.source) entry.1)) nodes) in
      let other : count_by (λ entry. is_kept_on cell entry.1) (entry ∷ nodes) ≡ one_if (is_kept_on cell entry.1) + count_by (λ entry. is_kept_on cell entry.1) nodes =
      sum_by-cons (λ entry. one_if (is_kept_on cell entry.1)) entry nodes in
      let same = ap one_if (on-cell entry.1) in
      let later = pending-own v cell e nodes in
      omega (arith, one, other, same, later)
    where
      on-cell : (x : KeptNode) → begins_on v cell (kept_origin (volume_named n mount.source) x) ≡ is_kept_on cell x
      on-cell kept.Dir = refl
      on-cell (kept.File c) = ap (λ b. b && (c == cell)) (ap (λ k. volume_named n mount.source == k) e ∙ number-itself (volume_named n mount.source))

  pending-other : (v cell : ℕ) → v ≢ volume_named n mount.source → (nodes : List (Path × KeptNode)) →
      pending (map (λ entry. (entry.0, kept_origin (volume_named n mount.source) entry.1)) nodes) v cell ≡ 0
  pending-other v cell e [] = refl
  pending-other v cell e (entry ∷ nodes) =
      let one : pending (map (λ entry. (entry.0, kept_origin (volume_named n mount.source) entry.1)) (entry ∷ nodes)) v cell
      ≡ one_if (begins_on v cell (kept_origin (volume_named n mount.source) entry.1)) + pending (map (λ entry. (entry.0, kept_origin (volume_named n mount.source) entry.1)) nodes) v cell =
      sum_by-cons (λ entry. one_if (begins_on v cell entry.1)) (entry.0, kept_origin (volume_named n mount.source) entry.1) (map (λ entry. (entry.0, kept_origin (volume_named n mount.source) entry.1)) nodes) in
      let same = ap one_if (off-cell entry.1) in
      let later = pending-other v cell e nodes in
      omega (arith, one, same, later)
    where
      off-cell : (x : KeptNode) → begins_on v cell (kept_origin (volume_named n mount.source) x) ≡ false
      off-cell kept.Dir = refl
      off-cell (kept.File c) = ap (λ b. b && (c == cell)) (other-number (volume_named n mount.source) v (λ h. e (sym h)))

  cell-cells : (v cell : ℕ) → v < length (with_kept (with_one n mount) (volume_named n mount.source) []).volumes →
      cell < length (volume_at (with_kept (with_one n mount) (volume_named n mount.source) []) v).pages →
      cell_files (with_kept (with_one n mount) (volume_named n mount.source) []) v cell
      + pending (map (λ entry. (entry.0, kept_origin (volume_named n mount.source) entry.1)) (volume_at n (volume_named n mount.source)).kept) v cell
      + one_if (slice_index_or (volume_at (with_kept (with_one n mount) (volume_named n mount.source) []) v).spare cell false) ≡ 1
  cell-cells v cell l c =
      let within : v < length n.volumes = subst (λ x. v < x) (length-set n.volumes (volume_named n mount.source) _) l in
      let in_pages : cell < length (volume_at n v).pages = subst (λ xs. cell < length xs) (kept-pages v) c in
      let before = s.boxes.cells v cell within in_pages in
      let spare = ap (λ xs. one_if (slice_index_or xs cell false)) (kept-spare v) in
      elim (same-or-other v (volume_named n mount.source)) [
        | inl e ↦
            let now = ap (λ nodes. count_by (is_backed_by (lies_on_cell v cell)) n.live_files + count_by (λ entry. is_kept_on cell entry.1) nodes) (kept-own v e) in
            let some = pending-own v cell e (volume_at n (volume_named n mount.source)).kept in
            let were = ap (λ k. count_by (λ entry. is_kept_on cell entry.1) (volume_at n k).kept) e in
            omega (arith, before, spare, now, some, were)
        | inr e ↦
            let now = ap (λ nodes. count_by (is_backed_by (lies_on_cell v cell)) n.live_files + count_by (λ entry. is_kept_on cell entry.1) nodes) (kept-other v e) in
            let none = pending-other v cell e (volume_at n (volume_named n mount.source)).kept in
            omega (arith, before, spare, now, none)
      ]

  cell-fit : mount.fs ≡ fs.Cell → (nodes : List (Path × KeptNode)) →
      AllFit mount (with_kept (with_one n mount) (volume_named n mount.source) []) (map (λ entry. (entry.0, kept_origin (volume_named n mount.source) entry.1)) nodes)
  cell-fit e [] = tt
  cell-fit e (entry ∷ nodes) = (one entry.1, cell-fit e nodes)
    where
      one : (x : KeptNode) → Fits mount (with_kept (with_one n mount) (volume_named n mount.source) []) entry.0 (kept_origin (volume_named n mount.source) x)
      one kept.Dir = tt
      one (kept.File c) = (e, sym (kept-named mount.source))

  cell-start : mount.fs ≡ fs.Cell → file_count kept_content ≤ free_count n →
      Fill mount (with_kept (with_one n mount) (volume_named n mount.source) []) (with_kept (with_one n mount) (volume_named n mount.source) []) [] [] kept_content
  cell-start e count = record {
    rest = rest-beside (InTree []) (with_one n mount) (with_kept (with_one n mount) (volume_named n mount.source) []).volumes n.devices start-rest;
    boxes = cell-boxes;
    devices = s.boxes.devices;
    cells = cell-cells;
    live_files = kept-live_files;
    found = found-own;
    files = λ path id kind e. absurd (cc);
    alone = λ p q id same kind like e f r. absurd (cc);
    shape = λ p. refl;
    sorted = tt;
    small = omega arith;
    order = (kept-tree n (volume_named n mount.source) (s.boxes.kept (volume_named n mount.source))).sorted;
    room = count;
    fit = cell-fit e (volume_at n (volume_named n mount.source)).kept;
    root = refl;
    mounts = refl;
    working_directories = refl;
    trees = refl;
  }

  -- what a mount of each type begins with
  pub record Begun (f : FsType) : Type 0 where
    pub tree : IsTree (content_of n f mount.source)
    pub fill : Fill mount (without_kept (with_one n mount) f mount.source) (without_kept (with_one n mount) f mount.source) [] [] (content_of n f mount.source)
    pub pages : (u cell : ℕ) → cell_capacity (without_kept (with_one n mount) f mount.source) u cell ≡ cell_capacity n u cell

  rom-fit : mount.fs ≡ fs.Rom → (nodes : List (Path × RomNode)) → AllFit mount (with_one n mount) (map (λ entry. (entry.0, rom_origin (rom_at n mount.source) entry.0 entry.1)) nodes)
  rom-fit e [] = tt
  rom-fit e (entry ∷ nodes) = (one entry.1, rom-fit e nodes)
    where
      one : (x : RomNode) → Fits mount (with_one n mount) entry.0 (rom_origin (rom_at n mount.source) entry.0 x)
      one rom.Dir = tt
      one (rom.File bytes) = e

  rom-pending : (v cell : ℕ) (nodes : List (Path × RomNode)) → pending (map (λ entry. (entry.0, rom_origin (rom_at n mount.source) entry.0 entry.1)) nodes) v cell ≡ 0
  rom-pending v cell [] = refl
  rom-pending v cell (entry ∷ nodes) =
      let one : pending (map (λ entry. (entry.0, rom_origin (rom_at n mount.source) entry.0 entry.1)) (entry ∷ nodes)) v cell
      ≡ one_if (begins_on v cell (rom_origin (rom_at n mount.source) entry.0 entry.1)) + pending (map (λ entry. (entry.0, rom_origin (rom_at n mount.source) entry.0 entry.1)) nodes) v cell =
      sum_by-cons (λ entry. one_if (begins_on v cell entry.1)) (entry.0, rom_origin (rom_at n mount.source) entry.0 entry.1) (map (λ entry. (entry.0, rom_origin (rom_at n mount.source) entry.0 entry.1)) nodes) in
      let none = ap one_if (off entry.1) in
      let later = rom-pending v cell nodes in
      omega (arith, one, none, later)
    where
      off : (x : RomNode) → begins_on v cell (rom_origin (rom_at n mount.source) entry.0 x) ≡ false
      off rom.Dir = refl
      off (rom.File bytes) = refl

  dev-fit : mount.fs ≡ fs.Dev → ((device : ℕ) → device < length n.devices → (slice_index_or n.devices device no_device).is_out ≡ false) → (content : Content) → AllDevices n content → AllFit mount (with_one n mount) content
  dev-fit e home [] all = tt
  dev-fit e home (entry ∷ content) all =
      (subst (λ o. Fits mount (with_one n mount) entry.0 o) (sym all.0.is) (e, all.0.within, home all.0.device all.0.within, all.0.name), dev-fit e home content all.1)

  dev-pending : (v cell : ℕ) (content : Content) → AllDevices n content → pending content v cell ≡ 0
  dev-pending v cell [] all = refl
  dev-pending v cell (entry ∷ content) all =
      let one : pending (entry ∷ content) v cell ≡ one_if (begins_on v cell entry.1) + pending content v cell = sum_by-cons (λ entry. one_if (begins_on v cell entry.1)) entry content in
      let none = ap (λ o. one_if (begins_on v cell o)) all.0.is in
      let later = dev-pending v cell content all.1 in
      omega (arith, one, none, later)

  pub begun : (f : FsType) → mount.fs ≡ f → Begun f
  begun fs.Tmp e = record {
    tree = empty-tree;
    fill = other-start (ap (λ t. same_type t fs.Cell) e) [] empty-tree tt (λ volume cell. refl) (omega arith);
    pages = λ u cell. refl;
  }
  begun fs.Rom e =
      let tree = rom-tree n (rom_at n mount.source) (s.roms (rom_at n mount.source)) in
      record {
        tree = tree;
        fill = other-start (ap (λ t. same_type t fs.Cell) e) (content_of n fs.Rom mount.source) tree (rom-fit e (slice_index_or n.roms (rom_at n mount.source) no_rom).nodes)
            (λ volume cell. rom-pending volume cell (slice_index_or n.roms (rom_at n mount.source) no_rom).nodes) (subst (λ t. file_count (content_of n t mount.source) ≤ free_count n) e room);
        pages = λ u cell. refl;
      }
  begun fs.Dev e =
      let count = subst (λ t. file_count (content_of n t mount.source) ≤ free_count n) e room in
      let home = all-home n mount.source s (subst (λ t. is_taken n t mount.source ≡ false) e taken) in
      let tree = devices-tree n s count in
      record {
        tree = tree;
        fill = other-start (ap (λ t. same_type t fs.Cell) e) (content_of n fs.Dev mount.source) tree (dev-fit e home (device_content n) (device-content n).all)
            (λ volume cell. dev-pending volume cell (device_content n) (device-content n).all) count;
        pages = λ u cell. refl;
      }
  begun fs.Cell e = record {
    tree = kept-tree n (volume_named n mount.source) (s.boxes.kept (volume_named n mount.source));
    fill = cell-start e (subst (λ t. file_count (content_of n t mount.source) ≤ free_count n) e room);
    pages = λ u cell. ap (λ pages. 4096 * slice_index_or pages cell 0) (kept-pages u);
  }
