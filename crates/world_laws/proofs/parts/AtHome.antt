-- What lies at home fits a namespace, and goes on doing so where both change.
use Rattle.std.proofs.Common.{◌≡◌, ◌≢◌, ℕ, zero, suc, ◌-◌, ◌<◌, Bool, true, false, Option, None, List, [], ◌∷◌, length, slice_index_or, slice_set, ◌⊎◌, inl, inr, refl, sym, ap, subst, ◌∙◌}
use Rattle.std.proofs.lemmas.List.{length-set, set_past}
use Rattle.vfs_base.specs.Path.{Path}
use Rattle.vfs_model.specs.FileLife.{after_end, after_taking, backing_of, no_device, no_volume, volume_at, with_cell, with_device, with_kept, with_spare_cell}
use Rattle.vfs_model.specs.Homes.{bytes_of, cell_bytes, device_home, home_of, homes_after_end, no_home, with_cell_bytes, with_device_home}
use Rattle.vfs_model.specs.Namespace.{life_at}
use Rattle.vfs_model.specs.declared.namespace.Backing.{Backing}
use Rattle.vfs_model.specs.declared.namespace.Backing.TheVariants as backing
use Rattle.vfs_model.specs.declared.namespace.DeviceState.{DeviceState}
use Rattle.vfs_model.specs.declared.namespace.End.{End}
use Rattle.vfs_model.specs.declared.namespace.End.TheVariants as end
use Rattle.vfs_model.specs.declared.namespace.KeptNode.{KeptNode}
use Rattle.vfs_model.specs.declared.namespace.LiveFile.{LiveFile}
use Rattle.vfs_model.specs.declared.namespace.Namespace.{Namespace}
use Rattle.vfs_model.specs.declared.namespace.VolumeState.{VolumeState}
use Rattle.vfs_model.specs.declared.world.DeviceHome.{DeviceHome}
use Rattle.vfs_model.specs.declared.world.FileState.{FileState}
use Rattle.vfs_model.specs.declared.world.Homes.{Homes}
use Rattle.world_laws.proofs.parts.Binding.{out-other, this-or-other}
use Rattle.world_laws.proofs.lists.Lists.{below-or-past, same-or-other, set-here, set-there}
use Rattle.world_laws.proofs.parts.Taking.{cell-pages, set-at, spare-other, with_life}

-- a place for each cell and each device; nothing lies on a cell that a row has or that is spare, and nothing is at home
-- of a device that is out
pub record AtHome (homes : Homes) (n : Namespace) : Type 0 where
  pub volumes : length homes.cells ≡ length n.volumes
  pub cells : (volume : ℕ) → length (slice_index_or homes.cells volume []) ≡ length (volume_at n volume).pages
  pub devices : length homes.devices ≡ length n.devices
  pub taken : (row volume cell : ℕ) → backing_of (life_at n row) ≡ backing.Cell volume cell → cell_bytes homes volume cell ≡ []
  pub spare : (volume cell : ℕ) → slice_index_or (volume_at n volume).spare cell false ≡ true → cell_bytes homes volume cell ≡ []
  pub out : (device : ℕ) → (slice_index_or n.devices device no_device).is_out ≡ true → device_home homes device ≡ no_home

pub no-cell : (volume cell : ℕ) → backing.Memory ≢ backing.Cell volume cell
no-cell volume cell e = absurd (cc)

pub no-device : (device volume cell : ℕ) → backing.Device device ≢ backing.Cell volume cell
no-device device volume cell e = absurd (cc)

pub cell-volume : (v c w d : ℕ) → backing.Cell v c ≡ backing.Cell w d → (v ≡ w) × (c ≡ d)
cell-volume v c w d e = (ap first e, ap second e)
  where
    first : Backing → ℕ
    first backing.Memory = v
    first (backing.Cell volume cell) = volume
    first (backing.Device device) = v

    second : Backing → ℕ
    second backing.Memory = c
    second (backing.Cell volume cell) = cell
    second (backing.Device device) = c

-- it hangs on lives, volumes and devices alone
pub home-beside : (homes : Homes) (n m : Namespace) → n.live_files ≡ m.live_files → n.volumes ≡ m.volumes → n.devices ≡ m.devices → AtHome homes n → AtHome homes m
home-beside homes n m live_files volumes devices a = record {
  volumes = a.volumes ∙ ap (λ all. length all) volumes;
  cells = λ u. a.cells u ∙ ap (λ all. length (slice_index_or all u no_volume).pages) volumes;
  devices = a.devices ∙ ap (λ all. length all) devices;
  taken = λ row v c h. a.taken row v c (ap (λ all. backing_of (slice_index_or all (row - 1) None)) live_files ∙ h);
  spare = λ v c h. a.spare v c (ap (λ all. slice_index_or (slice_index_or all v no_volume).spare c false) volumes ∙ h);
  out = λ d h. a.out d (ap (λ all. (slice_index_or all d no_device).is_out) devices ∙ h);
}

-- nor on the names that a volume keeps
pub home-named : (homes : Homes) (n : Namespace) (volume : ℕ) (names : List (Path × KeptNode)) → AtHome homes n → AtHome homes (with_kept n volume names)
home-named homes n volume names a = record {
  volumes = a.volumes ∙ sym (length-set n.volumes volume (record (volume_at n volume) { kept = names }));
  cells = λ u. a.cells u ∙ sym (set-at (λ v. length v.pages ≡ length (volume_at n u).pages) n.volumes volume u (record (volume_at n volume) { kept = names }) no_volume
      (λ e. ap (λ k. length (volume_at n k).pages) (sym e)) refl);
  devices = a.devices;
  taken = a.taken;
  spare = λ u c h. a.spare u c (sym (ap (λ xs. slice_index_or xs c false)
      (set-at (λ v. v.spare ≡ (volume_at n u).spare) n.volumes volume u (record (volume_at n volume) { kept = names }) no_volume (λ e. ap (λ k. (volume_at n k).spare) (sym e)) refl)) ∙ h);
  out = a.out;
}

-- what a list has at a place that was set to nothing
false-set : (xs : List Bool) (place : ℕ) → slice_index_or (slice_set xs place false) place false ≡ false
false-set [] place = refl
false-set (x ∷ xs) zero = refl
false-set (x ∷ xs) (suc place) = false-set xs place

not-spare : (volumes : List VolumeState) (v c : ℕ) →
    slice_index_or (slice_index_or (slice_set volumes v (with_spare_cell false c (slice_index_or volumes v no_volume))) v no_volume).spare c false ≡ false
not-spare [] v c = refl
not-spare (volume ∷ volumes) zero c = false-set volume.spare c
not-spare (volume ∷ volumes) (suc v) c = not-spare volumes v c

not-out : (devices : List DeviceState) (d : ℕ) → (slice_index_or (slice_set devices d (record (slice_index_or devices d no_device) { is_out = false })) d no_device).is_out ≡ false
not-out [] d = refl
not-out (device ∷ devices) zero = refl
not-out (device ∷ devices) (suc d) = not-out devices d

pub no-home-set : (all : List DeviceHome) (d : ℕ) → slice_index_or (slice_set all d no_home) d no_home ≡ no_home
no-home-set [] d = refl
no-home-set (home ∷ all) zero = refl
no-home-set (home ∷ all) (suc d) = no-home-set all d

empty-set : (cells : List (List ℕ)) (c : ℕ) → slice_index_or (slice_set cells c []) c [] ≡ []
empty-set [] c = refl
empty-set (bytes ∷ cells) zero = refl
empty-set (bytes ∷ cells) (suc c) = empty-set cells c

pub empty-in : (all : List (List (List ℕ))) (v c : ℕ) → slice_index_or (slice_index_or (slice_set all v (slice_set (slice_index_or all v []) c [])) v []) c [] ≡ []
empty-in [] v c = refl
empty-in (cells ∷ all) zero c = empty-set cells c
empty-in (cells ∷ all) (suc v) c = empty-in all v c

-- a cell is taken, or a device that has nothing at home
pub home-taken : (homes : Homes) (m : Namespace) (b : Backing) → ((device : ℕ) → b ≡ backing.Device device → device_home homes device ≡ no_home) → AtHome homes m → AtHome homes (after_taking m b)
home-taken homes m backing.Memory none a = a
home-taken homes m (backing.Cell v c) none a = record {
  volumes = a.volumes ∙ sym (length-set m.volumes v (with_spare_cell false c (volume_at m v)));
  cells = λ u. a.cells u ∙ sym (ap (λ pages. length pages) (cell-pages false m v c u));
  devices = a.devices;
  taken = a.taken;
  spare = λ u d h. elim (this-or-other u d v c) [
    | inl e ↦
        let no = ap (λ k. slice_index_or (volume_at (with_cell false m v c) k).spare d false) e.0 ∙ ap (λ k. slice_index_or (volume_at (with_cell false m v c) v).spare k false) e.1 ∙ not-spare m.volumes v c in
        absurd (cc)
    | inr e ↦ a.spare u d (sym (spare-other false m v c u d e) ∙ h)
  ];
  out = a.out;
}
home-taken homes m (backing.Device d) none a = record {
  volumes = a.volumes;
  cells = a.cells;
  devices = a.devices ∙ sym (length-set m.devices d (record (slice_index_or m.devices d no_device) { is_out = true }));
  taken = a.taken;
  spare = a.spare;
  out = λ other h. elim (same-or-other other d) [
    | inl e ↦ ap (device_home homes) e ∙ none d refl
    | inr e ↦ a.out other (sym (out-other true m d other e) ∙ h)
  ];
}

-- a row becomes a live file on a cell without bytes, or free
pub home-life : (homes : Homes) (n : Namespace) (row : ℕ) (found : Option LiveFile) (generations : List ℕ) → ((v c : ℕ) → backing_of found ≡ backing.Cell v c → cell_bytes homes v c ≡ []) →
    AtHome homes n → AtHome homes (with_life n row found generations)
home-life homes n row found generations new a = record {
  volumes = a.volumes;
  cells = a.cells;
  devices = a.devices;
  taken = λ other v c h. set-at (λ life. backing_of life ≡ backing.Cell v c → cell_bytes homes v c ≡ []) n.live_files (row - 1) (other - 1) found None (λ e. new v c) (a.taken other v c) h;
  spare = a.spare;
  out = a.out;
}

-- bytes that are put on a cell: the other cells stay as they are
pub bytes-set : (homes : Homes) (v c u d : ℕ) (bytes : List ℕ) → (cell_bytes (with_cell_bytes homes v c bytes) u d ≡ cell_bytes homes u d)
    ⊎ ((u ≡ v) × (d ≡ c) × (v < length homes.cells) × (c < length (slice_index_or homes.cells v [])))
bytes-set homes v c u d bytes = elim (same-or-other u v) [
  | inr h ↦ inl (ap (λ cells. slice_index_or cells d []) (set-there homes.cells v u (slice_set (slice_index_or homes.cells v []) c bytes) [] h))
  | inl e ↦ elim (same-or-other d c) [
    | inr h ↦ inl (set-at (λ cells. slice_index_or cells d [] ≡ cell_bytes homes u d) homes.cells v u (slice_set (slice_index_or homes.cells v []) c bytes) []
        (λ k. set-there (slice_index_or homes.cells v []) c d bytes [] h ∙ ap (λ x. cell_bytes homes x d) (sym e)) refl)
    | inl f ↦ elim (below-or-past v (length homes.cells)) [
      | inr past ↦ inl (ap (λ cells. slice_index_or (slice_index_or cells u []) d []) (set_past homes.cells v (slice_set (slice_index_or homes.cells v []) c bytes) past))
      | inl within ↦ elim (below-or-past c (length (slice_index_or homes.cells v []))) [
        | inl inside ↦ inr (e, f, within, inside)
        | inr past ↦ inl (set-at (λ cells. slice_index_or cells d [] ≡ cell_bytes homes u d) homes.cells v u (slice_set (slice_index_or homes.cells v []) c bytes) []
            (λ k. ap (λ cells. slice_index_or cells d []) (set_past (slice_index_or homes.cells v []) c bytes past) ∙ ap (λ x. cell_bytes homes x d) (sym e)) refl)
      ]
    ]
  ]
]

cells-set : (homes : Homes) (n : Namespace) (v c : ℕ) (bytes : List ℕ) → AtHome homes n → (u : ℕ) → length (slice_index_or (with_cell_bytes homes v c bytes).cells u []) ≡ length (volume_at n u).pages
cells-set homes n v c bytes a u =
    set-at (λ cells. length cells ≡ length (volume_at n u).pages) homes.cells v u (slice_set (slice_index_or homes.cells v []) c bytes) []
    (λ e. length-set (slice_index_or homes.cells v []) c bytes ∙ ap (λ k. length (slice_index_or homes.cells k [])) (sym e) ∙ a.cells u) (a.cells u)

-- a cell's bytes are taken away
pub home-emptied : (homes : Homes) (n : Namespace) (v c : ℕ) → AtHome homes n → AtHome (with_cell_bytes homes v c []) n
home-emptied homes n v c a = record {
  volumes = length-set homes.cells v (slice_set (slice_index_or homes.cells v []) c []) ∙ a.volumes;
  cells = cells-set homes n v c [] a;
  devices = a.devices;
  taken = λ row u d h. stays u d (a.taken row u d h);
  spare = λ u d h. stays u d (a.spare u d h);
  out = a.out;
}
  where
    stays : (u d : ℕ) → cell_bytes homes u d ≡ [] → cell_bytes (with_cell_bytes homes v c []) u d ≡ []
    stays u d h = elim (bytes-set homes v c u d []) [
      | inl same ↦ same ∙ h
      | inr is ↦ ap (λ x. cell_bytes (with_cell_bytes homes v c []) x d) is.0 ∙ ap (λ x. cell_bytes (with_cell_bytes homes v c []) v x) is.1 ∙ empty-in homes.cells v c
    ]

-- a device's home is taken away
pub home-out : (homes : Homes) (n : Namespace) (d : ℕ) → AtHome homes n → AtHome (with_device_home homes d no_home) n
home-out homes n d a = record {
  volumes = a.volumes;
  cells = a.cells;
  devices = length-set homes.devices d no_home ∙ a.devices;
  taken = a.taken;
  spare = a.spare;
  out = λ other h. set-at (λ home. home ≡ no_home) homes.devices d other no_home no_home (λ e. refl) (a.out other h);
}

-- no other row has the cell, and it is not spare
abbrev pub IsAlone : Namespace → ℕ → ℕ → ℕ → Type 0
IsAlone n row v c = v < length n.volumes → c < length (volume_at n v).pages →
    ((other : ℕ) → other - 1 ≢ row - 1 → backing_of (life_at n other) ≢ backing.Cell v c) × (slice_index_or (volume_at n v).spare c false ≡ false)

-- a row's file may come to this end: a cell's that of what it lies on
abbrev pub MayEnd : Namespace → ℕ → End → Type 0
MayEnd n row end.Nothing = Unit {0}
MayEnd n row (end.Spare volume cell) = backing_of (life_at n row) ≡ backing.Cell volume cell
MayEnd n row (end.Kept volume cell) = (backing_of (life_at n row) ≡ backing.Cell volume cell) × IsAlone n row volume cell
MayEnd n row (end.Device device) = Unit {0}

-- a file has come to its end
pub home-ended : (homes : Homes) (n : Namespace) (row : ℕ) (f : FileState) (ending : End) → row - 1 < length n.live_files → MayEnd n row ending → AtHome homes n →
    AtHome (homes_after_end homes f ending) (after_end (with_life n row None n.generations) ending)
home-ended homes n row f end.Nothing l e a = home-life homes n row None n.generations (λ v c h. absurd (no-cell v c h)) a
home-ended homes n row f (end.Spare v c) l e a =
    let m = with_life n row None n.generations in
    let base = home-life homes n row None n.generations (λ v c h. absurd (no-cell v c h)) a in
    record {
      volumes = base.volumes ∙ sym (length-set m.volumes v (with_spare_cell true c (volume_at m v)));
      cells = λ u. base.cells u ∙ sym (ap (λ pages. length pages) (cell-pages true m v c u));
      devices = base.devices;
      taken = base.taken;
      spare = λ u d h. elim (this-or-other u d v c) [
        | inl same ↦ ap (λ x. cell_bytes homes x d) same.0 ∙ ap (λ x. cell_bytes homes v x) same.1 ∙ a.taken row v c e
        | inr other ↦ base.spare u d (sym (spare-other true m v c u d other) ∙ h)
      ];
      out = base.out;
    }
home-ended homes n row f (end.Device d) l e a =
    let m = with_life n row None n.generations in
    let base = home-life homes n row None n.generations (λ v c h. absurd (no-cell v c h)) a in
    record {
      volumes = base.volumes;
      cells = base.cells;
      devices = length-set homes.devices d (home_of f) ∙ base.devices ∙ sym (length-set m.devices d (record (slice_index_or m.devices d no_device) { is_out = false }));
      taken = base.taken;
      spare = base.spare;
      out = λ other h. elim (same-or-other other d) [
        | inl same ↦
            let no = ap (λ k. (slice_index_or (with_device false m d).devices k no_device).is_out) same ∙ not-out m.devices d in
            absurd (cc)
        | inr apart ↦ set-there homes.devices d other (home_of f) no_home apart ∙ base.out other (sym (out-other false m d other apart) ∙ h)
      ];
    }
home-ended homes n row f (end.Kept v c) l e a =
    let base = home-life homes n row None n.generations (λ v c h. absurd (no-cell v c h)) a in
    record {
      volumes = length-set homes.cells v (slice_set (slice_index_or homes.cells v []) c (bytes_of f)) ∙ base.volumes;
      cells = cells-set homes n v c (bytes_of f) a;
      devices = base.devices;
      taken = λ other u d h. elim (bytes-set homes v c u d (bytes_of f)) [
        | inl same ↦ same ∙ base.taken other u d h
        | inr is ↦ absurd (apart other (same-or-other (other - 1) (row - 1)) (alone is.2 is.3).0 (h ∙ ap (λ x. backing.Cell x d) is.0 ∙ ap (backing.Cell v) is.1))
      ];
      spare = λ u d h. elim (bytes-set homes v c u d (bytes_of f)) [
        | inl same ↦ same ∙ base.spare u d h
        | inr is ↦
            let no = ap (λ x. slice_index_or (volume_at n x).spare d false) is.0 ∙ ap (λ x. slice_index_or (volume_at n v).spare x false) is.1 ∙ (alone is.2 is.3).1 in
            absurd (cc)
      ];
      out = base.out;
    }
  where
    alone : v < length homes.cells → c < length (slice_index_or homes.cells v []) →
        ((other : ℕ) → other - 1 ≢ row - 1 → backing_of (life_at n other) ≢ backing.Cell v c) × (slice_index_or (volume_at n v).spare c false ≡ false)
    alone within inside = e.1 (subst (λ k. v < k) a.volumes within) (subst (λ k. c < k) (a.cells v) inside)

    apart : (other : ℕ) → (other - 1 ≡ row - 1) ⊎ (other - 1 ≢ row - 1) → ((at : ℕ) → at - 1 ≢ row - 1 → backing_of (life_at n at) ≢ backing.Cell v c) →
        backing_of (slice_index_or (slice_set n.live_files (row - 1) None) (other - 1) None) ≡ backing.Cell v c → ⊥
    apart other (inl k) lone h =
        no-cell v c (sym (ap backing_of (ap (λ x. slice_index_or (slice_set n.live_files (row - 1) None) x None) k ∙ set-here n.live_files (row - 1) None None l)) ∙ h)
    apart other (inr k) lone h = lone other k (sym (ap backing_of (set-there n.live_files (row - 1) (other - 1) None None k)) ∙ h)
