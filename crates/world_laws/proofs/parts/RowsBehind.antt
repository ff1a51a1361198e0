-- A world behind what its devices had at entry, on its way through a step: one row is bound or freed in both worlds.
use Rattle.std.proofs.Common.{◌≡◌, ℕ, ◌-◌, ◌<◌, Bool, true, false, Option, Some, None, List, [], length, slice_index_or, slice_set, inl, inr, refl, sym, ap, subst, ◌∙◌, arith}
use Rattle.std.proofs.lemmas.List.{length-set, set_past}
use Rattle.vfs_base.specs.declared.ids.FileId.{FileId}
use Rattle.vfs_base.specs.declared.kinds.Kind.TheVariants as kind
use Rattle.vfs_model.specs.FileLife.{backing_of, no_device}
use Rattle.vfs_model.specs.Homes.{bound_file, bytes_of, cell_bytes, cell_capacity, change_row, device_home, file_at, home_of, homes_after_bind, no_home, rom_bytes, with_cell_bytes, with_file}
use Rattle.vfs_model.specs.MountStep.{origin_backing}
use Rattle.vfs_model.specs.declared.namespace.Backing.{Backing}
use Rattle.vfs_model.specs.declared.namespace.Backing.TheVariants as backing
use Rattle.vfs_model.specs.declared.namespace.DeviceState.{DeviceState}
use Rattle.vfs_model.specs.declared.namespace.End.{End}
use Rattle.vfs_model.specs.declared.namespace.End.TheVariants as end
use Rattle.vfs_model.specs.declared.namespace.LiveFile.{LiveFile}
use Rattle.vfs_model.specs.declared.namespace.Origin.{Origin}
use Rattle.vfs_model.specs.declared.namespace.Origin.TheVariants as origin
use Rattle.vfs_model.specs.declared.namespace.RowChange.TheVariants as change
use Rattle.vfs_model.specs.declared.world.DeviceHome.{DeviceHome}
use Rattle.vfs_model.specs.declared.world.FileState.{FileState}
use Rattle.vfs_model.specs.declared.world.FileState.TheVariants as file
use Rattle.vfs_model.specs.declared.world.WorldState.{WorldState}
use Rattle.world_laws.proofs.lists.Lists.{below-or-past, same-or-other, set-here, set-there}
use Rattle.world_laws.specs.Behind.{file_behind, home_behind, output_before, output_in_front}

-- three lists of one length are set at one place
module _ {X Y Z : Type 0} (P : X → Y → Z → Type 0) (xs : List X) (ys : List Y) (zs : List Z) (place other : ℕ) where
  pub set-three : (x d : X) (y e : Y) (z f : Z) → length xs ≡ length ys → length ys ≡ length zs → (other ≡ place → other < length zs → P x y z) →
      P (slice_index_or xs other d) (slice_index_or ys other e) (slice_index_or zs other f) →
      P (slice_index_or (slice_set xs place x) other d) (slice_index_or (slice_set ys place y) other e) (slice_index_or (slice_set zs place z) other f)
  set-three x d y e z f = λ a b new old. elim (same-or-other other place) [
    | inr h ↦
        subst (λ u. P u (slice_index_or (slice_set ys place y) other e) (slice_index_or (slice_set zs place z) other f)) (sym (set-there xs place other x d h))
        (subst (λ u. P (slice_index_or xs other d) u (slice_index_or (slice_set zs place z) other f)) (sym (set-there ys place other y e h))
        (subst (λ u. P (slice_index_or xs other d) (slice_index_or ys other e) u) (sym (set-there zs place other z f h)) old))
    | inl h ↦ elim (below-or-past place (length zs)) [
      | inr l ↦
          subst (λ u. P (slice_index_or u other d) (slice_index_or (slice_set ys place y) other e) (slice_index_or (slice_set zs place z) other f))
          (sym (set_past xs place x (omega (arith, a, b, l))))
          (subst (λ u. P (slice_index_or xs other d) (slice_index_or u other e) (slice_index_or (slice_set zs place z) other f)) (sym (set_past ys place y (omega (arith, b, l))))
          (subst (λ u. P (slice_index_or xs other d) (slice_index_or ys other e) (slice_index_or u other f)) (sym (set_past zs place z l)) old))
      | inl l ↦
          subst (λ k. P (slice_index_or (slice_set xs place x) k d) (slice_index_or (slice_set ys place y) k e) (slice_index_or (slice_set zs place z) k f)) (sym h)
          (subst (λ u. P u (slice_index_or (slice_set ys place y) place e) (slice_index_or (slice_set zs place z) place f)) (sym (set-here xs place x d (omega (arith, a, b, l))))
          (subst (λ u. P x u (slice_index_or (slice_set zs place z) place f)) (sym (set-here ys place y e (omega (arith, b, l))))
          (subst (λ u. P x y u) (sym (set-here zs place z f l)) (new h (omega (arith, h, l))))))
    ]
  ]

-- the file is a character device's
abbrev pub is_chars : FileState → Bool
is_chars (file.Unbound generation) = false
is_chars (file.Bytes generation kind capacity bytes) = false
is_chars (file.Device generation input output) = true

-- a row's files in both worlds, where the row has this live file
abbrev pub RowBehind : List (List ℕ) → FileState → FileState → Option LiveFile → Type 0
RowBehind before g f life = (g ≡ file_behind (output_in_front before (backing_of life)) f) × ((device : ℕ) → backing_of life ≡ backing.Device device → is_chars f ≡ true)

-- a device's homes in both worlds
abbrev pub DeviceBehind : List ℕ → DeviceHome → DeviceHome → DeviceState → Type 0
DeviceBehind front g h state = (state.is_out ≡ false → g ≡ home_behind front h) × (state.is_out ≡ true → g ≡ no_home)

-- as `IsBehind`, where these live files and devices stand already, and with what is known of their numbers and kinds
pub record Behind (before : List (List ℕ)) (lives : List (Option LiveFile)) (states : List DeviceState) (w v : WorldState) : Type 0 where
  pub namespace : v.namespace ≡ w.namespace
  pub rows : length v.files ≡ length w.files
  pub each_row : length w.files ≡ length lives
  pub files : (row : ℕ) → RowBehind before (file_at v row) (file_at w row) (slice_index_or lives (row - 1) None)
  pub cells : v.homes.cells ≡ w.homes.cells
  pub devices : length v.homes.devices ≡ length w.homes.devices
  pub each_device : length w.homes.devices ≡ length states
  pub homes : (device : ℕ) → device < length states →
      DeviceBehind (output_before before device) (device_home v.homes device) (device_home w.homes device) (slice_index_or states device no_device)

-- the devices after a file has taken what it lies on
abbrev pub states_taken : List DeviceState → Backing → List DeviceState
states_taken states backing.Memory = states
states_taken states (backing.Cell volume cell) = states
states_taken states (backing.Device device) = slice_set states device (record (slice_index_or states device no_device) { is_out = true })

-- a device that is taken is at home
abbrev pub MayTakeFrom : List DeviceState → Origin → Type 0
MayTakeFrom states origin.Empty = Unit {0}
MayTakeFrom states (origin.Rom place path) = Unit {0}
MayTakeFrom states (origin.Cell volume cell) = Unit {0}
MayTakeFrom states (origin.NewCell volume cell) = Unit {0}
MayTakeFrom states (origin.Device device) = (device < length states) × ((slice_index_or states device no_device).is_out ≡ false)

-- the devices after a file has come to its end
abbrev pub states_given : List DeviceState → End → List DeviceState
states_given states end.Nothing = states
states_given states (end.Spare volume cell) = states
states_given states (end.Kept volume cell) = states
states_given states (end.Device device) = slice_set states device (record (slice_index_or states device no_device) { is_out = false })

-- a device comes home from the file that lay on it
abbrev pub EndsAs : Backing → End → Type 0
EndsAs b end.Nothing = Unit {0}
EndsAs b (end.Spare volume cell) = Unit {0}
EndsAs b (end.Kept volume cell) = Unit {0}
EndsAs b (end.Device device) = b ≡ backing.Device device

module _ (before : List (List ℕ)) (lives : List (Option LiveFile)) (states : List DeviceState) (w v : WorldState) (b : Behind before lives states w v) where
  bound-behind : (generation : ℕ) (begins : Origin) → MayTakeFrom states begins →
      bound_file v generation begins ≡ file_behind (output_in_front before (origin_backing begins)) (bound_file w generation begins)
  bound-behind generation origin.Empty may = refl
  bound-behind generation (origin.Rom place path) may = ap (λ n. file.Bytes generation kind.Rom (length (rom_bytes n place path)) (rom_bytes n place path)) b.namespace
  bound-behind generation (origin.Cell volume cell) may =
      ap (λ n. file.Bytes generation kind.Cell (cell_capacity n volume cell) (cell_bytes v.homes volume cell)) b.namespace
      ∙ ap (λ cells. file.Bytes generation kind.Cell (cell_capacity w.namespace volume cell) (slice_index_or (slice_index_or cells volume []) cell [])) b.cells
  bound-behind generation (origin.NewCell volume cell) may = ap (λ n. file.Bytes generation kind.Cell (cell_capacity n volume cell) []) b.namespace
  bound-behind generation (origin.Device device) may =
      ap (λ home. file.Device generation home.input home.output) ((b.homes device may.0).0 may.1)

  bound-chars : (generation device : ℕ) (begins : Origin) → origin_backing begins ≡ backing.Device device → is_chars (bound_file w generation begins) ≡ true
  bound-chars generation device origin.Empty e = absurd (cc)
  bound-chars generation device (origin.Rom place path) e = absurd (cc)
  bound-chars generation device (origin.Cell volume cell) e = absurd (cc)
  bound-chars generation device (origin.NewCell volume cell) e = absurd (cc)
  bound-chars generation device (origin.Device other) e = refl

  bind-files : (row generation : ℕ) (life : LiveFile) (begins : Origin) → life.backing ≡ origin_backing begins → MayTakeFrom states begins → (other : ℕ) →
      RowBehind before (slice_index_or (slice_set v.files (row - 1) (bound_file v generation begins)) (other - 1) (file.Unbound 0))
      (slice_index_or (slice_set w.files (row - 1) (bound_file w generation begins)) (other - 1) (file.Unbound 0)) (slice_index_or (slice_set lives (row - 1) (Some life)) (other - 1) None)
  bind-files row generation life begins e may other =
      set-three (RowBehind before) v.files w.files lives (row - 1) (other - 1) (bound_file v generation begins) (file.Unbound 0) (bound_file w generation begins) (file.Unbound 0) (Some life) None
      b.rows b.each_row (λ same within. (
        bound-behind generation begins may ∙ ap (λ x. file_behind (output_in_front before x) (bound_file w generation begins)) (sym e),
        λ device h. bound-chars generation device begins (sym e ∙ h),
      )) (b.files other)

  -- a device goes out in both worlds
  homes-out : (out : ℕ) → (device : ℕ) → device < length (states_taken states (backing.Device out)) →
      DeviceBehind (output_before before device) (slice_index_or (slice_set v.homes.devices out no_home) device no_home) (slice_index_or (slice_set w.homes.devices out no_home) device no_home)
      (slice_index_or (states_taken states (backing.Device out)) device no_device)
  homes-out out device l =
      let new : DeviceState = record (slice_index_or states out no_device) { is_out = true } in
      set-three (DeviceBehind (output_before before device)) v.homes.devices w.homes.devices states out device no_home no_home no_home no_home new no_device
      b.devices b.each_device (λ same within. (λ h. absurd (cc), λ h. refl)) (b.homes device (let e = length-set states out new in omega (arith, e, l)))

  -- where nothing but cells has changed at home
  bound-same : (id : FileId) (life : LiveFile) (begins : Origin) → life.backing ≡ origin_backing begins → MayTakeFrom states begins →
      (homes_after_bind v.homes begins).devices ≡ v.homes.devices → (homes_after_bind w.homes begins).devices ≡ w.homes.devices →
      (homes_after_bind v.homes begins).cells ≡ (homes_after_bind w.homes begins).cells →
      Behind before (slice_set lives (id.row - 1) (Some life)) states (change_row w (change.Bind id begins)) (change_row v (change.Bind id begins))
  bound-same id life begins e may = λ of_v of_w cells. record {
    namespace = b.namespace;
    rows = length-set v.files (id.row - 1) (bound_file v id.generation begins) ∙ b.rows ∙ sym (length-set w.files (id.row - 1) (bound_file w id.generation begins));
    each_row = length-set w.files (id.row - 1) (bound_file w id.generation begins) ∙ b.each_row ∙ sym (length-set lives (id.row - 1) (Some life));
    files = bind-files id.row id.generation life begins e may;
    cells = cells;
    devices = ap (λ all. length all) of_v ∙ b.devices ∙ sym (ap (λ all. length all) of_w);
    each_device = ap (λ all. length all) of_w ∙ b.each_device;
    homes = λ device l.
        subst (λ all. DeviceBehind (output_before before device) (slice_index_or all device no_home) (slice_index_or (homes_after_bind w.homes begins).devices device no_home) (slice_index_or states device no_device)) (sym of_v)
        (subst (λ all. DeviceBehind (output_before before device) (device_home v.homes device) (slice_index_or all device no_home) (slice_index_or states device no_device)) (sym of_w) (b.homes device l));
  }

  pub bind-behind : (id : FileId) (life : LiveFile) (begins : Origin) → life.backing ≡ origin_backing begins → MayTakeFrom states begins →
      Behind before (slice_set lives (id.row - 1) (Some life)) (states_taken states (origin_backing begins)) (change_row w (change.Bind id begins)) (change_row v (change.Bind id begins))
  bind-behind id life origin.Empty e may = bound-same id life origin.Empty e may refl refl b.cells
  bind-behind id life (origin.Rom place path) e may = bound-same id life (origin.Rom place path) e may refl refl b.cells
  bind-behind id life (origin.NewCell volume cell) e may = bound-same id life (origin.NewCell volume cell) e may refl refl b.cells
  bind-behind id life (origin.Cell volume cell) e may =
      bound-same id life (origin.Cell volume cell) e may refl refl (ap (λ cells. slice_set cells volume (slice_set (slice_index_or cells volume []) cell [])) b.cells)
  bind-behind id life (origin.Device device) e may = record {
    namespace = b.namespace;
    rows = length-set v.files (id.row - 1) (bound_file v id.generation (origin.Device device)) ∙ b.rows ∙ sym (length-set w.files (id.row - 1) (bound_file w id.generation (origin.Device device)));
    each_row = length-set w.files (id.row - 1) (bound_file w id.generation (origin.Device device)) ∙ b.each_row ∙ sym (length-set lives (id.row - 1) (Some life));
    files = bind-files id.row id.generation life (origin.Device device) e may;
    cells = b.cells;
    devices = length-set v.homes.devices device no_home ∙ b.devices ∙ sym (length-set w.homes.devices device no_home);
    each_device = length-set w.homes.devices device no_home ∙ b.each_device ∙ sym (length-set states device (record (slice_index_or states device no_device) { is_out = true }));
    homes = homes-out device;
  }

  bytes-same : (front : List ℕ) (f : FileState) → bytes_of (file_behind front f) ≡ bytes_of f
  bytes-same front (file.Unbound generation) = refl
  bytes-same front (file.Bytes generation kind capacity bytes) = refl
  bytes-same front (file.Device generation input output) = refl

  home-same : (front : List ℕ) (f : FileState) → is_chars f ≡ true → home_of (file_behind front f) ≡ home_behind front (home_of f)
  home-same front (file.Unbound generation) h = absurd (cc)
  home-same front (file.Bytes generation kind capacity bytes) h = absurd (cc)
  home-same front (file.Device generation input output) h = refl

  free-files : (row generation : ℕ) (other : ℕ) →
      RowBehind before (slice_index_or (slice_set v.files (row - 1) (file.Unbound generation)) (other - 1) (file.Unbound 0))
      (slice_index_or (slice_set w.files (row - 1) (file.Unbound generation)) (other - 1) (file.Unbound 0)) (slice_index_or (slice_set lives (row - 1) None) (other - 1) None)
  free-files row generation other =
      set-three (RowBehind before) v.files w.files lives (row - 1) (other - 1) (file.Unbound generation) (file.Unbound 0) (file.Unbound generation) (file.Unbound 0) None None
      b.rows b.each_row (λ same within. (refl, λ device h. absurd (cc))) (b.files other)

  -- a device comes home in both worlds
  homes-in : (row back : ℕ) → backing_of (slice_index_or lives (row - 1) None) ≡ backing.Device back →
      (device : ℕ) → device < length (states_given states (end.Device back)) →
      DeviceBehind (output_before before device) (slice_index_or (slice_set v.homes.devices back (home_of (file_at v row))) device no_home) (slice_index_or (slice_set w.homes.devices back (home_of (file_at w row))) device no_home)
      (slice_index_or (states_given states (end.Device back)) device no_device)
  homes-in row back e device l =
      let new : DeviceState = record (slice_index_or states back no_device) { is_out = false } in
      let here = b.files row in
      set-three (DeviceBehind (output_before before device)) v.homes.devices w.homes.devices states back device (home_of (file_at v row)) no_home (home_of (file_at w row)) no_home new no_device
      b.devices b.each_device (λ same within. (
        λ h. ap home_of here.0 ∙ ap (λ x. home_of (file_behind (output_in_front before x) (file_at w row))) e ∙ home-same (output_before before back) (file_at w row) (here.1 back e)
            ∙ ap (λ k. home_behind (output_before before k) (home_of (file_at w row))) (sym same),
        λ h. absurd (cc),
      )) (b.homes device (let k = length-set states back new in omega (arith, k, l)))

  pub free-behind : (id : FileId) (ending : End) → EndsAs (backing_of (slice_index_or lives (id.row - 1) None)) ending →
      Behind before (slice_set lives (id.row - 1) None) (states_given states ending) (change_row w (change.Free id ending)) (change_row v (change.Free id ending))
  free-behind id ending ends = by ending ends
    where
      freed-same : (cells_v cells_w : List (List (List ℕ))) → cells_v ≡ cells_w →
          Behind before (slice_set lives (id.row - 1) None) states
          (record (with_file w id.row (file.Unbound id.generation)) { homes = record w.homes { cells = cells_w } })
          (record (with_file v id.row (file.Unbound id.generation)) { homes = record v.homes { cells = cells_v } })
      freed-same cells_v cells_w cells = record {
        namespace = b.namespace;
        rows = length-set v.files (id.row - 1) (file.Unbound id.generation) ∙ b.rows ∙ sym (length-set w.files (id.row - 1) (file.Unbound id.generation));
        each_row = length-set w.files (id.row - 1) (file.Unbound id.generation) ∙ b.each_row ∙ sym (length-set lives (id.row - 1) None);
        files = free-files id.row id.generation;
        cells = cells;
        devices = b.devices;
        each_device = b.each_device;
        homes = b.homes;
      }

      by : (ending : End) → EndsAs (backing_of (slice_index_or lives (id.row - 1) None)) ending →
          Behind before (slice_set lives (id.row - 1) None) (states_given states ending) (change_row w (change.Free id ending)) (change_row v (change.Free id ending))
      by end.Nothing ends = freed-same v.homes.cells w.homes.cells b.cells
      by (end.Spare volume cell) ends = freed-same v.homes.cells w.homes.cells b.cells
      by (end.Kept volume cell) ends =
          let here = b.files id.row in
          let bytes : bytes_of (file_at v id.row) ≡ bytes_of (file_at w id.row) = ap bytes_of here.0 ∙ bytes-same _ (file_at w id.row) in
          freed-same (with_cell_bytes v.homes volume cell (bytes_of (file_at v id.row))).cells (with_cell_bytes w.homes volume cell (bytes_of (file_at w id.row))).cells
          (ap (λ x. (with_cell_bytes v.homes volume cell x).cells) bytes
          ∙ ap (λ cells. slice_set cells volume (slice_set (slice_index_or cells volume []) cell (bytes_of (file_at w id.row)))) b.cells)
      by (end.Device device) ends = record {
        namespace = b.namespace;
        rows = length-set v.files (id.row - 1) (file.Unbound id.generation) ∙ b.rows ∙ sym (length-set w.files (id.row - 1) (file.Unbound id.generation));
        each_row = length-set w.files (id.row - 1) (file.Unbound id.generation) ∙ b.each_row ∙ sym (length-set lives (id.row - 1) None);
        files = free-files id.row id.generation;
        cells = b.cells;
        devices = length-set v.homes.devices device (home_of (file_at v id.row)) ∙ b.devices ∙ sym (length-set w.homes.devices device (home_of (file_at w id.row)));
        each_device = length-set w.homes.devices device (home_of (file_at w id.row)) ∙ b.each_device ∙ sym (length-set states device (record (slice_index_or states device no_device) { is_out = false }));
        homes = homes-in id.row device ends;
      }
