-- Each world has one behind what its devices had at entry, and so has the world at the start.
use Rattle.std.proofs.Common.{◌≡◌, ℕ, zero, suc, ◌+◌, ◌-◌, ◌<◌, Bool, true, false, Option, Some, None, List, [], ◌∷◌, ◌++◌, length, map, replicate, slice_index_or, inl, inr, refl, sym, ap, subst, ◌∙◌, arith}
use Rattle.std.proofs.lemmas.List.{append-nil, get_or_past}
use Rattle.std.specs.List.{enumerate_from}
use Rattle.vfs_base.specs.declared.deck.Deck.{Deck}
use Rattle.vfs_base.specs.declared.describe.CharsShape.{CharsShape}
use Rattle.vfs_base.specs.declared.describe.Describe.{Describe}
use Rattle.vfs_model.specs.Boxes.{IsConsistent, file_capacity}
use Rattle.vfs_model.specs.Consistency.{agrees}
use Rattle.vfs_model.specs.FileLife.{backing_of, no_device}
use Rattle.vfs_model.specs.Homes.{device_home, file_at, no_home, opening_home, opening_world}
use Rattle.vfs_model.specs.Namespace.{generation_at, life_at, opening_device, opening_namespace}
use Rattle.vfs_model.specs.ScriptRun.{opening_state}
use Rattle.vfs_model.specs.declared.namespace.LiveFile.{LiveFile}
use Rattle.vfs_model.specs.declared.world.DeviceHome.{DeviceHome}
use Rattle.vfs_model.specs.declared.world.FileState.{FileState}
use Rattle.vfs_model.specs.declared.world.FileState.TheVariants as file
use Rattle.vfs_model.specs.declared.world.WorldState.{WorldState}
use Rattle.world_laws.proofs.lists.Lists.{below-or-past}
use Rattle.world_laws.specs.Behind.{HasOneBehind, IsBehind, behind, file_behind, home_unless_out, opening_with, output_before, output_in_front}

-- what a list of changed elements has at a place
mapped : {X Y : Type 0} (f : (ℕ × X) → Y) (from : ℕ) (xs : List X) (place : ℕ) (d : X) (e : Y) → place < length xs →
    slice_index_or (map f (enumerate_from from xs)) place e ≡ f (from + place, slice_index_or xs place d)
mapped f from [] place d e l = absurd (omega arith)
mapped f from (x ∷ xs) zero d e l = ap (λ k. f (k, x)) (omega arith)
mapped f from (x ∷ xs) (suc place) d e l = mapped f (from + 1) xs place d e (omega (arith, l)) ∙ ap (λ k. f (k, slice_index_or xs place d)) (omega arith)

mapped-length : {X Y : Type 0} (f : (ℕ × X) → Y) (from : ℕ) (xs : List X) → length (map f (enumerate_from from xs)) ≡ length xs
mapped-length f from [] = refl
mapped-length f from (x ∷ xs) = ap suc (mapped-length f (from + 1) xs)

-- lists of one length that have the same at each place are the same
same-list : {X : Type 0} (xs ys : List X) (d : X) → length xs ≡ length ys → ((place : ℕ) → place < length ys → slice_index_or xs place d ≡ slice_index_or ys place d) → xs ≡ ys
same-list [] [] d l h = refl
same-list [] (y ∷ ys) d l h = absurd (omega (arith, l))
same-list (x ∷ xs) [] d l h = absurd (omega (arith, l))
same-list (x ∷ xs) (y ∷ ys) d l h =
    ap (λ z. z ∷ xs) (h 0 (omega arith)) ∙ ap (λ zs. y ∷ zs) (same-list xs ys d (omega (arith, l)) (λ place m. h (suc place) (omega (arith, m))))

agrees-behind : (front : List ℕ) (life : Option LiveFile) (generation : ℕ) (f : FileState) → agrees life generation (file_behind front f) ≡ agrees life generation f
agrees-behind front None generation (file.Unbound other) = refl
agrees-behind front None generation (file.Bytes other kind capacity bytes) = refl
agrees-behind front None generation (file.Device other input output) = refl
agrees-behind front (Some life) generation (file.Unbound other) = refl
agrees-behind front (Some life) generation (file.Bytes other kind capacity bytes) = refl
agrees-behind front (Some life) generation (file.Device other input output) = refl

capacity-behind : (front : List ℕ) (f : FileState) → file_capacity (file_behind front f) ≡ file_capacity f
capacity-behind front (file.Unbound generation) = refl
capacity-behind front (file.Bytes generation kind capacity bytes) = refl
capacity-behind front (file.Device generation input output) = refl

module _ (before : List (List ℕ)) (w : WorldState) (c : IsConsistent w) where
  row-behind : (row : ℕ) → file_at (behind before w) row ≡ file_behind (output_in_front before (backing_of (life_at w.namespace row))) (file_at w row)
  row-behind row = elim (below-or-past (row - 1) (length w.files)) [
    | inl l ↦
        mapped (λ row. file_behind (output_in_front before (backing_of (life_at w.namespace row.0))) row.1) 1 w.files (row - 1) (file.Unbound 0) (file.Unbound 0) l
        ∙ ap (λ k. file_behind (output_in_front before (backing_of (slice_index_or w.namespace.live_files k None))) (file_at w row)) (omega arith)
    | inr l ↦
        let all = mapped-length (λ row. file_behind (output_in_front before (backing_of (life_at w.namespace row.0))) row.1) 1 w.files in
        get_or_past (behind before w).files (row - 1) (file.Unbound 0) (omega (arith, all, l))
        ∙ sym (ap (file_behind (output_in_front before (backing_of (life_at w.namespace row)))) (get_or_past w.files (row - 1) (file.Unbound 0) l))
  ]

  home-behind : (device : ℕ) → device < length w.homes.devices →
      device_home (behind before w).homes device ≡ home_unless_out (slice_index_or w.namespace.devices device no_device).is_out (output_before before device) (device_home w.homes device)
  home-behind device l =
      mapped (λ device. home_unless_out (slice_index_or w.namespace.devices device.0 no_device).is_out (output_before before device.0) device.1) 0 w.homes.devices device no_home no_home l
      ∙ ap (λ k. home_unless_out (slice_index_or w.namespace.devices k no_device).is_out (output_before before k) (device_home w.homes device)) (omega arith)

  -- a device is out only where there is one
  out-within : (device : ℕ) → (slice_index_or w.namespace.devices device no_device).is_out ≡ true → device < length w.homes.devices
  out-within device out = elim (below-or-past device (length w.homes.devices)) [
    | inl l ↦ l
    | inr l ↦ let no = ap (λ d. d.is_out) (get_or_past w.namespace.devices device no_device (let e = c.homes_fit.devices in omega (arith, e, l))) in absurd (cc)
  ]

  is-behind : IsBehind before w (behind before w)
  is-behind = record {
    namespace = refl;
    rows = mapped-length (λ row. file_behind (output_in_front before (backing_of (life_at w.namespace row.0))) row.1) 1 w.files;
    files = row-behind;
    cells = refl;
    devices = mapped-length (λ device. home_unless_out (slice_index_or w.namespace.devices device.0 no_device).is_out (output_before before device.0) device.1) 0 w.homes.devices;
    at_home = λ device l e. home-behind device l ∙ ap (λ out. home_unless_out out (output_before before device) (device_home w.homes device)) e;
    out = λ device e. home-behind device (out-within device e) ∙ ap (λ out. home_unless_out out (output_before before device) (device_home w.homes device)) e ∙ c.homes_fit.out device e;
  }

  -- two worlds behind w are the same
  same-files : (v u : WorldState) → IsBehind before w v → IsBehind before w u → v.files ≡ u.files
  same-files v u a b = same-list v.files u.files (file.Unbound 0) (a.rows ∙ sym b.rows) (λ place l. place-is place (a.files (place + 1) ∙ sym (b.files (place + 1))))
    where
      place-is : (place : ℕ) → file_at v (place + 1) ≡ file_at u (place + 1) → slice_index_or v.files place (file.Unbound 0) ≡ slice_index_or u.files place (file.Unbound 0)
      place-is place h = subst (λ k. slice_index_or v.files k (file.Unbound 0) ≡ slice_index_or u.files k (file.Unbound 0)) (omega arith) h

  same-devices : (v u : WorldState) → IsBehind before w v → IsBehind before w u → v.homes.devices ≡ u.homes.devices
  same-devices v u a b = same-list v.homes.devices u.homes.devices no_home (a.devices ∙ sym b.devices) (λ device l.
      by device (let e = b.devices in omega (arith, e, l)) (slice_index_or w.namespace.devices device no_device).is_out refl)
    where
      by : (device : ℕ) → device < length w.homes.devices → (out : Bool) → (slice_index_or w.namespace.devices device no_device).is_out ≡ out → device_home v.homes device ≡ device_home u.homes device
      by device l true e = a.out device e ∙ sym (b.out device e)
      by device l false e = a.at_home device l e ∙ sym (b.at_home device l e)

  same-world : (v u : WorldState) → IsBehind before w v → IsBehind before w u → v ≡ u
  same-world v u a b =
      ap (λ n. record v { namespace = n }) (a.namespace ∙ sym b.namespace)
      ∙ ap (λ files. record v { namespace = u.namespace; files = files }) (same-files v u a b)
      ∙ ap (λ cells. record u { homes = record v.homes { cells = cells } }) (a.cells ∙ sym b.cells)
      ∙ ap (λ devices. record u { homes = record u.homes { devices = devices } }) (same-devices v u a b)

  consistent-behind : IsConsistent (behind before w)
  consistent-behind =
      let b = is-behind in
      record {
        rows_agree = λ row. ap (agrees (life_at w.namespace row) (generation_at w.namespace row)) (b.files row)
            ∙ agrees-behind (output_in_front before (backing_of (life_at w.namespace row))) (life_at w.namespace row) (generation_at w.namespace row) (file_at w row) ∙ c.rows_agree row;
        references_live = c.references_live;
        rows_used = c.rows_used;
        references_bounded = c.references_bounded;
        folders_stand = c.folders_stand;
        trees_closed = c.trees_closed;
        boxes_placed = c.boxes_placed;
        live_files_fit = c.live_files_fit;
        cells_fit = record {
          live = λ row volume cell h.
              let same = ap file_capacity (b.files row) ∙ capacity-behind (output_in_front before (backing_of (life_at w.namespace row))) (file_at w row) in
              let l = c.cells_fit.live row volume cell h in
              omega (arith, same, l);
          home = c.cells_fit.home;
        };
        homes_fit = record { volumes = c.homes_fit.volumes; cells = c.homes_fit.cells; devices = b.devices ∙ c.homes_fit.devices; kept = c.homes_fit.kept; out = b.out };
        roms_closed = c.roms_closed;
        sizes = record {
          files = b.rows ∙ c.sizes.files;
          live_files = c.sizes.live_files;
          generations = c.sizes.generations;
          trees = c.sizes.trees;
          working_directories = c.sizes.working_directories;
          mounts = c.sizes.mounts;
        };
      }

  pub has-one-behind : HasOneBehind before w
  has-one-behind = record { is = is-behind; one = λ v b. same-world v (behind before w) b is-behind; consistent = consistent-behind }

-- the start

all-same : {X : Type 0} (count : ℕ) (x : X) (place : ℕ) → slice_index_or (replicate count x) place x ≡ x
all-same zero x place = refl
all-same (suc count) x zero = refl
all-same (suc count) x (suc place) = all-same count x place

opened-device : (shapes : List CharsShape) (place : ℕ) → (slice_index_or (map opening_device shapes) place no_device).is_out ≡ false
opened-device [] place = refl
opened-device (shape ∷ shapes) zero = refl
opened-device (shape ∷ shapes) (suc place) = opened-device shapes place

opened-output : (shapes : List CharsShape) (place : ℕ) → (slice_index_or (map opening_home shapes) place no_home).output ≡ []
opened-output [] place = refl
opened-output (shape ∷ shapes) zero = refl
opened-output (shape ∷ shapes) (suc place) = opened-output shapes place

nothing-in-front : (f : FileState) → file_behind [] f ≡ f
nothing-in-front (file.Unbound generation) = refl
nothing-in-front (file.Bytes generation kind capacity bytes) = refl
nothing-in-front (file.Device generation input output) = refl

pub opening-is-behind : (before : List (List ℕ)) (deck : Deck) (describe : Describe) → IsBehind before (opening_state deck describe).world (opening_with before deck describe)
unfolding opening_world opening_namespace
opening-is-behind before deck describe =
    let w = (opening_state deck describe).world in
    let v = opening_with before deck describe in
    let change : (ℕ × DeviceHome) → DeviceHome = λ device. record device.1 { output = output_before before device.0 } in
    record {
      namespace = refl;
      rows = refl;
      files = λ row. sym (ap (λ life. file_behind (output_in_front before (backing_of life)) (file_at w row)) (all-same 1024 None (row - 1)) ∙ nothing-in-front (file_at w row));
      cells = refl;
      devices = mapped-length change 0 w.homes.devices;
      at_home = λ device l e.
          mapped change 0 w.homes.devices device no_home no_home l
          ∙ ap (λ k. record (device_home w.homes device) { output = output_before before k }) (omega arith)
          ∙ ap (λ output. record (device_home w.homes device) { output = output }) (sym (append-nil (output_before before device)))
          ∙ ap (λ output. record (device_home w.homes device) { output = output_before before device ++ output }) (sym (opened-output describe.chars device));
      out = λ device e. let no = opened-device describe.chars device in absurd (cc);
    }
