-- What a mount begins with is a tree, each file of which is of the mount's type.
use Rattle.std.proofs.Common.{◌≡◌, ◌≢◌, ℕ, suc, ◌+◌, ◌<◌, ◌≤◌, Bool, true, false, cond, ◌&&◌, T, Option, Some, None, is_some, List, [], ◌∷◌, ◌++◌, length, map, fold, slice_index_or, ◌⊎◌, inl, inr, refl, sym, ap, subst, ◌∙◌, arith}
use Rattle.std.specs.FinMap.Entries.{below_all, by_order, find as value_at, is_sorted, is_sorted-put, put}
use Rattle.std.specs.List.{enumerate_from}
use Rattle.std.specs.Ordering.{eq_by_cmp, is_lt}
use Rattle.std.specs.declared.cmp.Ordering.{Ordering}
use Rattle.std.specs.declared.cmp.Ordering.TheVariants.{Less, Equal, Greater}
use Rattle.vfs_base.specs.Path.{Path, path_cmp}
use Rattle.vfs_base.specs.PathLaws.{path_cmp_exact, path_cmp_total}
use Rattle.vfs_model.proofs.Trees.{same_path-is}
use Rattle.vfs_model.specs.Boxes.{is_kept_dir, is_rom_dir}
use Rattle.vfs_model.specs.Consistency.{IsClosedTree}
use Rattle.vfs_model.specs.Content.{Content, device_content, kept_origin, no_rom, rom_origin}
use Rattle.vfs_model.specs.FileLife.{no_device, volume_at}
use Rattle.vfs_model.specs.Namespace.{same_path}
use Rattle.vfs_model.specs.declared.namespace.DeviceState.{DeviceState}
use Rattle.vfs_model.specs.declared.namespace.KeptNode.{KeptNode}
use Rattle.vfs_model.specs.declared.namespace.KeptNode.TheVariants as kept
use Rattle.vfs_model.specs.declared.namespace.Namespace.{Namespace}
use Rattle.vfs_model.specs.declared.namespace.Origin.{Origin}
use Rattle.vfs_model.specs.declared.namespace.Origin.TheVariants as origin
use Rattle.vfs_model.specs.declared.namespace.RomNode.{RomNode}
use Rattle.vfs_model.specs.declared.namespace.RomNode.TheVariants as rom
use Rattle.world_laws.proofs.steps.Filling.{content_shape}
use Rattle.world_laws.proofs.lists.Lists.{or-either}

-- a content is a tree: no root, folders above, at most 4096 nodes
pub record IsTree (content : Content) : Type 0 where
  pub sorted : T (is_sorted path_cmp content)
  pub rootless : content_shape (value_at path_cmp [] content) ≡ 0
  pub parents : (front : Path) (name : List ℕ) → content_shape (value_at path_cmp (front ++ name ∷ []) content) ≢ 0 → (content_shape (value_at path_cmp front content) ≡ 1) ⊎ (front ≡ [])
  pub bounded : length content ≤ 4096

-- nodes with other values at the same paths
module _ {X : Type 0} (f : Path → X → Option Origin) (shape : Option X → ℕ) (same : (p : Path) (x : X) → content_shape (Some (f p x)) ≡ shape (Some x)) (none : shape None ≡ 0) where
  abbrev pub valued : List (Path × X) → Content
  valued nodes = map (λ entry. (entry.0, f entry.0 entry.1)) nodes

  pub valued-shape : (p : Path) (nodes : List (Path × X)) → content_shape (value_at path_cmp p (valued nodes)) ≡ shape (value_at path_cmp p nodes)
  valued-shape p [] = sym none
  valued-shape p (e ∷ nodes) = first (eq_by_cmp path_cmp p e.0) (valued-shape p nodes)
    where
      first : (b : Bool) → content_shape (value_at path_cmp p (valued nodes)) ≡ shape (value_at path_cmp p nodes) →
          content_shape (cond b (Some (f e.0 e.1)) (value_at path_cmp p (valued nodes))) ≡ shape (cond b (Some e.1) (value_at path_cmp p nodes))
      first true later = same e.0 e.1
      first false later = later

  valued-below : (p : Path) (nodes : List (Path × X)) → below_all path_cmp p (valued nodes) ≡ below_all path_cmp p nodes
  valued-below p [] = refl
  valued-below p (e ∷ nodes) = ap (λ b. is_lt (path_cmp p e.0) && b) (valued-below p nodes)

  valued-sorted : (nodes : List (Path × X)) → is_sorted path_cmp (valued nodes) ≡ is_sorted path_cmp nodes
  valued-sorted [] = refl
  valued-sorted (e ∷ nodes) = ap (λ b. b && is_sorted path_cmp (valued nodes)) (valued-below e.0 nodes) ∙ ap (λ b. below_all path_cmp e.0 nodes && b) (valued-sorted nodes)

  valued-length : (nodes : List (Path × X)) → length (valued nodes) ≡ length nodes
  valued-length [] = refl
  valued-length (e ∷ nodes) = ap suc (valued-length nodes)

  pub valued-tree : (is_dir : Option X → Bool) → ((found : Option X) → is_dir found ≡ true → shape found ≡ 1) → ((found : Option X) → shape found ≢ 0 → is_some found ≡ true) →
      (nodes : List (Path × X)) → IsClosedTree is_dir nodes → IsTree (valued nodes)
  valued-tree is_dir dir some nodes closed = record {
    sorted = subst T (sym (valued-sorted nodes)) closed.sorted;
    rootless = valued-shape [] nodes ∙ ap shape closed.rootless ∙ none;
    parents = λ front name h.
        let there = some (value_at path_cmp (front ++ name ∷ []) nodes) (λ e. h (valued-shape (front ++ name ∷ []) nodes ∙ e)) in
        elim (or-either (is_dir (value_at path_cmp front nodes)) (same_path front []) (closed.parents front name there)) [
          | inl x ↦ inl (valued-shape front nodes ∙ dir (value_at path_cmp front nodes) x)
          | inr x ↦ inr (same_path-is front [] x)
        ];
    bounded = let e = valued-length nodes in let l = closed.bounded in omega (arith, e, l);
  }

pub empty-tree : IsTree []
empty-tree = record { sorted = tt; rootless = refl; parents = λ front name h. absurd (h refl); bounded = omega arith }

rom_shape : Option RomNode → ℕ
rom_shape None = 0
rom_shape (Some rom.Dir) = 1
rom_shape (Some (rom.File bytes)) = 2

kept_shape : Option KeptNode → ℕ
kept_shape None = 0
kept_shape (Some kept.Dir) = 1
kept_shape (Some (kept.File cell)) = 2

pub rom-tree : (n : Namespace) (place : ℕ) → IsClosedTree is_rom_dir (slice_index_or n.roms place no_rom).nodes →
    IsTree (map (λ entry. (entry.0, rom_origin place entry.0 entry.1)) (slice_index_or n.roms place no_rom).nodes)
unfolding rom_shape
rom-tree n place closed = valued-tree (rom_origin place) rom_shape same refl is_rom_dir dir some (slice_index_or n.roms place no_rom).nodes closed
  where
    same : (p : Path) (x : RomNode) → content_shape (Some (rom_origin place p x)) ≡ rom_shape (Some x)
    same p rom.Dir = refl
    same p (rom.File bytes) = refl

    dir : (found : Option RomNode) → is_rom_dir found ≡ true → rom_shape found ≡ 1
    dir None h = absurd (cc)
    dir (Some rom.Dir) h = refl
    dir (Some (rom.File bytes)) h = absurd (cc)

    some : (found : Option RomNode) → rom_shape found ≢ 0 → is_some found ≡ true
    some None h = absurd (h refl)
    some (Some x) h = refl

pub kept-tree : (n : Namespace) (volume : ℕ) → IsClosedTree is_kept_dir (volume_at n volume).kept →
    IsTree (map (λ entry. (entry.0, kept_origin volume entry.1)) (volume_at n volume).kept)
unfolding kept_shape
kept-tree n volume closed = valued-tree (λ p x. kept_origin volume x) kept_shape same refl is_kept_dir dir some (volume_at n volume).kept closed
  where
    same : (p : Path) (x : KeptNode) → content_shape (Some (kept_origin volume x)) ≡ kept_shape (Some x)
    same p kept.Dir = refl
    same p (kept.File cell) = refl

    dir : (found : Option KeptNode) → is_kept_dir found ≡ true → kept_shape found ≡ 1
    dir None h = absurd (cc)
    dir (Some kept.Dir) h = refl
    dir (Some (kept.File cell)) h = absurd (cc)

    some : (found : Option KeptNode) → kept_shape found ≢ 0 → is_some found ≡ true
    some None h = absurd (h refl)
    some (Some x) h = refl

-- each file of the devices' content is a device under its own name
pub record IsDevice (n : Namespace) (p : Path) (o : Option Origin) : Type 0 where
  pub device : ℕ
  pub is : o ≡ Some (origin.Device device)
  pub within : device < length n.devices
  pub name : p ≡ (slice_index_or n.devices device no_device).name ∷ []

abbrev pub AllDevices : Namespace → Content → Type 0
AllDevices n [] = Unit {0}
AllDevices n (entry ∷ content) = IsDevice n entry.0 entry.1 × AllDevices n content

put-devices : (n : Namespace) (p : Path) (o : Option Origin) (content : Content) → IsDevice n p o → AllDevices n content → AllDevices n (put path_cmp p o content)
put-devices n p o [] d all = (d, tt)
put-devices n p o (e ∷ content) d all = by (path_cmp p e.0) refl (put-devices n p o content d all.1)
  where
    by : (r : Ordering) → path_cmp p e.0 ≡ r → AllDevices n (put path_cmp p o content) → AllDevices n (by_order r ((p, o) ∷ e ∷ content) ((e.0, o) ∷ content) (e ∷ put path_cmp p o content))
    by Less h later = (d, all)
    by Equal h later = (subst (λ x. IsDevice n x o) (path_cmp_exact p e.0 h) d, all.1)
    by Greater h later = (all.0, later)

abbrev pub put_device : Content → (ℕ × DeviceState) → Content
put_device content device = put path_cmp (device.1.name ∷ []) (Some (origin.Device device.0)) content

-- what holds of the content while the devices are put into it
pub record DeviceFold (n : Namespace) (content : Content) (count : ℕ) : Type 0 where
  pub all : AllDevices n content
  pub sorted : T (is_sorted path_cmp content)

device-fold : (n : Namespace) (from : ℕ) (devices : List DeviceState) (content : Content) →
    ((k : ℕ) → k < length devices → (from + k < length n.devices) × (slice_index_or n.devices (from + k) no_device ≡ slice_index_or devices k no_device)) →
    DeviceFold n content 0 → DeviceFold n (fold put_device content (enumerate_from from devices)) 0
device-fold n from [] content h f = f
device-fold n from (d ∷ devices) content h f =
    device-fold n (from + 1) devices (put_device content (from, d)) (λ k l.
    let next = h (suc k) (omega (arith, l)) in
    (omega (arith, next), ap (λ x. slice_index_or n.devices x no_device) (omega arith) ∙ next.1))
    (record {
      all = put-devices n (d.name ∷ []) (Some (origin.Device from)) content (record {
        device = from;
        is = refl;
        within = let here = h 0 (omega arith) in omega (arith, here);
        name = ap (λ x. x.name ∷ []) (sym (ap (λ x. slice_index_or n.devices x no_device) (omega arith) ∙ (h 0 (omega arith)).1));
      }) f.all;
      sorted = is_sorted-put path_cmp path_cmp_total (d.name ∷ []) (Some (origin.Device from)) content f.sorted;
    })

pub device-content : (n : Namespace) → DeviceFold n (device_content n) 0
device-content n = device-fold n 0 n.devices [] (λ k l. (omega (arith, l), ap (λ x. slice_index_or n.devices x no_device) (omega arith))) (record { all = tt; sorted = tt })
