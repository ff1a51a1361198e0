-- The namespace at the start is no larger than it may be.
use Rattle.std.proofs.Common.{◌≡◌, ℕ, zero, suc, ◌-◌, ◌≤◌, List, [], ◌∷◌, length, map, replicate, refl, ap, arith}
use Rattle.std.specs.Prelude.{Option, None, true, slice_index_or}
use Rattle.std.proofs.lemmas.List.{length-replicate}
use Rattle.vfs_base.specs.Path.{AllAre, Path, printed}
use Rattle.vfs_base.specs.declared.describe.Describe.{Describe}
use Rattle.vfs_base.specs.declared.describe.VolumeShape.{VolumeShape}
use Rattle.vfs_model.specs.Content.{no_rom}
use Rattle.vfs_model.specs.FileLife.{no_volume}
use Rattle.vfs_model.specs.Namespace.{Tree, opening_namespace, opening_volume}
use Rattle.vfs_model.specs.declared.namespace.LiveFile.{LiveFile}
use Rattle.vfs_model.specs.declared.namespace.Reference.{Reference}
use Rattle.vfs_model.specs.declared.namespace.RomImage.{RomImage}
use Rattle.vfs_model.specs.declared.namespace.VolumeState.{VolumeState}
use Rattle.vfs_model.specs.Sizes.{HasFewCells, IsSized, IsSmallRom}

empty_at : (n j : ℕ) → slice_index_or {A = Tree} (replicate n []) j [] ≡ []
empty_at zero j = refl
empty_at (suc n) zero = refl
empty_at (suc n) (suc j) = empty_at n j

root_at : (n j : ℕ) → slice_index_or {A = Path} (replicate n []) j [] ≡ []
root_at zero j = refl
root_at (suc n) zero = refl
root_at (suc n) (suc j) = root_at n j

item_at : {X : Type 0} (P : X → Type 0) (xs : List X) (i : ℕ) (d : X) → AllAre P xs → P d → P (slice_index_or xs i d)
item_at P [] i d h p = p
item_at P (x ∷ xs) zero d h p = h.0
item_at P (x ∷ xs) (suc i) d h p = item_at P xs i d h.1 p

volume_at_start : (P : VolumeState → Type 0) (shapes : List VolumeShape) (i : ℕ) → AllAre HasFewCells shapes →
    ((shape : VolumeShape) → HasFewCells shape → P (opening_volume shape)) → P no_volume →
    P (slice_index_or (map opening_volume shapes) i no_volume)
volume_at_start P [] i h f p = p
volume_at_start P (shape ∷ shapes) zero h f p = f shape h.0
volume_at_start P (shape ∷ shapes) (suc i) h f p = volume_at_start P shapes i h.1 f p

pub sized_start : (roms : List RomImage) (describe : Describe) → AllAre IsSmallRom roms → AllAre HasFewCells describe.volumes →
    IsSized (opening_namespace roms describe)
unfolding opening_namespace
sized_start roms describe small few = record {
  live_files = length-replicate {A = Option LiveFile} 1024 None;
  generations = length-replicate {A = ℕ} 1024 0;
  references = omega (arith, length-replicate {A = Option Reference} 256 None);
  working_directories = omega (arith, length-replicate {A = Path} 8 []);
  short = λ k. omega (arith, ap (λ (folder : Path). length (printed folder)) (root_at 8 (k - 1)));
  mounts = omega arith;
  places = length-replicate {A = Tree} 16 [];
  trees = λ j. omega (arith, ap (λ (tree : Tree). length tree) (empty_at 16 j));
  spares = λ v. volume_at_start (λ volume. length volume.spare ≤ 1024) describe.volumes v few
      (λ shape h. let same = length-replicate (length shape.pages) true in omega (arith, same, h)) (omega arith);
  pages = λ v. volume_at_start (λ volume. length volume.pages ≤ 1024) describe.volumes v few (λ shape h. h) (omega arith);
  kept = λ v. volume_at_start (λ volume. length volume.kept ≤ 4096) describe.volumes v few (λ shape h. omega arith) (omega arith);
  roms = λ place. item_at IsSmallRom roms place no_rom small (omega arith);
  unused = λ number h. empty_at 16 number;
}
