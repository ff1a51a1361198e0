use Rattle.std.proofs.Common.{◌≡◌, ◌<◌, ℕ, length, map}
use Rattle.std.specs.Map.Iter.{deref_pair}
use Rattle.vfs_base.specs.Path.{AllAre, IsPath}
use Rattle.cell_volume.specs.Cells.{cell_at}
use Rattle.cell_volume.specs.MountedVolume.{has_file}
use Rattle.cell_volume.proofs.cells.mark_files.Given as goal

abbrev pub invariant-loop-path : goal.invariant-loop-path
invariant-loop-path g l = record {
  devices : map (λ cell. cell.device) l.cells.items ≡ map (λ cell. cell.device) l.initial.cells.items;
  marks : (place : ℕ) → place < length l.cells.items → (cell_at l.cells.items place).has_file ≡ has_file (map deref_pair l.yielded) place;
  paths : AllAre (λ entry. IsPath entry.0) (map deref_pair l.yielded);
}
