use Rattle.std.proofs.Common.{◌≡◌, ◌≤◌, length, take}
use Rattle.std.specs.Prelude.{All, filter_map, option_map}
use Rattle.vfs_base.specs.declared.limits.TheConstants.{VOLUME_CELLS_MAX}
use Rattle.vfs_outside.specs.Volume.{volume_shape}
use Rattle.vfs_outside.proofs.places.volume_shapes.Given as goal

abbrev pub invariant-loop-place : goal.invariant-loop-place
invariant-loop-place g l = record {
  shapes : l.shapes ≡ filter_map (option_map volume_shape) (take l.place-index l.volumes);
  few : All (λ volume. length volume.pages ≤ VOLUME_CELLS_MAX) l.shapes;
}
