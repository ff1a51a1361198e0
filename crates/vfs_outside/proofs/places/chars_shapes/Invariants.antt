use Rattle.std.proofs.Common.{◌≡◌, take}
use Rattle.std.specs.Prelude.{filter_map, option_map}
use Rattle.vfs_outside.specs.Volume.{chars_shape}
use Rattle.vfs_outside.proofs.places.chars_shapes.Given as goal

abbrev pub invariant-loop-place : goal.invariant-loop-place
invariant-loop-place g l = l.shapes ≡ filter_map (option_map chars_shape) (take l.place-index l.chars)
