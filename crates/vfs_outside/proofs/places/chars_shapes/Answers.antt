use Rattle.std.specs.Prelude.{option_map}
use Rattle.vfs_outside.specs.Volume.{chars_shape}
use Rattle.vfs_outside.proofs.VolumeLemmas.{filter_map_more}
use Rattle.vfs_outside.proofs.places.chars_shapes.Goals as goal

pub loop-place-preserved : goal.loop-place-preserved
loop-place-preserved g c =
    let more = filter_map_more (option_map chars_shape) c.args.chars.now c.loop-place.place-index c.place-item.result c.loop-place-test.true c.place-item.is in
    cc (more, c.loop-place.invariant, c.in_ok-push_chars_shape.ensures)
