use Rattle.std.specs.Prelude.{option_map}
use Rattle.vfs_outside.specs.Volume.{volume_shape}
use Rattle.vfs_outside.proofs.VolumeLemmas.{filter_map_more}
use Rattle.vfs_outside.proofs.places.volume_shapes.Goals as goal

pub loop-place-preserved : goal.loop-place-preserved
loop-place-preserved g c =
    let more = filter_map_more (option_map volume_shape) c.args.volumes.now c.loop-place.place-index c.place-item.result c.loop-place-test.true c.place-item.is in
    record {
      shapes = cc (more, c.loop-place.invariant.shapes, c.in_ok-push_volume_shape.ensures.shape);
      few = c.in_ok-push_volume_shape.ensures.few c.loop-place.invariant.few;
    }
