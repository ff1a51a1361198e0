use Rattle.vfs_outside.proofs.SoundLemmas.{sound_push_volume}
use Rattle.vfs_outside.proofs.devices.DeviceSet.add_volume.Goals as goal

pub invariant_of-self-2 : goal.invariant_of-self-2
invariant_of-self-2 g c =
    rw (c.push_part.ensures, c.reserve.ensures.items) (sound_push_volume _ c.new-volume.result
    (rw (c.new-volume.ensures.value, ← c.as_slice.ensures.value, ← c.as_slice-2.ensures.value, ← c.is_taken.ensures) c.if-is_taken.false)
    c.new-volume.ensures.sound c.self.invariant)
