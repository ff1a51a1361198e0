use Rattle.vfs_outside.proofs.SoundLemmas.{sound_push_chars}
use Rattle.vfs_outside.proofs.devices.DeviceSet.add_chars.Goals as goal

pub invariant_of-self-2 : goal.invariant_of-self-2
invariant_of-self-2 g c =
    rw (c.push_part.ensures, c.reserve.ensures.items) (sound_push_chars _ _
    (rw (← c.as_slice.ensures.value, ← c.as_slice-2.ensures.value, ← c.is_taken.ensures) c.if-is_taken.false) c.self.invariant)
