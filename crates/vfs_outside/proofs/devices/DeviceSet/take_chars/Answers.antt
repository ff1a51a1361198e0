use Rattle.vfs_outside.proofs.SoundLemmas.{sound_take_chars}
use Rattle.vfs_outside.proofs.devices.DeviceSet.take_chars.Goals as goal

pub invariant_of-self : goal.invariant_of-self
invariant_of-self g c = rw c.take_part.ensures.left (sound_take_chars _ c.args.place c.self.invariant)
