use Rattle.std.proofs.Common.{ap, subst, ◌∙◌}
use Rattle.std.specs.Prelude.{None}
use Rattle.std.proofs.lemmas.Option.{slice_get_within}
use Rattle.vfs_outside.specs.Devices.{DevicesState, is_taken}
use Rattle.vfs_outside.specs.Volume.{IsVolume}
use Rattle.vfs_outside.proofs.SoundLemmas.{sound_put_volume}
use Rattle.vfs_outside.proofs.devices.DeviceSet.put_volume.Goals as goal

pub invariant_of-self : goal.invariant_of-self
invariant_of-self g c = rw c.put_part.ensures (sound_put_volume _ c.args.part c.args.place
    (slice_get_within c.self.inside.volumes.items c.args.place None (rw (ap (λ (d : DevicesState). d.volumes) c.self.view_is) c.requires.out))
    (ap (λ (d : DevicesState). is_taken d c.args.part.name) c.self.view_is ∙ c.requires.name)
    (subst IsVolume c.part.view_is c.part.invariant) c.self.invariant)
