use Rattle.std.proofs.Common.{ap, ◌∙◌}
use Rattle.std.specs.Prelude.{None}
use Rattle.std.proofs.lemmas.Option.{slice_get_within}
use Rattle.vfs_outside.specs.Devices.{DevicesState, is_taken}
use Rattle.vfs_outside.proofs.SoundLemmas.{sound_put_chars}
use Rattle.vfs_outside.proofs.devices.DeviceSet.put_chars.Goals as goal

pub invariant_of-self : goal.invariant_of-self
invariant_of-self g c = rw c.put_part.ensures (sound_put_chars _ c.args.part c.args.place
    (slice_get_within c.self.inside.chars.items c.args.place None (rw (ap (λ (d : DevicesState). d.chars) c.self.view_is) c.requires.out))
    (ap (λ (d : DevicesState). is_taken d c.args.part.name) c.self.view_is ∙ c.requires.name)
    c.self.invariant)
