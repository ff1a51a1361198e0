use Rattle.std.proofs.Common.{List, sym, ap, ◌∙◌}
use Rattle.std.specs.Prelude.{Some}
use Rattle.devfs.proofs.EntryLemmas.{entries-with_device}
use Rattle.devfs.proofs.KeptTables.{slots_set}
use Rattle.devfs.specs.DeviceTable.{DeviceEntry, DeviceTable, shown, with_device_at}
use Rattle.devfs.proofs.registry.Registry.give.Goals as goal

pub invariant_of-self : goal.invariant_of-self
invariant_of-self g c =
    rw c.put_device.ensures.put
    (slots_set g.C.Chars.contents g.C.Chars.faults c.self.inside.room c.self.inside.slots.items c.args.place (Some c.args.device) _ _ c.self.invariant (sym c.put_device.ensures.memory))

pub returns : goal.returns
returns g c =
    rw c.put_device.ensures.put
    (ap (λ (devices : List DeviceEntry). record { room = c.self.inside.room; devices = devices })
    (entries-with_device g.C.Chars.contents g.C.Chars.faults c.self.inside.room c.self.inside.slots.items c.args.place (Some c.args.device))
    ∙ ap (λ (t : DeviceTable). with_device_at t c.args.place (Some (shown g.C.Chars.contents g.C.Chars.faults c.args.device))) c.self.view_is)
