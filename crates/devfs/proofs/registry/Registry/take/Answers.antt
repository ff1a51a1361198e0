use Rattle.std.proofs.Common.{List, option_map, sym, ap, ◌∙◌}
use Rattle.std.specs.Prelude.{None}
use Rattle.devfs.proofs.EntryLemmas.{device_at-entries, entries-with_device}
use Rattle.devfs.proofs.KeptTables.{slots_set}
use Rattle.devfs.specs.DeviceTable.{DeviceEntry, DeviceTable, device_at, shown, with_device_at}
use Rattle.devfs.proofs.registry.Registry.take.Goals as goal

pub invariant_of-self : goal.invariant_of-self
invariant_of-self g c =
    rw c.take_device.ensures.left
    (slots_set g.C.Chars.contents g.C.Chars.faults c.self.inside.room c.self.inside.slots.items c.args.place None _ _ c.self.invariant (sym c.take_device.ensures.memory))

pub returns-clause-device : goal.returns-clause-device
returns-clause-device g c =
    ap (option_map (shown g.C.Chars.contents g.C.Chars.faults)) c.take_device.ensures.device
    ∙ sym (device_at-entries g.C.Chars.contents g.C.Chars.faults c.self.inside.room c.self.inside.slots.items c.args.place)
    ∙ ap (λ (t : DeviceTable). device_at t c.args.place) c.self.view_is

pub returns-clause-left : goal.returns-clause-left
returns-clause-left g c =
    rw c.take_device.ensures.left
    (ap (λ (devices : List DeviceEntry). record { room = c.self.inside.room; devices = devices })
    (entries-with_device g.C.Chars.contents g.C.Chars.faults c.self.inside.room c.self.inside.slots.items c.args.place None)
    ∙ ap (λ (t : DeviceTable). with_device_at t c.args.place None) c.self.view_is)
