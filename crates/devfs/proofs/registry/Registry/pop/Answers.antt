use Rattle.std.proofs.Common.{sym}
use Rattle.std.specs.Prelude.{Some}
use Rattle.devfs.proofs.KeptTables.{slots_pop}
use Rattle.devfs.proofs.registry.Registry.pop.Goals as goal

pub invariant_of-self-2 : goal.invariant_of-self-2
invariant_of-self-2 g c =
    slots_pop g.C.Chars.contents g.C.Chars.faults c.self.inside.room c.pop_home.new.slots.items
    (record { name = c.in_ok-name.name; device = Some c.in_ok-name.device }) c.self.inside.slots.items _ _
    c.self.invariant c.in_ok-name.ensures.some (sym c.pop_home.ensures.memory)
