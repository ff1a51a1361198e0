use Rattle.devfs.proofs.KeptTables.{slots_push}
use Rattle.devfs.proofs.registry.Registry.add.Goals as goal

pub invariant_of-self : goal.invariant_of-self
invariant_of-self g c =
    rw c.push_home.ensures.slots
    (slots_push g.C.Chars.contents g.C.Chars.faults c.self.inside.room c.self.inside.slots.items c.part.inside.name c.part.inside.device _ _
    c.self.invariant (rw (← c.self.view_is) at c.requires.room) (rw (← c.self.view_is, ← c.part.view_is) at c.requires.name) c.push_home.ensures.memory)
