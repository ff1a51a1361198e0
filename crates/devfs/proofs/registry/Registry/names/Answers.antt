use Rattle.devfs.proofs.EntryLemmas.{names-entries}
use Rattle.devfs.proofs.registry.Registry.names.Goals as goal

pub returns : goal.returns
returns g c =
    rw (← c.self.view_is, names-entries g.C.Chars.contents g.C.Chars.faults c.self.inside.slots.items, ← c.as_slice.ensures.value) c.copy_names.ensures
