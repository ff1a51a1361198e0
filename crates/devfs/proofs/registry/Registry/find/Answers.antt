use Rattle.std.proofs.Common.{sym, ap, ◌∙◌}
use Rattle.std.specs.Prelude.{nat_eq}
use Rattle.std.specs.Cmp.Lexicographic.{pointwise}
use Rattle.std.specs.List.{position}
use Rattle.devfs.proofs.EntryLemmas.{place_named-entries}
use Rattle.devfs.specs.DeviceTable.{DeviceTable, place_named}
use Rattle.devfs.proofs.registry.Registry.find.Goals as goal

pub returns-clause-place : goal.returns-clause-place
returns-clause-place g c =
    c.place_of.ensures
    ∙ ap (position (λ slot. pointwise nat_eq slot.name c.args.name.now)) c.as_slice.ensures.value
    ∙ sym (place_named-entries g.C.Chars.contents g.C.Chars.faults c.self.inside.room c.self.inside.slots.items c.args.name.now)
    ∙ ap (λ (t : DeviceTable). place_named t c.args.name.now) c.self.view_is
