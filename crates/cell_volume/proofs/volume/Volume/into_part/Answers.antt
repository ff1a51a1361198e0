use Rattle.std.proofs.Common.{◌≡◌, List, Option, is_some, sym, ap, subst, ◌∙◌, rules}
use Rattle.std.specs.List.{list_all}
use Rattle.vfs_outside.specs.Volume.{CellState, cell_states}
use Rattle.cell_volume.proofs.LaidOut.{laid-home, states-devices}
use Rattle.cell_volume.proofs.MountedLemmas.{volume-mounted}
use Rattle.cell_volume.specs.MountedVolume.{IsMounted, are_home}
use Rattle.cell_volume.proofs.volume.Volume.into_part.Goals as goal

pub returns-then-not-are_home-clause-out : goal.returns-then-not-are_home-clause-out
returns-then-not-are_home-clause-out g c =
    let same : are_home c.args.self ≡ c.are_home.result =
    sym (ap are_home c.self.view_is) ∙ laid-home g.B.Block.pages g.B.Block.contents g.B.Block.counts c.self.inside.name c.self.inside.cells.cells.items c.self.inside.nodes.entries c.self.inside.room.items _ c.self.invariant
    ∙ sym (c.are_home.ensures ∙ ap (list_all (λ cell. is_some cell.device)) c.deref.ensures.value) in
    grind (rules, same)

pub invariant_of-result : goal.invariant_of-result
invariant_of-result g c =
    let P : List (Option CellState) → Type 0 = λ states. IsMounted (record { name = c.self.inside.name; cells = states; kept = c.self.inside.nodes.entries }) in
    volume-mounted (record { name = c.self.inside.name; cells = cell_states g.B.Block.pages g.B.Block.contents g.B.Block.counts c.take_devices.new.devices.items; kept = c.self.inside.nodes.entries })
    (subst P (sym (states-devices g.B.Block.pages g.B.Block.contents g.B.Block.counts c.take_devices.new.devices.items c.self.inside.cells.cells.items c.take_devices.ensures)) c.self.invariant.mounted)

pub returns-clause-ok : goal.returns-clause-ok
returns-clause-ok g c =
    sym c.self.view_is
    ∙ ap (λ (states : List (Option CellState)). record { name = c.self.inside.name; cells = states; kept = c.self.inside.nodes.entries })
    (sym (states-devices g.B.Block.pages g.B.Block.contents g.B.Block.counts c.take_devices.new.devices.items c.self.inside.cells.cells.items c.take_devices.ensures))
