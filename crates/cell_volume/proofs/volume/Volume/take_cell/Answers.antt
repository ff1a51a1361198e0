use Rattle.std.proofs.Common.{◌≡◌, List, Option, None, is_some, option_map, sym, ap, ◌∙◌}
use Rattle.std.specs.List.{position}
use Rattle.vfs_outside.specs.Volume.{CellState}
use Rattle.cell_volume.proofs.CellLemmas.{states-with_device}
use Rattle.cell_volume.proofs.LaidOut.{laid-device, laid-least, spare-there}
use Rattle.cell_volume.specs.Cells.{is_spare_cell}
use Rattle.cell_volume.specs.MountedVolume.{MountedVolume, least_spare, with_cell}
use Rattle.cell_volume.proofs.volume.Volume.take_cell.Goals as goal

pub returns-in_err-place-clause-cell : goal.returns-in_err-place-clause-cell
returns-in_err-place-clause-cell g c =
    let least : c.least_spare.result ≡ least_spare c.args.self.now =
    c.least_spare.ensures ∙ ap (position is_spare_cell) c.deref.ensures.value ∙ sym (laid-least g.B.Block.pages g.B.Block.contents g.B.Block.counts c.self.inside.name c.self.inside.cells.cells.items c.self.inside.nodes.entries c.self.inside.room.items _ c.self.invariant) ∙ ap least_spare c.self.view_is in
    ap (option_map (λ taken. taken.0)) c.from_residual.ensures ∙ sym c.in_err-place.was ∙ least

pub returns-in_err-device-clause-cell : goal.returns-in_err-device-clause-cell
returns-in_err-device-clause-cell g c =
    let there = spare-there c.self.inside.cells.cells.items c.in_ok-place.place (sym (c.least_spare.ensures ∙ ap (position is_spare_cell) c.deref.ensures.value) ∙ c.in_ok-place.was) in
    let yes = there.1 in
    let none = sym c.take_device.ensures.device ∙ c.in_err-device.was in
    let no = ap is_some none in
    absurd (cc)

pub invariant_of-self-2 : goal.invariant_of-self-2
invariant_of-self-2 g c =
    rw c.take_device.ensures.left
    (laid-device g.B.Block.pages g.B.Block.contents g.B.Block.counts c.self.inside.name c.self.inside.cells.cells.items c.self.inside.nodes.entries c.self.inside.room.items _ c.self.invariant c.in_ok-place.place None tt)

pub returns-clause-cell : goal.returns-clause-cell
returns-clause-cell g c =
    sym (sym (c.least_spare.ensures ∙ ap (position is_spare_cell) c.deref.ensures.value ∙ sym (laid-least g.B.Block.pages g.B.Block.contents g.B.Block.counts c.self.inside.name c.self.inside.cells.cells.items c.self.inside.nodes.entries c.self.inside.room.items _ c.self.invariant) ∙ ap least_spare c.self.view_is) ∙ c.in_ok-place.was)

pub returns-clause-left : goal.returns-clause-left
returns-clause-left g c =
    rw c.take_device.ensures.left
    (ap (λ (states : List (Option CellState)). record { name = c.self.inside.name; cells = states; kept = c.self.inside.nodes.entries })
    (states-with_device g.B.Block.pages g.B.Block.contents g.B.Block.counts c.self.inside.cells.cells.items c.in_ok-place.place None)
    ∙ ap (λ (v : MountedVolume). with_cell v c.in_ok-place.place None) c.self.view_is)
