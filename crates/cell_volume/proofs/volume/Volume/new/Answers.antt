use Rattle.std.proofs.Common.{List, Option, map, sym, ap, ◌∙◌, arith}
use Rattle.vfs_outside.specs.Volume.{CellState}
use Rattle.cell_volume.proofs.LaidOut.{laid-new, new-devices, new-unmarked, same-number, states-devices}
use Rattle.cell_volume.specs.MountedVolume.{mounted}
use Rattle.cell_volume.proofs.volume.Volume.new.Goals as goal

pub mark_files-requires : goal.mark_files-requires
mark_files-requires g c = record { unmarked = rw c.make_cells.ensures.cells (new-unmarked c.part.inside.cells.items) }

pub invariant_of-result : goal.invariant_of-result
invariant_of-result g c =
    let devices = c.mark_files.ensures.devices ∙ ap (map (λ cell. cell.device)) c.make_cells.ensures.cells in
    rw c.new.ensures (record {
      mounted = laid-new g.B.Block.pages g.B.Block.contents g.B.Block.counts c.part.inside.name c.part.inside.cells.items c.mark_files.new.cells.items c.part.inside.kept.entries c.part.invariant c.mark_files.ensures.ordered c.mark_files.ensures.paths devices;
      marks = c.mark_files.ensures.marks;
      empty = c.make_cells.ensures.devices;
      reserved = omega (arith, same-number c.part.inside.cells.items c.mark_files.new.cells.items devices, c.make_cells.ensures.room, c.make_cells.ensures.capacity, c.part.inside.cells.ok);
    })

pub returns-clause-ok : goal.returns-clause-ok
returns-clause-ok g c =
    let devices = c.mark_files.ensures.devices ∙ ap (map (λ cell. cell.device)) c.make_cells.ensures.cells in
    rw c.new.ensures
    (ap (λ (states : List (Option CellState)). record { name = c.part.inside.name; cells = states; kept = c.part.inside.kept.entries })
    (sym (states-devices g.B.Block.pages g.B.Block.contents g.B.Block.counts c.part.inside.cells.items c.mark_files.new.cells.items (new-devices c.part.inside.cells.items ∙ sym devices)))
    ∙ ap mounted c.part.view_is)
