use Rattle.plain_mounts.proofs.content.content_of.Goals as goal

pub returns-in-Rom : goal.returns-in-Rom
returns-in-Rom c = rw (c.in-Rom.is, ← c.rom_at-rom.ensures, ← c.rom_nodes.ensures) c.rom_entries.ensures

pub returns-in-Cell : goal.returns-in-Cell
returns-in-Cell c = rw (c.in-Cell.is, ← c.volume_named-volume.ensures, ← c.kept_names.ensures) c.cell_entries.ensures
