use Rattle.cell_volume.proofs.volume.Volume.list.Goals as goal

pub entries_in-requires : goal.entries_in-requires
entries_in-requires g c = c.self.invariant.mounted.paths
