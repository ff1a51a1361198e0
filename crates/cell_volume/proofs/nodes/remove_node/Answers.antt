use Rattle.std.proofs.Common.{◌∙◌}
use Rattle.cell_volume.proofs.EntryLemmas.{remove-without}
use Rattle.cell_volume.proofs.MountedLemmas.{ordered-entries}
use Rattle.cell_volume.proofs.nodes.remove_node.Goals as goal

pub returns-clause-left : goal.returns-clause-left
returns-clause-left c = c.remove.ensures.entries ∙ remove-without c.args.path.now c.args.nodes.now.entries c.requires

pub returns-clause-ordered : goal.returns-clause-ordered
returns-clause-ordered c = ordered-entries c.remove.new.self.entries c.remove.ensures.ordered
