use Rattle.vfs_outside.proofs.VolumeLemmas.{IsVolume-empty}
use Rattle.vfs_outside.proofs.parts.VolumePart.new.Goals as goal

pub invariant_of-result : goal.invariant_of-result
invariant_of-result g c =
    IsVolume-empty g.B.Block.pages g.B.Block.contents g.B.Block.counts c.args.name c.args.cells.items c.new-kept.result.entries c.requires c.new-kept.ensures.empty

pub returns-clause-sound : goal.returns-clause-sound
returns-clause-sound g c =
    IsVolume-empty g.B.Block.pages g.B.Block.contents g.B.Block.counts c.args.name c.args.cells.items c.new-kept.result.entries c.requires c.new-kept.ensures.empty
