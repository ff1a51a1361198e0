use Rattle.std.proofs.Common.{◌≡◌, ◌++◌, drop}
use Rattle.plain_mounts.specs.Mounting.{brought_by}
use Rattle.plain_mounts.proofs.content.brought_by.Given as goal

abbrev pub invariant-loop-entry : goal.invariant-loop-entry
invariant-loop-entry l = l.contents ++ brought_by l.roms (drop l.entry-index l.content) ≡ brought_by l.roms l.content
