-- What a block device of either kind tells: that in memory all, that over a file its counts alone.
use Rattle.std.specs.Prelude.{ℕ, List, Option, Some, None, length}
use Rattle.vfs_base.specs.declared.describe.Counts.{Counts}
use Rattle.vfs_outside.specs.MemBlock as mem
use Rattle.vfs_outside.specs.declared.any_block.AnyBlock.{AnyBlock}
use Rattle.vfs_outside.specs.declared.any_block.AnyBlock.TheVariants.{Mem, File}

abbrev pub pages_of : AnyBlock → ℕ
pages_of (Mem block) = length block.pages
pages_of (File block) = block.pages

abbrev pub contents_of : AnyBlock → Option (List (List ℕ))
contents_of (Mem block) = Some block.pages
contents_of (File block) = None

abbrev pub counts_of : AnyBlock → Counts
counts_of (Mem block) = mem.counts_of block
counts_of (File block) = block.counts
