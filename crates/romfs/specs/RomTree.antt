-- What is found at the paths of a rom.
use Rattle.std.specs.Prelude.{ℕ, Option, Some, None, List, length}
use Rattle.romfs.specs.declared.rom_tree.RomNode.{RomNode}
use Rattle.romfs.specs.declared.rom_tree.RomNode.TheVariants.{Dir, File}

-- a folder has None, and a file its bytes
abbrev pub node_of : Option (List ℕ) → RomNode
node_of None = Dir
node_of (Some bytes) = File (length bytes)
