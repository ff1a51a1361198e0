-- The roms of a script at the start, and what stops a world from being opened.
use Rattle.std.specs.Prelude.{◌≡◌, ℕ, ◌+◌, Bool, true, false, is_none, Some, None, List, [], ◌∷◌, ◌++◌, map, Result, Ok, Err}
use Rattle.std.specs.List.{list_any}
use Rattle.vfs_base.specs.Path.{Path, AllAre}
use Rattle.vfs_base.specs.declared.deck.Deck.{Deck}
use Rattle.vfs_base.specs.declared.deck.RomText.{RomText}
use Rattle.vfs_base.specs.declared.describe.Describe.{Describe}
use Rattle.vfs_model.specs.Manifest.{manifest_tree}
use Rattle.vfs_model.specs.Rom.{RomItems}
use Rattle.vfs_model.specs.ScriptRun.{first_bad_rom, rom_node}
use Rattle.vfs_model.specs.Sizes.{HasFewCells}
use Rattle.vfs_model.specs.declared.namespace.RomImage.{RomImage}
use Rattle.vfs_model.specs.declared.namespace.RomNode.{RomNode}
use Rattle.plain_steps.specs.declared.plain_fault.PlainFault.{PlainFault}
use Rattle.plain_steps.specs.declared.plain_fault.PlainFault.TheVariants as fault

-- what stands at each path of a rom
abbrev pub rom_nodes : RomItems → List (Path × RomNode)
rom_nodes items = map (λ item. (item.0, rom_node item.1)) items

-- the rom that a text of a script means, and those behind it; or the place of the first text that means none
abbrev pub image_before : ℕ → List ℕ → Result RomItems ℕ → Result (List RomImage) ℕ → Result (List RomImage) ℕ
image_before place name (Err line) later = Err place
image_before place name (Ok items) (Err other) = Err other
image_before place name (Ok items) (Ok images) = Ok (record { name = name; nodes = rom_nodes items } ∷ images)

-- the roms of a script, or the place of the first text that is no manifest; places are counted from this one on
abbrev pub rom_images : ℕ → List RomText → Result (List RomImage) ℕ
rom_images place [] = Ok []
rom_images place (text ∷ texts) = image_before place text.name (manifest_tree text.manifest) (rom_images (place + 1) texts)

-- the roms so far, and those behind them
abbrev pub behind : List RomImage → Result (List RomImage) ℕ → Result (List RomImage) ℕ
behind images (Ok later) = Ok (images ++ later)
behind images (Err place) = Err place

-- a device does not tell its input
abbrev pub is_untold : Describe → Bool
is_untold describe = list_any (λ shape. is_none shape.input) describe.chars

-- no volume has more cells than it may have
abbrev pub HasFewCellsEach : Describe → Type 0
HasFewCellsEach describe = AllAre HasFewCells describe.volumes

-- why no roms were read, of which this is told
abbrev pub StopsRoms : Result (List RomImage) ℕ → PlainFault → Type 0
StopsRoms told (fault.BadRom index) = told ≡ Err index
StopsRoms told fault.Untold = false ≡ true
StopsRoms told fault.NoMemory = Unit {0}
StopsRoms told (fault.NoSchedule at) = false ≡ true

-- why the world of a script is not opened
abbrev pub StopsOpening : Deck → Describe → PlainFault → Type 0
StopsOpening deck describe (fault.BadRom index) = first_bad_rom deck ≡ Some index
StopsOpening deck describe fault.Untold = (first_bad_rom deck ≡ None) × (is_untold describe ≡ true)
StopsOpening deck describe fault.NoMemory = Unit {0}
StopsOpening deck describe (fault.NoSchedule at) = ⊥
