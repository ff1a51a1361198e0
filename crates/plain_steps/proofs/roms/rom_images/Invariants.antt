use Rattle.std.proofs.Common.{◌≡◌, drop}
use Rattle.vfs_base.specs.Path.{AllAre}
use Rattle.vfs_model.specs.Sizes.{IsSmallRom}
use Rattle.plain_steps.specs.Opening.{behind, rom_images}
use Rattle.plain_steps.proofs.roms.rom_images.Given as goal

abbrev pub invariant-loop-text : goal.invariant-loop-text
invariant-loop-text l =
    (l.index ≡ l.text-index)
    × (behind l.images (rom_images l.index (drop l.text-index l.texts)) ≡ rom_images 0 l.texts)
    × AllAre IsSmallRom l.images
