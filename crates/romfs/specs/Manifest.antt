-- How the reading of a manifest ends.
use Rattle.std.specs.Prelude.{◌≡◌, ℕ, Result, Err}
use Rattle.vfs_model.specs.Rom.{RomItems}
use Rattle.romfs.specs.declared.manifest.ManifestFault.{ManifestFault}
use Rattle.romfs.specs.declared.manifest.ManifestFault.TheVariants as fault

-- the fault is the first line that is outside the form; want of memory can come at any manifest
abbrev pub StopsReading : Result RomItems ℕ → ManifestFault → Type 0
StopsReading read fault.NoMemory = Unit {0}
StopsReading read (fault.Line line) = read ≡ Err line
