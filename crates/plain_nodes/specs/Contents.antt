-- The bytes that changes of rows bring from roms.
use Rattle.std.specs.Prelude.{ℕ, List, [], map}
use Rattle.vfs_model.specs.declared.namespace.RomImage.{RomImage}
use Rattle.vfs_model.specs.declared.namespace.RowChange.{RowChange}
use Rattle.vfs_model.specs.declared.namespace.RowChange.TheVariants as change
use Rattle.plain_files.specs.Contents.{origin_content}

-- the bytes that a change of a row brings from a rom
abbrev pub change_content : List RomImage → RowChange → List ℕ
change_content roms (change.Bind file begins) = origin_content roms begins
change_content roms (change.Free file end) = []

-- for each change, the bytes that it brings from a rom
abbrev pub contents_of : List RomImage → List RowChange → List (List ℕ)
contents_of roms changes = map (change_content roms) changes
