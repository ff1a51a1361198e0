-- What is in a folder of a tree.
use Rattle.std.specs.Prelude.{List, map, filter}
use Rattle.vfs_base.specs.Path.{Path}
use Rattle.vfs_base.specs.declared.reply.ListEntry.{ListEntry}
use Rattle.vfs_model.specs.NameSteps.{is_entry_of, last_name}
use Rattle.vfs_model.specs.Namespace.{Tree}

-- what is in the folder, in byte order of the names
abbrev pub entries_in : Path → Tree → List ListEntry
entries_in folder tree =
    map (λ entry. record { name = last_name entry.0; node = entry.1 }) (filter (λ entry. is_entry_of folder entry.0) tree)
