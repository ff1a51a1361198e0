use Rattle.std.specs.Prelude.{ℕ, List, ◌++◌}
use Rattle.vfs_base.specs.declared.path.Unread.{Unread}
use Rattle.vfs_base.specs.Path.{slashed}

-- the bytes that are left to read of a printed path
abbrev pub unread_bytes : Unread → List ℕ
unread_bytes unread = unread.name.now ++ slashed unread.names.now
