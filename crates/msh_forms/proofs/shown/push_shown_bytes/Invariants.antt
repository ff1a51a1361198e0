use Rattle.std.proofs.Common.{◌≡◌, ◌++◌, drop}
use Rattle.std.specs.List.{flat_map}
use Rattle.vfs_model.specs.CommandText.{shown_byte}
use Rattle.msh_forms.proofs.shown.push_shown_bytes.Given as goal

abbrev pub invariant-loop-byte : goal.invariant-loop-byte
invariant-loop-byte l = l.out ++ flat_map shown_byte (drop l.byte-index l.bytes) ≡ l.fn.out ++ flat_map shown_byte l.bytes
