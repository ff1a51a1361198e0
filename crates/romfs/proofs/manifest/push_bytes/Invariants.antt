use Rattle.std.proofs.Common.{◌≡◌, ◌++◌}
use Rattle.std.specs.Slice.Iter.{chunks_rest, chunks_size}
use Rattle.vfs_model.specs.Manifest.{bytes_text}
use Rattle.romfs.proofs.manifest.push_bytes.Given as goal

abbrev pub invariant-loop-line : goal.invariant-loop-line
invariant-loop-line l =
    (l.out ++ bytes_text (chunks_rest l.line-iterator) ≡ l.initial.out ++ bytes_text l.bytes)
    × (chunks_size l.line-iterator ≡ 500)
