use Rattle.std.proofs.Common.{◌≡◌, ◌+◌, ◌≤◌, length}
use Rattle.vfs_model.specs.Manifest.{items_from, manifest_tree}
use Rattle.vfs_model.specs.Script.{input_lines}
use Rattle.romfs.proofs.manifest.read_manifest.Given as goal

abbrev pub invariant-loop-rest : goal.invariant-loop-rest
invariant-loop-rest l =
    (items_from (l.number + 1) l.draft (input_lines l.rest) ≡ manifest_tree l.bytes)
    × (l.number + length l.rest ≤ length l.bytes)

abbrev pub decreases-loop-rest : goal.decreases-loop-rest
decreases-loop-rest l = length l.rest
