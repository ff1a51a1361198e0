use Rattle.std.proofs.Common.{◌≡◌, ◌++◌, drop}
use Rattle.vfs_model.specs.Manifest.{manifest_text}
use Rattle.romfs.proofs.manifest.write_manifest.Given as goal

abbrev pub invariant-loop-path : goal.invariant-loop-path
invariant-loop-path l = l.out ++ manifest_text (drop l.path-index l.path-items) ≡ manifest_text l.fn.tree
