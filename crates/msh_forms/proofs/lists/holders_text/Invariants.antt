use Rattle.std.proofs.Common.{◌≡◌, ◌++◌, drop}
use Rattle.std.specs.List.{flat_map}
use Rattle.vfs_model.specs.MountCommands.{holder_text}
use Rattle.msh_forms.proofs.lists.holders_text.Given as goal

abbrev pub invariant-loop-holder : goal.invariant-loop-holder
invariant-loop-holder l = l.text ++ flat_map holder_text (drop l.holder-index l.holders) ≡ flat_map holder_text l.holders
