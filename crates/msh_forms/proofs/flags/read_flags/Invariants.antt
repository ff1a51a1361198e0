use Rattle.std.proofs.Common.{◌≡◌, ◌+◌, ◌<◌, length, if◌then◌else◌}
use Rattle.vfs_model.specs.CommandWords.{with_extras}
use Rattle.msh_forms.specs.Parts.{more_parts}
use Rattle.msh_forms.proofs.flags.read_flags.Given as goal

abbrev pub invariant-loop-has_more : goal.invariant-loop-has_more
invariant-loop-has_more l =
    (with_extras l.bits (more_parts l.has_more l.text) ≡ with_extras l.initial.bits (more_parts l.initial.has_more l.initial.text))
    × (l.bits < 64)

abbrev pub decreases-loop-has_more : goal.decreases-loop-has_more
decreases-loop-has_more l = if l.has_more then length l.text + 1 else 0
