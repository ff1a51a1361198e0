-- What one call adds to the calls that an object tells.
use Rattle.std.specs.Prelude.{◌≡◌, Option, Some, None, List, [], ◌∷◌, ◌++◌}
use Rattle.vfs_base.specs.declared.step.Step.{Step}

-- the new list is the old one and then the step, where the object tells its calls, and it tells them still
abbrev pub AddsCall : Option (List Step) → Option (List Step) → Step → Type 0
AddsCall None new step = new ≡ None
AddsCall (Some steps) new step = new ≡ Some (steps ++ step ∷ [])
