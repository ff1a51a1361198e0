-- What a call answers against the fault that its definition tells: want of memory alone is free.
use Rattle.std.specs.Prelude.{◌≡◌, Option, Some, None, Result, Ok, Err}
use Rattle.node_maps.specs.declared.tree_fault.TreeFault.{TreeFault}
use Rattle.node_maps.specs.declared.tree_fault.TreeFault.TheVariants as fault

-- the fault is the one that is told, or want of memory
abbrev pub IsFaultOf : TreeFault → Option TreeFault → Type 0
IsFaultOf fault.NotFound told = told ≡ Some fault.NotFound
IsFaultOf fault.Exists told = told ≡ Some fault.Exists
IsFaultOf fault.Full told = told ≡ Some fault.Full
IsFaultOf fault.NoMemory told = Unit {0}

-- the call succeeds only where no fault is told, and else has that fault or wants memory
abbrev pub AnswersBy : {X : Type 0} → Option TreeFault → Result X TreeFault → Type 0
AnswersBy told (Ok x) = told ≡ None
AnswersBy told (Err found) = IsFaultOf found told
