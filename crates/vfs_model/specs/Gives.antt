-- What code answers against what a definition answers: want of memory alone is free.
use Rattle.std.specs.Prelude.{◌≡◌, Result, Ok, Err}
use Rattle.vfs_base.specs.declared.errno.Errno.{Errno}
use Rattle.vfs_model.specs.declared.refusal.Stop.{Stop}
use Rattle.vfs_model.specs.declared.refusal.Stop.TheVariants as stop

-- the definition refuses with the same error
abbrev pub StopsAs : {Y : Type 0} → Stop → Result Y Errno → Type 0
StopsAs stop.NoMemory told = Unit {0}
StopsAs (stop.Refusal errno) told = told ≡ Err errno

-- what was answered is seen so in what the definition tells, or both are refused alike
abbrev pub Gives : {X Y : Type 0} → (X → Y) → Result X Stop → Result Y Errno → Type 0
Gives view (Ok x) told = told ≡ Ok (view x)
Gives view (Err e) told = StopsAs e told

-- the same of what can only be refused
abbrev pub Tells : {X Y : Type 0} → (X → Y) → Result X Errno → Result Y Errno → Type 0
Tells view (Ok x) told = told ≡ Ok (view x)
Tells view (Err errno) told = told ≡ Err errno

-- the answer is what the definition tells
abbrev pub is_itself : {X : Type 0} → X → X
is_itself x = x
