-- What a step of a row answers and leaves, and which calls of the row's device it makes.
use Rattle.std.specs.Prelude.{◌≡◌, ℕ, ◌≤◌, true, Option, Some, None, List, [], ◌∷◌, ◌++◌, Result, Ok, Err, IfSome}
use Rattle.vfs_base.specs.declared.entry.Mark.{Mark}
use Rattle.vfs_base.specs.declared.entry.Mark.TheVariants as mark
use Rattle.vfs_base.specs.declared.errno.Errno.{Errno}
use Rattle.vfs_base.specs.declared.reply.Reply.{Reply}
use Rattle.vfs_base.specs.declared.reply.Reply.TheVariants as reply
use Rattle.vfs_base.specs.declared.step.Step.{Step}
use Rattle.vfs_model.specs.BlockDevice.{Makes}
use Rattle.vfs_model.specs.FileMoves.{file_step, fits_file}
use Rattle.vfs_model.specs.MadeCalls.{MakesCalls}
use Rattle.vfs_model.specs.RowShape.{shape_of, shape_refusals}
use Rattle.vfs_model.specs.declared.cache.DeviceCall.{DeviceCall}
use Rattle.vfs_model.specs.declared.world.FileState.{FileState}
use Rattle.vfs_outside.specs.Causes.{Rose}
use Rattle.page_cache.specs.AddressSpace.{Moment, cache_in}
use Rattle.file_row.specs.Row.{Row, RowFile, Cell, shape_at, told_at}

-- the file that the row may have: it has the row's shape, and is the told one where the row's device tells it
pub record MayHave (row : Row) (f : FileState) : Type 0 where
  pub shape : shape_of f ≡ shape_at row
  pub told : IfSome (told_at row) (λ told. f ≡ told)

-- the last of the calls failed where the step has a fault
abbrev pub FailsLast : Mark → List DeviceCall → Type 0
FailsLast (mark.Fault moved) failed = (call : DeviceCall) × (failed ≡ call ∷ [])
FailsLast _ failed = failed ≡ []

-- The calls of a cell's device that the step made of the file are the definition's, and so are the pages then in memory: all calls,
-- those up to the one that failed, or some first ones where memory was wanting.
pub record CallsDevice (f : FileState) (old new : Moment) (asked : Step) (m : Mark) : Type 0 where
  pub made : List DeviceCall
  pub failed : List DeviceCall
  pub last : FailsLast m failed
  pub calls : Makes made failed old.device new.device
  pub meant : MakesCalls f (cache_in old.space) asked m (record { next = cache_in new.space; calls = made ++ failed })

-- the calls of the row's block device, if it has one
abbrev pub CallsOf : FileState → RowFile → RowFile → Step → Mark → Type 0
CallsOf f (Cell old) (Cell new) asked m = CallsDevice f old.state new.state asked m
CallsOf f (Cell old) _ asked m = ⊥
CallsOf f _ _ asked m = Unit {0}

-- A step of a row under its mark: it is the step of a file that the row may have, and leaves what that file becomes.
pub record Steps (old new : Row) (asked : Step) (answer : Reply) (m : Mark) : Type 0 where
  pub before : FileState
  pub has : MayHave old before
  pub fits : fits_file before asked m ≡ true
  pub answers : answer ≡ (file_step before asked m).reply
  pub leaves : MayHave new (file_step before asked m).next
  pub calls : CallsOf before old.file new.file asked m

-- what the row's shape refuses is refused, and nothing is changed
abbrev pub Refuses : Row → Row → Step → Reply → Mark → Type 0
Refuses old new asked answer m = refused_with (shape_refusals (shape_at old) asked)
  where
    refused_with : Result (Unit {0}) Errno → Type 0
    refused_with (Ok passed) = Unit {0}
    refused_with (Err errno) = (answer ≡ reply.Refused errno) × (m ≡ mark.Clear) × (new ≡ old)

-- a count of faults is as before, and has risen where the step has a fault
abbrev pub FaultsGo : Mark → ℕ → ℕ → Type 0
FaultsGo (mark.Fault moved) before now = Rose before now
FaultsGo _ before now = before ≤ now

-- the faults of the row's device; a row without a device meets none
abbrev pub HasCause : Option ℕ → Option ℕ → Mark → Type 0
HasCause (Some before) (Some now) m = FaultsGo m before now
HasCause None None (mark.Fault moved) = ⊥
HasCause None None _ = Unit {0}
HasCause _ _ m = ⊥
