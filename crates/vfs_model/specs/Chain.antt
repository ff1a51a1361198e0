-- Refusals in the order of a table: each line is passed, or ends the step with its error.
use Rattle.std.specs.Prelude.{Bool, cond, Option, Some, None, Result, Ok, Err}
use Rattle.vfs_base.specs.declared.errno.Errno.{Errno}

infixl 10 ◌>>=◌
-- goes on with the value, unless refused before
abbrev pub ◌>>=◌ : {X Y : Type 0} → Result X Errno → (X → Result Y Errno) → Result Y Errno
(Ok x) >>= rest = rest x
(Err errno) >>= rest = Err errno

infixl 10 ◌>>◌
-- goes on, unless refused before
abbrev pub ◌>>◌ : {Y : Type 0} → Result (Unit {0}) Errno → Result Y Errno → Result Y Errno
(Ok passed) >> rest = rest
(Err errno) >> rest = Err errno

infix 20 refuse◌when◌
-- refused with the error where the test holds
abbrev pub refuse◌when◌ : Errno → Bool → Result (Unit {0}) Errno
refuse errno when test = cond test (Err errno) (Ok tt)

-- refused with the error that was found, if one was
abbrev pub refuse_by : Option Errno → Result (Unit {0}) Errno
refuse_by None = Ok tt
refuse_by (Some errno) = Err errno

-- the value, or else refused with the error
abbrev pub wanted : {X : Type 0} → Errno → Option X → Result X Errno
wanted errno None = Err errno
wanted errno (Some x) = Ok x
