-- What it tells that a chain of refusals was passed.
use Rattle.std.proofs.Common.{◌≡◌, Bool, true, false, ◌&&◌, Option, None, Some, Result, Ok, Err, if◌then◌else◌, refl}
use Rattle.vfs_base.specs.declared.errno.Errno.{Errno}
use Rattle.vfs_model.specs.Chain.{◌>>◌, refuse◌when◌, refuse_by}

pub refuse-passed : (errno : Errno) (test : Bool) → (refuse errno when test) ≡ Ok tt → test ≡ false
refuse-passed errno true h = absurd (cc)
refuse-passed errno false h = refl

pub refuse_by-passed : (found : Option Errno) → refuse_by found ≡ Ok tt → found ≡ None
refuse_by-passed None h = refl
refuse_by-passed (Some errno) h = absurd (cc)

-- a chain that came through, and what it answered: its first line was passed
pub then-first : {X : Type 0} (r : Result (Unit {0}) Errno) (rest : Result X Errno) (x : X) → (r >> rest) ≡ Ok x → r ≡ Ok tt
then-first (Ok tt) rest x h = refl
then-first (Err errno) rest x h = absurd (cc)

pub then-rest : {X : Type 0} (r : Result (Unit {0}) Errno) (rest : Result X Errno) (x : X) → (r >> rest) ≡ Ok x → rest ≡ Ok x
then-rest (Ok tt) rest x h = h
then-rest (Err errno) rest x h = absurd (cc)

pub either-passed : (b : Bool) (r : Result (Unit {0}) Errno) (errno : Errno) → (if b then r else Err errno) ≡ Ok tt → r ≡ Ok tt
either-passed true r errno h = h
either-passed false r errno h = absurd (cc)

pub and-first : (a b : Bool) → (a && b) ≡ true → a ≡ true
and-first true b h = refl
and-first false b h = absurd (cc)

pub and-second : (a b : Bool) → (a && b) ≡ true → b ≡ true
and-second true b h = h
and-second false b h = absurd (cc)

pub and-both : (a b : Bool) → a ≡ true → b ≡ true → (a && b) ≡ true
and-both true b h k = k
and-both false b h k = absurd (cc)
