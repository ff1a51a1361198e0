-- What holds of the outcome of a step whose refusals were passed.
use Rattle.std.proofs.Common.{◌≡◌, Bool, true, false, Result, Ok, Err, if◌then◌else◌, refl, subst}
use Rattle.vfs_base.specs.declared.entry.Mark.{Mark}
use Rattle.vfs_base.specs.declared.entry.Mark.TheVariants as mark
use Rattle.vfs_base.specs.declared.errno.Errno.{Errno}
use Rattle.vfs_base.specs.declared.errno.Errno.TheVariants as errno
use Rattle.vfs_model.specs.Chain.{◌>>=◌, ◌>>◌, refuse◌when◌}
use Rattle.vfs_model.specs.NamespaceOutcome.{NamespaceOutcome, refused}
use Rattle.vfs_model.specs.NamespaceStep.{under_mark}
use Rattle.vfs_model.specs.declared.namespace.Namespace.{Namespace}

pub refuse-passed : (errno : Errno) (test : Bool) → (refuse errno when test) ≡ Ok tt → test ≡ false
refuse-passed errno true h = absurd (cc)
refuse-passed errno false h = refl

-- a chain that came through: its first line was passed, and the rest of it
pub then-first : {X : Type 0} (r : Result (Unit {0}) Errno) (rest : Result X Errno) (x : X) → (r >> rest) ≡ Ok x → r ≡ Ok tt
then-first (Ok tt) rest x h = refl
then-first (Err errno) rest x h = absurd (cc)

pub then-rest : {X : Type 0} (r : Result (Unit {0}) Errno) (rest : Result X Errno) (x : X) → (r >> rest) ≡ Ok x → rest ≡ Ok x
then-rest (Ok tt) rest x h = h
then-rest (Err errno) rest x h = absurd (cc)

-- the fact holds of the outcome, where the step isn't refused
abbrev pub Holds : (NamespaceOutcome → Type 0) → Result NamespaceOutcome Errno → Type 0
Holds P (Ok outcome) = P outcome
Holds P (Err errno) = Unit {0}

pub then-holds : (P : NamespaceOutcome → Type 0) (r : Result (Unit {0}) Errno) (rest : Result NamespaceOutcome Errno) →
    (r ≡ Ok tt → Holds P rest) → Holds P (r >> rest)
then-holds P (Ok tt) rest h = h refl
then-holds P (Err errno) rest h = tt

pub bind-holds : {X : Type 0} (P : NamespaceOutcome → Type 0) (r : Result X Errno) (f : X → Result NamespaceOutcome Errno) →
    ((x : X) → r ≡ Ok x → Holds P (f x)) → Holds P (r >>= f)
bind-holds P (Ok x) f h = h x refl
bind-holds P (Err errno) f h = tt

pub either-holds : (P : NamespaceOutcome → Type 0) (b : Bool) (r s : Result NamespaceOutcome Errno) → Holds P r → Holds P s →
    Holds P (if b then r else s)
either-holds P true r s h k = h
either-holds P false r s h k = k

-- of the outcome under a mark, where it holds of each refusal
pub marked-holds : (P : NamespaceOutcome → Type 0) (n : Namespace) (r : Result NamespaceOutcome Errno) (m : Mark) →
    ((errno : Errno) → P (refused n errno)) → Holds P r → P (under_mark n r m)
marked-holds P n (Ok outcome) mark.Clear refusal h = h
marked-holds P n (Err errno) mark.Clear refusal h = refusal errno
marked-holds P n r (mark.Fault moved) refusal h = refusal errno.EIO
marked-holds P n r (mark.NoMem moved) refusal h = refusal errno.ENOMEM

-- of the outcome of an answer that came through
pub held-by : (P : NamespaceOutcome → Type 0) (r : Result NamespaceOutcome Errno) (outcome : NamespaceOutcome) → Holds P r → r ≡ Ok outcome → P outcome
held-by P (Ok found) outcome h e =
    let same : found ≡ outcome = cc in
    subst P same h
held-by P (Err errno) outcome h e = absurd (cc)
