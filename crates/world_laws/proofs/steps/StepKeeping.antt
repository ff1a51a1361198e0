-- Every step of the namespace keeps what holds.
use Rattle.std.proofs.Common.{◌≡◌, ℕ, ◌<◌, Bool, true, false, ◌⊎◌, inl, inr, Result, Ok, Err}
use Rattle.vfs_base.specs.declared.entry.Mark.{Mark}
use Rattle.vfs_base.specs.declared.entry.Mark.TheVariants as mark
use Rattle.vfs_base.specs.declared.errno.Errno.{Errno}
use Rattle.vfs_base.specs.declared.step.Step.{Step}
use Rattle.vfs_base.specs.declared.step.Step.TheVariants as step
use Rattle.vfs_model.specs.NamespaceOutcome.{NamespaceOutcome, settled}
use Rattle.vfs_model.specs.NamespaceStep.{is_shutdown, namespace_answer, namespace_step, under_mark}
use Rattle.vfs_model.specs.declared.namespace.Namespace.{Namespace}
use Rattle.world_laws.proofs.steps.FileKeepingSteps.{close-kept, map-kept, unmap-kept}
use Rattle.world_laws.proofs.steps.Keeping.{Keeps, Kept, same-kept}
use Rattle.world_laws.proofs.steps.MountEnd.{mount-kept}
use Rattle.world_laws.proofs.steps.MoveKeeping.{rename-kept}
use Rattle.world_laws.proofs.steps.NameKeeping.{chdir-kept, home-kept, list-kept, mkdir-kept, rmdir-kept, stat-kept, unlink-kept}
use Rattle.world_laws.proofs.steps.OpenKeeping.{open-kept}
use Rattle.world_laws.proofs.steps.ShutdownKeeping.{shutdown-kept}
use Rattle.world_laws.proofs.parts.Standing.{Nothing, Stands}
use Rattle.world_laws.proofs.steps.UmountKeeping.{umount-kept}

-- it formats a volume: then bytes go from home as well
abbrev pub is_mkfs : Step → Bool
is_mkfs (step.Mkfs name) = true
is_mkfs _ = false

answer-kept : (n : Namespace) (k : ℕ) (asked : Step) → is_mkfs asked ≡ false → 0 < k → Stands Nothing n → Kept n (namespace_answer n k asked)
answer-kept n k (step.Stat path) h l s = stat-kept n k path s
answer-kept n k (step.Open path flags) h l s = open-kept n k path flags l s
answer-kept n k (step.Close hold) h l s = close-kept n k hold s
answer-kept n k (step.Mkdir path) h l s = mkdir-kept n k path s
answer-kept n k (step.Rmdir path) h l s = rmdir-kept n k path s
answer-kept n k (step.Unlink path) h l s = unlink-kept n k path s
answer-kept n k (step.Rename old new) h l s = rename-kept n k old new s
answer-kept n k (step.List path) h l s = list-kept n k path s
answer-kept n k (step.Chdir path) h l s = chdir-kept n k path s
answer-kept n k step.Home h l s = home-kept n k s
answer-kept n k step.Cwd h l s = same-kept n s
answer-kept n k (step.Mount source point fs) h l s = mount-kept n k source point fs s
answer-kept n k (step.Umount point) h l s = umount-kept n k point s
answer-kept n k (step.Map hold) h l s = map-kept n k hold l s
answer-kept n k (step.Unmap hold) h l s = unmap-kept n k hold s
answer-kept n k step.Mounts h l s = same-kept n s
answer-kept n k step.Dentries h l s = same-kept n s
answer-kept n k step.Cells h l s = same-kept n s
answer-kept n k (step.Mkfs name) h l s = absurd (cc)
answer-kept n k step.Devices h l s = same-kept n s
answer-kept n k step.Shutdown h l s = tt
answer-kept n k (step.Size id) h l s = tt
answer-kept n k (step.Read id off len) h l s = tt
answer-kept n k (step.Write id off piece) h l s = tt
answer-kept n k (step.Append id piece) h l s = tt
answer-kept n k (step.Trunc id len) h l s = tt
answer-kept n k (step.Sync id) h l s = tt
answer-kept n k (step.Load id off len) h l s = tt
answer-kept n k (step.Store id off piece) h l s = tt
answer-kept n k (step.Flush row) h l s = tt
answer-kept n k (step.Reclaim row) h l s = tt

settled-kept : (n : Namespace) (answer : Result NamespaceOutcome Errno) → Stands Nothing n → Kept n answer → Keeps n (settled n answer).next (settled n answer).changes
settled-kept n (Ok outcome) s kept = kept
settled-kept n (Err errno) s kept = same-kept n s

marked-kept : (n : Namespace) (answer : Result NamespaceOutcome Errno) (m : Mark) → Stands Nothing n → Kept n answer → Keeps n (under_mark n answer m).next (under_mark n answer m).changes
marked-kept n answer mark.Clear s kept = settled-kept n answer s kept
marked-kept n answer (mark.Fault moved) s kept = same-kept n s
marked-kept n answer (mark.NoMem moved) s kept = same-kept n s

-- a session takes it, or it is the end
abbrev pub Takes : ℕ → Step → Type 0
Takes k asked = ((0 < k) × (is_shutdown asked ≡ false)) ⊎ (is_shutdown asked ≡ true)

pub namespace-kept : (n : Namespace) (k : ℕ) (asked : Step) (m : Mark) → Takes k asked → is_mkfs asked ≡ false → Stands Nothing n → Keeps n (namespace_step n k asked m).next (namespace_step n k asked m).changes
unfolding namespace_step
namespace-kept n k step.Shutdown m takes h s = shutdown-kept n m s
namespace-kept n k asked m (inl takes) h s = marked-kept n (namespace_answer n k asked) m s (answer-kept n k asked h takes.0 s)
namespace-kept n k asked m (inr ends) h s = absurd (cc)
