-- One step of the namespace.
use Rattle.std.specs.Prelude.{ℕ, ◌==◌, Bool, true, false, ◌&&◌, is_ok, List, map, Result, Err}
use Rattle.vfs_base.specs.declared.entry.Mark.{Mark}
use Rattle.vfs_base.specs.declared.entry.Mark.TheVariants as mark
use Rattle.vfs_base.specs.declared.errno.Errno.{Errno}
use Rattle.vfs_base.specs.declared.errno.Errno.TheVariants as errno
use Rattle.vfs_base.specs.declared.reply.Reply.TheVariants as reply
use Rattle.vfs_base.specs.declared.step.Step.{Step}
use Rattle.vfs_base.specs.declared.step.Step.TheVariants as step
use Rattle.vfs_model.specs.MountStep.{mount_step}
use Rattle.vfs_model.specs.NameSteps.{chdir_step, cwd_step, home_step, list_step, mkdir_step, rmdir_step, stat_step, unlink_step}
use Rattle.vfs_model.specs.NamespaceOutcome.{NamespaceOutcome, refused, settled}
use Rattle.vfs_model.specs.OpenStep.{open_step}
use Rattle.vfs_model.specs.ReferenceSteps.{close_step, map_step, unmap_step}
use Rattle.vfs_model.specs.RenameStep.{rename_step}
use Rattle.vfs_model.specs.Tables.{cells_step, dentries_step, devices_step, mounts_step}
use Rattle.vfs_model.specs.UmountSteps.{mkfs_step, remove_all, umount_step}
use Rattle.vfs_model.specs.declared.namespace.Namespace.{Namespace}
use Rattle.vfs_model.specs.declared.namespace.RowChange.{RowChange}
use Rattle.vfs_model.specs.declared.namespace.RowChange.TheVariants as change

-- what a session's step answers where neither a device nor memory fails; steps of files are not asked here
abbrev pub namespace_answer : Namespace → ℕ → Step → Result NamespaceOutcome Errno
namespace_answer n k (step.Stat path) = stat_step n k path
namespace_answer n k (step.Open path flags) = open_step n k path flags
namespace_answer n k (step.Close hold) = close_step n k hold
namespace_answer n k (step.Mkdir path) = mkdir_step n k path
namespace_answer n k (step.Rmdir path) = rmdir_step n k path
namespace_answer n k (step.Unlink path) = unlink_step n k path
namespace_answer n k (step.Rename old new) = rename_step n k old new
namespace_answer n k (step.List path) = list_step n k path
namespace_answer n k (step.Chdir path) = chdir_step n k path
namespace_answer n k step.Home = home_step n k
namespace_answer n k step.Cwd = cwd_step n k
namespace_answer n k (step.Mount source point fs) = mount_step n k source point fs
namespace_answer n k (step.Umount point) = umount_step n k point
namespace_answer n k (step.Map hold) = map_step n k hold
namespace_answer n k (step.Unmap hold) = unmap_step n k hold
namespace_answer n k step.Mounts = mounts_step n
namespace_answer n k step.Dentries = dentries_step n
namespace_answer n k step.Cells = cells_step n
namespace_answer n k (step.Mkfs name) = mkfs_step n name
namespace_answer n k step.Devices = devices_step n
namespace_answer n k _ = Err errno.EINVAL

-- the outcome under a mark: a device's fault or want of memory refuses the step
abbrev pub under_mark : Namespace → Result NamespaceOutcome Errno → Mark → NamespaceOutcome
under_mark n answer mark.Clear = settled n answer
under_mark n answer (mark.Fault moved) = refused n errno.EIO
under_mark n answer (mark.NoMem moved) = refused n errno.ENOMEM

-- everything is unmounted; at a device's fault too, and then the namespace remembers it
unfoldable pub shutdown_step : Namespace → Mark → NamespaceOutcome
shutdown_step n mark.Clear =
    let gone = remove_all n in
    record { reply = reply.Done; next = gone.next; changes = gone.changes }
shutdown_step n (mark.Fault moved) =
    let gone = remove_all n in
    record { reply = reply.Refused errno.EIO; next = record gone.next { is_stopped = true }; changes = gone.changes }
shutdown_step n (mark.NoMem moved) = refused n errno.ENOMEM

abbrev pub is_shutdown : Step → Bool
is_shutdown step.Shutdown = true
is_shutdown _ = false

abbrev pub is_umount : Step → Bool
is_umount (step.Umount point) = true
is_umount _ = false

-- what a step answers, leaves and changes
unfoldable pub namespace_step : Namespace → ℕ → Step → Mark → NamespaceOutcome
namespace_step n k step.Shutdown m = shutdown_step n m
namespace_step n k asked m = under_mark n (namespace_answer n k asked) m

abbrev pub row_of_change : RowChange → ℕ
row_of_change (change.Bind file origin) = file.row
row_of_change (change.Free file end) = file.row

-- the rows that a step changes where neither a device nor memory fails
unfoldable pub touched_rows : Namespace → ℕ → Step → List ℕ
touched_rows n k asked = map row_of_change (namespace_step n k asked mark.Clear).changes

-- a mark that a step of the namespace may have: a fault only at an unmount that nothing else refuses, or at the end
abbrev pub fits_namespace : Namespace → ℕ → Step → Mark → Bool
fits_namespace n k asked mark.Clear = true
fits_namespace n k asked (mark.NoMem moved) = moved == 0
fits_namespace n k step.Shutdown (mark.Fault moved) = moved == 0
fits_namespace n k (step.Umount point) (mark.Fault moved) = moved == 0 && is_ok (umount_step n k point)
fits_namespace n k _ (mark.Fault moved) = false
