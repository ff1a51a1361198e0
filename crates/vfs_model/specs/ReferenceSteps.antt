-- Giving references up, and mapping open files.
use Rattle.std.specs.Prelude.{ℕ, ◌-◌, ◌==◌, Bool, true, false, ◌&&◌, nat_lt, Option, Some, None, [], Result, slice_index_or, if◌then◌else◌}
use Rattle.vfs_base.specs.declared.errno.Errno.{Errno}
use Rattle.vfs_base.specs.declared.errno.Errno.TheVariants as errno
use Rattle.vfs_base.specs.declared.ids.HoldId.{HoldId}
use Rattle.vfs_base.specs.declared.kinds.Kind.{Kind}
use Rattle.vfs_base.specs.declared.kinds.Kind.TheVariants as kind
use Rattle.vfs_base.specs.declared.reply.Reply.TheVariants as reply
use Rattle.vfs_base.specs.declared.limits.TheConstants.{HOLDS}
use Rattle.vfs_model.specs.Chain.{◌>>=◌, ◌>>◌, refuse◌when◌, wanted}
use Rattle.vfs_model.specs.FileLife.{free_if_unused}
use Rattle.vfs_model.specs.NameSteps.{done}
use Rattle.vfs_model.specs.Namespace.{references_of, with_reference}
use Rattle.vfs_model.specs.NamespaceOutcome.{NamespaceOutcome, answers}
use Rattle.vfs_model.specs.OpenStep.{least_free_number}
use Rattle.vfs_model.specs.declared.namespace.Namespace.{Namespace}
use Rattle.vfs_model.specs.declared.namespace.Reference.{Reference}
use Rattle.vfs_model.specs.declared.namespace.Role.{Role}
use Rattle.vfs_model.specs.declared.namespace.Role.TheVariants as role

abbrev pub same_role : Role → Role → Bool
same_role role.Open role.Open = true
same_role role.Map role.Map = true
same_role role.Open role.Map = false
same_role role.Map role.Open = false

abbrev pub in_role : Role → Option Reference → Option Reference
in_role as_role None = None
in_role as_role (Some reference) = if same_role as_role reference.role then Some reference else None

-- the reference of this role that the session has by this name
abbrev pub reference_at : Namespace → ℕ → HoldId → Role → Option Reference
reference_at n k hold as_role =
    if hold.session == k && nat_lt 0 hold.number then in_role as_role (slice_index_or (references_of n k) (hold.number - 1) None) else None

-- POSIX.1-2017, close and munmap: the reference goes, and with it a file that nothing names any more
unfoldable pub give_up_step : Role → Namespace → ℕ → HoldId → Result NamespaceOutcome Errno
give_up_step as_role n k hold = do
  reference ← wanted errno.EBADF (reference_at n k hold as_role)
  done (free_if_unused (with_reference n k hold.number None) reference.file.row)

abbrev pub close_step : Namespace → ℕ → HoldId → Result NamespaceOutcome Errno
close_step = give_up_step role.Open

abbrev pub unmap_step : Namespace → ℕ → HoldId → Result NamespaceOutcome Errno
unmap_step = give_up_step role.Map

abbrev pub is_device_kind : Kind → Bool
is_device_kind kind.Tmp = false
is_device_kind kind.Rom = false
is_device_kind kind.Cell = false
is_device_kind kind.Chr = true

-- a mapping refers to the file of an open file
unfoldable pub map_step : Namespace → ℕ → HoldId → Result NamespaceOutcome Errno
map_step n k hold = do
  opened ← wanted errno.EBADF (reference_at n k hold role.Open)
  refuse errno.ENODEV when (is_device_kind opened.kind)
  refuse errno.EMFILE when (nat_lt HOLDS (least_free_number n k))
  answers (reply.Held (record { session = k; number = least_free_number n k }))
      (with_reference n k (least_free_number n k) (Some (record opened { role = role.Map }))) []
