-- The errors of the faults.
use Rattle.vfs_base.specs.declared.errno.Errno.{Errno}
use Rattle.vfs_base.specs.declared.errno.Errno.TheVariants as errno
use Rattle.vfs_path.specs.declared.path_fault.PathFault.{PathFault}
use Rattle.vfs_path.specs.declared.path_fault.PathFault.TheVariants as fault

-- the error that a step answers for the fault
abbrev pub errno_of : PathFault → Errno
errno_of fault.Empty = errno.ENOENT
errno_of fault.NameTooLong = errno.ENAMETOOLONG
errno_of fault.PathTooLong = errno.ENAMETOOLONG
errno_of fault.BadByte = errno.EINVAL
errno_of fault.NoMemory = errno.ENOMEM
