-- The errors of descriptors.
use Rattle.vfs_base.specs.declared.errno.Errno.{Errno}
use Rattle.vfs_base.specs.declared.errno.Errno.TheVariants as errno
use Rattle.fd_table.specs.declared.fd_fault.FdFault.{FdFault}
use Rattle.fd_table.specs.declared.fd_fault.FdFault.TheVariants as fault

-- the error that a shell shows
abbrev pub errno_of : FdFault → Errno
errno_of fault.EMFILE = errno.EMFILE
errno_of fault.EBADF = errno.EBADF
errno_of fault.EINVAL = errno.EINVAL
errno_of fault.EOVERFLOW = errno.EOVERFLOW
