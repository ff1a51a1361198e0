-- The errors of mappings.
use Rattle.vfs_base.specs.declared.errno.Errno.{Errno}
use Rattle.vfs_base.specs.declared.errno.Errno.TheVariants as errno
use Rattle.mapping.specs.declared.map_fault.MapFault.{MapFault}
use Rattle.mapping.specs.declared.map_fault.MapFault.TheVariants as fault

-- the error that a shell shows
abbrev pub errno_of : MapFault → Errno
errno_of fault.EINVAL = errno.EINVAL
errno_of fault.EOVERFLOW = errno.EOVERFLOW
errno_of fault.ENODEV = errno.ENODEV
errno_of fault.EACCES = errno.EACCES
errno_of fault.EMFILE = errno.EMFILE
errno_of fault.EFAULT = errno.EFAULT
