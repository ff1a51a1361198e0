-- The numbers and names of the errors.
use Rattle.std.specs.Prelude.{ℕ, List, codes}
use Rattle.vfs_base.specs.declared.errno.Errno.{Errno}
use Rattle.vfs_base.specs.declared.errno.Errno.TheVariants as errno

-- the error's number
abbrev pub number_of : Errno → ℕ
number_of errno.EPERM = 1
number_of errno.ENOENT = 2
number_of errno.EIO = 5
number_of errno.ENXIO = 6
number_of errno.EBADF = 9
number_of errno.EAGAIN = 11
number_of errno.ENOMEM = 12
number_of errno.EACCES = 13
number_of errno.EFAULT = 14
number_of errno.EBUSY = 16
number_of errno.EEXIST = 17
number_of errno.EXDEV = 18
number_of errno.ENODEV = 19
number_of errno.ENOTDIR = 20
number_of errno.EISDIR = 21
number_of errno.EINVAL = 22
number_of errno.EMFILE = 24
number_of errno.EFBIG = 27
number_of errno.ENOSPC = 28
number_of errno.ESPIPE = 29
number_of errno.EROFS = 30
number_of errno.EPIPE = 32
number_of errno.ENAMETOOLONG = 36
number_of errno.ENOTEMPTY = 39
number_of errno.EOVERFLOW = 75

-- the bytes of the error's name
abbrev pub name_of : Errno → List ℕ
name_of errno.EPERM = codes "EPERM"
name_of errno.ENOENT = codes "ENOENT"
name_of errno.EIO = codes "EIO"
name_of errno.ENXIO = codes "ENXIO"
name_of errno.EBADF = codes "EBADF"
name_of errno.EAGAIN = codes "EAGAIN"
name_of errno.ENOMEM = codes "ENOMEM"
name_of errno.EACCES = codes "EACCES"
name_of errno.EFAULT = codes "EFAULT"
name_of errno.EBUSY = codes "EBUSY"
name_of errno.EEXIST = codes "EEXIST"
name_of errno.EXDEV = codes "EXDEV"
name_of errno.ENODEV = codes "ENODEV"
name_of errno.ENOTDIR = codes "ENOTDIR"
name_of errno.EISDIR = codes "EISDIR"
name_of errno.EINVAL = codes "EINVAL"
name_of errno.EMFILE = codes "EMFILE"
name_of errno.EFBIG = codes "EFBIG"
name_of errno.ENOSPC = codes "ENOSPC"
name_of errno.ESPIPE = codes "ESPIPE"
name_of errno.EROFS = codes "EROFS"
name_of errno.EPIPE = codes "EPIPE"
name_of errno.ENAMETOOLONG = codes "ENAMETOOLONG"
name_of errno.ENOTEMPTY = codes "ENOTEMPTY"
name_of errno.EOVERFLOW = codes "EOVERFLOW"
