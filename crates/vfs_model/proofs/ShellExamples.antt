-- Worked examples of lines of the shell on the world.
use Rattle.std.specs.Prelude.{◌≡◌, ℕ, List, [], ◌∷◌, ◌++◌, codes, decimal, flat_map, refl}
use Rattle.vfs_model.proofs.CommandRuns.{shell}
use Rattle.vfs_model.proofs.DeviceExamples.{boot, devices, sd0}
use Rattle.vfs_model.proofs.ExampleSteps.{bare, steps}
use Rattle.vfs_model.proofs.ShellRuns.{texts, types}
use Rattle.vfs_model.specs.CommandText.{line}
use Rattle.vfs_model.specs.Homes.{opening_world}

abbrev pub fd : ℕ → List ℕ
fd n = line (codes "fd " ++ decimal n)

abbrev pub number : ℕ → List ℕ
number n = line (decimal n)

abbrev pub bytes : ℕ → List ℕ → List ℕ
bytes n shown = line (decimal n ++ codes ":" ++ shown)

pub an_unlinked_file_lives_while_open : texts (opening_world [] bare) (
    types 1 (codes "open /f rw,creat")
    ∷ types 2 (codes "rm /f")
    ∷ types 1 (codes "write 3 hi")
    ∷ types 1 (codes "lseek 3 0 set")
    ∷ types 1 (codes "read 3 9")
    ∷ types 1 (codes "ls /")
    ∷ types 1 (codes "close 3")
    ∷ types 2 (codes "echo x /g")
    ∷ types 2 (codes "dentries")
    ∷ []) ≡
    fd 3 ∷ [] ∷ number 2 ∷ number 0 ∷ bytes 2 (codes "hi") ∷ line (codes "Directory /:") ∷ [] ∷ []
    ∷ flat_map line ((codes "/ " ++ decimal 9) ∷ []) ∷ []
unfolding shell steps
an_unlinked_file_lives_while_open = refl

pub a_mount_in_use : texts (opening_world [] bare) (
    types 1 (codes "mkdir /m")
    ∷ types 1 (codes "mount none /m tmp")
    ∷ types 1 (codes "echo hi /m/f")
    ∷ types 2 (codes "open /m/f r")
    ∷ types 1 (codes "umount /m")
    ∷ types 2 (codes "mmap 3 0 2 r")
    ∷ types 2 (codes "close 3")
    ∷ types 1 (codes "umount /m")
    ∷ types 2 (codes "mload 1 0 2")
    ∷ types 2 (codes "munmap 1")
    ∷ types 3 (codes "cd /m")
    ∷ types 1 (codes "umount /m")
    ∷ types 3 (codes "cd /")
    ∷ types 1 (codes "umount /m")
    ∷ types 2 (codes "cat /m/f")
    ∷ []) ≡
    [] ∷ [] ∷ [] ∷ fd 3 ∷ line (codes "umount: /m: EBUSY") ∷ line (codes "window " ++ decimal 1) ∷ []
    ∷ line (codes "umount: /m: EBUSY") ∷ bytes 2 (codes "hi") ∷ [] ∷ [] ∷ line (codes "umount: /m: EBUSY") ∷ [] ∷ []
    ∷ line (codes "cat: /m/f: ENOENT") ∷ []
unfolding shell steps
a_mount_in_use = refl

pub refusals_of_rename : texts (opening_world [] bare) (
    types 1 (codes "mkdir /a")
    ∷ types 1 (codes "mkdir /m")
    ∷ types 1 (codes "mount none /m tmp")
    ∷ types 1 (codes "echo x /f")
    ∷ types 1 (codes "mv /a /a/b")
    ∷ types 1 (codes "mv /f /m/f")
    ∷ types 1 (codes "mkdir /a/p")
    ∷ types 1 (codes "mount none /a/p tmp")
    ∷ types 1 (codes "mv /a /c")
    ∷ types 1 (codes "mv /f /f")
    ∷ types 1 (codes "mv /m /z")
    ∷ types 1 (codes "mv /f /f/x")
    ∷ types 1 (codes "mkdir /")
    ∷ types 1 (codes "rm /a")
    ∷ types 1 (codes "cat /f/.")
    ∷ types 1 (codes "ls /f")
    ∷ types 1 (codes "cat /a")
    ∷ []) ≡
    [] ∷ [] ∷ [] ∷ [] ∷ line (codes "mv: /a: EINVAL") ∷ line (codes "mv: /f: EXDEV") ∷ [] ∷ [] ∷ line (codes "mv: /a: EBUSY")
    ∷ [] ∷ line (codes "mv: /m: EBUSY") ∷ line (codes "mv: /f: ENOTDIR") ∷ line (codes "mkdir: /: EEXIST")
    ∷ line (codes "rm: /a: EPERM") ∷ codes "x" ∷ line (codes "ls: /f: ENOTDIR") ∷ line (codes "cat: /a: EISDIR") ∷ []
unfolding shell steps
refusals_of_rename = refl

pub files_are_copied : texts (opening_world [] bare) (
    types 1 (codes "mkdir")
    ∷ types 1 (codes "echo \"a b\" /f")
    ∷ types 1 (codes "cp /f /g")
    ∷ types 1 (codes "cat /g /f /none /g")
    ∷ types 1 (codes "cp /f /f")
    ∷ types 1 (codes "echo \" c\" /g")
    ∷ types 1 (codes "cp /g /f")
    ∷ types 1 (codes "stat //f/")
    ∷ types 1 (codes "ls")
    ∷ []) ≡
    line (codes "usage: mkdir PATH") ∷ [] ∷ [] ∷ (line (codes "a ba b") ++ line (codes "cat: /none: ENOENT"))
    ∷ line (codes "cp: /f: EINVAL") ∷ [] ∷ [] ∷ line (codes "//f/ file " ++ decimal 5)
    ∷ (line (codes "Directory /:") ++ line (codes "f                   " ++ decimal 5) ++ line (codes "g                   " ++ decimal 5))
    ∷ []
unfolding shell steps
files_are_copied = refl

pub a_rom_is_read_only : texts (opening_world (boot ∷ []) bare) (
    types 1 (codes "mkdir /r")
    ∷ types 1 (codes "mount boot /r rom")
    ∷ types 1 (codes "ls /r/etc")
    ∷ types 1 (codes "cat /r/etc/id")
    ∷ types 1 (codes "echo x /r/etc/id")
    ∷ types 1 (codes "open /r/new r")
    ∷ types 1 (codes "open /r/new r,creat")
    ∷ types 1 (codes "cp /r/etc/id /id")
    ∷ types 1 (codes "cp /id /r/etc/id")
    ∷ types 1 (codes "cat /id")
    ∷ types 1 (codes "dentries")
    ∷ []) ≡
    [] ∷ []
    ∷ (line (codes "Directory /r/etc:") ++ line (codes "empty               " ++ decimal 0) ++ line (codes "id                  " ++ decimal 2))
    ∷ codes "RT" ∷ line (codes "echo: /r/etc/id: EROFS") ∷ line (codes "open: /r/new: ENOENT") ∷ line (codes "open: /r/new: EROFS")
    ∷ [] ∷ line (codes "cp: /r/etc/id: EROFS") ∷ codes "RT"
    ∷ flat_map line ((codes "/ " ++ decimal 9) ∷ (codes "/r " ++ decimal 1) ∷ []) ∷ []
unfolding shell steps
a_rom_is_read_only = refl

pub a_full_cell_and_a_full_volume : texts (opening_world [] (sd0 (1 ∷ []))) (
    types 1 (codes "mkdir /v")
    ∷ types 1 (codes "mount sd0 /v cell")
    ∷ types 1 (codes "open /v/f rw,creat")
    ∷ types 1 (codes "write 3 a 5000")
    ∷ types 1 (codes "write 3 b")
    ∷ types 1 (codes "echo c /v/g")
    ∷ types 1 (codes "open /t rw,creat")
    ∷ types 1 (codes "ftruncate 4 4194305")
    ∷ types 1 (codes "mkfs sd0")
    ∷ types 1 (codes "sync")
    ∷ types 1 (codes "list_device")
    ∷ []) ≡
    [] ∷ [] ∷ fd 3 ∷ number 4096 ∷ line (codes "write: 3: ENOSPC") ∷ line (codes "echo: /v/g: ENOSPC") ∷ fd 4
    ∷ line (codes "ftruncate: 4: EFBIG") ∷ line (codes "mkfs: sd0: EBUSY") ∷ [] ∷ line (codes "sd0 block mounted") ∷ []
unfolding shell steps
a_full_cell_and_a_full_volume = refl

pub a_character_device_through_devfs : texts (opening_world [] devices) (
    types 1 (codes "mkdir /dev")
    ∷ types 1 (codes "mount none /dev devfs")
    ∷ types 1 (codes "cat /dev/uart0")
    ∷ types 1 (codes "echo hi /dev/uart0")
    ∷ types 1 (codes "ls /dev")
    ∷ types 1 (codes "echo x /dev/new")
    ∷ types 1 (codes "stat /dev/null")
    ∷ types 1 (codes "cp /dev/uart0 /dev/uart0")
    ∷ types 1 (codes "cp /dev/uart0 /f")
    ∷ types 1 (codes "open /dev/uart0 rw,trunc")
    ∷ types 1 (codes "write 3 ab 2")
    ∷ types 1 (codes "lseek 3 0 end")
    ∷ types 1 (codes "mmap 3 0 1 r")
    ∷ types 1 (codes "fsync 3")
    ∷ types 1 (codes "list_device")
    ∷ []) ≡
    [] ∷ [] ∷ codes "ab" ∷ []
    ∷ (line (codes "Directory /dev:") ++ line (codes "null                <CHR>") ++ line (codes "uart0               <CHR>"))
    ∷ line (codes "echo: /dev/new: EROFS") ∷ line (codes "/dev/null chr") ∷ line (codes "cp: /dev/uart0: EINVAL") ∷ [] ∷ fd 3
    ∷ number 4 ∷ line (codes "lseek: 3: ESPIPE") ∷ line (codes "mmap: 3: ENODEV") ∷ line (codes "fsync: 3: EINVAL")
    ∷ (line (codes "uart0 char mounted") ++ line (codes "null char mounted")) ∷ []
unfolding shell steps
a_character_device_through_devfs = refl

pub an_unlinked_file_is_mapped : texts (opening_world [] bare) (
    types 1 (codes "open /f rw,creat")
    ∷ types 1 (codes "write 03 hello")
    ∷ types 1 (codes "rm /f")
    ∷ types 1 (codes "mmap 3 0 8 rw")
    ∷ types 1 (codes "dup 3")
    ∷ types 1 (codes "close 03")
    ∷ types 1 (codes "close 4")
    ∷ types 1 (codes "mstore 1 0 J")
    ∷ types 1 (codes "mload 1 0 5")
    ∷ types 1 (codes "mload 1 0 6")
    ∷ types 1 (codes "mload 1 0 9")
    ∷ types 1 (codes "msync 1")
    ∷ types 1 (codes "dentries")
    ∷ types 1 (codes "munmap 1")
    ∷ types 1 (codes "munmap 1")
    ∷ types 1 (codes "dentries")
    ∷ []) ≡
    fd 3 ∷ number 5 ∷ [] ∷ line (codes "window " ++ decimal 1) ∷ fd 4 ∷ [] ∷ [] ∷ number 1 ∷ bytes 5 (codes "Jello")
    ∷ line (codes "mload: 1: EFAULT") ∷ line (codes "mload: 1: EFAULT") ∷ []
    ∷ flat_map line ((codes "/ " ++ decimal 9) ∷ (codes "(row " ++ decimal 1 ++ codes ")" ++ codes " " ++ decimal 1) ∷ [])
    ∷ [] ∷ line (codes "munmap: 1: EINVAL") ∷ flat_map line ((codes "/ " ++ decimal 9) ∷ []) ∷ []
unfolding shell steps
an_unlinked_file_is_mapped = refl

-- the place of a shared open file, and appends of two sessions
pub appends_go_to_the_end_of_the_file : texts (opening_world [] bare) (
    types 1 (codes "open /f w,creat,append")
    ∷ types 2 (codes "open /f rw")
    ∷ types 1 (codes "write 3 ab")
    ∷ types 2 (codes "write 3 c")
    ∷ types 1 (codes "write 3 d")
    ∷ types 2 (codes "dup 3")
    ∷ types 2 (codes "read 4 9")
    ∷ types 2 (codes "lseek 3 0 cur")
    ∷ types 1 (codes "read 3 9")
    ∷ types 2 (codes "open /f w,trunc")
    ∷ types 2 (codes "lseek 3 -1 end")
    ∷ types 1 (codes "cat /f")
    ∷ types 1 (codes "write 3 \"x\\\" 2")
    ∷ types 2 (codes "lseek 3 0 set")
    ∷ types 2 (codes "read 4 9")
    ∷ []) ≡
    fd 3 ∷ fd 3 ∷ number 2 ∷ number 1 ∷ number 1 ∷ fd 4 ∷ bytes 2 (codes "bd") ∷ number 3 ∷ line (codes "read: 3: EBADF") ∷ fd 5
    ∷ line (codes "lseek: 3: EINVAL") ∷ [] ∷ number 4 ∷ number 0 ∷ bytes 4 (codes "x\\\\x\\\\") ∷ []
unfolding shell steps
appends_go_to_the_end_of_the_file = refl
