-- Worked examples: whole texts of scripts on volumes and character devices, and the summaries of soaks.
use Rattle.std.specs.Prelude.{◌≡◌, Some, [], ◌∷◌, ◌++◌, codes, replicate, refl}
use Rattle.vfs_base.specs.declared.describe.Describe.{Describe}
use Rattle.vfs_model.proofs.CommandRuns.{shell}
use Rattle.vfs_model.proofs.DeviceExamples.{sd0}
use Rattle.vfs_model.proofs.ExampleSteps.{steps}
use Rattle.vfs_model.proofs.ScriptExamples.{ended}
use Rattle.vfs_model.proofs.TranscriptRuns.{replay_on, scheduled, scripts, shell_on}
use Rattle.vfs_model.specs.Summary.{soak_summary, volume_lines}

-- one character device, with an input
abbrev pub uart0 : Describe
uart0 = record { volumes = []; chars = record { name = codes "uart0"; input = Some (codes "ab") } ∷ [] }

-- a volume of eight cells of 64 pages, and two character devices
abbrev pub own_devices : Describe
own_devices = record {
  volumes = record { name = codes "sd0"; pages = replicate 8 64 } ∷ [];
  chars = record { name = codes "null"; input = Some [] } ∷ record { name = codes "uart0"; input = Some (codes "ready" ++ 10 ∷ []) } ∷ [];
}

pub the_cache_shows_what_was_written :
    replay_on (sd0 (64 ∷ [])) (
    codes "1 mkdir /v"
    ∷ codes "1 mount sd0 /v cell"
    ∷ codes "1 open /v/f rw,creat"
    ∷ codes "1 write 3 a 135168"
    ∷ codes "1 lseek 3 0 set"
    ∷ codes "1 read 3 4"
    ∷ codes "1 close 3"
    ∷ []
    ) (codes "# 1 1 1 1 1 1 z")
    ≡ Some (ended (
    codes "[1]"
    ∷ codes "msh />mkdir /v"
    ∷ codes "msh />mount sd0 /v cell"
    ∷ codes "msh />open /v/f rw,creat"
    ∷ codes "fd 3"
    ∷ codes "msh />write 3 a 135168"
    ∷ codes "135168"
    ∷ codes "msh />lseek 3 0 set"
    ∷ codes "0"
    ∷ codes "msh />read 3 4"
    ∷ codes "4:aaaa"
    ∷ codes "msh />close 3"
    ∷ codes "# 1 1 1 1 1 1 z"
    ∷ []
    ))
unfolding steps shell scripts
the_cache_shows_what_was_written = refl

pub a_failed_eviction_is_a_short_write :
    replay_on (sd0 (64 ∷ [])) (
    codes "1 mkdir /v"
    ∷ codes "1 mount sd0 /v cell"
    ∷ codes "1 open /v/f rw,creat"
    ∷ codes "1 write 3 a 135168"
    ∷ codes "1 fsync 3"
    ∷ codes "1 close 3"
    ∷ []
    ) (codes "# 1 1 1 1!131072 1 1 z")
    ≡ Some (ended (
    codes "[1]"
    ∷ codes "msh />mkdir /v"
    ∷ codes "msh />mount sd0 /v cell"
    ∷ codes "msh />open /v/f rw,creat"
    ∷ codes "fd 3"
    ∷ codes "msh />write 3 a 135168"
    ∷ codes "131072"
    ∷ codes "msh />fsync 3"
    ∷ codes "msh />close 3"
    ∷ codes "# 1 1 1 1!131072 1 1 z"
    ∷ []
    ))
unfolding steps shell scripts
a_failed_eviction_is_a_short_write = refl

pub truncated_bytes_come_back_as_zeros :
    replay_on (sd0 (64 ∷ [])) (
    codes "1 mkdir /v"
    ∷ codes "1 mount sd0 /v cell"
    ∷ codes "1 open /v/f rw,creat"
    ∷ codes "1 write 3 q 40960"
    ∷ codes "! r1"
    ∷ codes "1 ftruncate 3 1"
    ∷ codes "1 ftruncate 3 8192"
    ∷ codes "1 lseek 3 0 set"
    ∷ codes "1 read 3 3"
    ∷ codes "1 mmap 3 0 12288 rw"
    ∷ codes "1 mload 1 8191 1"
    ∷ codes "1 mload 1 8191 2"
    ∷ codes "1 mload 1 12288 1"
    ∷ codes "1 mstore 1 0 Z"
    ∷ []
    ) (codes "# 1 1 1 1 r1 1 1 1 1 1 1 1 1 1 z")
    ≡ Some (ended (
    codes "[1]"
    ∷ codes "msh />mkdir /v"
    ∷ codes "msh />mount sd0 /v cell"
    ∷ codes "msh />open /v/f rw,creat"
    ∷ codes "fd 3"
    ∷ codes "msh />write 3 q 40960"
    ∷ codes "40960"
    ∷ codes "msh />ftruncate 3 1"
    ∷ codes "msh />ftruncate 3 8192"
    ∷ codes "msh />lseek 3 0 set"
    ∷ codes "0"
    ∷ codes "msh />read 3 3"
    ∷ codes "3:q\\x00\\x00"
    ∷ codes "msh />mmap 3 0 12288 rw"
    ∷ codes "window 1"
    ∷ codes "msh />mload 1 8191 1"
    ∷ codes "1:\\x00"
    ∷ codes "msh />mload 1 8191 2"
    ∷ codes "mload: 1: EFAULT"
    ∷ codes "msh />mload 1 12288 1"
    ∷ codes "mload: 1: EFAULT"
    ∷ codes "msh />mstore 1 0 Z"
    ∷ codes "1"
    ∷ codes "# 1 1 1 1 r1 1 1 1 1 1 1 1 1 1 z"
    ∷ []
    ))
unfolding steps shell scripts
truncated_bytes_come_back_as_zeros = refl

pub a_full_cell_and_a_full_volume :
    shell_on (sd0 (1 ∷ [])) (
    codes "mkdir /v"
    ∷ codes "mount sd0 /v cell"
    ∷ codes "open /v/f rw,creat"
    ∷ codes "write 3 a 5000"
    ∷ codes "write 3 b"
    ∷ codes "echo c /v/g"
    ∷ codes "open /t rw,creat"
    ∷ codes "ftruncate 4 4194305"
    ∷ []
    ) (codes "# 1 1 1 1 1 1 1 1 1 1 z")
    ≡ Some (ended (
    codes "msh />mkdir /v"
    ∷ codes "msh />mount sd0 /v cell"
    ∷ codes "msh />open /v/f rw,creat"
    ∷ codes "fd 3"
    ∷ codes "msh />write 3 a 5000"
    ∷ codes "4096"
    ∷ codes "msh />write 3 b"
    ∷ codes "write: 3: ENOSPC"
    ∷ codes "msh />echo c /v/g"
    ∷ codes "echo: /v/g: ENOSPC"
    ∷ codes "msh />open /t rw,creat"
    ∷ codes "fd 4"
    ∷ codes "msh />ftruncate 4 4194305"
    ∷ codes "ftruncate: 4: EFBIG"
    ∷ codes "# 1 1 1 1 1 1 1 1 1 1 z"
    ∷ []
    ))
unfolding steps shell scripts
a_full_cell_and_a_full_volume = refl

pub a_character_device_through_devfs :
    shell_on uart0 (
    codes "mkdir /dev"
    ∷ codes "mount none /dev devfs"
    ∷ codes "cat /dev/uart0"
    ∷ codes "echo hi /dev/uart0"
    ∷ codes "ls /dev"
    ∷ codes "echo x /dev/new"
    ∷ []
    ) (codes "# 1 1 1 1 1 1 1 1 1 1 z")
    ≡ Some (ended (
    codes "msh />mkdir /dev"
    ∷ codes "msh />mount none /dev devfs"
    ∷ codes "msh />cat /dev/uart0"
    ∷ codes "ab"
    ∷ codes "msh />echo hi /dev/uart0"
    ∷ codes "msh />ls /dev"
    ∷ codes "Directory /dev:"
    ∷ codes "uart0               <CHR>"
    ∷ codes "msh />echo x /dev/new"
    ∷ codes "echo: /dev/new: EROFS"
    ∷ codes "# 1 1 1 1 1 1 1 1 1 1 z"
    ∷ []
    ))
unfolding steps shell scripts
a_character_device_through_devfs = refl

pub mkfs_and_the_device_list :
    shell_on (sd0 (4 ∷ [])) (
    codes "mkfs sd0"
    ∷ codes "mkfs nope"
    ∷ codes "mkdir /v"
    ∷ codes "mount sd0 /v cell"
    ∷ codes "mkfs sd0"
    ∷ codes "list_device"
    ∷ codes "echo hi /v/f"
    ∷ codes "df"
    ∷ []
    ) (codes "# 1 1 1 1 1 1 1 1 1 1 z")
    ≡ Some (ended (
    codes "msh />mkfs sd0"
    ∷ codes "msh />mkfs nope"
    ∷ codes "mkfs: nope: ENXIO"
    ∷ codes "msh />mkdir /v"
    ∷ codes "msh />mount sd0 /v cell"
    ∷ codes "msh />mkfs sd0"
    ∷ codes "mkfs: sd0: EBUSY"
    ∷ codes "msh />list_device"
    ∷ codes "sd0 block mounted"
    ∷ codes "msh />echo hi /v/f"
    ∷ codes "msh />df"
    ∷ codes "none tmp 1 4095 /"
    ∷ codes "sd0 cell 1 0 /v"
    ∷ codes "# 1 1 1 1 1 1 1 1 1 1 z"
    ∷ []
    ))
unfolding steps shell scripts
mkfs_and_the_device_list = refl

pub umount_tries_again_after_a_fault :
    shell_on (sd0 (4 ∷ [])) (
    codes "mkdir /v"
    ∷ codes "mount sd0 /v cell"
    ∷ codes "echo hi /v/f"
    ∷ codes "umount /v"
    ∷ codes "umount /v"
    ∷ []
    ) (codes "# 1 1 1 1 1 1!0 1 z")
    ≡ Some (ended (
    codes "msh />mkdir /v"
    ∷ codes "msh />mount sd0 /v cell"
    ∷ codes "msh />echo hi /v/f"
    ∷ codes "msh />umount /v"
    ∷ codes "umount: /v: EIO"
    ∷ codes "msh />umount /v"
    ∷ codes "# 1 1 1 1 1 1!0 1 z"
    ∷ []
    ))
unfolding steps shell scripts
umount_tries_again_after_a_fault = refl

pub shutdown_may_be_stopped :
    shell_on (sd0 (4 ∷ [])) (
    codes "mkdir /v"
    ∷ codes "mount sd0 /v cell"
    ∷ codes "echo hi /v/f"
    ∷ []
    ) (codes "# 1 1 1 1 1 z!0")
    ≡ Some (ended (
    codes "msh />mkdir /v"
    ∷ codes "msh />mount sd0 /v cell"
    ∷ codes "msh />echo hi /v/f"
    ∷ codes "# 1 1 1 1 1 z!0"
    ∷ []
    ))
unfolding steps shell scripts
shutdown_may_be_stopped = refl

pub a_walk_through_all_devices :
    shell_on own_devices (
    codes "mkdir /dev"
    ∷ codes "mount none /dev devfs"
    ∷ codes "mkdir /sd"
    ∷ codes "mount sd0 /sd cell"
    ∷ codes "mkdir /sd/log"
    ∷ codes "echo \"boot ok\" /sd/log/a.txt"
    ∷ codes "cp /sd/log/a.txt /sd/log/b.txt"
    ∷ codes "mv /sd/log/b.txt /sd/c.txt"
    ∷ codes "ls /sd"
    ∷ codes "cat /sd/c.txt"
    ∷ codes "stat /sd/log/a.txt"
    ∷ codes "cd /sd/log"
    ∷ codes "pwd"
    ∷ codes "cd /"
    ∷ codes "umount /sd"
    ∷ codes "umount /dev"
    ∷ []
    ) (codes "# 1 1 1 1 1 1 1 1 1 1 1 1 1 1 1 1 1 1 1 1 1 1 1 1 1 1 1 1 1 1 z")
    ≡ Some (ended (
    codes "msh />mkdir /dev"
    ∷ codes "msh />mount none /dev devfs"
    ∷ codes "msh />mkdir /sd"
    ∷ codes "msh />mount sd0 /sd cell"
    ∷ codes "msh />mkdir /sd/log"
    ∷ codes "msh />echo \"boot ok\" /sd/log/a.txt"
    ∷ codes "msh />cp /sd/log/a.txt /sd/log/b.txt"
    ∷ codes "msh />mv /sd/log/b.txt /sd/c.txt"
    ∷ codes "msh />ls /sd"
    ∷ codes "Directory /sd:"
    ∷ codes "c.txt               7"
    ∷ codes "log                 <DIR>"
    ∷ codes "msh />cat /sd/c.txt"
    ∷ codes "boot ok"
    ∷ codes "msh />stat /sd/log/a.txt"
    ∷ codes "/sd/log/a.txt file 7"
    ∷ codes "msh />cd /sd/log"
    ∷ codes "msh /sd/log>pwd"
    ∷ codes "/sd/log"
    ∷ codes "msh /sd/log>cd /"
    ∷ codes "msh />umount /sd"
    ∷ codes "msh />umount /dev"
    ∷ codes "# 1 1 1 1 1 1 1 1 1 1 1 1 1 1 1 1 1 1 1 1 1 1 1 1 1 1 1 1 1 1 z"
    ∷ []
    ))
unfolding steps shell scripts
a_walk_through_all_devices = refl

pub a_soak_is_summed_up :
    (soak_summary 1 0 (sd0 (replicate 8 64)) (scheduled (codes "# 1 1 z"))
    ≡ Some (ended (codes "soak seed 1 lines 0" ∷ codes "entries 3" ∷ codes "shown 43" ∷ [])))
    × (soak_summary 1 1 (sd0 (replicate 8 64)) (scheduled (codes "# 1 1 7 z"))
    ≡ Some (ended (codes "soak seed 1 lines 1" ∷ codes "entries 4" ∷ codes "shown 73" ∷ [])))
unfolding steps shell scripts
a_soak_is_summed_up = (refl, refl)

pub each_volume_has_a_line :
    volume_lines (sd0 (64 ∷ [])).volumes
    (record { reads = 2; writes = 3; faults = 0 } ∷ [])
    (record { reads = 3; writes = 36; faults = 1 } ∷ [])
    ≡ ended (codes "sd0 reads 1 writes 33 faults 1" ∷ [])
unfolding scripts
each_volume_has_a_line = refl
