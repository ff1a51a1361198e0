-- Worked examples on roms, volumes and character devices: the steps behind a session, and their replies.
use Rattle.std.specs.Prelude.{◌≡◌, ℕ, true, false, Some, List, [], ◌∷◌, codes, replicate, refl}
use Rattle.vfs_base.specs.declared.describe.Describe.{Describe}
use Rattle.vfs_base.specs.declared.entry.Mark.TheVariants as mark
use Rattle.vfs_base.specs.declared.entry.Who.TheVariants as who
use Rattle.vfs_base.specs.declared.errno.Errno.TheVariants as errno
use Rattle.vfs_base.specs.declared.kinds.DeviceClass.TheVariants as class
use Rattle.vfs_base.specs.declared.kinds.FsType.TheVariants as fs
use Rattle.vfs_base.specs.declared.kinds.Kind.TheVariants as kind
use Rattle.vfs_base.specs.declared.kinds.NodeKind.TheVariants as node
use Rattle.vfs_base.specs.declared.reply.Reply.{Reply}
use Rattle.vfs_base.specs.declared.reply.Reply.TheVariants as reply
use Rattle.vfs_base.specs.declared.step.Step.TheVariants as step
use Rattle.vfs_model.proofs.ExampleSteps.{asks, asks_stopped, bare, bare_replies, ends, file_entry, hold, id, no, r, rw_creat, steps, to_append}
use Rattle.vfs_model.specs.Asking.{Asked, run_steps}
use Rattle.vfs_model.specs.Homes.{opening_world, with_cell_bytes}
use Rattle.vfs_model.specs.declared.namespace.RomImage.{RomImage}
use Rattle.vfs_model.specs.declared.namespace.RomNode.TheVariants as rom
use Rattle.vfs_model.specs.declared.world.DeviceHome.{DeviceHome}
use Rattle.vfs_model.specs.declared.world.WorldState.{WorldState}

-- the rom `boot`: a folder with two files
abbrev pub boot : RomImage
boot = record {
  name = codes "boot";
  nodes = (codes "etc" ∷ [], rom.Dir)
      ∷ (codes "etc" ∷ codes "empty" ∷ [], rom.File [])
      ∷ (codes "etc" ∷ codes "id" ∷ [], rom.File (codes "RT"))
      ∷ [];
}

-- one volume `sd0` with cells of so many pages
abbrev pub sd0 : List ℕ → Describe
sd0 pages = record { volumes = record { name = codes "sd0"; pages = pages } ∷ []; chars = [] }

-- two character devices
abbrev pub devices : Describe
devices = record {
  volumes = [];
  chars = record { name = codes "uart0"; input = Some (codes "ab") } ∷ record { name = codes "null"; input = Some [] } ∷ [];
}

abbrev pub replies_with : Describe → List Asked → List Reply
replies_with describe steps = (run_steps (opening_world [] describe) steps).replies

-- a volume is mounted at `/v`
abbrev pub on_volume : List Asked → List Asked
on_volume later = asks 1 (step.Mkdir (codes "/v")) ∷ asks 1 (step.Mount (codes "sd0") (codes "/v") (codes "cell")) ∷ later

pub a_rom_is_read_only : (run_steps (opening_world (boot ∷ []) bare) (
    asks 1 (step.Mkdir (codes "/r"))
    ∷ asks 1 (step.Mount (codes "boot") (codes "/r") (codes "rom"))
    ∷ asks 1 (step.List (codes "/r/etc"))
    ∷ asks 1 (step.Size (id 1 1))
    ∷ asks 1 (step.Size (id 2 1))
    ∷ asks 1 (step.Open (codes "/r/etc/id") r)
    ∷ asks 1 (step.Read (id 2 1) 0 4096)
    ∷ asks 1 (step.Read (id 2 1) 2 4096)
    ∷ asks 1 (step.Close (hold 1 1))
    ∷ asks 1 (step.Open (codes "/r/etc/id") to_append)
    ∷ asks 1 (step.Open (codes "/r/new") to_append)
    ∷ asks 1 (step.Open (codes "/r/new") r)
    ∷ asks 1 (step.Mkdir (codes "/r/new"))
    ∷ asks 1 (step.Unlink (codes "/r/etc"))
    ∷ asks 1 (step.Unlink (codes "/r/etc/id"))
    ∷ asks 1 (step.Rename (codes "/r/etc") (codes "/r/etc"))
    ∷ asks 1 (step.Mount (codes "boot") (codes "/r/etc") (codes "rom"))
    ∷ asks 1 step.Devices
    ∷ asks 1 step.Mounts
    ∷ ends mark.Clear
    ∷ asks 1 step.Devices
    ∷ []
    )).replies ≡ reply.Done ∷ reply.Done
    ∷ reply.Listing (codes "r" ∷ codes "etc" ∷ []) (file_entry (codes "empty") (id 1 1) kind.Rom ∷ file_entry (codes "id") (id 2 1) kind.Rom ∷ [])
    ∷ reply.SizeIs 0 ∷ reply.SizeIs 2 ∷ reply.Opened (hold 1 1) (id 2 1) kind.Rom ∷ reply.Got (codes "RT") ∷ reply.Got [] ∷ reply.Done
    ∷ no errno.EROFS ∷ no errno.EROFS ∷ no errno.ENOENT ∷ no errno.EROFS ∷ no errno.EPERM ∷ no errno.EROFS ∷ no errno.EROFS
    ∷ no errno.ENOTEMPTY
    ∷ reply.DeviceList (record { name = codes "boot"; class = class.Rom; mounted = true } ∷ [])
    ∷ reply.MountList (
    record { source = codes "none"; fs = fs.Tmp; nodes = 1; spare = 4095; point = [] }
    ∷ record { source = codes "boot"; fs = fs.Rom; nodes = 3; spare = 0; point = codes "r" ∷ [] }
    ∷ []
    )
    ∷ reply.Done
    ∷ reply.DeviceList (record { name = codes "boot"; class = class.Rom; mounted = false } ∷ [])
    ∷ []
unfolding steps
a_rom_is_read_only = refl

pub a_full_cell_and_a_full_volume : replies_with (sd0 (1 ∷ [])) (on_volume (
    asks 1 (step.Open (codes "/v/f") rw_creat)
    ∷ asks 1 (step.Write (id 1 1) 0 (replicate 5000 97))
    ∷ asks 1 (step.Write (id 1 1) 4096 (codes "b"))
    ∷ asks 1 (step.Write (id 1 1) 4096 [])
    ∷ asks 1 (step.Open (codes "/v/g") to_append)
    ∷ asks 1 (step.Open (codes "/t") rw_creat)
    ∷ asks 1 (step.Trunc (id 2 1) 4194305)
    ∷ asks 1 (step.Trunc (id 1 1) 4097)
    ∷ asks 1 step.Cells
    ∷ asks 1 (step.Close (hold 1 1))
    ∷ asks 1 (step.Close (hold 1 2))
    ∷ asks 1 (step.Unlink (codes "/v/f"))
    ∷ asks 1 (step.Open (codes "/v/g") to_append)
    ∷ asks 1 (step.Size (id 1 2))
    ∷ []
    )) ≡ reply.Done ∷ reply.Done ∷ reply.Opened (hold 1 1) (id 1 1) kind.Cell ∷ reply.Count 4096 4096 ∷ no errno.ENOSPC ∷ reply.Count 0 4096
    ∷ no errno.ENOSPC ∷ reply.Opened (hold 1 2) (id 2 1) kind.Tmp ∷ no errno.EFBIG ∷ no errno.ENOSPC ∷ reply.Files (id 1 1 ∷ [])
    ∷ reply.Done ∷ reply.Done ∷ reply.Done ∷ reply.Opened (hold 1 1) (id 1 2) kind.Cell ∷ reply.SizeIs 0 ∷ []
unfolding steps
a_full_cell_and_a_full_volume = refl

-- what is left of a run's devices at home
abbrev pub homes_with : Describe → List Asked → List DeviceHome
homes_with describe steps = (run_steps (opening_world [] describe) steps).next.homes.devices

abbrev pub device_session : List Asked
device_session =
    asks 1 (step.Mkdir (codes "/dev"))
    ∷ asks 1 (step.Mount (codes "none") (codes "/dev") (codes "devfs"))
    ∷ asks 1 (step.Open (codes "/dev/uart0") r)
    ∷ asks 1 (step.Read (id 2 1) 0 4096)
    ∷ asks 1 (step.Close (hold 1 1))
    ∷ asks 1 (step.Open (codes "/dev/uart0") to_append)
    ∷ asks 1 (step.Append (id 2 1) (codes "hi"))
    ∷ asks 1 (step.Map (hold 1 1))
    ∷ asks 1 (step.Size (id 2 1))
    ∷ asks 1 (step.Trunc (id 2 1) 0)
    ∷ asks 1 (step.Close (hold 1 1))
    ∷ asks 1 (step.List (codes "/dev"))
    ∷ asks 1 (step.Open (codes "/dev/new") to_append)
    ∷ ends mark.Clear
    ∷ []

pub a_character_device_through_devfs : replies_with devices device_session
    ≡ reply.Done ∷ reply.Done ∷ reply.Opened (hold 1 1) (id 2 1) kind.Chr ∷ reply.Got (codes "ab") ∷ reply.Done
    ∷ reply.Opened (hold 1 1) (id 2 1) kind.Chr ∷ reply.Count 2 0 ∷ no errno.ENODEV ∷ no errno.ESPIPE ∷ no errno.EINVAL ∷ reply.Done
    ∷ reply.Listing (codes "dev" ∷ []) (file_entry (codes "null") (id 1 1) kind.Chr ∷ file_entry (codes "uart0") (id 2 1) kind.Chr ∷ [])
    ∷ no errno.EROFS ∷ reply.Done ∷ []
unfolding steps
a_character_device_through_devfs = refl

pub a_character_device_comes_home : homes_with devices device_session
    ≡ record { input = []; output = codes "hi" } ∷ record { input = []; output = [] } ∷ []
unfolding steps
a_character_device_comes_home = refl

pub a_device_stops_a_read : replies_with devices (
    asks 1 (step.Mkdir (codes "/dev"))
    ∷ asks 1 (step.Mount (codes "none") (codes "/dev") (codes "devfs"))
    ∷ asks 1 (step.Open (codes "/dev/uart0") r)
    ∷ asks_stopped 1 (step.Read (id 2 1) 0 4096) (mark.Fault 0)
    ∷ asks_stopped 1 (step.Read (id 2 1) 0 4096) (mark.Fault 1)
    ∷ asks 1 (step.Read (id 2 1) 0 4096)
    ∷ []
    ) ≡ reply.Done ∷ reply.Done ∷ reply.Opened (hold 1 1) (id 2 1) kind.Chr ∷ no errno.EIO ∷ reply.Got (codes "a") ∷ reply.Got (codes "b") ∷ []
unfolding steps
a_device_stops_a_read = refl

pub mkfs_and_the_device_list : replies_with (sd0 (4 ∷ [])) (
    asks 1 (step.Mkfs (codes "sd0"))
    ∷ asks 1 (step.Mkfs (codes "nope"))
    ∷ on_volume (
    asks 1 (step.Mkfs (codes "sd0"))
    ∷ asks 1 step.Devices
    ∷ asks 1 (step.Open (codes "/v/f") to_append)
    ∷ asks 1 (step.Append (id 1 1) (codes "hi"))
    ∷ asks 1 (step.Close (hold 1 1))
    ∷ asks 1 step.Mounts
    ∷ asks 1 (step.Umount (codes "/v"))
    ∷ asks 1 (step.Mount (codes "sd0") (codes "/v") (codes "cell"))
    ∷ asks 1 (step.Stat (codes "/v/f"))
    ∷ asks 1 (step.Size (id 1 2))
    ∷ asks 1 (step.Umount (codes "/v"))
    ∷ asks 1 (step.Mkfs (codes "sd0"))
    ∷ asks 1 (step.Mount (codes "sd0") (codes "/v") (codes "cell"))
    ∷ asks 1 (step.Mount (codes "nope") (codes "/v") (codes "cell"))
    ∷ asks 1 step.Mounts
    ∷ []
    )
    ) ≡ reply.Done ∷ no errno.ENXIO ∷ reply.Done ∷ reply.Done ∷ no errno.EBUSY
    ∷ reply.DeviceList (record { name = codes "sd0"; class = class.Block; mounted = true } ∷ [])
    ∷ reply.Opened (hold 1 1) (id 1 1) kind.Cell ∷ reply.Count 2 2 ∷ reply.Done
    ∷ reply.MountList (
    record { source = codes "none"; fs = fs.Tmp; nodes = 1; spare = 4095; point = [] }
    ∷ record { source = codes "sd0"; fs = fs.Cell; nodes = 1; spare = 0; point = codes "v" ∷ [] }
    ∷ []
    )
    ∷ reply.Done ∷ reply.Done ∷ reply.Node (node.File (id 1 2) kind.Cell) ∷ reply.SizeIs 2 ∷ reply.Done ∷ reply.Done ∷ reply.Done ∷ no errno.EBUSY
    ∷ reply.MountList (
    record { source = codes "none"; fs = fs.Tmp; nodes = 1; spare = 4095; point = [] }
    ∷ record { source = codes "sd0"; fs = fs.Cell; nodes = 0; spare = 1; point = codes "v" ∷ [] }
    ∷ []
    )
    ∷ []
unfolding steps
mkfs_and_the_device_list = refl

pub umount_tries_again_after_a_fault : replies_with (sd0 (4 ∷ [])) (on_volume (
    asks 1 (step.Open (codes "/v/f") to_append)
    ∷ asks 1 (step.Append (id 1 1) (codes "hi"))
    ∷ asks 1 (step.Close (hold 1 1))
    ∷ asks_stopped 1 (step.Umount (codes "/v")) (mark.Fault 0)
    ∷ asks 1 (step.Size (id 1 1))
    ∷ asks 1 (step.Umount (codes "/v"))
    ∷ asks 1 (step.Size (id 1 1))
    ∷ ends mark.Clear
    ∷ []
    )) ≡ reply.Done ∷ reply.Done ∷ reply.Opened (hold 1 1) (id 1 1) kind.Cell ∷ reply.Count 2 2 ∷ reply.Done ∷ no errno.EIO ∷ reply.SizeIs 2
    ∷ reply.Done ∷ no errno.ENOENT ∷ reply.Done ∷ []
unfolding steps
umount_tries_again_after_a_fault = refl

pub shutdown_reports_the_device : replies_with (sd0 (4 ∷ [])) (on_volume (
    asks 1 (step.Open (codes "/v/f") to_append)
    ∷ asks 1 (step.Append (id 1 1) (codes "hi"))
    ∷ asks 1 (step.Close (hold 1 1))
    ∷ ends (mark.Fault 0)
    ∷ asks 1 step.Mounts
    ∷ asks 1 (step.Mkdir (codes "/v"))
    ∷ asks 1 (step.Mount (codes "sd0") (codes "/v") (codes "cell"))
    ∷ asks 1 (step.Mount (codes "sd0") (codes "/v") (codes "tmp"))
    ∷ []
    )) ≡ reply.Done ∷ reply.Done ∷ reply.Opened (hold 1 1) (id 1 1) kind.Cell ∷ reply.Count 2 2 ∷ reply.Done ∷ no errno.EIO
    ∷ reply.MountList (record { source = codes "none"; fs = fs.Tmp; nodes = 0; spare = 4096; point = [] } ∷ [])
    ∷ reply.Done ∷ no errno.ENXIO ∷ reply.Done ∷ []
unfolding steps
shutdown_reports_the_device = refl

pub a_failed_eviction_is_a_short_write : replies_with (sd0 (64 ∷ [])) (on_volume (
    asks 1 (step.Open (codes "/v/f") rw_creat)
    ∷ asks_stopped 1 (step.Write (id 1 1) 0 (replicate 135168 97)) (mark.Fault 131072)
    ∷ asks 1 (step.Sync (id 1 1))
    ∷ asks 1 (step.Size (id 1 1))
    ∷ []
    )) ≡ reply.Done ∷ reply.Done ∷ reply.Opened (hold 1 1) (id 1 1) kind.Cell ∷ reply.Count 131072 131072 ∷ reply.Done ∷ reply.SizeIs 131072 ∷ []
unfolding steps
a_failed_eviction_is_a_short_write = refl

pub truncated_bytes_come_back_as_zeros : replies_with (sd0 (64 ∷ [])) (on_volume (
    asks 1 (step.Open (codes "/v/f") rw_creat)
    ∷ asks 1 (step.Write (id 1 1) 0 (replicate 40960 113))
    ∷ record { who = who.Reclaim 1; step = step.Reclaim 1; mark = mark.Clear }
    ∷ asks 1 (step.Trunc (id 1 1) 1)
    ∷ asks 1 (step.Trunc (id 1 1) 8192)
    ∷ asks 1 (step.Read (id 1 1) 0 3)
    ∷ asks 1 (step.Map (hold 1 1))
    ∷ asks 1 (step.Load (id 1 1) 8191 1)
    ∷ asks 1 (step.Load (id 1 1) 8191 2)
    ∷ asks 1 (step.Store (id 1 1) 0 (codes "Z"))
    ∷ asks 1 (step.Store (id 1 1) 8192 (codes "Z"))
    ∷ asks 1 (step.Read (id 1 1) 0 2)
    ∷ []
    )) ≡ reply.Done ∷ reply.Done ∷ reply.Opened (hold 1 1) (id 1 1) kind.Cell ∷ reply.Count 40960 40960 ∷ reply.Done ∷ reply.Done ∷ reply.Done
    ∷ reply.Got (113 ∷ 0 ∷ 0 ∷ []) ∷ reply.Held (hold 1 2) ∷ reply.Got (0 ∷ []) ∷ no errno.EFAULT ∷ reply.Count 1 1 ∷ no errno.EFAULT
    ∷ reply.Got (90 ∷ 0 ∷ []) ∷ []
unfolding steps
truncated_bytes_come_back_as_zeros = refl

pub want_of_memory_moves_no_byte : bare_replies (
    asks_stopped 1 (step.Mkdir (codes "/a")) (mark.NoMem 0)
    ∷ asks 1 (step.Open (codes "/f") rw_creat)
    ∷ asks 1 (step.Write (id 1 1) 0 (codes "ab"))
    ∷ asks_stopped 1 (step.Write (id 1 1) 1 (codes "XYZ")) (mark.NoMem 0)
    ∷ asks 1 (step.Write (id 1 1) 4 (codes "e"))
    ∷ asks 1 (step.Write (id 1 1) 9 [])
    ∷ asks 1 (step.Read (id 1 1) 0 9)
    ∷ asks 1 (step.Read (id 1 1) 5 9)
    ∷ asks 1 (step.Write (id 1 1) 4194304 (codes "x"))
    ∷ asks 1 (step.List (codes "/"))
    ∷ []
    ) ≡ no errno.ENOMEM ∷ reply.Opened (hold 1 1) (id 1 1) kind.Tmp ∷ reply.Count 2 2 ∷ no errno.ENOMEM ∷ reply.Count 1 5 ∷ reply.Count 0 9
    ∷ reply.Got (97 ∷ 98 ∷ 0 ∷ 0 ∷ 101 ∷ []) ∷ reply.Got [] ∷ no errno.EFBIG
    ∷ reply.Listing [] (file_entry (codes "f") (id 1 1) kind.Tmp ∷ []) ∷ []
unfolding steps
want_of_memory_moves_no_byte = refl

-- bytes that lie on a cell at home are no file's: a file that is made there begins with nothing
pub a_new_file_begins_with_nothing : (
    let start : WorldState = opening_world [] (sd0 (4 ∷ [])) in
    (run_steps (record start { homes = with_cell_bytes start.homes 0 0 (codes "abc") }) (on_volume (
    asks 1 (step.Open (codes "/v/f") rw_creat)
    ∷ asks 1 (step.Size (id 1 1))
    ∷ []
    ))).replies) ≡ reply.Done ∷ reply.Done ∷ reply.Opened (hold 1 1) (id 1 1) kind.Cell ∷ reply.SizeIs 0 ∷ []
unfolding steps
a_new_file_begins_with_nothing = refl
