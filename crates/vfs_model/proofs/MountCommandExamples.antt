-- Worked examples of the commands of mounts and devices.
use Rattle.std.specs.Prelude.{◌≡◌, ℕ, flat_map, true, false, List, [], ◌∷◌, ◌++◌, codes, decimal, refl}
use Rattle.vfs_base.specs.declared.errno.Errno.TheVariants as errno
use Rattle.vfs_base.specs.declared.kinds.DeviceClass.TheVariants as class
use Rattle.vfs_base.specs.declared.kinds.FsType.TheVariants as fs
use Rattle.vfs_base.specs.declared.reply.Reply.TheVariants as reply
use Rattle.vfs_base.specs.declared.step.Step.TheVariants as step
use Rattle.vfs_model.proofs.CommandRuns.{asks, ends, moments, nothing, posts, says}
use Rattle.vfs_model.proofs.ExampleSteps.{at_path, at_row, id, no}
use Rattle.vfs_model.specs.Command.{opening_shell}
use Rattle.vfs_model.specs.CommandText.{line}

pub mounts_come_and_go : moments opening_shell (
    posts (codes "mount none /m tmp") (reply.Done ∷ [])
    ∷ posts (codes "mount sd0 m/ cell") (no errno.ENXIO ∷ [])
    ∷ posts (codes "mount -r /m tmp") (no errno.ENODEV ∷ [])
    ∷ posts (codes "umount /m") (reply.Done ∷ [])
    ∷ posts (codes "umount /m") (no errno.EBUSY ∷ [])
    ∷ posts (codes "mkfs sd0") (reply.Done ∷ [])
    ∷ posts (codes "mkfs nope") (no errno.ENXIO ∷ [])
    ∷ []) ≡
    (asks (step.Mount (codes "none") (codes "/m") (codes "tmp")) ∷ nothing ∷ [])
    ∷ (asks (step.Mount (codes "sd0") (codes "m/") (codes "cell")) ∷ says (codes "mount: m/: ENXIO") ∷ [])
    ∷ (asks (step.Mount (codes "-r") (codes "/m") (codes "tmp")) ∷ says (codes "mount: /m: ENODEV") ∷ [])
    ∷ (asks (step.Umount (codes "/m")) ∷ nothing ∷ [])
    ∷ (asks (step.Umount (codes "/m")) ∷ says (codes "umount: /m: EBUSY") ∷ [])
    ∷ (asks (step.Mkfs (codes "sd0")) ∷ nothing ∷ [])
    ∷ (asks (step.Mkfs (codes "nope")) ∷ says (codes "mkfs: nope: ENXIO") ∷ [])
    ∷ []
mounts_come_and_go = refl

-- the line of a mount: its source and type, two numbers, and its point
abbrev pub mounted : List ℕ → ℕ → ℕ → List ℕ → List ℕ
mounted front nodes spare point = front ++ (decimal nodes ++ codes " " ++ (decimal spare ++ codes " " ++ point))

pub what_is_mounted : moments opening_shell (
    posts (codes "df") (
    reply.MountList (
    record { source = codes "none"; fs = fs.Tmp; nodes = 1; spare = 4095; point = [] }
    ∷ record { source = codes "sd0"; fs = fs.Cell; nodes = 2; spare = 0; point = codes "v" ∷ [] }
    ∷ record { source = codes "boot"; fs = fs.Rom; nodes = 3; spare = 0; point = codes "r" ∷ codes "x" ∷ [] }
    ∷ record { source = []; fs = fs.Dev; nodes = 4; spare = 0; point = codes "dev" ∷ [] }
    ∷ [])
    ∷ [])
    ∷ posts (codes "df") (no errno.ENOMEM ∷ [])
    ∷ posts (codes "list_device") (
    reply.DeviceList (
    record { name = codes "sd0"; class = class.Block; mounted = true }
    ∷ record { name = codes "uart0"; class = class.Char; mounted = false }
    ∷ record { name = codes "boot"; class = class.Rom; mounted = false }
    ∷ [])
    ∷ [])
    ∷ posts (codes "list_device") (no errno.ENOMEM ∷ [])
    ∷ posts (codes "list_device") (reply.DeviceList [] ∷ [])
    ∷ []) ≡
    (asks step.Mounts
    ∷ ends (flat_map line (
    mounted (codes "none tmp ") 1 4095 (codes "/")
    ∷ mounted (codes "sd0 cell ") 2 0 (codes "/v")
    ∷ mounted (codes "boot rom ") 3 0 (codes "/r/x")
    ∷ mounted (codes " devfs ") 4 0 (codes "/dev")
    ∷ []))
    ∷ [])
    ∷ (asks step.Mounts ∷ says (codes "df: ENOMEM") ∷ [])
    ∷ (asks step.Devices ∷ ends (flat_map line (codes "sd0 block mounted" ∷ codes "uart0 char free" ∷ codes "boot rom free" ∷ [])) ∷ [])
    ∷ (asks step.Devices ∷ says (codes "list_device: ENOMEM") ∷ [])
    ∷ (asks step.Devices ∷ nothing ∷ [])
    ∷ []
what_is_mounted = refl

pub what_is_held : moments opening_shell (
    posts (codes "dentries") (reply.Holders (at_path [] 8 ∷ at_path (codes "d" ∷ []) 1 ∷ at_row 2 1 ∷ []) ∷ [])
    ∷ posts (codes "dentries") (no errno.ENOMEM ∷ [])
    ∷ []) ≡
    (asks step.Dentries
    ∷ ends (flat_map line (
    (codes "/ " ++ decimal 8)
    ∷ (codes "/d " ++ decimal 1)
    ∷ (codes "(row " ++ decimal 2 ++ codes ")" ++ codes " " ++ decimal 1)
    ∷ []))
    ∷ [])
    ∷ (asks step.Dentries ∷ says (codes "dentries: ENOMEM") ∷ [])
    ∷ []
what_is_held = refl

-- a file that has gone since is passed over, and none is tried behind one that is refused
pub all_files_are_written_back : moments opening_shell (
    posts (codes "sync") (reply.Files (id 2 1 ∷ id 3 5 ∷ id 9 1 ∷ []) ∷ reply.Done ∷ no errno.ENOENT ∷ reply.Done ∷ [])
    ∷ posts (codes "sync") (reply.Files (id 2 1 ∷ id 3 5 ∷ []) ∷ no errno.EIO ∷ [])
    ∷ posts (codes "sync") (no errno.ENOMEM ∷ [])
    ∷ posts (codes "sync") (reply.Files [] ∷ [])
    ∷ []) ≡
    (asks step.Cells ∷ asks (step.Sync (id 2 1)) ∷ asks (step.Sync (id 3 5)) ∷ asks (step.Sync (id 9 1)) ∷ nothing ∷ [])
    ∷ (asks step.Cells ∷ asks (step.Sync (id 2 1)) ∷ says (codes "sync: row " ++ decimal 2 ++ codes ": " ++ codes "EIO") ∷ [])
    ∷ (asks step.Cells ∷ says (codes "sync: ENOMEM") ∷ [])
    ∷ (asks step.Cells ∷ nothing ∷ [])
    ∷ []
all_files_are_written_back = refl
