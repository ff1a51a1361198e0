-- Worked examples of the order in which refusals are tried, and of limits.
use Rattle.std.specs.Prelude.{◌≡◌, ℕ, List, [], ◌∷◌, ◌++◌, codes, map, flat_map, replicate, refl}
use Rattle.std.specs.List.{range_with_len}
use Rattle.vfs_base.specs.declared.errno.Errno.TheVariants as errno
use Rattle.vfs_base.specs.declared.entry.Mark.TheVariants as mark
use Rattle.vfs_base.specs.declared.kinds.Kind.TheVariants as kind
use Rattle.vfs_base.specs.declared.reply.Reply.TheVariants as reply
use Rattle.vfs_base.specs.declared.step.Step.TheVariants as step
use Rattle.vfs_model.proofs.DeviceExamples.{boot, on_volume, replies_with, sd0}
use Rattle.vfs_model.proofs.ExampleSteps.{asks, asks_stopped, bare, bare_replies, file_entry, flags, folder, hold, id, no, r, rw_creat, steps}
use Rattle.vfs_model.specs.Asking.{Asked, run_steps}
use Rattle.vfs_model.specs.Homes.{opening_world}

pub refusals_in_a_rom : (run_steps (opening_world (boot ∷ []) bare) (
    asks 1 (step.Mkdir (codes "/r"))
    ∷ asks 1 (step.Mount (codes "boot") (codes "/r") (codes "rom"))
    ∷ asks 1 (step.Mkdir (codes "/r"))
    ∷ asks 1 (step.Mkdir (codes "/r/etc"))
    ∷ asks 1 (step.Rmdir (codes "/r"))
    ∷ asks 1 (step.Rmdir (codes "/r/etc"))
    ∷ asks 1 (step.Rmdir (codes "/r/none"))
    ∷ asks 1 (step.Rmdir (codes "/r/etc/id"))
    ∷ asks 1 (step.Unlink (codes "/r/none"))
    ∷ asks 1 (step.Rename (codes "/r/etc") (codes "/x"))
    ∷ asks 1 (step.Rename (codes "/r") (codes "/none/x"))
    ∷ asks 1 (step.Rename (codes "/r/etc/id") (codes "/r/etc/id/x"))
    ∷ asks 1 (step.Rename (codes "/r/none") (codes "/none/x"))
    ∷ asks 1 (step.Chdir (codes "/r/etc/id"))
    ∷ asks 1 (step.List (codes "/r/none"))
    ∷ asks 1 (step.Mount (codes "x") (codes "/r/etc") (codes "tmp"))
    ∷ asks 2 (step.Chdir (codes "/r/etc"))
    ∷ asks 1 (step.Mount (codes "x") (codes "/r/etc") (codes "tmp"))
    ∷ asks 1 (step.Mount (codes "x") (codes "/r/etc/id") (codes "tmp"))
    ∷ asks 1 (step.Umount (codes "/r"))
    ∷ asks 1 (step.Umount (codes "/r/etc"))
    ∷ asks 1 (step.Open (codes "/r/etc/empty") (flags 14))
    ∷ asks 1 (step.Open (codes "/r/etc") (flags 5))
    ∷ asks 1 (step.Open (codes "/none/x") (flags 4))
    ∷ asks 1 (step.Open (codes "/none/x") (flags 5))
    ∷ asks 1 (step.Mkdir (codes "/b"))
    ∷ asks 1 (step.Mount (codes "boot") (codes "/b") (codes "rom"))
    ∷ asks 1 (step.Mount (codes "nope") (codes "/b") (codes "rom"))
    ∷ asks 1 (step.Mount (codes "sd0") (codes "/b") (codes "cell"))
    ∷ asks 1 (step.Mount (codes "boot") (codes "/b") (codes "devfs"))
    ∷ asks 1 (step.Mkdir (codes "/c"))
    ∷ asks 1 (step.Mount (codes "x") (codes "/c") (codes "devfs"))
    ∷ []
    )).replies ≡ reply.Done ∷ reply.Done ∷ no errno.EEXIST ∷ no errno.EEXIST ∷ no errno.EBUSY ∷ no errno.EROFS ∷ no errno.ENOENT ∷ no errno.ENOTDIR
    ∷ no errno.ENOENT ∷ no errno.EXDEV ∷ no errno.EBUSY ∷ no errno.ENOTDIR ∷ no errno.ENOENT ∷ no errno.ENOTDIR ∷ no errno.ENOENT ∷ no errno.ENOTEMPTY
    ∷ reply.At (codes "r" ∷ codes "etc" ∷ []) ∷ no errno.EBUSY ∷ no errno.ENOTDIR ∷ no errno.EBUSY ∷ no errno.EINVAL ∷ no errno.EEXIST ∷ no errno.EISDIR
    ∷ no errno.EINVAL ∷ no errno.ENOENT ∷ reply.Done ∷ no errno.EBUSY ∷ no errno.ENXIO ∷ no errno.ENXIO ∷ reply.Done ∷ reply.Done ∷ no errno.EBUSY ∷ []
unfolding steps
refusals_in_a_rom = refl

pub rename_replaces_what_it_may : bare_replies (
    asks 1 (step.Mkdir (codes "/a"))
    ∷ asks 1 (step.Mkdir (codes "/b"))
    ∷ asks 1 (step.Mkdir (codes "/b/c"))
    ∷ asks 1 (step.Open (codes "/f") rw_creat)
    ∷ asks 1 (step.Open (codes "/g") rw_creat)
    ∷ asks 1 (step.Close (hold 1 1))
    ∷ asks 1 (step.Rename (codes "/a") (codes "/f"))
    ∷ asks 1 (step.Rename (codes "/f") (codes "/a"))
    ∷ asks 1 (step.Rename (codes "/a") (codes "/b"))
    ∷ asks 1 (step.Chdir (codes "/b/c"))
    ∷ asks 1 (step.Rename (codes "/b") (codes "/a"))
    ∷ asks 1 (step.Rename (codes "/a") (codes "/b/c"))
    ∷ asks 1 step.Home
    ∷ asks 1 (step.Rename (codes "/b") (codes "/a"))
    ∷ asks 1 (step.Rename (codes "/g") (codes "/f"))
    ∷ asks 1 (step.Size (id 1 1))
    ∷ asks 1 (step.Size (id 2 1))
    ∷ asks 1 (step.List (codes "/"))
    ∷ asks 1 (step.Rename (codes "/a/c/x") (codes "/none/y"))
    ∷ asks 1 (step.Rename (codes "/f") (codes "/f/x"))
    ∷ asks 1 (step.Mount (codes "x") (codes "/a/c") (codes "tmp"))
    ∷ asks 1 (step.Rename (codes "/a") (codes "/a/c/d"))
    ∷ asks 1 (step.Rename (codes "/a") (codes "/a/d"))
    ∷ asks 2 (step.Chdir (codes "/a/c"))
    ∷ asks 1 (step.Rename (codes "/a") (codes "/z"))
    ∷ []
    ) ≡ reply.Done ∷ reply.Done ∷ reply.Done ∷ reply.Opened (hold 1 1) (id 1 1) kind.Tmp ∷ reply.Opened (hold 1 2) (id 2 1) kind.Tmp ∷ reply.Done
    ∷ no errno.ENOTDIR ∷ no errno.EISDIR ∷ no errno.ENOTEMPTY ∷ reply.At (codes "b" ∷ codes "c" ∷ []) ∷ no errno.EBUSY ∷ no errno.EBUSY
    ∷ reply.Done ∷ reply.Done ∷ reply.Done ∷ no errno.ENOENT ∷ reply.SizeIs 0
    ∷ reply.Listing [] (folder (codes "a") ∷ file_entry (codes "f") (id 2 1) kind.Tmp ∷ [])
    ∷ no errno.ENOENT ∷ no errno.ENOTDIR ∷ reply.Done ∷ no errno.EXDEV ∷ no errno.EINVAL ∷ reply.At (codes "a" ∷ codes "c" ∷ []) ∷ no errno.EBUSY ∷ []
unfolding steps
rename_replaces_what_it_may = refl

pub a_file_may_have_its_greatest_size : replies_with (sd0 (1 ∷ [])) (on_volume (
    asks 1 (step.Open (codes "/v/f") rw_creat)
    ∷ asks 1 (step.Trunc (id 1 1) 4096)
    ∷ asks 1 (step.Append (id 1 1) (codes "x"))
    ∷ asks 1 (step.Append (id 1 1) [])
    ∷ asks 1 (step.Load (id 1 1) 4095 1)
    ∷ asks 1 (step.Store (id 1 1) 4096 [])
    ∷ asks 1 (step.Store (id 1 1) 4097 [])
    ∷ asks 1 (step.Write (id 1 1) 4094 (codes "abc"))
    ∷ asks_stopped 1 (step.Trunc (id 1 1) 1) (mark.Fault 0)
    ∷ asks 1 (step.Size (id 1 1))
    ∷ []
    )) ≡ reply.Done ∷ reply.Done ∷ reply.Opened (hold 1 1) (id 1 1) kind.Cell ∷ reply.Done ∷ no errno.ENOSPC ∷ reply.Count 0 4096
    ∷ reply.Got (0 ∷ []) ∷ reply.Count 0 4096 ∷ no errno.EFAULT ∷ reply.Count 2 4096 ∷ no errno.EIO ∷ reply.SizeIs 4096 ∷ []
unfolding steps
a_file_may_have_its_greatest_size = refl

pub descriptors_run_out : bare_replies (
    asks 1 (step.Open (codes "/f") rw_creat)
    ∷ replicate 31 (asks 1 (step.Map (hold 1 1)))
    ++ asks 1 (step.Map (hold 1 1))
    ∷ asks 1 (step.Open (codes "/f") r)
    ∷ asks 1 (step.Open (codes "/g") r)
    ∷ asks 2 (step.Open (codes "/f") r)
    ∷ asks 1 (step.Unmap (hold 1 7))
    ∷ asks 1 (step.Open (codes "/f") r)
    ∷ []
    ) ≡ reply.Opened (hold 1 1) (id 1 1) kind.Tmp
    ∷ map (λ number. reply.Held (hold 1 number)) (range_with_len 2 31)
    ++ no errno.EMFILE ∷ no errno.EMFILE ∷ no errno.ENOENT ∷ reply.Opened (hold 2 1) (id 1 1) kind.Tmp ∷ reply.Done
    ∷ reply.Opened (hold 1 7) (id 1 1) kind.Tmp ∷ []
unfolding steps
descriptors_run_out = refl

-- a folder of one letter, and a mount on it
abbrev pub mount_letter : ℕ → List Asked
mount_letter letter = asks 1 (step.Mkdir (47 ∷ letter ∷ [])) ∷ asks 1 (step.Mount (codes "x") (47 ∷ letter ∷ []) (codes "tmp")) ∷ []

pub mounts_run_out : bare_replies (
    flat_map mount_letter (range_with_len 97 16)
    ++ asks 1 (step.Umount (codes "/c"))
    ∷ asks 1 (step.Mount (codes "x") (codes "/p") (codes "tmp"))
    ∷ asks 1 (step.Umount (codes "/"))
    ∷ []
    ) ≡ replicate 31 reply.Done ++ no errno.ENOSPC ∷ reply.Done ∷ reply.Done ∷ no errno.EBUSY ∷ []
unfolding steps
mounts_run_out = refl
