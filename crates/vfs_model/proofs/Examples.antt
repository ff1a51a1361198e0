-- Worked examples on tmp mounts: the steps behind a session, and their replies.
use Rattle.std.specs.Prelude.{◌≡◌, [], ◌∷◌, codes, refl}
use Rattle.vfs_base.specs.declared.entry.Mark.TheVariants as mark
use Rattle.vfs_base.specs.declared.errno.Errno.TheVariants as errno
use Rattle.vfs_base.specs.declared.kinds.Kind.TheVariants as kind
use Rattle.vfs_base.specs.declared.reply.Reply.TheVariants as reply
use Rattle.vfs_base.specs.declared.step.Step.TheVariants as step
use Rattle.vfs_model.proofs.ExampleSteps.{at_path, at_row, asks, bare_replies, ends, file_entry, flags, folder, hold, id, no, r, rw_creat, steps, to_append}

pub empty_input_shows_only_a_schedule : bare_replies (ends mark.Clear ∷ []) ≡ reply.Done ∷ []
unfolding steps
empty_input_shows_only_a_schedule = refl

pub a_made_folder_is_listed : bare_replies (
    asks 1 (step.Mkdir (codes "/a"))
    ∷ asks 1 (step.List (codes "/"))
    ∷ ends mark.Clear
    ∷ []
    ) ≡ reply.Done ∷ reply.Listing [] (folder (codes "a") ∷ []) ∷ reply.Done ∷ []
unfolding steps
a_made_folder_is_listed = refl

pub mkdir_twice_is_refused : bare_replies (
    asks 1 (step.Mkdir (codes "/a"))
    ∷ asks 1 (step.Mkdir (codes "/a"))
    ∷ []
    ) ≡ reply.Done ∷ no errno.EEXIST ∷ []
unfolding steps
mkdir_twice_is_refused = refl

pub the_walk_stops_at_the_first_gap : bare_replies (
    asks 1 (step.Mkdir (codes "/x/y"))
    ∷ asks 1 (step.Open (codes "/f") to_append)
    ∷ asks 1 (step.Append (id 1 1) (codes "t"))
    ∷ asks 1 (step.Close (hold 1 1))
    ∷ asks 1 (step.Mkdir (codes "/f/y"))
    ∷ asks 1 (step.Mkdir (codes "/f/y/z"))
    ∷ []
    ) ≡ no errno.ENOENT ∷ reply.Opened (hold 1 1) (id 1 1) kind.Tmp ∷ reply.Count 1 1 ∷ reply.Done ∷ no errno.ENOTDIR ∷ no errno.ENOTDIR ∷ []
unfolding steps
the_walk_stops_at_the_first_gap = refl

pub paths_are_folded_by_their_text : bare_replies (
    asks 1 (step.Mkdir (codes "/b"))
    ∷ asks 1 (step.Chdir (codes "//a/./../b/"))
    ∷ asks 1 step.Cwd
    ∷ asks 1 (step.Mkdir (codes "c"))
    ∷ asks 1 (step.List (codes "/b"))
    ∷ asks 2 step.Cwd
    ∷ asks 1 step.Home
    ∷ asks 1 step.Cwd
    ∷ []
    ) ≡ reply.Done ∷ reply.At (codes "b" ∷ []) ∷ reply.At (codes "b" ∷ []) ∷ reply.Done
    ∷ reply.Listing (codes "b" ∷ []) (folder (codes "c") ∷ []) ∷ reply.At [] ∷ reply.Done ∷ reply.At [] ∷ []
unfolding steps
paths_are_folded_by_their_text = refl

pub an_unlinked_file_lives_while_open : bare_replies (
    asks 1 (step.Open (codes "/f") rw_creat)
    ∷ asks 2 (step.Unlink (codes "/f"))
    ∷ asks 1 (step.Write (id 1 1) 0 (codes "hi"))
    ∷ asks 1 (step.Read (id 1 1) 0 9)
    ∷ asks 1 (step.List (codes "/"))
    ∷ asks 1 (step.Close (hold 1 1))
    ∷ asks 2 (step.Open (codes "/g") to_append)
    ∷ asks 2 (step.Append (id 1 2) (codes "x"))
    ∷ asks 2 (step.Close (hold 2 1))
    ∷ asks 2 step.Dentries
    ∷ []
    ) ≡ reply.Opened (hold 1 1) (id 1 1) kind.Tmp ∷ reply.Done ∷ reply.Count 2 2 ∷ reply.Got (codes "hi") ∷ reply.Listing [] [] ∷ reply.Done
    ∷ reply.Opened (hold 2 1) (id 1 2) kind.Tmp ∷ reply.Count 1 1 ∷ reply.Done ∷ reply.Holders (at_path [] 9 ∷ []) ∷ []
unfolding steps
an_unlinked_file_lives_while_open = refl

pub an_unlinked_file_lives_while_mapped : bare_replies (
    asks 1 (step.Open (codes "/f") rw_creat)
    ∷ asks 1 (step.Append (id 1 1) (codes "hi"))
    ∷ asks 1 (step.Map (hold 1 1))
    ∷ asks 1 (step.Unlink (codes "/f"))
    ∷ asks 1 (step.Close (hold 1 1))
    ∷ asks 1 (step.Load (id 1 1) 0 2)
    ∷ asks 1 (step.Close (hold 1 2))
    ∷ asks 2 (step.Unmap (hold 1 2))
    ∷ asks 1 (step.Unmap (hold 1 2))
    ∷ asks 1 (step.Size (id 1 1))
    ∷ asks 1 (step.Open (codes "/g") rw_creat)
    ∷ []
    ) ≡ reply.Opened (hold 1 1) (id 1 1) kind.Tmp ∷ reply.Count 2 2 ∷ reply.Held (hold 1 2) ∷ reply.Done ∷ reply.Done ∷ reply.Got (codes "hi")
    ∷ no errno.EBADF ∷ no errno.EBADF ∷ reply.Done ∷ no errno.ENOENT ∷ reply.Opened (hold 1 1) (id 1 2) kind.Tmp ∷ []
unfolding steps
an_unlinked_file_lives_while_mapped = refl

pub umount_waits_for_an_open_file : bare_replies (
    asks 1 (step.Mkdir (codes "/m"))
    ∷ asks 1 (step.Mount (codes "none") (codes "/m") (codes "tmp"))
    ∷ asks 1 (step.Open (codes "/m/f") to_append)
    ∷ asks 1 (step.Append (id 1 1) (codes "hi"))
    ∷ asks 1 (step.Close (hold 1 1))
    ∷ asks 2 (step.Open (codes "/m/f") r)
    ∷ asks 1 (step.Umount (codes "/m"))
    ∷ asks 2 (step.Close (hold 2 1))
    ∷ asks 1 (step.Umount (codes "/m"))
    ∷ asks 2 (step.Open (codes "/m/f") r)
    ∷ ends mark.Clear
    ∷ []
    ) ≡ reply.Done ∷ reply.Done ∷ reply.Opened (hold 1 1) (id 1 1) kind.Tmp ∷ reply.Count 2 2 ∷ reply.Done ∷ reply.Opened (hold 2 1) (id 1 1) kind.Tmp
    ∷ no errno.EBUSY ∷ reply.Done ∷ reply.Done ∷ no errno.ENOENT ∷ reply.Done ∷ []
unfolding steps
umount_waits_for_an_open_file = refl

pub umount_waits_for_a_mapping : bare_replies (
    asks 1 (step.Mkdir (codes "/m"))
    ∷ asks 1 (step.Mount (codes "none") (codes "/m") (codes "tmp"))
    ∷ asks 1 (step.Open (codes "/m/f") to_append)
    ∷ asks 1 (step.Append (id 1 1) (codes "hi"))
    ∷ asks 1 (step.Close (hold 1 1))
    ∷ asks 2 (step.Open (codes "/m/f") r)
    ∷ asks 2 (step.Map (hold 2 1))
    ∷ asks 2 (step.Close (hold 2 1))
    ∷ asks 1 (step.Umount (codes "/m"))
    ∷ asks 2 (step.Load (id 1 1) 0 2)
    ∷ asks 2 (step.Unmap (hold 2 2))
    ∷ asks 1 (step.Umount (codes "/m"))
    ∷ ends mark.Clear
    ∷ []
    ) ≡ reply.Done ∷ reply.Done ∷ reply.Opened (hold 1 1) (id 1 1) kind.Tmp ∷ reply.Count 2 2 ∷ reply.Done ∷ reply.Opened (hold 2 1) (id 1 1) kind.Tmp
    ∷ reply.Held (hold 2 2) ∷ reply.Done ∷ no errno.EBUSY ∷ reply.Got (codes "hi") ∷ reply.Done ∷ reply.Done ∷ reply.Done ∷ []
unfolding steps
umount_waits_for_a_mapping = refl

pub umount_waits_for_a_working_directory : bare_replies (
    asks 1 (step.Mkdir (codes "/m"))
    ∷ asks 1 (step.Mkdir (codes "/mm"))
    ∷ asks 1 (step.Mount (codes "none") (codes "/m") (codes "tmp"))
    ∷ asks 1 (step.Mkdir (codes "/m/d"))
    ∷ asks 2 (step.Chdir (codes "/m/d"))
    ∷ asks 3 (step.Chdir (codes "/mm"))
    ∷ asks 1 (step.Umount (codes "/m"))
    ∷ asks 2 (step.Chdir (codes "/"))
    ∷ asks 1 (step.Umount (codes "/m"))
    ∷ asks 3 step.Home
    ∷ ends mark.Clear
    ∷ []
    ) ≡ reply.Done ∷ reply.Done ∷ reply.Done ∷ reply.Done ∷ reply.At (codes "m" ∷ codes "d" ∷ []) ∷ reply.At (codes "mm" ∷ [])
    ∷ no errno.EBUSY ∷ reply.At [] ∷ reply.Done ∷ reply.Done ∷ reply.Done ∷ []
unfolding steps
umount_waits_for_a_working_directory = refl

pub refusals_of_rename : bare_replies (
    asks 1 (step.Mkdir (codes "/a"))
    ∷ asks 1 (step.Mkdir (codes "/m"))
    ∷ asks 1 (step.Mount (codes "none") (codes "/m") (codes "tmp"))
    ∷ asks 1 (step.Open (codes "/f") to_append)
    ∷ asks 1 (step.Append (id 1 1) (codes "x"))
    ∷ asks 1 (step.Close (hold 1 1))
    ∷ asks 1 (step.Rename (codes "/a") (codes "/a/b"))
    ∷ asks 1 (step.Rename (codes "/f") (codes "/m/f"))
    ∷ asks 1 (step.Mkdir (codes "/a/p"))
    ∷ asks 1 (step.Mount (codes "none") (codes "/a/p") (codes "tmp"))
    ∷ asks 1 (step.Rename (codes "/a") (codes "/c"))
    ∷ asks 1 (step.Rename (codes "/f") (codes "/f"))
    ∷ asks 1 (step.Rename (codes "/m") (codes "/z"))
    ∷ ends mark.Clear
    ∷ []
    ) ≡ reply.Done ∷ reply.Done ∷ reply.Done ∷ reply.Opened (hold 1 1) (id 1 1) kind.Tmp ∷ reply.Count 1 1 ∷ reply.Done ∷ no errno.EINVAL
    ∷ no errno.EXDEV ∷ reply.Done ∷ reply.Done ∷ no errno.EBUSY ∷ reply.Done ∷ no errno.EBUSY ∷ reply.Done ∷ []
unfolding steps
refusals_of_rename = refl

pub rename_moves_all_below : bare_replies (
    asks 1 (step.Mkdir (codes "/a"))
    ∷ asks 1 (step.Mkdir (codes "/a/b"))
    ∷ asks 1 (step.Mkdir (codes "/a-b"))
    ∷ asks 1 (step.Open (codes "/a/b/f") rw_creat)
    ∷ asks 1 (step.Open (codes "/g") rw_creat)
    ∷ asks 1 (step.Rename (codes "/a/b/f") (codes "/g"))
    ∷ asks 1 (step.Size (id 2 1))
    ∷ asks 1 (step.Close (hold 1 2))
    ∷ asks 1 (step.Size (id 2 1))
    ∷ asks 1 (step.Rename (codes "/g") (codes "/a/b/h"))
    ∷ asks 1 (step.Rename (codes "/a/b") (codes "/a"))
    ∷ asks 1 (step.Rename (codes "/a") (codes "/a-b"))
    ∷ asks 1 (step.List (codes "/"))
    ∷ asks 1 (step.List (codes "/a-b/b"))
    ∷ asks 1 (step.Stat (codes "/a/b/h"))
    ∷ asks 1 step.Dentries
    ∷ asks 1 (step.Rename (codes "/a-b/b") (codes "/a-b/b/h"))
    ∷ []
    ) ≡ reply.Done ∷ reply.Done ∷ reply.Done ∷ reply.Opened (hold 1 1) (id 1 1) kind.Tmp ∷ reply.Opened (hold 1 2) (id 2 1) kind.Tmp ∷ reply.Done
    ∷ reply.SizeIs 0 ∷ reply.Done ∷ no errno.ENOENT ∷ reply.Done ∷ no errno.ENOTEMPTY ∷ reply.Done
    ∷ reply.Listing [] (folder (codes "a-b") ∷ [])
    ∷ reply.Listing (codes "a-b" ∷ codes "b" ∷ []) (file_entry (codes "h") (id 1 1) kind.Tmp ∷ [])
    ∷ no errno.ENOENT ∷ reply.Holders (at_path [] 9 ∷ at_path (codes "a-b" ∷ codes "b" ∷ codes "h" ∷ []) 1 ∷ []) ∷ no errno.EINVAL ∷ []
unfolding steps
rename_moves_all_below = refl

pub appends_interleave : bare_replies (
    asks 1 (step.Open (codes "/f") to_append)
    ∷ asks 2 (step.Open (codes "/f") to_append)
    ∷ asks 2 (step.Append (id 1 1) (codes "BB"))
    ∷ asks 1 (step.Append (id 1 1) (codes "AA"))
    ∷ asks 3 (step.Open (codes "/f") r)
    ∷ asks 3 (step.Read (id 1 1) 0 4096)
    ∷ asks 3 (step.Read (id 1 1) 4 4096)
    ∷ asks 3 (step.Close (hold 3 1))
    ∷ asks 1 (step.Close (hold 1 1))
    ∷ asks 2 (step.Close (hold 2 1))
    ∷ ends mark.Clear
    ∷ []
    ) ≡ reply.Opened (hold 1 1) (id 1 1) kind.Tmp ∷ reply.Opened (hold 2 1) (id 1 1) kind.Tmp ∷ reply.Count 2 2 ∷ reply.Count 2 4
    ∷ reply.Opened (hold 3 1) (id 1 1) kind.Tmp ∷ reply.Got (codes "BBAA") ∷ reply.Got [] ∷ reply.Done ∷ reply.Done ∷ reply.Done ∷ reply.Done ∷ []
unfolding steps
appends_interleave = refl

pub holders_are_counted_by_path : bare_replies (
    asks 1 (step.Mkdir (codes "/d"))
    ∷ asks 1 (step.Mkdir (codes "/m"))
    ∷ asks 1 (step.Mount (codes "none") (codes "/m") (codes "tmp"))
    ∷ asks 1 (step.Open (codes "/f") rw_creat)
    ∷ asks 2 (step.Open (codes "/f") r)
    ∷ asks 3 (step.Chdir (codes "/d"))
    ∷ asks 4 (step.Open (codes "/o") rw_creat)
    ∷ asks 4 (step.Unlink (codes "/o"))
    ∷ asks 1 step.Dentries
    ∷ []
    ) ≡ reply.Done ∷ reply.Done ∷ reply.Done ∷ reply.Opened (hold 1 1) (id 1 1) kind.Tmp ∷ reply.Opened (hold 2 1) (id 1 1) kind.Tmp
    ∷ reply.At (codes "d" ∷ []) ∷ reply.Opened (hold 4 1) (id 2 1) kind.Tmp ∷ reply.Done
    ∷ reply.Holders (at_path [] 8 ∷ at_path (codes "d" ∷ []) 1 ∷ at_path (codes "f" ∷ []) 2 ∷ at_path (codes "m" ∷ []) 1 ∷ at_row 2 1 ∷ [])
    ∷ []
unfolding steps
holders_are_counted_by_path = refl

pub rmdir_needs_an_empty_unused_folder : bare_replies (
    asks 1 (step.Mkdir (codes "/a"))
    ∷ asks 1 (step.Mkdir (codes "/a/b"))
    ∷ asks 1 (step.Rmdir (codes "/a"))
    ∷ asks 1 (step.Rmdir (codes "/a/b"))
    ∷ asks 1 (step.Chdir (codes "/a"))
    ∷ asks 1 (step.Rmdir (codes "."))
    ∷ asks 1 (step.Rmdir (codes "/"))
    ∷ asks 1 step.Home
    ∷ asks 1 (step.Rmdir (codes "/a"))
    ∷ asks 1 (step.Rmdir (codes "/a"))
    ∷ []
    ) ≡ reply.Done ∷ reply.Done ∷ no errno.ENOTEMPTY ∷ reply.Done ∷ reply.At (codes "a" ∷ []) ∷ no errno.EBUSY ∷ no errno.EBUSY ∷ reply.Done
    ∷ reply.Done ∷ no errno.ENOENT ∷ []
unfolding steps
rmdir_needs_an_empty_unused_folder = refl

pub mkdir_of_the_root_is_refused : bare_replies (
    asks 1 (step.Mkdir (codes "/"))
    ∷ asks 1 (step.Unlink (codes "/"))
    ∷ asks 1 (step.Umount (codes "/"))
    ∷ asks 1 (step.Mount (codes "x") (codes "/") (codes "tmp"))
    ∷ asks 1 (step.Mount (codes "x") (codes "/y") (codes "ext"))
    ∷ asks 1 (step.Umount (codes "/y"))
    ∷ asks 1 (step.Open (codes "/f") (flags 17))
    ∷ asks 1 (step.Open (codes "/") r)
    ∷ asks 1 (step.Open (codes "/f") (flags 9))
    ∷ asks 1 (step.Open (codes "/f") (flags 13))
    ∷ asks 1 (step.Open (codes "/f") (flags 13))
    ∷ asks 1 (step.Open (codes "/f") (flags 9))
    ∷ asks 1 (step.Stat (codes ""))
    ∷ []
    ) ≡ no errno.EEXIST ∷ no errno.EPERM ∷ no errno.EBUSY ∷ no errno.EBUSY ∷ no errno.ENODEV ∷ no errno.EINVAL ∷ no errno.EINVAL ∷ no errno.EISDIR
    ∷ no errno.ENOENT ∷ reply.Opened (hold 1 1) (id 1 1) kind.Tmp ∷ no errno.EEXIST ∷ reply.Opened (hold 1 2) (id 1 1) kind.Tmp ∷ no errno.ENOENT ∷ []
unfolding steps
mkdir_of_the_root_is_refused = refl

pub want_of_memory_at_the_end_leaves_the_mounts : bare_replies (
    asks 1 (step.Mkdir (codes "/a"))
    ∷ asks 1 (step.Mount (codes "x") (codes "/a") (codes "tmp"))
    ∷ ends (mark.NoMem 0)
    ∷ asks 1 (step.Umount (codes "/a"))
    ∷ ends mark.Clear
    ∷ asks 1 (step.List (codes "/"))
    ∷ []
    ) ≡ reply.Done ∷ reply.Done ∷ no errno.ENOMEM ∷ reply.Done ∷ reply.Done ∷ reply.Listing [] [] ∷ []
unfolding steps
want_of_memory_at_the_end_leaves_the_mounts = refl
