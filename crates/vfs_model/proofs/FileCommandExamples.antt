-- Worked examples of the commands of open files.
use Rattle.std.specs.Prelude.{◌≡◌, ℕ, List, [], ◌∷◌, ◌++◌, codes, decimal, replicate, refl}
use Rattle.vfs_base.specs.declared.errno.Errno.TheVariants as errno
use Rattle.vfs_base.specs.declared.kinds.Kind.{Kind}
use Rattle.vfs_base.specs.declared.kinds.Kind.TheVariants as kind
use Rattle.vfs_base.specs.declared.reply.Reply.{Reply}
use Rattle.vfs_base.specs.declared.reply.Reply.TheVariants as reply
use Rattle.vfs_base.specs.declared.step.Step.TheVariants as step
use Rattle.vfs_model.proofs.CommandRuns.{Moment, Posted, asks, ends, gives_up, holds, moments, nothing, posts, says, shell, shell_after}
use Rattle.vfs_model.proofs.ExampleSteps.{flags, hold, id, no, r, rw_creat}
use Rattle.vfs_model.specs.Command.{opening_shell}
use Rattle.vfs_model.specs.CommandText.{line}

-- an opened file of this kind, in the slot and under the reference of one number
abbrev pub opened : ℕ → Kind → Reply
opened number kind = reply.Opened (hold 1 number) (id number 1) kind

-- a descriptor's line, with this number
abbrev pub says_fd : ℕ → Moment
says_fd fd = says (codes "fd " ++ decimal fd)

abbrev pub says_number : ℕ → Moment
says_number n = says (decimal n)

-- how many bytes came, and how they are shown
abbrev pub says_bytes : ℕ → List ℕ → Moment
says_bytes n shown = says (decimal n ++ codes ":" ++ shown)

pub a_file_is_written_and_read : moments opening_shell (
    posts (codes "open /f rw,creat") (opened 1 kind.Tmp ∷ [])
    ∷ posts (codes "write 3 hi") (reply.Count 2 2 ∷ [])
    ∷ posts (codes "write 3 ab 3") (reply.Count 6 8 ∷ [])
    ∷ posts (codes "write 3 \"\"") (reply.Count 0 8 ∷ [])
    ∷ posts (codes "write 3 ab 0") (reply.Count 0 8 ∷ [])
    ∷ posts (codes "lseek 3 1 set") []
    ∷ posts (codes "read 3 3") (reply.Got (105 ∷ 0 ∷ 92 ∷ []) ∷ [])
    ∷ posts (codes "lseek 3 -2 cur") []
    ∷ posts (codes "lseek 3 -1 end") (reply.SizeIs 8 ∷ [])
    ∷ posts (codes "read 3 9") (reply.Got [] ∷ [])
    ∷ posts (codes "ftruncate 3 1") (reply.Done ∷ [])
    ∷ posts (codes "fsync 3") (reply.Done ∷ [])
    ∷ posts (codes "close 3") (reply.Done ∷ [])
    ∷ posts (codes "close 3") []
    ∷ []) ≡
    (asks (step.Open (codes "/f") rw_creat) ∷ says_fd 3 ∷ [])
    ∷ (asks (step.Write (id 1 1) 0 (codes "hi")) ∷ says_number 2 ∷ [])
    ∷ (asks (step.Write (id 1 1) 2 (codes "ababab")) ∷ says_number 6 ∷ [])
    ∷ (asks (step.Write (id 1 1) 8 []) ∷ says_number 0 ∷ [])
    ∷ (asks (step.Write (id 1 1) 8 []) ∷ says_number 0 ∷ [])
    ∷ (says_number 1 ∷ [])
    ∷ (asks (step.Read (id 1 1) 1 3) ∷ says_bytes 3 (codes "i\\x00\\\\") ∷ [])
    ∷ (says_number 2 ∷ [])
    ∷ (asks (step.Size (id 1 1)) ∷ says_number 7 ∷ [])
    ∷ (asks (step.Read (id 1 1) 7 9) ∷ says_bytes 0 [] ∷ [])
    ∷ (asks (step.Trunc (id 1 1) 1) ∷ nothing ∷ [])
    ∷ (asks (step.Sync (id 1 1)) ∷ nothing ∷ [])
    ∷ (gives_up (step.Close (hold 1 1)) ∷ nothing ∷ [])
    ∷ (says (codes "close: 3: EBADF") ∷ [])
    ∷ []
unfolding shell
a_file_is_written_and_read = refl

-- a short write leaves the place behind what was written
pub appended_bytes_go_to_the_end : moments opening_shell (
    posts (codes "open /f rw,append") (opened 1 kind.Cell ∷ [])
    ∷ posts (codes "write 3 abc") (reply.Count 2 9 ∷ [])
    ∷ posts (codes "write 3 \"\"") (reply.Count 0 12 ∷ [])
    ∷ posts (codes "lseek 3 0 cur") []
    ∷ []) ≡
    (asks (step.Open (codes "/f") (flags 35)) ∷ says_fd 3 ∷ [])
    ∷ (asks (step.Append (id 1 1) (codes "abc")) ∷ says_number 2 ∷ [])
    ∷ (asks (step.Append (id 1 1) []) ∷ says_number 0 ∷ [])
    ∷ (says_number 12 ∷ [])
    ∷ []
unfolding shell
appended_bytes_go_to_the_end = refl

-- a Trunc is asked for files in memory and on cells alone; where it is refused the file is closed again and gets no
-- descriptor
pub an_opened_file_is_cut : moments opening_shell (
    posts (codes "open /f rw,creat,trunc") (opened 1 kind.Tmp ∷ reply.Done ∷ [])
    ∷ posts (codes "open /g w,trunc") (opened 2 kind.Cell ∷ no errno.ENOMEM ∷ reply.Done ∷ [])
    ∷ posts (codes "open /h w,trunc") (opened 3 kind.Cell ∷ no errno.EIO ∷ no errno.ENOMEM ∷ [])
    ∷ posts (codes "open /u w,trunc") (opened 4 kind.Chr ∷ [])
    ∷ posts (codes "close 4") (reply.Done ∷ [])
    ∷ posts (codes "open /f r,trunc") (no errno.EINVAL ∷ [])
    ∷ posts (codes "open /x r") (no errno.ENOENT ∷ [])
    ∷ []) ≡
    (asks (step.Open (codes "/f") (flags 23)) ∷ holds (hold 1 1 ∷ []) (step.Trunc (id 1 1) 0) ∷ says_fd 3 ∷ [])
    ∷ (asks (step.Open (codes "/g") (flags 18))
    ∷ holds (hold 1 2 ∷ []) (step.Trunc (id 2 1) 0)
    ∷ gives_up (step.Close (hold 1 2))
    ∷ says (codes "open: /g: ENOMEM")
    ∷ [])
    ∷ (asks (step.Open (codes "/h") (flags 18))
    ∷ holds (hold 1 3 ∷ []) (step.Trunc (id 3 1) 0)
    ∷ gives_up (step.Close (hold 1 3))
    ∷ ends (line (codes "open: /h: EIO") ++ line (codes "open: /h: ENOMEM"))
    ∷ [])
    ∷ (asks (step.Open (codes "/u") (flags 18)) ∷ says_fd 4 ∷ [])
    ∷ (gives_up (step.Close (hold 1 4)) ∷ nothing ∷ [])
    ∷ (asks (step.Open (codes "/f") (flags 17)) ∷ says (codes "open: /f: EINVAL") ∷ [])
    ∷ (asks (step.Open (codes "/x") r) ∷ says (codes "open: /x: ENOENT") ∷ [])
    ∷ []
unfolding shell
an_opened_file_is_cut = refl

-- descriptors of one open file share its place, and the last one closes it; it goes also where the Close is refused
pub dup_shares_the_place : moments opening_shell (
    posts (codes "open /f r") (opened 1 kind.Tmp ∷ [])
    ∷ posts (codes "dup 3") []
    ∷ posts (codes "read 3 4") (reply.Got (codes "abcd") ∷ [])
    ∷ posts (codes "lseek 4 0 cur") []
    ∷ posts (codes "close 3") []
    ∷ posts (codes "lseek 4 1 cur") []
    ∷ posts (codes "dup 4") []
    ∷ posts (codes "lseek 3 0 cur") []
    ∷ posts (codes "close 4") []
    ∷ posts (codes "close 3") (no errno.ENOMEM ∷ [])
    ∷ posts (codes "close 3") []
    ∷ posts (codes "dup 3") []
    ∷ []) ≡
    (asks (step.Open (codes "/f") r) ∷ says_fd 3 ∷ [])
    ∷ (says_fd 4 ∷ [])
    ∷ (asks (step.Read (id 1 1) 0 4) ∷ says_bytes 4 (codes "abcd") ∷ [])
    ∷ (says_number 4 ∷ [])
    ∷ (nothing ∷ [])
    ∷ (says_number 5 ∷ [])
    ∷ (says_fd 3 ∷ [])
    ∷ (says_number 5 ∷ [])
    ∷ (nothing ∷ [])
    ∷ (gives_up (step.Close (hold 1 1)) ∷ says (codes "close: 3: ENOMEM") ∷ [])
    ∷ (says (codes "close: 3: EBADF") ∷ [])
    ∷ (says (codes "dup: 3: EBADF") ∷ [])
    ∷ []
unfolding shell
dup_shares_the_place = refl

-- of two refusals the first in the order of the checks is shown
pub refusals_stand_in_order : moments opening_shell (
    posts (codes "open /f w") (opened 1 kind.Tmp ∷ [])
    ∷ posts (codes "open /g r") (opened 2 kind.Cell ∷ [])
    ∷ posts (codes "open /u r") (opened 3 kind.Chr ∷ [])
    ∷ posts (codes "read 3 65537") []
    ∷ posts (codes "read 4 65537") []
    ∷ posts (codes "read 4 65536") (no errno.EIO ∷ [])
    ∷ posts (codes "write 4 a 1048577") []
    ∷ posts (codes "write 3 a 1048577") []
    ∷ posts (codes "write 3 ab 9223372036854775807") []
    ∷ posts (codes "write 3 a") (no errno.EFBIG ∷ [])
    ∷ posts (codes "ftruncate 4 9223372036854775807") []
    ∷ posts (codes "ftruncate 3 4194305") (no errno.EFBIG ∷ [])
    ∷ posts (codes "lseek 5 -1 set") []
    ∷ posts (codes "lseek 5 0 end") []
    ∷ posts (codes "lseek 4 -1 set") []
    ∷ posts (codes "lseek 4 9223372036854775807 set") []
    ∷ posts (codes "lseek 4 1 cur") []
    ∷ posts (codes "lseek 4 0 end") (no errno.ENOENT ∷ [])
    ∷ posts (codes "lseek 4 -8 end") (reply.SizeIs 7 ∷ [])
    ∷ posts (codes "fsync 5") (no errno.EINVAL ∷ [])
    ∷ []) ≡
    (asks (step.Open (codes "/f") (flags 2)) ∷ says_fd 3 ∷ [])
    ∷ (asks (step.Open (codes "/g") r) ∷ says_fd 4 ∷ [])
    ∷ (asks (step.Open (codes "/u") r) ∷ says_fd 5 ∷ [])
    ∷ (says (codes "read: 3: EBADF") ∷ [])
    ∷ (says (codes "read: 4: EINVAL") ∷ [])
    ∷ (asks (step.Read (id 2 1) 0 65536) ∷ says (codes "read: 4: EIO") ∷ [])
    ∷ (says (codes "write: 4: EBADF") ∷ [])
    ∷ (says (codes "write: 3: EINVAL") ∷ [])
    ∷ (says (codes "write: 3: EINVAL") ∷ [])
    ∷ (asks (step.Write (id 1 1) 0 (codes "a")) ∷ says (codes "write: 3: EFBIG") ∷ [])
    ∷ (says (codes "ftruncate: 4: EINVAL") ∷ [])
    ∷ (asks (step.Trunc (id 1 1) 4194305) ∷ says (codes "ftruncate: 3: EFBIG") ∷ [])
    ∷ (says (codes "lseek: 5: ESPIPE") ∷ [])
    ∷ (says (codes "lseek: 5: ESPIPE") ∷ [])
    ∷ (says (codes "lseek: 4: EINVAL") ∷ [])
    ∷ (says_number 9223372036854775807 ∷ [])
    ∷ (says (codes "lseek: 4: EOVERFLOW") ∷ [])
    ∷ (asks (step.Size (id 2 1)) ∷ says (codes "lseek: 4: ENOENT") ∷ [])
    ∷ (asks (step.Size (id 2 1)) ∷ says (codes "lseek: 4: EINVAL") ∷ [])
    ∷ (asks (step.Sync (id 3 1)) ∷ says (codes "fsync: 5: EINVAL") ∷ [])
    ∷ []
unfolding shell
refusals_stand_in_order = refl

-- the place of a character device stays 0
pub a_character_device_has_no_place : moments opening_shell (
    posts (codes "open /u rw") (opened 1 kind.Chr ∷ [])
    ∷ posts (codes "read 3 4") (reply.Got (codes "ab") ∷ [])
    ∷ posts (codes "write 3 abc") (reply.Count 3 0 ∷ [])
    ∷ posts (codes "read 3 4") (reply.Got [] ∷ [])
    ∷ []) ≡
    (asks (step.Open (codes "/u") (flags 3)) ∷ says_fd 3 ∷ [])
    ∷ (asks (step.Read (id 1 1) 0 4) ∷ says_bytes 2 (codes "ab") ∷ [])
    ∷ (asks (step.Write (id 1 1) 0 (codes "abc")) ∷ says_number 3 ∷ [])
    ∷ (asks (step.Read (id 1 1) 0 4) ∷ says_bytes 0 [] ∷ [])
    ∷ []
unfolding shell
a_character_device_has_no_place = refl

-- sixteen files are open: no descriptor is free, which comes before the path
abbrev pub sixteen : List Posted
sixteen = replicate 16 (posts (codes "open /f r") (opened 1 kind.Tmp ∷ []))

pub descriptors_run_out : moments (shell_after opening_shell sixteen) (
    posts (codes "open /absent r") []
    ∷ posts (codes "dup 18") []
    ∷ posts (codes "dup 19") []
    ∷ posts (codes "close 7") (reply.Done ∷ [])
    ∷ posts (codes "dup 18") []
    ∷ posts (codes "close 7") []
    ∷ posts (codes "open /f r") (opened 2 kind.Tmp ∷ [])
    ∷ []) ≡
    (says (codes "open: /absent: EMFILE") ∷ [])
    ∷ (says (codes "dup: 18: EMFILE") ∷ [])
    ∷ (says (codes "dup: 19: EBADF") ∷ [])
    ∷ (gives_up (step.Close (hold 1 1)) ∷ nothing ∷ [])
    ∷ (says_fd 7 ∷ [])
    ∷ (nothing ∷ [])
    ∷ (asks (step.Open (codes "/f") r) ∷ says_fd 7 ∷ [])
    ∷ []
unfolding shell
descriptors_run_out = refl

-- a place stops at the greatest one
pub the_greatest_place : moments opening_shell (
    posts (codes "open /f rw") (opened 1 kind.Tmp ∷ [])
    ∷ posts (codes "write 3 a") (reply.Count 1 9223372036855824384 ∷ [])
    ∷ posts (codes "read 3 2") (reply.Got (codes "ab") ∷ [])
    ∷ posts (codes "lseek 3 0 cur") []
    ∷ posts (codes "lseek 3 -1048577 cur") []
    ∷ []) ≡
    (asks (step.Open (codes "/f") (flags 3)) ∷ says_fd 3 ∷ [])
    ∷ (asks (step.Write (id 1 1) 0 (codes "a")) ∷ says_number 1 ∷ [])
    ∷ (asks (step.Read (id 1 1) 9223372036855824384 2) ∷ says_bytes 2 (codes "ab") ∷ [])
    ∷ (says (codes "lseek: 3: EOVERFLOW") ∷ [])
    ∷ (says_number 9223372036854775807 ∷ [])
    ∷ []
unfolding shell
the_greatest_place = refl
