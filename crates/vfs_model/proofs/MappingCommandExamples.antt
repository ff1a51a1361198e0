-- Worked examples of the commands of mappings.
use Rattle.std.specs.Prelude.{◌≡◌, ℕ, List, [], ◌∷◌, ◌++◌, codes, decimal, replicate, refl}
use Rattle.vfs_base.specs.declared.errno.Errno.TheVariants as errno
use Rattle.vfs_base.specs.declared.kinds.Kind.TheVariants as kind
use Rattle.vfs_base.specs.declared.reply.Reply.TheVariants as reply
use Rattle.vfs_base.specs.declared.step.Step.TheVariants as step
use Rattle.vfs_model.proofs.CommandRuns.{Moment, Posted, asks, gives_up, moments, nothing, posts, says, shell, shell_after}
use Rattle.vfs_model.proofs.ExampleSteps.{flags, hold, id, no, r, rw_creat}
use Rattle.vfs_model.proofs.FileCommandExamples.{opened, says_bytes, says_fd, says_number}
use Rattle.vfs_model.specs.Command.{opening_shell}

abbrev pub says_window : ℕ → Moment
says_window number = says (codes "window " ++ decimal number)

-- a mapping keeps a file that has lost its name and its descriptors; it goes also where the Unmap is refused
pub a_mapping_outlives_name_and_descriptor : moments opening_shell (
    posts (codes "open /f rw,creat") (opened 1 kind.Tmp ∷ [])
    ∷ posts (codes "write 3 hello") (reply.Count 5 5 ∷ [])
    ∷ posts (codes "mmap 3 0 5 rw") (reply.Held (hold 1 2) ∷ [])
    ∷ posts (codes "rm /f") (reply.Done ∷ [])
    ∷ posts (codes "close 3") (reply.Done ∷ [])
    ∷ posts (codes "mstore 1 0 J") (reply.Count 1 1 ∷ [])
    ∷ posts (codes "mload 1 0 5") (reply.Got (codes "Jello") ∷ [])
    ∷ posts (codes "mload 1 5 0") (reply.Got [] ∷ [])
    ∷ posts (codes "msync 1") (reply.Done ∷ [])
    ∷ posts (codes "munmap 1") (no errno.ENOMEM ∷ [])
    ∷ posts (codes "munmap 1") []
    ∷ posts (codes "mload 1 0 5") []
    ∷ []) ≡
    (asks (step.Open (codes "/f") rw_creat) ∷ says_fd 3 ∷ [])
    ∷ (asks (step.Write (id 1 1) 0 (codes "hello")) ∷ says_number 5 ∷ [])
    ∷ (asks (step.Map (hold 1 1)) ∷ says_window 1 ∷ [])
    ∷ (asks (step.Unlink (codes "/f")) ∷ nothing ∷ [])
    ∷ (gives_up (step.Close (hold 1 1)) ∷ nothing ∷ [])
    ∷ (asks (step.Store (id 1 1) 0 (codes "J")) ∷ says_number 1 ∷ [])
    ∷ (asks (step.Load (id 1 1) 0 5) ∷ says_bytes 5 (codes "Jello") ∷ [])
    ∷ (asks (step.Load (id 1 1) 5 0) ∷ says_bytes 0 [] ∷ [])
    ∷ (asks (step.Sync (id 1 1)) ∷ nothing ∷ [])
    ∷ (gives_up (step.Unmap (hold 1 2)) ∷ says (codes "munmap: 1: ENOMEM") ∷ [])
    ∷ (says (codes "munmap: 1: EINVAL") ∷ [])
    ∷ (says (codes "mload: 1: EINVAL") ∷ [])
    ∷ []
unfolding shell
a_mapping_outlives_name_and_descriptor = refl

-- a part that begins at the second page; its offsets are counted from there
pub a_mapping_is_a_part : moments opening_shell (
    posts (codes "open /f rw") (opened 1 kind.Cell ∷ [])
    ∷ posts (codes "mmap 3 4096 12288 rw") (reply.Held (hold 1 2) ∷ [])
    ∷ posts (codes "mload 1 8191 2") (no errno.EFAULT ∷ [])
    ∷ posts (codes "mload 1 12287 1") (reply.Got (0 ∷ []) ∷ [])
    ∷ posts (codes "mload 1 12288 1") []
    ∷ posts (codes "mload 1 12288 0") (reply.Got [] ∷ [])
    ∷ posts (codes "mload 1 0 65537") []
    ∷ posts (codes "mload 01 0 12289") []
    ∷ posts (codes "mstore 1 12287 ab") []
    ∷ posts (codes "mstore 1 12286 ab") (no errno.EIO ∷ [])
    ∷ posts (codes "msync 1") (no errno.EIO ∷ [])
    ∷ []) ≡
    (asks (step.Open (codes "/f") (flags 3)) ∷ says_fd 3 ∷ [])
    ∷ (asks (step.Map (hold 1 1)) ∷ says_window 1 ∷ [])
    ∷ (asks (step.Load (id 1 1) 12287 2) ∷ says (codes "mload: 1: EFAULT") ∷ [])
    ∷ (asks (step.Load (id 1 1) 16383 1) ∷ says_bytes 1 (codes "\\x00") ∷ [])
    ∷ (says (codes "mload: 1: EFAULT") ∷ [])
    ∷ (asks (step.Load (id 1 1) 16384 0) ∷ says_bytes 0 [] ∷ [])
    ∷ (says (codes "mload: 1: EINVAL") ∷ [])
    ∷ (says (codes "mload: 01: EFAULT") ∷ [])
    ∷ (says (codes "mstore: 1: EFAULT") ∷ [])
    ∷ (asks (step.Store (id 1 1) 16382 (codes "ab")) ∷ says (codes "mstore: 1: EIO") ∷ [])
    ∷ (asks (step.Sync (id 1 1)) ∷ says (codes "msync: 1: EIO") ∷ [])
    ∷ []
unfolding shell
a_mapping_is_a_part = refl

-- of two refusals the first in the order of the checks is shown
pub refusals_of_mappings_stand_in_order : moments opening_shell (
    posts (codes "open /f r") (opened 1 kind.Tmp ∷ [])
    ∷ posts (codes "open /g w") (opened 2 kind.Tmp ∷ [])
    ∷ posts (codes "open /u w") (opened 3 kind.Chr ∷ [])
    ∷ posts (codes "mmap 9 1 0 r") []
    ∷ posts (codes "mmap 5 1 9223372036854775807 r") []
    ∷ posts (codes "mmap 5 0 0 r") []
    ∷ posts (codes "mmap 5 4096 9223372036854775807 r") []
    ∷ posts (codes "mmap 5 0 1 r") []
    ∷ posts (codes "mmap 4 0 1 r") []
    ∷ posts (codes "mmap 3 0 1 rw") []
    ∷ posts (codes "mmap 3 0 9223372036854775807 r") (no errno.EMFILE ∷ [])
    ∷ posts (codes "mmap 3 0 4 r") (reply.Held (hold 1 4) ∷ [])
    ∷ posts (codes "mstore 1 4 a") []
    ∷ posts (codes "mload 1 4 1") []
    ∷ []) ≡
    (asks (step.Open (codes "/f") r) ∷ says_fd 3 ∷ [])
    ∷ (asks (step.Open (codes "/g") (flags 2)) ∷ says_fd 4 ∷ [])
    ∷ (asks (step.Open (codes "/u") (flags 2)) ∷ says_fd 5 ∷ [])
    ∷ (says (codes "mmap: 9: EBADF") ∷ [])
    ∷ (says (codes "mmap: 5: EINVAL") ∷ [])
    ∷ (says (codes "mmap: 5: EINVAL") ∷ [])
    ∷ (says (codes "mmap: 5: EOVERFLOW") ∷ [])
    ∷ (says (codes "mmap: 5: ENODEV") ∷ [])
    ∷ (says (codes "mmap: 4: EACCES") ∷ [])
    ∷ (says (codes "mmap: 3: EACCES") ∷ [])
    ∷ (asks (step.Map (hold 1 1)) ∷ says (codes "mmap: 3: EMFILE") ∷ [])
    ∷ (asks (step.Map (hold 1 1)) ∷ says_window 1 ∷ [])
    ∷ (says (codes "mstore: 1: EACCES") ∷ [])
    ∷ (says (codes "mload: 1: EFAULT") ∷ [])
    ∷ []
unfolding shell
refusals_of_mappings_stand_in_order = refl

-- eight mappings of one file
abbrev pub eight : List Posted
eight = posts (codes "open /f r") (opened 1 kind.Tmp ∷ []) ∷ replicate 8 (posts (codes "mmap 3 0 1 r") (reply.Held (hold 1 2) ∷ []))

pub mappings_run_out : moments (shell_after opening_shell eight) (
    posts (codes "mmap 3 0 1 rw") []
    ∷ posts (codes "mmap 3 0 1 r") []
    ∷ posts (codes "munmap 5") (reply.Done ∷ [])
    ∷ posts (codes "mmap 3 0 1 r") (reply.Held (hold 1 9) ∷ [])
    ∷ posts (codes "munmap 9") []
    ∷ []) ≡
    (says (codes "mmap: 3: EACCES") ∷ [])
    ∷ (says (codes "mmap: 3: EMFILE") ∷ [])
    ∷ (gives_up (step.Unmap (hold 1 2)) ∷ nothing ∷ [])
    ∷ (asks (step.Map (hold 1 1)) ∷ says_window 5 ∷ [])
    ∷ (says (codes "munmap: 9: EINVAL") ∷ [])
    ∷ []
unfolding shell
mappings_run_out = refl
