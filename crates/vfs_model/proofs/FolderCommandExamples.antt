-- Worked examples of the commands of folders and names.
use Rattle.std.specs.Prelude.{◌≡◌, List, [], ◌∷◌, ◌++◌, codes, decimal, map, refl}
use Rattle.vfs_base.specs.Path.{Path}
use Rattle.vfs_base.specs.declared.errno.Errno.TheVariants as errno
use Rattle.vfs_base.specs.declared.kinds.Kind.TheVariants as kind
use Rattle.vfs_base.specs.declared.kinds.NodeKind.TheVariants as node
use Rattle.vfs_base.specs.declared.reply.Reply.TheVariants as reply
use Rattle.vfs_base.specs.declared.step.Step.TheVariants as step
use Rattle.vfs_model.proofs.CommandRuns.{Posted, asks, ends, moments, nothing, posts, says, shell_after}
use Rattle.vfs_model.proofs.ExampleSteps.{file_entry, folder, id, no}
use Rattle.vfs_model.specs.Command.{opening_shell}
use Rattle.vfs_model.specs.CommandText.{line}

-- the folder `/a/b`
abbrev pub a_b : Path
a_b = codes "a" ∷ codes "b" ∷ []

pub folders_are_told : moments opening_shell (
    posts (codes "pwd") (reply.At a_b ∷ [])
    ∷ posts (codes "cd") (reply.At [] ∷ [])
    ∷ posts (codes "cd b/") (reply.At a_b ∷ [])
    ∷ posts (codes "cd /f") (no errno.ENOTDIR ∷ [])
    ∷ posts (codes "pwd") (no errno.ENOMEM ∷ [])
    ∷ posts (codes "cd") (no errno.ENOMEM ∷ [])
    ∷ posts (codes "pwd") (reply.Done ∷ [])
    ∷ []) ≡
    (asks step.Cwd ∷ says (codes "/a/b") ∷ [])
    ∷ (asks step.Cwd ∷ says (codes "/") ∷ [])
    ∷ (asks (step.Chdir (codes "b/")) ∷ nothing ∷ [])
    ∷ (asks (step.Chdir (codes "/f")) ∷ says (codes "cd: /f: ENOTDIR") ∷ [])
    ∷ (asks step.Cwd ∷ says (codes "pwd: ENOMEM") ∷ [])
    ∷ (asks step.Cwd ∷ says (codes "cd: ENOMEM") ∷ [])
    ∷ (asks step.Cwd ∷ nothing ∷ [])
    ∷ []
folders_are_told = refl

-- the folder in the prompt after each line
abbrev pub shown_after : List Posted → Path
shown_after lines = (shell_after opening_shell lines).shown

pub the_prompt_follows_the_last_at : map shown_after (
    []
    ∷ (posts (codes "cd a/b") (reply.At a_b ∷ []) ∷ [])
    ∷ (posts (codes "cd a/b") (reply.At a_b ∷ []) ∷ posts (codes "cd /f") (no errno.ENOTDIR ∷ []) ∷ [])
    ∷ (posts (codes "cd a/b") (reply.At a_b ∷ []) ∷ posts (codes "cd /") (reply.At [] ∷ []) ∷ [])
    ∷ (posts (codes "pwd") (reply.At a_b ∷ []) ∷ [])
    ∷ []) ≡ [] ∷ a_b ∷ a_b ∷ [] ∷ a_b ∷ []
the_prompt_follows_the_last_at = refl

-- names of 19, 20 and 21 bytes; a folder, files, one that has gone, and a character device
pub a_listing_has_columns : moments opening_shell (
    posts (codes "ls //d/.") (
    reply.Listing (codes "d" ∷ []) (
    file_entry (codes "a") (id 1 1) kind.Tmp
    ∷ folder (codes "nineteen bytes long")
    ∷ folder (codes "twenty bytes of name")
    ∷ file_entry (codes "twenty-one bytes name") (id 3 2) kind.Chr
    ∷ file_entry (codes "z") (id 4 1) kind.Cell
    ∷ [])
    ∷ reply.SizeIs 7 ∷ no errno.ENOENT ∷ [])
    ∷ []) ≡
    (asks (step.List (codes "//d/."))
    ∷ asks (step.Size (id 1 1))
    ∷ asks (step.Size (id 4 1))
    ∷ ends (
    line (codes "Directory /d:")
    ++ line (codes "a                   " ++ decimal 7)
    ++ line (codes "nineteen bytes long <DIR>")
    ++ line (codes "twenty bytes of name <DIR>")
    ++ line (codes "twenty-one bytes name <CHR>")
    ++ line (codes "z                   gone"))
    ∷ [])
    ∷ []
a_listing_has_columns = refl

pub a_listing_that_is_refused : moments opening_shell (
    posts (codes "ls") (no errno.EIO ∷ [])
    ∷ posts (codes "ls /f") (no errno.ENOTDIR ∷ [])
    ∷ posts (codes "ls /d") (
    reply.Listing (codes "d" ∷ []) (folder (codes "a") ∷ file_entry (codes "b") (id 1 1) kind.Rom ∷ folder (codes "c") ∷ [])
    ∷ no errno.ENOMEM ∷ [])
    ∷ posts (codes "ls") (reply.Listing [] [] ∷ [])
    ∷ []) ≡
    (asks (step.List (codes ".")) ∷ says (codes "ls: .: EIO") ∷ [])
    ∷ (asks (step.List (codes "/f")) ∷ says (codes "ls: /f: ENOTDIR") ∷ [])
    ∷ (asks (step.List (codes "/d"))
    ∷ asks (step.Size (id 1 1))
    ∷ ends (line (codes "Directory /d:") ++ line (codes "a                   <DIR>") ++ line (codes "ls: /d: ENOMEM"))
    ∷ [])
    ∷ (asks (step.List (codes ".")) ∷ says (codes "Directory /:") ∷ [])
    ∷ []
a_listing_that_is_refused = refl

pub names_are_made_and_taken : moments opening_shell (
    posts (codes "mkdir \"/x y/z\"") (no errno.ENOENT ∷ [])
    ∷ posts (codes "mkdir \"\"") (no errno.ENOENT ∷ [])
    ∷ posts (codes "mkdir /a") (reply.Done ∷ [])
    ∷ posts (codes "rmdir /a/") (reply.Done ∷ [])
    ∷ posts (codes "rmdir /b") (no errno.ENOTEMPTY ∷ [])
    ∷ posts (codes "mv /a b") (reply.Done ∷ [])
    ∷ posts (codes "mv /f /m/f") (no errno.EXDEV ∷ [])
    ∷ posts (codes "rm a b c") (reply.Done ∷ no errno.EPERM ∷ [])
    ∷ posts (codes "rm a b") (reply.Done ∷ reply.Done ∷ [])
    ∷ []) ≡
    (asks (step.Mkdir (codes "/x y/z")) ∷ says (codes "mkdir: /x y/z: ENOENT") ∷ [])
    ∷ (asks (step.Mkdir []) ∷ says (codes "mkdir: : ENOENT") ∷ [])
    ∷ (asks (step.Mkdir (codes "/a")) ∷ nothing ∷ [])
    ∷ (asks (step.Rmdir (codes "/a/")) ∷ nothing ∷ [])
    ∷ (asks (step.Rmdir (codes "/b")) ∷ says (codes "rmdir: /b: ENOTEMPTY") ∷ [])
    ∷ (asks (step.Rename (codes "/a") (codes "b")) ∷ nothing ∷ [])
    ∷ (asks (step.Rename (codes "/f") (codes "/m/f")) ∷ says (codes "mv: /f: EXDEV") ∷ [])
    ∷ (asks (step.Unlink (codes "a")) ∷ asks (step.Unlink (codes "b")) ∷ says (codes "rm: b: EPERM") ∷ [])
    ∷ (asks (step.Unlink (codes "a")) ∷ asks (step.Unlink (codes "b")) ∷ nothing ∷ [])
    ∷ []
names_are_made_and_taken = refl

-- the word is shown as it was typed
pub what_a_path_is : moments opening_shell (
    posts (codes "stat //d") (reply.Node node.Dir ∷ [])
    ∷ posts (codes "stat //f/") (reply.Node (node.File (id 1 1) kind.Tmp) ∷ reply.SizeIs 4 ∷ [])
    ∷ posts (codes "stat /g") (reply.Node (node.File (id 2 1) kind.Cell) ∷ no errno.ENOENT ∷ [])
    ∷ posts (codes "stat /u") (reply.Node (node.File (id 3 1) kind.Chr) ∷ [])
    ∷ posts (codes "stat /x") (no errno.ENOENT ∷ [])
    ∷ posts (codes "stat /r") (reply.Node (node.File (id 2 1) kind.Rom) ∷ no errno.ENOMEM ∷ [])
    ∷ []) ≡
    (asks (step.Stat (codes "//d")) ∷ says (codes "//d dir") ∷ [])
    ∷ (asks (step.Stat (codes "//f/")) ∷ asks (step.Size (id 1 1)) ∷ says (codes "//f/ file " ++ decimal 4) ∷ [])
    ∷ (asks (step.Stat (codes "/g")) ∷ asks (step.Size (id 2 1)) ∷ says (codes "/g gone") ∷ [])
    ∷ (asks (step.Stat (codes "/u")) ∷ says (codes "/u chr") ∷ [])
    ∷ (asks (step.Stat (codes "/x")) ∷ says (codes "stat: /x: ENOENT") ∷ [])
    ∷ (asks (step.Stat (codes "/r")) ∷ asks (step.Size (id 2 1)) ∷ says (codes "stat: /r: ENOMEM") ∷ [])
    ∷ []
what_a_path_is = refl
