-- Worked examples of lines: words, numbers, usage, shown bytes, and what is no command.
use Rattle.std.specs.Prelude.{◌≡◌, ℕ, ◌^◌, ◌-◌, pos, negsuc, Some, None, List, [], ◌∷◌, ◌++◌, codes, map, refl}
use Rattle.vfs_model.proofs.CommandRuns.{Moment, moments_from, nothing, says, shell}
use Rattle.vfs_model.proofs.ExampleSteps.{flags}
use Rattle.vfs_model.specs.Command.{opening_shell}
use Rattle.vfs_model.specs.CommandText.{line, shown_bytes, whole_lines}
use Rattle.vfs_model.specs.CommandWords.{flags_of, number_of, offset_of}

-- what the first moment of a line is, on a shell at the start
abbrev pub first : List ℕ → List Moment
first text = moments_from opening_shell text [] []

pub bytes_are_shown : shown_bytes (0 ∷ 31 ∷ 32 ∷ 65 ∷ 92 ∷ 126 ∷ 127 ∷ 171 ∷ 255 ∷ [])
    ≡ codes "\\x00\\x1f A\\\\~\\x7f\\xab\\xff"
unfolding shell
bytes_are_shown = refl

pub a_text_ends_its_line : map whole_lines ([] ∷ codes "a" ∷ line (codes "a") ∷ (10 ∷ []) ∷ [])
    ≡ [] ∷ line (codes "a") ∷ line (codes "a") ∷ (10 ∷ []) ∷ []
a_text_ends_its_line = refl

pub numbers_are_read : map number_of (
    codes "0" ∷ codes "007" ∷ codes "0000000000000000012" ∷ codes "00000000000000000012" ∷ codes "9223372036854775807"
    ∷ codes "9223372036854775808" ∷ codes "+1" ∷ codes "-1" ∷ codes "1a" ∷ [] ∷ [])
    ≡ Some 0 ∷ Some 7 ∷ Some 12 ∷ None ∷ Some (2 ^ 63 - 1) ∷ None ∷ None ∷ None ∷ None ∷ None ∷ []
numbers_are_read = refl

pub offsets_are_read : map offset_of (
    codes "5" ∷ codes "-5" ∷ codes "-0" ∷ codes "+1" ∷ codes "-" ∷ codes "--1" ∷ codes "-9223372036854775808" ∷ [] ∷ [])
    ≡ Some (pos 5) ∷ Some (negsuc 4) ∷ Some (pos 0) ∷ None ∷ None ∷ None ∷ None ∷ None ∷ []
offsets_are_read = refl

pub flags_are_read : map flags_of (
    codes "r" ∷ codes "w" ∷ codes "rw" ∷ codes "rw,creat" ∷ codes "w,append,trunc,excl,creat" ∷ codes "r,trunc"
    ∷ codes "creat" ∷ codes "rw,creat,creat" ∷ codes "r,w" ∷ codes "rw," ∷ codes ",r" ∷ codes "R" ∷ [] ∷ [])
    ≡ Some (flags 1) ∷ Some (flags 2) ∷ Some (flags 3) ∷ Some (flags 7) ∷ Some (flags 62) ∷ Some (flags 17)
    ∷ None ∷ None ∷ None ∷ None ∷ None ∷ None ∷ None ∷ []
flags_are_read = refl

pub what_is_no_command : map first (
    [] ∷ codes " " ∷ (9 ∷ []) ∷ codes "make coffee" ∷ codes "LS" ∷ codes "\"\"" ∷ codes "ls \"" ∷ (codes "ls " ++ 0 ∷ [])
    ∷ codes "rm a b c d e f g h i j" ∷ [])
    ≡ (nothing ∷ []) ∷ (nothing ∷ []) ∷ (nothing ∷ [])
    ∷ (says (codes "make: command not found.") ∷ [])
    ∷ (says (codes "LS: command not found.") ∷ [])
    ∷ (says (codes ": command not found.") ∷ [])
    ∷ (says (codes "msh: bad line") ∷ [])
    ∷ (says (codes "msh: bad line") ∷ [])
    ∷ (says (codes "msh: bad line") ∷ [])
    ∷ []
what_is_no_command = refl

pub help_names_each_command : first (codes "help")
    ≡ says (codes "cat cd close cp dentries df dup echo fsync ftruncate help list_device ls lseek mkdir mkfs mload mmap mount mstore msync munmap mv open pwd read rm rmdir stat sync umount write")
    ∷ []
help_names_each_command = refl

pub wrong_words_show_the_form : map first (
    codes "pwd x" ∷ codes "cd a b" ∷ codes "ls a b" ∷ codes "mkdir" ∷ codes "rmdir a b" ∷ codes "rm" ∷ codes "mv a"
    ∷ codes "cp a b c" ∷ codes "cat" ∷ codes "echo a b c" ∷ codes "stat" ∷ codes "mount a b" ∷ codes "umount -f /m"
    ∷ codes "mkfs" ∷ codes "df x" ∷ codes "list_device x" ∷ codes "dentries x" ∷ codes "sync x" ∷ codes "help x"
    ∷ codes "open /f" ∷ codes "read 3" ∷ codes "write 3" ∷ codes "lseek 3 0" ∷ codes "dup" ∷ codes "ftruncate 3"
    ∷ codes "fsync" ∷ codes "close" ∷ codes "mmap 3 0 1" ∷ codes "mload 1 0" ∷ codes "mstore 1 0" ∷ codes "msync"
    ∷ codes "munmap" ∷ codes "mount a b c d" ∷ [])
    ≡ map (λ form. says (codes "usage: " ++ form) ∷ []) (
    codes "pwd" ∷ codes "cd [PATH]" ∷ codes "ls [PATH]" ∷ codes "mkdir PATH" ∷ codes "rmdir PATH" ∷ codes "rm PATH.."
    ∷ codes "mv OLD NEW" ∷ codes "cp SRC DST" ∷ codes "cat PATH.." ∷ codes "echo [TEXT [FILE]]" ∷ codes "stat PATH"
    ∷ codes "mount SOURCE POINT TYPE" ∷ codes "umount POINT" ∷ codes "mkfs VOLUME" ∷ codes "df" ∷ codes "list_device"
    ∷ codes "dentries" ∷ codes "sync" ∷ codes "help" ∷ codes "open PATH FLAGS" ∷ codes "read FD N"
    ∷ codes "write FD TEXT [COUNT]" ∷ codes "lseek FD OFF set|cur|end" ∷ codes "dup FD" ∷ codes "ftruncate FD LEN"
    ∷ codes "fsync FD" ∷ codes "close FD" ∷ codes "mmap FD OFF LEN r|rw" ∷ codes "mload W OFF LEN"
    ∷ codes "mstore W OFF TEXT" ∷ codes "msync W" ∷ codes "munmap W" ∷ codes "mount SOURCE POINT TYPE" ∷ [])
wrong_words_show_the_form = refl

-- the form of the words comes before what the descriptor is
pub words_of_a_wrong_form : map first (
    codes "read 9 x" ∷ codes "read 9 1" ∷ codes "open /f x" ∷ codes "write 9 a -1" ∷ codes "lseek 9 0 top"
    ∷ codes "lseek 9 +1 set" ∷ codes "dup x" ∷ codes "ftruncate 9 -1" ∷ codes "fsync 3x" ∷ codes "close -3"
    ∷ codes "mmap 9 0 1 w" ∷ codes "mload 9 x 1" ∷ codes "mstore x 0 a" ∷ codes "msync x" ∷ codes "munmap x" ∷ [])
    ≡ map (λ text. says text ∷ []) (
    codes "usage: read FD N" ∷ codes "read: 9: EBADF" ∷ codes "usage: open PATH FLAGS" ∷ codes "usage: write FD TEXT [COUNT]"
    ∷ codes "usage: lseek FD OFF set|cur|end" ∷ codes "usage: lseek FD OFF set|cur|end" ∷ codes "usage: dup FD"
    ∷ codes "usage: ftruncate FD LEN" ∷ codes "usage: fsync FD" ∷ codes "usage: close FD" ∷ codes "usage: mmap FD OFF LEN r|rw"
    ∷ codes "usage: mload W OFF LEN" ∷ codes "usage: mstore W OFF TEXT" ∷ codes "usage: msync W" ∷ codes "usage: munmap W" ∷ [])
words_of_a_wrong_form = refl

-- a descriptor or a mapping that is not there
pub what_is_not_open : map first (
    codes "read 3 1" ∷ codes "write 0 a" ∷ codes "lseek 3 0 end" ∷ codes "dup 19" ∷ codes "ftruncate 2 0" ∷ codes "fsync 03"
    ∷ codes "close 9223372036854775807" ∷ codes "mmap 3 0 0 r" ∷ codes "mload 0 0 1" ∷ codes "mload 9 0 65537"
    ∷ codes "mstore 1 0 a" ∷ codes "msync 8" ∷ codes "munmap 0" ∷ [])
    ≡ map (λ text. says text ∷ []) (
    codes "read: 3: EBADF" ∷ codes "write: 0: EBADF" ∷ codes "lseek: 3: EBADF" ∷ codes "dup: 19: EBADF"
    ∷ codes "ftruncate: 2: EBADF" ∷ codes "fsync: 03: EBADF" ∷ codes "close: 9223372036854775807: EBADF" ∷ codes "mmap: 3: EBADF"
    ∷ codes "mload: 0: EINVAL" ∷ codes "mload: 9: EINVAL" ∷ codes "mstore: 1: EINVAL" ∷ codes "msync: 8: EINVAL"
    ∷ codes "munmap: 0: EINVAL" ∷ [])
unfolding shell
what_is_not_open = refl
