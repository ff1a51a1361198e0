-- Worked examples of the commands that move whole files.
use Rattle.std.specs.Prelude.{◌≡◌, ℕ, List, [], ◌∷◌, ◌++◌, codes, map, refl}
use Rattle.vfs_base.specs.declared.errno.Errno.TheVariants as errno
use Rattle.vfs_base.specs.declared.kinds.Kind.{Kind}
use Rattle.vfs_base.specs.declared.kinds.Kind.TheVariants as kind
use Rattle.vfs_base.specs.declared.reply.Reply.{Reply}
use Rattle.vfs_base.specs.declared.reply.Reply.TheVariants as reply
use Rattle.vfs_base.specs.declared.step.Step.{Step}
use Rattle.vfs_base.specs.declared.step.Step.TheVariants as step
use Rattle.vfs_model.proofs.CommandRuns.{Moment, asks, ends, holds, moments, nothing, posts, says}
use Rattle.vfs_model.proofs.ExampleSteps.{flags, hold, id, no, r, to_append}
use Rattle.vfs_model.specs.Command.{opening_shell}
use Rattle.vfs_model.specs.CommandText.{line}

-- the file of a slot is open, under the reference of this number
abbrev pub opened : ℕ → ℕ → Kind → Reply
opened number slot kind = reply.Opened (hold 1 number) (id slot 1) kind

abbrev pub asks_open : List ℕ → Moment
asks_open path = asks (step.Open path r)

-- steps of the file in the first slot, while its reference is the first
abbrev pub asks_read : ℕ → Moment
asks_read off = holds (hold 1 1 ∷ []) (step.Read (id 1 1) off 4096)

abbrev pub asks_append : List ℕ → Moment
asks_append bytes = holds (hold 1 1 ∷ []) (step.Append (id 1 1) bytes)

abbrev pub asks_close : Moment
asks_close = holds (hold 1 1 ∷ []) (step.Close (hold 1 1))

pub files_are_shown_one_after_the_other : moments opening_shell (
    posts (codes "cat /f /g") (
    opened 1 1 kind.Tmp ∷ reply.Got (codes "ab") ∷ reply.Got (codes "c") ∷ reply.Got [] ∷ reply.Done
    ∷ opened 1 1 kind.Chr ∷ reply.Got (codes "de") ∷ reply.Done ∷ [])
    ∷ []) ≡
    (asks_open (codes "/f") ∷ asks_read 0 ∷ asks_read 2 ∷ asks_read 3 ∷ asks_close
    ∷ asks_open (codes "/g") ∷ asks_read 0 ∷ asks_close ∷ ends (codes "abcde") ∷ [])
    ∷ []
files_are_shown_one_after_the_other = refl

-- what was read stays, the error stands on a line of its own, the file is closed, and later words are not tried
pub a_cat_that_is_refused : moments opening_shell (
    posts (codes "cat /f /g /h") (
    opened 1 1 kind.Tmp ∷ reply.Got (codes "ab") ∷ reply.Got [] ∷ reply.Done ∷ no errno.ENOENT ∷ [])
    ∷ posts (codes "cat /f /g") (opened 1 1 kind.Cell ∷ reply.Got (codes "ab") ∷ no errno.EIO ∷ reply.Done ∷ [])
    ∷ posts (codes "cat /f") (opened 1 1 kind.Chr ∷ no errno.EIO ∷ no errno.ENOMEM ∷ [])
    ∷ posts (codes "cat /f /g") (opened 1 1 kind.Rom ∷ reply.Got [] ∷ no errno.ENOMEM ∷ [])
    ∷ posts (codes "cat /d") (no errno.EISDIR ∷ [])
    ∷ posts (codes "cat /f") (opened 1 1 kind.Tmp ∷ reply.Got (codes "ab") ∷ reply.Done ∷ [])
    ∷ []) ≡
    (asks_open (codes "/f") ∷ asks_read 0 ∷ asks_read 2 ∷ asks_close ∷ asks_open (codes "/g")
    ∷ ends (line (codes "ab") ++ line (codes "cat: /g: ENOENT")) ∷ [])
    ∷ (asks_open (codes "/f") ∷ asks_read 0 ∷ asks_read 2 ∷ asks_close
    ∷ ends (line (codes "ab") ++ line (codes "cat: /f: EIO")) ∷ [])
    ∷ (asks_open (codes "/f") ∷ asks_read 0 ∷ asks_close
    ∷ ends (line (codes "cat: /f: EIO") ++ line (codes "cat: /f: ENOMEM")) ∷ [])
    ∷ (asks_open (codes "/f") ∷ asks_read 0 ∷ asks_close ∷ says (codes "cat: /f: ENOMEM") ∷ [])
    ∷ (asks_open (codes "/d") ∷ says (codes "cat: /d: EISDIR") ∷ [])
    ∷ (asks_open (codes "/f") ∷ asks_read 0 ∷ asks_read 2 ∷ ends (codes "ab") ∷ [])
    ∷ []
a_cat_that_is_refused = refl

pub a_text_is_shown_or_appended : moments opening_shell (
    posts (codes "echo") []
    ∷ posts (codes "echo \"\"") []
    ∷ posts (codes "echo \"a b\"c") []
    ∷ posts (codes "echo hi /f") (opened 1 1 kind.Tmp ∷ reply.Count 2 9 ∷ reply.Done ∷ [])
    ∷ posts (codes "echo abc /f") (opened 1 1 kind.Cell ∷ reply.Count 2 9 ∷ reply.Count 1 10 ∷ reply.Done ∷ [])
    ∷ posts (codes "echo \"\" /f") (opened 1 1 kind.Tmp ∷ reply.Done ∷ [])
    ∷ []) ≡
    (says [] ∷ [])
    ∷ (says [] ∷ [])
    ∷ (says (codes "a bc") ∷ [])
    ∷ (asks (step.Open (codes "/f") to_append) ∷ asks_append (codes "hi") ∷ asks_close ∷ nothing ∷ [])
    ∷ (asks (step.Open (codes "/f") to_append) ∷ asks_append (codes "abc") ∷ asks_append (codes "c") ∷ asks_close ∷ nothing ∷ [])
    ∷ (asks (step.Open (codes "/f") to_append) ∷ asks_close ∷ nothing ∷ [])
    ∷ []
a_text_is_shown_or_appended = refl

pub an_echo_that_is_refused : moments opening_shell (
    posts (codes "echo x /r") (no errno.EROFS ∷ [])
    ∷ posts (codes "echo abc /f") (opened 1 1 kind.Cell ∷ reply.Count 2 4096 ∷ no errno.ENOSPC ∷ reply.Done ∷ [])
    ∷ posts (codes "echo x /f") (opened 1 1 kind.Tmp ∷ reply.Count 1 1 ∷ no errno.ENOMEM ∷ [])
    ∷ []) ≡
    (asks (step.Open (codes "/r") to_append) ∷ says (codes "echo: /r: EROFS") ∷ [])
    ∷ (asks (step.Open (codes "/f") to_append) ∷ asks_append (codes "abc") ∷ asks_append (codes "c") ∷ asks_close
    ∷ says (codes "echo: /f: ENOSPC") ∷ [])
    ∷ (asks (step.Open (codes "/f") to_append) ∷ asks_append (codes "x") ∷ asks_close ∷ says (codes "echo: /f: ENOMEM") ∷ [])
    ∷ []
an_echo_that_is_refused = refl

-- the steps of `cp /f /g`
abbrev pub open_f : Moment
open_f = asks_open (codes "/f")

abbrev pub open_g : Moment
open_g = holds (hold 1 1 ∷ []) (step.Open (codes "/g") (flags 6))

abbrev pub both_open : Step → Moment
both_open asked = holds (hold 1 1 ∷ hold 1 2 ∷ []) asked

abbrev pub cut_g : Moment
cut_g = both_open (step.Trunc (id 2 1) 0)

abbrev pub read_f : ℕ → Moment
read_f off = both_open (step.Read (id 1 1) off 4096)

abbrev pub write_g : ℕ → List ℕ → Moment
write_g off bytes = both_open (step.Write (id 2 1) off bytes)

abbrev pub close_g : Moment
close_g = both_open (step.Close (hold 1 2))

abbrev pub copies : List (List Reply) → List (List Moment)
copies replies = moments opening_shell (map (λ told. posts (codes "cp /f /g") told) replies)

pub a_file_is_copied : copies (
    (opened 1 1 kind.Tmp ∷ opened 2 2 kind.Tmp ∷ reply.Done ∷ reply.Got (codes "abc") ∷ reply.Count 3 3 ∷ reply.Got [] ∷ reply.Done ∷ reply.Done ∷ [])
    ∷ (opened 1 1 kind.Rom ∷ opened 2 2 kind.Cell ∷ reply.Done ∷ reply.Got (codes "abc") ∷ reply.Count 1 1 ∷ reply.Count 2 3
    ∷ reply.Got (codes "d") ∷ reply.Count 1 4 ∷ reply.Got [] ∷ reply.Done ∷ reply.Done ∷ [])
    ∷ (opened 1 1 kind.Chr ∷ opened 2 2 kind.Tmp ∷ reply.Done ∷ reply.Got (codes "ab") ∷ reply.Count 2 2 ∷ reply.Done ∷ reply.Done ∷ [])
    ∷ (opened 1 1 kind.Chr ∷ opened 2 2 kind.Tmp ∷ reply.Done ∷ reply.Got [] ∷ reply.Done ∷ reply.Done ∷ [])
    ∷ (opened 1 1 kind.Tmp ∷ opened 2 2 kind.Chr ∷ reply.Got (codes "abc") ∷ reply.Count 1 0 ∷ reply.Count 2 0 ∷ reply.Got []
    ∷ reply.Done ∷ reply.Done ∷ [])
    ∷ []) ≡
    (open_f ∷ open_g ∷ cut_g ∷ read_f 0 ∷ write_g 0 (codes "abc") ∷ read_f 3 ∷ close_g ∷ asks_close ∷ nothing ∷ [])
    ∷ (open_f ∷ open_g ∷ cut_g ∷ read_f 0 ∷ write_g 0 (codes "abc") ∷ write_g 1 (codes "bc") ∷ read_f 3 ∷ write_g 3 (codes "d") ∷ read_f 4
    ∷ close_g ∷ asks_close ∷ nothing ∷ [])
    ∷ (open_f ∷ open_g ∷ cut_g ∷ read_f 0 ∷ write_g 0 (codes "ab") ∷ close_g ∷ asks_close ∷ nothing ∷ [])
    ∷ (open_f ∷ open_g ∷ cut_g ∷ read_f 0 ∷ close_g ∷ asks_close ∷ nothing ∷ [])
    ∷ (open_f ∷ open_g ∷ read_f 0 ∷ write_g 0 (codes "abc") ∷ write_g 1 (codes "bc") ∷ read_f 3 ∷ close_g ∷ asks_close ∷ nothing ∷ [])
    ∷ []
a_file_is_copied = refl

-- each refusal ends the copy, and what was opened is closed
pub a_copy_that_is_refused : copies (
    (no errno.EISDIR ∷ [])
    ∷ (opened 1 1 kind.Tmp ∷ no errno.EROFS ∷ reply.Done ∷ [])
    ∷ (opened 1 1 kind.Tmp ∷ opened 2 1 kind.Tmp ∷ reply.Done ∷ reply.Done ∷ [])
    ∷ (opened 1 1 kind.Chr ∷ opened 2 1 kind.Chr ∷ reply.Done ∷ reply.Done ∷ [])
    ∷ (opened 1 1 kind.Tmp ∷ opened 2 2 kind.Cell ∷ no errno.ENOMEM ∷ reply.Done ∷ reply.Done ∷ [])
    ∷ (opened 1 1 kind.Cell ∷ opened 2 2 kind.Tmp ∷ reply.Done ∷ no errno.EIO ∷ reply.Done ∷ reply.Done ∷ [])
    ∷ (opened 1 1 kind.Tmp ∷ opened 2 2 kind.Cell ∷ reply.Done ∷ reply.Got (codes "ab") ∷ reply.Count 1 1 ∷ no errno.ENOSPC
    ∷ reply.Done ∷ reply.Done ∷ [])
    ∷ (opened 1 1 kind.Tmp ∷ opened 2 2 kind.Tmp ∷ reply.Done ∷ reply.Got [] ∷ no errno.ENOMEM ∷ reply.Done ∷ [])
    ∷ (opened 1 1 kind.Tmp ∷ opened 2 2 kind.Tmp ∷ reply.Done ∷ reply.Got [] ∷ no errno.ENOMEM ∷ no errno.EBADF ∷ [])
    ∷ []) ≡
    (open_f ∷ says (codes "cp: /f: EISDIR") ∷ [])
    ∷ (open_f ∷ open_g ∷ asks_close ∷ says (codes "cp: /g: EROFS") ∷ [])
    ∷ (open_f ∷ open_g ∷ close_g ∷ asks_close ∷ says (codes "cp: /g: EINVAL") ∷ [])
    ∷ (open_f ∷ open_g ∷ close_g ∷ asks_close ∷ says (codes "cp: /g: EINVAL") ∷ [])
    ∷ (open_f ∷ open_g ∷ cut_g ∷ close_g ∷ asks_close ∷ says (codes "cp: /g: ENOMEM") ∷ [])
    ∷ (open_f ∷ open_g ∷ cut_g ∷ read_f 0 ∷ close_g ∷ asks_close ∷ says (codes "cp: /f: EIO") ∷ [])
    ∷ (open_f ∷ open_g ∷ cut_g ∷ read_f 0 ∷ write_g 0 (codes "ab") ∷ write_g 1 (codes "b") ∷ close_g ∷ asks_close
    ∷ says (codes "cp: /g: ENOSPC") ∷ [])
    ∷ (open_f ∷ open_g ∷ cut_g ∷ read_f 0 ∷ close_g ∷ asks_close ∷ says (codes "cp: /g: ENOMEM") ∷ [])
    ∷ (open_f ∷ open_g ∷ cut_g ∷ read_f 0 ∷ close_g ∷ asks_close
    ∷ ends (line (codes "cp: /g: ENOMEM") ++ line (codes "cp: /f: EBADF")) ∷ [])
    ∷ []
a_copy_that_is_refused = refl
