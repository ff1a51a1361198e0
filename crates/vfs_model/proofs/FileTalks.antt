-- The commands of open files take replies as they should.
use Rattle.std.specs.Prelude.{ℕ, Bool, true, false, Option, Some, None, List, [], ◌∷◌, codes, length, if◌then◌else◌}
use Rattle.vfs_base.specs.declared.errno.Errno.TheVariants as errno
use Rattle.vfs_base.specs.declared.reply.Reply.{Reply}
use Rattle.vfs_base.specs.declared.reply.Reply.TheVariants as reply
use Rattle.vfs_base.specs.declared.step.Step.TheVariants as step
use Rattle.vfs_model.proofs.ReplyTaking.{asking, changing-takes, checked-takes, if-takes, meaning-takes, one-takes, showing, three-take, two-take, OptionTakes, known}
use Rattle.vfs_model.specs.ShellLaws.{TalkTakesReplies}
use Rattle.vfs_model.specs.Talk.{Talk, shows}
use Rattle.std.specs.Prelude.{ℤ, ◌&&◌, ◌*◌}
use Rattle.vfs_base.specs.declared.flags.OpenFlags.{OpenFlags}
use Rattle.vfs_model.proofs.CopyTalks.{closes-take as closing}
use Rattle.vfs_model.proofs.FolderTalks.{done-takes, step-takes}
use Rattle.vfs_model.specs.Chain.{refuse◌when◌}
use Rattle.vfs_model.specs.CommandWords.{flags_of, meaning, number_of, offset_of}
use Rattle.vfs_model.specs.CopyCommands.{is_cut}
use Rattle.vfs_model.specs.FileCommands.{cut_checks, cut_file, file_command, fsync, ftruncate, ftruncate_form, lseek, lseek_file, lseek_form, placed_file, read, read_checks, read_file, read_form, read_replied, seek_from, seek_place, seek_sized, sync_file, write, write_checks, write_file, write_form, write_replied}
use Rattle.vfs_model.specs.OpenCommands.{add_opened, close, close_descriptor, close_last, cut_opened, cut_replied, dup, dup_descriptor, open_form, open_path, open_replied, open_words}
use Rattle.vfs_model.specs.OpenFiles.{add_file, close_file, dup_file, has_all_descriptors, open_file, seek}
use Rattle.vfs_model.specs.OpenStep.{truncates}
use Rattle.vfs_model.specs.declared.shell_state.OpenFile.{OpenFile}
use Rattle.vfs_model.specs.declared.shell_state.Whence.{Whence}

add-takes : (word : List ℕ) (file : OpenFile) → TalkTakesReplies (add_opened word file)
add-takes word file state =
    checked-takes _ (add_file state.open_files file) _ (λ errno. showing _) (λ new. changing-takes _ _ (showing _)) state

cut-replied-takes : (word : List ℕ) (file : OpenFile) (reply : Reply) → TalkTakesReplies (cut_replied word file reply)
cut-replied-takes word file reply.Done = add-takes word file
cut-replied-takes word file (reply.Refused errno) = closing (codes "open") word file.hold _ shows showing
cut-replied-takes word file _ = showing _

cut-takes : (word : List ℕ) (flags : OpenFlags) (file : OpenFile) → TalkTakesReplies (cut_opened word flags file)
cut-takes word flags file =
    if-takes (truncates flags && is_cut file.kind) _ _
    (asking (step.Close file.hold ∷ []) (step.Trunc file.file 0) _ (cut-replied-takes word file)) (add-takes word file)

opened-takes : (word : List ℕ) (flags : OpenFlags) (reply : Reply) → TalkTakesReplies (open_replied word flags reply)
opened-takes word flags (reply.Opened hold file kind) = cut-takes word flags _
opened-takes word flags (reply.Refused errno) = showing _
opened-takes word flags _ = showing _

open-takes : (word : List ℕ) (flags : OpenFlags) → TalkTakesReplies (open_path word flags)
open-takes word flags state =
    checked-takes _ (refuse errno.EMFILE when has_all_descriptors state.open_files) _ (λ errno. showing _)
    (λ passed. asking [] (step.Open word flags) _ (opened-takes word flags)) state

read-replied-takes : (word : List ℕ) (fd : ℕ) (file : OpenFile) (reply : Reply) → TalkTakesReplies (read_replied word fd file reply)
read-replied-takes word fd file (reply.Got bytes) = changing-takes _ _ (showing _)
read-replied-takes word fd file (reply.Refused errno) = showing _
read-replied-takes word fd file _ = showing _

read-takes : (word : List ℕ) (fd n : ℕ) → TalkTakesReplies (read_file word fd n)
read-takes word fd n state =
    checked-takes _ (read_checks state.open_files fd n) _ (λ errno. showing _)
    (λ file. asking [] _ _ (read-replied-takes word fd file)) state

write-replied-takes : (word : List ℕ) (fd : ℕ) (file : OpenFile) (reply : Reply) → TalkTakesReplies (write_replied word fd file reply)
write-replied-takes word fd file (reply.Count n end) = changing-takes _ _ (showing _)
write-replied-takes word fd file (reply.Refused errno) = showing _
write-replied-takes word fd file _ = showing _

write-takes : (word : List ℕ) (fd : ℕ) (text : List ℕ) (count : ℕ) → TalkTakesReplies (write_file word fd text count)
write-takes word fd text count state =
    checked-takes _ (write_checks state.open_files fd (count * length text)) _ (λ errno. showing _)
    (λ file. asking [] _ _ (write-replied-takes word fd file)) state

writes-take : (words : List (List ℕ)) → TalkTakesReplies (write words)
writes-take [] = showing _
writes-take (word ∷ []) = showing _
writes-take (word ∷ text ∷ []) = meaning-takes write_form (number_of word) (λ fd. write_file word fd text 1) (λ fd. write-takes word fd text 1)
writes-take (word ∷ text ∷ count ∷ []) =
    meaning-takes write_form (number_of word) (λ fd. meaning write_form (number_of count) (write_file word fd text))
    (λ fd. meaning-takes write_form (number_of count) (write_file word fd text) (write-takes word fd text))
writes-take (word ∷ text ∷ count ∷ more ∷ words) = showing _

place-takes : (word : List ℕ) (fd : ℕ) (off : ℤ) (whence : Whence) → TalkTakesReplies (seek_place word fd off whence)
place-takes word fd off whence state =
    checked-takes _ (seek state.open_files fd off whence) _ (λ errno. showing _) (λ sought. changing-takes _ _ (showing _)) state

sized-takes : (word : List ℕ) (fd : ℕ) (off : ℤ) (reply : Reply) → TalkTakesReplies (seek_sized word fd off reply)
sized-takes word fd off (reply.SizeIs size) = place-takes word fd off _
sized-takes word fd off (reply.Refused errno) = showing _
sized-takes word fd off _ = showing _

-- what a word that says from where leads to
abbrev pub FromTakes : Option (OpenFile → Talk) → Type 0
FromTakes None = Unit {0}
FromTakes (Some go) = (file : OpenFile) → TalkTakesReplies (go file)

from-if : (test : Bool) (go : OpenFile → Talk) (other : Option (OpenFile → Talk)) →
    ((file : OpenFile) → TalkTakesReplies (go file)) → FromTakes other → FromTakes (if test then Some go else other)
from-if true go other each rest = each
from-if false go other each rest = rest

from-takes : (from word : List ℕ) (fd : ℕ) (off : ℤ) → FromTakes (seek_from from word fd off)
from-takes from word fd off = search (from-if, place-takes, asking, sized-takes)

lseek-file-takes : (word : List ℕ) (fd : ℕ) (go : OpenFile → Talk) → ((file : OpenFile) → TalkTakesReplies (go file)) →
    TalkTakesReplies (lseek_file word fd go)
lseek-file-takes word fd go each state =
    checked-takes _ (placed_file state.open_files fd) _ (λ errno. showing _) each state

lseek-takes : (form word : List ℕ) (fd : ℕ) (from : Option (OpenFile → Talk)) → FromTakes from →
    TalkTakesReplies (meaning form from (lseek_file word fd))
lseek-takes form word fd None each = showing _
lseek-takes form word fd (Some go) each = lseek-file-takes word fd go each

dup-takes : (word : List ℕ) (fd : ℕ) → TalkTakesReplies (dup_descriptor word fd)
dup-takes word fd state =
    checked-takes _ (dup_file state.open_files fd) _ (λ errno. showing _) (λ new. changing-takes _ _ (showing _)) state

truncate-takes : (word : List ℕ) (fd len : ℕ) → TalkTakesReplies (cut_file word fd len)
truncate-takes word fd len state =
    checked-takes _ (cut_checks state.open_files fd) _ (λ errno. showing _)
    (λ file. step-takes (codes "ftruncate") word (step.Trunc file.file len)) state

sync-takes : (word : List ℕ) (fd : ℕ) → TalkTakesReplies (sync_file word fd)
sync-takes word fd state = checked-takes _ (open_file state.open_files fd) _ (λ errno. showing _)
    (λ file. step-takes (codes "fsync") word (step.Sync file.file)) state

last-takes : (word : List ℕ) (last : Option OpenFile) → TalkTakesReplies (close_last word last)
last-takes word None = showing _
last-takes word (Some file) = asking (step.Close file.hold ∷ []) (step.Close file.hold) _ (done-takes (codes "close") word)

close-takes : (word : List ℕ) (fd : ℕ) → TalkTakesReplies (close_descriptor word fd)
close-takes word fd state =
    checked-takes _ (close_file state.open_files fd) _ (λ errno. showing _)
    (λ closed. changing-takes _ _ (last-takes word closed.last)) state

opens-take : (words : List (List ℕ)) → TalkTakesReplies (open_words words)
opens-take words =
    two-take open_form (λ path mode. meaning open_form (flags_of mode) (open_path path))
    (λ path mode. meaning-takes open_form (flags_of mode) (open_path path) (open-takes path)) words

reads-take : (words : List (List ℕ)) → TalkTakesReplies (read words)
reads-take words =
    two-take read_form (λ word n. meaning read_form (number_of word) (λ fd. meaning read_form (number_of n) (read_file word fd)))
    (λ word n. meaning-takes read_form (number_of word) (λ fd. meaning read_form (number_of n) (read_file word fd))
    (λ fd. meaning-takes read_form (number_of n) (read_file word fd) (read-takes word fd))) words

seeks-take : (words : List (List ℕ)) → TalkTakesReplies (lseek words)
seeks-take words =
    three-take lseek_form
    (λ word off from. meaning lseek_form (number_of word)
    (λ fd. meaning lseek_form (offset_of off) (λ offset. meaning lseek_form (seek_from from word fd offset) (lseek_file word fd))))
    (λ word off from. meaning-takes lseek_form (number_of word)
    (λ fd. meaning lseek_form (offset_of off) (λ offset. meaning lseek_form (seek_from from word fd offset) (lseek_file word fd)))
    (λ fd. meaning-takes lseek_form (offset_of off) (λ offset. meaning lseek_form (seek_from from word fd offset) (lseek_file word fd))
    (λ offset. lseek-takes lseek_form word fd (seek_from from word fd offset) (from-takes from word fd offset)))) words

dups-take : (words : List (List ℕ)) → TalkTakesReplies (dup words)
dups-take words =
    one-takes (codes "dup FD") (λ word. meaning (codes "dup FD") (number_of word) (dup_descriptor word))
    (λ word. meaning-takes (codes "dup FD") (number_of word) (dup_descriptor word) (dup-takes word)) words

truncates-take : (words : List (List ℕ)) → TalkTakesReplies (ftruncate words)
truncates-take words =
    two-take ftruncate_form (λ word len. meaning ftruncate_form (number_of word) (λ fd. meaning ftruncate_form (number_of len) (cut_file word fd)))
    (λ word len. meaning-takes ftruncate_form (number_of word) (λ fd. meaning ftruncate_form (number_of len) (cut_file word fd))
    (λ fd. meaning-takes ftruncate_form (number_of len) (cut_file word fd) (truncate-takes word fd))) words

syncs-take : (words : List (List ℕ)) → TalkTakesReplies (fsync words)
syncs-take words =
    one-takes (codes "fsync FD") (λ word. meaning (codes "fsync FD") (number_of word) (sync_file word))
    (λ word. meaning-takes (codes "fsync FD") (number_of word) (sync_file word) (sync-takes word)) words

closes-take : (words : List (List ℕ)) → TalkTakesReplies (close words)
closes-take words =
    one-takes (codes "close FD") (λ word. meaning (codes "close FD") (number_of word) (close_descriptor word))
    (λ word. meaning-takes (codes "close FD") (number_of word) (close_descriptor word) (close-takes word)) words

pub file-takes : (name : List ℕ) (words : List (List ℕ)) → OptionTakes (file_command name words)
file-takes name words = search (known, opens-take, reads-take, writes-take, seeks-take, dups-take, truncates-take, syncs-take, closes-take) depth 12
