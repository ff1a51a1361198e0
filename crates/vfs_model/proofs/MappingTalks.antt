-- The commands of mappings take replies as they should.
use Rattle.std.specs.Prelude.{◌∷◌, ℕ, Bool, true, List, [], codes, length}
use Rattle.vfs_base.specs.declared.reply.Reply.{Reply}
use Rattle.vfs_base.specs.declared.reply.Reply.TheVariants as reply
use Rattle.vfs_base.specs.declared.step.Step.TheVariants as step
use Rattle.vfs_model.proofs.ReplyTaking.{asking, changing-takes, checked-takes, four-take, meaning-takes, one-takes, showing, three-take, OptionTakes, known}
use Rattle.vfs_model.specs.ShellLaws.{TalkTakesReplies}
use Rattle.vfs_model.proofs.FolderTalks.{done-takes, step-takes}
use Rattle.vfs_model.specs.MappingCommands.{is_for_writing, mload, mload_form, mmap, mmap_form, mstore, mstore_form, msync, munmap, add_mapped, load_checks, load_mapped, load_replied, map_checks, map_file, map_replied, mapping_command, store_mapped, store_replied, sync_mapped, unmap}
use Rattle.vfs_model.specs.CommandWords.{meaning, number_of}
use Rattle.vfs_model.specs.Mappings.{add_mapping, check_mapping, mapping, remove_mapping}
use Rattle.vfs_model.specs.declared.shell_state.OpenFile.{OpenFile}
use Rattle.vfs_model.specs.declared.shell_state.Window.{Window}

add-takes : (word : List ℕ) (window : Window) → TalkTakesReplies (add_mapped word window)
add-takes word window state =
    checked-takes _ (add_mapping state.mappings window) _ (λ errno. showing _) (λ new. changing-takes _ _ (showing _)) state

mapped-takes : (word : List ℕ) (file : OpenFile) (off len : ℕ) (is_write : Bool) (reply : Reply) →
    TalkTakesReplies (map_replied word file off len is_write reply)
mapped-takes word file off len is_write (reply.Held hold) = add-takes word _
mapped-takes word file off len is_write (reply.Refused errno) = showing _
mapped-takes word file off len is_write _ = showing _

map-takes : (word : List ℕ) (fd off len : ℕ) (is_write : Bool) → TalkTakesReplies (map_file word fd off len is_write)
map-takes word fd off len is_write state =
    checked-takes _ (map_checks state fd off len is_write) _ (λ errno. showing _)
    (λ file. asking [] (step.Map file.hold) _ (mapped-takes word file off len is_write)) state

loaded-takes : (word : List ℕ) (reply : Reply) → TalkTakesReplies (load_replied word reply)
loaded-takes word (reply.Got bytes) = showing _
loaded-takes word (reply.Refused errno) = showing _
loaded-takes word _ = showing _

load-takes : (word : List ℕ) (number off len : ℕ) → TalkTakesReplies (load_mapped word number off len)
load-takes word number off len state =
    checked-takes _ (load_checks state.mappings number off len) _ (λ errno. showing _) (λ at. asking [] _ _ (loaded-takes word)) state

stored-takes : (word : List ℕ) (reply : Reply) → TalkTakesReplies (store_replied word reply)
stored-takes word (reply.Count n end) = showing _
stored-takes word (reply.Refused errno) = showing _
stored-takes word _ = showing _

store-takes : (word text : List ℕ) (number off : ℕ) → TalkTakesReplies (store_mapped word text number off)
store-takes word text number off state =
    checked-takes _ (check_mapping state.mappings number off (length text) true) _ (λ errno. showing _)
    (λ at. asking [] _ _ (stored-takes word)) state

sync-takes : (word : List ℕ) (number : ℕ) → TalkTakesReplies (sync_mapped word number)
sync-takes word number state = checked-takes _ (mapping state.mappings number) _ (λ errno. showing _)
    (λ window. step-takes (codes "msync") word (step.Sync window.file)) state

unmap-takes : (word : List ℕ) (number : ℕ) → TalkTakesReplies (unmap word number)
unmap-takes word number state =
    checked-takes _ (remove_mapping state.mappings number) _ (λ errno. showing _)
    (λ taken. changing-takes _ _
    (asking (step.Unmap taken.window.hold ∷ []) (step.Unmap taken.window.hold) _ (done-takes (codes "munmap") word))) state

maps-take : (words : List (List ℕ)) → TalkTakesReplies (mmap words)
maps-take words =
    four-take mmap_form
    (λ word off len access. meaning mmap_form (number_of word)
    (λ fd. meaning mmap_form (number_of off)
    (λ offset. meaning mmap_form (number_of len) (λ size. meaning mmap_form (is_for_writing access) (map_file word fd offset size)))))
    (λ word off len access. meaning-takes mmap_form (number_of word)
    (λ fd. meaning mmap_form (number_of off)
    (λ offset. meaning mmap_form (number_of len) (λ size. meaning mmap_form (is_for_writing access) (map_file word fd offset size))))
    (λ fd. meaning-takes mmap_form (number_of off)
    (λ offset. meaning mmap_form (number_of len) (λ size. meaning mmap_form (is_for_writing access) (map_file word fd offset size)))
    (λ offset. meaning-takes mmap_form (number_of len) (λ size. meaning mmap_form (is_for_writing access) (map_file word fd offset size))
    (λ size. meaning-takes mmap_form (is_for_writing access) (map_file word fd offset size) (map-takes word fd offset size))))) words

loads-take : (words : List (List ℕ)) → TalkTakesReplies (mload words)
loads-take words =
    three-take mload_form
    (λ word off len. meaning mload_form (number_of word)
    (λ number. meaning mload_form (number_of off) (λ offset. meaning mload_form (number_of len) (load_mapped word number offset))))
    (λ word off len. meaning-takes mload_form (number_of word)
    (λ number. meaning mload_form (number_of off) (λ offset. meaning mload_form (number_of len) (load_mapped word number offset)))
    (λ number. meaning-takes mload_form (number_of off) (λ offset. meaning mload_form (number_of len) (load_mapped word number offset))
    (λ offset. meaning-takes mload_form (number_of len) (load_mapped word number offset) (load-takes word number offset)))) words

stores-take : (words : List (List ℕ)) → TalkTakesReplies (mstore words)
stores-take words =
    three-take mstore_form
    (λ word off text. meaning mstore_form (number_of word) (λ number. meaning mstore_form (number_of off) (store_mapped word text number)))
    (λ word off text. meaning-takes mstore_form (number_of word) (λ number. meaning mstore_form (number_of off) (store_mapped word text number))
    (λ number. meaning-takes mstore_form (number_of off) (store_mapped word text number) (store-takes word text number))) words

syncs-take : (words : List (List ℕ)) → TalkTakesReplies (msync words)
syncs-take words =
    one-takes (codes "msync W") (λ word. meaning (codes "msync W") (number_of word) (sync_mapped word))
    (λ word. meaning-takes (codes "msync W") (number_of word) (sync_mapped word) (sync-takes word)) words

unmaps-take : (words : List (List ℕ)) → TalkTakesReplies (munmap words)
unmaps-take words =
    one-takes (codes "munmap W") (λ word. meaning (codes "munmap W") (number_of word) (unmap word))
    (λ word. meaning-takes (codes "munmap W") (number_of word) (unmap word) (unmap-takes word)) words

pub mapping-takes : (name : List ℕ) (words : List (List ℕ)) → OptionTakes (mapping_command name words)
mapping-takes name words = search (known, maps-take, loads-take, stores-take, syncs-take, unmaps-take) depth 12
