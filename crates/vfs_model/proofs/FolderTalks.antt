-- The commands of folders and names take replies as they should.
use Rattle.std.specs.Prelude.{ℕ, List, [], ◌∷◌, codes}
use Rattle.vfs_base.specs.declared.reply.Reply.{Reply}
use Rattle.vfs_base.specs.declared.reply.Reply.TheVariants as reply
use Rattle.vfs_base.specs.declared.step.Step.{Step}
use Rattle.vfs_base.specs.declared.step.Step.TheVariants as step
use Rattle.vfs_base.specs.declared.kinds.Kind.{Kind}
use Rattle.vfs_base.specs.declared.kinds.Kind.TheVariants as kind
use Rattle.vfs_base.specs.declared.kinds.NodeKind.{NodeKind}
use Rattle.vfs_base.specs.declared.kinds.NodeKind.TheVariants as node
use Rattle.vfs_base.specs.declared.ids.FileId.{FileId}
use Rattle.vfs_model.proofs.ReplyTaking.{asking, changing-takes, if-takes, none-takes, one-takes, showing, two-take, OptionTakes, known}
use Rattle.vfs_model.specs.ShellLaws.{TalkTakesReplies}
use Rattle.vfs_model.specs.Talk.{Talk, ask}
use Rattle.vfs_base.specs.declared.reply.ListEntry.{ListEntry}
use Rattle.vfs_model.specs.FolderCommands.{cd, done_or_fails, folder_command, is_absent, list_entries, list_file, list_node, listed, ls, mkdir, moved_to, mv, one_step, pwd, remove_all, removed, rm, rmdir, sized, stat, stat_file, stat_node, stat_size, tell_folder, told_folder}

pub done-takes : (command subject : List ℕ) (reply : Reply) → TalkTakesReplies (done_or_fails command subject reply)
done-takes command subject (reply.Refused errno) = showing _
done-takes command subject _ = showing _

pub step-takes : (command subject : List ℕ) (asked : Step) → TalkTakesReplies (one_step command subject asked)
step-takes command subject asked = asking [] asked _ (done-takes command subject)

told : (command : List ℕ) (reply : Reply) → TalkTakesReplies (told_folder command reply)
told command (reply.At path) = changing-takes _ _ (showing _)
told command (reply.Refused errno) = showing _
told command _ = showing _

tell : (command : List ℕ) → TalkTakesReplies (tell_folder command)
tell command = asking [] step.Cwd _ (told command)

moved : (word : List ℕ) (reply : Reply) → TalkTakesReplies (moved_to word reply)
moved word (reply.At path) = changing-takes _ _ (showing _)
moved word (reply.Refused errno) = showing _
moved word _ = showing _

cd-takes : (words : List (List ℕ)) → TalkTakesReplies (cd words)
cd-takes [] = tell (codes "cd")
cd-takes (word ∷ []) = asking [] (step.Chdir word) _ (moved word)
cd-takes (word ∷ more ∷ words) = showing _

sized-takes : (word text name : List ℕ) (go : List ℕ → Talk) → ((t : List ℕ) → TalkTakesReplies (go t)) → (reply : Reply) →
    TalkTakesReplies (sized word text name go reply)
sized-takes word text name go each (reply.SizeIs size) = each _
sized-takes word text name go each (reply.Refused errno) = if-takes (is_absent errno) _ _ (each _) (showing _)
sized-takes word text name go each _ = showing _

file-takes : (word text name : List ℕ) (go : List ℕ → Talk) → ((t : List ℕ) → TalkTakesReplies (go t)) → (file : FileId) (kind : Kind) →
    TalkTakesReplies (list_file word text name go file kind)
file-takes word text name go each file kind.Chr = each _
file-takes word text name go each file kind.Tmp = asking [] (step.Size file) _ (sized-takes word text name go each)
file-takes word text name go each file kind.Rom = asking [] (step.Size file) _ (sized-takes word text name go each)
file-takes word text name go each file kind.Cell = asking [] (step.Size file) _ (sized-takes word text name go each)

node-takes : (word text name : List ℕ) (go : List ℕ → Talk) → ((t : List ℕ) → TalkTakesReplies (go t)) → (node : NodeKind) →
    TalkTakesReplies (list_node word text name go node)
node-takes word text name go each node.Dir = each _
node-takes word text name go each (node.File file kind) = file-takes word text name go each file kind

entries-take : (word : List ℕ) (entries : List ListEntry) (text : List ℕ) → TalkTakesReplies (list_entries word entries text)
entries-take word [] text = showing _
entries-take word (entry ∷ entries) text =
    node-takes word text entry.name (list_entries word entries) (entries-take word entries) entry.node

listed-takes : (word : List ℕ) (reply : Reply) → TalkTakesReplies (listed word reply)
listed-takes word (reply.Listing path entries) = entries-take word entries _
listed-takes word (reply.Refused errno) = showing _
listed-takes word _ = showing _

ls-takes : (words : List (List ℕ)) → TalkTakesReplies (ls words)
ls-takes [] = asking [] (step.List (codes ".")) (listed (codes ".")) (listed-takes (codes "."))
ls-takes (word ∷ []) = asking [] (step.List word) (listed word) (listed-takes word)
ls-takes (word ∷ more ∷ words) = showing _

removed-takes : (word : List ℕ) (go : Talk) → TalkTakesReplies go → (reply : Reply) → TalkTakesReplies (removed word go reply)
removed-takes word go takes reply.Done = takes
removed-takes word go takes (reply.Refused errno) = showing _
removed-takes word go takes _ = showing _

all-take : (words : List (List ℕ)) → TalkTakesReplies (remove_all words)
all-take [] = showing _
all-take (word ∷ words) = asking [] (step.Unlink word) _ (removed-takes word (remove_all words) (all-take words))

rm-takes : (words : List (List ℕ)) → TalkTakesReplies (rm words)
rm-takes [] = showing _
rm-takes (word ∷ words) = all-take (word ∷ words)

size-takes : (word : List ℕ) (reply : Reply) → TalkTakesReplies (stat_size word reply)
size-takes word (reply.SizeIs size) = showing _
size-takes word (reply.Refused errno) = if-takes (is_absent errno) _ _ (showing _) (showing _)
size-takes word _ = showing _

stat-file-takes : (word : List ℕ) (file : FileId) (kind : Kind) → TalkTakesReplies (stat_file word file kind)
stat-file-takes word file kind.Chr = showing _
stat-file-takes word file kind.Tmp = asking [] (step.Size file) _ (size-takes word)
stat-file-takes word file kind.Rom = asking [] (step.Size file) _ (size-takes word)
stat-file-takes word file kind.Cell = asking [] (step.Size file) _ (size-takes word)

stat-takes : (word : List ℕ) (reply : Reply) → TalkTakesReplies (stat_node word reply)
stat-takes word (reply.Node node.Dir) = showing _
stat-takes word (reply.Node (node.File file kind)) = stat-file-takes word file kind
stat-takes word (reply.Refused errno) = showing _
stat-takes word _ = showing _

pwd-takes : (words : List (List ℕ)) → TalkTakesReplies (pwd words)
pwd-takes words = none-takes (codes "pwd") (tell_folder (codes "pwd")) (tell (codes "pwd")) words

mkdir-takes : (words : List (List ℕ)) → TalkTakesReplies (mkdir words)
mkdir-takes words =
    one-takes (codes "mkdir PATH") (λ path. one_step (codes "mkdir") path (step.Mkdir path)) (λ path. step-takes (codes "mkdir") path (step.Mkdir path)) words

rmdir-takes : (words : List (List ℕ)) → TalkTakesReplies (rmdir words)
rmdir-takes words =
    one-takes (codes "rmdir PATH") (λ path. one_step (codes "rmdir") path (step.Rmdir path)) (λ path. step-takes (codes "rmdir") path (step.Rmdir path)) words

mv-takes : (words : List (List ℕ)) → TalkTakesReplies (mv words)
mv-takes words =
    two-take (codes "mv OLD NEW") (λ old new. one_step (codes "mv") old (step.Rename old new))
    (λ old new. step-takes (codes "mv") old (step.Rename old new)) words

stats-take : (words : List (List ℕ)) → TalkTakesReplies (stat words)
stats-take words =
    one-takes (codes "stat PATH") (λ path. ask (step.Stat path) (stat_node path))
    (λ path. asking [] (step.Stat path) (stat_node path) (stat-takes path)) words

pub folder-takes : (name : List ℕ) (words : List (List ℕ)) → OptionTakes (folder_command name words)
folder-takes name words = search (known, pwd-takes, cd-takes, ls-takes, mkdir-takes, rmdir-takes, rm-takes, mv-takes, stats-take) depth 12
