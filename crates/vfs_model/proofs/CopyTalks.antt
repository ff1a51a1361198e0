-- The commands that move whole files take replies as they should.
use Rattle.std.specs.Prelude.{ℕ, List, [], ◌∷◌, ◌++◌, codes}
use Rattle.vfs_base.specs.declared.reply.Reply.{Reply}
use Rattle.vfs_base.specs.declared.reply.Reply.TheVariants as reply
use Rattle.vfs_base.specs.declared.step.Step.TheVariants as step
use Rattle.vfs_base.specs.declared.kinds.Kind.{Kind}
use Rattle.vfs_base.specs.declared.ids.FileId.{FileId}
use Rattle.vfs_base.specs.declared.ids.HoldId.{HoldId}
use Rattle.vfs_model.proofs.ReplyTaking.{asking, if-round, if-takes, showing, turning, two-take, RoundTakes, OptionTakes, known}
use Rattle.vfs_model.specs.ShellLaws.{TalkTakesReplies}
use Rattle.vfs_model.specs.Talk.{After, Again, Round, Talk, ask, shows}
use Rattle.vfs_model.specs.CopyCommands.{CopyFile, CopyStage, Reads, Writes, close_both, close_source, copy_bytes, copy_closed, copy_command, copy_cut, copy_from_start, copy_got, copy_left, copy_read, copy_round, copy_written, cp, destination_opened, is_cut, same_file, source_opened}
use Rattle.vfs_model.specs.TextCommands.{CatStage, cat, cat_files, cat_opened, cat_round, closed, closes, echo, echo_left, echo_opened, echo_round, echo_text, is_read_out, to_read}
use Rattle.vfs_model.specs.CommandText.{with_error}
use Rattle.vfs_model.specs.Mappings.{is_chr}

closed-takes : (command word text : List ℕ) (go : List ℕ → Talk) → ((t : List ℕ) → TalkTakesReplies (go t)) → (reply : Reply) →
    TalkTakesReplies (closed command word text go reply)
closed-takes command word text go each reply.Done = each text
closed-takes command word text go each (reply.Refused errno) = showing _
closed-takes command word text go each _ = showing _

pub closes-take : (command word : List ℕ) (hold : HoldId) (text : List ℕ) (go : List ℕ → Talk) → ((t : List ℕ) → TalkTakesReplies (go t)) →
    TalkTakesReplies (closes command word hold text go)
closes-take command word hold text go each = asking _ (step.Close hold) _ (closed-takes command word text go each)

cat-round-takes : (word : List ℕ) (hold : HoldId) (kind : Kind) (go : List ℕ → Talk) → ((t : List ℕ) → TalkTakesReplies (go t)) →
    (stage : CatStage) (reply : Reply) → RoundTakes (cat_round word hold kind go stage reply)
cat-round-takes word hold kind go each stage (reply.Got bytes) =
    if-round (is_read_out kind bytes) _ _ (closes-take (codes "cat") word hold (stage.text ++ bytes) go each) tt
cat-round-takes word hold kind go each stage (reply.Refused errno) =
    closes-take (codes "cat") word hold (with_error stage.text (codes "cat") word errno) shows showing
cat-round-takes word hold kind go each stage _ = showing _

cat-opened-takes : (text word : List ℕ) (go : List ℕ → Talk) → ((t : List ℕ) → TalkTakesReplies (go t)) → (reply : Reply) →
    TalkTakesReplies (cat_opened text word go reply)
cat-opened-takes text word go each (reply.Opened hold file kind) =
    turning _ _ (cat_round word hold kind go) (cat-round-takes word hold kind go each) _
cat-opened-takes text word go each (reply.Refused errno) = showing _
cat-opened-takes text word go each _ = showing _

files-take : (words : List (List ℕ)) (text : List ℕ) → TalkTakesReplies (cat_files words text)
files-take [] text = showing _
files-take (word ∷ words) text = asking [] _ _ (cat-opened-takes text word (cat_files words) (files-take words))

cat-takes : (words : List (List ℕ)) → TalkTakesReplies (cat words)
cat-takes [] = showing _
cat-takes (word ∷ words) = files-take (word ∷ words) []

left-takes : (word : List ℕ) (hold : HoldId) (bytes : List ℕ) → RoundTakes (echo_left word hold bytes)
left-takes word hold [] = closes-take (codes "echo") word hold [] shows showing
left-takes word hold (byte ∷ bytes) = tt

echo-round-takes : (word : List ℕ) (hold : HoldId) (bytes : List ℕ) (reply : Reply) → RoundTakes (echo_round word hold bytes reply)
echo-round-takes word hold bytes (reply.Count n end) = left-takes word hold _
echo-round-takes word hold bytes (reply.Refused errno) =
    closes-take (codes "echo") word hold (with_error [] (codes "echo") word errno) shows showing
echo-round-takes word hold bytes _ = showing _

echo-text-takes : (word : List ℕ) (hold : HoldId) (file : FileId) (round : Round (List ℕ)) → RoundTakes round →
    TalkTakesReplies (echo_text word hold file round)
echo-text-takes word hold file (After go) takes = takes
echo-text-takes word hold file (Again bytes) takes = turning _ _ (echo_round word hold) (echo-round-takes word hold) bytes

echo-opened-takes : (text word : List ℕ) (reply : Reply) → TalkTakesReplies (echo_opened text word reply)
echo-opened-takes text word (reply.Opened hold file kind) = echo-text-takes word hold file (echo_left word hold text) (left-takes word hold text)
echo-opened-takes text word (reply.Refused errno) = showing _
echo-opened-takes text word _ = showing _

echo-takes : (words : List (List ℕ)) → TalkTakesReplies (echo words)
echo-takes [] = showing _
echo-takes (text ∷ []) = showing _
echo-takes (text ∷ file ∷ []) = asking [] _ _ (echo-opened-takes text file)
echo-takes (text ∷ file ∷ more ∷ words) = showing _

copy-closed-takes : (word text : List ℕ) (go : List ℕ → Talk) → ((t : List ℕ) → TalkTakesReplies (go t)) → (reply : Reply) →
    TalkTakesReplies (copy_closed word text go reply)
copy-closed-takes word text go each reply.Done = each _
copy-closed-takes word text go each (reply.Refused errno) = each _
copy-closed-takes word text go each _ = showing _

source-takes : (src : CopyFile) (text : List ℕ) → TalkTakesReplies (close_source src text)
source-takes src text = asking _ _ _ (copy-closed-takes src.word text _ showing)

both-take : (src dst : CopyFile) (text : List ℕ) → TalkTakesReplies (close_both src dst text)
both-take src dst text = asking _ _ _ (copy-closed-takes dst.word text (close_source src) (source-takes src))

got-takes : (src dst : CopyFile) (offset : ℕ) (bytes : List ℕ) → RoundTakes (copy_got src dst offset bytes)
got-takes src dst offset [] = both-take src dst _
got-takes src dst offset (byte ∷ bytes) = tt

copy-left-takes : (src dst : CopyFile) (offset : ℕ) (bytes : List ℕ) → RoundTakes (copy_left src dst offset bytes)
copy-left-takes src dst offset [] = if-round (is_chr src.kind) _ _ (both-take src dst _) tt
copy-left-takes src dst offset (byte ∷ bytes) = tt

read-takes : (src dst : CopyFile) (offset : ℕ) (reply : Reply) → RoundTakes (copy_read src dst offset reply)
read-takes src dst offset (reply.Got bytes) = got-takes src dst offset bytes
read-takes src dst offset (reply.Refused errno) = both-take src dst _
read-takes src dst offset _ = showing _

written-takes : (src dst : CopyFile) (offset : ℕ) (bytes : List ℕ) (reply : Reply) → RoundTakes (copy_written src dst offset bytes reply)
written-takes src dst offset bytes (reply.Count n end) = copy-left-takes src dst _ _
written-takes src dst offset bytes (reply.Refused errno) = both-take src dst _
written-takes src dst offset bytes _ = showing _

copy-round-takes : (src dst : CopyFile) (stage : CopyStage) (reply : Reply) → RoundTakes (copy_round src dst stage reply)
copy-round-takes src dst (Reads offset) reply = read-takes src dst offset reply
copy-round-takes src dst (Writes offset bytes) reply = written-takes src dst offset bytes reply

bytes-take : (src dst : CopyFile) → TalkTakesReplies (copy_bytes src dst)
bytes-take src dst = turning _ _ (copy_round src dst) (copy-round-takes src dst) _

cut-takes : (src dst : CopyFile) (reply : Reply) → TalkTakesReplies (copy_cut src dst reply)
cut-takes src dst reply.Done = bytes-take src dst
cut-takes src dst (reply.Refused errno) = both-take src dst _
cut-takes src dst _ = showing _

start-takes : (src dst : CopyFile) → TalkTakesReplies (copy_from_start src dst)
start-takes src dst =
    if-takes (same_file src.file dst.file) _ _ (both-take src dst _)
    (if-takes (is_cut dst.kind) _ _ (asking _ _ _ (cut-takes src dst)) (bytes-take src dst))

destination-takes : (src : CopyFile) (word : List ℕ) (reply : Reply) → TalkTakesReplies (destination_opened src word reply)
destination-takes src word (reply.Opened hold file kind) = start-takes src _
destination-takes src word (reply.Refused errno) = source-takes src _
destination-takes src word _ = showing _

opened-takes : (word other : List ℕ) (reply : Reply) → TalkTakesReplies (source_opened word other reply)
opened-takes word other (reply.Opened hold file kind) = asking _ _ _ (destination-takes _ other)
opened-takes word other (reply.Refused errno) = showing _
opened-takes word other _ = showing _

cp-takes : (words : List (List ℕ)) → TalkTakesReplies (cp words)
cp-takes words =
    two-take (codes "cp SRC DST") (λ src dst. ask (step.Open src to_read) (source_opened src dst))
    (λ src dst. asking [] (step.Open src to_read) (source_opened src dst) (opened-takes src dst)) words

pub copy-takes : (name : List ℕ) (words : List (List ℕ)) → OptionTakes (copy_command name words)
copy-takes name words = search (known, cat-takes, echo-takes, cp-takes)
