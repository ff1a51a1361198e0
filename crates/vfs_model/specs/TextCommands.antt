-- The commands that show and append whole texts: `cat` and `echo`. They close what they opened, also behind a refusal.
use Rattle.std.specs.Prelude.{ℕ, Bool, true, false, ◌||◌, List, [], ◌∷◌, ◌++◌, length, drop, codes, if◌then◌else◌}
use Rattle.vfs_base.specs.declared.flags.OpenFlags.{OpenFlags}
use Rattle.vfs_base.specs.declared.ids.FileId.{FileId}
use Rattle.vfs_base.specs.declared.ids.HoldId.{HoldId}
use Rattle.vfs_base.specs.declared.kinds.Kind.{Kind}
use Rattle.vfs_base.specs.declared.limits.TheConstants.{PAGE_SIZE}
use Rattle.vfs_base.specs.declared.reply.Reply.{Reply}
use Rattle.vfs_base.specs.declared.reply.Reply.TheVariants as reply
use Rattle.vfs_base.specs.declared.step.Step.{Step}
use Rattle.vfs_base.specs.declared.step.Step.TheVariants as step
use Rattle.vfs_model.specs.CommandText.{fails, fails_after, line, usage, with_error}
use Rattle.vfs_model.specs.CommandWords.{flags}
use Rattle.vfs_model.specs.Mappings.{is_chr}
use Rattle.vfs_model.specs.OpenFiles.{moved_offset}
use Rattle.vfs_model.specs.Talk.{After, Again, Round, Talk, ask, ask_holding, ask_in_turn, shows}

abbrev pub is_nothing : List ℕ → Bool
is_nothing [] = true
is_nothing (byte ∷ bytes) = false

-- a file is read until nothing comes, and a character device once
abbrev pub is_read_out : Kind → List ℕ → Bool
is_read_out kind bytes = is_chr kind || is_nothing bytes

-- `r`, and `w,creat,append`
abbrev pub to_read : OpenFlags
to_read = flags 1

abbrev pub to_append : OpenFlags
to_append = flags 38

-- the file is closed; then the command goes on with the text, or ends where that was refused
abbrev pub closed : List ℕ → List ℕ → List ℕ → (List ℕ → Talk) → Reply → Talk
closed command word text go reply.Done = go text
closed command word text go (reply.Refused errno) = fails_after text command word errno
closed command word text go _ = shows text

abbrev pub closes : List ℕ → List ℕ → HoldId → List ℕ → (List ℕ → Talk) → Talk
closes command word hold text go = ask_holding (step.Close hold ∷ []) (step.Close hold) (closed command word text go)

-- what `cat` has read: up to which offset of the file at hand, and the text of all files so far
pub record CatStage : Type 0 where
  pub offset : ℕ
  pub text : List ℕ

abbrev pub cat_step : FileId → CatStage → Step
cat_step file stage = step.Read file stage.offset PAGE_SIZE

abbrev pub cat_got : List ℕ → HoldId → Kind → (List ℕ → Talk) → CatStage → List ℕ → Round CatStage
cat_got word hold kind go stage bytes =
    if is_read_out kind bytes
    then After (closes (codes "cat") word hold (stage.text ++ bytes) go)
    else Again (record { offset = moved_offset stage.offset (length bytes); text = stage.text ++ bytes })

abbrev pub cat_round : List ℕ → HoldId → Kind → (List ℕ → Talk) → CatStage → Reply → Round CatStage
cat_round word hold kind go stage (reply.Got bytes) = cat_got word hold kind go stage bytes
cat_round word hold kind go stage (reply.Refused errno) =
    After (closes (codes "cat") word hold (with_error stage.text (codes "cat") word errno) shows)
cat_round word hold kind go stage _ = After (shows stage.text)

abbrev pub cat_opened : List ℕ → List ℕ → (List ℕ → Talk) → Reply → Talk
cat_opened text word go (reply.Opened hold file kind) =
    ask_in_turn (step.Close hold ∷ []) (cat_step file) (cat_round word hold kind go) (record { offset = 0; text = text })
cat_opened text word go (reply.Refused errno) = fails_after text (codes "cat") word errno
cat_opened text word go _ = shows text

-- one file after the other, behind the text so far; none is tried behind one that is refused
abbrev pub cat_files : List (List ℕ) → List ℕ → Talk
cat_files [] text = shows text
cat_files (word ∷ words) text = ask (step.Open word to_read) (cat_opened text word (cat_files words))

abbrev pub cat : List (List ℕ) → Talk
cat [] = usage (codes "cat PATH..")
cat (word ∷ words) = cat_files (word ∷ words) []

-- what is left of the text is appended
abbrev pub echo_left : List ℕ → HoldId → List ℕ → Round (List ℕ)
echo_left word hold [] = After (closes (codes "echo") word hold [] shows)
echo_left word hold (byte ∷ bytes) = Again (byte ∷ bytes)

abbrev pub echo_round : List ℕ → HoldId → List ℕ → Reply → Round (List ℕ)
echo_round word hold bytes (reply.Count n end) = echo_left word hold (drop n bytes)
echo_round word hold bytes (reply.Refused errno) =
    After (closes (codes "echo") word hold (with_error [] (codes "echo") word errno) shows)
echo_round word hold bytes _ = After (shows [])

-- a text is appended to a file; no text is no step
abbrev pub echo_text : List ℕ → HoldId → FileId → Round (List ℕ) → Talk
echo_text word hold file (After go) = go
echo_text word hold file (Again bytes) = ask_in_turn (step.Close hold ∷ []) (λ rest. step.Append file rest) (echo_round word hold) bytes

abbrev pub echo_opened : List ℕ → List ℕ → Reply → Talk
echo_opened text word (reply.Opened hold file kind) = echo_text word hold file (echo_left word hold text)
echo_opened text word (reply.Refused errno) = fails (codes "echo") word errno
echo_opened text word _ = shows []

abbrev pub echo : List (List ℕ) → Talk
echo [] = shows (line [])
echo (text ∷ []) = shows (line text)
echo (text ∷ file ∷ []) = ask (step.Open file to_append) (echo_opened text file)
echo (text ∷ file ∷ more ∷ words) = usage (codes "echo [TEXT [FILE]]")
