-- Laws of the bytes of files.
use Rattle.std.specs.Prelude.{◌≡◌, ◌≢◌, ℕ, ◌+◌, ◌-◌, ◌<◌, ◌≤◌, min, Some, List, ◌∷◌, length, take, drop, replicate}
use Rattle.vfs_base.specs.declared.entry.Mark.{Mark}
use Rattle.vfs_base.specs.declared.entry.Mark.TheVariants as mark
use Rattle.vfs_base.specs.declared.entry.Who.{Who}
use Rattle.vfs_base.specs.declared.ids.FileId.{FileId}
use Rattle.vfs_base.specs.declared.reply.Reply.TheVariants as reply
use Rattle.vfs_base.specs.declared.step.Step.{Step}
use Rattle.vfs_base.specs.declared.step.Step.TheVariants as step
use Rattle.vfs_model.specs.FileMoves.{file_step}
use Rattle.vfs_model.specs.FileStep.{written_at}
use Rattle.vfs_model.specs.Homes.{file_at}
use Rattle.vfs_model.specs.World.{step_row, world_step}
use Rattle.vfs_model.specs.declared.world.FileState.{FileState}
use Rattle.vfs_model.specs.declared.world.WorldState.{WorldState}

-- what a write leaves: its piece at its offset, zeros in a gap before it, and all other bytes as before
pub record WritesPiece (off : ℕ) (piece bytes written : List ℕ) : Type 0 where
  pub there : take (length piece) (drop off written) ≡ piece
  pub gap : length bytes ≤ off → take (off - length bytes) (drop (length bytes) written) ≡ replicate (off - length bytes) 0
  pub before : take (min off (length bytes)) written ≡ take (min off (length bytes)) bytes
  pub behind : drop (off + length piece) written ≡ drop (off + length piece) bytes

abbrev pub WriteMovesItsPiece : Type 0
WriteMovesItsPiece = (off byte : ℕ) (piece bytes : List ℕ) → WritesPiece off (byte ∷ piece) bytes (written_at off (byte ∷ piece) bytes)

-- a piece that was written whole is read again
abbrev pub WrittenIsRead : Type 0
WrittenIsRead = (f : FileState) (id : FileId) (off : ℕ) (piece : List ℕ) →
    (file_step f (step.Write id off piece) mark.Clear).reply ≡ reply.Count (length piece) (off + length piece) →
    (file_step (file_step f (step.Write id off piece) mark.Clear).next (step.Read id off (length piece)) mark.Clear).reply ≡ reply.Got piece

-- what a step of one row leaves of all else
pub record ChangesOneRow (row : ℕ) (w v : WorldState) : Type 0 where
  pub namespace : v.namespace ≡ w.namespace
  pub homes : v.homes ≡ w.homes
  pub files : (other : ℕ) → 0 < other → other ≢ row → file_at v other ≡ file_at w other

-- a step of one file changes no other
abbrev pub StepChangesOneFile : Type 0
StepChangesOneFile = (w : WorldState) (asker : Who) (asked : Step) (m : Mark) (row : ℕ) → step_row asked ≡ Some row → 0 < row →
    ChangesOneRow row w (world_step w asker asked m).next
