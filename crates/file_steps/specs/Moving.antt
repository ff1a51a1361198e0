-- How a step moves the bytes of a file that it names.
use Rattle.std.specs.Prelude.{◌≡◌, ℕ, List, is_ok, if◌then◌else◌}
use Rattle.vfs_base.specs.declared.kinds.Kind.{Kind}
use Rattle.vfs_base.specs.declared.reply.Reply.{Reply}
use Rattle.vfs_base.specs.declared.step.Step.{Step}
use Rattle.vfs_model.specs.FileMoves.{move_bytes}
use Rattle.vfs_model.specs.FileStep.{bytes_count, bytes_refusals}
use Rattle.vfs_model.specs.declared.world.FileState.TheVariants as file

-- how many bytes a step moves in a file of bytes, if it names that file
abbrev pub moved_bytes : Kind → ℕ → ℕ → Step → ℕ
moved_bytes kind capacity size asked = if is_ok (bytes_refusals kind capacity size asked) then bytes_count capacity size asked else 0

-- a step that moves so many bytes of a file answers this and leaves these bytes, whatever the file's generation
abbrev pub MovesBytes : Kind → ℕ → List ℕ → List ℕ → Step → ℕ → Reply → Type 0
MovesBytes kind capacity old new asked count answer =
    (generation : ℕ) → move_bytes generation kind capacity old asked count ≡ record { reply = answer; next = file.Bytes generation kind capacity new }
