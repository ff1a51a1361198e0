-- Parts of the texts and words of commands.
use Rattle.std.specs.Prelude.{◌≡◌, ℕ, ◌+◌, ◌<◌, ◌==◌, bit_and, Bool, true, false, Option, Some, None, List, [], ◌++◌, codes, decimal, if◌then◌else◌}
use Rattle.std.specs.List.{slice_split}
use Rattle.std.specs.Option.{option_and_then}
use Rattle.vfs_base.specs.declared.reply.MountLine.{MountLine}
use Rattle.vfs_model.specs.CommandWords.{extra_bit}
use Rattle.vfs_model.specs.MountCommands.{type_name}

-- the type of a mount and its numbers
abbrev pub counts_text : MountLine → List ℕ
counts_text mount = type_name mount.fs ++ codes " " ++ decimal mount.nodes ++ codes " " ++ decimal mount.spare

-- the parts of a text between its commas
abbrev pub comma_parts : List ℕ → List (List ℕ)
comma_parts text = slice_split (λ byte. byte == 44) text

-- the parts of a text, where there is one
abbrev pub more_parts : Bool → List ℕ → List (List ℕ)
more_parts true text = comma_parts text
more_parts false text = []

-- the bits with that of one more word, which is not there yet
abbrev pub with_extra : ℕ → List ℕ → Option ℕ
with_extra bits word = option_and_then (λ bit. if bit_and bits bit == bit then None else Some (bits + bit)) (extra_bit word)

-- a bit that is not there yet can be added to the bits of flags
abbrev pub FitsBeside : ℕ → Type 0
FitsBeside bit = (bits : ℕ) → bits < 64 → (bit_and bits bit == bit) ≡ false → bits + bit < 64
