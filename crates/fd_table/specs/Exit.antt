-- Which open files a session that leaves gives up.
use Rattle.std.specs.Prelude.{ℕ, Option, Some, None, option_map, List, [], ◌∷◌, slice_index_or, if◌then◌else◌}
use Rattle.std.specs.List.{list_any}
use Rattle.vfs_base.specs.declared.ids.HoldId.{HoldId}
use Rattle.vfs_model.specs.OpenFiles.{leads_to}
use Rattle.vfs_model.specs.declared.shell_state.OpenFile.{OpenFile}

-- the reference of the first descriptor's open file, where no descriptor behind it leads there
abbrev pub hold_of_first : List (Option OpenFile) → List (Option ℕ) → Option HoldId
hold_of_first files [] = None
hold_of_first files (None ∷ later) = None
hold_of_first files (Some number ∷ later) =
    if list_any (leads_to number) later then None else option_map (λ file. file.hold) (slice_index_or files number None)
