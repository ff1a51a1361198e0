use Rattle.std.proofs.Common.{◌≡◌, drop, length}
use Rattle.std.specs.List.{slice_split}
use Rattle.vfs_model.specs.Manifest.{is_space}
use Rattle.vfs_model.specs.Schedule.{entries_from}
use Rattle.deck_form.proofs.PartLemmas.{entries_with}
use Rattle.deck_form.proofs.schedule.read_entries.Given as goal

abbrev pub invariant-loop-text : goal.invariant-loop-text
invariant-loop-text l =
    let parts = slice_split is_space l.texts in
    entries_with l.entries (drop (length l.yielded) parts) ≡ entries_from 0 parts
