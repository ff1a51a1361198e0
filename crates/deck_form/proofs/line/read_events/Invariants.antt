use Rattle.std.proofs.Common.{◌≡◌, filter, drop, length}
use Rattle.std.specs.List.{slice_split}
use Rattle.vfs_model.specs.DeckLine.{events_of, has_bytes}
use Rattle.vfs_model.specs.Manifest.{is_space}
use Rattle.deck_form.proofs.PartLemmas.{events_with}
use Rattle.deck_form.proofs.line.read_events.Given as goal

abbrev pub invariant-loop-text : goal.invariant-loop-text
invariant-loop-text l =
    let parts = slice_split is_space l.events in
    events_with l.list (drop (length l.yielded) parts) ≡ events_of (filter has_bytes parts)
