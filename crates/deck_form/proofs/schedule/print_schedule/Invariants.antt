use Rattle.std.proofs.Common.{◌≡◌, ◌++◌, drop}
use Rattle.std.specs.List.{flat_map}
use Rattle.vfs_model.specs.Schedule.{entry_word, schedule_text}
use Rattle.deck_form.proofs.schedule.print_schedule.Given as goal

abbrev pub invariant-loop-entry : goal.invariant-loop-entry
invariant-loop-entry l = l.line ++ flat_map entry_word (drop l.entry-index l.entries) ≡ schedule_text l.entries
