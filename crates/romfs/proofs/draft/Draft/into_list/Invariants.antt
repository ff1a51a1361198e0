use Rattle.std.proofs.Common.{◌≡◌, ◌++◌}
use Rattle.romfs.proofs.draft.Draft.into_list.Given as goal

abbrev pub invariant-loop-item : goal.invariant-loop-item
invariant-loop-item l = l.list ++ l.item-iterator ≡ l.fn.self.items
