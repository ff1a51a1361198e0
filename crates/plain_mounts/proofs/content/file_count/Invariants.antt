use Rattle.std.proofs.Common.{◌≡◌, ◌+◌, ◌≤◌, cond, drop, fold}
use Rattle.std.specs.Prelude.{is_some}
use Rattle.vfs_model.specs.Content.{file_count}
use Rattle.plain_mounts.proofs.content.file_count.Given as goal

abbrev pub invariant-loop-entry : goal.invariant-loop-entry
invariant-loop-entry l =
    (l.count ≤ l.entry-index)
    × (fold (λ count entry. count + cond (is_some entry.1) 1 0) l.count (drop l.entry-index l.content) ≡ file_count l.content)
