-- Nodes that are carried to their new paths, one at a time.
use Rattle.std.proofs.Common.{◌≡◌, [], ◌∷◌, ◌++◌, refl, length, drop}
use Rattle.std.specs.Prelude.{true, false, cond, fold, map, filter}
use Rattle.vfs_base.specs.Path.{Path}
use Rattle.vfs_base.specs.declared.kinds.NodeKind.{NodeKind}
use Rattle.vfs_model.specs.Lookup.{is_prefix}
use Rattle.vfs_model.specs.Namespace.{Tree}
use Rattle.vfs_model.specs.RenameStep.{carried, put_entry}

pub carried_on : (old new : Path) (next : Tree) (entry : Path × NodeKind) (tree : Tree) →
    fold put_entry next (carried old new (entry ∷ tree))
    ≡ fold put_entry (fold put_entry next (carried old new (entry ∷ []))) (carried old new tree)
carried_on old new next entry tree =
    let there : Path × NodeKind = (new ++ drop (length old) entry.0, entry.1) in
    elim (is_prefix old entry.0) as (λ b.
    fold put_entry next (map (λ entry. (new ++ drop (length old) entry.0, entry.1)) (cond b (entry ∷ filter (λ entry. is_prefix old entry.0) tree) (filter (λ entry. is_prefix old entry.0) tree)))
    ≡ fold put_entry (fold put_entry next (map (λ entry. (new ++ drop (length old) entry.0, entry.1)) (cond b (entry ∷ []) []))) (carried old new tree)) [
      | true ↦ refl
      | false ↦ refl
    ]
