-- A file that is made stands at its path.
use Rattle.std.proofs.Common.{◌≡◌, ◌≢◌, ℕ, ◌<◌, [], length, refl, ap, ◌∙◌}
use Rattle.std.specs.Prelude.{true, false, is_some, ◌-◌, ◌+◌, Some, slice_set}
use Rattle.vfs_base.specs.Path.{Path}
use Rattle.vfs_model.proofs.NodeLaws.{put-here}
use Rattle.vfs_model.specs.FileLife.{after_taking, bind_row}
use Rattle.vfs_model.specs.Lookup.{covering_mount, is_file, is_file_node, is_there, node_at, node_in, rest_of}
use Rattle.vfs_model.specs.Namespace.{generation_at, tree_of}
use Rattle.vfs_model.specs.OpenStep.{make_file}
use Rattle.vfs_model.specs.declared.namespace.Backing.TheVariants as backing
use Rattle.vfs_model.specs.declared.namespace.LiveFile.{LiveFile}
use Rattle.vfs_model.specs.declared.namespace.Namespace.{Namespace}

-- a row that is bound changes no node
bound_node : (n : Namespace) (row : ℕ) (life : LiveFile) (q : Path) → node_at (bind_row n row life) q ≡ node_at n q
unfolding bind_row node_at covering_mount
bound_node n row life q =
    elim life.backing as (λ b. node_at (after_taking (record n {
      live_files = slice_set n.live_files (row - 1) (Some life);
      generations = slice_set n.generations (row - 1) (generation_at n row + 1);
    }) b) q ≡ node_at n q) [
      | backing.Memory ↦ refl
      | backing.Cell volume cell ↦ refl
      | backing.Device device ↦ refl
    ]

-- where nothing stands, the path is not that of its mount's root
absent_below : (n : Namespace) (path : Path) → is_there n path ≡ false → rest_of n path ≢ []
unfolding node_at
absent_below n path h e =
    let there : is_there n path ≡ true = ap (λ rest. is_some (node_in (tree_of n (covering_mount n path).number) rest)) e in
    absurd (cc (h, there))

pub made_is_file : (n : Namespace) (path : Path) → (covering_mount n path).number < length n.trees → is_there n path ≡ false →
    is_file (make_file n path).next path ≡ true
unfolding make_file
made_is_file n path l h =
    ap is_file_node (bound_node _ _ _ path ∙ put-here n path _ l (absent_below n path h))
