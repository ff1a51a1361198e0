-- A mount without nodes on a folder without nodes changes no path.
use Rattle.std.proofs.Common.{◌≡◌, ℕ, ◌<◌, true, false, ◌==◌, Some, List, [], ◌∷◌, ◌++◌, length, drop, refl, sym, ap, ◌∙◌}
use Rattle.std.proofs.lemmas.List.{append-nil}
use Rattle.std.specs.FinMap.Entries.{find as value_at}
use Rattle.std.specs.List.{list_any}
use Rattle.vfs_base.specs.Path.{Path, path_cmp}
use Rattle.vfs_base.specs.declared.kinds.NodeKind.TheVariants as node
use Rattle.vfs_model.proofs.MountLaws.{mounted-below, mounted-beside}
use Rattle.vfs_model.proofs.MovedLaws.{below-longer, none-below}
use Rattle.vfs_model.proofs.NodeLaws.{own_node}
use Rattle.vfs_model.proofs.RenameLaws.{covering-below, rest-below}
use Rattle.vfs_model.proofs.Trees.{prefix-splits}
use Rattle.vfs_model.specs.Laws.{MountsApart, with_mount}
use Rattle.vfs_model.specs.Lookup.{covering_mount, has_nodes, is_prefix, node_at, node_in, rest_of}
use Rattle.vfs_model.specs.Namespace.{Tree, all_mounts, tree_of}
use Rattle.vfs_model.specs.declared.namespace.Mount.{Mount}
use Rattle.vfs_model.specs.declared.namespace.Namespace.{Namespace}

node_in-longer : (tree : Tree) (front : Path) (name : List ℕ) (rest : Path) → node_in tree (front ++ name ∷ rest) ≡ value_at path_cmp (front ++ name ∷ rest) tree
node_in-longer tree [] name rest = refl
node_in-longer tree (first ∷ front) name rest = refl

-- an empty tree has what an empty folder has
below-point : (n : Namespace) (point rest : Path) → MountsApart n → list_any (λ other. is_prefix point other.point) (all_mounts n) ≡ false →
    node_at n point ≡ Some node.Dir → has_nodes n point ≡ false → node_in [] rest ≡ node_at n (point ++ rest)
below-point n point [] apart h d e = sym d ∙ ap (node_at n) (sym (append-nil point))
below-point n point (name ∷ rest) apart h d e =
    sym (none-below (rest_of n point) (rest_of n point ++ name ∷ rest) (tree_of n (covering_mount n point).number) e (below-longer (rest_of n point) name rest))
    ∙ sym (node_in-longer (tree_of n (covering_mount n point).number) (rest_of n point) name rest)
    ∙ ap (node_in (tree_of n (covering_mount n point).number)) (sym (rest-below n point (name ∷ rest) apart h))
    ∙ own_node n (covering_mount n point).number (point ++ name ∷ rest) (ap (λ m. m.number) (covering-below n point (name ∷ rest) h))

pub empty-changes-nothing : (n : Namespace) (mount : Mount) (path : Path) → MountsApart n →
    list_any (λ other. is_prefix mount.point other.point) (all_mounts n) ≡ false →
    list_any (λ other. other.number == mount.number) (all_mounts n) ≡ false → mount.number < length n.trees →
    node_at n mount.point ≡ Some node.Dir → has_nodes n mount.point ≡ false →
    node_at (with_mount n mount []) path ≡ node_at n path
empty-changes-nothing n mount path apart h k l d e = elim (is_prefix mount.point path) as (λ b. is_prefix mount.point path ≡ b → node_at (with_mount n mount []) path ≡ node_at n path) [
  | true ↦ λ p. mounted-below n mount [] path apart.root h l p
      ∙ below-point n mount.point (drop (length mount.point) path) apart h d e
      ∙ ap (node_at n) (sym (prefix-splits mount.point path p))
  | false ↦ λ p. mounted-beside n mount [] path k p
] refl
