-- A walk along the prefixes of a path.
use Rattle.std.proofs.Common.{◌≡◌, ℕ, ◌+◌, ◌<◌, [], length, take, drop, ap, refl, sym, ◌∙◌}
use Rattle.std.specs.Prelude.{Option, None, Some}
use Rattle.std.proofs.lemmas.List.{drop_more, take_more}
use Rattle.vfs_base.specs.Path.{Path}
use Rattle.vfs_base.specs.declared.errno.Errno.{Errno}
use Rattle.vfs_base.specs.declared.kinds.NodeKind.{NodeKind}
use Rattle.vfs_base.specs.declared.kinds.NodeKind.TheVariants as node
use Rattle.vfs_model.specs.Lookup.{node_at, prefix_refusal, walk_refusal_from}
use Rattle.vfs_model.specs.declared.namespace.Namespace.{Namespace}

-- one prefix further
pub walk_on : (n : Namespace) (path : Path) (i : ℕ) → i < length path →
    walk_refusal_from n (take i path) (drop i path)
    ≡ prefix_refusal (node_at n (take i path)) (walk_refusal_from n (take (i + 1) path) (drop (i + 1) path))
walk_on n path i h =
    ap (walk_refusal_from n (take i path)) (drop_more path i [] h)
    ∙ ap (λ front. prefix_refusal (node_at n (take i path)) (walk_refusal_from n front (drop (i + 1) path))) (sym (take_more path i [] h))

-- a walk that meets a folder goes on
pub passes : (there : Option NodeKind) (later : Option Errno) → prefix_refusal there None ≡ None → prefix_refusal there later ≡ later
passes None later e = absurd (cc)
passes (Some node.Dir) later e = refl
passes (Some (node.File file kind)) later e = absurd (cc)

-- a walk that is refused ends there
pub ends : (there : Option NodeKind) (later : Option Errno) (errno : Errno) →
    prefix_refusal there None ≡ Some errno → prefix_refusal there later ≡ Some errno
ends None later errno e = e
ends (Some node.Dir) later errno e = absurd (cc)
ends (Some (node.File file kind)) later errno e = e
