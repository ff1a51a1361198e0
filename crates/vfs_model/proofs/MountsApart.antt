-- In a consistent world no two points have mounts of one number.
use Rattle.std.proofs.Common.{◌≡◌, ℕ, zero, suc, ◌<◌, List, [], ◌∷◌, length, slice_index_or, refl, sym, ap, ◌∙◌, arith}
use Rattle.vfs_base.specs.Path.{Path}
use Rattle.vfs_model.proofs.CoveringMounts.{covering_mount-longest}
use Rattle.vfs_model.specs.Consistency.{FoldersStand}
use Rattle.vfs_model.specs.Laws.{MountsApart}
use Rattle.vfs_model.specs.Lookup.{covering_mount}
use Rattle.vfs_model.specs.Namespace.{all_mounts}
use Rattle.vfs_model.specs.declared.namespace.Mount.{Mount}
use Rattle.vfs_model.specs.declared.namespace.Namespace.{Namespace}

-- what stands in a list at a place does not hang on the default
any-default : (mounts : List Mount) (place : ℕ) (d e : Mount) → place < length mounts → slice_index_or mounts place d ≡ slice_index_or mounts place e
any-default [] place d e l = absurd (omega arith)
any-default (mount ∷ mounts) zero d e l = refl
any-default (mount ∷ mounts) (suc place) d e l = any-default mounts place d e (omega arith)

one-mount : (n : Namespace) → FoldersStand n → (p q : Path) → (covering_mount n p).number ≡ (covering_mount n q).number → covering_mount n p ≡ covering_mount n q
one-mount n stand p q e =
    let a = (covering_mount-longest n p stand.root.0).among in
    let b = (covering_mount-longest n q stand.root.0).among in
    let there : slice_index_or (all_mounts n) b.0 (covering_mount n p) ≡ covering_mount n q =
    any-default (all_mounts n) b.0 (covering_mount n p) (covering_mount n q) b.1 ∙ b.2 in
    let place : a.0 ≡ b.0 = stand.numbers_differ a.0 b.0 (covering_mount n p) a.1 b.1
    (ap (λ m. m.number) a.2 ∙ e ∙ sym (ap (λ m. m.number) there)) in
    sym a.2 ∙ ap (λ place. slice_index_or (all_mounts n) place (covering_mount n p)) place ∙ there

pub standing-apart : (n : Namespace) → FoldersStand n → MountsApart n
standing-apart n stand = record { root = stand.root.0; own = λ p q e. ap (λ m. m.point) (one-mount n stand p q e) }
