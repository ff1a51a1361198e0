-- What stands below the point of a new mount: what it begins with, and nothing else.
use Rattle.std.proofs.Common.{◌≡◌, ◌≢◌, ℕ, Bool, true, false, cond, Option, Some, None, option_map, List, [], ◌∷◌, ◌++◌, map, fold, Result, Ok, Err, refl, sym, ap, subst, ◌∙◌, arith}
use Rattle.std.specs.FinMap.Entries.{find as value_at}
use Rattle.std.specs.Ordering.{eq_by_cmp}
use Rattle.vfs_base.specs.Path.{Path, path_cmp}
use Rattle.vfs_base.specs.PathLaws.{path_cmp_exact}
use Rattle.vfs_base.specs.declared.entry.Mark.TheVariants as mark
use Rattle.vfs_base.specs.declared.entry.Who.TheVariants as who
use Rattle.vfs_base.specs.declared.errno.Errno.{Errno}
use Rattle.vfs_base.specs.declared.errno.Errno.TheVariants as errno
use Rattle.vfs_base.specs.declared.ids.FileId.{FileId}
use Rattle.vfs_base.specs.declared.kinds.FsType.{FsType}
use Rattle.vfs_base.specs.declared.kinds.NodeKind.{NodeKind}
use Rattle.vfs_base.specs.declared.kinds.NodeKind.TheVariants as node
use Rattle.vfs_base.specs.declared.reply.Reply.TheVariants as reply
use Rattle.vfs_base.specs.declared.step.Step.TheVariants as step
use Rattle.vfs_model.proofs.Rests.{changed-namespace}
use Rattle.vfs_model.specs.Boxes.{IsConsistent}
use Rattle.vfs_model.specs.Chain.{◌>>=◌, ◌>>◌, wanted}
use Rattle.vfs_model.specs.Content.{content_of, fs_type_of}
use Rattle.vfs_model.specs.FileLife.{Rows}
use Rattle.vfs_model.specs.Homes.{bound_file, change_row, file_at}
use Rattle.vfs_model.specs.Lookup.{asked_path, node_at, node_in}
use Rattle.vfs_model.specs.MountStep.{add_mount, mount_at, mount_refusals, mount_step}
use Rattle.vfs_model.specs.NameSteps.{done}
use Rattle.vfs_model.specs.Namespace.{Tree}
use Rattle.vfs_model.specs.NamespaceOutcome.{NamespaceOutcome, settled}
use Rattle.vfs_model.specs.NamespaceStep.{namespace_step}
use Rattle.vfs_model.specs.OpenStep.{kind_of}
use Rattle.vfs_model.specs.World.{namespace_part, world_step}
use Rattle.vfs_model.specs.declared.namespace.Mount.{Mount}
use Rattle.vfs_model.specs.declared.namespace.Origin.{Origin}
use Rattle.vfs_model.specs.declared.world.WorldState.{WorldState}
use Rattle.world_laws.proofs.lists.Lists.{equal-is}
use Rattle.world_laws.proofs.parts.HomesKeeping.{agrees-of}
use Rattle.world_laws.proofs.parts.Standing.{Nothing, Stands, stands-of}
use Rattle.world_laws.proofs.steps.Filling.{content_shape, node_shape, shape-none}
use Rattle.world_laws.proofs.steps.MountEnd.{MayBegin, added-kept, added-node, added-shape, added-shown, all, may-begin, new_mount}

-- a list by path whose values are mapped
pub mapped-at : {X Y : Type 0} (f : Path → X → Y) (p : Path) (entries : List (Path × X)) →
    value_at path_cmp p (map (λ entry. (entry.0, f entry.0 entry.1)) entries) ≡ option_map (f p) (value_at path_cmp p entries)
mapped-at f p [] = refl
mapped-at f p ((q, x) ∷ entries) = by (eq_by_cmp path_cmp p q) refl (mapped-at f p entries)
  where
    by : (t : Bool) → eq_by_cmp path_cmp p q ≡ t →
        value_at path_cmp p (map (λ entry. (entry.0, f entry.0 entry.1)) entries) ≡ option_map (f p) (value_at path_cmp p entries) →
        value_at path_cmp p (map (λ entry. (entry.0, f entry.0 entry.1)) ((q, x) ∷ entries)) ≡ option_map (f p) (value_at path_cmp p ((q, x) ∷ entries))
    by true e rest =
        ap (λ b. cond b (Some (f q x)) (value_at path_cmp p (map (λ entry. (entry.0, f entry.0 entry.1)) entries))) e
        ∙ ap (λ r. Some (f r x)) (sym (path_cmp_exact p q (equal-is (path_cmp p q) e)))
        ∙ ap (λ b. option_map (f p) (cond b (Some x) (value_at path_cmp p entries))) (sym e)
    by false e rest =
        ap (λ b. cond b (Some (f q x)) (value_at path_cmp p (map (λ entry. (entry.0, f entry.0 entry.1)) entries))) e
        ∙ rest
        ∙ ap (λ b. option_map (f p) (cond b (Some x) (value_at path_cmp p entries))) (sym e)

shape-folder : (found : Option NodeKind) → node_shape found ≡ 1 → found ≡ Some node.Dir
shape-folder None h = absurd (omega (arith, h))
shape-folder (Some node.Dir) h = refl
shape-folder (Some (node.File id kind)) h = absurd (omega (arith, h))

-- below its root a tree has its nodes by path
pub below-root : (tree : Tree) (p : Path) → p ≢ [] → node_in tree p ≡ value_at path_cmp p tree
below-root tree [] h = absurd (h refl)
below-root tree (name ∷ names) h = refl

-- the world in which a new mount stands
abbrev pub mounted_world : WorldState → Path → FsType → List ℕ → WorldState
mounted_world w path asked source =
    let rows = add_mount w.namespace (new_mount w.namespace path asked source) in
    fold change_row (record w { namespace = rows.next }) rows.changes

-- the root of the new mount is a folder
pub root-there : (w : WorldState) (path : Path) (asked : FsType) (source : List ℕ) → IsConsistent w → MayBegin w.namespace (new_mount w.namespace path asked source) →
    node_at (mounted_world w path asked source).namespace (path ++ []) ≡ Some node.Dir
root-there w path asked source c begin =
    let mount = new_mount w.namespace path asked source in
    let rows = add_mount w.namespace mount in
    ap (λ n. node_at n (path ++ [])) (changed-namespace rows.changes (record w { namespace = rows.next }))
    ∙ added-node w.namespace mount (stands-of w c) begin.may begin.taken begin.room begin.away []

module _ (w : WorldState) (path : Path) (asked : FsType) (source : List ℕ) (p : Path) (c : IsConsistent w) (some : p ≢ [])
    (begin : MayBegin w.namespace (new_mount w.namespace path asked source)) where
  s : Stands Nothing w.namespace
  s = stands-of w c

  abbrev mount : Mount
  mount = new_mount w.namespace path asked source

  abbrev rows : Rows
  rows = add_mount w.namespace (new_mount w.namespace path asked source)

  abbrev start : WorldState
  start = record w { namespace = (add_mount w.namespace (new_mount w.namespace path asked source)).next }

  abbrev out : WorldState
  out = mounted_world w path asked source

  abbrev final : Tree
  final = (all w.namespace mount s begin.may begin.taken begin.room begin.away).final

  -- what stands there is what the mount was filled with
  there : node_at out.namespace (path ++ p) ≡ value_at path_cmp p final
  there =
      ap (λ n. node_at n (path ++ p)) (changed-namespace rows.changes start)
      ∙ added-node w.namespace mount s begin.may begin.taken begin.room begin.away p ∙ below-root final p some

  shape : node_shape (value_at path_cmp p final) ≡ content_shape (value_at path_cmp p (content_of w.namespace asked source))
  shape = added-shape w.namespace mount s begin.may begin.taken begin.room begin.away p

  pub nothing-there : value_at path_cmp p (content_of w.namespace asked source) ≡ None → node_at out.namespace (path ++ p) ≡ None
  nothing-there e = there ∙ shape-none mount (value_at path_cmp p final) (shape ∙ ap content_shape e)

  pub folder-there : value_at path_cmp p (content_of w.namespace asked source) ≡ Some None → node_at out.namespace (path ++ p) ≡ Some node.Dir
  folder-there e = there ∙ shape-folder (value_at path_cmp p final) (shape ∙ ap content_shape e)

  pub file-there : (begins : Origin) → value_at path_cmp p (content_of w.namespace asked source) ≡ Some (Some begins) →
      (id : FileId) × (node_at out.namespace (path ++ p) ≡ Some (node.File id (kind_of asked))) × (file_at out id.row ≡ bound_file start id.generation begins)
  file-there begins e =
      let kept = added-kept w.namespace mount s begin.may begin.taken begin.room begin.away in
      let held = added-shown w.namespace mount s begin.may begin.taken begin.room begin.away start (agrees-of w rows.next c kept.pages) p begins e in
      (held.id, there ∙ held.there, held.is)

-- what holds of the world in which the mount stands holds where the step is answered, and what was asked is all that is needed
module _ (w : WorldState) (source point_text type_text : List ℕ) (path : Path) (asked : FsType) (c : IsConsistent w) (P : WorldState → Type 0)
    (stands : MayBegin w.namespace (new_mount w.namespace path asked source) → P (mounted_world w path asked source)) where
  abbrev Holds : Result NamespaceOutcome Errno → Type 0
  Holds answer =
      let part = namespace_part w (settled w.namespace answer) (step.Mount source point_text type_text) in
      part.reply ≡ reply.Done → P part.next

  -- where the step is refused, nothing is claimed
  refused-or-mounted : (r : Result (Unit {0}) Errno) → mount_refusals w.namespace path asked source ≡ r → Holds (r >> done (add_mount w.namespace (new_mount w.namespace path asked source)))
  refused-or-mounted (Ok passed) h e = stands (may-begin w.namespace path asked source (stands-of w c) h)
  refused-or-mounted (Err errno) h e = absurd (cc)

  answered : (k : ℕ) → asked_path w.namespace k point_text ≡ Ok path → fs_type_of type_text ≡ Some asked → Holds (mount_step w.namespace k source point_text type_text)
  unfolding mount_at
  answered k named known =
      let n = w.namespace in
      let is : mount_step n k source point_text type_text ≡ mount_at n path asked source =
      ap (λ found. found >>= (λ q. wanted errno.ENODEV (fs_type_of type_text) >>= (λ kind. mount_at n q kind source))) named
      ∙ ap (λ found. wanted errno.ENODEV found >>= (λ kind. mount_at n path kind source)) known in
      subst Holds (sym is) (refused-or-mounted (mount_refusals n path asked source) refl)

  pub where-mounted : (k : ℕ) → asked_path w.namespace k point_text ≡ Ok path → fs_type_of type_text ≡ Some asked →
      (world_step w (who.Session k) (step.Mount source point_text type_text) mark.Clear).reply ≡ reply.Done →
      P (world_step w (who.Session k) (step.Mount source point_text type_text) mark.Clear).next
  unfolding world_step namespace_step
  where-mounted k named known = λ e. answered k named known e
