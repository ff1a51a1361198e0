-- A volume that is unmounted and mounted again shows the same files, whatever steps are taken in between.
use Rattle.std.proofs.Common.{◌≡◌, ℕ, false, Option, List, Some, None, [], ◌∷◌, ◌++◌, Ok, refl, sym, ap, subst, ◌∙◌}
use Rattle.std.specs.FinMap.Entries.{find as value_at}
use Rattle.std.specs.List.{list_any}
use Rattle.vfs_base.specs.Path.{Path, path_cmp}
use Rattle.vfs_base.specs.declared.entry.Mark.TheVariants as mark
use Rattle.vfs_base.specs.declared.entry.Who.TheVariants as who
use Rattle.vfs_base.specs.declared.kinds.FsType.TheVariants as fs
use Rattle.vfs_base.specs.declared.kinds.NodeKind.{NodeKind}
use Rattle.vfs_base.specs.declared.kinds.NodeKind.TheVariants as node
use Rattle.vfs_base.specs.declared.reply.Reply.TheVariants as reply
use Rattle.vfs_base.specs.declared.step.Step.TheVariants as step
use Rattle.vfs_model.proofs.Rests.{changed-namespace}
use Rattle.vfs_model.specs.Asking.{run_steps}
use Rattle.vfs_model.specs.Boxes.{IsConsistent}
use Rattle.vfs_model.specs.Content.{fs_type_of, is_mounted}
use Rattle.vfs_model.specs.FileLife.{volume_named}
use Rattle.vfs_model.specs.Lookup.{asked_path, node_at, node_in}
use Rattle.vfs_model.specs.Namespace.{tree_of}
use Rattle.vfs_model.specs.UmountSteps.{remove_mount}
use Rattle.vfs_model.specs.World.{world_step}
use Rattle.vfs_model.specs.declared.namespace.KeptNode.{KeptNode}
use Rattle.vfs_model.specs.declared.namespace.Mount.{Mount}
use Rattle.vfs_model.specs.declared.world.Homes.{Homes}
use Rattle.vfs_model.specs.declared.world.WorldState.{WorldState}
use Rattle.world_laws.proofs.parts.Standing.{stands-of}
use Rattle.world_laws.proofs.parts.Untouched.{is_of_volume}
use Rattle.world_laws.proofs.steps.KeptBytes.{left-consistent, unmounted_world}
use Rattle.world_laws.proofs.steps.MountEnd.{MayBegin, new_mount}
use Rattle.world_laws.proofs.steps.MountedNodes.{below-root, mounted_world, root-there, where-mounted}
use Rattle.world_laws.proofs.steps.MountRemoval.{removal}
use Rattle.world_laws.proofs.steps.Unmounting.{MayLeave, mounted-left}
use Rattle.world_laws.proofs.steps.VolumeMount.{shows-kept}
use Rattle.world_laws.proofs.steps.VolumeUmount.{below-point, keeps-node, point-is, where-unmounted}
use Rattle.world_laws.proofs.steps.VolumeSteps.{kept-stays-later}
use Rattle.world_laws.proofs.steps.WorldSteps.{run-consistent}
use Rattle.world_laws.specs.Keeping.{MayRun}
use Rattle.world_laws.specs.Mounted.{KeepsNode, KeepsSame, RemountedVolumeShowsItsFiles, ShowsKept, ShowsSame, UnmountedVolumeKeepsItsFiles, VolumeMountedLaterShowsItsFiles, kept_names, some_takes_volume}

-- what a volume keeps of a node, and shows of what it keeps
keeps-and-shows : (w v : WorldState) (homes : Homes) (volume : ℕ) (found : Option NodeKind) (name : Option KeptNode) (shown : Option NodeKind) →
    KeepsNode w found homes volume name → ShowsKept homes volume v name shown → ShowsSame w found v shown
keeps-and-shows w v homes volume None name shown keeps shows = subst (λ x. ShowsKept homes volume v x shown) keeps shows
keeps-and-shows w v homes volume (Some node.Dir) name shown keeps shows = subst (λ x. ShowsKept homes volume v x shown) keeps shows
keeps-and-shows w v homes volume (Some (node.File id shape)) name shown keeps shows =
    let file = subst (λ x. ShowsKept homes volume v x shown) keeps.2 shows in
    (file.0, file.1 ∙ ap (λ k. Some (node.File file.0 k)) (sym keeps.0), file.2 ∙ keeps.3)

-- the volume keeps what stood below the point of the mount
pub unmounted-volume : UnmountedVolumeKeepsItsFiles
unmounted-volume w k point_text mount path p c named found = λ cells e some.
    where-unmounted w point_text path mount c
    (λ v. KeepsNode w (node_at w.namespace (path ++ p)) v.homes (volume_named v.namespace mount.source) (value_at path_cmp p (kept_names v.namespace mount.source)))
    (λ may.
    subst (λ there. KeepsNode w there (unmounted_world w mount).homes (volume_named (unmounted_world w mount).namespace mount.source)
    (value_at path_cmp p (kept_names (unmounted_world w mount).namespace mount.source)))
    (sym (ap (λ q. node_at w.namespace (q ++ p)) (sym (point-is w.namespace path mount found)) ∙ below-point w mount c may p ∙ below-root (tree_of w.namespace mount.number) p some))
    (keeps-node w mount c may cells p (value_at path_cmp p (tree_of w.namespace mount.number)) refl))
    k named found e

-- the volume of a mount that goes is not mounted then
left-off : (w : WorldState) (mount : Mount) (c : IsConsistent w) → MayLeave w.namespace mount → mount.fs ≡ fs.Cell → is_mounted (unmounted_world w mount).namespace fs.Cell mount.source ≡ false
left-off w mount c may cells =
    let s = stands-of w c in
    let out = removal w.namespace mount [] s may in
    let rows = remove_mount (record { next = w.namespace; changes = [] }) mount in
    ap (λ n. is_mounted n fs.Cell mount.source) (changed-namespace rows.changes (record w { namespace = rows.next }))
    ∙ ap (λ root. list_any (is_of_volume mount.source) (root ∷ rows.next.mounts)) out.root
    ∙ ap (λ mounts. list_any (is_of_volume mount.source) (w.namespace.root ∷ mounts)) out.mounts
    ∙ mounted-left w.namespace mount s may fs.Cell cells

-- what a volume keeps of a node it keeps later
keeps-later : (w left later : WorldState) (source : List ℕ) (found : Option NodeKind) (name : Option KeptNode) → KeepsSame left later source →
    KeepsNode w found left.homes (volume_named left.namespace source) name → KeepsNode w found later.homes (volume_named later.namespace source) name
keeps-later w left later source None name same keeps = keeps
keeps-later w left later source (Some node.Dir) name same keeps = keeps
keeps-later w left later source (Some (node.File id shape)) name same keeps = (keeps.0, keeps.1, keeps.2, same.bytes keeps.1 ∙ keeps.3)

-- the mount goes, and its volume is mounted at this path, in a later world in which it keeps the same
module _ (w : WorldState) (mount : Mount) (again : Path) (c : IsConsistent w) (may : MayLeave w.namespace mount) (cells : mount.fs ≡ fs.Cell)
    (later : WorldState) (consistent : IsConsistent later) (same : KeepsSame (unmounted_world w mount) later mount.source)
    (begin : MayBegin later.namespace (new_mount later.namespace again fs.Cell mount.source)) where
  abbrev left : WorldState
  left = unmounted_world w mount

  abbrev back : WorldState
  back = mounted_world later again fs.Cell mount.source

  keeps-there : (p : Path) (found : Option NodeKind) → value_at path_cmp p (tree_of w.namespace mount.number) ≡ found →
      KeepsNode w found later.homes (volume_named later.namespace mount.source) (value_at path_cmp p (kept_names later.namespace mount.source))
  keeps-there p found e =
      subst (λ names. KeepsNode w found later.homes (volume_named later.namespace mount.source) (value_at path_cmp p names)) (sym same.names)
      (keeps-later w left later mount.source found (value_at path_cmp p (kept_names left.namespace mount.source)) same
      (keeps-node w mount c may cells p found e))

  shows-tree : (p : Path) → ShowsSame w (node_in (tree_of w.namespace mount.number) p) back (node_at back.namespace (again ++ p))
  shows-tree [] = root-there later again fs.Cell mount.source consistent begin
  shows-tree (name ∷ names) =
      keeps-and-shows w back later.homes (volume_named later.namespace mount.source) (value_at path_cmp (name ∷ names) (tree_of w.namespace mount.number))
      (value_at path_cmp (name ∷ names) (kept_names later.namespace mount.source)) (node_at back.namespace (again ++ name ∷ names))
      (keeps-there (name ∷ names) (value_at path_cmp (name ∷ names) (tree_of w.namespace mount.number)) refl)
      (shows-kept later again mount.source (name ∷ names) consistent (λ e. absurd (cc)) begin (value_at path_cmp (name ∷ names) (kept_names later.namespace mount.source)) refl)

  shows-again : (path p : Path) → mount.point ≡ path → ShowsSame w (node_at w.namespace (path ++ p)) back (node_at back.namespace (again ++ p))
  shows-again path p point =
      subst (λ there. ShowsSame w there back (node_at back.namespace (again ++ p)))
      (sym (ap (λ q. node_at w.namespace (q ++ p)) (sym point) ∙ below-point w mount c may p)) (shows-tree p)

pub mounted-later : VolumeMountedLaterShowsItsFiles
mounted-later w k j point_text again_text type_text mount path = λ again p run c named found cells e.
    where-unmounted w point_text path mount c
    (λ left. MayRun left run → some_takes_volume mount.source left run ≡ false →
    asked_path (run_steps left run).next.namespace j again_text ≡ Ok again → fs_type_of type_text ≡ Some fs.Cell →
    (world_step (run_steps left run).next (who.Session j) (step.Mount mount.source again_text type_text) mark.Clear).reply ≡ reply.Done →
    ShowsSame w (node_at w.namespace (path ++ p)) (world_step (run_steps left run).next (who.Session j) (step.Mount mount.source again_text type_text) mark.Clear).next
    (node_at (world_step (run_steps left run).next (who.Session j) (step.Mount mount.source again_text type_text) mark.Clear).next.namespace (again ++ p)))
    (λ may runs free asked known.
    let later = (run_steps (unmounted_world w mount) run).next in
    let consistent = run-consistent run (unmounted_world w mount) (left-consistent w mount c may) runs in
    let same = kept-stays-later run (unmounted_world w mount) mount.source (left-consistent w mount c may) runs (left-off w mount c may cells) free in
    where-mounted later mount.source again_text type_text again fs.Cell consistent
    (λ back. ShowsSame w (node_at w.namespace (path ++ p)) back (node_at back.namespace (again ++ p)))
    (λ begin. shows-again w mount again c may cells later consistent same begin path p (point-is w.namespace path mount found)) j asked known)
    k named found e

pub remounted-volume : RemountedVolumeShowsItsFiles
remounted-volume w k j point_text again_text type_text mount path = λ again p c named found cells e asked known done.
    mounted-later w k j point_text again_text type_text mount path again p [] c named found cells e tt refl asked known done
