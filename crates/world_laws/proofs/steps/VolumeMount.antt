-- A volume that is mounted shows the folders and the files that it kept.
use Rattle.std.proofs.Common.{◌≡◌, ◌≢◌, ℕ, Option, Some, None, option_map, List, [], ◌++◌, refl, ap, ◌∙◌}
use Rattle.std.specs.FinMap.Entries.{find as value_at}
use Rattle.vfs_base.specs.Path.{Path, path_cmp}
use Rattle.vfs_base.specs.declared.kinds.FsType.TheVariants as fs
use Rattle.vfs_model.specs.Boxes.{IsConsistent}
use Rattle.vfs_model.specs.Content.{content_of, kept_origin}
use Rattle.vfs_model.specs.FileLife.{volume_named}
use Rattle.vfs_model.specs.Homes.{bytes_of}
use Rattle.vfs_model.specs.Lookup.{node_at}
use Rattle.vfs_model.specs.declared.namespace.KeptNode.{KeptNode}
use Rattle.vfs_model.specs.declared.namespace.KeptNode.TheVariants as kept
use Rattle.vfs_model.specs.declared.namespace.Origin.TheVariants as origin
use Rattle.vfs_model.specs.declared.world.WorldState.{WorldState}
use Rattle.world_laws.proofs.steps.MountEnd.{MayBegin, new_mount}
use Rattle.world_laws.proofs.steps.MountedNodes.{file-there, folder-there, mapped-at, mounted_world, nothing-there, where-mounted}
use Rattle.world_laws.specs.Mounted.{MountedVolumeShowsItsFiles, ShowsKept, kept_names}

module _ (w : WorldState) (path : Path) (source : List ℕ) (p : Path) (c : IsConsistent w) (some : p ≢ []) (begin : MayBegin w.namespace (new_mount w.namespace path fs.Cell source)) where
  abbrev volume : ℕ
  volume = volume_named w.namespace source

  has : (found : Option KeptNode) → value_at path_cmp p (kept_names w.namespace source) ≡ found →
      value_at path_cmp p (content_of w.namespace fs.Cell source) ≡ option_map (kept_origin volume) found
  has found e = mapped-at (λ q. kept_origin volume) p (kept_names w.namespace source) ∙ ap (option_map (kept_origin volume)) e

  pub shows-kept : (found : Option KeptNode) → value_at path_cmp p (kept_names w.namespace source) ≡ found →
      ShowsKept w.homes (volume_named w.namespace source) (mounted_world w path fs.Cell source) found (node_at (mounted_world w path fs.Cell source).namespace (path ++ p))
  shows-kept None e = nothing-there w path fs.Cell source p c some begin (has None e)
  shows-kept (Some kept.Dir) e = folder-there w path fs.Cell source p c some begin (has (Some kept.Dir) e)
  shows-kept (Some (kept.File cell)) e =
      let file = file-there w path fs.Cell source p c some begin (origin.Cell volume cell) (has (Some (kept.File cell)) e) in
      (file.0, file.1, ap bytes_of file.2)

pub mounted-volume : MountedVolumeShowsItsFiles
mounted-volume w k source point_text type_text path p c named = λ known e some.
    where-mounted w source point_text type_text path fs.Cell c
    (λ v. ShowsKept w.homes (volume_named w.namespace source) v (value_at path_cmp p (kept_names w.namespace source)) (node_at v.namespace (path ++ p)))
    (λ begin. shows-kept w path source p c some begin (value_at path_cmp p (kept_names w.namespace source)) refl) k named known e
