-- A rom that is mounted shows its folders and its files.
use Rattle.std.proofs.Common.{◌≡◌, ◌≢◌, ℕ, Option, Some, None, option_map, List, [], ◌∷◌, ◌++◌, fold, slice_index_or, refl, ap, ◌∙◌}
use Rattle.std.specs.FinMap.Entries.{find as value_at}
use Rattle.vfs_base.specs.Path.{Path, path_cmp}
use Rattle.vfs_base.specs.declared.kinds.FsType.TheVariants as fs
use Rattle.vfs_model.specs.Boxes.{IsConsistent}
use Rattle.vfs_model.specs.Content.{Content, content_of, no_rom, rom_at, rom_origin}
use Rattle.vfs_model.specs.FileLife.{Rows, after_taking, bind_row}
use Rattle.vfs_model.specs.Homes.{bytes_of, rom_node_bytes}
use Rattle.vfs_model.specs.Lookup.{node_at}
use Rattle.vfs_model.specs.MountStep.{add_mount, origin_backing}
use Rattle.vfs_model.specs.declared.namespace.Backing.{Backing}
use Rattle.vfs_model.specs.declared.namespace.Backing.TheVariants as backing
use Rattle.vfs_model.specs.declared.namespace.Mount.{Mount}
use Rattle.vfs_model.specs.declared.namespace.Namespace.{Namespace}
use Rattle.vfs_model.specs.declared.namespace.Origin.TheVariants as origin
use Rattle.vfs_model.specs.declared.namespace.RomNode.{RomNode}
use Rattle.vfs_model.specs.declared.namespace.RomNode.TheVariants as rom
use Rattle.vfs_model.specs.declared.world.WorldState.{WorldState}
use Rattle.world_laws.proofs.steps.FillAll.{adds}
use Rattle.world_laws.proofs.steps.MountEnd.{MayBegin, new_mount}
use Rattle.world_laws.proofs.steps.MountedNodes.{file-there, folder-there, mapped-at, mounted_world, nothing-there, where-mounted}
use Rattle.world_laws.specs.Mounted.{MountedRomShowsItsFiles, ShowsNode, rom_nodes}

taken-roms : (m : Namespace) (b : Backing) → (after_taking m b).roms ≡ m.roms
taken-roms m backing.Memory = refl
taken-roms m (backing.Cell volume cell) = refl
taken-roms m (backing.Device device) = refl

-- a mount that is filled changes no rom
filled-roms : (mount : Mount) (left : Content) (rows : Rows) → (fold (adds mount) rows left).next.roms ≡ rows.next.roms
unfolding bind_row
filled-roms mount [] rows = refl
filled-roms mount ((p, None) ∷ left) rows = filled-roms mount left (adds mount rows (p, None))
filled-roms mount ((p, Some begins) ∷ left) rows = filled-roms mount left (adds mount rows (p, Some begins)) ∙ taken-roms _ (origin_backing begins)

added-roms : (n : Namespace) (path : Path) (source : List ℕ) → (add_mount n (new_mount n path fs.Rom source)).next.roms ≡ n.roms
unfolding add_mount
added-roms n path source = filled-roms (new_mount n path fs.Rom source) (content_of n fs.Rom source) _

module _ (w : WorldState) (path : Path) (source : List ℕ) (p : Path) (c : IsConsistent w) (some : p ≢ []) (begin : MayBegin w.namespace (new_mount w.namespace path fs.Rom source)) where
  abbrev place : ℕ
  place = rom_at w.namespace source

  has : (found : Option RomNode) → value_at path_cmp p (rom_nodes w.namespace source) ≡ found →
      value_at path_cmp p (content_of w.namespace fs.Rom source) ≡ option_map (rom_origin place p) found
  has found e = mapped-at (rom_origin place) p (rom_nodes w.namespace source) ∙ ap (option_map (rom_origin place p)) e

  shows : (found : Option RomNode) → value_at path_cmp p (rom_nodes w.namespace source) ≡ found →
      ShowsNode (mounted_world w path fs.Rom source) found (node_at (mounted_world w path fs.Rom source).namespace (path ++ p))
  shows None e = nothing-there w path fs.Rom source p c some begin (has None e)
  shows (Some rom.Dir) e = folder-there w path fs.Rom source p c some begin (has (Some rom.Dir) e)
  shows (Some (rom.File bytes)) e =
      let file = file-there w path fs.Rom source p c some begin (origin.Rom place p) (has (Some (rom.File bytes)) e) in (
        file.0,
        file.1,
        ap bytes_of file.2
            ∙ ap (λ roms. rom_node_bytes (value_at path_cmp p (slice_index_or roms place no_rom).nodes)) (added-roms w.namespace path source)
            ∙ ap rom_node_bytes e,
      )

pub mounted-rom : MountedRomShowsItsFiles
mounted-rom w k source point_text type_text path p c named = λ known e some.
    where-mounted w source point_text type_text path fs.Rom c (λ v. ShowsNode v (value_at path_cmp p (rom_nodes w.namespace source)) (node_at v.namespace (path ++ p)))
    (λ begin. shows w path source p c some begin (value_at path_cmp p (rom_nodes w.namespace source)) refl) k named known e
