-- The texts of a script's roms, one at a time.
use Rattle.std.proofs.Common.{◌≡◌, ℕ, ◌+◌, ◌<◌, List, [], ◌∷◌, ◌++◌, length, take, refl, ap, sym, ◌∙◌, inl, inr, arith, append_assoc}
use Rattle.std.specs.Prelude.{Option, Some, None, Result, Ok, Err, option_map, option_to_list, slice_get, slice_index_or}
use Rattle.std.specs.Option.{option_and_then}
use Rattle.std.proofs.lemmas.List.{map-append, take_more}
use Rattle.std.proofs.lemmas.Option.{slice_get_cases}
use Rattle.vfs_base.specs.Path.{AllAre, Path}
use Rattle.vfs_base.specs.declared.deck.RomText.{RomText}
use Rattle.vfs_model.specs.Manifest.{manifest_tree}
use Rattle.vfs_model.specs.Rom.{RomItems}
use Rattle.vfs_model.specs.ScriptRun.{rom_node}
use Rattle.vfs_model.specs.declared.namespace.RomImage.{RomImage}
use Rattle.vfs_model.specs.declared.namespace.RomNode.{RomNode}
use Rattle.vfs_model.specs.Sizes.{IsSmallRom}
use Rattle.plain_steps.specs.Opening.{behind, image_before, rom_images, rom_nodes}

image_on : (images : List RomImage) (index : ℕ) (name : List ℕ) (items : RomItems) (later : Result (List RomImage) ℕ) →
    behind (images ++ record { name = name; nodes = rom_nodes items } ∷ []) later ≡ behind images (image_before index name (Ok items) later)
image_on images index name items (Ok more) = ap Ok (append_assoc images (record { name = name; nodes = rom_nodes items } ∷ []) more)
image_on images index name items (Err place) = refl

-- the text of a rom is passed
pub read_on : (images : List RomImage) (index : ℕ) (text : RomText) (later : List RomText) (items : RomItems) →
    manifest_tree text.manifest ≡ Ok items →
    behind (images ++ record { name = text.name; nodes = rom_nodes items } ∷ []) (rom_images (index + 1) later)
    ≡ behind images (rom_images index (text ∷ later))
read_on images index text later items e =
    image_on images index text.name items (rom_images (index + 1) later)
    ∙ ap (λ read. behind images (image_before index text.name read (rom_images (index + 1) later))) (sym e)

-- a text that is no manifest ends the reading
pub stops_here : (images : List RomImage) (index : ℕ) (text : RomText) (later : List RomText) (line : ℕ) →
    manifest_tree text.manifest ≡ Err line → behind images (rom_images index (text ∷ later)) ≡ Err index
stops_here images index text later line e =
    ap (λ read. behind images (image_before index text.name read (rom_images (index + 1) later))) e

pub small_more : (images : List RomImage) (image : RomImage) → IsSmallRom image → AllAre IsSmallRom images → AllAre IsSmallRom (images ++ image ∷ [])
small_more [] image s h = (s, tt)
small_more (first ∷ images) image s h = (h.0, small_more images image s h.1)

-- the node at a place of a rom
pub node_at_place : (found : Option (Path × Option (List ℕ))) (path : Path) (bytes : Option (List ℕ)) →
    Some path ≡ option_map (λ item. item.0) found → bytes ≡ option_and_then (λ item. item.1) found →
    (path, rom_node bytes) ∷ [] ≡ rom_nodes (option_to_list found)
node_at_place None path bytes p b = absurd (cc (p))
node_at_place (Some item) path bytes p b = cc (p, b)

pub node_more : (tree : RomItems) (i : ℕ) → i < length tree →
    rom_nodes (take (i + 1) tree) ≡ rom_nodes (take i tree) ++ rom_nodes (option_to_list (slice_get tree i))
node_more tree i h = elim (slice_get_cases tree i).1 [
  | inl t ↦
      let node : Path × Option (List ℕ) → Path × RomNode = λ item. (item.0, rom_node item.1) in
      ap rom_nodes (take_more tree i t.0 h)
      ∙ map-append node (take i tree) (slice_index_or tree i t.0 ∷ [])
      ∙ ap (λ last. rom_nodes (take i tree) ++ rom_nodes last) (ap (λ item. item ∷ []) t.3 ∙ sym (ap option_to_list t.2))
  | inr t ↦ absurd (omega (arith, h, t.0))
]
