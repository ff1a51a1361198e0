-- What changes bring from roms, one change after the other.
use Rattle.std.proofs.Common.{◌≡◌, ℕ, List, [], ◌∷◌, ◌++◌, map, ap, sym, ◌∙◌}
use Rattle.std.specs.Prelude.{Option, None}
use Rattle.std.proofs.lemmas.List.{append_assoc, append-nil, map-append}
use Rattle.vfs_base.specs.Path.{Path}
use Rattle.vfs_model.specs.Content.{Content}
use Rattle.vfs_model.specs.declared.namespace.Origin.{Origin}
use Rattle.vfs_model.specs.declared.namespace.RomImage.{RomImage}
use Rattle.plain_nodes.specs.Changes.{row_change}
use Rattle.plain_nodes.specs.Contents.{change_content, contents_of}
use Rattle.plain_mounts.specs.Mounting.{BringsMore, brought_by, entry_contents}
use Rattle.plain_nodes.specs.declared.changes.Change.{Change}

-- one change more brings what it brings
pub one_more : (old new : List Change) (told : Change) → new ≡ old ++ told ∷ [] →
    BringsMore old new (λ roms. change_content roms (row_change told) ∷ [])
one_more old new told e roms =
    ap (λ (changes : List Change). contents_of roms (map row_change changes)) e
    ∙ ap (contents_of roms) (map-append row_change old (told ∷ []))
    ∙ map-append (change_content roms) (map row_change old) (row_change told ∷ [])

-- nothing more is brought by a folder
pub none_more : (changes : List Change) → BringsMore changes changes (λ roms. entry_contents roms None)
none_more changes roms = sym (append-nil (contents_of roms (map row_change changes)))

-- an entry brings its own, and those behind it the rest
pub rest_brought : (first old new : List Change) (path : Path) (begins : Option Origin) (later : Content) (all : List RomImage → List (List ℕ)) →
    BringsMore old new (λ roms. entry_contents roms begins) →
    ((roms : List RomImage) → contents_of roms (map row_change old) ++ brought_by roms ((path, begins) ∷ later) ≡ contents_of roms (map row_change first) ++ all roms) →
    (roms : List RomImage) → contents_of roms (map row_change new) ++ brought_by roms later ≡ contents_of roms (map row_change first) ++ all roms
rest_brought first old new path begins later all one so_far roms =
    ap (λ now. now ++ brought_by roms later) (one roms)
    ∙ append_assoc (contents_of roms (map row_change old)) (entry_contents roms begins) (brought_by roms later)
    ∙ so_far roms
