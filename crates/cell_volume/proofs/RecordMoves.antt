-- What a rename keeps of a record, and which cells files have behind it.
use Rattle.std.proofs.Common.{◌≡◌, ◌≢◌, ℕ, Bool, true, false, ◌&&◌, Option, Some, None, is_some, option_and_then, unwrap_or, [], ◌∷◌, ◌++◌, length, drop, if◌then◌else◌, inl, inr, refl, sym, ap, subst, ◌∙◌}
use Rattle.std.proofs.lemmas.List.{append-nil}
use Rattle.std.specs.FinMap.Entries.{find as value_at}
use Rattle.std.specs.List.{list_any}
use Rattle.vfs_base.specs.Path.{IsPath, Path, path_cmp}
use Rattle.vfs_base.specs.declared.describe.CellNode.{CellNode}
use Rattle.vfs_base.specs.declared.describe.CellNode.TheVariants.{Dir}
use Rattle.vfs_model.proofs.MovedLaws.{prefix-append}
use Rattle.vfs_model.proofs.Trees.{prefix-splits}
use Rattle.vfs_model.specs.Lookup.{is_below, is_prefix}
use Rattle.vfs_model.specs.NormalPath.{parent_of}
use Rattle.vfs_outside.specs.Volume.{node_cell}
use Rattle.node_maps.specs.NodeMap.{is_folder, moved, rename_refusal}
use Rattle.node_maps.specs.declared.tree_fault.TreeFault.TheVariants as fault
use Rattle.node_maps.proofs.MovedNodes.{moved-at, moved-beside, none-under}
use Rattle.cell_volume.proofs.BelowRanges.{path-append, path-front}
use Rattle.cell_volume.proofs.MovedClosed.{MayMove, Source, moved-closed, one-source, source}
use Rattle.cell_volume.proofs.PathFronts.{true-or-false}
use Rattle.cell_volume.proofs.RecordFiles.{Nodes, file-node, file_at, file_of, has_file-at}
use Rattle.cell_volume.proofs.RecordSteps.{IsKept, fronted, not-true, same-test}
use Rattle.cell_volume.specs.MountedVolume.{has_file, is_dir}

-- what a rename finds: the node at old, and a folder above new
pub record Found (kept : Nodes) (old new : Path) : Type 0 where
  pub there : is_some (value_at path_cmp old kept) ≡ true
  pub parent : is_folder is_dir kept (parent_of new) ≡ true

pub found-both : (kept : Nodes) (old new : Path) → rename_refusal is_dir kept old new ≡ None → Found kept old new
found-both kept old new h = by (is_some (value_at path_cmp old kept)) (is_folder is_dir kept (parent_of new)) refl refl h
  where
    by : (there folder : Bool) → is_some (value_at path_cmp old kept) ≡ there → is_folder is_dir kept (parent_of new) ≡ folder →
        (if there && folder then None else Some fault.NotFound) ≡ None → Found kept old new
    by true true a b k = record { there = a; parent = b }
    by true false a b k = absurd (cc)
    by false folder a b k = absurd (cc)

prefix-itself : (path : Path) → is_prefix path path ≡ true
prefix-itself path = subst (λ p. is_prefix path p ≡ true) (append-nil path) (prefix-append path [])

module _ (cells : ℕ) (kept : Nodes) (old new : Path) (is : IsKept cells kept) (found : Found kept old new)
    (apart : is_prefix old new ≡ false) (beside : is_prefix new old ≡ false) (bare : list_any (λ entry. is_below new entry.0) kept ≡ false)
    (names : IsPath new) where
  old-named : old ≢ []
  old-named h = let yes : is_prefix old new ≡ true = ap (λ p. is_prefix p new) h in absurd (cc)

  new-named : new ≢ []
  new-named h = let yes : is_prefix new old ≡ true = ap (λ p. is_prefix p old) h in absurd (cc)

  may : MayMove is_dir old new kept
  may =
      let front = fronted new new-named in
      record {
        closed = is.closed;
        from = old-named;
        name = record { front = parent_of new; name = front.name; is = front.is };
        parent = found.parent;
        clear = bare;
        apart = apart;
        beside = beside;
        there = found.there;
      }

  -- where the file at a path of the new record stood
  record Stood (q : Path) (cell : ℕ) : Type 0 where
    node : CellNode
    from : Source is_dir old new kept may q node
    has : file_at kept from.path ≡ Some cell

  stood : (q : Path) (cell : ℕ) → file_at (moved old new kept) q ≡ Some cell → Stood q cell
  stood q cell h =
      let node = file-node (value_at path_cmp q (moved old new kept)) cell h in
      let from = source is_dir old new kept may q node.node node.is in
      record { node = node.node; from = from; has = ap (option_and_then node_cell) from.there ∙ node.on }

  -- each node stands at a path of names: that of the new place and what lay behind the old one, or its own
  path-at : (q : Path) (found : Option CellNode) → value_at path_cmp q (moved old new kept) ≡ found → is_some found ≡ true → IsPath q
  path-at q None e h = absurd (cc)
  path-at q (Some node) e h =
      let from = source is_dir old new kept may q node e in
      let stood = is.paths from.path (ap is_some from.there) in
      elim from.is [
        | inl m ↦ subst (λ p. IsPath p) (sym m.1) (path-append new m.0 names (path-front old m.0 (subst (λ p. IsPath p) m.2 stood)))
        | inr m ↦ subst (λ p. IsPath p) m.2 stood
      ]

  pub moved-kept : IsKept cells (moved old new kept)
  moved-kept = record {
    closed = moved-closed is_dir old new kept may;
    files = record {
      within = λ q cell h. let s = stood q cell h in is.files.within s.from.path cell s.has;
      alone = λ p q cell h k.
          let s = stood p cell h in
          let t = stood q cell k in
          one-source is_dir old new kept may p q s.node t.node s.from t.from (is.files.alone s.from.path t.from.path cell s.has t.has);
    };
    paths = λ q h. path-at q (value_at path_cmp q (moved old new kept)) refl h;
  }

  -- a file that is not replaced has its cell
  stays : (p : Path) (cell : ℕ) → file_at kept p ≡ Some cell → p ≢ new → has_file (moved old new kept) cell ≡ true
  stays p cell h other = elim (true-or-false (is_prefix old p)) [
    | inl k ↦
        let rest = drop (length old) p in
        has_file-at (moved old new kept) (new ++ rest) cell
        (ap (option_and_then node_cell) (moved-at old new kept rest is.closed.sorted (none-under new kept bare)) ∙ ap (file_at kept) (sym (prefix-splits old p k)) ∙ h)
    | inr k ↦ elim (true-or-false (is_prefix new p)) [
      | inl m ↦ absurd (below (drop (length new) p) (prefix-splits new p m))
      | inr m ↦ has_file-at (moved old new kept) p cell (ap (option_and_then node_cell) (moved-beside old new kept p m k) ∙ h)
    ]
  ]
    where
      below : (rest : Path) → p ≡ new ++ rest → ⊥
      below [] e = other (e ∙ append-nil new)
      below (name ∷ names) e =
          let none : value_at path_cmp p kept ≡ None = ap (λ q. value_at path_cmp q kept) e ∙ none-under new kept bare name names in
          let no : file_at kept p ≡ None = ap (option_and_then node_cell) none in
          absurd (cc)

  -- a cell that the replaced node doesn't have
  pub moved-files-other : (cell : ℕ) → (node_cell (unwrap_or (value_at path_cmp new kept) Dir) ≡ Some cell → ⊥) → has_file (moved old new kept) cell ≡ has_file kept cell
  moved-files-other cell h = same-test _ _
      (λ e.
      let file = file_of (moved old new kept) cell moved-kept.closed.sorted e in
      let s = stood file.path cell file.is in
      has_file-at kept s.from.path cell s.has)
      (λ e.
      let file = file_of kept cell is.closed.sorted e in
      stays file.path cell file.is (λ same. h (replaced (value_at path_cmp new kept) (ap (file_at kept) (sym same) ∙ file.is))))
    where
      replaced : (found : Option CellNode) → option_and_then node_cell found ≡ Some cell → node_cell (unwrap_or found Dir) ≡ Some cell
      replaced None e = absurd (cc)
      replaced (Some node) e = e

  -- the replaced node's own cell
  pub moved-files-own : (cell : ℕ) → node_cell (unwrap_or (value_at path_cmp new kept) Dir) ≡ Some cell → has_file (moved old new kept) cell ≡ false
  moved-files-own cell h = not-true _ (λ e u.
      let file = file_of (moved old new kept) cell moved-kept.closed.sorted e in
      let s = stood file.path cell file.is in
      let same : s.from.path ≡ new = is.files.alone s.from.path new cell s.has (replaced (value_at path_cmp new kept) h) in
      elim s.from.is [
        | inl m ↦ let yes : is_prefix old new ≡ true = subst (λ p. is_prefix old p ≡ true) (sym m.2 ∙ same) (prefix-append old m.0) in absurd (cc)
        | inr m ↦ let yes : is_prefix new file.path ≡ true = subst (λ p. is_prefix new p ≡ true) (sym same ∙ m.2) (prefix-itself new) in let no = m.0 in absurd (cc)
      ])
    where
      replaced : (found : Option CellNode) → node_cell (unwrap_or found Dir) ≡ Some cell → option_and_then node_cell found ≡ Some cell
      replaced None e = absurd (cc)
      replaced (Some node) e = e
