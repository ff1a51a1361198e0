-- What each change of a record keeps: it stays a tree whose files have cells of their own, and which cells files have.
use Rattle.std.proofs.Common.{◌≡◌, ◌≢◌, ℕ, ◌+◌, ◌-◌, ◌<◌, Bool, true, false, cond, not, ◌||◌, nat_le, Option, Some, None, is_some, option_and_then, List, [], ◌∷◌, ◌++◌, length, take, if◌then◌else◌, inl, inr, refl, sym, ap, subst, ◌∙◌, arith, length-append}
use Rattle.std.proofs.lemmas.Bool.Decides.{nat_tests}
use Rattle.std.proofs.lemmas.List.{take_at}
use Rattle.std.specs.FinMap.Entries.{find as value_at, is_sorted-put, length-put, put}
use Rattle.std.specs.List.{list_any}
use Rattle.vfs_base.specs.Path.{IsPath, Path, path_cmp}
use Rattle.vfs_base.specs.PathLaws.{path_cmp_total}
use Rattle.vfs_base.specs.declared.describe.CellNode.{CellNode}
use Rattle.vfs_base.specs.declared.describe.CellNode.TheVariants.{File}
use Rattle.vfs_base.specs.declared.limits.TheConstants.{NODES}
use Rattle.vfs_model.proofs.Trees.{at-put-here, at-put-other, at-without-here, at-without-other}
use Rattle.vfs_model.specs.Consistency.{IsClosedTree}
use Rattle.vfs_model.specs.Lookup.{is_below}
use Rattle.vfs_model.specs.Namespace.{same_path}
use Rattle.vfs_model.specs.NormalPath.{parent_of}
use Rattle.vfs_outside.specs.Volume.{node_cell}
use Rattle.node_maps.specs.NodeMap.{is_folder, is_there, link_refusal, without}
use Rattle.node_maps.specs.declared.tree_fault.TreeFault.TheVariants as fault
use Rattle.node_maps.proofs.MovedNodes.{none-under}
use Rattle.cell_volume.proofs.ClosedNodes.{found_dir, put-closed, without-closed}
use Rattle.cell_volume.proofs.PathFronts.{named, same-or-other-path}
use Rattle.cell_volume.proofs.RecordFiles.{FilesApart, Nodes, file_at, file_of, has_file-at}
use Rattle.cell_volume.specs.MountedVolume.{ArePaths, has_file, is_dir}

-- A record that a mounted volume may have.
pub record IsKept (cells : ℕ) (kept : Nodes) : Type 0 where
  pub closed : IsClosedTree (found_dir is_dir) kept
  pub files : FilesApart cells kept
  pub paths : ArePaths kept

-- two tests are the same where each holds with the other
pub same-test : (a b : Bool) → (a ≡ true → b ≡ true) → (b ≡ true → a ≡ true) → a ≡ b
same-test true b f g = sym (f refl)
same-test false true f g = g refl
same-test false false f g = refl

pub not-true : (b : Bool) → (b ≡ true → Unit {0} → ⊥) → b ≡ false
not-true true h = absurd (h refl tt)
not-true false h = refl

-- a path with a name is its parent and a last name
pub record Fronted (path : Path) : Type 0 where
  pub name : List ℕ
  pub is : path ≡ parent_of path ++ name ∷ []

pub fronted : (path : Path) → path ≢ [] → Fronted path
fronted path h =
    let last = named path h in
    let len : length path ≡ length last.front + 1 = ap (λ p. length p) last.is ∙ length-append last.front (last.name ∷ []) in
    let front : parent_of path ≡ last.front = ap (λ p. take (length path - 1) p) last.is ∙ take_at last.front (last.name ∷ []) (length path - 1) (omega (arith, len)) in
    record { name = last.name; is = last.is ∙ ap (λ p. p ++ last.name ∷ []) (sym front) }

-- what may be linked: the parent is a folder, nothing is there, and there is room
pub record MayLink (kept : Nodes) (path : Path) : Type 0 where
  pub parent : is_folder is_dir kept (parent_of path) ≡ true
  pub absent : value_at path_cmp path kept ≡ None
  pub named : path ≢ []
  pub room : length kept < NODES

none-of : (found : Option CellNode) → is_some found ≡ false → found ≡ None
none-of None h = refl
none-of (Some node) h = absurd (cc)

pub may-link : (kept : Nodes) (path : Path) → link_refusal is_dir kept path ≡ None → MayLink kept path
may-link kept path h = by (is_folder is_dir kept (parent_of path)) (is_there kept path) (nat_le NODES (length kept)) refl refl refl h
  where
    not-root : (p : Path) → is_there kept p ≡ false → p ≢ []
    not-root [] e k = absurd (cc)
    not-root (name ∷ names) e k = absurd (cc)

    absent : (p : Path) → is_there kept p ≡ false → value_at path_cmp p kept ≡ None
    absent [] e = absurd (cc)
    absent (name ∷ names) e = none-of (value_at path_cmp (name ∷ names) kept) e

    by : (folder there full : Bool) → is_folder is_dir kept (parent_of path) ≡ folder → is_there kept path ≡ there → nat_le NODES (length kept) ≡ full →
        (if not folder then Some fault.NotFound else (if there then Some fault.Exists else (if full then Some fault.Full else None))) ≡ None → MayLink kept path
    by false there full a b c k = absurd (cc)
    by true true full a b c k = absurd (cc)
    by true false true a b c k = absurd (cc)
    by true false false a b c k = record { parent = a; absent = absent path b; named = not-root path b; room = grind (arith, nat_tests) }

-- the cells of files after a node came to an absent path
module _ (cells : ℕ) (kept : Nodes) (path : Path) (node : CellNode) (may : MayLink kept path) (names : IsPath path) (is : IsKept cells kept)
    (own : (cell : ℕ) → node_cell node ≡ Some cell → (cell < cells) × (has_file kept cell ≡ false)) where
  pub put-here : file_at (put path_cmp path node kept) path ≡ node_cell node
  put-here = ap (option_and_then node_cell) (at-put-here path node kept)

  pub put-other : (q : Path) → q ≢ path → file_at (put path_cmp path node kept) q ≡ file_at kept q
  put-other q h = ap (option_and_then node_cell) (at-put-other path q node kept h)

  taken : (q : Path) (cell : ℕ) → node_cell node ≡ Some cell → file_at kept q ≡ Some cell → ⊥
  taken q cell e h = let yes = has_file-at kept q cell h in let no = (own cell e).1 in absurd (cc)

  put-apart : FilesApart cells (put path_cmp path node kept)
  put-apart = record {
    within = λ q cell h. elim (same-or-other-path q path) [
      | inl same ↦ (own cell (sym put-here ∙ ap (file_at (put path_cmp path node kept)) (sym same) ∙ h)).0
      | inr other ↦ is.files.within q cell (sym (put-other q other) ∙ h)
    ];
    alone = λ p q cell h k. elim (same-or-other-path p path) [
      | inl same ↦ elim (same-or-other-path q path) [
        | inl also ↦ same ∙ sym also
        | inr other ↦ absurd (taken q cell (sym put-here ∙ ap (file_at (put path_cmp path node kept)) (sym same) ∙ h) (sym (put-other q other) ∙ k))
      ]
      | inr other ↦ elim (same-or-other-path q path) [
        | inl also ↦ absurd (taken p cell (sym put-here ∙ ap (file_at (put path_cmp path node kept)) (sym also) ∙ k) (sym (put-other p other) ∙ h))
        | inr also ↦ is.files.alone p q cell (sym (put-other p other) ∙ h) (sym (put-other q also) ∙ k)
      ]
    ];
  }

  pub put-kept : IsKept cells (put path_cmp path node kept)
  put-kept =
      let front = fronted path may.named in
      record {
        closed = put-closed is_dir kept path (parent_of path) front.name node is.closed may.absent front.is may.parent may.room;
        files = put-apart;
        paths = λ q h. elim (same-or-other-path q path) [
          | inl same ↦ subst (λ p. IsPath p) (sym same) names
          | inr other ↦ is.paths q (ap is_some (sym (at-put-other path q node kept other)) ∙ h)
        ];
      }

  -- a cell that the node doesn't have
  pub put-files-other : (cell : ℕ) → (node_cell node ≡ Some cell → ⊥) → has_file (put path_cmp path node kept) cell ≡ has_file kept cell
  put-files-other cell h = same-test _ _
      (λ e.
      let found = file_of (put path_cmp path node kept) cell put-kept.closed.sorted e in
      elim (same-or-other-path found.path path) [
        | inl same ↦ absurd (h (sym put-here ∙ ap (file_at (put path_cmp path node kept)) (sym same) ∙ found.is))
        | inr other ↦ has_file-at kept found.path cell (sym (put-other found.path other) ∙ found.is)
      ])
      (λ e.
      let found = file_of kept cell is.closed.sorted e in
      elim (same-or-other-path found.path path) [
        | inl same ↦
            let none : file_at kept found.path ≡ None = ap (λ p. file_at kept p) same ∙ ap (option_and_then node_cell) may.absent in
            let some = found.is in absurd (cc)
        | inr other ↦ has_file-at (put path_cmp path node kept) found.path cell (put-other found.path other ∙ found.is)
      ])

  -- the node's own cell
  pub put-files-own : (cell : ℕ) → node_cell node ≡ Some cell → has_file (put path_cmp path node kept) cell ≡ true
  put-files-own cell e = has_file-at (put path_cmp path node kept) path cell (put-here ∙ e)

-- the cells of files after a node went below which none stands
module _ (cells : ℕ) (kept : Nodes) (path : Path) (node : CellNode) (there : value_at path_cmp path kept ≡ Some node)
    (bare : list_any (λ entry. is_below path entry.0) kept ≡ false) (is : IsKept cells kept) where
  gone-here : file_at (without path kept) path ≡ None
  gone-here = ap (option_and_then node_cell) (at-without-here path kept)

  gone-other : (q : Path) → q ≢ path → file_at (without path kept) q ≡ file_at kept q
  gone-other q h = ap (option_and_then node_cell) (at-without-other path q kept h)

  stays-other : (q : Path) (cell : ℕ) → file_at (without path kept) q ≡ Some cell → (q ≢ path) × (file_at kept q ≡ Some cell)
  stays-other q cell h = elim (same-or-other-path q path) [
    | inl same ↦ let none : file_at (without path kept) q ≡ None = ap (file_at (without path kept)) same ∙ gone-here in absurd (cc)
    | inr other ↦ (other, sym (gone-other q other) ∙ h)
  ]

  not-root : path ≢ []
  not-root h =
      let some : value_at path_cmp [] kept ≡ Some node = ap (λ p. value_at path_cmp p kept) (sym h) ∙ there in
      let none = is.closed.rootless in absurd (cc)

  pub without-kept : IsKept cells (without path kept)
  without-kept = record {
    closed = without-closed is_dir kept path not-root is.closed
        (λ name. none-under path kept bare name []);
    files = record {
      within = λ q cell h. is.files.within q cell (stays-other q cell h).1;
      alone = λ p q cell h k. is.files.alone p q cell (stays-other p cell h).1 (stays-other q cell k).1;
    };
    paths = λ q h. elim (same-or-other-path q path) [
      | inl same ↦
          let none : is_some (value_at path_cmp q (without path kept)) ≡ false = ap (λ p. is_some (value_at path_cmp p (without path kept))) same ∙ ap is_some (at-without-here path kept) in
          absurd (cc)
      | inr other ↦ is.paths q (ap is_some (sym (at-without-other path q kept other)) ∙ h)
    ];
  }

  -- a cell that the node doesn't have
  pub without-files-other : (cell : ℕ) → (node_cell node ≡ Some cell → ⊥) → has_file (without path kept) cell ≡ has_file kept cell
  without-files-other cell h = same-test _ _
      (λ e.
      let found = file_of (without path kept) cell without-kept.closed.sorted e in
      has_file-at kept found.path cell (stays-other found.path cell found.is).1)
      (λ e.
      let found = file_of kept cell is.closed.sorted e in
      elim (same-or-other-path found.path path) [
        | inl same ↦ absurd (h (ap (option_and_then node_cell) (sym there) ∙ ap (file_at kept) (sym same) ∙ found.is))
        | inr other ↦ has_file-at (without path kept) found.path cell (gone-other found.path other ∙ found.is)
      ])

  -- the node's own cell
  pub without-files-own : (cell : ℕ) → node_cell node ≡ Some cell → has_file (without path kept) cell ≡ false
  without-files-own cell h = not-true _ (λ e u.
      let found = file_of (without path kept) cell without-kept.closed.sorted e in
      let stays = stays-other found.path cell found.is in
      stays.0 (is.files.alone found.path path cell stays.1 (ap (option_and_then node_cell) there ∙ h)))

-- a record in which the file at a path has another size or other stored pages
module _ (cells : ℕ) (kept : Nodes) (path : Path) (cell size : ℕ) (stored : List ℕ) (old : ℕ) (pages : List ℕ)
    (there : value_at path_cmp path kept ≡ Some (File cell old pages)) (is : IsKept cells kept) where
  kept-at : (q : Path) → file_at (put path_cmp path (File cell size stored) kept) q ≡ file_at kept q
  kept-at q = elim (same-or-other-path q path) [
    | inl same ↦
        ap (file_at (put path_cmp path (File cell size stored) kept)) same
        ∙ ap (option_and_then node_cell) (at-put-here path (File cell size stored) kept)
        ∙ sym (ap (option_and_then node_cell) there) ∙ sym (ap (file_at kept) same)
    | inr other ↦ ap (option_and_then node_cell) (at-put-other path q (File cell size stored) kept other)
  ]

  dir-at : (q : Path) → found_dir is_dir (value_at path_cmp q (put path_cmp path (File cell size stored) kept)) ≡ found_dir is_dir (value_at path_cmp q kept)
  dir-at q = elim (same-or-other-path q path) [
    | inl same ↦
        ap (λ p. found_dir is_dir (value_at path_cmp p (put path_cmp path (File cell size stored) kept))) same
        ∙ ap (found_dir is_dir) (at-put-here path (File cell size stored) kept)
        ∙ sym (ap (found_dir is_dir) there) ∙ sym (ap (λ p. found_dir is_dir (value_at path_cmp p kept)) same)
    | inr other ↦ ap (found_dir is_dir) (at-put-other path q (File cell size stored) kept other)
  ]

  some-at : (q : Path) → is_some (value_at path_cmp q (put path_cmp path (File cell size stored) kept)) ≡ is_some (value_at path_cmp q kept)
  some-at q = elim (same-or-other-path q path) [
    | inl same ↦
        ap (λ p. is_some (value_at path_cmp p (put path_cmp path (File cell size stored) kept))) same
        ∙ ap is_some (at-put-here path (File cell size stored) kept)
        ∙ sym (ap is_some there) ∙ sym (ap (λ p. is_some (value_at path_cmp p kept)) same)
    | inr other ↦ ap is_some (at-put-other path q (File cell size stored) kept other)
  ]

  pub keep-kept : IsKept cells (put path_cmp path (File cell size stored) kept)
  keep-kept = record {
    closed = record {
      sorted = is_sorted-put path_cmp path_cmp_total path (File cell size stored) kept is.closed.sorted;
      rootless = none-of _ (some-at [] ∙ ap is_some is.closed.rootless);
      parents = λ front name h. ap (λ b. b || same_path front []) (dir-at front)
          ∙ is.closed.parents front name (sym (some-at (front ++ name ∷ [])) ∙ h);
      bounded =
          let len = length-put path_cmp path_cmp_total path (File cell size stored) kept is.closed.sorted
          ∙ ap (λ found. cond (is_some found) (length kept) (length kept + 1)) there in
          let most = is.closed.bounded in omega (arith, len, most);
    };
    files = record {
      within = λ q at h. is.files.within q at (sym (kept-at q) ∙ h);
      alone = λ p q at h k. is.files.alone p q at (sym (kept-at p) ∙ h) (sym (kept-at q) ∙ k);
    };
    paths = λ q h. is.paths q (sym (some-at q) ∙ h);
  }

  pub keep-files : (at : ℕ) → has_file (put path_cmp path (File cell size stored) kept) at ≡ has_file kept at
  keep-files at = same-test _ _
      (λ e. let found = file_of (put path_cmp path (File cell size stored) kept) at keep-kept.closed.sorted e in has_file-at kept found.path at (sym (kept-at found.path) ∙ found.is))
      (λ e. let found = file_of kept at is.closed.sorted e in
      has_file-at (put path_cmp path (File cell size stored) kept) found.path at (kept-at found.path ∙ found.is))

-- no node, so no file
pub empty-kept : (cells : ℕ) → IsKept cells []
empty-kept cells = record {
  closed = record { sorted = tt; rootless = refl; parents = λ front name h. absurd (cc); bounded = omega arith };
  files = record { within = λ path cell h. absurd (cc); alone = λ path other cell h k. absurd (cc) };
  paths = λ path h. absurd (cc);
}
