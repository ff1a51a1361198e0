-- The files of a record by their paths, and what a record is: a tree whose files have cells of their own.
use Rattle.std.proofs.Common.{◌≡◌, ◌≢◌, ℕ, zero, suc, ◌==◌, ◌<◌, Bool, true, false, ◌&&◌, ◌||◌, T, Option, Some, None, is_some, option_and_then, List, [], ◌∷◌, ◌++◌, length, slice_index_or, inl, inr, refl, sym, ap, subst, ◌∙◌, arith}
use Rattle.std.proofs.lemmas.Bool.Decides.{eqb_tells}
use Rattle.std.proofs.lemmas.List.Elements.{All-from_recursion, recursion_from_All}
use Rattle.std.specs.FinMap.Entries.{find as value_at, is_sorted}
use Rattle.std.specs.List.{AllByRecursion, AllPairs, Contains, cons_option, list_any}
use Rattle.vfs_base.specs.Path.{Path, path_cmp}
use Rattle.vfs_base.specs.declared.describe.CellNode.{CellNode}
use Rattle.vfs_base.specs.declared.describe.CellNode.TheVariants.{Dir, File}
use Rattle.vfs_model.proofs.Trees.{same_path-is, same_path-itself}
use Rattle.vfs_model.specs.Consistency.{IsClosedTree}
use Rattle.vfs_model.specs.Namespace.{same_path}
use Rattle.vfs_outside.specs.Volume.{IsFolder, IsRecord, file_cells, node_cell}
use Rattle.node_maps.proofs.MovedNodes.{at-entry, at-later, below-absent}
use Rattle.cell_volume.proofs.ClosedNodes.{found_dir}
use Rattle.cell_volume.proofs.PathFronts.{or-first, or-second, same-or-other-path}
use Rattle.cell_volume.specs.MountedVolume.{has_file, is_dir}

abbrev pub Nodes : Type 0
Nodes = List (Path × CellNode)

-- the cell of the file at a path
abbrev pub file_at : Nodes → Path → Option ℕ
file_at kept path = option_and_then node_cell (value_at path_cmp path kept)

-- each file has a cell for itself
pub record FilesApart (cells : ℕ) (kept : Nodes) : Type 0 where
  pub within : (path : Path) (cell : ℕ) → file_at kept path ≡ Some cell → cell < cells
  pub alone : (path other : Path) (cell : ℕ) → file_at kept path ≡ Some cell → file_at kept other ≡ Some cell → path ≡ other

t-first : (a b : Bool) → T (a && b) → T a
t-first true b h = tt
t-first false b h = absurd h

t-second : (a b : Bool) → T (a && b) → T b
t-second true b h = h
t-second false b h = absurd h

-- in a record in order, an entry stands at its path, and a later one elsewhere
pub later-elsewhere : (entry : Path × CellNode) (kept : Nodes) (path : Path) (node : CellNode) → T (is_sorted path_cmp (entry ∷ kept)) →
    value_at path_cmp path kept ≡ Some node → path ≢ entry.0
later-elsewhere entry kept path node sorted there same =
    let none = below-absent entry.0 kept (t-first _ _ sorted) in
    let some : value_at path_cmp entry.0 kept ≡ Some node = ap (λ p. value_at path_cmp p kept) (sym same) ∙ there in
    absurd (cc)

pub later-there : (entry : Path × CellNode) (kept : Nodes) (path : Path) (node : CellNode) → T (is_sorted path_cmp (entry ∷ kept)) →
    value_at path_cmp path kept ≡ Some node → value_at path_cmp path (entry ∷ kept) ≡ Some node
later-there entry kept path node sorted there = at-later path entry kept (later-elsewhere entry kept path node sorted there) ∙ there

-- the node of a file
pub record FileNode (found : Option CellNode) (cell : ℕ) : Type 0 where
  pub node : CellNode
  pub is : found ≡ Some node
  pub on : node_cell node ≡ Some cell

pub file-node : (found : Option CellNode) (cell : ℕ) → option_and_then node_cell found ≡ Some cell → FileNode found cell
file-node None cell h = absurd (cc)
file-node (Some node) cell h = record { node = node; is = refl; on = h }

pub later-file : (entry : Path × CellNode) (kept : Nodes) (path : Path) (cell : ℕ) → T (is_sorted path_cmp (entry ∷ kept)) →
    file_at kept path ≡ Some cell → file_at (entry ∷ kept) path ≡ Some cell
later-file entry kept path cell sorted h =
    let found = file-node (value_at path_cmp path kept) cell h in
    ap (option_and_then node_cell) (later-there entry kept path found.node sorted found.is) ∙ found.on

pub first-file : (entry : Path × CellNode) (kept : Nodes) → file_at (entry ∷ kept) entry.0 ≡ node_cell entry.1
first-file entry kept = ap (option_and_then node_cell) (at-entry entry.0 entry kept refl)

-- the files of the rest of a record
pub rest-apart : (cells : ℕ) (entry : Path × CellNode) (kept : Nodes) → T (is_sorted path_cmp (entry ∷ kept)) → FilesApart cells (entry ∷ kept) → FilesApart cells kept
rest-apart cells entry kept sorted files = record {
  within = λ path cell h. files.within path cell (later-file entry kept path cell sorted h);
  alone = λ path other cell h k. files.alone path other cell (later-file entry kept path cell sorted h) (later-file entry kept other cell sorted k);
}

number-itself : (a : ℕ) → (a == a) ≡ true
number-itself a = elim (eqb_tells a a) [ inl k ↦ k.0 | inr k ↦ absurd (k.1 refl) ]

same-number : (a b : ℕ) → (a == b) ≡ true → a ≡ b
same-number a b h = elim (eqb_tells a b) [ inl k ↦ k.1 | inr k ↦ absurd (cc) ]

-- a file at a path has its cell
pub has_file-at : (kept : Nodes) (path : Path) (cell : ℕ) → file_at kept path ≡ Some cell → has_file kept cell ≡ true
has_file-at [] path cell h = absurd (cc)
has_file-at (entry ∷ kept) path cell h = elim (same-or-other-path path entry.0) [
  | inl same ↦ first (node_cell entry.1) (sym (ap (option_and_then node_cell) (at-entry path entry kept same)) ∙ h)
  | inr other ↦ later (node_cell entry.1) (has_file-at kept path cell (sym (ap (option_and_then node_cell) (at-later path entry kept other)) ∙ h))
]
  where
    first : (found : Option ℕ) → found ≡ Some cell → list_any (λ other. other == cell) (cons_option found (file_cells kept)) ≡ true
    first None e = absurd (cc)
    first (Some x) e = or-first (x == cell) _ (let s : x ≡ cell = cc in ap (λ y. y == cell) s ∙ number-itself cell)

    later : (found : Option ℕ) → has_file kept cell ≡ true → list_any (λ other. other == cell) (cons_option found (file_cells kept)) ≡ true
    later None h = h
    later (Some x) h = or-second (x == cell) _ h

-- where a file has a cell
pub record FileOf (kept : Nodes) (cell : ℕ) : Type 0 where
  pub path : Path
  pub is : file_at kept path ≡ Some cell

pub file_of : (kept : Nodes) (cell : ℕ) → T (is_sorted path_cmp kept) → has_file kept cell ≡ true → FileOf kept cell
file_of [] cell sorted h = absurd (cc)
file_of (entry ∷ kept) cell sorted h =
    by (node_cell entry.1) refl h (λ k. let found = file_of kept cell (t-second _ _ sorted) k in record { path = found.path; is = later-file entry kept found.path cell sorted found.is })
  where
    here : (x : ℕ) (b : Bool) → node_cell entry.1 ≡ Some x → (x == cell) ≡ b → (b || has_file kept cell) ≡ true → (has_file kept cell ≡ true → FileOf (entry ∷ kept) cell) → FileOf (entry ∷ kept) cell
    here x true e t k rest = record { path = entry.0; is = first-file entry kept ∙ e ∙ ap Some (same-number x cell t) }
    here x false e t k rest = rest k

    by : (found : Option ℕ) → node_cell entry.1 ≡ found → list_any (λ other. other == cell) (cons_option found (file_cells kept)) ≡ true →
        (has_file kept cell ≡ true → FileOf (entry ∷ kept) cell) → FileOf (entry ∷ kept) cell
    by None e k rest = rest k
    by (Some x) e k rest = here x (x == cell) e refl k rest

-- what holds of the cell of each file holds of each cell that a file has
pub all-cells : (P : ℕ → Type 0) (kept : Nodes) → T (is_sorted path_cmp kept) → ((path : Path) (cell : ℕ) → file_at kept path ≡ Some cell → P cell) →
    AllByRecursion P (file_cells kept)
all-cells P [] sorted h = tt
all-cells P (entry ∷ kept) sorted h =
    by (node_cell entry.1) refl (all-cells P kept (t-second _ _ sorted) (λ path cell k. h path cell (later-file entry kept path cell sorted k)))
  where
    by : (found : Option ℕ) → node_cell entry.1 ≡ found → AllByRecursion P (file_cells kept) → AllByRecursion P (cons_option found (file_cells kept))
    by None e later = later
    by (Some x) e later = (h entry.0 x (first-file entry kept ∙ e), later)

-- and the other way round
pub each-cell : (P : ℕ → Type 0) (kept : Nodes) → AllByRecursion P (file_cells kept) → (path : Path) (cell : ℕ) → file_at kept path ≡ Some cell → P cell
each-cell P [] all path cell h = absurd (cc)
each-cell P (entry ∷ kept) all path cell h = elim (same-or-other-path path entry.0) [
  | inl same ↦ first (node_cell entry.1) (sym (ap (option_and_then node_cell) (at-entry path entry kept same)) ∙ h) all
  | inr other ↦ each-cell P kept (tail (node_cell entry.1) all) path cell (sym (ap (option_and_then node_cell) (at-later path entry kept other)) ∙ h)
]
  where
    first : (found : Option ℕ) → found ≡ Some cell → AllByRecursion P (cons_option found (file_cells kept)) → P cell
    first None e all = absurd (cc)
    first (Some x) e all = let s : x ≡ cell = cc in subst P s all.0

    tail : (found : Option ℕ) → AllByRecursion P (cons_option found (file_cells kept)) → AllByRecursion P (file_cells kept)
    tail None all = all
    tail (Some x) all = all.1

-- items of which no two are equal, by cases on the list
abbrev Differ : List ℕ → Type 0
Differ [] = Unit {0}
Differ (x ∷ xs) = AllByRecursion (λ y. x ≢ y) xs × Differ xs

pairs-Differ : (xs : List ℕ) → Differ xs → AllPairs ◌≢◌ xs
pairs-Differ [] h i j d l m = absurd (omega arith)
pairs-Differ (x ∷ xs) h zero zero d l m = absurd (omega arith)
pairs-Differ (x ∷ xs) h zero (suc j) d l m = All-from_recursion (λ y. x ≢ y) xs h.0 j d (omega arith)
pairs-Differ (x ∷ xs) h (suc i) zero d l m = absurd (omega arith)
pairs-Differ (x ∷ xs) h (suc i) (suc j) d l m = pairs-Differ xs h.1 i j d (omega arith) (omega arith)

Differ-pairs : (xs : List ℕ) → AllPairs ◌≢◌ xs → Differ xs
Differ-pairs [] h = tt
Differ-pairs (x ∷ xs) h = (
  recursion_from_All (λ y. x ≢ y) xs (λ j d l. h 0 (suc j) d (omega arith) (omega arith)),
  Differ-pairs xs (λ i j d l m. h (suc i) (suc j) d (omega arith) (omega arith)),
)

-- the files of a record are apart as their cells are
differ-cells : (cells : ℕ) (kept : Nodes) → T (is_sorted path_cmp kept) → FilesApart cells kept → Differ (file_cells kept)
differ-cells cells [] sorted files = tt
differ-cells cells (entry ∷ kept) sorted files =
    by (node_cell entry.1) refl (differ-cells cells kept (t-second _ _ sorted) (rest-apart cells entry kept sorted files))
  where
    by : (found : Option ℕ) → node_cell entry.1 ≡ found → Differ (file_cells kept) → Differ (cons_option found (file_cells kept))
    by None e later = later
    by (Some x) e later = (
      all-cells (λ y. x ≢ y) kept (t-second _ _ sorted) (λ path cell h same.
          let found = file-node (value_at path_cmp path kept) cell h in
          later-elsewhere entry kept path found.node sorted found.is
          (files.alone path entry.0 cell (later-file entry kept path cell sorted h) (first-file entry kept ∙ e ∙ ap Some same))),
      later,
    )

alone-cells : (kept : Nodes) → Differ (file_cells kept) → (path other : Path) (cell : ℕ) →
    file_at kept path ≡ Some cell → file_at kept other ≡ Some cell → path ≡ other
alone-cells [] differ path other cell h k = absurd (cc)
alone-cells (entry ∷ kept) differ path other cell h k = elim (same-or-other-path path entry.0) [
  | inl a ↦ elim (same-or-other-path other entry.0) [
    | inl b ↦ a ∙ sym b
    | inr b ↦ absurd (clash (node_cell entry.1) (now path a h) differ other (later other b k))
  ]
  | inr a ↦ elim (same-or-other-path other entry.0) [
    | inl b ↦ absurd (clash (node_cell entry.1) (now other b k) differ path (later path a h))
    | inr b ↦ alone-cells kept (tail (node_cell entry.1) differ) path other cell (later path a h) (later other b k)
  ]
]
  where
    now : (p : Path) → p ≡ entry.0 → file_at (entry ∷ kept) p ≡ Some cell → node_cell entry.1 ≡ Some cell
    now p same e = sym (ap (option_and_then node_cell) (at-entry p entry kept same)) ∙ e

    later : (p : Path) → p ≢ entry.0 → file_at (entry ∷ kept) p ≡ Some cell → file_at kept p ≡ Some cell
    later p other e = sym (ap (option_and_then node_cell) (at-later p entry kept other)) ∙ e

    tail : (found : Option ℕ) → Differ (cons_option found (file_cells kept)) → Differ (file_cells kept)
    tail None differ = differ
    tail (Some x) differ = differ.1

    clash : (found : Option ℕ) → found ≡ Some cell → Differ (cons_option found (file_cells kept)) → (p : Path) → file_at kept p ≡ Some cell → ⊥
    clash None e differ p m = absurd (cc)
    clash (Some x) e differ p m = let s : x ≡ cell = cc in each-cell (λ y. x ≢ y) kept differ.0 p cell m s

-- an entry of a record in order is found at its path
pub found-contained : (kept : Nodes) (path : Path) (node : CellNode) → T (is_sorted path_cmp kept) → Contains kept (path, node) → value_at path_cmp path kept ≡ Some node
found-contained kept path node sorted h = by kept sorted h.0 h.1 h.2
  where
    by : (kept : Nodes) → T (is_sorted path_cmp kept) → (k : ℕ) → k < length kept → slice_index_or kept k (path, node) ≡ (path, node) → value_at path_cmp path kept ≡ Some node
    by [] sorted k l e = absurd (omega arith)
    by (entry ∷ kept) sorted zero l e = at-entry path entry kept (ap (λ (p : Path × CellNode). p.0) (sym e)) ∙ ap (λ (p : Path × CellNode). Some p.1) e
    by (entry ∷ kept) sorted (suc k) l e = later-there entry kept path node sorted (by kept (t-second _ _ sorted) k (omega arith) e)

pub contained-found : (kept : Nodes) (path : Path) (node : CellNode) → value_at path_cmp path kept ≡ Some node → Contains kept (path, node)
contained-found [] path node h = absurd (cc)
contained-found (entry ∷ kept) path node h = elim (same-or-other-path path entry.0) [
  | inl same ↦
      let is : Some entry.1 ≡ Some node = sym (at-entry path entry kept same) ∙ h in
      let value : entry.1 ≡ node = cc in
      (0, omega arith, λ i. (sym same i, value i))
  | inr other ↦
      let rest = contained-found kept path node (sym (at-later path entry kept other) ∙ h) in
      (suc rest.0, (let l = rest.1 in omega (arith, l)), rest.2)
]

-- a record is a closed tree
pub closed-record : (cells : ℕ) (kept : Nodes) → T (is_sorted path_cmp kept) → IsRecord cells kept → IsClosedTree (found_dir is_dir) kept
closed-record cells kept sorted record_of = record {
  sorted = sorted;
  rootless = absent (value_at path_cmp [] kept) refl;
  parents = λ front name h. parent front name (value_at path_cmp (front ++ name ∷ []) kept) refl h;
  bounded = record_of.bounded;
}
  where
    absent : (found : Option CellNode) → value_at path_cmp [] kept ≡ found → value_at path_cmp [] kept ≡ None
    absent None e = e
    absent (Some node) e = absurd (record_of.rootless node (contained-found kept [] node e))

    by : (front : Path) → IsFolder kept front → (found_dir is_dir (value_at path_cmp front kept) || same_path front []) ≡ true
    by front (inl e) = or-second (found_dir is_dir (value_at path_cmp front kept)) (same_path front []) (ap (λ p. same_path p []) e ∙ same_path-itself [])
    by front (inr there) = or-first _ (same_path front []) (ap (found_dir is_dir) (found-contained kept front Dir sorted there))

    parent : (front : Path) (name : List ℕ) (found : Option CellNode) → value_at path_cmp (front ++ name ∷ []) kept ≡ found → is_some (value_at path_cmp (front ++ name ∷ []) kept) ≡ true →
        (found_dir is_dir (value_at path_cmp front kept) || same_path front []) ≡ true
    parent front name None e h = let no : is_some (value_at path_cmp (front ++ name ∷ []) kept) ≡ false = ap is_some e in absurd (cc)
    parent front name (Some node) e h = by front (record_of.parents front name node (contained-found kept (front ++ name ∷ []) node e))

pub apart-record : (cells : ℕ) (kept : Nodes) → IsRecord cells kept → FilesApart cells kept
apart-record cells kept record_of = record {
  within = each-cell (λ cell. cell < cells) kept (recursion_from_All (λ cell. cell < cells) (file_cells kept) record_of.on_cells);
  alone = alone-cells kept (Differ-pairs (file_cells kept) record_of.own_cells);
}

-- a closed tree whose files are apart is a record
pub record-closed : (cells : ℕ) (kept : Nodes) → IsClosedTree (found_dir is_dir) kept → FilesApart cells kept → IsRecord cells kept
record-closed cells kept closed files = record {
  bounded = closed.bounded;
  rootless = λ node h. let some = found-contained kept [] node closed.sorted h in let none = closed.rootless in absurd (cc);
  parents = λ front name node h. folder front (value_at path_cmp front kept) (same_path front []) refl refl
      (closed.parents front name (ap is_some (found-contained kept (front ++ name ∷ []) node closed.sorted h)));
  on_cells = All-from_recursion (λ cell. cell < cells) (file_cells kept) (all-cells (λ cell. cell < cells) kept closed.sorted files.within);
  own_cells = pairs-Differ (file_cells kept) (differ-cells cells kept closed.sorted files);
}
  where
    dir : (front : Path) (node : CellNode) → value_at path_cmp front kept ≡ Some node → is_dir node ≡ true → IsFolder kept front
    dir front Dir e h = inr (contained-found kept front Dir e)
    dir front (File cell size stored) e h = absurd (cc)

    folder : (front : Path) (found : Option CellNode) (root : Bool) → value_at path_cmp front kept ≡ found → same_path front [] ≡ root →
        (found_dir is_dir found || root) ≡ true → IsFolder kept front
    folder front found true e r h = inl (same_path-is front [] r)
    folder front None false e r h = absurd (cc)
    folder front (Some node) false e r h = dir front node e (left (is_dir node) h)
      where
        left : (a : Bool) → (a || false) ≡ true → a ≡ true
        left true h = refl
        left false h = absurd (cc)
