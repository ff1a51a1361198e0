-- The cells of a mount that goes are counted for its live files and for the names that its volume keeps.
use Rattle.std.proofs.Common.{◌≡◌, ◌≢◌, ℕ, ◌+◌, ◌-◌, ◌<◌, ◌≤◌, Bool, true, false, not, ◌&&◌, ◌==◌, T, Option, Some, None, IsSomeAnd, List, [], ◌∷◌, length, map, filter, find, slice_index_or, ◌⊎◌, inl, inr, if◌then◌else◌, refl, sym, ap, subst, ◌∙◌, arith}
use Rattle.std.proofs.lemmas.List.{length-set}
use Rattle.std.proofs.lemmas.List.Sums.{sum_by-cons}
use Rattle.std.specs.Cmp.Lexicographic.{bytes_decides}
use Rattle.std.specs.FinMap.Entries.{find as value_at, is_sorted}
use Rattle.std.specs.Option.{option_map}
use Rattle.std.specs.Prelude.{count_by}
use Rattle.vfs_base.specs.Path.{Path, path_cmp}
use Rattle.vfs_base.specs.declared.ids.FileId.{FileId}
use Rattle.vfs_base.specs.declared.kinds.FsType.{FsType}
use Rattle.vfs_base.specs.declared.kinds.FsType.TheVariants as fs
use Rattle.vfs_base.specs.declared.kinds.Kind.{Kind}
use Rattle.vfs_base.specs.declared.kinds.Kind.TheVariants as kind
use Rattle.vfs_base.specs.declared.kinds.NodeKind.{NodeKind}
use Rattle.vfs_base.specs.declared.kinds.NodeKind.TheVariants as node
use Rattle.vfs_model.specs.Boxes.{cell_files, fits_kind, is_backed_by, is_kept_on, lies_on_cell, one_if}
use Rattle.vfs_model.specs.Consistency.{fits_mount, mount_numbered, same_kind}
use Rattle.vfs_model.specs.FileLife.{backing_of, volume_at, volume_named}
use Rattle.vfs_model.specs.Content.{is_mounted, same_type}
use Rattle.vfs_model.specs.Namespace.{all_mounts, life_at, same_bytes, tree_of}
use Rattle.vfs_model.specs.FileStep.{is_cell}
use Rattle.vfs_model.specs.OpenStep.{kind_of}
use Rattle.vfs_model.specs.UmountSteps.{cell_of, kept_node, rows_of_mount}
use Rattle.vfs_model.specs.declared.namespace.Backing.{Backing}
use Rattle.vfs_model.specs.declared.namespace.Backing.TheVariants as backing
use Rattle.vfs_model.specs.declared.namespace.KeptNode.{KeptNode}
use Rattle.vfs_model.specs.declared.namespace.KeptNode.TheVariants as kept
use Rattle.vfs_model.specs.declared.namespace.LiveFile.{LiveFile}
use Rattle.vfs_model.specs.declared.namespace.Mount.{Mount}
use Rattle.vfs_model.specs.declared.namespace.Namespace.{Namespace}
use Rattle.world_laws.proofs.parts.Emptying.{AllAbove, Empty, InRows, RowsLeft, twice}
use Rattle.world_laws.proofs.lists.Counting.{some-count}
use Rattle.world_laws.proofs.lists.Leaving.{count-any, in-left, one-place, rows-left, unique-count}
use Rattle.world_laws.proofs.lists.Lists.{any-node, below-or-past, node-any, number-itself, place-any, other-number, same-number, same-or-other, same-some, true-or-false}
use Rattle.world_laws.proofs.steps.OpenKeeping.{numbered}
use Rattle.world_laws.proofs.lists.Passing.{and-first, and-second}
use Rattle.world_laws.proofs.parts.Standing.{Nothing, Stands}
use Rattle.world_laws.proofs.parts.Taking.{BoxesBut, DevicesPlaced}
use Rattle.world_laws.proofs.steps.Unmounting.{MayLeave, all-left, cell-left, keep-named, keep-other, keep-own, keep-pages, keep-spare, left-rest, left-rows, left-same, left_by, linked-own, name-at, names-sorted, not-held, other-left, own-linked, own-name, row-life, row-of, stays, there-before}

-- a row of a list that passes
pub some-row : (p : ℕ → Bool) (rows : List ℕ) → 0 < count_by p rows → (row : ℕ) × InRows rows row × (p row ≡ true)
some-row p [] l = absurd (omega (arith, l))
some-row p (r ∷ rows) l = by (p r) refl (some-row p rows)
  where
    by : (b : Bool) → p r ≡ b → (0 < count_by p rows → (row : ℕ) × InRows rows row × (p row ≡ true)) → (row : ℕ) × InRows (r ∷ rows) row × (p row ≡ true)
    by true e later = (r, inl refl, e)
    by false e later =
        let all : count_by p (r ∷ rows) ≡ one_if (p r) + count_by p rows = sum_by-cons (λ x. one_if (p x)) r rows in
        let first : one_if (p r) ≡ 0 = ap one_if e in
        let found = later (omega (arith, l, all, first)) in
        (found.0, inr found.1, found.2)

pub row-count : (p : ℕ → Bool) (rows : List ℕ) (row : ℕ) → InRows rows row → p row ≡ true → 0 < count_by p rows
row-count p [] row i h = absurd i
row-count p (r ∷ rows) row (inl e) h =
    let all : count_by p (r ∷ rows) ≡ one_if (p r) + count_by p rows = sum_by-cons (λ x. one_if (p x)) r rows in
    let first : one_if (p r) ≡ 1 = ap (λ x. one_if (p x)) (sym e) ∙ ap one_if h in
    omega (arith, all, first)
row-count p (r ∷ rows) row (inr i) h =
    let all : count_by p (r ∷ rows) ≡ one_if (p r) + count_by p rows = sum_by-cons (λ x. one_if (p x)) r rows in
    let later = row-count p rows row i h in
    omega (arith, all, later)

pub no-rows : (p : ℕ → Bool) (rows : List ℕ) → ((row : ℕ) → InRows rows row → p row ≡ false) → count_by p rows ≡ 0
no-rows p [] h = refl
no-rows p (r ∷ rows) h =
    let all : count_by p (r ∷ rows) ≡ one_if (p r) + count_by p rows = sum_by-cons (λ x. one_if (p x)) r rows in
    let first : one_if (p r) ≡ 0 = ap one_if (h r (inl refl)) in
    let later = no-rows p rows (λ row i. h row (inr i)) in
    omega (arith, all, first, later)

pub above-in : (r row : ℕ) (rows : List ℕ) → AllAbove r rows → InRows rows row → r < row
above-in r row [] above i = absurd i
above-in r row (x ∷ rows) above (inl e) = subst (λ k. r < k) (sym e) above.0
above-in r row (x ∷ rows) above (inr i) = above-in r row rows above.1 i

-- at most one row passes where rows that pass are one
pub one-row : (number : ℕ) (m : Namespace) (p : ℕ → Bool) (rows : List ℕ) → RowsLeft number m rows →
    ((a b : ℕ) → InRows rows a → InRows rows b → p a ≡ true → p b ≡ true → a ≡ b) → count_by p rows ≤ 1
one-row number m p [] left one = omega arith
one-row number m p (r ∷ rows) left one = by (p r) refl (one-row number m p rows left.4 (λ a b i j. one a b (inr i) (inr j)))
  where
    all : count_by p (r ∷ rows) ≡ one_if (p r) + count_by p rows
    all = sum_by-cons (λ x. one_if (p x)) r rows

    by : (b : Bool) → p r ≡ b → count_by p rows ≤ 1 → count_by p (r ∷ rows) ≤ 1
    by true e later =
        let none = no-rows p rows (λ row i. elim (true-or-false (p row)) [
          | inr h ↦ h
          | inl h ↦ let same = one r row (inl refl) (inr i) e h in let above = above-in r row rows left.3 i in absurd (omega (arith, same, above))
        ]) in
        let first : one_if (p r) ≡ 1 = ap one_if e in
        let sum = all in
        omega (arith, sum, first, none)
    by false e later =
        let first : one_if (p r) ≡ 0 = ap one_if e in
        let sum = all in
        omega (arith, sum, first, later)

-- what lies on a cell
pub on-cell : (volume cell : ℕ) (b : Backing) → lies_on_cell volume cell b ≡ true → b ≡ backing.Cell volume cell
on-cell volume cell backing.Memory h = absurd (cc)
on-cell volume cell (backing.Device device) h = absurd (cc)
on-cell volume cell (backing.Cell v c) h = ap (λ x. backing.Cell x c) (same-number v volume (and-first (v == volume) (c == cell) h)) ∙ ap (backing.Cell volume) (same-number c cell (and-second (v == volume) (c == cell) h))

-- a file on a cell is one of a mount of a volume
pub cell-kind-is : (life : LiveFile) (volume cell : ℕ) (f : FsType) → life.backing ≡ backing.Cell volume cell → fits_kind (Some life) ≡ true → same_kind life.kind (kind_of f) ≡ true → f ≡ fs.Cell
cell-kind-is life volume cell f e kinds fits = by life.kind f (subst (λ b. fits_kind (Some (record life { backing = b })) ≡ true) e kinds) fits
  where
    by : (k : Kind) (t : FsType) → is_cell k ≡ true → same_kind k (kind_of t) ≡ true → t ≡ fs.Cell
    by kind.Tmp t h same = absurd (cc)
    by kind.Rom t h same = absurd (cc)
    by kind.Chr t h same = absurd (cc)
    by kind.Cell fs.Cell h same = refl
    by kind.Cell fs.Tmp h same = absurd (cc)
    by kind.Cell fs.Rom h same = absurd (cc)
    by kind.Cell fs.Dev h same = absurd (cc)

module _ (n : Namespace) (mount : Mount) (s : Stands Nothing n) (may : MayLeave n mount) where
  some-fits : (found : Option Mount) (life : LiveFile) → found ≡ Some mount → IsSomeAnd found (λ m. fits_mount n life m ≡ true) → fits_mount n life mount ≡ true
  some-fits None life e h = absurd h
  some-fits (Some m) life e h = subst (λ x. fits_mount n life x ≡ true) (same-some m mount e) h

  -- a file of the mount is of the mount's kind and on its volume
  pub own-fits : (row : ℕ) (life : LiveFile) → life_at n row ≡ Some life → life.mount ≡ mount.number → fits_mount n life mount ≡ true
  own-fits row life h e =
      some-fits (mount_numbered n life.mount) life (ap (mount_numbered n) e ∙ numbered n mount s.working_directories may.is) (s.live_files row life h)

  pub of-volume : (life : LiveFile) (volume cell : ℕ) → life.backing ≡ backing.Cell volume cell → fits_mount n life mount ≡ true → volume ≡ volume_named n mount.source
  of-volume life volume cell e h =
      let fits : (same_kind life.kind (kind_of mount.fs) && (volume == volume_named n mount.source)) ≡ true = subst (λ b. fits_mount n (record life { backing = b }) mount ≡ true) e h in
      same-number volume (volume_named n mount.source) (and-second (same_kind life.kind (kind_of mount.fs)) _ fits)

  row-cell : (row volume cell : ℕ) → InRows (rows_of_mount n mount.number) row → is_backed_by (lies_on_cell volume cell) (life_at n row) ≡ true →
      (life : LiveFile) × (life_at n row ≡ Some life) × (life.backing ≡ backing.Cell volume cell) × (volume ≡ volume_named n mount.source)
  row-cell row volume cell i h =
      let life = row-life n mount s may row i in
      let on = on-cell volume cell life.0.backing (sym (ap (is_backed_by (lies_on_cell volume cell)) life.1) ∙ h) in
      (life.0, life.1, on, of-volume life.0 volume cell on (own-fits row life.0 life.1 life.2))

  -- no file of the mount lies on another volume
  other-volume : (volume cell : ℕ) → volume ≢ volume_named n mount.source → twice n volume cell (rows_of_mount n mount.number) ≡ 0
  other-volume volume cell h =
      no-rows (λ row. is_backed_by (lies_on_cell volume cell) (life_at n row)) (rows_of_mount n mount.number)
      (λ row i. elim (true-or-false (is_backed_by (lies_on_cell volume cell) (life_at n row))) [
        | inr k ↦ k
        | inl k ↦ absurd (h (row-cell row volume cell i k).3)
      ])

  -- two live files on one cell are one
  pub same-cell : (volume cell a b : ℕ) → volume < length n.volumes → cell < length (volume_at n volume).pages → 0 < a → 0 < b → a - 1 < 1024 → b - 1 < 1024 →
      is_backed_by (lies_on_cell volume cell) (life_at n a) ≡ true → is_backed_by (lies_on_cell volume cell) (life_at n b) ≡ true → a ≡ b
  same-cell volume cell a b v c l m small less h k =
      let placed = s.boxes.cells volume cell v c in
      let live_files = s.sizes.live_files in
      let same = one-place (is_backed_by (lies_on_cell volume cell)) n.live_files None None (a - 1) (b - 1) refl (omega (arith, placed)) (omega (arith, small, live_files)) (omega (arith, less, live_files)) h k in
      omega (arith, l, m, same)

  -- a name kept on a cell is that of a live file of the mount
  kept-file : (found : NodeKind) (cell : ℕ) → is_kept_on cell (kept_node n found) ≡ true → (id : FileId) × (kind : Kind) × (found ≡ node.File id kind) × (volume : ℕ) × (backing_of (life_at n id.row) ≡ backing.Cell volume cell)
  kept-file node.Dir cell h = absurd (cc)
  kept-file (node.File id kind) cell h = let on = by (backing_of (life_at n id.row)) refl h in (id, kind, refl, on.0, on.1)
    where
      by : (b : Backing) → backing_of (life_at n id.row) ≡ b → is_kept_on cell (cell_of b) ≡ true → (volume : ℕ) × (backing_of (life_at n id.row) ≡ backing.Cell volume cell)
      by backing.Memory e k = absurd (cc)
      by (backing.Device device) e k = absurd (cc)
      by (backing.Cell v c) e k = (v, e ∙ ap (backing.Cell v) (same-number c cell k))

  live-backed : (found : Option LiveFile) (volume cell : ℕ) → backing_of found ≡ backing.Cell volume cell → is_backed_by (lies_on_cell volume cell) found ≡ true
  live-backed None volume cell e = absurd (cc)
  live-backed (Some life) volume cell e = ap (lies_on_cell volume cell) e ∙ ap (λ b. b && (cell == cell)) (number-itself volume) ∙ number-itself cell

  backed-live : (found : Option LiveFile) (volume cell : ℕ) → is_backed_by (lies_on_cell volume cell) found ≡ true → backing_of found ≡ backing.Cell volume cell
  backed-live None volume cell h = absurd (cc)
  backed-live (Some life) volume cell h = on-cell volume cell life.backing h

  pub node-row : (path : Path) (id : FileId) (kind : Kind) → value_at path_cmp path (tree_of n mount.number) ≡ Some (node.File id kind) → InRows (rows_of_mount n mount.number) id.row
  node-row path id kind h =
      let live = s.live.linked mount.number path id kind h in
      by (life_at n id.row) refl live.life live.row
    where
      by : (found : Option LiveFile) → life_at n id.row ≡ found → IsSomeAnd found (λ life. (life.kind ≡ kind) × (life.mount ≡ mount.number)) → 0 < id.row → InRows (rows_of_mount n mount.number) id.row
      by None e k l = absurd k
      by (Some life) e k l = row-of n mount s may id.row life l e k.1

  -- a kept name of a cell, as the node of the tree
  record NameOn (path : Path) (cell : ℕ) : Type 0 where
    pub id : FileId
    pub kind : Kind
    pub there : value_at path_cmp path (tree_of n mount.number) ≡ Some (node.File id kind)
    pub row : InRows (rows_of_mount n mount.number) id.row
    pub backed : is_backed_by (lies_on_cell (volume_named n mount.source) cell) (life_at n id.row) ≡ true

  name-on : (path : Path) (cell : ℕ) (name : KeptNode) → value_at path_cmp path (map (λ entry. (entry.0, kept_node n entry.1)) (tree_of n mount.number)) ≡ Some name → is_kept_on cell name ≡ true → NameOn path cell
  name-on path cell name h k = by (value_at path_cmp path (tree_of n mount.number)) refl (sym (name-at n mount s may path (tree_of n mount.number)) ∙ h)
    where
      by : (found : Option NodeKind) → value_at path_cmp path (tree_of n mount.number) ≡ found → option_map (kept_node n) found ≡ Some name → NameOn path cell
      by None e f = absurd (cc)
      by (Some found) e f =
          let file = kept-file found cell (ap (is_kept_on cell) (same-some (kept_node n found) name f) ∙ k) in
          let there = e ∙ ap Some file.2 in
          let row = node-row path file.0 file.1 there in
          let backed = live-backed (life_at n file.0.row) file.3 cell file.4 in
          let own = row-cell file.0.row file.3 cell row backed in
          record { id = file.0; kind = file.1; there = there; row = row; backed = subst (λ v. is_backed_by (lies_on_cell v cell) (life_at n file.0.row) ≡ true) own.3 backed }

  -- the volume keeps as many names on a cell as there are live files on it
  names-twice : (cell : ℕ) → volume_named n mount.source < length n.volumes → cell < length (volume_at n (volume_named n mount.source)).pages →
      count_by {X = Path × KeptNode} (λ entry. is_kept_on cell entry.1) (map (λ entry. (entry.0, kept_node n entry.1)) (tree_of n mount.number)) ≡ twice n (volume_named n mount.source) cell (rows_of_mount n mount.number)
  names-twice cell l c = equal most least more less
    where
      names : List (Path × KeptNode)
      names = map (λ entry. (entry.0, kept_node n entry.1)) (tree_of n mount.number)

      sorted : T (is_sorted path_cmp names)
      sorted = subst T (sym (names-sorted n mount s may (tree_of n mount.number))) (s.trees mount.number).sorted

      place : (row : ℕ) → InRows (rows_of_mount n mount.number) row → (0 < row) × (row - 1 < 1024)
      place row i = let left = in-left mount.number n (rows_of_mount n mount.number) row (left-rows n mount s may) i in (left.0, left.1)

      one : (a b : ℕ) → InRows (rows_of_mount n mount.number) a → InRows (rows_of_mount n mount.number) b →
          is_backed_by (lies_on_cell (volume_named n mount.source) cell) (life_at n a) ≡ true → is_backed_by (lies_on_cell (volume_named n mount.source) cell) (life_at n b) ≡ true → a ≡ b
      one a b i j h k = same-cell (volume_named n mount.source) cell a b l c (place a i).0 (place b j).0 (place a i).1 (place b j).1 h k

      most : count_by (λ entry. is_kept_on cell entry.1) names ≤ 1
      most = unique-count (is_kept_on cell) names sorted (λ p q a b h i k j.
          let x = name-on p cell a h i in
          let y = name-on q cell b k j in
          (s.alone mount.number mount.number p q x.id y.id x.kind y.kind x.there y.there (one x.id.row y.id.row x.row y.row x.backed y.backed)).1)

      least : twice n (volume_named n mount.source) cell (rows_of_mount n mount.number) ≤ 1
      least = one-row mount.number n (λ row. is_backed_by (lies_on_cell (volume_named n mount.source) cell) (life_at n row)) (rows_of_mount n mount.number) (left-rows n mount s may) one

      more : 0 < count_by (λ entry. is_kept_on cell entry.1) names → 0 < twice n (volume_named n mount.source) cell (rows_of_mount n mount.number)
      more m =
          let found = any-node (is_kept_on cell) names sorted (count-any (λ entry. is_kept_on cell entry.1) names ([], kept.Dir) m) in
          let x = name-on found.path cell found.node found.there found.holds in
          row-count (λ row. is_backed_by (lies_on_cell (volume_named n mount.source) cell) (life_at n row)) (rows_of_mount n mount.number) x.id.row x.row x.backed

      less : 0 < twice n (volume_named n mount.source) cell (rows_of_mount n mount.number) → 0 < count_by (λ entry. is_kept_on cell entry.1) names
      less m =
          let found = some-row (λ row. is_backed_by (lies_on_cell (volume_named n mount.source) cell) (life_at n row)) (rows_of_mount n mount.number) m in
          let linked = linked-own n mount s may found.0 found.1 in
          let own = own-linked n mount s may found.0 found.1 linked in
          let there = name-at n mount s may linked.path (tree_of n mount.number) ∙ ap (option_map (kept_node n)) (ap (λ k. value_at path_cmp linked.path (tree_of n k)) (sym own) ∙ linked.there) in
          let backed = ap (λ x. backing_of (life_at n x)) linked.is ∙ backed-live (life_at n found.0) (volume_named n mount.source) cell found.2 in
          some-count (λ entry. is_kept_on cell entry.1) names (node-any (is_kept_on cell) names linked.path (kept_node n (node.File linked.id linked.kind)) there
          (ap (λ b. is_kept_on cell (cell_of b)) backed ∙ number-itself cell))

      equal : {a b : ℕ} → a ≤ 1 → b ≤ 1 → (0 < a → 0 < b) → (0 < b → 0 < a) → a ≡ b
      equal {a} {b} h k i j = elim (same-or-other a b) [
        | inl e ↦ e
        | inr e ↦ elim (below-or-past 0 a) [
          | inl x ↦ let y = i x in omega (arith, h, k, x, y)
          | inr x ↦ elim (below-or-past 0 b) [
            | inl y ↦ let z = j y in absurd (omega (arith, x, z))
            | inr y ↦ omega (arith, x, y)
          ]
        ]
      ]

  no-cells : mount.fs ≢ fs.Cell → (volume cell : ℕ) → twice n volume cell (rows_of_mount n mount.number) ≡ 0
  no-cells h volume cell =
      no-rows (λ row. is_backed_by (lies_on_cell volume cell) (life_at n row)) (rows_of_mount n mount.number)
      (λ row i. elim (true-or-false (is_backed_by (lies_on_cell volume cell) (life_at n row))) [
        | inr k ↦ k
        | inl k ↦
            let life = row-life n mount s may row i in
            let on = on-cell volume cell life.0.backing (sym (ap (is_backed_by (lies_on_cell volume cell)) life.1) ∙ k) in
            absurd (h (cell-kind-is life.0 volume cell mount.fs on (sym (ap fits_kind life.1) ∙ s.boxes.kinds row) (and-first (same_kind life.0.kind (kind_of mount.fs)) _ (own-fits row life.0 life.1 life.2))))
      ])

  is-mounted : mount.fs ≡ fs.Cell → is_mounted n fs.Cell mount.source ≡ true
  is-mounted cell =
      place-any (λ m. same_type m.fs fs.Cell && same_bytes m.source mount.source) (all_mounts n) may.is.place mount may.is.within
      (ap (λ m. same_type m.fs fs.Cell && same_bytes m.source mount.source) may.is.is ∙ ap (λ t. same_type t fs.Cell && same_bytes mount.source mount.source) cell
      ∙ (bytes_decides mount.source mount.source).1 refl)

  own-kept : mount.fs ≡ fs.Cell → volume_named n mount.source < length n.volumes → (volume_at n (volume_named n mount.source)).kept ≡ []
  own-kept cell l = s.boxes.mounted (volume_named n mount.source) (ap (is_mounted n fs.Cell) (own-name n mount s may l) ∙ is-mounted cell)

  cells-left : (f : FsType) → mount.fs ≡ f → (volume cell : ℕ) → volume < length (left_by n mount f).volumes → cell < length (volume_at (left_by n mount f) volume).pages →
      cell_files (left_by n mount f) volume cell + one_if (slice_index_or (volume_at (left_by n mount f) volume).spare cell false) ≡ 1 + twice (left_by n mount f) volume cell (rows_of_mount n mount.number)
  cells-left fs.Tmp e volume cell v c = let placed = s.boxes.cells volume cell v c in let none = no-cells (λ h. let k = sym e ∙ h in absurd (cc)) volume cell in omega (arith, placed, none)
  cells-left fs.Rom e volume cell v c = let placed = s.boxes.cells volume cell v c in let none = no-cells (λ h. let k = sym e ∙ h in absurd (cc)) volume cell in omega (arith, placed, none)
  cells-left fs.Dev e volume cell v c = let placed = s.boxes.cells volume cell v c in let none = no-cells (λ h. let k = sym e ∙ h in absurd (cc)) volume cell in omega (arith, placed, none)
  cells-left fs.Cell e volume cell v c =
      let within : volume < length n.volumes = subst (λ x. volume < x) (length-set n.volumes (volume_named n mount.source) _) v in
      let inside : cell < length (volume_at n volume).pages = subst (λ pages. cell < length pages) (keep-pages n mount s may volume) c in
      let placed = s.boxes.cells volume cell within inside in
      let spare = ap (λ xs. one_if (slice_index_or xs cell false)) (keep-spare n mount s may volume) in
      elim (same-or-other volume (volume_named n mount.source)) [
        | inr h ↦
            let kept = ap (count_by (λ entry. is_kept_on cell entry.1)) (keep-other n mount s may volume h) in
            let none = other-volume volume cell h in
            omega (arith, placed, spare, kept, none)
        | inl h ↦
            let own = subst (λ x. x < length n.volumes) h within in
            let same : (volume_at (left_by n mount fs.Cell) volume).kept ≡ map (λ entry. (entry.0, kept_node n entry.1)) (tree_of n mount.number) =
            ap (λ x. (volume_at (left_by n mount fs.Cell) x).kept) h ∙ keep-own n mount s may own in
            let before : (volume_at n volume).kept ≡ [] = ap (λ x. (volume_at n x).kept) h ∙ own-kept e own in
            let now = ap (count_by (λ entry. is_kept_on cell entry.1)) same in
            let was : count_by (λ entry. is_kept_on cell entry.1) (volume_at n volume).kept ≡ 0 = ap (count_by (λ entry. is_kept_on cell entry.1)) before in
            let counted = names-twice cell own (subst (λ x. cell < length (volume_at n x).pages) h inside) in
            let rows = ap (λ x. twice n x cell (rows_of_mount n mount.number)) h in
            omega (arith, placed, spare, now, was, counted, rows)
      ]

  -- a live file is alone on its cell
  lone-left : (f : FsType) (volume cell : ℕ) → volume < length (left_by n mount f).volumes → cell < length (volume_at (left_by n mount f) volume).pages →
      count_by (is_backed_by (lies_on_cell volume cell)) (left_by n mount f).live_files + one_if (slice_index_or (volume_at (left_by n mount f) volume).spare cell false) ≤ 1
  lone-left fs.Tmp volume cell v c = let placed = s.boxes.cells volume cell v c in omega (arith, placed)
  lone-left fs.Rom volume cell v c = let placed = s.boxes.cells volume cell v c in omega (arith, placed)
  lone-left fs.Dev volume cell v c = let placed = s.boxes.cells volume cell v c in omega (arith, placed)
  lone-left fs.Cell volume cell v c =
      let within : volume < length n.volumes = subst (λ x. volume < x) (length-set n.volumes (volume_named n mount.source) _) v in
      let inside : cell < length (volume_at n volume).pages = subst (λ pages. cell < length pages) (keep-pages n mount s may volume) c in
      let placed = s.boxes.cells volume cell within inside in
      let spare = ap (λ xs. one_if (slice_index_or xs cell false)) (keep-spare n mount s may volume) in
      omega (arith, placed, spare)

  devices-left : (f : FsType) → DevicesPlaced (left_by n mount f)
  devices-left fs.Tmp = s.boxes.devices
  devices-left fs.Rom = s.boxes.devices
  devices-left fs.Cell = s.boxes.devices
  devices-left fs.Dev = s.boxes.devices

  but-left : (f : FsType) → mount.fs ≡ f → BoxesBut (left_by n mount f)
  but-left fs.Tmp e = other-left n mount s may fs.Tmp refl
  but-left fs.Rom e = other-left n mount s may fs.Rom refl
  but-left fs.Dev e = other-left n mount s may fs.Dev refl
  but-left fs.Cell e = cell-left n mount s may e

  -- a mount that stays is found by its number
  still-numbered : (f : FsType) (number : ℕ) → number ≢ mount.number → mount_numbered (left_by n mount f) number ≡ mount_numbered n number
  still-numbered f number h = ap (find (λ m. m.number == number)) (all-left n mount s may f) ∙ among (all_mounts n)
    where
      among : (mounts : List Mount) → find (λ m. m.number == number) (filter (stays mount.number) mounts) ≡ find (λ m. m.number == number) mounts
      among [] = refl
      among (m ∷ mounts) = by (true-or-false (m.number == mount.number)) (among mounts)
        where
          by : ((m.number == mount.number) ≡ true) ⊎ ((m.number == mount.number) ≡ false) →
              find (λ m. m.number == number) (filter (stays mount.number) mounts) ≡ find (λ m. m.number == number) mounts →
              find (λ m. m.number == number) (if stays mount.number m then m ∷ filter (stays mount.number) mounts else filter (stays mount.number) mounts) ≡
              (if m.number == number then Some m else find (λ m. m.number == number) mounts)
          by (inr e) later =
              ap (λ b. find (λ m. m.number == number) (if not b then m ∷ filter (stays mount.number) mounts else filter (stays mount.number) mounts)) e
              ∙ ap (λ found. if m.number == number then Some m else found) later
          by (inl e) later =
              let other : (m.number == number) ≡ false = other-number m.number number (λ k. h (sym k ∙ same-number m.number mount.number e)) in
              ap (λ b. find (λ m. m.number == number) (if not b then m ∷ filter (stays mount.number) mounts else filter (stays mount.number) mounts)) e
              ∙ later ∙ sym (ap (λ b. if b then Some m else find (λ m. m.number == number) mounts) other)

  still-fits : (f : FsType) (life : LiveFile) (m : Mount) → fits_mount (left_by n mount f) life m ≡ fits_mount n life m
  still-fits fs.Tmp life m = refl
  still-fits fs.Rom life m = refl
  still-fits fs.Dev life m = refl
  still-fits fs.Cell life m = by life.backing
    where
      by : (b : Backing) → fits_mount (left_by n mount fs.Cell) (record life { backing = b }) m ≡ fits_mount n (record life { backing = b }) m
      by backing.Memory = refl
      by (backing.Device device) = refl
      by (backing.Cell volume cell) = ap (λ x. same_kind life.kind (kind_of m.fs) && (volume == x)) (keep-named n mount s may m.source)

  live_files-left : (f : FsType) (row : ℕ) (life : LiveFile) → life_at (left_by n mount f) row ≡ Some life → life.mount ≢ mount.number →
      IsSomeAnd (mount_numbered (left_by n mount f) life.mount) (λ m. fits_mount (left_by n mount f) life m ≡ true)
  live_files-left f row life h other =
      subst (λ found. IsSomeAnd found (λ m. fits_mount (left_by n mount f) life m ≡ true)) (sym (still-numbered f life.mount other))
      (by (mount_numbered n life.mount) (s.live_files row life (sym (ap (λ live_files. slice_index_or live_files (row - 1) None) (left-same n mount s may f).0) ∙ h)))
    where
      by : (found : Option Mount) → IsSomeAnd found (λ m. fits_mount n life m ≡ true) → IsSomeAnd found (λ m. fits_mount (left_by n mount f) life m ≡ true)
      by None k = k
      by (Some m) k = still-fits f life m ∙ k

  -- the mount has lost its tree, and its files are to be freed
  pub vacated : Empty mount.number (left_by n mount mount.fs) (rows_of_mount n mount.number)
  vacated =
      let same = left-same n mount s may mount.fs in
      record {
        rest = left-rest n mount s may mount.fs;
        boxes = but-left mount.fs refl;
        devices = devices-left mount.fs;
        cells = cells-left mount.fs refl;
        lone = lone-left mount.fs;
        live_files = live_files-left mount.fs;
        whole = λ row life l h e. row-of n mount s may row life l (sym (ap (λ live_files. slice_index_or live_files (row - 1) None) same.0) ∙ h) e;
        rows = rows-left mount.number 1 (left_by n mount mount.fs) n.live_files (omega arith) (let e = s.sizes.live_files in omega (arith, e))
            (λ k l. ap (λ live_files. slice_index_or live_files ((1 + k) - 1) None) same.0 ∙ ap (λ x. slice_index_or n.live_files x None) (omega arith));
        unlinked = λ row i linked u.
            let before = there-before n mount s may mount.fs linked.number linked.path (node.File linked.id linked.kind) linked.there in
            before.0 (own-linked n mount s may row i (record { number = linked.number; path = linked.path; id = linked.id; kind = linked.kind; there = before.1; is = linked.is }));
        unheld = λ row i held u. not-held n mount s may row i
            (record { place = held.place; reference = held.reference; is = held.is; there = subst (λ references. slice_index_or references held.place None ≡ Some held.reference) same.2 held.there }) u;
      }
