-- At the end `/` loses its nodes, and all mounts are gone.
use Rattle.std.proofs.Common.{◌≡◌, ℕ, ◌-◌, ◌<◌, Bool, true, false, ◌||◌, ◌==◌, if◌then◌else◌, Option, Some, None, is_some, IsSomeAnd, List, [], length, drop, fold, slice_index_or, ◌⊎◌, inl, inr, refl, sym, ap, subst, ◌∙◌, arith}
use Rattle.std.proofs.lemmas.List.{length-set}
use Rattle.std.specs.FinMap.Entries.{find as value_at}
use Rattle.vfs_base.specs.Path.{Path, path_cmp}
use Rattle.vfs_base.specs.declared.kinds.FsType.TheVariants as fs
use Rattle.vfs_base.specs.declared.kinds.NodeKind.{NodeKind}
use Rattle.vfs_base.specs.declared.kinds.NodeKind.TheVariants as node
use Rattle.vfs_model.specs.Boxes.{is_backed_by, lies_on_cell, fits_kind}
use Rattle.vfs_model.specs.Consistency.{FoldersStand, IsClosedTree, fits_mount, mount_numbered, same_kind}
use Rattle.vfs_model.specs.FileLife.{Rows, end_of_unmounted, free_row}
use Rattle.vfs_model.specs.Homes.{cell_capacity, change_row}
use Rattle.vfs_model.specs.Lookup.{covering_mount, is_dir_node, is_folder, node_at, node_in, with_tree}
use Rattle.vfs_model.specs.Namespace.{folder_of, life_at, tree_of}
use Rattle.vfs_model.specs.OpenStep.{kind_of}
use Rattle.vfs_model.specs.UmountSteps.{empty_mount, is_of_mount, keep_names, rows_of_mount}
use Rattle.vfs_model.specs.declared.namespace.LiveFile.{LiveFile}
use Rattle.vfs_model.specs.declared.namespace.Mount.{Mount}
use Rattle.vfs_model.specs.declared.namespace.Namespace.{Namespace}
use Rattle.vfs_model.specs.declared.namespace.RowChange.{RowChange}
use Rattle.vfs_model.specs.declared.world.WorldState.{WorldState}
use Rattle.world_laws.proofs.parts.Agreeing.{Agrees, agrees-beside}
use Rattle.world_laws.proofs.parts.Emptying.{Empty, InRows, empty-all, twice}
use Rattle.world_laws.proofs.lists.Leaving.{rows-in, rows-left}
use Rattle.world_laws.proofs.lists.Lists.{number-itself, other-number, same-number, same-or-other, set-here, set-there, some-within, true-or-false}
use Rattle.world_laws.proofs.steps.MountRemoval.{emptied-stands}
use Rattle.world_laws.proofs.lists.Passing.{and-first}
use Rattle.world_laws.proofs.parts.Standing.{Held, Linked, Nothing, Stands}
use Rattle.world_laws.proofs.parts.Taking.{boxes-but}
use Rattle.world_laws.proofs.steps.Vacating.{cell-kind-is, no-rows, on-cell}

-- no reference is left, and each session is in `/`
pub record AtRest (n : Namespace) : Type 0 where
  pub unheld : (place : ℕ) → slice_index_or n.references place None ≡ None
  pub home : (k : ℕ) → folder_of n k ≡ []

-- what the end keeps, where rows changed before
pub record Ended (n : Namespace) (changes : List RowChange) (out : Rows) : Type 0 where
  pub stands : Stands Nothing out.next
  pub pages : (volume cell : ℕ) → cell_capacity out.next volume cell ≡ cell_capacity n volume cell
  pub files : (v : WorldState) → Agrees (fold change_row v changes) n → Agrees (fold change_row v out.changes) out.next

abbrev lone : Namespace → Namespace
lone m = record m { mounts = [] }

abbrev bare : Namespace → Namespace
bare m = with_tree (record m { mounts = [] }) m.root.number []

module _ (m : Namespace) (s : Stands Nothing (lone m)) (rest : AtRest (lone m)) where
  all-bare : (number : ℕ) → tree_of (bare m) number ≡ []
  all-bare number = elim (same-or-other number m.root.number) [
    | inl e ↦ ap (tree_of (bare m)) e ∙ set-here m.trees m.root.number [] [] (let l = s.sizes.trees in let z = s.working_directories.root.1 in omega (arith, l, z))
    | inr h ↦ set-there m.trees m.root.number number [] [] h ∙ s.working_directories.unused number (ap (λ b. b || false) (other-number m.root.number number (λ e. h (sym e))))
  ]

  nothing-there : (number : ℕ) (path : Path) (found : NodeKind) → value_at path_cmp path (tree_of (bare m) number) ≡ Some found → ⊥
  nothing-there number path found h = let none = ap (value_at path_cmp path) (all-bare number) in absurd (cc)

  -- each live file is one of `/`
  own-mount : (row : ℕ) (life : LiveFile) → life_at m row ≡ Some life → (life.mount ≡ m.root.number) × (fits_mount (lone m) life m.root ≡ true)
  own-mount row life h = by (m.root.number == life.mount) refl (s.live_files row life h)
    where
      by : (b : Bool) → (m.root.number == life.mount) ≡ b → IsSomeAnd (mount_numbered (lone m) life.mount) (λ mount. fits_mount (lone m) life mount ≡ true) → (life.mount ≡ m.root.number) × (fits_mount (lone m) life m.root ≡ true)
      by true e k = (sym (same-number m.root.number life.mount e), subst (λ b. IsSomeAnd (if b then Some m.root else None) (λ mount. fits_mount (lone m) life mount ≡ true)) e k)
      by false e k = absurd (subst (λ b. IsSomeAnd (if b then Some m.root else None) (λ mount. fits_mount (lone m) life mount ≡ true)) e k)

  no-cell-rows : (volume cell : ℕ) → twice (bare m) volume cell (rows_of_mount m m.root.number) ≡ 0
  no-cell-rows volume cell =
      no-rows (λ row. is_backed_by (lies_on_cell volume cell) (life_at m row)) (rows_of_mount m m.root.number) (λ row i. by row (life_at m row) refl)
    where
      by : (row : ℕ) (found : Option LiveFile) → life_at m row ≡ found → is_backed_by (lies_on_cell volume cell) (life_at m row) ≡ false
      by row None e = ap (is_backed_by (lies_on_cell volume cell)) e
      by row (Some life) e = elim (true-or-false (lies_on_cell volume cell life.backing)) [
        | inr h ↦ ap (is_backed_by (lies_on_cell volume cell)) e ∙ h
        | inl h ↦
            let is : m.root.fs ≡ fs.Cell = cell-kind-is life volume cell m.root.fs (on-cell volume cell life.backing h) (sym (ap fits_kind e) ∙ s.boxes.kinds row)
            (and-first (same_kind life.kind (kind_of m.root.fs)) _ (own-mount row life e).1) in
            let not = s.working_directories.root.2 in
            absurd (cc)
      ]

  bare-folder : (p : Path) → p ≡ [] → is_folder (bare m) p ≡ true
  unfolding node_at covering_mount
  bare-folder p e =
      ap (λ q. is_dir_node (node_in (tree_of (bare m) m.root.number) (drop (length m.root.point) q))) e
      ∙ ap (λ q. is_dir_node (node_in (tree_of (bare m) m.root.number) (drop (length q) []))) s.working_directories.root.0

  bare-working_directories : FoldersStand (bare m)
  bare-working_directories = record {
    working_directories = λ k. bare-folder (folder_of m k) (rest.home k);
    short = s.working_directories.short;
    root = s.working_directories.root;
    points = λ place d l. absurd (omega (arith, l));
    points_differ = s.working_directories.points_differ;
    numbers_differ = s.working_directories.numbers_differ;
    numbers = s.working_directories.numbers;
    nested = s.working_directories.nested;
    unused = λ number h. all-bare number;
  }

  bare-row : (row : ℕ) (life : LiveFile) → 0 < row → life_at m row ≡ Some life → InRows (rows_of_mount m m.root.number) row
  bare-row row life l h =
      let within = some-within m.live_files (row - 1) life h in
      subst (InRows (rows_of_mount m m.root.number)) (omega (arith, l))
      (rows-in m.root.number 1 (row - 1) m.live_files within (ap (is_of_mount m.root.number) h ∙ ap (λ k. k == m.root.number) (own-mount row life h).0 ∙ number-itself m.root.number))

  bare-empty : Empty m.root.number (bare m) (rows_of_mount m m.root.number)
  bare-empty = record {
    rest = record {
      live = record {
        linked = λ number path id kind h. absurd (nothing-there number path (node.File id kind) h);
        held = λ place reference h. let none = rest.unheld place in absurd (cc);
      };
      used = λ row l h. used row l (life_at m row) refl h;
      alone = λ a b p q id same kind like h k r. absurd (nothing-there a p (node.File id kind) h);
      working_directories = bare-working_directories;
      trees = λ number. subst (IsClosedTree is_dir_node) (sym (all-bare number)) empty-closed;
      roms = s.roms;
      sizes = record {
        live_files = s.sizes.live_files;
        generations = s.sizes.generations;
        trees = length-set m.trees m.root.number [] ∙ s.sizes.trees;
        working_directories = s.sizes.working_directories;
        mounts = s.sizes.mounts;
        references = s.sizes.references;
      };
    };
    boxes = record { spares = s.boxes.spares; kinds = s.boxes.kinds; mounted = s.boxes.mounted; kept = s.boxes.kept; sources_differ = (boxes-but (lone m) s.boxes).sources_differ; sources = s.boxes.sources; named = s.boxes.named };
    devices = s.boxes.devices;
    cells = λ volume cell v c. let placed = s.boxes.cells volume cell v c in let none = no-cell-rows volume cell in omega (arith, placed, none);
    lone = λ volume cell v c. let placed = s.boxes.cells volume cell v c in omega (arith, placed);
    live_files = λ row life h other. absurd (other (own-mount row life h).0);
    whole = λ row life l h e. bare-row row life l h;
    rows = rows-left m.root.number 1 (bare m) m.live_files (omega arith) (let e = s.sizes.live_files in omega (arith, e)) (λ k l. ap (λ x. slice_index_or m.live_files x None) (omega arith));
    unlinked = λ row i linked u. nothing-there linked.number linked.path (node.File linked.id linked.kind) linked.there;
    unheld = λ row i held u. let none = rest.unheld held.place in let some = held.there in both (slice_index_or m.references held.place None) held.reference none some;
  }
    where
      both : {X : Type 0} (found : Option X) (x : X) → found ≡ None → found ≡ Some x → ⊥
      both found x h k = absurd (cc)

      empty-closed : IsClosedTree is_dir_node []
      empty-closed = record { sorted = tt; rootless = refl; parents = λ front name h. absurd (cc); bounded = omega arith }

      used : (row : ℕ) → 0 < row → (found : Option LiveFile) → life_at m row ≡ found → is_some (life_at m row) ≡ true → Linked (bare m) row ⊎ (Held (bare m) row ⊎ InRows (rows_of_mount m m.root.number) row)
      used row l None e h = let none = ap is_some e in absurd (cc)
      used row l (Some life) e h = inr (inr (bare-row row life l e))

  root-rows : (changes : List RowChange) → empty_mount (record { next = lone m; changes = changes }) m.root ≡ fold (free_row end_of_unmounted) (record { next = bare m; changes = changes }) (rows_of_mount m m.root.number)
  unfolding empty_mount
  root-rows changes = ap (λ f. fold (free_row end_of_unmounted) (record { next = with_tree (keep_names (lone m) m.root f) m.root.number []; changes = changes }) (rows_of_mount m m.root.number)) s.working_directories.root.2

  lone-ended : (changes : List RowChange) → Ended (lone m) changes (empty_mount (record { next = lone m; changes = changes }) m.root)
  lone-ended changes =
      subst (Ended (lone m) changes) (sym (root-rows changes))
      (let all = empty-all (rows_of_mount m m.root.number) m.root.number (bare m) changes bare-empty in
      record {
        stands = emptied-stands m.root.number _ all.empty;
        pages = all.pages;
        files = λ v a. all.files v (agrees-beside (fold change_row v changes) (lone m) (bare m) (refl, refl, refl, refl) a);
      })

-- the mount of `/` is emptied, where it is the only one
pub root-ended : (n : Namespace) (root : Mount) (changes : List RowChange) → n.mounts ≡ [] → root ≡ n.root → Stands Nothing n → AtRest n → Ended n changes (empty_mount (record { next = n; changes = changes }) root)
root-ended n root changes e r s rest =
    let is : n ≡ lone n = ap (λ mounts. record n { mounts = mounts }) e in
    subst (λ x. Ended n changes (empty_mount (record { next = n; changes = changes }) x)) (sym r)
    (subst (λ x. Ended x changes (empty_mount (record { next = x; changes = changes }) n.root)) (sym is)
    (lone-ended n (subst (Stands Nothing) is s) (subst AtRest is rest) changes))
