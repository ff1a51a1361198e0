-- A mount that is not busy goes, with all its files.
use Rattle.std.proofs.Common.{◌≡◌, ◌≢◌, ℕ, suc, ◌-◌, ◌<◌, ◌≤◌, Bool, true, false, cond, not, ◌||◌, ◌&&◌, ◌==◌, T, Option, Some, None, is_some, IsSomeAnd, List, [], ◌∷◌, ◌++◌, length, map, filter, drop, slice_index_or, slice_set, ◌⊎◌, inl, inr, if◌then◌else◌, refl, sym, ap, subst, ◌∙◌, arith}
use Rattle.std.proofs.lemmas.List.{length-set, set_past}
use Rattle.std.proofs.lemmas.List.Folds.{position_or_len-set}
use Rattle.std.proofs.lemmas.List.Sums.{count_by-le-length, length-filter, passes_at_first}
use Rattle.std.specs.Cmp.Lexicographic.{bytes_decides}
use Rattle.std.specs.FinMap.Entries.{below_all, find as value_at, is_sorted}
use Rattle.std.specs.List.{list_any, position_or_len}
use Rattle.std.specs.Option.{option_map}
use Rattle.std.specs.Ordering.{eq_by_cmp, is_lt}
use Rattle.vfs_base.specs.Path.{Path, path_cmp, printed}
use Rattle.vfs_base.specs.declared.ids.FileId.{FileId}
use Rattle.vfs_base.specs.declared.kinds.FsType.{FsType}
use Rattle.vfs_base.specs.declared.kinds.FsType.TheVariants as fs
use Rattle.vfs_base.specs.declared.kinds.Kind.{Kind}
use Rattle.vfs_base.specs.declared.kinds.NodeKind.{NodeKind}
use Rattle.vfs_base.specs.declared.kinds.NodeKind.TheVariants as node
use Rattle.vfs_model.proofs.MountLaws.{nearest-others, unmounted-leaves}
use Rattle.vfs_model.specs.Boxes.{RomsClosed, fits_kind, is_cell_mount, is_kept_dir}
use Rattle.vfs_model.specs.Consistency.{AllDiffer, FoldersStand, IsClosedTree, IsLive, ReferencesLive, covered_mount, is_number, stands_on_folder}
use Rattle.vfs_model.specs.Content.{is_mounted, same_type}
use Rattle.vfs_model.specs.FileLife.{no_volume, volume_at, volume_named}
use Rattle.vfs_model.specs.Laws.{without_mount}
use Rattle.vfs_model.specs.Lookup.{covering_mount, has_mount_below, is_below, is_dir_node, is_folder, is_prefix, nearest, node_at, node_in, with_tree}
use Rattle.vfs_model.specs.Namespace.{Tree, all_mounts, folder_of, life_at, same_bytes, same_path, tree_of}
use Rattle.vfs_model.specs.UmountSteps.{is_of_mount, keep_names, kept_node, refers_to_mount, rows_of_mount}
use Rattle.vfs_model.specs.declared.namespace.KeptNode.{KeptNode}
use Rattle.vfs_model.specs.declared.namespace.LiveFile.{LiveFile}
use Rattle.vfs_model.specs.declared.namespace.Mount.{Mount}
use Rattle.vfs_model.specs.declared.namespace.Namespace.{Namespace}
use Rattle.world_laws.proofs.parts.Binding.{Rest}
use Rattle.world_laws.proofs.parts.Covering.{IsMount, one-number}
use Rattle.world_laws.proofs.parts.Emptying.{InRows, RowsLeft, of-mount}
use Rattle.world_laws.proofs.lists.Filters.{PassingDiffer, filter-holds, kept-apart, kept_place, kept-rising, kept-within, none-filtered}
use Rattle.world_laws.proofs.lists.Leaving.{in-left, rows-in, rows-left}
use Rattle.world_laws.proofs.lists.Lists.{AnyPlace, any-place, below-or-past, no-place, number-itself, or-either, or-first, or-second, other-number, same-number, same-or-other, same-some, set-here, set-there, some-within, true-or-false}
use Rattle.world_laws.proofs.lists.Passing.{and-first, and-second}
use Rattle.world_laws.proofs.parts.Points.{point-covers}
use Rattle.world_laws.proofs.parts.Clear.{below-prefix}
use Rattle.world_laws.proofs.parts.Covering.{prefix-length, same-prefix}
use Rattle.world_laws.proofs.parts.Nodes.{prefix-itself}
use Rattle.world_laws.proofs.parts.Standing.{Held, IsUsed, Linked, Nothing, Stands}
use Rattle.world_laws.proofs.parts.Taking.{BoxesBut, boxes-but, set-at}

-- the test by which a mount is left out
abbrev pub stays : ℕ → Mount → Bool
stays number other = not (other.number == number)

-- a mount that may go: another one than that of `/`, which nothing refers to, lies in or is mounted below
pub record MayLeave (n : Namespace) (mount : Mount) : Type 0 where
  pub is : IsMount n mount
  pub other : n.root.number ≢ mount.number
  pub alone : has_mount_below n mount.point ≡ false
  pub free : list_any (refers_to_mount mount.number) n.references ≡ false
  pub away : (k : ℕ) → (covering_mount n (folder_of n k)).number ≢ mount.number

-- the names of a mount are kept by its volume, its tree is empty, and it is gone
abbrev pub left_by : Namespace → Mount → FsType → Namespace
left_by n mount f = record (with_tree (keep_names n mount f) mount.number []) { mounts = filter (stays mount.number) n.mounts }

pub stays-filter : (test other : Mount → Bool) (mounts : List Mount) → filter test (filter other mounts) ≡ filter other (filter test mounts)
stays-filter test other [] = refl
stays-filter test other (m ∷ mounts) = by (test m) (other m) refl refl (stays-filter test other mounts)
  where
    by : (a b : Bool) → test m ≡ a → other m ≡ b → filter test (filter other mounts) ≡ filter other (filter test mounts) →
        filter test (if other m then m ∷ filter other mounts else filter other mounts) ≡ filter other (if test m then m ∷ filter test mounts else filter test mounts)
    by true true e f later =
        ap (λ x. filter test (if x then m ∷ filter other mounts else filter other mounts)) f ∙ ap (λ x. if x then m ∷ filter test (filter other mounts) else filter test (filter other mounts)) e
        ∙ ap (λ ms. m ∷ ms) later
        ∙ sym (ap (λ x. filter other (if x then m ∷ filter test mounts else filter test mounts)) e ∙ ap (λ x. if x then m ∷ filter other (filter test mounts) else filter other (filter test mounts)) f)
    by true false e f later =
        ap (λ x. filter test (if x then m ∷ filter other mounts else filter other mounts)) f ∙ later
        ∙ sym (ap (λ x. filter other (if x then m ∷ filter test mounts else filter test mounts)) e ∙ ap (λ x. if x then m ∷ filter other (filter test mounts) else filter other (filter test mounts)) f)
    by false true e f later =
        ap (λ x. filter test (if x then m ∷ filter other mounts else filter other mounts)) f ∙ ap (λ x. if x then m ∷ filter test (filter other mounts) else filter test (filter other mounts)) e
        ∙ later ∙ sym (ap (λ x. filter other (if x then m ∷ filter test mounts else filter test mounts)) e)
    by false false e f later =
        ap (λ x. filter test (if x then m ∷ filter other mounts else filter other mounts)) f ∙ later ∙ sym (ap (λ x. filter other (if x then m ∷ filter test mounts else filter test mounts)) e)

module _ (n : Namespace) (mount : Mount) (s : Stands Nothing n) (may : MayLeave n mount) where
  -- all mounts that stay, with that of `/`
  pub all-left : (f : FsType) → all_mounts (left_by n mount f) ≡ filter (stays mount.number) (all_mounts n)
  all-left fs.Tmp = sym (ap (λ b. if not b then n.root ∷ filter (stays mount.number) n.mounts else filter (stays mount.number) n.mounts) (other-number n.root.number mount.number may.other))
  all-left fs.Rom = sym (ap (λ b. if not b then n.root ∷ filter (stays mount.number) n.mounts else filter (stays mount.number) n.mounts) (other-number n.root.number mount.number may.other))
  all-left fs.Cell = sym (ap (λ b. if not b then n.root ∷ filter (stays mount.number) n.mounts else filter (stays mount.number) n.mounts) (other-number n.root.number mount.number may.other))
  all-left fs.Dev = sym (ap (λ b. if not b then n.root ∷ filter (stays mount.number) n.mounts else filter (stays mount.number) n.mounts) (other-number n.root.number mount.number may.other))

  from : ℕ → ℕ
  from place = kept_place (stays mount.number) (all_mounts n) place

  at-from : (f : FsType) (place : ℕ) (d : Mount) → place < length (all_mounts (left_by n mount f)) →
      (kept_place (stays mount.number) (all_mounts n) place < length (all_mounts n))
      × (slice_index_or (all_mounts (left_by n mount f)) place d ≡ slice_index_or (all_mounts n) (kept_place (stays mount.number) (all_mounts n) place) d)
  at-from f place d l =
      let within = kept-within (stays mount.number) (all_mounts n) place d (subst (λ ms. place < length ms) (all-left f) l) in
      (within.0, ap (λ ms. slice_index_or ms place d) (all-left f) ∙ within.1)

  differ-left : {X : Type 0} (f : FsType) (tell : Mount → X) → AllDiffer tell (all_mounts n) → AllDiffer tell (all_mounts (left_by n mount f))
  differ-left f tell old place other d l m e =
      let a = at-from f place d l in
      let b = at-from f other d m in
      kept-apart (stays mount.number) (all_mounts n) place other (subst (λ ms. place < length ms) (all-left f) l) (subst (λ ms. other < length ms) (all-left f) m)
      (old _ _ d a.0 b.0 (sym (ap tell a.1) ∙ e ∙ ap tell b.1))

  -- what stands at a path that another mount covers
  left-node : (f : FsType) (q : Path) → node_at (left_by n mount f) q ≡ node_at (without_mount n mount.number) q
  unfolding node_at covering_mount
  left-node fs.Tmp q = refl
  left-node fs.Rom q = refl
  left-node fs.Cell q = refl
  left-node fs.Dev q = refl

  pub left-trees : (f : FsType) → (left_by n mount f).trees ≡ slice_set n.trees mount.number []
  left-trees fs.Tmp = refl
  left-trees fs.Rom = refl
  left-trees fs.Cell = refl
  left-trees fs.Dev = refl

  pub left-same : (f : FsType) → ((left_by n mount f).live_files ≡ n.live_files) × ((left_by n mount f).generations ≡ n.generations) × ((left_by n mount f).references ≡ n.references)
      × ((left_by n mount f).working_directories ≡ n.working_directories) × ((left_by n mount f).roms ≡ n.roms) × ((left_by n mount f).devices ≡ n.devices) × ((left_by n mount f).root ≡ n.root)
      × ((left_by n mount f).mounts ≡ filter (stays mount.number) n.mounts)
  left-same fs.Tmp = (refl, refl, refl, refl, refl, refl, refl, refl)
  left-same fs.Rom = (refl, refl, refl, refl, refl, refl, refl, refl)
  left-same fs.Cell = (refl, refl, refl, refl, refl, refl, refl, refl)
  left-same fs.Dev = (refl, refl, refl, refl, refl, refl, refl, refl)

  -- the mount that a point covers stays
  covered-other : (place : ℕ) (d : Mount) → place < length n.mounts → (covered_mount n (slice_index_or n.mounts place d).point).number ≢ mount.number
  unfolding has_mount_below
  covered-other place d l e =
      let q = (slice_index_or n.mounts place d).point in
      let c = point-covers n place d s.working_directories l in
      let same : covered_mount n q ≡ mount = one-number n (covered_mount n q) mount s.working_directories c.mount may.is e in
      let up : is_prefix mount.point q ≡ true = subst (λ x. is_prefix x.point q ≡ true) same c.prefix in
      let longer = prefix-length mount.point q up in
      let differ : length mount.point ≢ length q = λ k. c.other (ap (λ x. x.point) same ∙ same-prefix mount.point q q up (prefix-itself q) k) in
      let below = below-prefix mount.point q up (omega (arith, longer, differ)) in
      let none = no-place (λ m. is_below mount.point m.point) (all_mounts n) (suc place) d may.alone (omega (arith, l)) in
      absurd (cc)

  left-covered : (f : FsType) (q : Path) → (covered_mount n q).number ≢ mount.number → covered_mount (left_by n mount f) q ≡ covered_mount n q
  left-covered f q h =
      ap (λ r. nearest q r (filter (λ m. not (same_path m.point q)) (left_by n mount f).mounts)) (left-same f).6
      ∙ ap (λ ms. nearest q n.root (filter (λ m. not (same_path m.point q)) ms)) (left-same f).7
      ∙ ap (nearest q n.root) (stays-filter (λ m. not (same_path m.point q)) (stays mount.number) n.mounts)
      ∙ nearest-others mount.number q (filter (λ m. not (same_path m.point q)) n.mounts) n.root may.other h

  left-points : (f : FsType) (place : ℕ) (d : Mount) → place < length (left_by n mount f).mounts → stands_on_folder (left_by n mount f) (slice_index_or (left_by n mount f).mounts place d).point
  left-points f place d l =
      let within = kept-within (stays mount.number) n.mounts place d (subst (λ ms. place < length ms) (left-same f).7 l) in
      let was = kept_place (stays mount.number) n.mounts place in
      let q = (slice_index_or n.mounts was d).point in
      let here : (slice_index_or (left_by n mount f).mounts place d).point ≡ q = ap (λ ms. (slice_index_or ms place d).point) (left-same f).7 ∙ ap (λ m. m.point) within.1 in
      let other = covered-other was d within.0 in
      let tree : tree_of (left_by n mount f) (covered_mount n q).number ≡ tree_of n (covered_mount n q).number =
      ap (λ trees. slice_index_or trees (covered_mount n q).number []) (left-trees f) ∙ set-there n.trees mount.number (covered_mount n q).number [] [] other in
      subst (stands_on_folder (left_by n mount f)) (sym here)
      (subst (λ cm. (node_in (tree_of (left_by n mount f) cm.number) (drop (length cm.point) q) ≡ Some node.Dir)
      × (list_any (λ entry. is_below (drop (length cm.point) q) entry.0) (tree_of (left_by n mount f) cm.number) ≡ false)) (sym (left-covered f q other))
      (subst (λ t. (node_in t (drop (length (covered_mount n q).point) q) ≡ Some node.Dir) × (list_any (λ entry. is_below (drop (length (covered_mount n q).point) q) entry.0) t ≡ false)) (sym tree)
      (s.working_directories.points was d within.0)))

  -- a number of a mount that stays, or of none
  pub left-number : (f : FsType) (number : ℕ) → number ≢ mount.number → is_number n number ≡ true → is_number (left_by n mount f) number ≡ true
  left-number f number h k =
      ap (list_any (λ m. m.number == number)) (all-left f) ∙ kept (all_mounts n) k
    where
      kept : (mounts : List Mount) → list_any (λ m. m.number == number) mounts ≡ true → list_any (λ m. m.number == number) (filter (stays mount.number) mounts) ≡ true
      kept [] e = e
      kept (m ∷ mounts) e = by (true-or-false (m.number == mount.number)) (true-or-false (m.number == number)) (kept mounts)
        where
          by : ((m.number == mount.number) ≡ true) ⊎ ((m.number == mount.number) ≡ false) → ((m.number == number) ≡ true) ⊎ ((m.number == number) ≡ false) →
              (list_any (λ m. m.number == number) mounts ≡ true → list_any (λ m. m.number == number) (filter (stays mount.number) mounts) ≡ true) →
              list_any (λ m. m.number == number) (if stays mount.number m then m ∷ filter (stays mount.number) mounts else filter (stays mount.number) mounts) ≡ true
          by (inl a) (inl b) later = absurd (h (sym (same-number m.number number b) ∙ same-number m.number mount.number a))
          by (inl a) (inr b) later =
              ap (λ x. list_any (λ m. m.number == number) (if not x then m ∷ filter (stays mount.number) mounts else filter (stays mount.number) mounts)) a
              ∙ later (sym (ap (λ x. x || list_any (λ m. m.number == number) mounts) b) ∙ e)
          by (inr a) (inl b) later =
              ap (λ x. list_any (λ m. m.number == number) (if not x then m ∷ filter (stays mount.number) mounts else filter (stays mount.number) mounts)) a
              ∙ or-first (m.number == number) _ b
          by (inr a) (inr b) later =
              ap (λ x. list_any (λ m. m.number == number) (if not x then m ∷ filter (stays mount.number) mounts else filter (stays mount.number) mounts)) a
              ∙ or-second (m.number == number) _ (later (sym (ap (λ x. x || list_any (λ m. m.number == number) mounts) b) ∙ e))

  small : mount.number < 16
  small = subst (λ m. m.number < 16) may.is.is (s.working_directories.numbers may.is.place mount may.is.within)

  pub tree-gone : (f : FsType) → tree_of (left_by n mount f) mount.number ≡ []
  tree-gone f = ap (λ trees. slice_index_or trees mount.number []) (left-trees f) ∙ set-here n.trees mount.number [] [] (subst (λ x. mount.number < x) (sym s.sizes.trees) small)

  tree-stays : (f : FsType) (number : ℕ) → number ≢ mount.number → tree_of (left_by n mount f) number ≡ tree_of n number
  tree-stays f number h = ap (λ trees. slice_index_or trees number []) (left-trees f) ∙ set-there n.trees mount.number number [] [] h

  left-unused : (f : FsType) (number : ℕ) → is_number (left_by n mount f) number ≡ false → tree_of (left_by n mount f) number ≡ []
  left-unused f number h = elim (same-or-other number mount.number) [
    | inl e ↦ ap (tree_of (left_by n mount f)) e ∙ tree-gone f
    | inr e ↦ tree-stays f number e ∙ s.working_directories.unused number (elim (true-or-false (is_number n number)) [
      | inl k ↦ let yes = left-number f number e k in absurd (cc)
      | inr k ↦ k
    ])
  ]

  left-working_directories : (f : FsType) → FoldersStand (left_by n mount f)
  left-working_directories f = record {
    working_directories = λ k.
        let same : folder_of (left_by n mount f) k ≡ folder_of n k = ap (λ working_directories. slice_index_or working_directories (k - 1) []) (left-same f).3 in
        ap (is_folder (left_by n mount f)) same ∙ ap is_dir_node (left-node f (folder_of n k) ∙ unmounted-leaves n mount.number (folder_of n k) may.other (may.away k)) ∙ s.working_directories.working_directories k;
    short = λ k. subst (λ working_directories. length (printed (slice_index_or working_directories (k - 1) [])) ≤ 1024) (sym (left-same f).3) (s.working_directories.short k);
    root = subst (λ r. (r.point ≡ []) × (r.number ≡ 0) × (r.fs ≡ fs.Tmp)) (sym (left-same f).6) s.working_directories.root;
    points = left-points f;
    points_differ = differ-left f (λ m. m.point) s.working_directories.points_differ;
    numbers_differ = differ-left f (λ m. m.number) s.working_directories.numbers_differ;
    numbers = λ place d l. let a = at-from f place d l in subst (λ m. m.number < 16) (sym a.1) (s.working_directories.numbers _ d a.0);
    nested = λ place other d l m.
        let a = at-from f place d (omega (arith, l, m)) in
        let b = at-from f other d m in
        ap (λ x. is_below x.point (slice_index_or (all_mounts (left_by n mount f)) place d).point) b.1 ∙ ap (λ x. is_below (slice_index_or (all_mounts n) (kept_place (stays mount.number) (all_mounts n) other) d).point x.point) a.1
        ∙ s.working_directories.nested (kept_place (stays mount.number) (all_mounts n) place) (kept_place (stays mount.number) (all_mounts n) other) d
        (kept-rising (stays mount.number) (all_mounts n) place other l (subst (λ ms. other < length ms) (all-left f) m)) b.0;
    unused = left-unused f;
  }

  abbrev rows : List ℕ
  rows = rows_of_mount n mount.number

  pub left-rows : RowsLeft mount.number n (rows_of_mount n mount.number)
  left-rows = rows-left mount.number 1 n n.live_files (omega arith) (let e = s.sizes.live_files in omega (arith, e)) (λ k l. ap (λ x. slice_index_or n.live_files x None) (omega arith))

  pub row-of : (row : ℕ) (life : LiveFile) → 0 < row → life_at n row ≡ Some life → life.mount ≡ mount.number → InRows (rows_of_mount n mount.number) row
  row-of row life l h e =
      let within = some-within n.live_files (row - 1) life h in
      subst (InRows (rows_of_mount n mount.number)) (omega (arith, l)) (rows-in mount.number 1 (row - 1) n.live_files within (ap (is_of_mount mount.number) h ∙ ap (λ k. k == mount.number) e ∙ number-itself mount.number))

  -- a row of the mount is a live file of it
  pub row-life : (row : ℕ) → InRows (rows_of_mount n mount.number) row → (life : LiveFile) × (life_at n row ≡ Some life) × (life.mount ≡ mount.number)
  row-life row i = let left = in-left mount.number n (rows_of_mount n mount.number) row left-rows i in of-mount mount.number (life_at n row) left.2

  pub some-life-mount : (found : Option LiveFile) (life : LiveFile) (kind : Kind) (number : ℕ) → found ≡ Some life → IsSomeAnd found (λ x. (x.kind ≡ kind) × (x.mount ≡ number)) → life.mount ≡ number
  some-life-mount None life kind number e h = absurd h
  some-life-mount (Some x) life kind number e h = sym (ap (λ y. y.mount) (same-some x life e)) ∙ h.1

  -- no reference names a file of the mount
  pub not-held : (row : ℕ) → InRows (rows_of_mount n mount.number) row → Held n row → Unit {0} → ⊥
  not-held row i held u =
      let life = row-life row i in
      let good = s.live.held held.place held.reference held.there in
      let mounted : life.0.mount ≡ held.reference.mount =
      some-life-mount (life_at n held.reference.file.row) life.0 held.reference.kind held.reference.mount (ap (life_at n) held.is ∙ life.1) good.0.life in
      let none = no-place (refers_to_mount mount.number) n.references held.place None may.free (some-within n.references held.place held.reference held.there) in
      let yes : refers_to_mount mount.number (slice_index_or n.references held.place None) ≡ true =
      ap (refers_to_mount mount.number) held.there ∙ ap (λ k. k == mount.number) (sym mounted ∙ life.2) ∙ number-itself mount.number in
      absurd (cc)

  -- a file of the mount stands in its tree
  pub own-linked : (row : ℕ) → InRows (rows_of_mount n mount.number) row → (linked : Linked n row) → linked.number ≡ mount.number
  own-linked row i linked =
      let life = row-life row i in
      let live = s.live.linked linked.number linked.path linked.id linked.kind linked.there in
      sym (some-life-mount (life_at n linked.id.row) life.0 linked.kind linked.number (ap (life_at n) linked.is ∙ life.1) live.life) ∙ life.2

  pub linked-own : (row : ℕ) → InRows (rows_of_mount n mount.number) row → Linked n row
  linked-own row i =
      let life = row-life row i in
      let left = in-left mount.number n (rows_of_mount n mount.number) row left-rows i in
      elim (s.used row left.0 (ap is_some life.1)) [
        | inl linked ↦ linked
        | inr more ↦ elim more [ inl held ↦ absurd (not-held row i held tt) | inr none ↦ absurd none ]
      ]

  linked-after : (f : FsType) (row : ℕ) → (linked : Linked n row) → linked.number ≢ mount.number → Linked (left_by n mount f) row
  linked-after f row linked h =
      record { number = linked.number; path = linked.path; id = linked.id; kind = linked.kind; is = linked.is; there = ap (value_at path_cmp linked.path) (tree-stays f linked.number h) ∙ linked.there }

  -- what stands in the trees that stay
  pub there-before : (f : FsType) (number : ℕ) (path : Path) (found : NodeKind) → value_at path_cmp path (tree_of (left_by n mount f) number) ≡ Some found →
      (number ≢ mount.number) × (value_at path_cmp path (tree_of n number) ≡ Some found)
  there-before f number path found h = elim (same-or-other number mount.number) [
    | inl e ↦ let none : value_at path_cmp path (tree_of (left_by n mount f) number) ≡ None = ap (λ k. value_at path_cmp path (tree_of (left_by n mount f) k)) e ∙ ap (value_at path_cmp path) (tree-gone f) in absurd (cc)
    | inr e ↦ (e, sym (ap (value_at path_cmp path) (tree-stays f number e)) ∙ h)
  ]

  alive-left : (f : FsType) (id : FileId) (kind : Kind) (number : ℕ) → IsLive n id kind number → IsLive (left_by n mount f) id kind number
  alive-left f id kind number live = record {
    row = live.row;
    generation = ap (λ generations. slice_index_or generations (id.row - 1) 0) (left-same f).1 ∙ live.generation;
    life = subst (λ live_files. IsSomeAnd (slice_index_or live_files (id.row - 1) None) (λ life. (life.kind ≡ kind) × (life.mount ≡ number))) (sym (left-same f).0) live.life;
  }

  left-live : (f : FsType) → ReferencesLive (left_by n mount f)
  left-live f = record {
    linked = λ number path id kind h. let before = there-before f number path (node.File id kind) h in alive-left f id kind number (s.live.linked number path id kind before.1);
    held = λ place reference h.
        let before = subst (λ references. slice_index_or references place None ≡ Some reference) (left-same f).2 h in
        let good = s.live.held place reference before in
        let other : reference.mount ≢ mount.number = λ e.
        let none = no-place (refers_to_mount mount.number) n.references place None may.free (some-within n.references place reference before) in
        let yes = ap (refers_to_mount mount.number) before ∙ ap (λ k. k == mount.number) e ∙ number-itself mount.number in
        absurd (cc) in
        (alive-left f reference.file reference.kind reference.mount good.0, left-number f reference.mount other good.1);
  }

  left-used : (f : FsType) (row : ℕ) → 0 < row → is_some (life_at (left_by n mount f) row) ≡ true → IsUsed (InRows (rows_of_mount n mount.number)) (left_by n mount f) row
  left-used f row l h =
      named (s.used row l (sym (ap (λ live_files. is_some (slice_index_or live_files (row - 1) None)) (left-same f).0) ∙ h))
    where
      named : IsUsed Nothing n row → IsUsed (InRows (rows_of_mount n mount.number)) (left_by n mount f) row
      named (inr (inr none)) = absurd none
      named (inr (inl held)) = inr (inl (record { place = held.place; reference = held.reference; is = held.is; there = subst (λ references. slice_index_or references held.place None ≡ Some held.reference) (sym (left-same f).2) held.there }))
      named (inl linked) = elim (same-or-other linked.number mount.number) [
        | inr e ↦ inl (linked-after f row linked e)
        | inl e ↦
            let live = s.live.linked linked.number linked.path linked.id linked.kind linked.there in
            inr (inr (subst (InRows (rows_of_mount n mount.number)) linked.is (of-live (life_at n linked.id.row) refl live.life (live.row) linked.id.row refl linked.number e)))
      ]
        where
          of-live : (found : Option LiveFile) → life_at n linked.id.row ≡ found → IsSomeAnd found (λ life. (life.kind ≡ linked.kind) × (life.mount ≡ linked.number)) → 0 < linked.id.row → (row : ℕ) → linked.id.row ≡ row → (number : ℕ) → linked.number ≡ mount.number →
              InRows (rows_of_mount n mount.number) linked.id.row
          of-live None h k m row e number g = absurd k
          of-live (Some life) h k m row e number g = row-of linked.id.row life m h (k.1 ∙ g)

  pub left-rest : (f : FsType) → Rest (InRows (rows_of_mount n mount.number)) (left_by n mount f)
  left-rest f = record {
    live = left-live f;
    used = left-used f;
    alone = λ a b p q id same kind like h k r.
        s.alone a b p q id same kind like (there-before f a p (node.File id kind) h).1 (there-before f b q (node.File same like) k).1 r;
    working_directories = left-working_directories f;
    trees = λ number. subst (IsClosedTree is_dir_node) (sym (ap (λ trees. slice_index_or trees number []) (left-trees f)))
        (set-at (IsClosedTree is_dir_node) n.trees mount.number number [] [] (λ e. empty-closed-tree) (s.trees number));
    roms = subst (λ roms. RomsClosed roms) (sym (left-same f).4) s.roms;
    sizes = record {
      live_files = ap (λ xs. length xs) (left-same f).0 ∙ s.sizes.live_files;
      generations = ap (λ xs. length xs) (left-same f).1 ∙ s.sizes.generations;
      trees = ap (λ xs. length xs) (left-trees f) ∙ length-set n.trees mount.number [] ∙ s.sizes.trees;
      working_directories = ap (λ xs. length xs) (left-same f).3 ∙ s.sizes.working_directories;
      mounts = let e = ap (λ xs. length xs) (left-same f).7 in let l = length-filter (stays mount.number) n.mounts in let c = count_by-le-length (stays mount.number) n.mounts in let m = s.sizes.mounts in omega (arith, e, l, c, m);
      references = ap (λ xs. length xs) (left-same f).2 ∙ s.sizes.references;
    };
  }
    where
      empty-closed-tree : IsClosedTree is_dir_node []
      empty-closed-tree = record { sorted = tt; rootless = refl; parents = λ front name h. absurd (cc); bounded = omega arith }

  -- what a volume keeps then
  abbrev names : List (Path × KeptNode)
  names = map (λ entry. (entry.0, kept_node n entry.1)) (tree_of n mount.number)

  volume : ℕ
  volume = volume_named n mount.source

  -- a mount that stays has another source than this one, where both are of a volume
  pub mounted-left : (f : FsType) → mount.fs ≡ fs.Cell → is_mounted (left_by n mount f) fs.Cell mount.source ≡ false
  mounted-left f cell = elim (true-or-false (is_mounted (left_by n mount f) fs.Cell mount.source)) [
    | inr h ↦ h
    | inl h ↦ absurd (somewhere (any-place (λ m. same_type m.fs fs.Cell && same_bytes m.source mount.source) (all_mounts (left_by n mount f)) mount h))
  ]
    where
      somewhere : AnyPlace (λ m. same_type m.fs fs.Cell && same_bytes m.source mount.source) (all_mounts (left_by n mount f)) mount → ⊥
      somewhere found =
          let m = slice_index_or (all_mounts (left_by n mount f)) found.place mount in
          let a = at-from f found.place mount found.within in
          let kind = and-first (same_type m.fs fs.Cell) (same_bytes m.source mount.source) found.holds in
          let word = (bytes_decides m.source mount.source).0 (and-second (same_type m.fs fs.Cell) (same_bytes m.source mount.source) found.holds) in
          let own = may.is in
          let same = (boxes-but n s.boxes).sources_differ (kept_place (stays mount.number) (all_mounts n) found.place) own.place mount a.0 own.within (sym (ap (λ x. same_type x.fs fs.Cell) a.1) ∙ kind)
          (ap (λ x. same_type x.fs fs.Cell) own.is ∙ ap (λ t. same_type t fs.Cell) cell) (sym (ap (λ x. x.source) a.1) ∙ word ∙ sym (ap (λ x. x.source) own.is)) in
          let number : m.number ≡ mount.number = ap (λ x. x.number) a.1 ∙ ap (λ k. (slice_index_or (all_mounts n) k mount).number) same ∙ ap (λ x. x.number) own.is in
          let stayed : stays mount.number m ≡ true = ap (stays mount.number) (ap (λ ms. slice_index_or ms found.place mount) (all-left f))
          ∙ filter-holds (stays mount.number) (all_mounts n) found.place mount (subst (λ ms. found.place < length ms) (all-left f) found.within) in
          let gone : stays mount.number m ≡ false = ap (λ k. not (k == mount.number)) number ∙ ap not (number-itself mount.number) in
          absurd (cc)

  -- which mounts have a volume then
  mounted-less : (f : FsType) (name : List ℕ) → is_mounted (left_by n mount f) fs.Cell name ≡ true → is_mounted n fs.Cell name ≡ true
  mounted-less f name h = elim (true-or-false (is_mounted n fs.Cell name)) [
    | inl is ↦ is
    | inr off ↦
        let test : Mount → Bool = λ m. same_type m.fs fs.Cell && same_bytes m.source name in
        let none = ap (list_any test) (all-left f) ∙ none-filtered test (stays mount.number) (all_mounts n) off in
        absurd (cc)
  ]

  sources-left : (f : FsType) → PassingDiffer is_cell_mount (λ m. m.source) (all_mounts (left_by n mount f))
  sources-left f place other d l m k j e =
      let a = at-from f place d l in
      let b = at-from f other d m in
      kept-apart (stays mount.number) (all_mounts n) place other (subst (λ ms. place < length ms) (all-left f) l) (subst (λ ms. other < length ms) (all-left f) m)
      ((boxes-but n s.boxes).sources_differ _ _ d a.0 b.0 (sym (ap (λ x. same_type x.fs fs.Cell) a.1) ∙ k) (sym (ap (λ x. same_type x.fs fs.Cell) b.1) ∙ j) (sym (ap (λ x. x.source) a.1) ∙ e ∙ ap (λ x. x.source) b.1))

  -- each mount that stays has a volume's name as before
  names-left : (f : FsType) (place : ℕ) (d : Mount) → place < length (all_mounts (left_by n mount f)) → is_cell_mount (slice_index_or (all_mounts (left_by n mount f)) place d) ≡ true →
      volume_named n (slice_index_or (all_mounts (left_by n mount f)) place d).source < length n.volumes
  names-left f place d l k =
      let a = at-from f place d l in
      subst (λ m. volume_named n m.source < length n.volumes) (sym a.1) (s.boxes.sources _ d a.0 (sym (ap is_cell_mount a.1) ∙ k))

  pub other-left : (f : FsType) → (left_by n mount f).volumes ≡ n.volumes → BoxesBut (left_by n mount f)
  other-left f volumes = record {
    spares = subst (λ vs. (u : ℕ) → length (slice_index_or vs u no_volume).spare ≡ length (slice_index_or vs u no_volume).pages) (sym volumes) s.boxes.spares;
    kinds = subst (λ live_files. (row : ℕ) → fits_kind (slice_index_or live_files (row - 1) None) ≡ true) (sym (left-same f).0) s.boxes.kinds;
    mounted = λ u h.
        let name = ap (λ vs. (slice_index_or vs u no_volume).name) volumes in
        ap (λ vs. (slice_index_or vs u no_volume).kept) volumes ∙ s.boxes.mounted u (mounted-less f (volume_at n u).name (sym (ap (is_mounted (left_by n mount f) fs.Cell) name) ∙ h));
    kept = subst (λ vs. (u : ℕ) → IsClosedTree is_kept_dir (slice_index_or vs u no_volume).kept) (sym volumes) s.boxes.kept;
    sources_differ = sources-left f;
    sources = λ place d l k.
        subst (λ vs. position_or_len (λ v. same_bytes v.name (slice_index_or (all_mounts (left_by n mount f)) place d).source) vs < length vs) (sym volumes) (names-left f place d l k);
    named = subst (λ vs. (u : ℕ) → ((slice_index_or vs u no_volume).kept ≡ []) ⊎ (position_or_len (λ v. same_bytes v.name (slice_index_or vs u no_volume).name) vs ≡ u)) (sym volumes) s.boxes.named;
  }

  abbrev kept_by : Namespace
  kept_by = left_by n mount fs.Cell

  pub keep-name : (u : ℕ) → (volume_at (left_by n mount fs.Cell) u).name ≡ (volume_at n u).name
  keep-name u =
      set-at (λ v. v.name ≡ (volume_at n u).name) n.volumes (volume_named n mount.source) u (record (volume_at n (volume_named n mount.source)) { kept = map (λ entry. (entry.0, kept_node n entry.1)) (tree_of n mount.number) }) no_volume
      (λ e. ap (λ k. (volume_at n k).name) (sym e)) refl

  pub keep-pages : (u : ℕ) → (volume_at (left_by n mount fs.Cell) u).pages ≡ (volume_at n u).pages
  keep-pages u =
      set-at (λ v. v.pages ≡ (volume_at n u).pages) n.volumes (volume_named n mount.source) u (record (volume_at n (volume_named n mount.source)) { kept = map (λ entry. (entry.0, kept_node n entry.1)) (tree_of n mount.number) }) no_volume
      (λ e. ap (λ k. (volume_at n k).pages) (sym e)) refl

  pub keep-spare : (u : ℕ) → (volume_at (left_by n mount fs.Cell) u).spare ≡ (volume_at n u).spare
  keep-spare u =
      set-at (λ v. v.spare ≡ (volume_at n u).spare) n.volumes (volume_named n mount.source) u (record (volume_at n (volume_named n mount.source)) { kept = map (λ entry. (entry.0, kept_node n entry.1)) (tree_of n mount.number) }) no_volume
      (λ e. ap (λ k. (volume_at n k).spare) (sym e)) refl

  pub keep-named : (name : List ℕ) → volume_named (left_by n mount fs.Cell) name ≡ volume_named n name
  keep-named name =
      position_or_len-set (λ v. same_bytes v.name name) n.volumes (volume_named n mount.source) (record (volume_at n (volume_named n mount.source)) { kept = map (λ entry. (entry.0, kept_node n entry.1)) (tree_of n mount.number) }) no_volume refl

  pub keep-own : volume_named n mount.source < length n.volumes → (volume_at (left_by n mount fs.Cell) (volume_named n mount.source)).kept ≡ map (λ entry. (entry.0, kept_node n entry.1)) (tree_of n mount.number)
  keep-own l = ap (λ v. v.kept) (set-here n.volumes (volume_named n mount.source) (record (volume_at n (volume_named n mount.source)) { kept = map (λ entry. (entry.0, kept_node n entry.1)) (tree_of n mount.number) }) no_volume l)

  pub keep-other : (u : ℕ) → u ≢ volume_named n mount.source → (volume_at (left_by n mount fs.Cell) u).kept ≡ (volume_at n u).kept
  keep-other u h = ap (λ v. v.kept) (set-there n.volumes (volume_named n mount.source) u (record (volume_at n (volume_named n mount.source)) { kept = map (λ entry. (entry.0, kept_node n entry.1)) (tree_of n mount.number) }) no_volume h)

  pub keep-past : length n.volumes ≤ volume_named n mount.source → (left_by n mount fs.Cell).volumes ≡ n.volumes
  keep-past l = set_past n.volumes (volume_named n mount.source) (record (volume_at n (volume_named n mount.source)) { kept = map (λ entry. (entry.0, kept_node n entry.1)) (tree_of n mount.number) }) l

  -- the names of a tree, as a volume keeps them
  pub name-at : (p : Path) (tree : Tree) → value_at path_cmp p (map (λ entry. (entry.0, kept_node n entry.1)) tree) ≡ option_map (kept_node n) (value_at path_cmp p tree)
  name-at p [] = refl
  name-at p (e ∷ tree) = by (eq_by_cmp path_cmp p e.0) (name-at p tree)
    where
      by : (b : Bool) → value_at path_cmp p (map (λ entry. (entry.0, kept_node n entry.1)) tree) ≡ option_map (kept_node n) (value_at path_cmp p tree) →
          cond b (Some (kept_node n e.1)) (value_at path_cmp p (map (λ entry. (entry.0, kept_node n entry.1)) tree)) ≡ option_map (kept_node n) (cond b (Some e.1) (value_at path_cmp p tree))
      by true later = refl
      by false later = later

  names-below : (p : Path) (tree : Tree) → below_all path_cmp p (map (λ entry. (entry.0, kept_node n entry.1)) tree) ≡ below_all path_cmp p tree
  names-below p [] = refl
  names-below p (e ∷ tree) = ap (λ b. is_lt (path_cmp p e.0) && b) (names-below p tree)

  pub names-sorted : (tree : Tree) → is_sorted path_cmp (map (λ entry. (entry.0, kept_node n entry.1)) tree) ≡ is_sorted path_cmp tree
  names-sorted [] = refl
  names-sorted (e ∷ tree) = ap (λ b. b && is_sorted path_cmp (map (λ entry. (entry.0, kept_node n entry.1)) tree)) (names-below e.0 tree) ∙ ap (λ b. below_all path_cmp e.0 tree && b) (names-sorted tree)

  names-length : (tree : Tree) → length {A = Path × KeptNode} (map (λ entry. (entry.0, kept_node n entry.1)) tree) ≡ length tree
  names-length [] = refl
  names-length (e ∷ tree) = ap suc (names-length tree)

  names-closed : IsClosedTree is_kept_dir (map (λ entry. (entry.0, kept_node n entry.1)) (tree_of n mount.number))
  names-closed =
      let closed = s.trees mount.number in
      record {
        sorted = subst T (sym (names-sorted (tree_of n mount.number))) closed.sorted;
        rootless = name-at [] (tree_of n mount.number) ∙ ap (option_map (kept_node n)) closed.rootless;
        parents = λ front name h.
            let there = some-map (value_at path_cmp (front ++ name ∷ []) (tree_of n mount.number)) (sym (ap is_some (name-at (front ++ name ∷ []) (tree_of n mount.number))) ∙ h) in
            elim (or-either (is_dir_node (value_at path_cmp front (tree_of n mount.number))) (same_path front []) (closed.parents front name there)) [
              | inl x ↦ or-first (is_kept_dir (value_at path_cmp front (map (λ entry. (entry.0, kept_node n entry.1)) (tree_of n mount.number)))) _
                  (ap is_kept_dir (name-at front (tree_of n mount.number)) ∙ dir-map (value_at path_cmp front (tree_of n mount.number)) x)
              | inr x ↦ or-second (is_kept_dir (value_at path_cmp front (map (λ entry. (entry.0, kept_node n entry.1)) (tree_of n mount.number)))) _ x
            ];
        bounded = let e = names-length (tree_of n mount.number) in let l = closed.bounded in omega (arith, e, l);
      }
    where
      some-map : (found : Option NodeKind) → is_some (option_map (kept_node n) found) ≡ true → is_some found ≡ true
      some-map None h = h
      some-map (Some x) h = refl

      dir-map : (found : Option NodeKind) → is_dir_node found ≡ true → is_kept_dir (option_map (kept_node n) found) ≡ true
      dir-map None h = absurd (cc)
      dir-map (Some node.Dir) h = refl
      dir-map (Some (node.File id kind)) h = absurd (cc)

  -- the volume of the mount has its source word as its name
  pub own-name : volume_named n mount.source < length n.volumes → (volume_at n (volume_named n mount.source)).name ≡ mount.source
  own-name l = (bytes_decides (volume_at n (volume_named n mount.source)).name mount.source).0 (passes_at_first (λ v. same_bytes v.name mount.source) n.volumes no_volume l)

  pub cell-left : mount.fs ≡ fs.Cell → BoxesBut (left_by n mount fs.Cell)
  cell-left cell = elim (below-or-past (volume_named n mount.source) (length n.volumes)) [
    | inr past ↦ other-left fs.Cell (keep-past past)
    | inl l ↦ record {
      spares = λ u. ap (λ xs. length xs) (keep-spare u) ∙ s.boxes.spares u ∙ sym (ap (λ xs. length xs) (keep-pages u));
      kinds = s.boxes.kinds;
      mounted = λ u h. elim (same-or-other u (volume_named n mount.source)) [
        | inl e ↦
            let name : (volume_at (left_by n mount fs.Cell) u).name ≡ mount.source = keep-name u ∙ ap (λ k. (volume_at n k).name) e ∙ own-name l in
            let none = mounted-left fs.Cell cell in
            let yes = sym (ap (is_mounted (left_by n mount fs.Cell) fs.Cell) name) ∙ h in
            absurd (cc)
        | inr e ↦ keep-other u e ∙ s.boxes.mounted u (mounted-less fs.Cell (volume_at n u).name (sym (ap (is_mounted (left_by n mount fs.Cell) fs.Cell) (keep-name u)) ∙ h))
      ];
      kept = λ u. elim (same-or-other u (volume_named n mount.source)) [
        | inl e ↦ subst (IsClosedTree is_kept_dir) (sym (ap (λ k. (volume_at (left_by n mount fs.Cell) k).kept) e ∙ keep-own l)) names-closed
        | inr e ↦ subst (IsClosedTree is_kept_dir) (sym (keep-other u e)) (s.boxes.kept u)
      ];
      sources_differ = sources-left fs.Cell;
      sources = λ place d m k.
          let old = names-left fs.Cell place d m k in
          let name = keep-named (slice_index_or (all_mounts (left_by n mount fs.Cell)) place d).source in
          let many = length-set n.volumes (volume_named n mount.source) (record (volume_at n (volume_named n mount.source)) { kept = map (λ entry. (entry.0, kept_node n entry.1)) (tree_of n mount.number) }) in
          omega (arith, old, name, many);
      named = λ u. elim (same-or-other u (volume_named n mount.source)) [
        | inl e ↦ inr (keep-named _ ∙ ap (volume_named n) (keep-name u ∙ ap (λ k. (volume_at n k).name) e ∙ own-name l) ∙ sym e)
        | inr e ↦ elim (s.boxes.named u) [
          | inl h ↦ inl (keep-other u e ∙ h)
          | inr h ↦ inr (keep-named _ ∙ ap (volume_named n) (keep-name u) ∙ h)
        ]
      ];
    }
  ]
