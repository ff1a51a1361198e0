-- A new mount is filled: each file that it begins with gets a row.
use Rattle.std.proofs.Common.{◌≡◌, ◌≢◌, ℕ, ◌+◌, ◌-◌, ◌<◌, ◌≤◌, Bool, true, false, cond, ◌&&◌, ◌==◌, T, Option, Some, None, is_some, IsSomeAnd, List, [], ◌∷◌, ◌++◌, length, slice_index_or, slice_set, ◌⊎◌, inl, inr, refl, sym, ap, subst, ◌∙◌, arith, length-append, append_assoc}
use Rattle.std.proofs.lemmas.Cmp.{tied_itself}
use Rattle.std.proofs.lemmas.List.{length-set}
use Rattle.std.proofs.lemmas.List.Sums.{sum_by-cons}
use Rattle.std.specs.FinMap.Entries.{below_all, find as value_at, find-append, find-put, is_sorted, is_sorted-put, length-put, put}
use Rattle.std.specs.Ordering.{eq_by_cmp, is_eq, is_lt}
use Rattle.std.specs.Prelude.{count_by}
use Rattle.std.specs.declared.cmp.Ordering.{Ordering}
use Rattle.std.specs.declared.cmp.Ordering.TheVariants.{Less, Equal, Greater}
use Rattle.vfs_base.specs.Path.{Path, path_cmp}
use Rattle.vfs_base.specs.PathLaws.{path_cmp_exact, path_cmp_total}
use Rattle.vfs_base.specs.declared.ids.FileId.{FileId}
use Rattle.vfs_base.specs.declared.kinds.FsType.TheVariants as fs
use Rattle.vfs_base.specs.declared.kinds.Kind.{Kind}
use Rattle.vfs_base.specs.declared.kinds.NodeKind.{NodeKind}
use Rattle.vfs_base.specs.declared.kinds.NodeKind.TheVariants as node
use Rattle.vfs_model.specs.Boxes.{cell_files, fits_kind, lies_on_cell, one_if}
use Rattle.vfs_model.specs.Consistency.{IsLive, LivesFit, fits_mount, mount_numbered, same_kind}
use Rattle.vfs_model.specs.Content.{Content, file_count}
use Rattle.vfs_model.specs.FileLife.{after_taking, bind_row, least_free_row, next_file, no_device, volume_at, volume_named, with_cell, with_device}
use Rattle.vfs_model.specs.MountStep.{origin_backing}
use Rattle.vfs_model.specs.Namespace.{Tree, generation_at, life_at}
use Rattle.vfs_model.specs.OpenStep.{kind_of}
use Rattle.vfs_model.specs.declared.namespace.Backing.{Backing}
use Rattle.vfs_model.specs.declared.namespace.Backing.TheVariants as backing
use Rattle.vfs_model.specs.declared.namespace.LiveFile.{LiveFile}
use Rattle.vfs_model.specs.declared.namespace.Mount.{Mount}
use Rattle.vfs_model.specs.declared.namespace.Namespace.{Namespace}
use Rattle.vfs_model.specs.declared.namespace.Origin.{Origin}
use Rattle.vfs_model.specs.declared.namespace.Origin.TheVariants as origin
use Rattle.world_laws.proofs.parts.Agreeing.{Begins}
use Rattle.world_laws.proofs.parts.Beside.{working_directories-beside}
use Rattle.world_laws.proofs.parts.Binding.{Rest, alive-bound, apart-cell, but-taken, cells-bound, devices-same, devices-taken, live_files-set, live_files-taken, live-bound, next_generations, out-other, own-cell, rest-taken, some-life, this-or-other}
use Rattle.world_laws.proofs.parts.FreeRows.{free_count, one-less, some-free}
use Rattle.world_laws.proofs.lists.Lists.{number-itself, same-or-other, same-some, set-here, set-there}
use Rattle.world_laws.proofs.steps.OpenKeeping.{FreeRow, kind-itself, taken-trees}
use Rattle.world_laws.proofs.lists.Passing.{and-both}
use Rattle.world_laws.proofs.parts.TreeParts.{same-or-other-path}
use Rattle.vfs_model.proofs.Trees.{at-put-here, at-put-other}
use Rattle.world_laws.proofs.parts.Standing.{IsUsed, Linked, LinkedIn}
use Rattle.world_laws.proofs.parts.Taking.{BoxesBut, DevicesPlaced, but-life, cell-files, cell-named, cell-pages, set-at, spare-here, spare-other, with_life}

-- the row of a file of the new tree
pub record InTree (tree : Tree) (row : ℕ) : Type 0 where
  pub path : Path
  pub id : FileId
  pub kind : Kind
  pub there : value_at path_cmp path tree ≡ Some (node.File id kind)
  pub is : id.row ≡ row

-- a folder, a file, or nothing
abbrev pub node_shape : Option NodeKind → ℕ
node_shape None = 0
node_shape (Some node.Dir) = 1
node_shape (Some (node.File id kind)) = 2

abbrev pub content_shape : Option (Option Origin) → ℕ
content_shape None = 0
content_shape (Some None) = 1
content_shape (Some (Some begins)) = 2

abbrev pub begins_on : ℕ → ℕ → Option Origin → Bool
begins_on volume cell None = false
begins_on volume cell (Some begins) = lies_on_cell volume cell (origin_backing begins)

-- the files still to be bound that lie on a cell
abbrev pub pending : Content → ℕ → ℕ → ℕ
pending left volume cell = count_by (λ entry. begins_on volume cell entry.1) left

module _ (mount : Mount) where
  abbrev pub life_of : Origin → LiveFile
  life_of begins = record { kind = kind_of mount.fs; mount = mount.number; backing = origin_backing begins }

  -- what a file begins with is of the mount's type, and a device is one that is at home, under its name
  abbrev pub FitsOrigin : Namespace → Path → Origin → Type 0
  FitsOrigin m p origin.Empty = ⊥
  FitsOrigin m p (origin.Rom place path) = mount.fs ≡ fs.Rom
  FitsOrigin m p (origin.Cell volume cell) = (mount.fs ≡ fs.Cell) × (volume ≡ volume_named m mount.source)
  FitsOrigin m p (origin.NewCell volume cell) = ⊥
  FitsOrigin m p (origin.Device device) =
      (mount.fs ≡ fs.Dev) × (device < length m.devices) × ((slice_index_or m.devices device no_device).is_out ≡ false) × (p ≡ (slice_index_or m.devices device no_device).name ∷ [])

  abbrev pub Fits : Namespace → Path → Option Origin → Type 0
  Fits m p None = Unit {0}
  Fits m p (Some begins) = FitsOrigin m p begins

  abbrev pub AllFit : Namespace → Content → Type 0
  AllFit m [] = Unit {0}
  AllFit m (entry ∷ left) = Fits m entry.0 entry.1 × AllFit m left

  -- a mount that is being filled: what was put into its tree so far, and what is left
  pub record Fill (base m : Namespace) (tree : Tree) (behind left : Content) : Type 0 where
    pub rest : Rest (InTree tree) m
    pub boxes : BoxesBut m
    pub devices : DevicesPlaced m
    pub cells : (volume cell : ℕ) → volume < length m.volumes → cell < length (volume_at m volume).pages →
        cell_files m volume cell + pending left volume cell + one_if (slice_index_or (volume_at m volume).spare cell false) ≡ 1
    pub live_files : LivesFit m
    pub found : mount_numbered m mount.number ≡ Some mount
    pub files : (path : Path) (id : FileId) (kind : Kind) → value_at path_cmp path tree ≡ Some (node.File id kind) → IsLive m id kind mount.number × (Linked m id.row → Unit {0} → ⊥)
    pub alone : (p q : Path) (id same : FileId) (kind like : Kind) → value_at path_cmp p tree ≡ Some (node.File id kind) → value_at path_cmp q tree ≡ Some (node.File same like) →
        id.row ≡ same.row → p ≡ q
    pub shape : (p : Path) → node_shape (value_at path_cmp p tree) ≡ content_shape (value_at path_cmp p behind)
    pub sorted : T (is_sorted path_cmp tree)
    pub small : length tree ≤ length behind
    pub order : T (is_sorted path_cmp (behind ++ left))
    pub room : file_count left ≤ free_count m
    pub fit : AllFit m left
    pub root : m.root ≡ base.root
    pub mounts : m.mounts ≡ base.mounts
    pub working_directories : m.working_directories ≡ base.working_directories
    pub trees : m.trees ≡ base.trees

  pub less-apart : (p q : Path) → T (is_lt (path_cmp p q)) → p ≢ q
  less-apart p q l e = not-less (path_cmp p q) l (ap (λ x. path_cmp p x) (sym e) ∙ tied_itself path_cmp_total p)
    where
      not-less : (o : Ordering) → T (is_lt o) → o ≡ Equal → ⊥
      not-less Less h e = absurd (cc)
      not-less Equal h e = h
      not-less Greater h e = h

  t-first : (a b : Bool) → T (a && b) → T a
  t-first true b h = tt
  t-first false b h = absurd h

  t-second : (a b : Bool) → T (a && b) → T b
  t-second true b h = h
  t-second false b h = absurd h

  equal-false : (p q : Path) → p ≢ q → eq_by_cmp path_cmp p q ≡ false
  equal-false p q h = by_order (path_cmp p q) refl
    where
      by_order : (o : Ordering) → path_cmp p q ≡ o → is_eq o ≡ false
      by_order Less e = refl
      by_order Equal e = absurd (h (path_cmp_exact p q e))
      by_order Greater e = refl

  below-last : {X : Type 0} (x p : Path) (o : X) (behind left : List (Path × X)) → T (below_all path_cmp x (behind ++ (p, o) ∷ left)) → x ≢ p
  below-last x p o [] left h = less-apart x p (t-first _ (below_all path_cmp x left) h)
  below-last x p o (e ∷ behind) left h = below-last x p o behind left (t-second (is_lt (path_cmp x e.0)) _ h)

  -- what comes next was not there before
  pub not-behind : {X : Type 0} (p : Path) (o : X) (behind left : List (Path × X)) → T (is_sorted path_cmp (behind ++ (p, o) ∷ left)) → value_at path_cmp p behind ≡ None
  not-behind p o [] left h = refl
  not-behind p o (e ∷ behind) left h =
      ap (λ b. cond b (Some e.1) (value_at path_cmp p behind))
      (equal-false p e.0 (λ same. below-last e.0 p o behind left (t-first _ (is_sorted path_cmp (behind ++ (p, o) ∷ left)) h) (sym same)))
      ∙ not-behind p o behind left (t-second (below_all path_cmp e.0 (behind ++ (p, o) ∷ left)) _ h)

  pub later-sorted : {X : Type 0} (behind left : List (Path × X)) → T (is_sorted path_cmp (behind ++ left)) → T (is_sorted path_cmp left)
  later-sorted [] left h = h
  later-sorted (e ∷ behind) left h = later-sorted behind left (t-second (below_all path_cmp e.0 (behind ++ left)) _ h)

  -- one more node, and what it is of
  shape-more : (tree : Tree) (behind : Content) (p q : Path) (new : NodeKind) (o : Option Origin) → value_at path_cmp p behind ≡ None → node_shape (Some new) ≡ content_shape (Some o) →
      node_shape (value_at path_cmp q tree) ≡ content_shape (value_at path_cmp q behind) →
      node_shape (value_at path_cmp q (put path_cmp p new tree)) ≡ content_shape (value_at path_cmp q (behind ++ (p, o) ∷ []))
  shape-more tree behind p q new o none same before =
      ap node_shape (find-put path_cmp path_cmp_total q p new tree) ∙ either (eq_by_cmp path_cmp q p) ∙ sym (ap content_shape (find-append path_cmp path_cmp_total behind p o q none))
    where
      either : (b : Bool) → node_shape (cond b (Some new) (value_at path_cmp q tree)) ≡ content_shape (cond b (Some o) (value_at path_cmp q behind))
      either true = same
      either false = before

  put-small : (tree : Tree) (behind : Content) (p : Path) (new : NodeKind) (o : Option Origin) → T (is_sorted path_cmp tree) → length tree ≤ length behind →
      length (put path_cmp p new tree) ≤ length (behind ++ (p, o) ∷ [])
  put-small tree behind p new o sorted l =
      let more = length-put path_cmp path_cmp_total p new tree sorted in
      let all : length (behind ++ (p, o) ∷ []) ≡ length behind + 1 = length-append behind ((p, o) ∷ []) in
      at-most (is_some (value_at path_cmp p tree)) more all
    where
      at-most : (b : Bool) → length (put path_cmp p new tree) ≡ cond b (length tree) (length tree + 1) → length (behind ++ (p, o) ∷ []) ≡ length behind + 1 →
          length (put path_cmp p new tree) ≤ length (behind ++ (p, o) ∷ [])
      at-most true e f = omega (arith, e, f, l)
      at-most false e f = omega (arith, e, f, l)

  -- a file of a tree with one node more
  put-file : (tree : Tree) (p q : Path) (new : NodeKind) (id : FileId) (kind : Kind) → value_at path_cmp q (put path_cmp p new tree) ≡ Some (node.File id kind) →
      ((q ≡ p) × (new ≡ node.File id kind)) ⊎ (value_at path_cmp q tree ≡ Some (node.File id kind))
  put-file tree p q new id kind h = elim (same-or-other-path q p) [
    | inl e ↦
        let there : Some new ≡ Some (node.File id kind) = sym (at-put-here p new tree) ∙ ap (λ r. value_at path_cmp r (put path_cmp p new tree)) (sym e) ∙ h in
        inl (e, same-some new (node.File id kind) there)
    | inr e ↦ inr (sym (at-put-other p q new tree e) ∙ h)
  ]

  -- a file that was there is there after one came to an absent path
  put-stays : (tree : Tree) (p q : Path) (new found : NodeKind) → value_at path_cmp p tree ≡ None → value_at path_cmp q tree ≡ Some found → value_at path_cmp q (put path_cmp p new tree) ≡ Some found
  put-stays tree p q new found none there =
      at-put-other p q new tree (λ e. let gone = ap (λ r. value_at path_cmp r tree) e ∙ none in absurd (cc)) ∙ there

  pub shape-none : (found : Option NodeKind) → node_shape found ≡ 0 → found ≡ None
  shape-none None h = refl
  shape-none (Some node.Dir) h = absurd (omega (arith, h))
  shape-none (Some (node.File id kind)) h = absurd (omega (arith, h))

  in-tree : (tree : Tree) (p : Path) (new : NodeKind) (row : ℕ) → value_at path_cmp p tree ≡ None → InTree tree row → InTree (put path_cmp p new tree) row
  in-tree tree p new row none at = record { path = at.path; id = at.id; kind = at.kind; there = put-stays tree p at.path new (node.File at.id at.kind) none at.there; is = at.is }

  more-used : (m : Namespace) (tree : Tree) (p : Path) (new : NodeKind) (row : ℕ) → value_at path_cmp p tree ≡ None → IsUsed (InTree tree) m row → IsUsed (InTree (put path_cmp p new tree)) m row
  more-used m tree p new row none (inl linked) = inl linked
  more-used m tree p new row none (inr (inl held)) = inr (inl held)
  more-used m tree p new row none (inr (inr at)) = inr (inr (in-tree tree p new row none at))

  absent-next : (base m : Namespace) (tree : Tree) (behind left : Content) (p : Path) (o : Option Origin) → Fill base m tree behind ((p, o) ∷ left) → value_at path_cmp p tree ≡ None
  absent-next base m tree behind left p o f = shape-none (value_at path_cmp p tree) (f.shape p ∙ ap content_shape (not-behind p o behind left f.order))

  -- a folder of the content
  pub fill-folder : (base m : Namespace) (tree : Tree) (behind left : Content) (p : Path) → Fill base m tree behind ((p, None) ∷ left) →
      Fill base m (put path_cmp p node.Dir tree) (behind ++ (p, None) ∷ []) left
  fill-folder base m tree behind left p f =
      let none = absent-next base m tree behind left p None f in
      record {
        rest = record {
          live = f.rest.live;
          used = λ row l h. more-used m tree p node.Dir row none (f.rest.used row l h);
          alone = f.rest.alone;
          working_directories = f.rest.working_directories;
          trees = f.rest.trees;
          roms = f.rest.roms;
          sizes = f.rest.sizes;
        };
        boxes = f.boxes;
        devices = f.devices;
        cells = λ volume cell v c.
            let before = f.cells volume cell v c in
            let one : pending ((p, None) ∷ left) volume cell ≡ 0 + pending left volume cell = sum_by-cons (λ entry. one_if (begins_on volume cell entry.1)) (p, None) left in
            omega (arith, before, one);
        live_files = f.live_files;
        found = f.found;
        files = λ q id kind h. elim (put-file tree p q node.Dir id kind h) [ inl x ↦ absurd (not-file id kind x.1) | inr x ↦ f.files q id kind x ];
        alone = λ a b id same kind like h k r. elim (put-file tree p a node.Dir id kind h) [
          | inl x ↦ absurd (not-file id kind x.1)
          | inr x ↦ elim (put-file tree p b node.Dir same like k) [
            | inl y ↦ absurd (not-file same like y.1)
            | inr y ↦ f.alone a b id same kind like x y r
          ]
        ];
        shape = λ q. shape-more tree behind p q node.Dir None (not-behind p None behind left f.order) refl (f.shape q);
        sorted = is_sorted-put path_cmp path_cmp_total p node.Dir tree f.sorted;
        small = put-small tree behind p node.Dir None f.sorted f.small;
        order = subst (λ all. T (is_sorted path_cmp all)) (sym (append_assoc behind ((p, None) ∷ []) left)) f.order;
        room = let one : file_count ((p, None) ∷ left) ≡ 0 + file_count left = sum_by-cons (λ entry. one_if (is_some entry.1)) (p, None) left in let before = f.room in omega (arith, one, before);
        fit = f.fit.1;
        root = f.root;
        mounts = f.mounts;
        working_directories = f.working_directories;
        trees = f.trees;
      }
    where
      not-file : (id : FileId) (kind : Kind) → node.Dir ≢ node.File id kind
      not-file id kind e = absurd (cc)

  -- the life of a file that is bound now
  pub begins-fit : (m : Namespace) (p : Path) (begins : Origin) → FitsOrigin m p begins → Begins (life_of begins) begins
  begins-fit m p origin.Empty f = absurd f
  begins-fit m p (origin.NewCell volume cell) f = absurd f
  begins-fit m p (origin.Rom place path) f = (ap kind_of f, refl)
  begins-fit m p (origin.Cell volume cell) f = (ap kind_of f.0, refl)
  begins-fit m p (origin.Device device) f = (ap kind_of f.0, refl)

  kind-fits : (m : Namespace) (p : Path) (begins : Origin) → FitsOrigin m p begins → fits_kind (Some (life_of begins)) ≡ true
  kind-fits m p origin.Empty f = absurd f
  kind-fits m p (origin.NewCell volume cell) f = absurd f
  kind-fits m p (origin.Rom place path) f = ap (λ t. fits_kind (Some (record { kind = kind_of t; mount = mount.number; backing = backing.Memory }))) f
  kind-fits m p (origin.Cell volume cell) f = ap (λ t. fits_kind (Some (record { kind = kind_of t; mount = mount.number; backing = backing.Cell volume cell }))) f.0
  kind-fits m p (origin.Device device) f = ap (λ t. fits_kind (Some (record { kind = kind_of t; mount = mount.number; backing = backing.Device device }))) f.0

  mount-fits : (m : Namespace) (p : Path) (begins : Origin) → FitsOrigin m p begins → fits_mount m (life_of begins) mount ≡ true
  mount-fits m p origin.Empty f = absurd f
  mount-fits m p (origin.NewCell volume cell) f = absurd f
  mount-fits m p (origin.Rom place path) f = and-both (same_kind (kind_of mount.fs) (kind_of mount.fs)) true (kind-itself (kind_of mount.fs)) refl
  mount-fits m p (origin.Device device) f = and-both (same_kind (kind_of mount.fs) (kind_of mount.fs)) true (kind-itself (kind_of mount.fs)) refl
  mount-fits m p (origin.Cell volume cell) f =
      and-both (same_kind (kind_of mount.fs) (kind_of mount.fs)) (volume == volume_named m mount.source) (kind-itself (kind_of mount.fs))
      (ap (λ x. x == volume_named m mount.source) f.1 ∙ number-itself (volume_named m mount.source))

  -- other entries fit after a row was bound
  volume-named : (m : Namespace) (b : Backing) (name : List ℕ) → volume_named (after_taking m b) name ≡ volume_named m name
  volume-named m backing.Memory name = refl
  volume-named m (backing.Cell volume cell) name = cell-named false m volume cell name
  volume-named m (backing.Device device) name = refl

  device-name : (m : Namespace) (device other : ℕ) → (slice_index_or (with_device true m device).devices other no_device).name ≡ (slice_index_or m.devices other no_device).name
  device-name m device other =
      set-at (λ d. d.name ≡ (slice_index_or m.devices other no_device).name) m.devices device other (record (slice_index_or m.devices device no_device) { is_out = true }) no_device
      (λ e. ap (λ k. (slice_index_or m.devices k no_device).name) (sym e)) refl

  still-fits : (m : Namespace) (p q : Path) (begins other : Origin) → p ≢ q → FitsOrigin m p begins → FitsOrigin m q other → FitsOrigin (after_taking m (origin_backing begins)) q other
  still-fits m p q begins origin.Empty apart f g = g
  still-fits m p q begins (origin.NewCell volume cell) apart f g = g
  still-fits m p q begins (origin.Rom place path) apart f g = g
  still-fits m p q begins (origin.Cell volume cell) apart f g = (g.0, g.1 ∙ sym (volume-named m (origin_backing begins) mount.source))
  still-fits m p q origin.Empty (origin.Device device) apart f g = g
  still-fits m p q (origin.NewCell volume cell) (origin.Device device) apart f g = g
  still-fits m p q (origin.Rom place path) (origin.Device device) apart f g = g
  still-fits m p q (origin.Cell volume cell) (origin.Device device) apart f g = g
  still-fits m p q (origin.Device one) (origin.Device device) apart f g =
      let other : device ≢ one = λ e. apart (f.3 ∙ ap (λ k. (slice_index_or m.devices k no_device).name ∷ []) (sym e) ∙ sym g.3) in
      (g.0, subst (λ x. device < x) (sym (length-set m.devices one _)) g.1, out-other true m one device other ∙ g.2, g.3 ∙ ap (λ name. name ∷ []) (sym (device-name m one device)))

  all-fit : (m : Namespace) (p : Path) (begins : Origin) (left : Content) → FitsOrigin m p begins → T (below_all path_cmp p left) → AllFit m left → AllFit (after_taking m (origin_backing begins)) left
  all-fit m p begins [] f below fit = tt
  all-fit m p begins (entry ∷ left) f below fit =
      (one entry.1 fit.0, all-fit m p begins left f (t-second (is_lt (path_cmp p entry.0)) _ below) fit.1)
    where
      one : (o : Option Origin) → Fits m entry.0 o → Fits (after_taking m (origin_backing begins)) entry.0 o
      one None g = tt
      one (Some other) g = still-fits m p entry.0 begins other (less-apart p entry.0 (t-first _ (below_all path_cmp p left) below)) f g

  -- what a row that is bound leaves of the mounts, the folders and the trees
  taken-same : (m : Namespace) (b : Backing) → ((after_taking m b).root ≡ m.root) × ((after_taking m b).mounts ≡ m.mounts) × ((after_taking m b).working_directories ≡ m.working_directories) × ((after_taking m b).trees ≡ m.trees)
  taken-same m backing.Memory = (refl, refl, refl, refl)
  taken-same m (backing.Cell volume cell) = (refl, refl, refl, refl)
  taken-same m (backing.Device device) = (refl, refl, refl, refl)

  taken-found : (m : Namespace) (b : Backing) (number : ℕ) → mount_numbered (after_taking m b) number ≡ mount_numbered m number
  taken-found m backing.Memory number = refl
  taken-found m (backing.Cell volume cell) number = refl
  taken-found m (backing.Device device) number = refl

  -- a row that is bound, in the words of the tree that names it then
  used-more : (m : Namespace) (tree : Tree) (p : Path) (row other : ℕ) (life : LiveFile) (generations : List ℕ) (id : FileId) (kind : Kind) → 0 < row → 0 < other → id.row ≡ row → value_at path_cmp p tree ≡ None →
      ((at : ℕ) → 0 < at → is_some (life_at m at) ≡ true → IsUsed (InTree tree) m at) → (other - 1 ≡ row - 1) ⊎ (other - 1 ≢ row - 1) →
      is_some (slice_index_or (slice_set m.live_files (row - 1) (Some life)) (other - 1) None) ≡ true →
      IsUsed (InTree (put path_cmp p (node.File id kind) tree)) (with_life m row (Some life) generations) other
  used-more m tree p row other life generations id kind l k same none used (inl e) h =
      inr (inr (record { path = p; id = id; kind = kind; there = at-put-here p (node.File id kind) tree; is = same ∙ omega (arith, e, l, k) }))
  used-more m tree p row other life generations id kind l k same none used (inr e) h =
      renamed (used other k (ap is_some (sym (set-there m.live_files (row - 1) (other - 1) (Some life) None e)) ∙ h))
    where
      renamed : IsUsed (InTree tree) m other → IsUsed (InTree (put path_cmp p (node.File id kind) tree)) (with_life m row (Some life) generations) other
      renamed (inl linked) = inl linked
      renamed (inr (inl held)) = inr (inl held)
      renamed (inr (inr at)) = inr (inr (in-tree tree p (node.File id kind) other none at))

  -- how many files a cell has, and how many are to come
  cells-filled : (m : Namespace) (row : ℕ) (begins : Origin) (p : Path) (left : Content) (generations : List ℕ) → row - 1 < length m.live_files → life_at m row ≡ None →
      ((volume : ℕ) → length (volume_at m volume).spare ≡ length (volume_at m volume).pages) →
      ((volume cell : ℕ) → volume < length m.volumes → cell < length (volume_at m volume).pages →
      cell_files m volume cell + pending ((p, Some begins) ∷ left) volume cell + one_if (slice_index_or (volume_at m volume).spare cell false) ≡ 1) →
      (b : Backing) → origin_backing begins ≡ b → (volume cell : ℕ) →
      volume < length (after_taking (with_life m row (Some (life_of begins)) generations) b).volumes → cell < length (volume_at (after_taking (with_life m row (Some (life_of begins)) generations) b) volume).pages →
      cell_files (after_taking (with_life m row (Some (life_of begins)) generations) b) volume cell + pending left volume cell
      + one_if (slice_index_or (volume_at (after_taking (with_life m row (Some (life_of begins)) generations) b) volume).spare cell false) ≡ 1
  cells-filled m row begins p left generations l free spares cells backing.Memory e volume cell v c =
      let bound = cells-bound m row (life_of begins) generations volume cell l free in
      let none : one_if (lies_on_cell volume cell (origin_backing begins)) ≡ 0 = ap (λ x. one_if (lies_on_cell volume cell x)) e in
      let one : pending ((p, Some begins) ∷ left) volume cell ≡ one_if (lies_on_cell volume cell (origin_backing begins)) + pending left volume cell =
      sum_by-cons (λ entry. one_if (begins_on volume cell entry.1)) (p, Some begins) left in
      let before = cells volume cell v c in
      omega (arith, bound, none, one, before)
  cells-filled m row begins p left generations l free spares cells (backing.Device device) e volume cell v c =
      let bound = cells-bound m row (life_of begins) generations volume cell l free in
      let none : one_if (lies_on_cell volume cell (origin_backing begins)) ≡ 0 = ap (λ x. one_if (lies_on_cell volume cell x)) e in
      let one : pending ((p, Some begins) ∷ left) volume cell ≡ one_if (lies_on_cell volume cell (origin_backing begins)) + pending left volume cell =
      sum_by-cons (λ entry. one_if (begins_on volume cell entry.1)) (p, Some begins) left in
      let before = cells volume cell v c in
      omega (arith, bound, none, one, before)
  cells-filled m row begins p left generations l free spares cells (backing.Cell w d) e volume cell v c =
      let t = with_life m row (Some (life_of begins)) generations in
      let bound = cells-bound m row (life_of begins) generations volume cell l free in
      let same = cell-files false t w d volume cell in
      let within : volume < length m.volumes = subst (λ x. volume < x) (length-set m.volumes w _) v in
      let in_pages : cell < length (volume_at m volume).pages = subst (λ xs. cell < length xs) (cell-pages false t w d volume) c in
      let one : pending ((p, Some begins) ∷ left) volume cell ≡ one_if (lies_on_cell volume cell (origin_backing begins)) + pending left volume cell =
      sum_by-cons (λ entry. one_if (begins_on volume cell entry.1)) (p, Some begins) left in
      let before = cells volume cell within in_pages in
      elim (this-or-other volume cell w d) [
        | inl h ↦
            let counts : one_if (lies_on_cell volume cell (origin_backing begins)) ≡ 1 =
            ap (λ x. one_if (lies_on_cell volume cell x)) (e ∙ ap (λ x. backing.Cell x d) (sym h.0) ∙ ap (λ x. backing.Cell volume x) (sym h.1)) ∙ ap one_if (own-cell volume cell) in
            let spare : cell < length (volume_at m volume).spare = subst (λ x. cell < x) (sym (spares volume)) in_pages in
            let is : one_if (slice_index_or (volume_at (with_cell false t w d) volume).spare cell false) ≡ 0 =
            ap (λ x. one_if (slice_index_or (volume_at (with_cell false t w x) volume).spare cell false)) (sym h.1)
            ∙ ap (λ x. one_if (slice_index_or (volume_at (with_cell false t x cell) volume).spare cell false)) (sym h.0) ∙ ap one_if (spare-here false t volume cell within spare) in
            omega (arith, bound, same, one, before, counts, is)
        | inr h ↦
            let none : one_if (lies_on_cell volume cell (origin_backing begins)) ≡ 0 = ap (λ x. one_if (lies_on_cell volume cell x)) e ∙ ap one_if (apart-cell volume cell w d h) in
            let is : one_if (slice_index_or (volume_at (with_cell false t w d) volume).spare cell false) ≡ one_if (slice_index_or (volume_at m volume).spare cell false) =
            ap one_if (spare-other false t w d volume cell h) in
            omega (arith, bound, same, one, before, none, is)
      ]

  devices-filled : (m : Namespace) (row : ℕ) (begins : Origin) (p : Path) (generations : List ℕ) → row - 1 < length m.live_files → life_at m row ≡ None → FitsOrigin m p begins → DevicesPlaced m →
      DevicesPlaced (after_taking (with_life m row (Some (life_of begins)) generations) (origin_backing begins))
  devices-filled m row origin.Empty p generations l free f devices = absurd f
  devices-filled m row (origin.NewCell volume cell) p generations l free f devices = absurd f
  devices-filled m row (origin.Rom place path) p generations l free f devices = devices-taken m row (life_of (origin.Rom place path)) generations l free tt devices backing.Memory refl
  devices-filled m row (origin.Cell volume cell) p generations l free f devices = λ device d. devices-same m row (life_of (origin.Cell volume cell)) device l free refl devices d
  devices-filled m row (origin.Device device) p generations l free f devices = devices-taken m row (life_of (origin.Device device)) generations l free (f.1, f.2) devices (backing.Device device) refl

  no-live : (m : Namespace) (row : ℕ) (id : FileId) (kind : Kind) (number : ℕ) → life_at m row ≡ None → IsLive m id kind number → id.row ≢ row
  no-live m row id kind number free live e = some-life (life_at m id.row) _ live.life (ap (life_at m) e ∙ free)

  linked-before : (m : Namespace) (row : ℕ) (life : LiveFile) (generations : List ℕ) (b : Backing) (at : ℕ) → Linked (after_taking (with_life m row (Some life) generations) b) at → Linked m at
  linked-before m row life generations b at linked =
      subst (λ trees. LinkedIn trees at) (taken-trees (with_life m row (Some life) generations) b) linked

  alive-more : (t : Namespace) (b : Backing) (id : FileId) (kind : Kind) (number : ℕ) → IsLive t id kind number → IsLive (after_taking t b) id kind number
  alive-more t backing.Memory id kind number live = live
  alive-more t (backing.Cell volume cell) id kind number live = record { row = live.row; generation = live.generation; life = live.life }
  alive-more t (backing.Device device) id kind number live = record { row = live.row; generation = live.generation; life = live.life }

  file-id : (id other : FileId) (kind like : Kind) → node.File id kind ≡ node.File other like → id ≡ other
  file-id id other kind like e = ap of e
    where
      of : NodeKind → FileId
      of node.Dir = id
      of (node.File one two) = one

  file-kind : (id other : FileId) (kind like : Kind) → node.File id kind ≡ node.File other like → kind ≡ like
  file-kind id other kind like e = ap of e
    where
      of : NodeKind → Kind
      of node.Dir = kind
      of (node.File one two) = two

  alive-bound-fill : (m : Namespace) (row : ℕ) (found : Option LiveFile) (id : FileId) (kind : Kind) → life_at m row ≡ None →
      IsLive m id kind mount.number → IsLive (with_life m row found (next_generations m row)) id kind mount.number
  alive-bound-fill m row found id kind free live = alive-bound m row found id kind mount.number free live

  -- the file that is bound lives
  new-live : (m : Namespace) (row : ℕ) (begins : Origin) (p : Path) {base : Namespace} {tree : Tree} {behind left : Content} → Fill base m tree behind ((p, Some begins) ∷ left) → FreeRow m row →
      (other : FileId) (kind : Kind) → node.File (next_file m row) (kind_of mount.fs) ≡ node.File other kind →
      IsLive (after_taking (with_life m row (Some (life_of begins)) (next_generations m row)) (origin_backing begins)) other kind mount.number
  new-live m row begins p f free other kind e =
      let t = with_life m row (Some (life_of begins)) (next_generations m row) in
      let live : IsLive t (next_file m row) (kind_of mount.fs) mount.number = record {
        row = free.counted;
        generation = set-here m.generations (row - 1) (generation_at m row + 1) 0 (subst (λ x. row - 1 < x) (sym f.rest.sizes.generations) free.small);
        life = subst (λ found. IsSomeAnd found (λ life. (life.kind ≡ kind_of mount.fs) × (life.mount ≡ mount.number)))
            (sym (set-here m.live_files (row - 1) (Some (life_of begins)) None (subst (λ x. row - 1 < x) (sym f.rest.sizes.live_files) free.small))) (refl, refl);
      } in
      alive-more t (origin_backing begins) other kind mount.number
      (subst (λ x. IsLive t other x mount.number) (file-kind (next_file m row) other (kind_of mount.fs) kind e)
      (subst (λ x. IsLive t x (kind_of mount.fs) mount.number) (file-id (next_file m row) other (kind_of mount.fs) kind e) live))

  -- a file of the content
  pub fill-file : (base m : Namespace) (tree : Tree) (behind left : Content) (p : Path) (begins : Origin) → Fill base m tree behind ((p, Some begins) ∷ left) →
      Fill base (bind_row m (least_free_row m) (life_of begins)) (put path_cmp p (node.File (next_file m (least_free_row m)) (kind_of mount.fs)) tree) (behind ++ (p, Some begins) ∷ []) left
  unfolding bind_row
  fill-file base m tree behind left p begins f =
      let none = absent-next base m tree behind left p (Some begins) f in
      let row = least_free_row m in
      let id = next_file m row in
      let life = life_of begins in
      let b = origin_backing begins in
      let generations = next_generations m row in
      let t = with_life m row (Some life) generations in
      let counted : file_count ((p, Some begins) ∷ left) ≡ 1 + file_count left = sum_by-cons (λ entry. one_if (is_some entry.1)) (p, Some begins) left in
      let room : 0 < free_count m = let before = f.room in omega (arith, counted, before) in
      let free = some-free m f.rest.sizes.live_files f.rest.sizes.generations room in
      let within : row - 1 < length m.live_files = subst (λ x. row - 1 < x) (sym f.rest.sizes.live_files) free.small in
      let same = taken-same t b in
      record {
        rest = rest-taken (InTree (put path_cmp p (node.File id (kind_of mount.fs)) tree)) t b (record {
          live = live-bound m row (Some life) free.free f.rest.live;
          used = λ other l h. used-more m tree p row other life generations id (kind_of mount.fs) free.counted l refl none f.rest.used (same-or-other (other - 1) (row - 1)) h;
          alone = f.rest.alone;
          working_directories = working_directories-beside m (slice_set m.live_files (row - 1) (Some life)) generations m.references m.volumes m.devices f.rest.working_directories;
          trees = f.rest.trees;
          roms = f.rest.roms;
          sizes = record {
            live_files = length-set m.live_files (row - 1) (Some life) ∙ f.rest.sizes.live_files;
            generations = length-set m.generations (row - 1) _ ∙ f.rest.sizes.generations;
            trees = f.rest.sizes.trees;
            working_directories = f.rest.sizes.working_directories;
            mounts = f.rest.sizes.mounts;
            references = f.rest.sizes.references;
          };
        });
        boxes = but-taken t b (but-life m row (Some life) generations (kind-fits m p begins f.fit.0) f.boxes);
        devices = devices-filled m row begins p generations within free.free f.fit.0 f.devices;
        cells = cells-filled m row begins p left generations within free.free f.boxes.spares f.cells b refl;
        live_files = live_files-taken t b (live_files-set m row (Some life) generations
            (λ other e. subst (λ x. IsSomeAnd (mount_numbered m x.mount) (λ y. fits_mount m x y ≡ true)) (same-some life other e)
            (subst (λ found. IsSomeAnd found (λ y. fits_mount m life y ≡ true)) (sym f.found) (mount-fits m p begins f.fit.0))) f.live_files);
        found = taken-found t b mount.number ∙ f.found;
        files = λ q other kind h. elim (put-file tree p q (node.File id (kind_of mount.fs)) other kind h) [
          | inl x ↦ (
            new-live m row begins p f free other kind x.1,
            λ linked u. let before = linked-before m row life generations b other.row linked in
                no-live m row before.id before.kind before.number free.free (f.rest.live.linked before.number before.path before.id before.kind before.there) (before.is ∙ ap (λ y. y.row) (sym (file-id id other (kind_of mount.fs) kind x.1))),
          )
          | inr x ↦ (
            alive-more t b other kind mount.number (alive-bound-fill m row (Some life) other kind free.free (f.files q other kind x).0),
            λ linked u. (f.files q other kind x).1 (linked-before m row life generations b other.row linked) tt,
          )
        ];
        alone = λ a c one two kind like h k r. elim (put-file tree p a (node.File id (kind_of mount.fs)) one kind h) [
          | inl x ↦ elim (put-file tree p c (node.File id (kind_of mount.fs)) two like k) [
            | inl y ↦ x.0 ∙ sym y.0
            | inr y ↦ absurd (no-live m row two like mount.number free.free (f.files c two like y).0 (sym r ∙ ap (λ z. z.row) (sym (file-id id one (kind_of mount.fs) kind x.1))))
          ]
          | inr x ↦ elim (put-file tree p c (node.File id (kind_of mount.fs)) two like k) [
            | inl y ↦ absurd (no-live m row one kind mount.number free.free (f.files a one kind x).0 (r ∙ ap (λ z. z.row) (sym (file-id id two (kind_of mount.fs) like y.1))))
            | inr y ↦ f.alone a c one two kind like x y r
          ]
        ];
        shape = λ q. shape-more tree behind p q (node.File id (kind_of mount.fs)) (Some begins) (not-behind p (Some begins) behind left f.order) refl (f.shape q);
        sorted = is_sorted-put path_cmp path_cmp_total p (node.File id (kind_of mount.fs)) tree f.sorted;
        small = put-small tree behind p (node.File id (kind_of mount.fs)) (Some begins) f.sorted f.small;
        order = subst (λ all. T (is_sorted path_cmp all)) (sym (append_assoc behind ((p, Some begins) ∷ []) left)) f.order;
        room = let less = one-less m life f.rest.sizes.live_files f.rest.sizes.generations room in let before = f.room in omega (arith, counted, less, before);
        fit = all-fit t p begins left (f.fit.0) (t-first _ (is_sorted path_cmp left) (later-sorted behind ((p, Some begins) ∷ left) f.order)) f.fit.1;
        root = same.0 ∙ f.root;
        mounts = same.1 ∙ f.mounts;
        working_directories = same.2 ∙ f.working_directories;
        trees = same.3 ∙ f.trees;
      }
