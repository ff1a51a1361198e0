-- A mount that is filled: each file that was bound has what it began with.
use Rattle.std.proofs.Common.{◌≡◌, ◌≢◌, ℕ, ◌+◌, ◌-◌, ◌<◌, Bool, true, false, cond, Option, Some, None, is_some, [], ◌∷◌, ◌++◌, length, slice_index_or, inl, inr, refl, sym, ap, subst, ◌∙◌, arith}
use Rattle.std.specs.FinMap.Entries.{find as value_at, find-append, put}
use Rattle.std.specs.Ordering.{eq_by_cmp}
use Rattle.vfs_base.specs.Path.{Path, path_cmp}
use Rattle.vfs_base.specs.PathLaws.{path_cmp_exact, path_cmp_total}
use Rattle.vfs_base.specs.declared.ids.FileId.{FileId}
use Rattle.vfs_base.specs.declared.kinds.Kind.{Kind}
use Rattle.vfs_base.specs.declared.kinds.Kind.TheVariants as kind
use Rattle.vfs_base.specs.declared.kinds.NodeKind.TheVariants as node
use Rattle.vfs_model.proofs.Trees.{at-put-here, at-put-other}
use Rattle.vfs_model.specs.Content.{Content}
use Rattle.vfs_model.specs.FileLife.{bind_row, next_file}
use Rattle.vfs_model.specs.Homes.{bound_file, cell_capacity, change_row, file_at, no_home}
use Rattle.vfs_model.specs.Namespace.{Tree, generation_at, life_at}
use Rattle.vfs_model.specs.declared.namespace.LiveFile.{LiveFile}
use Rattle.vfs_model.specs.declared.namespace.Namespace.{Namespace}
use Rattle.vfs_model.specs.declared.namespace.Origin.{Origin}
use Rattle.vfs_model.specs.declared.namespace.Origin.TheVariants as origin
use Rattle.vfs_model.specs.declared.namespace.RowChange.TheVariants as change
use Rattle.vfs_model.specs.declared.world.FileState.TheVariants as file
use Rattle.vfs_model.specs.declared.world.Homes.{Homes}
use Rattle.vfs_model.specs.declared.world.WorldState.{WorldState}
use Rattle.world_laws.proofs.lists.Lists.{equal-is, set-here, set-there}
use Rattle.world_laws.proofs.parts.AtHome.{bytes-set}
use Rattle.world_laws.proofs.steps.OpenKeeping.{FreeRow, taken-live_files}

-- the file at a path of the tree is live, and is what it would have become in the world at the start
pub record BoundFile (start v : WorldState) (m : Namespace) (tree : Tree) (shape : Kind) (p : Path) (begins : Origin) : Type 0 where
  pub id : FileId
  pub there : value_at path_cmp p tree ≡ Some (node.File id shape)
  pub above : 0 < id.row
  pub live : is_some (life_at m id.row) ≡ true
  pub is : file_at v id.row ≡ bound_file start id.generation begins

-- each file that was bound so far is such a file
abbrev pub Shown : WorldState → WorldState → Namespace → Tree → Kind → Content → Type 0
Shown start v m tree shape behind = (p : Path) (begins : Origin) → value_at path_cmp p behind ≡ Some (Some begins) → BoundFile start v m tree shape p begins

-- what a file begins with is as it was at the start
abbrev AsAtStart : WorldState → WorldState → Option Origin → Type 0
AsAtStart start v None = Unit {0}
AsAtStart start v (Some begins) = (generation : ℕ) → bound_file v generation begins ≡ bound_file start generation begins

-- and so for each file that is still to come
abbrev pub Coming : WorldState → WorldState → Content → Type 0
Coming start v [] = Unit {0}
Coming start v (entry ∷ left) = AsAtStart start v entry.1 × Coming start v left

pub shown-folder : (start v : WorldState) (m : Namespace) (tree : Tree) (shape : Kind) (behind : Content) (p : Path) → value_at path_cmp p behind ≡ None →
    Shown start v m tree shape behind → Shown start v m (put path_cmp p node.Dir tree) shape (behind ++ (p, None) ∷ [])
shown-folder start v m tree shape behind p none = λ shown q begins h.
    by shown q begins (eq_by_cmp path_cmp q p) refl (sym (find-append path_cmp path_cmp_total behind p None q none) ∙ h)
  where
    by : Shown start v m tree shape behind → (q : Path) (begins : Origin) (t : Bool) → eq_by_cmp path_cmp q p ≡ t → cond t (Some None) (value_at path_cmp q behind) ≡ Some (Some begins) →
        BoundFile start v m (put path_cmp p node.Dir tree) shape q begins
    by shown q begins true e k = absurd (cc)
    by shown q begins false e k =
        let old = shown q begins k in
        let apart : q ≢ p = λ same. let gone = ap (λ r. value_at path_cmp r behind) same ∙ none in absurd (cc) in
        record { id = old.id; there = at-put-other p q node.Dir tree apart ∙ old.there; above = old.above; live = old.live; is = old.is }

-- the life of a row after another was bound, and of the row that was bound
bound-other : (m : Namespace) (row other : ℕ) (life : LiveFile) → other - 1 ≢ row - 1 → life_at (bind_row m row life) other ≡ life_at m other
unfolding bind_row
bound-other m row other life apart =
    ap (λ live_files. slice_index_or live_files (other - 1) None) (taken-live_files _ life.backing).0
    ∙ set-there m.live_files (row - 1) (other - 1) (Some life) None apart

bound-here : (m : Namespace) (row : ℕ) (life : LiveFile) → row - 1 < length m.live_files → life_at (bind_row m row life) row ≡ Some life
unfolding bind_row
bound-here m row life l =
    ap (λ live_files. slice_index_or live_files (row - 1) None) (taken-live_files _ life.backing).0 ∙ set-here m.live_files (row - 1) (Some life) None l

-- rows of different lives differ
rows-apart : (m : Namespace) (row other : ℕ) → life_at m row ≡ None → is_some (life_at m other) ≡ true → other - 1 ≢ row - 1
rows-apart m row other free live e = let gone = ap (λ place. slice_index_or m.live_files place None) e ∙ free in absurd (cc)

module _ (start v : WorldState) (m : Namespace) (tree : Tree) (shape : Kind) (behind : Content) (p : Path) (begins : Origin) (row : ℕ) (life : LiveFile) where
  abbrev after : WorldState
  after = change_row v (change.Bind (next_file m row) begins)

  abbrev with_file_at : Tree
  with_file_at = put path_cmp p (node.File (next_file m row) shape) tree

  -- the file that came last
  last-file : FreeRow m row → length v.files ≡ 1024 → length m.live_files ≡ 1024 → AsAtStart start v (Some begins) →
      BoundFile start after (bind_row m row life) with_file_at shape p begins
  last-file free files live_files same = record {
    id = next_file m row;
    there = at-put-here p (node.File (next_file m row) shape) tree;
    above = free.counted;
    live = ap is_some (bound-here m row life (let small = free.small in omega (arith, small, live_files)));
    is = set-here v.files (row - 1) (bound_file v (generation_at m row + 1) begins) (file.Unbound 0) (let small = free.small in omega (arith, small, files))
        ∙ same (generation_at m row + 1);
  }

  -- a file that was there stays
  earlier-file : (q : Path) (other : Origin) → FreeRow m row → q ≢ p → BoundFile start v m tree shape q other → BoundFile start after (bind_row m row life) with_file_at shape q other
  earlier-file q other free apart old =
      let rows = rows-apart m row old.id.row free.free old.live in
      record {
        id = old.id;
        there = at-put-other p q (node.File (next_file m row) shape) tree apart ∙ old.there;
        above = old.above;
        live = ap is_some (bound-other m row old.id.row life rows) ∙ old.live;
        is = set-there v.files (row - 1) (old.id.row - 1) (bound_file v (generation_at m row + 1) begins) (file.Unbound 0) rows ∙ old.is;
      }

  pub shown-file : value_at path_cmp p behind ≡ None → FreeRow m row → length v.files ≡ 1024 → length m.live_files ≡ 1024 → AsAtStart start v (Some begins) →
      Shown start v m tree shape behind → Shown start after (bind_row m row life) with_file_at shape (behind ++ (p, Some begins) ∷ [])
  shown-file none free files live_files same shown q other h =
      by (eq_by_cmp path_cmp q p) refl (sym (find-append path_cmp path_cmp_total behind p (Some begins) q none) ∙ h)
    where
      same-begins : (a b : Origin) → Some (Some a) ≡ Some (Some b) → a ≡ b
      same-begins a b e = cc

      by : (t : Bool) → eq_by_cmp path_cmp q p ≡ t → cond t (Some (Some begins)) (value_at path_cmp q behind) ≡ Some (Some other) →
          BoundFile start after (bind_row m row life) with_file_at shape q other
      by true e k =
          subst (λ r. BoundFile start after (bind_row m row life) with_file_at shape r other) (sym (path_cmp_exact q p (equal-is (path_cmp q p) e)))
          (subst (λ o. BoundFile start after (bind_row m row life) with_file_at shape p o) (same-begins begins other k) (last-file free files live_files same))
      by false e k =
          earlier-file q other free (λ same. let gone = ap (λ r. value_at path_cmp r behind) same ∙ none in absurd (cc)) (shown q other k)

-- at the start everything is as it was
pub coming-start : (v : WorldState) (left : Content) → Coming v v left
coming-start v [] = tt
coming-start v ((p, None) ∷ left) = (tt, coming-start v left)
coming-start v ((p, Some begins) ∷ left) = (λ generation. refl, coming-start v left)

-- two files that begin with other things: no cell that there is, and no device, is that of both
abbrev pub Apart : Homes → Origin → Origin → Type 0
Apart homes begins (origin.Cell volume cell) =
    volume < length homes.cells → cell < length (slice_index_or homes.cells volume []) → begins ≢ origin.Cell volume cell
Apart homes begins (origin.Device device) = begins ≢ origin.Device device
Apart homes begins _ = Unit {0}

-- what another file begins with stays as it is where a file is bound
still-begins : (v : WorldState) (bound : FileId) (begins other : Origin) (generation : ℕ) → Apart v.homes begins other →
    bound_file (change_row v (change.Bind bound begins)) generation other ≡ bound_file v generation other
still-begins v bound begins origin.Empty generation apart = refl
still-begins v bound begins (origin.Rom place path) generation apart = refl
still-begins v bound begins (origin.NewCell volume cell) generation apart = refl
still-begins v bound origin.Empty (origin.Cell volume cell) generation apart = refl
still-begins v bound (origin.Rom place path) (origin.Cell volume cell) generation apart = refl
still-begins v bound (origin.NewCell w d) (origin.Cell volume cell) generation apart = refl
still-begins v bound (origin.Device device) (origin.Cell volume cell) generation apart = refl
still-begins v bound (origin.Cell w d) (origin.Cell volume cell) generation apart =
    ap (λ bytes. file.Bytes generation kind.Cell (cell_capacity v.namespace volume cell) bytes) (elim (bytes-set v.homes w d volume cell []) [
      | inl same ↦ same
      | inr is ↦ absurd (apart (subst (λ x. x < length v.homes.cells) (sym is.0) is.2)
          (subst (λ x. cell < length (slice_index_or v.homes.cells x [])) (sym is.0) (subst (λ x. x < length (slice_index_or v.homes.cells w [])) (sym is.1) is.3))
          (ap (λ x. origin.Cell x d) (sym is.0) ∙ ap (origin.Cell volume) (sym is.1)))
    ])
still-begins v bound origin.Empty (origin.Device device) generation apart = refl
still-begins v bound (origin.Rom place path) (origin.Device device) generation apart = refl
still-begins v bound (origin.NewCell w d) (origin.Device device) generation apart = refl
still-begins v bound (origin.Cell w d) (origin.Device device) generation apart = refl
still-begins v bound (origin.Device one) (origin.Device device) generation apart =
    ap (λ home. file.Device generation home.input home.output) (set-there v.homes.devices one device no_home no_home (λ e. apart (ap origin.Device (sym e))))

-- and so for all files that are still to come
abbrev pub AllApart : Homes → Origin → Content → Type 0
AllApart homes begins [] = Unit {0}
AllApart homes begins ((p, None) ∷ left) = AllApart homes begins left
AllApart homes begins ((p, Some other) ∷ left) = Apart homes begins other × AllApart homes begins left

pub still-coming : (start v : WorldState) (bound : FileId) (begins : Origin) (left : Content) → AllApart v.homes begins left → Coming start v left →
    Coming start (change_row v (change.Bind bound begins)) left
still-coming start v bound begins [] apart coming = tt
still-coming start v bound begins ((p, None) ∷ left) apart coming = (tt, still-coming start v bound begins left apart coming.1)
still-coming start v bound begins ((p, Some other) ∷ left) apart coming =
    (λ generation. still-begins v bound begins other generation apart.0 ∙ coming.0 generation, still-coming start v bound begins left apart.1 coming.1)
