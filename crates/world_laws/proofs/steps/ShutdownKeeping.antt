-- The end unmounts everything, and keeps what holds.
use Rattle.std.proofs.Common.{◌≡◌, ◌≢◌, ℕ, zero, suc, ◌+◌, ◌-◌, ◌<◌, Bool, true, false, not, if◌then◌else◌, None, List, [], ◌∷◌, ◌++◌, length, filter, fold, reverse, slice_index_or, inl, inr, refl, sym, ap, ◌∙◌, arith}
use Rattle.std.proofs.lemmas.List.{length-append, reverse-append, reverse-reverse}
use Rattle.std.proofs.lemmas.Bool.{ltb-true}
use Rattle.std.proofs.lemmas.List.Elements.{filter-append}
use Rattle.std.specs.List.{list_any}
use Rattle.vfs_base.specs.Path.{Path}
use Rattle.vfs_base.specs.declared.ids.FileId.{FileId}
use Rattle.vfs_base.specs.declared.kinds.Kind.{Kind}
use Rattle.vfs_model.specs.Consistency.{IsLive}
use Rattle.vfs_base.specs.declared.entry.Mark.{Mark}
use Rattle.vfs_base.specs.declared.entry.Mark.TheVariants as mark
use Rattle.vfs_model.specs.FileLife.{Rows}
use Rattle.vfs_model.specs.Homes.{change_row}
use Rattle.vfs_model.specs.Lookup.{covering_mount, has_mount_below, is_below, is_prefix, node_at}
use Rattle.vfs_model.specs.Namespace.{all_mounts}
use Rattle.vfs_model.specs.NamespaceStep.{shutdown_step}
use Rattle.vfs_model.specs.UmountSteps.{come_to_rest, refers_to_mount, remove_all, remove_mount}
use Rattle.vfs_model.specs.declared.namespace.Mount.{Mount}
use Rattle.vfs_model.specs.declared.namespace.Namespace.{Namespace}
use Rattle.vfs_model.specs.declared.namespace.RowChange.{RowChange}
use Rattle.world_laws.proofs.parts.Agreeing.{agrees-beside}
use Rattle.world_laws.proofs.steps.Keeping.{Keeps, same-kept}
use Rattle.world_laws.proofs.lists.Lists.{any-place, below-or-past, number-itself, other-number, true-or-false}
use Rattle.world_laws.proofs.steps.MountRemoval.{Removed, removal}
use Rattle.world_laws.proofs.lists.Passing.{and-second}
use Rattle.world_laws.proofs.steps.Resting.{rested}
use Rattle.world_laws.proofs.steps.RootRemoval.{AtRest, Ended, root-ended}
use Rattle.world_laws.proofs.parts.Standing.{Nothing, Stands}
use Rattle.world_laws.proofs.steps.UmountKeeping.{root-covers}
use Rattle.world_laws.proofs.steps.Unmounting.{MayLeave, stays}

-- places of two lists, one behind the other
at-front : {X : Type 0} (xs ys : List X) (place : ℕ) (d : X) → place < length xs → slice_index_or (xs ++ ys) place d ≡ slice_index_or xs place d
at-front [] ys place d l = absurd (omega arith)
at-front (x ∷ xs) ys zero d l = refl
at-front (x ∷ xs) ys (suc place) d l = at-front xs ys place d (omega (arith, l))

at-end : {X : Type 0} (xs : List X) (y d : X) → slice_index_or (xs ++ y ∷ []) (length xs) d ≡ y
at-end [] y d = refl
at-end (x ∷ xs) y d = at-end xs y d

-- all mounts that pass stay
keep-all : (test : Mount → Bool) (mounts : List Mount) → ((place : ℕ) (d : Mount) → place < length mounts → test (slice_index_or mounts place d) ≡ true) → filter test mounts ≡ mounts
keep-all test [] h = refl
keep-all test (m ∷ mounts) h =
    ap (λ b. if b then m ∷ filter test mounts else filter test mounts) (h 0 m (omega arith)) ∙ ap (λ ms. m ∷ ms) (keep-all test mounts (λ place d l. h (suc place) d (omega (arith, l))))

module _ (m : Namespace) (front : List Mount) (last : Mount) (s : Stands Nothing m) (rest : AtRest m) (e : m.mounts ≡ front ++ last ∷ []) where
  all-are : all_mounts m ≡ (m.root ∷ front) ++ last ∷ []
  all-are = ap (λ ms. m.root ∷ ms) e

  long : length (all_mounts m) ≡ suc (length front) + 1
  long = ap (λ ms. length ms) all-are ∙ length-append (m.root ∷ front) (last ∷ [])

  last-at : (d : Mount) → slice_index_or (all_mounts m) (suc (length front)) d ≡ last
  last-at d = ap (λ ms. slice_index_or ms (suc (length front)) d) all-are ∙ at-end (m.root ∷ front) last d

  -- a mount before the last has another number
  earlier : (place : ℕ) (d : Mount) → place < suc (length front) → (slice_index_or (all_mounts m) place d).number ≢ last.number
  earlier place d l h =
      let n = long in
      let same = s.working_directories.numbers_differ place (suc (length front)) d (omega (arith, l, n)) (omega (arith, n)) (h ∙ sym (ap (λ x. x.number) (last-at d))) in
      omega (arith, same, l)

  none-below : has_mount_below m last.point ≡ false
  unfolding has_mount_below
  none-below = elim (true-or-false (list_any (λ x. is_below last.point x.point) (all_mounts m))) [
    | inr h ↦ h
    | inl h ↦
        let at = any-place (λ x. is_below last.point x.point) (all_mounts m) last h in
        elim (below-or-past at.place (suc (length front))) [
          | inl l ↦
              let n = long in
              let none = s.working_directories.nested at.place (suc (length front)) last l (omega (arith, n)) in
              let same = ap (λ x. is_below x.point (slice_index_or (all_mounts m) at.place last).point) (last-at last) in
              let yes = at.holds in
              absurd (cc)
          | inr l ↦
              let n = long in
              let w = at.within in
              let is : at.place ≡ suc (length front) = omega (arith, l, n, w) in
              let own : slice_index_or (all_mounts m) at.place last ≡ last = ap (λ k. slice_index_or (all_mounts m) k last) is ∙ last-at last in
              let below : is_below last.point last.point ≡ true = ap (λ x. is_below last.point x.point) (sym own) ∙ at.holds in
              absurd (not-below last.point below)
        ]
  ]
    where
      not-below : (p : Path) → is_below p p ≡ true → ⊥
      not-below p h = let less = ltb-true (length p) (length p) (and-second (is_prefix p p) _ h) in absurd (omega (arith, less))

  unreferred : list_any (refers_to_mount last.number) m.references ≡ false
  unreferred = elim (true-or-false (list_any (refers_to_mount last.number) m.references)) [
    | inr h ↦ h
    | inl h ↦
        let at = any-place (refers_to_mount last.number) m.references None h in
        let none = ap (refers_to_mount last.number) (rest.unheld at.place) in
        let yes = at.holds in
        absurd (cc)
  ]

  root-other : m.root.number ≢ last.number
  root-other = earlier 0 m.root (omega arith)

  last-leaves : MayLeave m last
  last-leaves = record {
    is = record { place = suc (length front); within = let n = long in omega (arith, n); is = last-at last };
    other = root-other;
    alone = none-below;
    free = unreferred;
    away = λ k h. root-other (ap (λ x. x.number) (sym (root-covers m s)) ∙ sym (ap (λ p. (covering_mount m p).number) (rest.home k)) ∙ h);
  }

  front-stays : filter (stays last.number) m.mounts ≡ front
  front-stays =
      ap (filter (stays last.number)) e ∙ filter-append (stays last.number) front (last ∷ [])
      ∙ ap (λ ms. ms ++ filter (stays last.number) (last ∷ [])) (keep-all (stays last.number) front
      (λ place d l. ap not (other-number _ last.number (λ h. earlier (suc place) d (omega (arith, l)) (ap (λ x. x.number) (ap (λ ms. slice_index_or ms (suc place) d) all-are ∙ at-front front (last ∷ []) place d l) ∙ h)))))
      ∙ ap (λ b. front ++ (if not b then last ∷ [] else [])) (number-itself last.number) ∙ append-none front
    where
      append-none : (xs : List Mount) → xs ++ [] ≡ xs
      append-none [] = refl
      append-none (x ∷ xs) = ap (λ ys. x ∷ ys) (append-none xs)

  gone : (changes : List RowChange) → Removed m last changes (remove_mount (record { next = m; changes = changes }) last)
  gone changes = removal m last changes s last-leaves

  still-rest : (changes : List RowChange) → AtRest (remove_mount (record { next = m; changes = changes }) last).next
  still-rest changes = record {
    unheld = λ place. ap (λ references. slice_index_or references place None) (gone changes).references ∙ rest.unheld place;
    home = λ k. ap (λ working_directories. slice_index_or working_directories (k - 1) []) (gone changes).working_directories ∙ rest.home k;
  }

-- all mounts are removed, the last one first
pub record AllGone (n : Namespace) (changes : List RowChange) (out : Rows) : Type 0 where
  pub ended : Ended n changes out
  pub mounts : out.next.mounts ≡ []
  pub root : out.next.root ≡ n.root
  pub rest : AtRest out.next

all-gone : (left : List Mount) (m : Namespace) (changes : List RowChange) → Stands Nothing m → AtRest m → m.mounts ≡ reverse left → AllGone m changes (fold remove_mount (record { next = m; changes = changes }) left)
all-gone [] m changes s rest e = record { ended = record { stands = s; pages = λ volume cell. refl; files = λ v a. a }; mounts = e; root = refl; rest = rest }
all-gone (last ∷ left) m changes s rest e =
    let are : m.mounts ≡ reverse left ++ last ∷ [] = e ∙ reverse-append (last ∷ []) left in
    let out = gone m (reverse left) last s rest are changes in
    let next = remove_mount (record { next = m; changes = changes }) last in
    let later = all-gone left next.next next.changes out.stands (still-rest m (reverse left) last s rest are changes) (out.mounts ∙ front-stays m (reverse left) last s rest are) in
    record {
      ended = record {
        stands = later.ended.stands;
        pages = λ volume cell. later.ended.pages volume cell ∙ out.pages volume cell;
        files = λ v a. later.ended.files v (out.files v a);
      };
      mounts = later.mounts;
      root = later.root ∙ out.root;
      rest = later.rest;
    }

removed-all : (n : Namespace) → Stands Nothing n → Ended n [] (remove_all n)
unfolding remove_all
removed-all n s =
    let first = rested n s in
    let rows = come_to_rest n in
    let all = all-gone (reverse n.mounts) rows.next rows.changes first.ended.stands first.rest (first.mounts ∙ sym (reverse-reverse n.mounts)) in
    let out = fold remove_mount rows (reverse n.mounts) in
    let last = root-ended out.next n.root out.changes all.mounts (sym (all.root ∙ first.root)) all.ended.stands all.rest in
    record {
      stands = last.stands;
      pages = λ volume cell. last.pages volume cell ∙ all.ended.pages volume cell ∙ first.ended.pages volume cell;
      files = λ v a. last.files v (all.ended.files v (first.ended.files v a));
    }

-- a namespace remembers a fault of the end
stopped-live : (n : Namespace) (id : FileId) (kind : Kind) (number : ℕ) → IsLive n id kind number → IsLive (record n { is_stopped = true }) id kind number
stopped-live n id kind number live = record { row = live.row; generation = live.generation; life = live.life }

stopped-stands : (n : Namespace) → Stands Nothing n → Stands Nothing (record n { is_stopped = true })
unfolding node_at covering_mount
stopped-stands n s = record {
  live = record {
    linked = λ number path id kind h. stopped-live n id kind number (s.live.linked number path id kind h);
    held = λ place reference h. let good = s.live.held place reference h in (stopped-live n reference.file reference.kind reference.mount good.0, good.1);
  };
  used = s.used;
  alone = s.alone;
  working_directories = record {
    working_directories = s.working_directories.working_directories;
    short = s.working_directories.short;
    root = s.working_directories.root;
    points = s.working_directories.points;
    points_differ = s.working_directories.points_differ;
    numbers_differ = s.working_directories.numbers_differ;
    numbers = s.working_directories.numbers;
    nested = s.working_directories.nested;
    unused = s.working_directories.unused;
  };
  trees = s.trees;
  boxes = record {
    cells = s.boxes.cells;
    spares = s.boxes.spares;
    devices = s.boxes.devices;
    kinds = s.boxes.kinds;
    mounted = s.boxes.mounted;
    kept = s.boxes.kept;
    sources_differ = s.boxes.sources_differ;
    sources = s.boxes.sources;
    named = s.boxes.named;
  };
  live_files = s.live_files;
  roms = s.roms;
  sizes = record {
    live_files = s.sizes.live_files;
    generations = s.sizes.generations;
    trees = s.sizes.trees;
    working_directories = s.sizes.working_directories;
    mounts = s.sizes.mounts;
    references = s.sizes.references;
  };
}

pub shutdown-kept : (n : Namespace) (m : Mark) → Stands Nothing n → Keeps n (shutdown_step n m).next (shutdown_step n m).changes
unfolding shutdown_step
shutdown-kept n (mark.NoMem moved) s = same-kept n s
shutdown-kept n mark.Clear s = let all = removed-all n s in record { stands = all.stands; pages = all.pages; files = λ v a. all.files v a }
shutdown-kept n (mark.Fault moved) s =
    let all = removed-all n s in
    record {
      stands = stopped-stands (remove_all n).next all.stands;
      pages = all.pages;
      files = λ v a. agrees-beside (fold change_row v (remove_all n).changes) (remove_all n).next (record (remove_all n).next { is_stopped = true }) (refl, refl, refl, refl) (all.files v a);
    }
