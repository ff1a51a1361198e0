-- An unmount keeps what holds.
use Rattle.std.proofs.Common.{◌≡◌, ◌≢◌, ℕ, suc, ◌-◌, ◌<◌, Bool, true, false, ◌||◌, ◌==◌, Some, List, [], ◌∷◌, length, find, slice_index_or, inl, inr, if◌then◌else◌, refl, sym, ap, subst, ◌∙◌, arith}
use Rattle.std.proofs.lemmas.List.{get_or_past}
use Rattle.std.specs.List.{list_any}
use Rattle.vfs_base.specs.Path.{Path}
use Rattle.vfs_base.specs.declared.errno.Errno.TheVariants as errno
use Rattle.vfs_model.specs.Chain.{refuse◌when◌}
use Rattle.vfs_model.specs.Lookup.{asked_path, covering_mount, has_mount_below, is_below}
use Rattle.vfs_model.specs.Namespace.{all_mounts, folder_of, same_path}
use Rattle.vfs_model.specs.UmountSteps.{is_busy, mount_at_point, refers_to_mount, umount_at, umount_step}
use Rattle.vfs_model.specs.declared.namespace.Mount.{Mount}
use Rattle.vfs_model.specs.declared.namespace.Namespace.{Namespace}
use Rattle.world_laws.proofs.parts.Clear.{below-prefix}
use Rattle.world_laws.proofs.parts.Covering.{IsMount, covering-is, covers-prefix, one-number, one-point, prefix-length, same-prefix}
use Rattle.world_laws.proofs.steps.Keeping.{Kept, bind-kept, then-kept, wanted-kept}
use Rattle.world_laws.proofs.lists.Lists.{below-or-past, no-place, nor-first, nor-second, number-itself, place-any, same-or-other, same-some}
use Rattle.world_laws.proofs.steps.MountRemoval.{removal}
use Rattle.world_laws.proofs.lists.Passing.{refuse-passed}
use Rattle.world_laws.proofs.parts.Standing.{Nothing, Stands}
use Rattle.world_laws.proofs.steps.Unmounting.{MayLeave}

-- an item that a search finds
pub record FoundAt {X : Type 0} (p : X → Bool) (xs : List X) (x : X) : Type 0 where
  pub place : ℕ
  pub within : place < length xs
  pub is : slice_index_or xs place x ≡ x
  pub holds : p x ≡ true

pub found-at : {X : Type 0} (p : X → Bool) (xs : List X) (x : X) → find p xs ≡ Some x → FoundAt p xs x
found-at p [] x h = absurd (cc)
found-at p (y ∷ xs) x h = by (p y) refl h (found-at p xs x)
  where
    by : (b : Bool) → p y ≡ b → (if b then Some y else find p xs) ≡ Some x → (find p xs ≡ Some x → FoundAt p xs x) → FoundAt p (y ∷ xs) x
    by true e f later = record { place = 0; within = omega arith; is = same-some y x f; holds = subst (λ z. p z ≡ true) (same-some y x f) e }
    by false e f later = let at = later f in record { place = suc at.place; within = let l = at.within in omega (arith, l); is = at.is; holds = at.holds }

-- `/` covers itself
pub root-covers : (n : Namespace) (s : Stands Nothing n) → covering_mount n [] ≡ n.root
root-covers n s =
    let own = covers-prefix n [] s.working_directories in
    let short = prefix-length (covering_mount n []).point [] own in
    let empty : (covering_mount n []).point ≡ [] = same-prefix (covering_mount n []).point [] [] own refl (omega (arith, short)) in
    one-point n (covering_mount n []) n.root s.working_directories (covering-is n [] s.working_directories) (record { place = 0; within = omega arith; is = refl }) (empty ∙ sym s.working_directories.root.0)

lone-covers : (n : Namespace) (p : Path) → covering_mount (record n { mounts = [] }) p ≡ n.root
unfolding covering_mount
lone-covers n p = refl

-- the mount of `/` is always busy
root-busy : (n : Namespace) → Stands Nothing n → is_busy n n.root ≡ false → ⊥
unfolding is_busy has_mount_below
root-busy n s free = by n.mounts refl
  where
    both : {b : Bool} → b ≡ true → b ≡ false → ⊥
    both h k = absurd (cc)

    below : has_mount_below n n.root.point ≡ false
    below = nor-first (has_mount_below n n.root.point) _ (nor-first (has_mount_below n n.root.point || list_any (refers_to_mount n.root.number) n.references) _ free)

    away : list_any (λ folder. (covering_mount n folder).number == n.root.number) n.working_directories ≡ false
    away = nor-second (has_mount_below n n.root.point || list_any (refers_to_mount n.root.number) n.references) _ free

    by : (mounts : List Mount) → n.mounts ≡ mounts → ⊥
    by [] e =
        let first : list_any (λ folder. (covering_mount n folder).number == n.root.number) n.working_directories ≡ true =
        place-any (λ folder. (covering_mount n folder).number == n.root.number) n.working_directories 0 [] (let l = s.sizes.working_directories in omega (arith, l))
        (ap (λ x. x.number == n.root.number) (alone (slice_index_or n.working_directories 0 [])) ∙ number-itself n.root.number) in
        both first away
      where
        alone : (p : Path) → covering_mount n p ≡ n.root
        alone p = ap (λ mounts. covering_mount (record n { mounts = mounts }) p) e ∙ lone-covers n p
    by (m ∷ mounts) e =
        let long : 0 < length (all_mounts n) = omega arith in
        let inside : 1 < length (all_mounts n) = ap-length in
        let at : slice_index_or (all_mounts n) 1 n.root ≡ m = ap (λ ms. slice_index_or (n.root ∷ ms) 1 n.root) e in
        let differ : m.point ≢ [] = λ h.
        let same : 1 ≡ 0 = s.working_directories.points_differ 1 0 n.root inside long (ap (λ x. x.point) at ∙ h ∙ sym s.working_directories.root.0) in
        absurd (omega (arith, same)) in
        let none = no-place (λ x. is_below n.root.point x.point) (all_mounts n) 1 n.root below inside in
        let is : is_below [] m.point ≡ true = below-prefix [] m.point refl (longer m.point differ) in
        let yes : is_below n.root.point (slice_index_or (all_mounts n) 1 n.root).point ≡ true = ap (λ x. is_below n.root.point x.point) at ∙ ap (λ p. is_below p m.point) s.working_directories.root.0 ∙ is in
        absurd (cc)
      where
        ap-length : 1 < length (all_mounts n)
        ap-length = let l = ap (λ xs. length xs) e in omega (arith, l)

        longer : (p : Path) → p ≢ [] → 0 < length p
        longer [] h = absurd (h refl)
        longer (x ∷ p) h = omega arith

-- a mount that is not busy may go
pub may-leave : (n : Namespace) (path : Path) (mount : Mount) → Stands Nothing n → mount_at_point n path ≡ Some mount → is_busy n mount ≡ false → MayLeave n mount
unfolding is_busy
may-leave n path mount s found free =
    let at = found-at (λ m. same_path m.point path) (all_mounts n) mount found in
    let is : IsMount n mount = record { place = at.place; within = at.within; is = at.is } in
    let other : n.root.number ≢ mount.number = λ e.
    root-busy n s (subst (λ m. is_busy n m ≡ false) (one-number n mount n.root s.working_directories is (record { place = 0; within = omega arith; is = refl }) (sym e)) free) in
    let front = nor-first (has_mount_below n mount.point || list_any (refers_to_mount mount.number) n.references) _ free in
    record {
      is = is;
      other = other;
      alone = nor-first (has_mount_below n mount.point) _ front;
      free = nor-second (has_mount_below n mount.point) _ front;
      away = λ k e. elim (below-or-past (length n.working_directories) (k - 1)) [
        | inl l ↦ other (ap (λ m. m.number) (sym (root-covers n s)) ∙ sym (ap (λ p. (covering_mount n p).number) (get_or_past n.working_directories (k - 1) [] (omega (arith, l)))) ∙ e)
        | inr l ↦ elim (same-or-other (k - 1) (length n.working_directories)) [
          | inl past ↦ other (ap (λ m. m.number) (sym (root-covers n s)) ∙ sym (ap (λ p. (covering_mount n p).number) (get_or_past n.working_directories (k - 1) [] (omega (arith, past)))) ∙ e)
          | inr within ↦
              let none = no-place (λ folder. (covering_mount n folder).number == mount.number) n.working_directories (k - 1) []
              (nor-second (has_mount_below n mount.point || list_any (refers_to_mount mount.number) n.references) _ free) (omega (arith, l, within)) in
              let yes : ((covering_mount n (folder_of n k)).number == mount.number) ≡ true = ap (λ x. x == mount.number) e ∙ number-itself mount.number in
              absurd (cc)
        ]
      ];
    }

umount-at-kept : (n : Namespace) (path : Path) → Stands Nothing n → Kept n (umount_at n path)
unfolding umount_at
umount-at-kept n path s =
    wanted-kept n errno.EINVAL (mount_at_point n path) _ (λ mount found.
    then-kept n (refuse errno.EBUSY when (is_busy n mount)) _ (λ h.
    let out = removal n mount [] s (may-leave n path mount s found (refuse-passed errno.EBUSY (is_busy n mount) h)) in
    record { stands = out.stands; pages = out.pages; files = λ v a. out.files v a }))

pub umount-kept : (n : Namespace) (k : ℕ) (text : List ℕ) → Stands Nothing n → Kept n (umount_step n k text)
umount-kept n k text s = bind-kept n (asked_path n k text) _ (λ path e. umount-at-kept n path s)
