-- An unmount: first the mount that it takes, and then how that goes.
use Rattle.std.proofs.Common.{◌≡◌, ℕ, ◌≤◌, Bool, true, false, List, [], ◌∷◌, ◌++◌, map, reverse, length, refl, ap, sym, ◌∙◌, arith}
use Rattle.std.specs.Prelude.{Result, Ok, Err, is_ok, Option, Some, None}
use Rattle.std.proofs.lemmas.List.{map-append, reverse-append}
use Rattle.vfs_base.specs.Path.{AllAre, Path}
use Rattle.vfs_base.specs.declared.errno.Errno.{Errno}
use Rattle.vfs_base.specs.declared.errno.Errno.TheVariants as errno
use Rattle.vfs_model.specs.Chain.{◌>>=◌, ◌>>◌, refuse◌when◌, wanted}
use Rattle.vfs_model.specs.Lookup.{asked_path}
use Rattle.vfs_model.specs.NameSteps.{done}
use Rattle.vfs_model.specs.Namespace.{tree_of}
use Rattle.vfs_model.specs.NamespaceOutcome.{NamespaceOutcome}
use Rattle.vfs_model.specs.UmountSteps.{is_busy, mount_at_point, remove_mount, umount_at, umount_step}
use Rattle.vfs_model.specs.declared.namespace.Mount.{Mount}
use Rattle.vfs_model.specs.declared.namespace.Namespace.{Namespace}
use Rattle.vfs_model.specs.Gives.{StopsAs}
use Rattle.plain_mounts.specs.Leaving.{rows_so_far, TreesShrink}
use Rattle.plain_mounts.specs.Unmounting.{HasRoom, umount_refusals}
use Rattle.plain_mounts.specs.declared.leaving.Leaving.{Leaving}
use Rattle.vfs_model.specs.declared.refusal.Stop.{Stop}
use Rattle.vfs_model.specs.declared.refusal.Stop.TheVariants as stop

-- how a mount goes that may
going : Namespace → Mount → Result NamespaceOutcome Errno
going n mount = done (remove_mount (rows_so_far n []) mount)

in_two : (n : Namespace) (k : ℕ) (text : List ℕ) → umount_step n k text ≡ (umount_refusals n k text >>= going n)
unfolding umount_at going
in_two n k text = at_path (asked_path n k text)
  where
    at_busy : (mount : Mount) (busy : Bool) →
        (refuse errno.EBUSY when busy >> done (remove_mount (rows_so_far n []) mount))
        ≡ ((refuse errno.EBUSY when busy >> Ok mount) >>= going n)
    at_busy mount true = refl
    at_busy mount false = refl

    at_mount : (found : Option Mount) →
        (wanted errno.EINVAL found >>= λ mount. refuse errno.EBUSY when (is_busy n mount) >> done (remove_mount (rows_so_far n []) mount))
        ≡ ((wanted errno.EINVAL found >>= λ mount. refuse errno.EBUSY when (is_busy n mount) >> Ok mount) >>= going n)
    at_mount None = refl
    at_mount (Some mount) = at_busy mount (is_busy n mount)

    at_path : (asked : Result Path Errno) →
        (asked >>= umount_at n)
        ≡ ((asked >>= λ path. wanted errno.EINVAL (mount_at_point n path) >>= λ mount. refuse errno.EBUSY when (is_busy n mount) >> Ok mount) >>= going n)
    at_path (Err errno) = refl
    at_path (Ok path) = at_mount (mount_at_point n path)

pub umount_goes : (n : Namespace) (k : ℕ) (text : List ℕ) (mount : Mount) → umount_refusals n k text ≡ Ok mount →
    umount_step n k text ≡ done (remove_mount (rows_so_far n []) mount)
unfolding going
umount_goes n k text mount e = in_two n k text ∙ ap (λ found. found >>= going n) e

umount_refused : (n : Namespace) (k : ℕ) (text : List ℕ) (errno : Errno) → umount_refusals n k text ≡ Err errno →
    umount_step n k text ≡ Err errno
umount_refused n k text errno e = in_two n k text ∙ ap (λ found. found >>= going n) e

pub umount_stops : (n : Namespace) (k : ℕ) (text : List ℕ) (stopped : Stop) → StopsAs stopped (umount_refusals n k text) →
    StopsAs stopped (umount_step n k text)
umount_stops n k text stop.NoMemory e = tt
umount_stops n k text (stop.Refusal errno) e = umount_refused n k text errno e

pub may_go : (n : Namespace) (k : ℕ) (text : List ℕ) (mount : Mount) → umount_refusals n k text ≡ Ok mount → true ≡ is_ok (umount_step n k text)
may_go n k text mount e = sym (ap is_ok (umount_goes n k text mount e))

pub may_not_go : (n : Namespace) (k : ℕ) (text : List ℕ) (errno : Errno) → umount_refusals n k text ≡ Err errno →
    false ≡ is_ok (umount_step n k text)
may_not_go n k text errno e = sym (ap is_ok (umount_refused n k text errno e))

-- what holds of a list holds of its last item, and of those before
pub last_has_room : (n : Namespace) (before : List Leaving) (last : Leaving) → AllAre (HasRoom n) (before ++ last ∷ []) →
    HasRoom n last × AllAre (HasRoom n) before
last_has_room n [] last h = (h.0, tt)
last_has_room n (one ∷ before) last h =
    let later = last_has_room n before last h.1 in
    (later.0, (h.0, later.1))

pub one_has_room_more : (n : Namespace) (before : List Leaving) (last : Leaving) → AllAre (HasRoom n) before → HasRoom n last →
    AllAre (HasRoom n) (before ++ last ∷ [])
one_has_room_more n [] last h r = (r, tt)
one_has_room_more n (one ∷ before) last h r = (h.0, one_has_room_more n before last h.1 r)

-- room stays enough while trees only lose nodes
pub room_stays : (old new : Namespace) (leaving : List Leaving) → TreesShrink old new → AllAre (HasRoom old) leaving → AllAre (HasRoom new) leaving
room_stays old new [] shrink h = tt
room_stays old new (one ∷ leaving) shrink h =
    let less : length (tree_of new one.mount.number) ≤ length (tree_of old one.mount.number) = shrink one.mount.number in
    let one_room : HasRoom new one = record { empty = h.0.empty; room = omega (arith, less, h.0.room) } in
    (one_room, room_stays old new leaving shrink h.1)

pub last_goes_first : (before : List Leaving) (last : Leaving) →
    reverse (map (λ one. one.mount) (before ++ last ∷ [])) ≡ last.mount ∷ reverse (map (λ one. one.mount) before)
last_goes_first before last =
    let mount : Leaving → Mount = λ one. one.mount in
    ap reverse (map-append mount before (last ∷ [])) ∙ reverse-append (map mount before) (last.mount ∷ [])
