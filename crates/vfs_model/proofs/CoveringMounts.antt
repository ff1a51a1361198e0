-- The covering mount has the longest point that is a prefix of the path.
use Rattle.std.proofs.Common.{◌≡◌, ℕ, zero, suc, ◌<◌, ◌≤◌, Bool, true, false, ◌&&◌, nat_lt, List, [], ◌∷◌, length, slice_index_or, if◌then◌else◌, refl, sym, ap, ◌∙◌, arith}
use Rattle.std.proofs.lemmas.Bool.Decides.{nat_tests}
use Rattle.vfs_base.specs.Path.{Path}
use Rattle.vfs_model.specs.Laws.{IsLongestPoint}
use Rattle.vfs_model.specs.Lookup.{covering_mount, is_prefix, nearest}
use Rattle.vfs_model.specs.Namespace.{all_mounts}
use Rattle.vfs_model.specs.declared.namespace.Mount.{Mount}
use Rattle.vfs_model.specs.declared.namespace.Namespace.{Namespace}

-- the mount that a step of `nearest` goes on with
abbrev pub nearer : Path → Mount → Mount → Mount
nearer path found mount = if is_prefix mount.point path && nat_lt (length found.point) (length mount.point) then mount else found

-- a test on the way chooses between two mounts; each fact below holds of the choice
nearer-prefix : (a b : Bool) (path : Path) (found mount : Mount) → is_prefix mount.point path ≡ a → is_prefix found.point path ≡ true →
    is_prefix (if a && b then mount else found).point path ≡ true
nearer-prefix true true path found mount e h = e
nearer-prefix true false path found mount e h = h
nearer-prefix false b path found mount e h = h

nearer-found : (a b : Bool) (found mount : Mount) → nat_lt (length found.point) (length mount.point) ≡ b →
    length found.point ≤ length (if a && b then mount else found).point
nearer-found true true found mount e = grind (arith, nat_tests)
nearer-found true false found mount e = omega arith
nearer-found false b found mount e = omega arith

nearer-mount : (b : Bool) (found mount : Mount) → nat_lt (length found.point) (length mount.point) ≡ b →
    length mount.point ≤ length (if true && b then mount else found).point
nearer-mount true found mount e = omega arith
nearer-mount false found mount e = grind (arith, nat_tests)

pub nearest-prefix : (path : Path) (found : Mount) (mounts : List Mount) → is_prefix found.point path ≡ true → is_prefix (nearest path found mounts).point path ≡ true
nearest-prefix path found [] h = h
nearest-prefix path found (mount ∷ mounts) h = nearest-prefix path (nearer path found mount) mounts (nearer-prefix _ _ path found mount refl h)

pub nearest-found : (path : Path) (found : Mount) (mounts : List Mount) → length found.point ≤ length (nearest path found mounts).point
nearest-found path found [] = omega arith
nearest-found path found (mount ∷ mounts) =
    let first : length found.point ≤ length (nearer path found mount).point = nearer-found (is_prefix mount.point path) (nat_lt (length found.point) (length mount.point)) found mount refl in
    let later : length (nearer path found mount).point ≤ length (nearest path (nearer path found mount) mounts).point = nearest-found path (nearer path found mount) mounts in
    omega arith

nearer-covers : (a b : Bool) (found mount : Mount) → a ≡ true → nat_lt (length found.point) (length mount.point) ≡ b →
    length mount.point ≤ length (if a && b then mount else found).point
nearer-covers true b found mount h e = nearer-mount b found mount e
nearer-covers false b found mount h e = absurd (cc)

pub nearest-longest : (path : Path) (found : Mount) (mounts : List Mount) (place : ℕ) (d : Mount) → place < length mounts →
    is_prefix (slice_index_or mounts place d).point path ≡ true → length (slice_index_or mounts place d).point ≤ length (nearest path found mounts).point
nearest-longest path found [] place d l h = absurd (omega arith)
nearest-longest path found (mount ∷ mounts) zero d l h =
    let first : length mount.point ≤ length (nearer path found mount).point = nearer-covers (is_prefix mount.point path) (nat_lt (length found.point) (length mount.point)) found mount h refl in
    let later : length (nearer path found mount).point ≤ length (nearest path (nearer path found mount) mounts).point = nearest-found path (nearer path found mount) mounts in
    omega arith
nearest-longest path found (mount ∷ mounts) (suc place) d l h = nearest-longest path (nearer path found mount) mounts place d (omega arith) h

-- the mount is one of the list
abbrev pub IsOneOf : List Mount → Mount → Type 0
IsOneOf mounts found = (place : ℕ) × (place < length mounts) × (slice_index_or mounts place found ≡ found)

one_of_more : (mounts : List Mount) (a b c found : Mount) (t : Bool) → c ≡ (if t then b else a) → IsOneOf (c ∷ mounts) found → IsOneOf (a ∷ b ∷ mounts) found
one_of_more mounts a b c found true e (zero, l, h) = (1, omega arith, sym e ∙ h)
one_of_more mounts a b c found false e (zero, l, h) = (0, omega arith, sym e ∙ h)
one_of_more mounts a b c found t e (suc place, l, h) = (suc (suc place), omega arith, h)

pub nearest-among : (path : Path) (found : Mount) (mounts : List Mount) → IsOneOf (found ∷ mounts) (nearest path found mounts)
nearest-among path found [] = (0, omega arith, refl)
nearest-among path found (mount ∷ mounts) =
    one_of_more mounts found mount (nearer path found mount) (nearest path (nearer path found mount) mounts) _ refl (nearest-among path (nearer path found mount) mounts)

all-longest : (n : Namespace) (path : Path) (place : ℕ) (d : Mount) → place < length (all_mounts n) → is_prefix (slice_index_or (all_mounts n) place d).point path ≡ true →
    length (slice_index_or (all_mounts n) place d).point ≤ length (nearest path n.root n.mounts).point
all-longest n path zero d l h = nearest-found path n.root n.mounts
all-longest n path (suc place) d l h = nearest-longest path n.root n.mounts place d (omega arith) h

pub covering_mount-longest : (n : Namespace) (path : Path) → n.root.point ≡ [] → IsLongestPoint n path (covering_mount n path)
unfolding covering_mount
covering_mount-longest n path e = record {
  prefix = nearest-prefix path n.root n.mounts (ap (λ point. is_prefix point path) e);
  among = nearest-among path n.root n.mounts;
  longest = all-longest n path;
}
