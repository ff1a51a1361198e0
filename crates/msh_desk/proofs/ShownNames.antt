-- The names of a path are those of its printed bytes.
use Rattle.std.proofs.Common.{◌≡◌, ℕ, false, true, List, [], ◌∷◌, ◌++◌, refl, ap, append-nil, arith, ◌<◌, length, sym, ◌∙◌}
use Rattle.std.proofs.lemmas.Bool.Decides.{nat_tests}
use Rattle.std.specs.List.{list_all}
use Rattle.vfs_base.specs.Name.{is_name_byte}
use Rattle.vfs_base.specs.Path.{Path, IsPath, printed, slashed}
use Rattle.msh_desk.specs.ShownNames.{names_of, path_of}

names_behind : (name rest : List ℕ) → list_all is_name_byte name ≡ true →
    names_of (name ++ rest) ≡ record { first = name ++ (names_of rest).first; others = (names_of rest).others }
names_behind [] rest clean = refl
names_behind (byte ∷ name) rest clean =
    let behind = names_behind name rest (grind (arith, nat_tests)) in
    let other : (Rattle.std.proofs.Common.nat_eq byte 47) ≡ false = grind (arith, nat_tests) in
    rw behind (rw other refl)

names_of_slashed : (path : Path) → IsPath path → names_of (slashed path) ≡ record { first = []; others = path }
names_of_slashed [] names = refl
names_of_slashed (name ∷ path) names =
    rw (names_behind name (slashed path) (grind (arith, nat_tests))) (rw (names_of_slashed path names.1) (rw (append-nil name) refl))

pub path_of_slashed : (path : Path) → IsPath path → path_of (slashed path) ≡ path
path_of_slashed path names = ap (λ found. found.others) (names_of_slashed path names)

-- no bytes are the path of no names
pub no_text : (text : List ℕ) → text ≡ [] → path_of text ≡ []
no_text text none = ap path_of none

pub no_names : (text : List ℕ) → slashed (path_of text) ≡ text → path_of text ≡ [] → text ≡ []
no_names text same none = sym same ∙ ap slashed none

printed_slashed : (path : Path) (text : List ℕ) → slashed path ≡ text → 0 < length text → printed path ≡ text
printed_slashed [] text same some = absurd (grind arith)
printed_slashed (name ∷ path) text same some = same

pub printed_text : (text : List ℕ) → slashed (path_of text) ≡ text → 0 < length text → printed (path_of text) ≡ text
printed_text text same some = printed_slashed (path_of text) text same some
