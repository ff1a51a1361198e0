-- Lemmas on the names that slashes separate.
use Rattle.std.proofs.Common.{Bor, ◌≡◌, ℕ, Bool, true, false, ◌&&◌, Option, Some, None, if◌then◌else◌, List, [], ◌∷◌, ◌++◌, refl, sym, ap, ◌∙◌, append_assoc}
use Rattle.std.specs.List.{list_all, list_any, before_first, after_first}
use Rattle.std.specs.Option.{option_copied}
use Rattle.std.proofs.lemmas.List.Folds.{list_all-append}
use Rattle.std.proofs.lemmas.List.Splits.{slice_split_at, slice_split_none}
use Rattle.std.proofs.lemmas.Option.{cond_some}
use Rattle.vfs_base.specs.Name.{slash}
use Rattle.vfs_base.specs.Path.{Path}
use Rattle.vfs_model.specs.NormalPath.{parts_of}
use Rattle.romfs.proofs.SplitLemmas.{is_value, cut, cond_none, without_value, before_first-whole}

-- what slashes separate in the bytes that are left
abbrev pub parts_left : Option (Bor (List ℕ)) → Path
parts_left None = []
parts_left (Some bytes) = parts_of bytes.now

-- the first of the parts
pub parts_left-first : (bytes front : List ℕ) (rest : Option (Bor (List ℕ))) → front ≡ before_first (is_value slash) bytes
    → option_copied rest ≡ (if list_any (is_value slash) bytes then Some (after_first (is_value slash) bytes) else None)
    → parts_of bytes ≡ front ∷ parts_left rest
parts_left-first bytes front None before is =
    let none = cond_none (list_any (is_value slash) bytes) (after_first (is_value slash) bytes) (sym is) in
    rw (before, before_first-whole slash bytes none) (slice_split_none (is_value slash) bytes (without_value slash bytes none))
parts_left-first bytes front (Some rest) before is =
    let (any, after) = cond_some (list_any (is_value slash) bytes) (after_first (is_value slash) bytes) rest.now (sym is) in
    let parts = cut slash bytes any in
    rw (before, ← after)
    (ap parts_of parts.joined
    ∙ slice_split_at (is_value slash) (before_first (is_value slash) bytes) slash (after_first (is_value slash) bytes) parts.without refl)

-- the parts so far and those that are left, one part further
pub one_more : (path all : Path) (name : List ℕ) (bytes : Bor (List ℕ)) (left rest : Option (Bor (List ℕ)))
    → path ++ parts_left left ≡ all → left ≡ Some bytes → parts_of bytes.now ≡ name ∷ parts_left rest
    → (path ++ name ∷ []) ++ parts_left rest ≡ all
one_more path all name bytes left rest whole is first =
    append_assoc path (name ∷ []) (parts_left rest)
    ∙ ap (λ r. path ++ r) (sym first)
    ∙ ap (λ l. path ++ parts_left l) (sym is)
    ∙ whole

no_end : (b : Bool) → (b && false) ≡ false
no_end true = refl
no_end false = refl

-- one part that fails the test
pub list_all-bad : (p : List ℕ → Bool) (path rest all : Path) (name : List ℕ) → (path ++ name ∷ []) ++ rest ≡ all → p name ≡ false → list_all p all ≡ false
list_all-bad p path rest all name whole bad =
    ap (list_all p) (sym whole) ∙ list_all-append p (path ++ name ∷ []) rest
    ∙ ap (λ b. b && list_all p rest) (list_all-append p path (name ∷ []) ∙ ap (λ b. list_all p path && (b && true)) bad ∙ no_end (list_all p path))

-- one part more that passes it
pub list_all-good : (p : List ℕ → Bool) (path : Path) (name : List ℕ) → list_all p path ≡ true → p name ≡ true → list_all p (path ++ name ∷ []) ≡ true
list_all-good p path name before good = rw (list_all-append, before, good) refl
