-- What a normal path is made of, and that its printed form names it again.
use Rattle.std.proofs.Common.{◌≡◌, ℕ, zero, suc, ◌-◌, ◌≤◌, ◌==◌, Bool, true, false, not, ◌&&◌, ◌||◌, List, [], ◌∷◌, ◌++◌, length, take, fold, Result, Ok, Err, if◌then◌else◌, refl, sym, ap, ◌∙◌, arith}
use Rattle.std.proofs.lemmas.Bool.Decides.{nat_tests}
use Rattle.std.proofs.lemmas.Grind.{common_steps}
use Rattle.std.proofs.lemmas.List.{append-nil}
use Rattle.std.specs.List.{list_any, list_all, onto_first, slice_split}
use Rattle.vfs_base.specs.Name.{is_name_byte}
use Rattle.vfs_base.specs.Path.{Path, printed, slashed}
use Rattle.vfs_model.specs.Laws.{is_normal_name}
use Rattle.vfs_model.specs.NormalPath.{TextFault, Empty, BadByte, NameTooLong, PathTooLong, after_part, is_dot, is_dot_dot, is_long_part, is_long_path, is_slash, is_zero, normal_path, parent_of, parts_of, place_of, start_of}

all_append : (test : List ℕ → Bool) (xs : Path) (name : List ℕ) → list_all test xs ≡ true → test name ≡ true → list_all test (xs ++ name ∷ []) ≡ true
all_append test [] name h k = grind arith
all_append test (x ∷ xs) name h k = grind (arith, all_append test xs name)

all_take : (test : List ℕ → Bool) (count : ℕ) (xs : Path) → list_all test xs ≡ true → list_all test (take count xs) ≡ true
all_take test zero xs h = refl
all_take test (suc count) [] h = refl
all_take test (suc count) (x ∷ xs) h = grind (arith, all_take test count xs)

either_all : (test : List ℕ → Bool) (b : Bool) (xs ys : Path) → (b ≡ true → list_all test xs ≡ true) → (b ≡ false → list_all test ys ≡ true) →
    list_all test (if b then xs else ys) ≡ true
either_all test true xs ys h k = h refl
either_all test false xs ys h k = k refl

-- a part of a text: bytes that a name may have, and not too many
abbrev is_part : List ℕ → Bool
is_part part = list_all is_name_byte part && not (is_long_part part)

part-named : (part : List ℕ) → is_part part ≡ true → (length part == 0 || is_dot part) ≡ false → is_dot_dot part ≡ false → is_normal_name part ≡ true
part-named part h e d = grind (arith, nat_tests)

after-normal : (path : Path) (part : List ℕ) → list_all is_normal_name path ≡ true → is_part part ≡ true → list_all is_normal_name (after_part path part) ≡ true
after-normal path part h k =
    either_all is_normal_name (length part == 0 || is_dot part) path (if is_dot_dot part then parent_of path else path ++ part ∷ []) (λ e. h) (λ e.
    either_all is_normal_name (is_dot_dot part) (parent_of path) (path ++ part ∷ []) (λ d. all_take is_normal_name (length path - 1) path h)
    (λ d. all_append is_normal_name path part h (part-named part k e d)))

fold-normal : (parts : Path) (path : Path) → list_all is_normal_name path ≡ true → list_all is_part parts ≡ true → list_all is_normal_name (fold after_part path parts) ≡ true
fold-normal [] path h k = h
fold-normal (part ∷ parts) path h k = fold-normal parts (after_part path part) (after-normal path part h (grind arith)) (grind arith)

start-normal : (folder : Path) (text : List ℕ) → list_all is_normal_name folder ≡ true → list_all is_normal_name (start_of folder text) ≡ true
start-normal folder [] h = h
start-normal folder (byte ∷ text) h = either_all is_normal_name (is_slash byte) [] folder (λ e. refl) (λ e. h)

onto_first-clean : (byte : ℕ) (parts : Path) → is_name_byte byte ≡ true → list_all (list_all is_name_byte) parts ≡ true →
    list_all (list_all is_name_byte) (onto_first byte parts) ≡ true
onto_first-clean byte [] name clean = grind arith
onto_first-clean byte (part ∷ parts) name clean = grind arith

clean-parts : (text : List ℕ) → list_any is_zero text ≡ false → list_all (list_all is_name_byte) (parts_of text) ≡ true
clean-parts [] whole = refl
clean-parts (byte ∷ text) whole = grind (arith, common_steps, onto_first-clean byte (parts_of text), clean-parts text)

both-parts : (parts : Path) → list_all (list_all is_name_byte) parts ≡ true → list_any is_long_part parts ≡ false → list_all is_part parts ≡ true
both-parts [] h k = refl
both-parts (part ∷ parts) h k = grind (arith, both-parts parts)

not_refused : (b : Bool) (fault : TextFault) (rest : Result Path TextFault) (path : Path) → (if b then Err fault else rest) ≡ Ok path → (b ≡ false) × (rest ≡ Ok path)
not_refused true fault rest path e = absurd (cc)
not_refused false fault rest path e = (refl, e)

same_ok : (p q : Path) → ◌≡◌ {A = Result Path TextFault} (Ok p) (Ok q) → p ≡ q
same_ok p q e = cc

short : (path : Path) → is_long_path path ≡ false → length (printed path) ≤ 1024
short path h = grind (arith, nat_tests)

pub normal_path-names : (folder : Path) (text : List ℕ) (path : Path) → list_all is_normal_name folder ≡ true → normal_path folder text ≡ Ok path →
    (list_all is_normal_name path ≡ true) × (length (printed path) ≤ 1024)
normal_path-names folder text path h e =
    let a = not_refused _ Empty _ path e in
    let b = not_refused _ BadByte _ path a.1 in
    let c = not_refused _ PathTooLong _ path b.1 in
    let d = not_refused _ NameTooLong _ path c.1 in
    let f = not_refused _ PathTooLong _ path d.1 in
    let parts = both-parts (parts_of text) (clean-parts text b.0) d.0 in
    let place = fold-normal (parts_of text) (start_of folder text) (start-normal folder text h) parts in
    let same : place_of folder text ≡ path = same_ok _ _ f.1 in
    (sym (ap (list_all is_normal_name) same) ∙ place, short path (sym (ap is_long_path same) ∙ f.0))

-- the parts of a name and of what is behind it
split-name : (name rest : List ℕ) (parts : Path) → list_all is_name_byte name ≡ true → slice_split is_slash rest ≡ [] ∷ parts →
    slice_split is_slash (name ++ rest) ≡ name ∷ parts
split-name [] rest parts h e = e
split-name (byte ∷ name) rest parts h e = grind (arith, common_steps, split-name name rest parts)

name-clean : (name : List ℕ) → is_normal_name name ≡ true → list_all is_name_byte name ≡ true
name-clean name h = grind arith

split-slashed : (path : Path) → list_all is_normal_name path ≡ true → slice_split is_slash (slashed path) ≡ [] ∷ path
split-slashed [] h = refl
split-slashed (name ∷ path) h =
    ap (λ parts. [] ∷ parts) (split-name name (slashed path) path (name-clean name (grind arith)) (split-slashed path (grind arith)))

after-name : (front : Path) (name : List ℕ) → is_normal_name name ≡ true → after_part front name ≡ front ++ name ∷ []
after-name front name h = grind (arith, nat_tests)

append_one : (front path : Path) (name : List ℕ) → (front ++ name ∷ []) ++ path ≡ front ++ name ∷ path
append_one [] path name = refl
append_one (x ∷ front) path name = ap (λ rest. x ∷ rest) (append_one front path name)

fold-names : (path front : Path) → list_all is_normal_name path ≡ true → fold after_part front path ≡ front ++ path
fold-names [] front h = sym (append-nil front)
fold-names (name ∷ path) front h =
    ap (λ place. fold after_part place path) (after-name front name (grind arith)) ∙ fold-names path (front ++ name ∷ []) (grind arith) ∙ append_one front path name

pub place-printed : (folder path : Path) → list_all is_normal_name path ≡ true → place_of folder (printed path) ≡ path
place-printed folder [] h = refl
place-printed folder (name ∷ path) h =
    ap (fold after_part []) (split-slashed (name ∷ path) h) ∙ fold-names (name ∷ path) [] h

no_zero-append : (xs ys : List ℕ) → list_any is_zero xs ≡ false → list_any is_zero ys ≡ false → list_any is_zero (xs ++ ys) ≡ false
no_zero-append [] ys h k = k
no_zero-append (x ∷ xs) ys h k = grind (arith, no_zero-append xs ys)

no_zero-name : (name : List ℕ) → list_all is_name_byte name ≡ true → list_any is_zero name ≡ false
no_zero-name [] h = refl
no_zero-name (byte ∷ name) h = grind (arith, no_zero-name name)

no_zero-slashed : (path : Path) → list_all is_normal_name path ≡ true → list_any is_zero (slashed path) ≡ false
no_zero-slashed [] h = refl
no_zero-slashed (name ∷ path) h = no_zero-append name (slashed path) (no_zero-name name (name-clean name (grind arith))) (no_zero-slashed path (grind arith))

no_zero-printed : (path : Path) → list_all is_normal_name path ≡ true → list_any is_zero (printed path) ≡ false
no_zero-printed [] h = refl
no_zero-printed (name ∷ path) h = no_zero-slashed (name ∷ path) h

short-names : (path : Path) → list_all is_normal_name path ≡ true → list_any is_long_part path ≡ false
short-names [] h = refl
short-names (name ∷ path) h = grind (arith, nat_tests, short-names path)

short-parts : (path : Path) → list_all is_normal_name path ≡ true → list_any is_long_part (parts_of (printed path)) ≡ false
short-parts [] h = refl
short-parts (name ∷ path) h = ap (list_any is_long_part) (split-slashed (name ∷ path) h) ∙ short-names (name ∷ path) h

printed-some : (path : Path) → (length (printed path) == 0) ≡ false
printed-some [] = refl
printed-some (name ∷ path) = grind (arith, nat_tests)

passed : (b : Bool) (fault : TextFault) (rest : Result Path TextFault) → b ≡ false → (if b then Err fault else rest) ≡ rest
passed true fault rest e = absurd (cc)
passed false fault rest e = refl

not-long : (path : Path) → length (printed path) ≤ 1024 → is_long_path path ≡ false
not-long path h = grind (arith, nat_tests)

pub printed-names : (folder path : Path) → list_all is_normal_name path ≡ true → length (printed path) ≤ 1024 → normal_path folder (printed path) ≡ Ok path
printed-names folder path h l =
    passed _ Empty _ (printed-some path)
    ∙ passed _ BadByte _ (no_zero-printed path h)
    ∙ passed _ PathTooLong _ (not-long path l)
    ∙ passed _ NameTooLong _ (short-parts path h)
    ∙ passed _ PathTooLong _ (ap is_long_path (place-printed folder path h) ∙ not-long path l)
    ∙ ap Ok (place-printed folder path h)
