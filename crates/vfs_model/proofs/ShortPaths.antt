-- A path that is asked for is not too long.
use Rattle.std.proofs.Common.{◌≡◌, ℕ, ◌≤◌, ◌==◌, Bool, true, false, nat_lt, List, length, Ok, Err, refl, subst, if◌then◌else◌, arith}
use Rattle.std.proofs.lemmas.Bool.Decides.{nat_tests}
use Rattle.std.specs.List.{list_any}
use Rattle.vfs_base.specs.Path.{Path, printed}
use Rattle.vfs_base.specs.declared.limits.TheConstants.{PATH_MAX}
use Rattle.vfs_model.specs.NormalPath.{Empty, BadByte, NameTooLong, PathTooLong, is_long_part, is_long_path, is_zero, normal_path, parts_of, place_of}

short_place : (long : Bool) (place path : Path) → nat_lt 1024 (length (printed place)) ≡ long →
    (if long then Err PathTooLong else Ok place) ≡ Ok path → length (printed path) ≤ 1024
short_place true place path is found = absurd (cc)
short_place false place path is found =
    let same : place ≡ path = cc in
    subst (λ (p : Path). length (printed p) ≤ 1024) same (grind (arith, nat_tests))

short_by : (empty zero long part : Bool) (place path : Path) →
    (if empty then Err Empty
    else if zero then Err BadByte
    else if long then Err PathTooLong
    else if part then Err NameTooLong
    else if is_long_path place then Err PathTooLong
    else Ok place) ≡ Ok path → length (printed path) ≤ 1024
short_by true zero long part place path found = absurd (cc)
short_by false true long part place path found = absurd (cc)
short_by false false true part place path found = absurd (cc)
short_by false false false true place path found = absurd (cc)
short_by false false false false place path found = short_place (is_long_path place) place path refl found

pub normal_short : (folder : Path) (text : List ℕ) (path : Path) → normal_path folder text ≡ Ok path → length (printed path) ≤ 1024
normal_short folder text path found =
    short_by (length text == 0) (list_any is_zero text) (nat_lt PATH_MAX (length text)) (list_any is_long_part (parts_of text))
    (place_of folder text) path found
