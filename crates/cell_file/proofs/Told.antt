-- What a transfer does to the bytes of the cell, where its device tells its pages.
use Rattle.std.specs.Prelude.{◌≡◌, ℕ, ◌+◌, ◌-◌, ◌*◌, ◌<◌, ◌≤◌, true, max, min, Some, List, [], ◌++◌, length, take, drop, slice_index_or, slice_set}
use Rattle.std.proofs.Common.{sym, ◌∙◌, ap, subst, arith, inl, inr}
use Rattle.std.proofs.lemmas.Bool.{cases_lt}
use borrow.Rule.Slice.PartMut.{put_mid}
use Rattle.std.proofs.lemmas.List.{drop-drop, drop-take, length-append, length-drop, length-take, length-take-le, take-take, take_all, take_min}
use Rattle.std.specs.List.{concat}
use Rattle.vfs_base.specs.declared.limits.TheConstants.{PAGE_SIZE}
use Rattle.vfs_model.specs.FailedCalls.{bytes_before}
use Rattle.page_cache.specs.AddressSpace.{AddressSpace, IsCurrent, KeepsPages, Moment, SamePages, file_pages}
use Rattle.page_cache.specs.Resident.{bytes_in, holds_page, spliced}
use Rattle.page_cache.proofs.Held.{spliced-length}
use Rattle.cell_file.specs.CellFile.{IsWhole, all_bytes}
use Rattle.cell_file.specs.Parts.{EditsBytes, EditsPage, HasRead, MeetsPage, ReadsPage, part_in}
use Rattle.cell_file.proofs.Flat.{AreFull, flat-page, flat-length, flat-spliced, full-page, full-set, splice-more, splice-none, take-further}
use Rattle.cell_file.proofs.Touching.{held-page, pages-count}

-- the pages go on as they are
pub whole-kept : (a b : AddressSpace) (told now : List (List ℕ)) → IsWhole a told → SamePages a b told now → IsWhole b now
whole-kept a b told now h same = record { current = same.current; whole = subst AreFull (sym same.same) h.whole }

-- a page in memory, among the cell's bytes
pub page-bytes : (a : AddressSpace) (told : List (List ℕ)) (page : ℕ) → IsWhole a told → holds_page a.resident page ≡ true → page < a.pages →
    take PAGE_SIZE (drop (PAGE_SIZE * page) (all_bytes a told)) ≡ bytes_in a.resident page
page-bytes a told page h held low =
    let count = pages-count a told in
    flat-page (file_pages a told) page h.whole (omega (arith, count, low)) ∙ held-page a told page held low

-- the bytes of a transfer that a page of the cell has
pub part-bytes : (bytes page : List ℕ) (number off k count at : ℕ) → take PAGE_SIZE (drop (PAGE_SIZE * number) bytes) ≡ page → PAGE_SIZE * number + at ≡ off + k → at + count ≤ PAGE_SIZE →
    take count (drop at page) ≡ take count (drop k (drop off bytes))
part-bytes bytes page number off k count at whole place fits =
    let b : ℕ = PAGE_SIZE * number in
    ap (λ xs. take count (drop at xs)) (sym whole)
    ∙ sym (drop-take at count (take PAGE_SIZE (drop b bytes)))
    ∙ ap (drop at) (take-take (at + count) PAGE_SIZE (drop b bytes) fits)
    ∙ drop-take at count (drop b bytes)
    ∙ ap (take count) (drop-drop at b bytes ∙ ap (λ n. drop n bytes) place ∙ sym (drop-drop k off bytes))

-- the first bytes were read, and then those of the next page
pub read-further : (ys out out' part : List ℕ) (k to next : ℕ) → length out' ≡ length out → to ≡ min (length out) next → k ≤ to → length part ≡ to - k →
    part ≡ take (to - k) (drop k ys) → take to out' ≡ take k out ++ part → take k out ≡ take k (take (length out) ys) →
    take next out' ≡ take next (take (length out') ys)
read-further ys out out' part k to next same end order size here written before =
    let count : ℕ = length out in
    let to-out : take next out' ≡ take to out' =
    sym (take_min next out') ∙ ap (λ n. take n out') (let e : min next (length out') ≡ to = omega (arith, same, end) in e) in
    let first : take k (take count ys) ≡ take k ys = take-take k count ys (omega (arith, end, order)) in
    let read : take to out' ≡ take to ys =
    written ∙ ap (λ xs. xs ++ part) (before ∙ first) ∙ ap (λ xs. take k ys ++ xs) here ∙ take-further ys k to order in
    to-out ∙ read ∙ elim (cases_lt next count) [
      | inl low ↦
          let e : to ≡ next = omega (arith, end, low) in
          ap (λ n. take n ys) e ∙ sym (take-take next count ys (omega (arith, low))) ∙ ap (λ n. take next (take n ys)) (sym same)
      | inr high ↦
          let e : to ≡ count = omega (arith, end, high) in
          let few = length-take count ys in
          ap (λ n. take n ys) e ∙ sym (take_all next (take count ys) (omega (arith, few, high))) ∙ ap (λ n. take next (take n ys)) (sym same)
    ]

-- a part of a list in place of another one of its length
pub mid-length : (k n : ℕ) (xs ys : List ℕ) → k + n ≤ length xs → length ys ≡ n → length (put_mid k n xs ys) ≡ length xs
mid-length k n xs ys fits same =
    let front = length-take-le k xs (omega (arith, fits)) in
    let rest : length (drop n (drop k xs)) ≡ length xs - k - n = length-drop n (drop k xs) ∙ ap (λ l. l - n) (length-drop k xs) in
    length-append (take k xs) (ys ++ drop n (drop k xs)) ∙ (let both = length-append ys (drop n (drop k xs)) in omega (arith, front, rest, both, fits, same))

-- the bytes of a piece between two places
pub part-is : (piece : List ℕ) (k to next : ℕ) → to ≡ min (length piece) next → k ≤ to → take (to - k) (drop k piece) ≡ drop k (take next piece)
part-is piece k to next end order =
    sym (drop-take k (to - k) piece)
    ∙ ap (λ n. drop k (take n piece)) (let e : k + (to - k) ≡ min next (length piece) = omega (arith, end, order) in e)
    ∙ ap (drop k) (take_min next piece)

-- the part of a page that was brought in, where the file's pages are as before
pub kept-part : (a b : AddressSpace) (told now : List (List ℕ)) (page off k count at : ℕ) → IsWhole a told → SamePages a b told now → holds_page b.resident page ≡ true → page < b.pages →
    PAGE_SIZE * page + at ≡ off + k → at + count ≤ PAGE_SIZE → take count (drop at (bytes_in b.resident page)) ≡ take count (drop k (drop off (all_bytes a told)))
kept-part a b told now page off k count at h same held low place fits =
    part-bytes (all_bytes a told) (bytes_in b.resident page) page off k count at
    (ap (λ pages. take PAGE_SIZE (drop (PAGE_SIZE * page) (concat pages))) (sym same.same) ∙ page-bytes b now page (whole-kept a b told now h same) held low)
    place fits

-- the bytes up to a page were read from the pages as they were, and then those of the page
pub reads-then : (a b : Moment) (off page : ℕ) (before after : List ℕ) → KeepsPages a b →
    ((told : List (List ℕ)) → a.device.contents ≡ Some told → IsWhole a.space told → HasRead off (bytes_before off page) before (all_bytes a.space told)) →
    ReadsPage off page before after b →
    (told : List (List ℕ)) → a.device.contents ≡ Some told → IsWhole a.space told → HasRead off (bytes_before off (page + 1)) after (all_bytes a.space told)
reads-then a b off page before after kept first second told e h =
    let now = kept told e h.current in
    let same : all_bytes b.space now.0 ≡ all_bytes a.space told = ap concat now.2.same in
    subst (HasRead off (bytes_before off (page + 1)) after) same
    (second now.0 now.1 (whole-kept a.space b.space told now.0 h now.2) (subst (HasRead off (bytes_before off page) before) (sym same) (first told e h)))

-- a piece was put into a page that was brought in
pub edits-part : (a b c : AddressSpace) (told now : List (List ℕ)) (page at place : ℕ) (part : List ℕ) → IsWhole a told → SamePages a b told now → holds_page b.resident page ≡ true → page < b.pages →
    IsCurrent c now → file_pages c now ≡ slice_set (file_pages b now) page (spliced at part (bytes_in b.resident page)) → PAGE_SIZE * page + at ≡ place → at + length part ≤ PAGE_SIZE →
    IsWhole c now × (all_bytes c now ≡ spliced place part (all_bytes a told))
edits-part a b c told now page at place part h same held low current pages there fits =
    let full : AreFull (file_pages b now) = (whole-kept a b told now h same).whole in
    let count = pages-count b now in
    let inside : page < length (file_pages b now) = omega (arith, count, low) in
    let size = full-page (file_pages b now) page full inside in
    let set : file_pages c now ≡ slice_set (file_pages b now) page (spliced at part (slice_index_or (file_pages b now) page [])) =
    pages ∙ ap (λ bytes. slice_set (file_pages b now) page (spliced at part bytes)) (sym (held-page b now page held low)) in
    let new-size = spliced-length at part (slice_index_or (file_pages b now) page []) (omega (arith, size, fits)) ∙ size in (
      record { current = current; whole = subst AreFull (sym set) (full-set (file_pages b now) page (spliced at part (slice_index_or (file_pages b now) page [])) new-size full) },
      ap concat set ∙ flat-spliced (file_pages b now) page at part full inside fits size
          ∙ ap (λ n. spliced n part (concat (file_pages b now))) there ∙ ap (λ ps. spliced place part (concat ps)) same.same,
    )

-- the piece was put into the pages up to one, and then into this one
pub edits-then : (a b c : Moment) (off page : ℕ) (piece : List ℕ) → MeetsPage off (length piece) page → off + length piece ≤ PAGE_SIZE * a.space.pages →
    EditsBytes off (take (bytes_before off page) piece) a b → EditsPage off page piece b c → EditsBytes off (take (bytes_before off (page + 1)) piece) a c
edits-then a b c off page piece meets inside first second told e h =
    let one = first told e h in
    let two = second one.0 one.1 one.2 in
    let begins = meets.begins in
    let count = pages-count a.space told in
    let size = flat-length (file_pages a.space told) h.whole in (
      two.0,
      two.1,
      two.2,
      two.3 ∙ ap (spliced (max off (PAGE_SIZE * page)) (part_in page off piece)) one.3
          ∙ splice-more (all_bytes a.space told) piece off (bytes_before off page) (bytes_before off (page + 1)) (max off (PAGE_SIZE * page))
          (omega arith) (omega (arith, begins)) (omega (arith, size, count, inside)) (omega arith),
    )

-- no byte was put
pub edits-none : (a b : Moment) (off : ℕ) (piece : List ℕ) → piece ≡ [] → KeepsPages a b → EditsBytes off piece a b
edits-none a b off piece none kept told e h =
    let now = kept told e h.current in
    (now.0, now.1, whole-kept a.space b.space told now.0 h now.2, ap concat now.2.same ∙ sym (splice-none off (all_bytes a.space told)) ∙ ap (λ p. spliced off p (all_bytes a.space told)) (sym none))

-- what was put stays where the pages go on as they are
pub edits-kept : (a b c : Moment) (off : ℕ) (piece : List ℕ) → EditsBytes off piece a b → KeepsPages b c → EditsBytes off piece a c
edits-kept a b c off piece first kept told e h =
    let one = first told e h in
    let now = kept one.0 one.1 one.2.current in
    (now.0, now.1, whole-kept b.space c.space one.0 now.0 one.2 now.2, ap concat now.2.same ∙ one.3)
