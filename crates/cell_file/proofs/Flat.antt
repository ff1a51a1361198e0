-- The bytes of a cell, one whole page behind the other, and pieces that are put among them.
use Rattle.std.specs.Prelude.{◌≡◌, ℕ, zero, suc, ◌+◌, ◌-◌, ◌*◌, ◌<◌, ◌≤◌, List, [], ◌∷◌, ◌++◌, length, take, drop, slice_index_or, slice_set, refl}
use Rattle.std.proofs.Common.{sym, ◌∙◌, ap, ap₂, arith}
use Rattle.std.proofs.lemmas.List.{append-nil, append_assoc, drop-append-le, drop-drop, drop-take, drop_at, length-append, length-drop, length-take-le, take-append-drop, take-take, take_at}
use Rattle.std.specs.List.{AllByRecursion, concat}
use Rattle.vfs_base.specs.declared.limits.TheConstants.{PAGE_SIZE}
use Rattle.page_cache.specs.Resident.{spliced}

-- each page has its size
abbrev pub AreFull : List (List ℕ) → Type 0
AreFull pages = AllByRecursion (λ page. length page ≡ PAGE_SIZE) pages

pub flat-length : (pages : List (List ℕ)) → AreFull pages → length (concat pages) ≡ PAGE_SIZE * length pages
flat-length [] h = refl
flat-length (page ∷ pages) h =
    let rest = flat-length pages h.1 in let first = h.0 in
    length-append page (concat pages) ∙ omega (arith, rest, first)

-- so many names of a list's front, and then some of another list
pub take-over : (xs ys : List ℕ) (n m : ℕ) → m ≡ length xs + n → take m (xs ++ ys) ≡ xs ++ take n ys
take-over [] ys n m e = ap (λ k. take k ys) (let f : m ≡ n = omega (arith, e) in f)
take-over (x ∷ xs) ys n zero e = absurd (omega (arith, e))
take-over (x ∷ xs) ys n (suc m) e = ap (λ zs. x ∷ zs) (take-over xs ys n m (omega (arith, e)))

pub drop-over : (xs ys : List ℕ) (n m : ℕ) → m ≡ length xs + n → drop m (xs ++ ys) ≡ drop n ys
drop-over [] ys n m e = ap (λ k. drop k ys) (let f : m ≡ n = omega (arith, e) in f)
drop-over (x ∷ xs) ys n zero e = absurd (omega (arith, e))
drop-over (x ∷ xs) ys n (suc m) e = drop-over xs ys n m (omega (arith, e))

-- a page of the cell's bytes
pub flat-page : (pages : List (List ℕ)) (page : ℕ) → AreFull pages → page < length pages →
    take PAGE_SIZE (drop (PAGE_SIZE * page) (concat pages)) ≡ slice_index_or pages page []
flat-page [] page h low = absurd (omega (arith, low))
flat-page (first ∷ pages) zero h low = take_at first (concat pages) PAGE_SIZE h.0
flat-page (first ∷ pages) (suc page) h low =
    let full = h.0 in
    ap (take PAGE_SIZE) (drop-over first (concat pages) (PAGE_SIZE * page) (PAGE_SIZE * suc page) (omega (arith, full)))
    ∙ flat-page pages page h.1 (omega (arith, low))

-- another page in place of one
pub flat-set : (pages : List (List ℕ)) (page : ℕ) (bytes : List ℕ) → AreFull pages → page < length pages →
    concat (slice_set pages page bytes) ≡ take (PAGE_SIZE * page) (concat pages) ++ (bytes ++ drop (PAGE_SIZE * page + PAGE_SIZE) (concat pages))
flat-set [] page bytes h low = absurd (omega (arith, low))
flat-set (first ∷ pages) zero bytes h low =
    let full = h.0 in
    ap (λ ys. bytes ++ ys) (sym (drop_at first (concat pages) (PAGE_SIZE * 0 + PAGE_SIZE) (omega (arith, full))))
flat-set (first ∷ pages) (suc page) bytes h low =
    let full = h.0 in
    let W = concat pages in
    ap (λ ys. first ++ ys) (flat-set pages page bytes h.1 (omega (arith, low)))
    ∙ sym (append_assoc first (take (PAGE_SIZE * page) W) (bytes ++ drop (PAGE_SIZE * page + PAGE_SIZE) W))
    ∙ ap₂ (λ xs ys. xs ++ (bytes ++ ys))
    (sym (take-over first W (PAGE_SIZE * page) (PAGE_SIZE * suc page) (omega (arith, full))))
    (sym (drop-over first W (PAGE_SIZE * page + PAGE_SIZE) (PAGE_SIZE * suc page + PAGE_SIZE) (omega (arith, full))))

pub full-set : (pages : List (List ℕ)) (page : ℕ) (bytes : List ℕ) → length bytes ≡ PAGE_SIZE → AreFull pages → AreFull (slice_set pages page bytes)
full-set [] page bytes e h = h
full-set (first ∷ pages) zero bytes e h = (e, h.1)
full-set (first ∷ pages) (suc page) bytes e h = (h.0, full-set pages page bytes e h.1)

splice-is : (n : ℕ) (piece bytes : List ℕ) → spliced n piece bytes ≡ take n bytes ++ (piece ++ drop (n + length piece) bytes)
splice-is n piece bytes = append_assoc (take n bytes) piece (drop (n + length piece) bytes)

-- no piece changes nothing
pub splice-none : (n : ℕ) (bytes : List ℕ) → spliced n [] bytes ≡ bytes
splice-none n bytes = ap₂ (λ xs k. xs ++ drop k bytes) (append-nil (take n bytes)) (let e : n + 0 ≡ n = omega arith in e) ∙ take-append-drop n bytes

-- a piece behind a front of so many bytes
pub splice-at : (front rest piece : List ℕ) (n : ℕ) → length front ≡ n → spliced n piece (front ++ rest) ≡ front ++ (piece ++ drop (length piece) rest)
splice-at front rest piece n e =
    splice-is n piece (front ++ rest)
    ∙ ap₂ (λ xs ys. xs ++ (piece ++ ys)) (take_at front rest n e) (drop-over front rest (length piece) (n + length piece) (omega (arith, e)))

-- a piece within a part of the bytes
pub splice-within : (front part rest piece : List ℕ) (n at : ℕ) → length front ≡ n → at + length piece ≤ length part →
    front ++ (spliced at piece part ++ rest) ≡ spliced (n + at) piece (front ++ (part ++ rest))
splice-within front part rest piece n at e fits =
    let l = length part in
    let low : List ℕ = take at part in
    let high : List ℕ = drop at part in
    let low-length : length low ≡ at = length-take-le at part (omega (arith, fits)) in
    let high-length = length-drop at part in
    let bytes : front ++ (part ++ rest) ≡ (front ++ low) ++ (high ++ rest) =
    ap (λ xs. front ++ xs) (ap (λ xs. xs ++ rest) (sym (take-append-drop at part)) ∙ append_assoc low high rest) ∙ sym (append_assoc front low (high ++ rest)) in
    let long : length (front ++ low) ≡ n + at = (let h = length-append front low in omega (arith, h, e, low-length)) in
    let tail : drop (length piece) (high ++ rest) ≡ drop (at + length piece) part ++ rest =
    drop-append-le (length piece) high rest (omega (arith, high-length, fits)) ∙ ap (λ xs. xs ++ rest) (drop-drop (length piece) at part) in
    sym (ap (spliced (n + at) piece) bytes ∙ splice-at (front ++ low) (high ++ rest) piece (n + at) long
    ∙ append_assoc front low (piece ++ drop (length piece) (high ++ rest))
    ∙ ap (λ xs. front ++ (low ++ (piece ++ xs))) tail
    ∙ ap (λ xs. front ++ xs) (ap (λ xs. low ++ xs) (sym (append_assoc piece (drop (at + length piece) part) rest)) ∙ sym (append_assoc low (piece ++ drop (at + length piece) part) rest))
    ∙ ap (λ xs. front ++ (xs ++ rest)) (sym (splice-is at piece part)))

-- the bytes before a page, the page, and those behind it
pub flat-parts : (pages : List (List ℕ)) (page : ℕ) → AreFull pages → page < length pages →
    concat pages ≡ take (PAGE_SIZE * page) (concat pages) ++ (slice_index_or pages page [] ++ drop (PAGE_SIZE * page + PAGE_SIZE) (concat pages))
flat-parts pages page h low =
    let W = concat pages in
    let b : ℕ = PAGE_SIZE * page in
    sym (take-append-drop b W)
    ∙ ap (λ xs. take b W ++ xs) (sym (take-append-drop PAGE_SIZE (drop b W)) ∙ ap₂ (λ xs ys. xs ++ ys) (flat-page pages page h low) (drop-drop PAGE_SIZE b W))

-- a piece in a page is a piece among the cell's bytes
pub flat-spliced : (pages : List (List ℕ)) (page at : ℕ) (piece : List ℕ) → AreFull pages → page < length pages → at + length piece ≤ PAGE_SIZE →
    length (slice_index_or pages page []) ≡ PAGE_SIZE →
    concat (slice_set pages page (spliced at piece (slice_index_or pages page []))) ≡ spliced (PAGE_SIZE * page + at) piece (concat pages)
flat-spliced pages page at piece h low fits size =
    let W = concat pages in
    let b : ℕ = PAGE_SIZE * page in
    let part = slice_index_or pages page [] in
    let whole = flat-length pages h in
    let front : length (take b W) ≡ b = length-take-le b W (omega (arith, whole, low)) in
    flat-set pages page (spliced at piece part) h low
    ∙ splice-within (take b W) part (drop (b + PAGE_SIZE) W) piece b at front (omega (arith, fits, size))
    ∙ ap (spliced (b + at) piece) (sym (flat-parts pages page h low))

pub full-page : (pages : List (List ℕ)) (page : ℕ) → AreFull pages → page < length pages → length (slice_index_or pages page []) ≡ PAGE_SIZE
full-page [] page h low = absurd (omega (arith, low))
full-page (first ∷ pages) zero h low = h.0
full-page (first ∷ pages) (suc page) h low = full-page pages page h.1 (omega (arith, low))

-- a piece of one, behind the part of it that was put before
pub splice-more : (bytes piece : List ℕ) (off k m at : ℕ) → k ≤ m → k ≤ length piece → off + length piece ≤ length bytes → at ≡ off + k →
    spliced at (drop k (take m piece)) (spliced off (take k piece) bytes) ≡ spliced off (take m piece) bytes
splice-more bytes piece off k m at order within fits e =
    let front : List ℕ = take off bytes in
    let rest : List ℕ = drop off bytes in
    let x : List ℕ = take k piece in
    let part : List ℕ = drop k (take m piece) in
    let front-length : length front ≡ off = length-take-le off bytes (omega (arith, fits)) in
    let x-length : length x ≡ k = length-take-le k piece within in
    let split = sym (take-append-drop off bytes) in
    let joined : x ++ part ≡ take m piece = ap (λ xs. xs ++ part) (sym (take-take k m piece order)) ∙ take-append-drop k (take m piece) in
    let long : length (front ++ x) ≡ at = (let h = length-append front x in omega (arith, h, e, front-length, x-length)) in
    let first : spliced off x bytes ≡ (front ++ x) ++ drop (length x) rest =
    ap (spliced off x) split ∙ splice-at front rest x off front-length ∙ sym (append_assoc front x (drop (length x) rest)) in
    let lengths : length x + length part ≡ length (take m piece) = (let h = length-append x part in sym h ∙ ap length joined) in
    let tail : drop (length part) (drop (length x) rest) ≡ drop (length (take m piece)) rest =
    drop-drop (length part) (length x) rest ∙ ap (λ n. drop n rest) lengths in
    ap (spliced at part) first ∙ splice-at (front ++ x) (drop (length x) rest) part at long
    ∙ ap (λ xs. (front ++ x) ++ (part ++ xs)) tail
    ∙ append_assoc front x (part ++ drop (length (take m piece)) rest)
    ∙ ap (λ xs. front ++ xs) (sym (append_assoc x part (drop (length (take m piece)) rest)) ∙ ap (λ xs. xs ++ drop (length (take m piece)) rest) joined)
    ∙ sym (ap (spliced off (take m piece)) split ∙ splice-at front rest (take m piece) off front-length)

-- so many bytes, and those behind them up to others
pub take-further : (xs : List ℕ) (k m : ℕ) → k ≤ m → take k xs ++ take (m - k) (drop k xs) ≡ take m xs
take-further xs k m order =
    ap₂ (λ ys zs. ys ++ zs) (sym (take-take k m xs order))
    (sym (drop-take k (m - k) xs) ∙ ap (λ n. drop k (take n xs)) (let e : k + (m - k) ≡ m = omega (arith, order) in e))
    ∙ take-append-drop k (take m xs)
