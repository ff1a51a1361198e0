-- A file's bytes among those of its cell: zeros behind its end, before and after a change.
use Rattle.std.specs.Prelude.{◌≡◌, ◌≢◌, ℕ, zero, suc, ◌+◌, ◌-◌, ◌≤◌, max, List, [], ◌∷◌, ◌++◌, length, take, drop, replicate, refl}
use Rattle.std.proofs.Common.{sym, ◌∙◌, ap, arith, inl, inr}
use Rattle.std.proofs.lemmas.Bool.{cases_lt}
use Rattle.std.proofs.lemmas.List.{drop-drop, drop-take, drop_all, length-append, length-replicate, length-take, length-take-le, take-append-drop, take-append-le}
use Rattle.vfs_base.specs.declared.limits.TheConstants.{PAGE_SIZE}
use Rattle.vfs_model.specs.FileStep.{cut_or_padded, written_at}
use Rattle.page_cache.specs.Resident.{spliced}
use Rattle.cell_file.proofs.Flat.{drop-over, take-over}

abbrev pub zeros : ℕ → List ℕ
zeros n = replicate n 0

pub take-zeros : (n m : ℕ) → n ≤ m → take n (zeros m) ≡ zeros n
take-zeros zero m low = refl
take-zeros (suc n) zero low = absurd (omega (arith, low))
take-zeros (suc n) (suc m) low = ap (λ xs. 0 ∷ xs) (take-zeros n m (omega (arith, low)))

-- so many zeros of a page
pub some_zeros : (n : ℕ) → n ≤ PAGE_SIZE → take n (replicate PAGE_SIZE 0) ≡ zeros n
some_zeros n low = take-zeros n PAGE_SIZE low

pub drop-zeros : (n m : ℕ) → drop n (zeros m) ≡ zeros (m - n)
drop-zeros n m = elim (cases_lt n m) [
  | inl low ↦ by n m (m - n) (omega (arith, low))
  | inr high ↦
      let size : length (zeros m) ≡ m = length-replicate m 0 in
      let none : m - n ≡ 0 = omega (arith, high) in
      drop_all n (zeros m) (omega (arith, size, high)) ∙ ap zeros (sym none)
]
  where
    by : (n m k : ℕ) → m ≡ n + k → drop n (zeros m) ≡ zeros k
    by zero m k e = ap zeros (let f : m ≡ k = omega (arith, e) in f)
    by (suc n) zero k e = absurd (omega (arith, e))
    by (suc n) (suc m) k e = by n m k (omega (arith, e))

-- the bytes of the cell up to a place are those of the file, padded with zeros or cut
pub cut-or-padded : (bytes : List ℕ) (size len : ℕ) → size ≤ length bytes → len ≤ length bytes → drop size bytes ≡ replicate (length bytes - size) 0 →
    take len bytes ≡ cut_or_padded len (take size bytes)
cut-or-padded bytes size len inside low tail-zeros =
    let front : List ℕ = take size bytes in
    let front-size : length front ≡ size = length-take-le size bytes inside in
    let whole : bytes ≡ front ++ replicate (length bytes - size) 0 = sym (take-append-drop size bytes) ∙ ap (λ xs. front ++ xs) tail-zeros in
    ap (take len) whole ∙ elim (cases_lt size len) [
      | inl long ↦
          let more : ℕ = len - size in
          let pad : len - length front ≡ more = omega (arith, front-size) in
          take-over front (replicate (length bytes - size) 0) more len (omega (arith, front-size, long))
          ∙ ap (λ xs. front ++ xs) (take-zeros more (length bytes - size) (omega (arith, low)))
          ∙ sym (ap (λ n. take len (front ++ replicate n 0)) pad
          ∙ take-over front (replicate more 0) more len (omega (arith, front-size, long))
          ∙ ap (λ xs. front ++ xs) (take-zeros more more (omega arith)))
      | inr short ↦
          take-append-le len front (replicate (length bytes - size) 0) (omega (arith, front-size, short))
          ∙ sym (take-append-le len front (replicate (len - length front) 0) (omega (arith, front-size, short)))
    ]

-- zeros behind the end of a file that ends later
pub zeros-further : (bytes : List ℕ) (size end : ℕ) → size ≤ end → drop size bytes ≡ replicate (length bytes - size) 0 → drop end bytes ≡ replicate (length bytes - end) 0
zeros-further bytes size end order tail-zeros =
    ap (λ n. drop n bytes) (let e : end ≡ size + (end - size) = omega (arith, order) in e) ∙ sym (drop-drop (end - size) size bytes)
    ∙ ap (drop (end - size)) tail-zeros ∙ drop-zeros (end - size) (length bytes - size)
    ∙ ap (λ n. replicate n 0) (let e : length bytes - size - (end - size) ≡ length bytes - end = omega (arith, order) in e)

-- the bytes behind a piece
behind-piece : (bytes piece : List ℕ) (off end : ℕ) → off ≤ length bytes → off + length piece ≤ end → drop end (spliced off piece bytes) ≡ drop end bytes
behind-piece bytes piece off end inside order =
    let n : ℕ = off + length piece in
    let front : List ℕ = take off bytes ++ piece in
    let size : length front ≡ n = (let l = length-append (take off bytes) piece in let f = length-take-le off bytes inside in omega (arith, l, f)) in
    drop-over front (drop n bytes) (end - n) end (omega (arith, size, order))
    ∙ drop-drop (end - n) n bytes ∙ ap (λ k. drop k bytes) (let e : n + (end - n) ≡ end = omega (arith, order) in e)

-- a piece that is put among the cell's bytes is written in the file
pub piece-written : (bytes piece : List ℕ) (off size : ℕ) → size ≤ length bytes → off + length piece ≤ length bytes → piece ≢ [] → drop size bytes ≡ replicate (length bytes - size) 0 →
    take (max size (off + length piece)) (spliced off piece bytes) ≡ written_at off piece (take size bytes)
piece-written bytes [] off size inside fits some tail-zeros = absurd (some refl)
piece-written bytes (x ∷ xs) off size inside fits some tail-zeros =
    let piece : List ℕ = x ∷ xs in
    let n : ℕ = off + length piece in
    let end : ℕ = max size n in
    let front : List ℕ = take off bytes ++ piece in
    let front-size : length front ≡ n = (let l = length-append (take off bytes) piece in let f = length-take-le off bytes (omega (arith, fits)) in omega (arith, l, f)) in
    take-over front (drop n bytes) (end - n) end (omega (arith, front-size))
    ∙ ap (λ ys. front ++ ys) (sym (drop-take n (end - n) bytes) ∙ ap (λ k. drop n (take k bytes)) (let e : n + (end - n) ≡ end = omega arith in e) ∙ tail)
    ∙ ap (λ ys. (ys ++ piece) ++ drop n (take size bytes)) (cut-or-padded bytes size off inside (omega (arith, fits)) tail-zeros)
  where
    tail : drop (off + length (x ∷ xs)) (take (max size (off + length (x ∷ xs))) bytes) ≡ drop (off + length (x ∷ xs)) (take size bytes)
    tail =
        let n : ℕ = off + length (x ∷ xs) in
        elim (cases_lt size n) [
          | inl short ↦
              let long = length-take (max size n) bytes in let few = length-take size bytes in
              drop_all n (take (max size n) bytes) (omega (arith, long, short)) ∙ sym (drop_all n (take size bytes) (omega (arith, few, short)))
          | inr long ↦ ap (λ k. drop n (take k bytes)) (let e : max size n ≡ size = omega (arith, long) in e)
        ]

-- and behind the file's end there are zeros
pub zeros-behind : (bytes piece : List ℕ) (off size end : ℕ) → size ≤ end → off + length piece ≤ end → off ≤ length bytes → length (spliced off piece bytes) ≡ length bytes →
    drop size bytes ≡ replicate (length bytes - size) 0 → drop end (spliced off piece bytes) ≡ replicate (length (spliced off piece bytes) - end) 0
zeros-behind bytes piece off size end later order inside same tail-zeros =
    behind-piece bytes piece off end inside order ∙ zeros-further bytes size end later tail-zeros ∙ ap (λ n. replicate (n - end) 0) (sym same)
