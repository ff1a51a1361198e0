-- All references and working directories, each session's own part of them.
use Rattle.std.proofs.Common.{◌≡◌, inl, inr, ℕ, zero, suc, ◌+◌, ◌-◌, ◌*◌, ◌<◌, ◌≤◌, Bool, true, ◌&&◌, Option, Some, None, is_none, List, [], ◌∷◌, length, drop, slice_index_or, refl, sym, ap, ◌∙◌, arith}
use Rattle.std.proofs.lemmas.Bool.{and_parts}
use Rattle.std.proofs.lemmas.List.{get_or-drop, get_or-take}
use Rattle.std.specs.List.{list_all}
use Rattle.vfs_base.specs.Path.{Path}
use Rattle.vfs_model.proofs.HeldReferences.{file_kept, held-at}
use Rattle.vfs_model.specs.Asking.{is_at_rest}
use Rattle.vfs_model.specs.ExitLaws.{HasLeft}
use Rattle.vfs_model.specs.HeldFiles.{IsEmpty, own_by}
use Rattle.vfs_model.specs.Namespace.{references_of, same_path}
use Rattle.vfs_model.specs.declared.namespace.Namespace.{Namespace}
use Rattle.vfs_model.specs.declared.namespace.Reference.{Reference}
use Rattle.world_laws.proofs.lists.Lists.{below-or-past}

none-kept : (found : Option Reference) → file_kept found ≡ None → found ≡ None
none-kept None e = refl
none-kept (Some reference) e = absurd (cc)

-- a place of a session's part of the references
part-place : (n : Namespace) (k place : ℕ) → 0 < k → place < 32 → slice_index_or (references_of n k) place None ≡ slice_index_or n.references (32 * (k - 1) + place) None
part-place n k place above small =
    get_or-take (32 * k - 32 * (k - 1)) (drop (32 * (k - 1)) n.references) place None (omega (arith, above, small))
    ∙ get_or-drop (32 * (k - 1)) n.references place None

-- a session that has nothing has left
pub empty-left : (n : Namespace) (k : ℕ) (whole : Bool) → 0 < k → IsEmpty (own_by whole n k) → HasLeft n k
empty-left n k whole above empty = record {
  references = λ number l u.
      sym (part-place n k (number - 1) above (omega (arith, l, u)))
      ∙ none-kept (slice_index_or (references_of n k) (number - 1) None) (sym (held-at (references_of n k) (number - 1)) ∙ empty.files (number - 1));
  folder = empty.folder;
}

-- lists of which each place is empty

all-none : (references : List (Option Reference)) → ((place : ℕ) → place < length references → slice_index_or references place None ≡ None) → list_all is_none references ≡ true
all-none [] h = refl
all-none (reference ∷ references) h =
    ap (λ found. is_none found && list_all is_none references) (h 0 (omega arith))
    ∙ all-none references (λ place l. h (suc place) (omega (arith, l)))

all-root : (folders : List Path) → ((place : ℕ) → place < length folders → slice_index_or folders place [] ≡ []) → list_all (same_path []) folders ≡ true
all-root [] h = refl
all-root (folder ∷ folders) h =
    ap (λ found. same_path [] found && list_all (same_path []) folders) (h 0 (omega arith))
    ∙ all-root folders (λ place l. h (suc place) (omega (arith, l)))

none-at : (references : List (Option Reference)) (place : ℕ) → list_all is_none references ≡ true → slice_index_or references place None ≡ None
none-at [] place h = refl
none-at (None ∷ references) zero h = refl
none-at (None ∷ references) (suc place) h = none-at references place h
none-at (Some reference ∷ references) place h = absurd (cc)

root-at : (folders : List Path) (place : ℕ) → list_all (same_path []) folders ≡ true → slice_index_or folders place [] ≡ []
root-at [] place h = refl
root-at ([] ∷ folders) zero h = refl
root-at ([] ∷ folders) (suc place) h = root-at folders place h
root-at ((name ∷ names) ∷ folders) place h = absurd (cc)

-- where all is at rest each session has left
pub rest-left : (n : Namespace) (k : ℕ) → is_at_rest n ≡ true → HasLeft n k
rest-left n k rest =
    let parts = and_parts (list_all is_none n.references) (list_all (same_path []) n.working_directories) rest in
    record {
      references = λ number l u. none-at n.references (32 * (k - 1) + (number - 1)) parts.0;
      folder = root-at n.working_directories (k - 1) parts.1;
    }

-- the session of a reference's place
record IsPlaced (place : ℕ) (sessions : ℕ) : Type 0 where
  session : ℕ
  above : 0 < session
  within : session ≤ sessions
  from : 32 * (session - 1) ≤ place
  before : place < 32 * session

placed : (place sessions : ℕ) → place < 32 * sessions → IsPlaced place sessions
placed place zero l = absurd (omega (arith, l))
placed place (suc sessions) l = elim (below-or-past place (32 * sessions)) [
  | inl h ↦
      let is = placed place sessions h in
      record { session = is.session; above = is.above; within = let w = is.within in omega (arith, w); from = is.from; before = is.before }
  | inr h ↦ record { session = suc sessions; above = omega arith; within = omega arith; from = omega (arith, h); before = l }
]

-- where each session has left all is at rest
pub left-rest : (n : Namespace) → length n.references ≡ 256 → length n.working_directories ≡ 8 → ((k : ℕ) → 0 < k → k ≤ 8 → HasLeft n k) → is_at_rest n ≡ true
left-rest n whole folders left =
    ap (λ b. b && list_all (same_path []) n.working_directories) (all-none n.references (λ place l. none-there place l))
    ∙ all-root n.working_directories (λ place l. root-there place l)
  where
    none-there : (place : ℕ) → place < length n.references → slice_index_or n.references place None ≡ None
    none-there place l =
        let is = placed place 8 (omega (arith, l, whole)) in
        let a = is.above in
        let f = is.from in
        let b = is.before in
        let number : ℕ = place - 32 * (is.session - 1) + 1 in
        let at : place ≡ 32 * (is.session - 1) + (number - 1) = omega (arith, f) in
        ap (λ p. slice_index_or n.references p None) at ∙ (left is.session a is.within).references number (omega arith) (omega (arith, a, f, b))

    root-there : (place : ℕ) → place < length n.working_directories → slice_index_or n.working_directories place [] ≡ []
    root-there place l =
        ap (λ p. slice_index_or n.working_directories p []) (let at : place ≡ suc place - 1 = omega arith in at)
        ∙ (left (suc place) (omega arith) (omega (arith, l, folders))).folder
