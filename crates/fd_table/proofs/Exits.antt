-- Open files are given up by their greatest descriptors.
use Rattle.std.proofs.Common.{◌≡◌, ℕ, zero, suc, Bool, true, false, Option, Some, None, List, [], ◌∷◌, option_map, slice_get, slice_index_or, if◌then◌else◌, refl, sym, ap, ◌∙◌, ◌+◌, ◌-◌, ◌<◌, length, drop, arith}
use Rattle.std.specs.List.{filter_map, list_any}
use Rattle.vfs_base.specs.declared.ids.HoldId.{HoldId}
use Rattle.vfs_base.specs.declared.step.Step.{Step}
use Rattle.vfs_base.specs.declared.step.Step.TheVariants.{Close}
use Rattle.vfs_model.specs.OpenFiles.{leads_to}
use Rattle.vfs_model.specs.Session.{close_step, files_to_close}
use Rattle.vfs_model.specs.declared.shell_state.OpenFile.{OpenFile}
use Rattle.vfs_model.specs.declared.shell_state.OpenFiles.{OpenFiles}
use Rattle.fd_table.specs.Exit.{hold_of_first}

-- the steps that give up the open files of these descriptors
abbrev pub exits : OpenFiles → List (Option ℕ) → List Step
exits f descriptors = filter_map (close_step f) (files_to_close descriptors)

-- the first descriptor gives its open file up, or none
abbrev pub first_exit : Option HoldId → List Step → List Step
first_exit None steps = steps
first_exit (Some hold) steps = Close hold ∷ steps

pub exits-first : (f : OpenFiles) (descriptor : Option ℕ) (later : List (Option ℕ)) →
    exits f (descriptor ∷ later) ≡ first_exit (hold_of_first f.files (descriptor ∷ later)) (exits f later)
exits-first f None later = refl
exits-first f (Some number) later = by (list_any (leads_to number) later) (slice_index_or f.files number None) refl
  where
    by : (led : Bool) (file : Option OpenFile) → slice_index_or f.files number None ≡ file →
        filter_map (close_step f) (if led then files_to_close later else number ∷ files_to_close later)
        ≡ first_exit (if led then None else option_map (λ file. file.hold) (slice_index_or f.files number None)) (exits f later)
    by true file e = refl
    by false None e = grind (arith, e)
    by false (Some file) e = grind (arith, e)

pub exits-next : (f : OpenFiles) (descriptors : List (Option ℕ)) (at : ℕ) → at < length descriptors →
    exits f (drop at descriptors) ≡ first_exit (hold_of_first f.files (drop at descriptors)) (exits f (drop (at + 1) descriptors))
exits-next f [] at l = absurd (omega arith)
exits-next f (d ∷ descriptors) zero l = exits-first f d descriptors
exits-next f (d ∷ descriptors) (suc at) l =
    let next : suc at + 1 ≡ suc (at + 1) = omega arith in
    exits-next f descriptors at (omega arith)
    ∙ sym (ap (λ k. first_exit (hold_of_first f.files (drop at descriptors)) (exits f (drop k (d ∷ descriptors)))) next)

-- the descriptor gives nothing up
pub exits-skipped : (f : OpenFiles) (descriptors : List (Option ℕ)) (at left : ℕ) → at < length descriptors →
    hold_of_first f.files (drop at descriptors) ≡ None →
    slice_get (exits f (drop (at + 1) descriptors)) left ≡ slice_get (exits f (drop at descriptors)) left
exits-skipped f descriptors at left l is =
    sym (ap (λ steps. slice_get steps left) (exits-next f descriptors at l ∙ ap (λ hold. first_exit hold (exits f (drop (at + 1) descriptors))) is))

-- the descriptor gives its open file up
pub exits-taken : (f : OpenFiles) (descriptors : List (Option ℕ)) (at left : ℕ) (hold : HoldId) → at < length descriptors →
    hold_of_first f.files (drop at descriptors) ≡ Some hold →
    exits f (drop at descriptors) ≡ Close hold ∷ exits f (drop (at + 1) descriptors)
exits-taken f descriptors at left hold l is =
    exits-next f descriptors at l ∙ ap (λ hold. first_exit hold (exits f (drop (at + 1) descriptors))) is

pub exits-passed : (f : OpenFiles) (descriptors : List (Option ℕ)) (at left : ℕ) (hold : HoldId) → at < length descriptors →
    hold_of_first f.files (drop at descriptors) ≡ Some hold → 0 < left →
    slice_get (exits f (drop (at + 1) descriptors)) (left - 1) ≡ slice_get (exits f (drop at descriptors)) left
exits-passed f descriptors at zero hold l is more = absurd (omega arith)
exits-passed f descriptors at (suc left) hold l is more =
    let back : suc left - 1 ≡ left = omega arith in
    ap (λ k. slice_get (exits f (drop (at + 1) descriptors)) k) back
    ∙ sym (ap (λ steps. slice_get steps (suc left)) (exits-taken f descriptors at left hold l is))
