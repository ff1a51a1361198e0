-- Every step, and every list of steps, keeps the world consistent.
use Rattle.std.proofs.Common.{◌≡◌, ℕ, zero, suc, ◌*◌, ◌≤◌, Bool, true, false, not, ◌||◌, Option, Some, None, is_some, List, [], ◌∷◌, fold, length, map, slice_index_or, inl, inr, refl, sym, ap, subst, ◌∙◌, arith}
use Rattle.std.specs.List.{list_any}
use Rattle.vfs_base.specs.declared.entry.Mark.{Mark}
use Rattle.vfs_base.specs.declared.entry.Mark.TheVariants as mark
use Rattle.vfs_base.specs.declared.entry.Who.{Who}
use Rattle.vfs_base.specs.declared.entry.Who.TheVariants as who
use Rattle.vfs_base.specs.declared.errno.Errno.TheVariants as errno
use Rattle.vfs_base.specs.declared.kinds.FsType.TheVariants as fs
use Rattle.vfs_base.specs.declared.limits.TheConstants.{PAGE_SIZE}
use Rattle.vfs_base.specs.declared.reply.Reply.TheVariants as reply
use Rattle.vfs_base.specs.declared.step.Step.{Step}
use Rattle.vfs_base.specs.declared.step.Step.TheVariants as step
use Rattle.vfs_model.proofs.Rests.{changed-namespace}
use Rattle.vfs_model.specs.Asking.{Asked, MayAsk, may_ask, run_steps}
use Rattle.vfs_model.specs.Boxes.{BoxesPlaced, IsConsistent}
use Rattle.vfs_model.specs.Chain.{◌>>◌, refuse◌when◌}
use Rattle.vfs_model.specs.Consistency.{agrees}
use Rattle.vfs_model.specs.Content.{is_mounted}
use Rattle.vfs_model.specs.FileLife.{backing_of, volume_named}
use Rattle.vfs_model.specs.Homes.{cell_bytes, cell_capacity, change_row, file_at, with_empty_cells}
use Rattle.vfs_model.specs.Namespace.{generation_at, life_at, same_bytes}
use Rattle.vfs_model.specs.NamespaceOutcome.{answers, settled}
use Rattle.vfs_model.specs.NamespaceStep.{is_shutdown, namespace_step}
use Rattle.vfs_model.specs.StepForms.{MayTake}
use Rattle.vfs_model.specs.UmountSteps.{format_volume, mkfs_step}
use Rattle.vfs_model.specs.World.{FitsStep, fits_on, fits_step, namespace_part, session_of, step_on, step_row, world_step}
use Rattle.vfs_model.specs.declared.namespace.Backing.TheVariants as backing
use Rattle.vfs_model.specs.declared.namespace.Namespace.{Namespace}
use Rattle.vfs_model.specs.declared.namespace.RowChange.{RowChange}
use Rattle.vfs_model.specs.declared.world.Homes.{Homes}
use Rattle.vfs_model.specs.declared.world.WorldState.{WorldState}
use Rattle.world_laws.proofs.parts.AtHome.{AtHome}
use Rattle.world_laws.proofs.parts.HomesKeeping.{agrees-of, at-home-of, home-formatted, homes-fit-of}
use Rattle.world_laws.proofs.steps.Keeping.{Keeps}
use Rattle.world_laws.proofs.lists.Lists.{or-second, true-or-false}
use Rattle.world_laws.proofs.steps.MkfsKeeping.{format-named, format-pages, format-stands}
use Rattle.world_laws.proofs.lists.Passing.{and-first}
use Rattle.world_laws.proofs.parts.Standing.{Nothing, Stands, consistent-of, stands-of}
use Rattle.world_laws.proofs.steps.StepKeeping.{Takes, namespace-kept}
use Rattle.world_laws.proofs.parts.Taking.{set-at}
use Rattle.world_laws.proofs.steps.WorldKeeping.{file-consistent}
use Rattle.world_laws.specs.Keeping.{HasNumber, MayRun}

-- what a step keeps, and the changes of rows, leave the world consistent
pub changed-consistent : (w : WorldState) (next : Namespace) (changes : List RowChange) → IsConsistent w → Keeps w.namespace next changes → IsConsistent (fold change_row (record w { namespace = next }) changes)
changed-consistent w next changes c kept =
    let before = agrees-of w next c kept.pages in
    let after = kept.files (record w { namespace = next }) before in
    let same = changed-namespace changes (record w { namespace = next }) in
    let out = fold change_row (record w { namespace = next }) changes in
    consistent-of out (subst (Stands Nothing) (sym same) kept.stands)
    (λ row. subst (λ n. agrees (life_at n row) (generation_at n row) (file_at out row) ≡ true) (sym same) (after.files.agree row))
    (record {
      live = λ row volume cell h. after.files.live row volume cell (subst (λ n. backing_of (life_at n row) ≡ backing.Cell volume cell) same h);
      home = after.files.home;
    })
    (homes-fit-of out (subst BoxesPlaced (sym same) kept.stands.boxes) (subst (AtHome out.homes) (sym same) after.homes))
    after.files.files

abbrev blank : List (List ℕ) → List (List ℕ)
blank cells = map (λ bytes. []) cells

abbrev bytes_in : List (List ℕ) → ℕ → List ℕ
bytes_in cells cell = slice_index_or cells cell []

blank-cell : (cells : List (List ℕ)) (place : ℕ) → length (bytes_in (blank cells) place) ≡ 0
blank-cell [] place = refl
blank-cell (bytes ∷ cells) zero = refl
blank-cell (bytes ∷ cells) (suc place) = blank-cell cells place

emptied-cell : (homes : Homes) (volume u cell : ℕ) → length (cell_bytes (with_empty_cells homes volume) u cell) ≤ length (cell_bytes homes u cell)
emptied-cell homes volume u cell =
    set-at (λ cells. length (bytes_in cells cell) ≤ length (cell_bytes homes u cell)) homes.cells volume u (blank (slice_index_or homes.cells volume [])) []
    (λ e. let none = blank-cell (slice_index_or homes.cells volume []) cell in omega (arith, none)) (omega arith)

-- a volume is formatted
formatted-consistent : (w : WorldState) (name : List ℕ) → IsConsistent w → is_mounted w.namespace fs.Cell name ≡ false →
    IsConsistent (record w { namespace = format_volume w.namespace (volume_named w.namespace name); homes = with_empty_cells w.homes (volume_named w.namespace name) })
formatted-consistent w name c off =
    let n = w.namespace in
    let place = volume_named n name in
    let s = stands-of w c in
    let stands = format-stands n name s off in
    let out : WorldState = record w { namespace = format_volume n place; homes = with_empty_cells w.homes place } in
    let pages : (volume cell : ℕ) → cell_capacity out.namespace volume cell ≡ cell_capacity n volume cell =
    λ volume cell. ap (λ found. PAGE_SIZE * slice_index_or found cell 0) (format-pages n name s off volume) in
    consistent-of out stands c.rows_agree
    (record {
      live = λ row volume cell h. let l = c.cells_fit.live row volume cell h in let e = pages volume cell in omega (arith, l, e);
      home = λ volume cell.
          let l = c.cells_fit.home volume cell in let m = emptied-cell w.homes place volume cell in let e = pages volume cell in omega (arith, l, m, e);
    })
    (homes-fit-of out stands.boxes (home-formatted w.homes n place (at-home-of w c))) c.sizes.files

mkfs-consistent : (w : WorldState) (k : ℕ) (name : List ℕ) (m : Mark) → IsConsistent w → IsConsistent (namespace_part w (namespace_step w.namespace k (step.Mkfs name) m) (step.Mkfs name)).next
unfolding namespace_step mkfs_step
mkfs-consistent w k name (mark.Fault moved) c = c
mkfs-consistent w k name (mark.NoMem moved) c = c
mkfs-consistent w k name mark.Clear c = by (not (list_any (λ volume. same_bytes volume.name name) w.namespace.volumes)) (is_mounted w.namespace fs.Cell name) refl
  where
    by : (absent mounted : Bool) → is_mounted w.namespace fs.Cell name ≡ mounted →
        IsConsistent (namespace_part w (settled w.namespace (refuse errno.ENXIO when absent >> (refuse errno.EBUSY when mounted
        >> answers reply.Done (format_volume w.namespace (volume_named w.namespace name)) []))) (step.Mkfs name)).next
    by true mounted e = c
    by false true e = c
    by false false e =
        subst (λ place. IsConsistent (record w { namespace = format_volume w.namespace (volume_named w.namespace name); homes = with_empty_cells w.homes place }))
        (sym (format-named w.namespace name (stands-of w c) e name)) (formatted-consistent w name c e)

-- a step of the namespace
part-consistent : (w : WorldState) (k : ℕ) (asked : Step) (m : Mark) → IsConsistent w → Takes k asked → IsConsistent (namespace_part w (namespace_step w.namespace k asked m) asked).next
part-consistent w k (step.Mkfs name) m c may = mkfs-consistent w k name m c
part-consistent w k asked m c may =
    changed-consistent w (namespace_step w.namespace k asked m).next (namespace_step w.namespace k asked m).changes c (namespace-kept w.namespace k asked m may refl (stands-of w c))

-- whoever may ask a step may take it
pub asked-taken : (w : WorldState) (asker : Who) (asked : Step) → MayAsk w asker asked → MayTake asker asked
unfolding may_ask
asked-taken w (who.Session k) asked may = tt
asked-taken w (who.Flush row) (step.Flush other) may = refl
asked-taken w (who.Flush row) asked may = absurd (cc)
asked-taken w (who.Reclaim row) (step.Reclaim other) may = refl
asked-taken w (who.Reclaim row) asked may = absurd (cc)
asked-taken w who.End asked may = or-second (is_some (step_row asked)) (is_shutdown asked) (and-first (is_shutdown asked) _ may)

-- who may take a step of no file
takes : (asker : Who) (asked : Step) → HasNumber asker → MayTake asker asked → step_row asked ≡ None → Takes (session_of asker) asked
takes (who.Session k) asked numbered may none = elim (true-or-false (is_shutdown asked)) [ inl e ↦ inr e | inr e ↦ inl (numbered, e) ]
takes (who.Flush row) asked numbered may none = inr (sym (ap (λ found. is_some found || is_shutdown asked) none) ∙ may)
takes (who.Reclaim row) asked numbered may none = inr (sym (ap (λ found. is_some found || is_shutdown asked) none) ∙ may)
takes who.End asked numbered may none = inr (sym (ap (λ found. is_some found || is_shutdown asked) none) ∙ may)

on-consistent : (w : WorldState) (k : ℕ) (asked : Step) (m : Mark) (found : Option ℕ) → IsConsistent w → fits_on w k asked m found ≡ true → (found ≡ None → Takes k asked) → IsConsistent (step_on w k asked m found).next
on-consistent w k asked m None c fits may = part-consistent w k asked m c (may refl)
on-consistent w k asked m (Some row) c fits may = file-consistent w row asked m c fits

pub step-consistent : (w : WorldState) (asker : Who) (asked : Step) (m : Mark) → IsConsistent w → HasNumber asker → MayTake asker asked → FitsStep w asker asked m → IsConsistent (world_step w asker asked m).next
unfolding world_step fits_step
step-consistent w asker asked m c numbered may fits = on-consistent w (session_of asker) asked m (step_row asked) c fits (takes asker asked numbered may)

pub run-consistent : (run : List Asked) (w : WorldState) → IsConsistent w → MayRun w run → IsConsistent (run_steps w run).next
run-consistent [] w c may = c
run-consistent (asked ∷ later) w c may =
    run-consistent later (world_step w asked.who asked.step asked.mark).next (step-consistent w asked.who asked.step asked.mark c may.0 may.1 may.2) may.3
