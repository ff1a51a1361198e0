-- A step that answers with a list or with bytes leaves the world as it was.
use Rattle.std.proofs.Common.{◌≡◌, ◌⊎◌, inl, inr, ℕ, false, Option, Some, None, fold, refl, ap, ◌∙◌}
use Rattle.vfs_base.specs.Flat.{IsFlat}
use Rattle.vfs_base.specs.declared.entry.Mark.{Mark}
use Rattle.vfs_base.specs.declared.entry.Who.{Who}
use Rattle.vfs_base.specs.declared.reply.Reply.{Reply}
use Rattle.vfs_base.specs.declared.reply.Reply.TheVariants as reply
use Rattle.vfs_base.specs.declared.step.Step.{Step}
use Rattle.vfs_base.specs.declared.step.Step.TheVariants as step
use Rattle.vfs_model.specs.FileMoves.{file_step}
use Rattle.vfs_model.specs.FileStep.{FileOutcome}
use Rattle.vfs_model.specs.Homes.{change_row, file_at}
use Rattle.vfs_model.specs.NamespaceOutcome.{NamespaceOutcome}
use Rattle.vfs_model.specs.NamespaceStep.{namespace_step}
use Rattle.vfs_model.specs.RowChange.{Untouched, is_chdir, reads_device}
use Rattle.vfs_model.specs.World.{WorldOutcome, after_format, file_part, namespace_part, session_of, step_on, step_row, world_step}
use Rattle.vfs_model.specs.declared.namespace.Namespace.{Namespace}
use Rattle.vfs_model.specs.declared.world.WorldState.{WorldState}
use Rattle.vfs_model.proofs.FlatReplies.{file_step-flat, tells-or-changes}
use Rattle.vfs_model.proofs.WorldLaws.{same_file}

-- the reply is flat, or the world stays
abbrev WorldFlatOr : WorldState → WorldOutcome → Type 0
WorldFlatOr w outcome = IsFlat outcome.reply ⊎ (outcome.next ≡ w)

format-stays : (v : WorldState) (asked : Step) (answer : Reply) → IsFlat answer ⊎ (after_format v asked answer ≡ v)
format-stays v (step.Mkfs name) reply.Done = inl tt
format-stays v (step.Mkfs name) _ = inr refl
format-stays v _ answer = inr refl

part-stays : (w : WorldState) (outcome : NamespaceOutcome) (asked : Step) → Untouched w.namespace outcome → WorldFlatOr w (namespace_part w outcome asked)
part-stays w outcome asked same =
    let v : WorldState = fold change_row (record w { namespace = outcome.next }) outcome.changes in
    let back : v ≡ w =
    ap (λ changes. fold change_row (record w { namespace = outcome.next }) changes) same.changes
    ∙ ap (λ (n : Namespace). record w { namespace = n }) same.next in
    elim (format-stays v asked outcome.reply) [
      | inl flat ↦ inl flat
      | inr e ↦ inr (e ∙ back)
    ]

part-flat : (w : WorldState) (outcome : NamespaceOutcome) (asked : Step) → IsFlat outcome.reply ⊎ Untouched w.namespace outcome →
    WorldFlatOr w (namespace_part w outcome asked)
part-flat w outcome asked (inl flat) = inl flat
part-flat w outcome asked (inr same) = part-stays w outcome asked same

file-flat : (w : WorldState) (row : ℕ) (outcome : FileOutcome) → IsFlat outcome.reply ⊎ (outcome.next ≡ file_at w row) →
    WorldFlatOr w (file_part w row outcome)
file-flat w row outcome (inl flat) = inl flat
file-flat w row outcome (inr same) = inr (same_file w row outcome.next same)

on-flat : (w : WorldState) (k : ℕ) (asked : Step) (m : Mark) (row : Option ℕ) → is_chdir asked ≡ false → reads_device w asked row ≡ false →
    WorldFlatOr w (step_on w k asked m row)
on-flat w k asked m None c d =
    part-flat w (namespace_step w.namespace k asked m) asked ((tells-or-changes w.namespace k asked m).all c)
on-flat w k asked m (Some row) c d = file-flat w row (file_step (file_at w row) asked m) (file_step-flat (file_at w row) asked m d)

pub world-flat : (w : WorldState) (asker : Who) (asked : Step) (m : Mark) → is_chdir asked ≡ false → reads_device w asked (step_row asked) ≡ false →
    WorldFlatOr w (world_step w asker asked m)
unfolding world_step
world-flat w asker asked m c d = on-flat w (session_of asker) asked m (step_row asked) c d
