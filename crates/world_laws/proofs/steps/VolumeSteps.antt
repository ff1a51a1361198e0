-- What a volume keeps that is not mounted stays through each step of the world, and through any steps one after the other.
use Rattle.std.proofs.Common.{◌≡◌, ◌≢◌, ℕ, ◌≤◌, Bool, true, false, not, ◌&&◌, Option, Some, None, List, [], ◌∷◌, length, fold, replicate, slice_index_or, inl, inr, refl, sym, ap, subst, ◌∙◌}
use Rattle.std.proofs.lemmas.List.{set_past}
use Rattle.std.proofs.lemmas.List.Folds.{position_or_len-set}
use Rattle.std.specs.Cmp.Lexicographic.{bytes_decides}
use Rattle.std.specs.List.{list_any}
use Rattle.vfs_base.specs.declared.entry.Mark.{Mark}
use Rattle.vfs_base.specs.declared.entry.Mark.TheVariants as mark
use Rattle.vfs_base.specs.declared.entry.Who.{Who}
use Rattle.vfs_base.specs.declared.errno.Errno.TheVariants as errno
use Rattle.vfs_base.specs.declared.kinds.FsType.TheVariants as fs
use Rattle.vfs_base.specs.declared.reply.Reply.{Reply}
use Rattle.vfs_base.specs.declared.reply.Reply.TheVariants as reply
use Rattle.vfs_base.specs.declared.step.Step.{Step}
use Rattle.vfs_base.specs.declared.step.Step.TheVariants as step
use Rattle.vfs_model.proofs.RefusedSteps.{is_refusal}
use Rattle.vfs_model.proofs.Rests.{changed-namespace}
use Rattle.vfs_model.proofs.WorldLaws.{refused-leaves}
use Rattle.vfs_model.specs.Boxes.{IsConsistent}
use Rattle.vfs_model.specs.Chain.{◌>>◌, refuse◌when◌}
use Rattle.vfs_model.specs.Content.{is_mounted}
use Rattle.vfs_model.specs.FileLife.{no_volume, volume_at, volume_named}
use Rattle.vfs_model.specs.Homes.{cell_bytes, change_row, with_empty_cells}
use Rattle.vfs_model.specs.Namespace.{life_at, same_bytes}
use Rattle.vfs_model.specs.NamespaceOutcome.{answers, settled}
use Rattle.vfs_model.specs.NamespaceStep.{is_shutdown, namespace_step}
use Rattle.vfs_model.specs.UmountSteps.{format_volume, mkfs_step}
use Rattle.vfs_model.specs.World.{namespace_part, session_of, step_on, step_row, world_step}
use Rattle.vfs_model.specs.declared.namespace.Namespace.{Namespace}
use Rattle.vfs_model.specs.declared.namespace.RowChange.{RowChange}
use Rattle.vfs_model.specs.declared.world.WorldState.{WorldState}
use Rattle.world_laws.proofs.lists.Lists.{nor-first, nor-second, set-there}
use Rattle.world_laws.proofs.parts.Emptying.{backed}
use Rattle.world_laws.proofs.parts.Standing.{Nothing, Stands, stands-of}
use Rattle.world_laws.proofs.parts.Untouched.{IsBare, Untouched, other-volume}
use Rattle.world_laws.proofs.steps.MkfsKeeping.{no-life}
use Rattle.world_laws.proofs.steps.VolumeStaying.{step-untouched}
use Rattle.world_laws.proofs.steps.WorldSteps.{step-consistent}
use Rattle.world_laws.specs.Mounted.{KeepsSame, KeptFilesStay, KeptFilesStayLater, asks_volume, is_refused, kept_names, takes_volume}

-- no live file lies on a volume that is not mounted
volume-bare : (n : Namespace) (name : List ℕ) → Stands Nothing n → is_mounted n fs.Cell name ≡ false → IsBare name n n
volume-bare n name s off row cell e = no-life n name s off cell row (backed (volume_named n name) cell (life_at n row) e)

pub keeps-same : (w : WorldState) (name : List ℕ) → is_mounted w.namespace fs.Cell name ≡ false → KeepsSame w w name
keeps-same w name off = record { off = off; names = refl; bytes = λ cell. refl }

-- the changes of rows that leave the volume alone
changed-keeps : (w : WorldState) (name : List ℕ) (next : Namespace) (changes : List RowChange) → Untouched name w.namespace next changes →
    KeepsSame w (fold change_row (record w { namespace = next }) changes) name
changed-keeps w name next changes u =
    let start = record w { namespace = next } in
    let homes = (fold change_row start changes).homes in
    let same = changed-namespace changes start in
    record {
      off = ap (λ n. is_mounted n fs.Cell name) same ∙ u.off;
      names = ap (λ n. kept_names n name) same ∙ ap (λ place. (volume_at next place).kept) (u.place name) ∙ u.kept;
      bytes = λ cell. ap (λ n. cell_bytes homes (volume_named n name) cell) same ∙ ap (λ place. cell_bytes homes place cell) (u.place name) ∙ u.bytes start cell;
    }

-- a volume of another name is formatted
format-keeps : (w : WorldState) (name other : List ℕ) → IsConsistent w → is_mounted w.namespace fs.Cell name ≡ false → other ≢ name →
    KeepsSame w (record w {
      namespace = format_volume w.namespace (volume_named w.namespace other);
      homes = with_empty_cells w.homes (volume_named (format_volume w.namespace (volume_named w.namespace other)) other);
    }) name
format-keeps w name other c off differ =
    subst (λ at. KeepsSame w (record w { namespace = format_volume n place; homes = with_empty_cells w.homes at }) name) (sym (same-place other)) (record {
      off = off;
      names = ap (λ at. (volume_at (format_volume n place) at).kept) (same-place name) ∙ kept;
      bytes = λ cell. ap (λ at. cell_bytes (with_empty_cells w.homes place) at cell) (same-place name) ∙ bytes cell;
    })
  where
    n : Namespace
    n = w.namespace

    place : ℕ
    place = volume_named w.namespace other

    same-place : (word : List ℕ) → volume_named (format_volume w.namespace (volume_named w.namespace other)) word ≡ volume_named w.namespace word
    same-place word = position_or_len-set (λ v. same_bytes v.name word) w.namespace.volumes (volume_named w.namespace other)
        (record (volume_at w.namespace (volume_named w.namespace other)) { spare = replicate (length (volume_at w.namespace (volume_named w.namespace other)).pages) true; kept = [] }) no_volume refl

    kept : (volume_at (format_volume w.namespace (volume_named w.namespace other)) (volume_named w.namespace name)).kept ≡ (volume_at w.namespace (volume_named w.namespace name)).kept
    kept = elim (other-volume w.namespace other name differ) [
      | inl apart ↦ ap (λ v. v.kept) (set-there w.namespace.volumes (volume_named w.namespace other) (volume_named w.namespace name) _ no_volume (λ e. apart (sym e)))
      | inr past ↦ ap (λ all. (slice_index_or all (volume_named w.namespace name) no_volume).kept) (set_past w.namespace.volumes (volume_named w.namespace other) _ past)
    ]

    bytes : (cell : ℕ) → cell_bytes (with_empty_cells w.homes (volume_named w.namespace other)) (volume_named w.namespace name) cell ≡ cell_bytes w.homes (volume_named w.namespace name) cell
    bytes cell = elim (other-volume w.namespace other name differ) [
      | inl apart ↦ ap (λ cells. slice_index_or cells cell []) (set-there w.homes.cells (volume_named w.namespace other) (volume_named w.namespace name) _ [] (λ e. apart (sym e)))
      | inr past ↦ ap (λ all. slice_index_or (slice_index_or all (volume_named w.namespace name) []) cell [])
          (set_past w.homes.cells (volume_named w.namespace other) _ (subst (λ many. many ≤ volume_named w.namespace other) (sym c.homes_fit.volumes) past))
    ]

mkfs-keeps : (w : WorldState) (k : ℕ) (name other : List ℕ) (m : Mark) → IsConsistent w → is_mounted w.namespace fs.Cell name ≡ false → same_bytes other name ≡ false →
    KeepsSame w (namespace_part w (namespace_step w.namespace k (step.Mkfs other) m) (step.Mkfs other)).next name
unfolding namespace_step mkfs_step
mkfs-keeps w k name other (mark.Fault moved) c off apart = keeps-same w name off
mkfs-keeps w k name other (mark.NoMem moved) c off apart = keeps-same w name off
mkfs-keeps w k name other mark.Clear c off apart = by (not (list_any (λ volume. same_bytes volume.name other) w.namespace.volumes)) (is_mounted w.namespace fs.Cell other)
  where
    differ : other ≢ name
    differ e = let yes = (bytes_decides other name).1 e in absurd (cc)

    by : (absent mounted : Bool) → KeepsSame w (namespace_part w (settled w.namespace (refuse errno.ENXIO when absent >> (refuse errno.EBUSY when mounted
        >> answers reply.Done (format_volume w.namespace (volume_named w.namespace other)) []))) (step.Mkfs other)).next name
    by true mounted = keeps-same w name off
    by false true = keeps-same w name off
    by false false = format-keeps w name other c off differ

-- a step of the namespace
part-keeps : (w : WorldState) (k : ℕ) (name : List ℕ) (asked : Step) (m : Mark) → IsConsistent w → is_mounted w.namespace fs.Cell name ≡ false → asks_volume name asked ≡ false →
    KeepsSame w (namespace_part w (namespace_step w.namespace k asked m) asked).next name
part-keeps w k name (step.Mkfs other) m c off free = mkfs-keeps w k name other m c off free
part-keeps w k name asked m c off free =
    changed-keeps w name (namespace_step w.namespace k asked m).next (namespace_step w.namespace k asked m).changes
    (step-untouched name w.namespace off (volume-bare w.namespace name (stands-of w c) off) k asked m refl free)

on-keeps : (w : WorldState) (k : ℕ) (name : List ℕ) (asked : Step) (m : Mark) (found : Option ℕ) → IsConsistent w → is_mounted w.namespace fs.Cell name ≡ false → asks_volume name asked ≡ false →
    KeepsSame w (step_on w k asked m found).next name
on-keeps w k name asked m None c off free = part-keeps w k name asked m c off free
on-keeps w k name asked m (Some row) c off free = record { off = off; names = refl; bytes = λ cell. refl }

step-keeps : (w : WorldState) (asker : Who) (asked : Step) (m : Mark) (name : List ℕ) → IsConsistent w → is_mounted w.namespace fs.Cell name ≡ false → asks_volume name asked ≡ false →
    KeepsSame w (world_step w asker asked m).next name
unfolding world_step
step-keeps w asker asked m name c off free = on-keeps w (session_of asker) name asked m (step_row asked) c off free

-- the end asks for no volume
asks-no-end : (name : List ℕ) (asked : Step) → asks_volume name asked ≡ true → is_shutdown asked ≡ false
asks-no-end name step.Shutdown h = absurd (cc)
asks-no-end name asked h = refl

pub kept-stays : KeptFilesStay
kept-stays w asker asked m name c off = λ free. by (asks_volume name asked) refl (world_step w asker asked m).reply refl free
  where
    by : (asks : Bool) → asks_volume name asked ≡ asks → (answer : Reply) → (world_step w asker asked m).reply ≡ answer → (asks && not (is_refused answer)) ≡ false →
        KeepsSame w (world_step w asker asked m).next name
    by false e answer f free = step-keeps w asker asked m name c off e
    by true e (reply.Refused errno) f free = subst (λ v. KeepsSame w v name) (sym (refused-leaves w asker asked m (asks-no-end name asked e) (ap is_refusal f))) (keeps-same w name off)
    by true e answer f free = absurd (cc)

pub kept-stays-later : KeptFilesStayLater
kept-stays-later [] w name c may off free = keeps-same w name off
kept-stays-later (asked ∷ later) w name c may off free =
    let first = kept-stays w asked.who asked.step asked.mark name c off (nor-first (takes_volume name asked.step (world_step w asked.who asked.step asked.mark).reply) _ free) in
    let rest = kept-stays-later later (world_step w asked.who asked.step asked.mark).next name (step-consistent w asked.who asked.step asked.mark c may.0 may.1 may.2) may.3 first.off
    (nor-second (takes_volume name asked.step (world_step w asked.who asked.step asked.mark).reply) _ free) in
    record { off = rest.off; names = rest.names ∙ first.names; bytes = λ cell. rest.bytes cell ∙ first.bytes cell }
