-- A step that its row does not refuse.
use Rattle.std.specs.Prelude.{◌≡◌, ℕ, ◌==◌, Bool, true, false, ◌&&◌, ◌||◌, nat_lt, Ok, refl, if◌then◌else◌}
use Rattle.std.proofs.Common.{sym, ◌∙◌, subst}
use Rattle.vfs_base.specs.declared.entry.Mark.{Mark}
use Rattle.vfs_base.specs.declared.entry.Mark.TheVariants as mark
use Rattle.vfs_base.specs.declared.errno.Errno.TheVariants as errno
use Rattle.vfs_base.specs.declared.reply.Reply.{Reply}
use Rattle.vfs_base.specs.declared.step.Step.{Step}
use Rattle.vfs_model.specs.FileMoves.{file_step, fits_file, is_on_device, move}
use Rattle.vfs_model.specs.FileStep.{FileOutcome, count_of, file_refusals, moved_count, refused_file}
use Rattle.vfs_model.specs.RowShape.{shape_of, shape_refusals}
use Rattle.vfs_model.specs.declared.world.FileState.{FileState}
use Rattle.vfs_model.specs.declared.world.FileState.TheVariants as file
use Rattle.cell_file.specs.CellFile.{moved_under}
use Rattle.file_row.specs.Passed.{Takes, answer_under, left_under, may_stop, passed_step}
use Rattle.file_row.specs.Row.{RowFile}
use Rattle.file_row.specs.Steps.{MayHave}

-- no byte decides what is refused
pub refused-by-shape : (f : FileState) (asked : Step) → file_refusals f asked ≡ shape_refusals (shape_of f) asked
unfolding file_refusals
refused-by-shape (file.Unbound generation) asked = refl
refused-by-shape (file.Bytes generation kind capacity bytes) asked = refl
refused-by-shape (file.Device generation input output) asked = refl

and-true : (t : Bool) → t && true ≡ t
and-true true = refl
and-true false = refl

-- the mark fits
pub passed-fits : (f : FileState) (asked : Step) (m : Mark) → file_refusals f asked ≡ Ok tt → fits_file f asked m ≡ may_stop f asked m
unfolding fits_file moved_count
passed-fits f asked mark.Clear passed = refl
passed-fits f asked (mark.Fault moved) passed = rw passed (and-true ((moved == 0 || nat_lt moved (count_of f asked)) && is_on_device f))
passed-fits f asked (mark.NoMem moved) passed = rw passed refl

-- the step is done
pub passed-whole : (f : FileState) (asked : Step) (m : Mark) → file_refusals f asked ≡ Ok tt → file_step f asked m ≡ passed_step f asked m
unfolding file_step moved_count
passed-whole f asked mark.Clear passed = rw passed (rw passed refl)
passed-whole f asked (mark.Fault moved) passed = refl
passed-whole f asked (mark.NoMem moved) passed = refl

either-reply : (t : Bool) (a b : FileOutcome) → (if t then a else b).reply ≡ (if t then a.reply else b.reply)
either-reply true a b = refl
either-reply false a b = refl

either-next : (t : Bool) (a b : FileOutcome) → (if t then a else b).next ≡ (if t then a.next else b.next)
either-next true a b = refl
either-next false a b = refl

passed-reply : (f : FileState) (asked : Step) (m : Mark) → (passed_step f asked m).reply ≡ answer_under m (move f asked (moved_under m (count_of f asked))).reply
passed-reply f asked mark.Clear = refl
passed-reply f asked (mark.Fault moved) = either-reply (moved == 0) (refused_file f errno.EIO) (move f asked moved)
passed-reply f asked (mark.NoMem moved) = either-reply (moved == 0) (refused_file f errno.ENOMEM) (move f asked moved)

passed-next : (f : FileState) (asked : Step) (m : Mark) → (passed_step f asked m).next ≡ left_under m f (move f asked (moved_under m (count_of f asked))).next
passed-next f asked mark.Clear = refl
passed-next f asked (mark.Fault moved) = either-next (moved == 0) (refused_file f errno.EIO) (move f asked moved)
passed-next f asked (mark.NoMem moved) = either-next (moved == 0) (refused_file f errno.ENOMEM) (move f asked moved)

-- a step of a file that the row may have, by what moves and what is left
pub taken : {generation : ℕ} {old new : RowFile} {answer : Reply} (f : FileState) (asked : Step) (m : Mark) → MayHave (record { generation = generation; file = old }) f →
    may_stop f asked m ≡ true → answer ≡ answer_under m (move f asked (moved_under m (count_of f asked))).reply →
    MayHave (record { generation = generation; file = new }) (left_under m f (move f asked (moved_under m (count_of f asked))).next) → Takes generation old new asked answer m
taken f asked m has stops answers leaves = record {
  before = f;
  has = has;
  stops = stops;
  answers = answers ∙ sym (passed-reply f asked m);
  leaves = subst (MayHave _) (sym (passed-next f asked m)) leaves;
}
