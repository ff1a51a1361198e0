-- Short words for the steps of examples.
use Rattle.std.specs.Prelude.{ℕ, List, []}
use Rattle.vfs_base.specs.declared.describe.Describe.{Describe}
use Rattle.vfs_base.specs.declared.entry.Mark.{Mark}
use Rattle.vfs_base.specs.declared.entry.Mark.TheVariants as mark
use Rattle.vfs_base.specs.declared.entry.Who.TheVariants as who
use Rattle.vfs_base.specs.declared.errno.Errno.{Errno}
use Rattle.vfs_base.specs.declared.flags.OpenFlags.{OpenFlags}
use Rattle.vfs_base.specs.declared.ids.FileId.{FileId}
use Rattle.vfs_base.specs.declared.ids.HoldId.{HoldId}
use Rattle.vfs_base.specs.declared.kinds.Kind.{Kind}
use Rattle.vfs_base.specs.declared.kinds.NodeKind.TheVariants as node
use Rattle.vfs_base.specs.Path.{Path}
use Rattle.vfs_base.specs.declared.reply.HolderLine.{HolderLine}
use Rattle.vfs_base.specs.declared.reply.HolderPlace.TheVariants as place
use Rattle.vfs_base.specs.declared.reply.ListEntry.{ListEntry}
use Rattle.vfs_base.specs.declared.reply.Reply.{Reply}
use Rattle.vfs_base.specs.declared.reply.Reply.TheVariants as reply
use Rattle.vfs_base.specs.declared.step.Step.{Step}
use Rattle.vfs_base.specs.declared.step.Step.TheVariants as step
use Rattle.vfs_model.specs.Asking.{Asked, may_ask, run_steps}
use Rattle.vfs_model.specs.Cache.{evict_last, reclaim, row_run, touch, truncate, write_back}
use Rattle.vfs_model.specs.FailedCalls.{stopped_run}
use Rattle.vfs_model.specs.FileLife.{bind_row, free_if_unused, free_row}
use Rattle.vfs_model.specs.FileMoves.{file_step, fits_file}
use Rattle.vfs_model.specs.FileStep.{file_refusals, moved_count}
use Rattle.vfs_model.specs.Holders.{holder_lines}
use Rattle.vfs_model.specs.IoTotals.{io_totals}
use Rattle.vfs_model.specs.Lookup.{covering_mount, has_mount_below, node_at, walk_refusal, with_node}
use Rattle.vfs_model.specs.MountStep.{add_mount, mount_at, mount_refusals}
use Rattle.vfs_model.specs.NameSteps.{folder_refusals, mkdir_refusals, rmdir_refusals, unlink_refusals, without_node}
use Rattle.vfs_model.specs.Namespace.{opening_namespace}
use Rattle.vfs_model.specs.NamespaceStep.{namespace_step, shutdown_step, touched_rows}
use Rattle.vfs_model.specs.OpenStep.{make_file, open_at, open_refusals}
use Rattle.vfs_model.specs.ReferenceSteps.{give_up_step, map_step}
use Rattle.vfs_model.specs.RenameStep.{move_at, move_refusals, moved, rename_at, rename_refusals, with_moved}
use Rattle.vfs_model.specs.UmountSteps.{come_to_rest, empty_mount, is_busy, mkfs_step, remove_all, remove_mount, umount_at}
use Rattle.vfs_model.specs.Homes.{opening_world}
use Rattle.vfs_model.specs.World.{fits_step, world_step}

-- no device at all
abbrev pub bare : Describe
bare = record { volumes = []; chars = [] }

-- a session asks a step, and nothing stops it
abbrev pub asks : ℕ → Step → Asked
asks k asked = record { who = who.Session k; step = asked; mark = mark.Clear }

abbrev pub asks_stopped : ℕ → Step → Mark → Asked
asks_stopped k asked m = record { who = who.Session k; step = asked; mark = m }

abbrev pub ends : Mark → Asked
ends m = record { who = who.End; step = step.Shutdown; mark = m }

-- the replies to steps on the opening world without devices
abbrev pub bare_replies : List Asked → List Reply
bare_replies steps = (run_steps (opening_world [] bare) steps).replies

abbrev pub hold : ℕ → ℕ → HoldId
hold k number = record { session = k; number = number }

abbrev pub id : ℕ → ℕ → FileId
id row generation = record { row = row; generation = generation }

abbrev pub flags : ℕ → OpenFlags
flags bits = record { 0 = bits }

-- `r`, `rw,creat`, and what `echo` opens with
abbrev pub r : OpenFlags
r = flags 1

abbrev pub rw_creat : OpenFlags
rw_creat = flags 7

abbrev pub to_append : OpenFlags
to_append = flags 38

abbrev pub folder : List ℕ → ListEntry
folder name = record { name = name; node = node.Dir }

abbrev pub file_entry : List ℕ → FileId → Kind → ListEntry
file_entry name file kind = record { name = name; node = node.File file kind }

abbrev pub no : Errno → Reply
no errno = reply.Refused errno

-- what an example computes with: a theorem unfolds it by the line `unfolding steps`
unfoldable pub steps : Unit {0}
unfolding may_ask evict_last touch write_back reclaim truncate row_run stopped_run bind_row free_row free_if_unused file_step fits_file file_refusals moved_count holder_lines io_totals covering_mount node_at walk_refusal has_mount_below with_node mount_refusals add_mount mount_at mkdir_refusals without_node rmdir_refusals unlink_refusals folder_refusals opening_namespace shutdown_step namespace_step touched_rows open_refusals make_file open_at give_up_step map_step moved with_moved rename_refusals move_refusals move_at rename_at is_busy empty_mount remove_mount umount_at come_to_rest remove_all mkfs_step opening_world world_step fits_step
steps = tt

abbrev pub at_path : Path → ℕ → HolderLine
at_path path count = record { place = place.At path; count = count }

abbrev pub at_row : ℕ → ℕ → HolderLine
at_row row count = record { place = place.Row row; count = count }
