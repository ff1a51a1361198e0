-- What a namespace step answers, leaves and changes.
use Rattle.std.specs.Prelude.{List, [], Result, Ok, Err}
use Rattle.vfs_base.specs.declared.errno.Errno.{Errno}
use Rattle.vfs_base.specs.declared.reply.Reply.{Reply}
use Rattle.vfs_base.specs.declared.reply.Reply.TheVariants as reply
use Rattle.vfs_model.specs.declared.namespace.Namespace.{Namespace}
use Rattle.vfs_model.specs.declared.namespace.RowChange.{RowChange}

-- what a namespace step answers, the namespace that it leaves, and its changes of rows in their order
pub record NamespaceOutcome : Type 0 where
  pub reply : Reply
  pub next : Namespace
  pub changes : List RowChange

-- a step that is not refused
abbrev pub answers : Reply → Namespace → List RowChange → Result NamespaceOutcome Errno
answers reply next changes = Ok (record { reply = reply; next = next; changes = changes })

-- a step that only tells
abbrev pub tells : Namespace → Reply → Result NamespaceOutcome Errno
tells n reply = answers reply n []

-- a refusal, which changes nothing
abbrev pub refused : Namespace → Errno → NamespaceOutcome
refused n errno = record { reply = reply.Refused errno; next = n; changes = [] }

-- the outcome, or else the refusal: no step changes anything where it is refused
abbrev pub settled : Namespace → Result NamespaceOutcome Errno → NamespaceOutcome
settled n (Ok outcome) = outcome
settled n (Err errno) = refused n errno
