-- What a session's step answers and makes of the world where neither a device nor memory fails.
use Rattle.std.specs.Prelude.{ℕ, Result, Ok, Err}
use Rattle.vfs_base.specs.declared.errno.Errno.{Errno}
use Rattle.vfs_base.specs.declared.reply.Reply.{Reply}
use Rattle.vfs_base.specs.declared.step.Step.{Step}
use Rattle.vfs_model.specs.NamespaceOutcome.{NamespaceOutcome}
use Rattle.vfs_model.specs.NamespaceStep.{namespace_answer}
use Rattle.vfs_model.specs.World.{WorldOutcome, namespace_part}
use Rattle.vfs_model.specs.declared.world.WorldState.{WorldState}

-- the namespace's answer with its changes of rows made, or its refusal
abbrev pub with_rows : WorldState → Step → Result NamespaceOutcome Errno → Result WorldOutcome Errno
with_rows w asked (Ok outcome) = Ok (namespace_part w outcome asked)
with_rows w asked (Err errno) = Err errno

-- what a session's step answers and leaves, or what it is refused with; steps of files are not asked here
abbrev pub world_answer : WorldState → ℕ → Step → Result WorldOutcome Errno
world_answer w k asked = with_rows w asked (namespace_answer w.namespace k asked)

-- a reply, and the world that it leaves
abbrev pub leaving : WorldState → Reply → WorldOutcome
leaving w reply = record { reply = reply; next = w }
