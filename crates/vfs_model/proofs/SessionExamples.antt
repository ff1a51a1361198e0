-- Worked examples of a session: its blocks, what it wants, and how it leaves.
use Rattle.std.specs.Prelude.{◌≡◌, ℕ, Option, Some, None, List, [], ◌∷◌, ◌++◌, codes, refl}
use Rattle.vfs_base.specs.declared.kinds.Kind.TheVariants as kind
use Rattle.vfs_base.specs.declared.errno.Errno.TheVariants as errno
use Rattle.vfs_base.specs.declared.reply.Reply.{Reply}
use Rattle.vfs_base.specs.declared.reply.Reply.TheVariants as reply
use Rattle.vfs_base.specs.declared.step.Step.{Step}
use Rattle.vfs_base.specs.declared.step.Step.TheVariants as step
use Rattle.vfs_model.proofs.CommandRuns.{shell}
use Rattle.vfs_model.proofs.ExampleSteps.{flags, hold, id, no}
use Rattle.vfs_model.proofs.ScriptExamples.{ended}
use Rattle.vfs_model.proofs.TranscriptRuns.{scripts}
use Rattle.vfs_model.specs.Session.{exit_steps, session_run, wanted_step}

-- a folder, three descriptors of two files, and a mapping
abbrev pub lines : List (List ℕ)
lines =
    codes "cd /d"
    ∷ codes "open f rw,creat"
    ∷ codes "open g rw,creat"
    ∷ codes "dup 3"
    ∷ codes "mmap 3 0 9 r"
    ∷ codes "cat h"
    ∷ []

-- the replies to its first steps
abbrev pub begun : List Reply
begun =
    reply.At (codes "d" ∷ [])
    ∷ reply.Opened (hold 1 1) (id 1 1) kind.Tmp
    ∷ reply.Opened (hold 1 2) (id 2 1) kind.Tmp
    ∷ reply.Held (hold 1 3)
    ∷ []

abbrev pub wanted : List Reply → Option Step
wanted replies = wanted_step (session_run lines replies)

abbrev pub exits : List Reply → List Step
exits replies = exit_steps (session_run lines replies)

-- its own references but those of a command that is given up
abbrev pub leaving : List Step
leaving = step.Unmap (hold 1 3) ∷ step.Close (hold 1 2) ∷ step.Close (hold 1 1) ∷ step.Home ∷ []

pub a_given_up_command_gives_back_its_own :
    (exits begun ≡ leaving)
    × (exits (begun ++ reply.Opened (hold 1 4) (id 3 1) kind.Tmp ∷ []) ≡ step.Close (hold 1 4) ∷ leaving)
unfolding shell scripts
a_given_up_command_gives_back_its_own = (refl, refl)

pub exit_steps_are_asked_once_whatever_is_replied :
    (wanted [] ≡ Some (step.Chdir (codes "/d")))
    × (wanted begun ≡ Some (step.Open (codes "h") (flags 1)))
    × (wanted (begun ++ no errno.ENOENT ∷ []) ≡ Some (step.Unmap (hold 1 3)))
    × (wanted (begun ++ no errno.ENOENT ∷ no errno.EBADF ∷ []) ≡ Some (step.Close (hold 1 2)))
    × (wanted (begun ++ no errno.ENOENT ∷ no errno.EBADF ∷ reply.Done ∷ no errno.ENOMEM ∷ []) ≡ Some step.Home)
    × (wanted (begun ++ no errno.ENOENT ∷ no errno.EBADF ∷ reply.Done ∷ reply.Done ∷ reply.Done ∷ []) ≡ None)
unfolding shell scripts
exit_steps_are_asked_once_whatever_is_replied = (refl, refl, refl, refl, refl, refl)

pub a_prompt_is_of_the_time_of_the_post :
    (session_run lines begun).blocks ≡
    ended (codes "msh />cd /d" ∷ [])
    ∷ ended (codes "msh /d>open f rw,creat" ∷ codes "fd 3" ∷ [])
    ∷ ended (codes "msh /d>open g rw,creat" ∷ codes "fd 4" ∷ [])
    ∷ ended (codes "msh /d>dup 3" ∷ codes "fd 5" ∷ [])
    ∷ ended (codes "msh /d>mmap 3 0 9 r" ∷ codes "window 1" ∷ [])
    ∷ []
unfolding shell scripts
a_prompt_is_of_the_time_of_the_post = refl
