-- What the program's words ask for.
use Rattle.std.specs.Prelude.{ℕ, Option, Some, None, List, [], ◌∷◌, codes, if◌then◌else◌}
use Rattle.std.specs.Str.{bytes_eq}
use Rattle.dfs_words.specs.declared.mode.Job.{Job}
use Rattle.dfs_words.specs.declared.mode.Job.TheVariants.{Shell, Replay}

-- the job of this name
abbrev pub job_named : List ℕ → Option Job
job_named word = if bytes_eq word (codes "shell") then Some Shell else (if bytes_eq word (codes "replay") then Some Replay else None)

-- the job that the words ask for, those after the program's name: they are one word, its name
abbrev pub job_of : List (List ℕ) → Option Job
job_of [] = None
job_of (word ∷ []) = job_named word
job_of (word ∷ more ∷ words) = None
