-- Every line of the shell takes replies as it should.
use Rattle.std.specs.Prelude.{ℕ, Option, Some, None, Result, Ok, Err, List, [], ◌∷◌, codes}
use Rattle.vfs_model.proofs.CopyTalks.{copy-takes}
use Rattle.vfs_model.proofs.FileTalks.{file-takes}
use Rattle.vfs_model.proofs.FolderTalks.{folder-takes}
use Rattle.vfs_model.proofs.MappingTalks.{mapping-takes}
use Rattle.vfs_model.proofs.MountTalks.{mount-takes}
use Rattle.vfs_model.proofs.ReplyTaking.{OptionTakes, known, none-takes, showing}
use Rattle.vfs_model.specs.Command.{command, help, help_command, help_text, talk_or, words_talk}
use Rattle.vfs_model.specs.ShellLaws.{LineTakesReplies, TalkTakesReplies}
use Rattle.vfs_model.specs.Talk.{Talk, shows}
use Rattle.vfs_model.specs.Words.{LineFault, line_words}

or-takes : (found : Option Talk) (other : Talk) → OptionTakes found → TalkTakesReplies other → TalkTakesReplies (talk_or found other)
or-takes (Some talk) other takes rest = takes
or-takes None other takes rest = rest

help-takes : (words : List (List ℕ)) → TalkTakesReplies (help words)
help-takes words = none-takes (codes "help") (shows help_text) (showing help_text) words

help-command-takes : (name : List ℕ) (words : List (List ℕ)) → OptionTakes (help_command name words)
help-command-takes name words = search (known, help-takes)

command-takes : (words : List (List ℕ)) → TalkTakesReplies (command words)
command-takes [] = showing []
command-takes (name ∷ words) =
    search (or-takes, folder-takes, copy-takes, mount-takes, file-takes, mapping-takes, help-command-takes, showing) depth 12

words-take : (words : Result (List (List ℕ)) LineFault) → TalkTakesReplies (words_talk words)
words-take (Ok words) = command-takes words
words-take (Err fault) = showing _

pub line-takes : LineTakesReplies
line-takes text = words-take (line_words text)
