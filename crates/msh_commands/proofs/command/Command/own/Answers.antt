use Rattle.std.proofs.Common.{◌≡◌, [], slice_get, subst, sym}
use Rattle.vfs_model.specs.declared.shell_state.ShellState.{ShellState}
use Rattle.msh_commands.specs.CommandTalks.{family_talk}
use Rattle.msh_commands.proofs.command.Command.own.Goals as goal

pub returns-in-Folders : goal.returns-in-Folders
returns-in-Folders c =
    subst (λ family. (state : ShellState) → c.own.result ≡ slice_get (family_talk family state []).own c.args.place) (sym c.in-Folders.is) c.own.ensures

pub returns-in-Mounts : goal.returns-in-Mounts
returns-in-Mounts c =
    subst (λ family. (state : ShellState) → c.own-in-Mounts.result ≡ slice_get (family_talk family state []).own c.args.place) (sym c.in-Mounts.is) c.own-in-Mounts.ensures

pub returns-in-Files : goal.returns-in-Files
returns-in-Files c =
    subst (λ family. (state : ShellState) → c.own-in-Files.result ≡ slice_get (family_talk family state []).own c.args.place) (sym c.in-Files.is) c.own-in-Files.ensures

pub returns-in-Mappings : goal.returns-in-Mappings
returns-in-Mappings c =
    subst (λ family. (state : ShellState) → c.own-in-Mappings.result ≡ slice_get (family_talk family state []).own c.args.place) (sym c.in-Mappings.is) c.own-in-Mappings.ensures

pub returns-in-Texts : goal.returns-in-Texts
returns-in-Texts c =
    subst (λ family. (state : ShellState) → c.own-in-Texts.result ≡ slice_get (family_talk family state []).own c.args.place) (sym c.in-Texts.is) c.own-in-Texts.ensures

pub returns-in-Copies : goal.returns-in-Copies
returns-in-Copies c =
    subst (λ family. (state : ShellState) → c.own-in-Copies.result ≡ slice_get (family_talk family state []).own c.args.place) (sym c.in-Copies.is) c.own-in-Copies.ensures
