use Rattle.std.proofs.Common.{◌≡◌, [], IfOk, subst, sym}
use Rattle.vfs_model.specs.declared.shell_state.ShellState.{ShellState}
use Rattle.msh_commands.specs.CommandTalks.{family_talk}
use Rattle.msh_commands.proofs.command.Command.next.Goals as goal

pub returns-in-Folders : goal.returns-in-Folders
returns-in-Folders c =
    subst (λ family. IfOk c.next.result (λ next. (state : ShellState) → (family_talk family state []).next ≡ next)) (sym c.in-Folders.is) c.next.ensures

pub returns-in-Mounts : goal.returns-in-Mounts
returns-in-Mounts c =
    subst (λ family. IfOk c.next-in-Mounts.result (λ next. (state : ShellState) → (family_talk family state []).next ≡ next)) (sym c.in-Mounts.is) c.next-in-Mounts.ensures

pub returns-in-Files : goal.returns-in-Files
returns-in-Files c =
    subst (λ family. IfOk c.next-in-Files.result (λ next. (state : ShellState) → (family_talk family state []).next ≡ next)) (sym c.in-Files.is) c.next-in-Files.ensures

pub returns-in-Mappings : goal.returns-in-Mappings
returns-in-Mappings c =
    subst (λ family. IfOk c.next-in-Mappings.result (λ next. (state : ShellState) → (family_talk family state []).next ≡ next)) (sym c.in-Mappings.is) c.next-in-Mappings.ensures

pub returns-in-Texts : goal.returns-in-Texts
returns-in-Texts c =
    subst (λ family. IfOk c.next-in-Texts.result (λ next. (state : ShellState) → (family_talk family state []).next ≡ next)) (sym c.in-Texts.is) c.next-in-Texts.ensures

pub returns-in-Copies : goal.returns-in-Copies
returns-in-Copies c =
    subst (λ family. IfOk c.next-in-Copies.result (λ next. (state : ShellState) → (family_talk family state []).next ≡ next)) (sym c.in-Copies.is) c.next-in-Copies.ensures
