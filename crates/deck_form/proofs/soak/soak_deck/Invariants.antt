use Rattle.std.proofs.Common.{◌≡◌, ◌+◌, ◌-◌, ◌∷◌, ◌++◌, true, codes}
use Rattle.vfs_base.specs.declared.deck.Act.TheVariants as act
use Rattle.vfs_model.specs.Soak.{soak_lines}
use Rattle.deck_form.proofs.soak.soak_deck.Given as goal

abbrev pub invariant-loop-at : goal.invariant-loop-at
invariant-loop-at l =
    l.acts ++ soak_lines (l.steps - l.at) (l.at + 1) l.generator.state
    ≡ act.Post 1 (codes "mkdir /v") true ∷ act.Post 1 (codes "mount sd0 /v cell") true ∷ soak_lines l.steps 1 l.fn.seed
