use Rattle.std.proofs.Common.{◌≡◌, [], ap, ◌∙◌}
use Rattle.name_tree.proofs.Gathers.{gathered-all}
use Rattle.name_tree.specs.Gathered.{gathered}
use Rattle.name_tree.proofs.name_tree.NameTree.entries.Goals as goal

pub returns : goal.returns
returns g c =
    let slots = c.self.inside.nodes.slots in
    let all : c.gather.new.found.entries ≡ c.args.self.now =
    c.in_ok-gather.ensures.found ∙ ap (λ p. gathered slots p 0 c.new-found.result.entries) c.root-path.ensures ∙ ap (gathered slots [] 0) c.new-found.ensures.empty ∙ gathered-all slots ∙ c.self.view_is in
    rw (← all) c.listed.ensures
