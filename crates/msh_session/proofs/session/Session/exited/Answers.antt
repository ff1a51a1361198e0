use Rattle.std.proofs.Common.{arith, sym, ◌∙◌}
use Rattle.msh_session.proofs.ExitSteps.{file-fits, file-goes, home-goes, mapping-fits, mapping-goes, own-fits, own-goes}
use Rattle.msh_session.proofs.session.Session.exited.Goals as goal

pub overflow_add-self : goal.overflow_add-self
overflow_add-self c = let fits = own-fits c.args.self.now (sym c.has_own.ensures ∙ c.if-has_own.true) in omega arith

pub overflow_add-self-then-has_mapping : goal.overflow_add-self-then-has_mapping
overflow_add-self-then-has_mapping c =
    let fits = mapping-fits c.args.self.now c.has_mapping.ensures.count (sym c.has_mapping.ensures.told ∙ c.if-has_mapping.true) in omega arith

pub overflow_add-self-then-has_file : goal.overflow_add-self-then-has_file
overflow_add-self-then-has_file c =
    let fits = file-fits c.args.self.now c.has_file.ensures.sound (sym c.has_file.ensures.told ∙ c.if-has_file.true) in omega arith

pub returns-then-has_own-clause-exits : goal.returns-then-has_own-clause-exits
returns-then-has_own-clause-exits c = own-goes c.args.self.now (sym c.has_own.ensures ∙ c.if-has_own.true)

pub returns-then-has_mapping-clause-exits : goal.returns-then-has_mapping-clause-exits
returns-then-has_mapping-clause-exits c =
    mapping-goes c.args.self.now (sym c.has_own.ensures ∙ c.if-has_own.false) (sym c.has_mapping.ensures.told ∙ c.if-has_mapping.true)

pub returns-then-has_file-clause-exits : goal.returns-then-has_file-clause-exits
returns-then-has_file-clause-exits c =
    file-goes c.args.self.now (sym c.has_own.ensures ∙ c.if-has_own.false) (sym c.has_mapping.ensures.told ∙ c.if-has_mapping.false)
    (sym c.has_file.ensures.told ∙ c.if-has_file.true)

pub returns-else-has_file-clause-exits : goal.returns-else-has_file-clause-exits
returns-else-has_file-clause-exits c =
    home-goes c.args.self.now (sym c.has_own.ensures ∙ c.if-has_own.false) (sym c.has_mapping.ensures.told ∙ c.if-has_mapping.false)
    (sym c.has_file.ensures.told ∙ c.if-has_file.false)
