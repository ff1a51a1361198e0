use Rattle.deck_form.proofs.LineLemmas.{line_found, line_alone}
use Rattle.deck_form.proofs.lines.first_line_len.Goals as goal

pub returns-in-Some-clause-line : goal.returns-in-Some-clause-line
returns-in-Some-clause-line c = line_found c.args.bytes.now c.memchr.result c.in-Some.at c.in-Some.is c.memchr.ensures

pub returns-in-None-clause-line : goal.returns-in-None-clause-line
returns-in-None-clause-line c = line_alone c.args.bytes.now c.memchr.result c.in-None.is c.memchr.ensures c.requires
