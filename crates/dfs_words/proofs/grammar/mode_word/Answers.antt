use Rattle.std.proofs.Common.{◌∙◌, map, string_bytes}
use Rattle.dfs_words.proofs.GrammarLemmas.{escaped_words, gives_word, has_escape-map, refuses_words}
use Rattle.dfs_words.proofs.grammar.mode_word.Goals as goal

pub returns-then-has_escape-clause-usage : goal.returns-then-has_escape-clause-usage
returns-then-has_escape-clause-usage c = λ _.
    escaped_words (map string_bytes c.args.words.now) (has_escape-map string_bytes c.args.words.now _ c.has_escape.ensures ∙ c.if-has_escape.true)

pub returns-in-Ok : goal.returns-in-Ok
returns-in-Ok c =
    let not = has_escape-map string_bytes c.args.words.now _ c.has_escape.ensures ∙ c.if-has_escape.false in
    let given = gives_word _ (map string_bytes c.args.words.now) c.in-Ok.matches c.get_str.result c.in_ok-command.ensures not c.in-Ok.ensures.kinds c.in-Ok.ensures.matches c.get_str.ensures in
    record {
      ok = rw (c.ok_or.ensures.value, given.found_is) given.sole;
      usage = λ is. let no = rw (c.ok_or.ensures.value, given.found_is) at is in cc;
    }

pub returns-in-Err-clause-usage : goal.returns-in-Err-clause-usage
returns-in-Err-clause-usage c = λ is.
    refuses_words _ (map string_bytes c.args.words.now) c.in-Err.error c.in_ok-command.ensures c.in-Err.ensures.kinds
    (λ out. let wants = c.mode_fault.ensures.1 out in cc)
