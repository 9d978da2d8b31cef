use Rattle.std.proofs.Common.{◌∙◌}
use Rattle.input_lines.proofs.Unquoted.{quote_found}
use Rattle.input_lines.proofs.records.has_quote.Goals as goal

pub returns : goal.returns
returns c = c.is_some.ensures ∙ quote_found c.args.line.now c.memchr.result c.memchr.ensures
