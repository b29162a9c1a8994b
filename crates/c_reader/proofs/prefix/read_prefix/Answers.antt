use Rattle.std.proofs.Common.{◌∙◌}
use Rattle.c_reader.proofs.Prefixes.{prefix-none, prefix-some}
use Rattle.c_reader.proofs.prefix.read_prefix.Goals as goal

pub returns-in-empty : goal.returns-in-empty
returns-in-empty c = prefix-none c.args.text.now c.in-empty.len_below

pub returns-in-len1-up : goal.returns-in-len1-up
returns-in-len1-up c = c.prefix_from.ensures ∙ prefix-some c.args.text.now c.in-len1-up.len_at_least
