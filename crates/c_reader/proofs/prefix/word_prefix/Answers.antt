use Rattle.std.proofs.Common.{◌∙◌, sym}
use Rattle.c_reader.proofs.Prefixes.{word_prefix-Keyword, word_prefix-Name}
use Rattle.c_reader.proofs.prefix.word_prefix.Goals as goal

pub returns-in-Some : goal.returns-in-Some
returns-in-Some c =
    word_prefix-Keyword c.args.text.now _ c.in-Some.keyword c.word_prefix_len-length.ensures.value (sym c.keyword.ensures ∙ c.in-Some.is)

pub returns-in-None : goal.returns-in-None
returns-in-None c =
    word_prefix-Name c.args.text.now _ c.word_prefix_len-length.ensures.value (sym c.keyword.ensures ∙ c.in-None.is)
