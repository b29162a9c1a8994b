use Rattle.std.proofs.Common.{◌≡◌, map, take}
use Rattle.c_tree.specs.LexicalScan.{full_token}
use Rattle.c_reader.specs.links.Tokens.{tokens_of}
use Rattle.c_reader.proofs.full.full_tokens.Given as goal

abbrev pub invariant-loop-token : goal.invariant-loop-token
invariant-loop-token l = tokens_of l.all.items ≡ map full_token (tokens_of (take l.token-index l.tokens))
