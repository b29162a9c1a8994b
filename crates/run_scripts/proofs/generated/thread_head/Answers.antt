use Rattle.std.proofs.Common.{Global, Vec, ap, ◌∙◌, ℕ}
use Rattle.run_scripts.proofs.GeneratedTexts.{head_pieces}
use Rattle.run_scripts.proofs.generated.thread_head.Goals as goal

pub returns : goal.returns
returns c = ap (λ (v : Vec ℕ Global). v.items) c.into_bytes.ensures.value ∙ c.in_ok-text.ensures.ok ∙ head_pieces c.args.rounds c.args.thread
