use Rattle.std.proofs.Common.{◌∙◌, arith, ◌-◌, ℕ, [], sym}
use Rattle.std.specs.Prelude.{Vec}
use Rattle.std.specs.Global.{Global}
use Rattle.std.proofs.lemmas.List.{get_or-map}
use Rattle.rv64_codegen.proofs.thread.ThreadPlan.live_at.Goals as goal

pub returns : goal.returns
returns c =
    let x = c.args.self.now in
    let own = c.requires in
    c.deref.ensures.value ∙ sym (get_or-map (λ (v : Vec ℕ Global). v.items) x.live.now (c.args.node - x.part.first) _ []
    (omega (arith, own.open_is.lists.count, own.own.from_first, own.own.below_end)))
