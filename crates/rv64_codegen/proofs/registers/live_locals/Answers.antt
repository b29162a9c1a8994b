use Rattle.std.proofs.Common.{List, ℕ, ◌+◌, ◌≡◌, ◌∙◌, Vec, ap, sym, subst, true, false}
use Rattle.std.specs.Global.{Global}
use Rattle.rv64_codegen.specs.links.LiveRegisters.{AreLiveLocals, HasLive}
use Rattle.rv64_codegen.proofs.LiveRegisterLists.{live_more, live_same}
use Rattle.rv64_codegen.proofs.registers.live_locals.Goals as goal
use Rattle.rv64_codegen.proofs.registers.live_locals.Goals.{then-is_live_home+in_ok-push, else-is_live_home}
use Rattle.expr_code.specs.declared.home.Home.TheVariants.{InRegister}

pub loop-number-preserved : goal.loop-number-preserved
loop-number-preserved c =
    let hs = c.args.homes.now in
    let sets = c.args.live.now in
    let node = c.args.node in
    let k = c.loop-number.number in
    let r = c.local_register-register.result in
    let Is : List ℕ → Type 0 = λ xs. AreLiveLocals hs sets node (k + 1) xs in
    elim c.if-is_live_home.branch [
      | then-is_live_home+in_ok-push w ↦
          subst Is (sym (ap (λ (v : Vec ℕ Global). v.items) w.found-is ∙ w.in_ok-push.ensures.items))
          (live_more hs sets node k c.loop-number.found.items r c.local_register-register.ensures.is c.local_register-register.ensures.local
          (c.is_live_home.ensures.0 w.if-is_live_home.true) c.loop-number.invariant)
      | else-is_live_home w ↦
          let none : HasLive hs sets node (InRegister r) → ⊥ = λ h. let yes' : c.is_live_home.result ≡ true = c.is_live_home.ensures.1 h in
          let no' : c.is_live_home.result ≡ false = w.if-is_live_home.false in cc in
          subst Is (sym (ap (λ (v : Vec ℕ Global). v.items) w.found-is))
          (live_same hs sets node k c.loop-number.found.items r c.local_register-register.ensures.is none c.loop-number.invariant)
    ]
