use Rattle.std.proofs.Common.{◌∙◌, ◌≡◌, subst, sym}
use Rattle.log_schemes.specs.declared.locals.Locals.{Locals}
use Rattle.image_checks.specs.Logs.{home_in, home_word, logs_of}
use Rattle.image_checks.proofs.Homes.{local_small}
use Rattle.image_checks.proofs.logs.home_in.Goals as goal

pub register_in-requires-clause-register : goal.register_in-requires-clause-register
register_in-requires-clause-register c = local_small c.args.colour

pub frame_in-requires-clause-frame : goal.frame_in-requires-clause-frame
frame_in-requires-clause-frame c = sym c.locals.ensures ∙ c.in-Frame.is

pub returns-in-Registers : goal.returns-in-Registers
unfolding home_in
returns-in-Registers c =
    subst (λ (l : Locals). c.register_in.result ≡ home_word l (logs_of c.args.log c.args.logs.now) c.args.thread c.args.bank c.args.colour)
    (sym c.in-Registers.is ∙ c.locals.ensures) c.register_in.ensures

pub returns-in-Frame : goal.returns-in-Frame
unfolding home_in
returns-in-Frame c =
    subst (λ (l : Locals). c.frame_in.result ≡ home_word l (logs_of c.args.log c.args.logs.now) c.args.thread c.args.bank c.args.colour)
    (sym c.in-Frame.is ∙ c.locals.ensures) c.frame_in.ensures
