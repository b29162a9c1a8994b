use Rattle.ido_cli.proofs.top.ido.Goals as goal

pub returns-in-None-clause-answered : goal.returns-in-None-clause-answered
returns-in-None-clause-answered g c =
    let untouched = c.alone.ensures.untouched (c.alone.ensures.whole c.in-None.is) in
    rw untouched.0 at (rw untouched.1 at c.serve_on_threads.ensures.answered)
