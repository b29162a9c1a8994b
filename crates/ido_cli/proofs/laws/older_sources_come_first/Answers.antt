use Rattle.ido_cli.proofs.UpgradedImages.{source_comes_first}
use Rattle.ido_cli.proofs.laws.older_sources_come_first.Goals as goal

pub returns : goal.returns
returns c = λ turns input version compiled rule place begins refused status output answer.
    source_comes_first c.one_verdict.ensures.not_both input version compiled rule place begins refused turns status output answer
