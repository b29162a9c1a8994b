use Rattle.ido_cli.proofs.UpgradedImages.{zeros_are}
use Rattle.ido_cli.proofs.upgrade.zeros.Goals as goal

pub returns : goal.returns
returns c =
    zeros_are c.new-words.result.items c.resize.new.self.items _ c.args.count c.new-words.ensures.items c.new-words.result.ok.0 c.in_ok-resize.ensures.items
