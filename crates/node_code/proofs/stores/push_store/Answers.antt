use Rattle.std.proofs.lemmas.Result.{on_ok_weaker}
use Rattle.node_code.proofs.StorePieces.{is_store}
use Rattle.node_code.proofs.stores.push_store.Goals as goal

pub returns : goal.returns
returns c = on_ok_weaker c.append_store.result (λ e. record {
  piece = _;
  appended = e;
  is = is_store c.store_kind.result c.args.kind c.args.cleans c.store_kind.ensures;
}) c.append_store.ensures
