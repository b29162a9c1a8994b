use Rattle.std.proofs.Common.{◌≡◌, ℕ, ◌<◌, length}
use Rattle.run_tracker.specs.links.AccountRepresentation.{open_at, nothing_open}
use Rattle.run_tracker.proofs.account.Account.lose.Given as goal

abbrev pub invariant-loop-hart : goal.invariant-loop-hart
invariant-loop-hart l = record {
  kept : l.self.kept ≡ l.initial.self.kept;
  stores : l.self.stores ≡ l.initial.self.stores;
  size : length l.self.harts.items ≡ length l.initial.self.harts.items;
  none : (h : ℕ) → h < l.hart → open_at l.self h ≡ nothing_open;
}
