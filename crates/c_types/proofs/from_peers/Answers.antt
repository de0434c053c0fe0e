-- `c_types::from_peers` meets its contract. Assumes nothing.
use Rattle.std.proofs.Common.{rules, tests}
use Rattle.c_types.specs.Tables.{peer_at, from_peers}
use Rattle.c_types.proofs.Made.{made}
use Rattle.c_types.proofs.from_peers.Goals as goal

pub returns : goal.returns
unfolding from_peers
returns c =
    made _ _ (peer_at c.args.heard c.args.models.now c.args.inflight.now) (λ i y q k. search (rules, tests)) _ 16 c.from_fn.ensures.items
