-- `profiles::unreliability` meets its contract. Assumes nothing.
use Rattle.profiles.proofs.Sound.{peer_room}
use Rattle.profiles.proofs.unreliability.Goals as goal

pub chance-requires : goal.chance-requires
chance-requires c =
    peer_room c.args.n c.args.peer.0 c.args.p c.in_ok-check_unreliability.ensures
