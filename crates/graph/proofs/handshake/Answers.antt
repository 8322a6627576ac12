use Rattle.graph.proofs.Injections.{handshake}
use Rattle.graph.proofs.handshake.Goals as goal

pub returns : goal.returns
returns c = handshake
