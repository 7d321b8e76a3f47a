-- The first frame says the engine's settings, field by field. Assumes nothing.
use Rattle.std.proofs.Common.{refl}
use Rattle.receiver.specs.Opening.{OpeningSays}

pub opening-says : OpeningSays
opening-says n f more = refl
