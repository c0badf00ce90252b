use Rattle.mc_blocks.proofs.Plans.{first_room}
use Rattle.mc_blocks.proofs.laws.fits_room.Goals as goal

pub returns : goal.returns
returns c = first_room
