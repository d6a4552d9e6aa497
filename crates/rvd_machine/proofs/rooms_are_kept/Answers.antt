use Rattle.rvd_machine.proofs.Rooms.{legal_keeps_rooms}
use Rattle.rvd_machine.proofs.rooms_are_kept.Goals as goal

pub returns : goal.returns
returns c = legal_keeps_rooms
