-- `take_text` meets its contract. Assumes nothing.
use Rattle.rooms_taking.proofs.take_text.Goals as goal

pub returns : goal.returns
returns c = simp (← c.text_room.ensures, ← c.take_room.ensures)
