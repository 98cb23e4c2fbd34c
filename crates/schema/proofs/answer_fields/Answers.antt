-- `answer_fields`: the offsets fit the work buffer.
use Rattle.schema.proofs.Answered.{listed_inside, listed_answered}
use Rattle.schema.proofs.answer_fields.Goals as goal

pub accept_written-requires : goal.accept_written-requires
accept_written-requires c = let (x, fits, same, room) = c.requires in listed_inside x fits same room c.list_fields-written.ensures

pub returns : goal.returns
returns c = λ x fits same room. listed_answered x fits same room c.list_fields-written.ensures _ c.accept_written.ensures
