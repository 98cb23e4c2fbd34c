-- `answer_nested`: 31, or a byte for each column.
use mathlib.Core.Path.{sym}
use lib.Seq.{length-take-le}
use Rattle.buffer.proofs.Ends.{handed_up}
use Rattle.datatype.proofs.Nested.{nested_room, nested_short, nested_accepted}
use Rattle.datatype.proofs.answer_nested.Goals as goal

pub returns-in_err-length_fits : goal.returns-in_err-length_fits
returns-in_err-length_fits c = λ x fits e. nested_short c.find_columns-columns.ensures x e _ c.length_fits.ensures c.in_err-length_fits.was (handed_up _ c.from_residual.ensures.1)

pub slice_bounds-write_nested-end : goal.slice_bounds-write_nested-end
slice_bounds-write_nested-end c = nested_room _ c.length_fits.ensures c.in_ok-length_fits.was

pub slice_bounds-write_nested-end-2 : goal.slice_bounds-write_nested-end-2
slice_bounds-write_nested-end-2 c = sym (length-take-le _ _ (nested_room _ c.length_fits.ensures c.in_ok-length_fits.was))

pub returns : goal.returns
returns c = λ x fits e. nested_accepted c.find_columns-columns.ensures x e _ c.length_fits.ensures fits c.in_ok-length_fits.was c.write_nested.ensures
