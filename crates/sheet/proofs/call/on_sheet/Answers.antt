-- `on_sheet`: what is read is a sheet.
use mathlib.Core.Path.{◌≡◌, refl}
use mathlib.Core.List.{[]}
use lib.ListN.{length}
use Prim.Native.Nat.{◌*◌, ◌≤◌}
use native.Mathlib.Omega.{arith}
use Rattle.std.specs.Prelude.{Ok, Err}
use Rattle.std.proofs.Common.{rules}
use Rattle.model.specs.Numbers.{work_bytes_per_sheet_byte}
use Rattle.model.specs.Read.{read_sheet}
use Rattle.model.specs.Call.{bytes}
use Rattle.buffer.specs.Refusals.{numbered}
use Rattle.buffer.proofs.Room.{room_enough}
use Rattle.buffer.proofs.Ends.{settled_as}
use Rattle.sheet.specs.Answers.{step_of}
use Rattle.sheet.proofs.Reading.{sheet_refused, sheet_whole}
use Rattle.sheet.proofs.call.on_sheet.Goals as goal

pub on_read-requires-clause-answering : goal.on_read-requires-clause-answering
on_read-requires-clause-answering g c = λ n p fits w a e.
    let read : numbered (Ok n) ≡ step_of (read_sheet c.args.sheet.now) = search rules in
    let v = sheet_whole _ (λ x. bytes []) read (λ k. (c.type_inv.sheet k).fits) refl in
    let room : work_bytes_per_sheet_byte * length c.args.sheet.now ≤ length w.now = omega (arith, room_enough _ _ c.work_fits-fits.ensures fits, e) in
    c.requires v.schema v.fits v.bytes w a room

pub returns : goal.returns
returns g c = λ f h.
    c.on_read.ensures _ _ c.work_fits-fits.ensures
    (λ x p. let read : numbered (Err x) ≡ step_of (read_sheet c.args.sheet.now) = search rules in sheet_refused _ f read refl)
    λ n p w a w' a' r room q.
    let read : numbered (Ok n) ≡ step_of (read_sheet c.args.sheet.now) = search rules in
    let v = sheet_whole _ f read (λ k. (c.type_inv.sheet k).fits) refl in
    settled_as _ _ v.outcome (h v.schema v.fits v.bytes w a w' a' r room q)
