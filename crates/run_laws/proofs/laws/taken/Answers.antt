use Rattle.run_laws.proofs.Taken.{taken_is_ended, opening_none, nothing_stays_taken, untaken_stays, others_took_none, serial_took_none}
use Rattle.run_laws.proofs.Stops.{taken_is_next, stops_leave_none, serial_taken_is_next, serial_stops_leave_none}
use Rattle.run_laws.proofs.laws.taken.Goals as goal

pub returns : goal.returns
returns c = record {
  ended = taken_is_ended;
  first = opening_none;
  none = nothing_stays_taken;
  next = taken_is_next;
  stops = stops_leave_none;
  untaken = untaken_stays;
  others = others_took_none;
  serial = serial_took_none;
  serial_next = serial_taken_is_next;
  serial_stops = serial_stops_leave_none;
}
