-- What clauses read of a door that dials.
use Rattle.std.specs.Prelude.{ℕ}
use Rattle.hub_ports.specs.declared.dialing.TcpDial.{TcpDial}

-- how many of its calls failed
abbrev pub dial_faults : {R E : Type 0} → TcpDial R E → ℕ
dial_faults dial = dial.faults
