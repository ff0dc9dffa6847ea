-- What contracts see of ports and doors, in whose words a run is told.
use Rattle.std.specs.Prelude.{ℕ, Option}
use Rattle.hub_outside.specs.Doors.{Links}
use Rattle.feed_port.specs.Ports.{Ahead}

-- of a port: the messages ahead, and its faults
pub record PortWords (P : Type 0) : Type 0 where
  pub ahead : P → Ahead
  pub faults : P → ℕ

abbrev pub port_words : {P : Type 0} → (P → Ahead) → (P → ℕ) → PortWords P
port_words ahead faults = record { ahead = ahead; faults = faults }

-- of a door: its links, and its faults
pub record DoorWords (D I O : Type 0) : Type 0 where
  pub links : D → Option (Links I O)
  pub faults : D → ℕ

abbrev pub door_words : {D I O : Type 0} → (D → Option (Links I O)) → (D → ℕ) → DoorWords D I O
door_words links faults = record { links = links; faults = faults }
