-- What is told of an update that counts.
use Rattle.std.specs.Prelude.{ℕ, List}
use Rattle.run_overlay.specs.declared.overlay.Chosen.{Chosen}

-- the id of its entity, and its stamp
abbrev pub told : Chosen → List ℕ × ℕ
told chosen = (chosen.id.now, chosen.stamp)
