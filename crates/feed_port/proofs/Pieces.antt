-- Where the filling of a buffer stands between two reads.
use Rattle.std.proofs.Common.{◌≡◌, ℕ, ◌-◌, ◌≤◌, ◌<◌, List, [], Option, length, refl, sym, ap, ◌∙◌, subst, arith, length-append}
use Rattle.std.specs.Prelude.{is_some}
use Rattle.std.specs.Io.KnownBytes.{Consumes}
use Rattle.std.proofs.KnownBytes.{Consumes-nil, Consumes-kept, Consumes-trans}
use Rattle.hub_outside.specs.Buffer.{BufferContents, room_of}
use Rattle.hub_outside.specs.Source.{ReadsBehind}
use Rattle.hub_outside.specs.declared.sources.ReadAnswer.TheVariants.{Got, End}
use Rattle.feed_port.specs.Streams.{Fills}
use Rattle.feed_port.specs.declared.filling.Filled.TheVariants.{Ended}

-- the buffer holds what the source gave so far, no more than is asked for, and lost no room
pub record Filling (first now : Option (List ℕ)) (faults faults' size room : ℕ) (into : BufferContents) : Type 0 where
  pub within : length into.bytes ≤ size
  pub kept : room_of into ≡ room
  pub taken : Consumes first now into.bytes
  pub told : is_some now ≡ is_some first
  pub counted : faults ≤ faults'

pub begins : (left : Option (List ℕ)) (faults size : ℕ) (into : BufferContents) → into.bytes ≡ [] → Filling left left faults faults size (room_of into) into
begins left faults size into empty = record {
  within = omega (arith, ap length empty);
  kept = refl;
  taken = subst (Consumes left left) (sym empty) (Consumes-nil left);
  told = refl;
  counted = omega arith;
}

pub goes_on : (first now next : Option (List ℕ)) (faults faults' faults'' size room n : ℕ) (into into' : BufferContents)
    → Filling first now faults faults' size room into → ReadsBehind (Got n) now next into.bytes into'.bytes → n ≤ size - length into.bytes
    → room_of into' ≡ room_of into → is_some next ≡ is_some now → faults' ≤ faults'' → Filling first next faults faults'' size room into'
goes_on first now next faults faults' faults'' size room n into into' filling (bytes, long, grown, given) most same told counted = record {
  within = let w = filling.within in omega (arith, ap length grown ∙ length-append into.bytes bytes, long, most, w);
  kept = same ∙ filling.kept;
  taken = subst (Consumes first next) (sym grown) (Consumes-trans first now next into.bytes bytes filling.taken given);
  told = told ∙ filling.told;
  counted = let c = filling.counted in omega (arith, c, counted);
}

-- a read leaves less to be read
pub less_left : (now next : Option (List ℕ)) (size n : ℕ) (old new : List ℕ) → ReadsBehind (Got n) now next old new → 1 ≤ n → length old < size → size - length new < size - length old
less_left now next size n old new (bytes, long, grown, given) some within = omega (arith, ap length grown ∙ length-append old bytes, long, some, within)

-- the source ended
pub ended : (first now next : Option (List ℕ)) (faults faults' size room : ℕ) (into into' : BufferContents)
    → Filling first now faults faults' size room into → length into.bytes < size → ReadsBehind End now next into.bytes into'.bytes → Fills Ended first next into'.bytes size
ended first now next faults faults' size room into into' filling before (same, kept, over) =
    (omega (arith, ap length same, before), subst (Consumes first next) (sym same) (Consumes-kept first now next into.bytes filling.taken kept), over)
