use Rattle.std.proofs.Common.{◌≡◌, take}
use Rattle.cir_sources.specs.Places.{IsRight, spots_of}
use Rattle.cir_sources.proofs.place.spots.Given as goal

abbrev pub invariant-loop-token : goal.invariant-loop-token
invariant-loop-token l = record {
  right : IsRight l.places;
  bytes : l.places.bytes.now ≡ l.bytes;
  found : l.spots.items ≡ spots_of l.bytes (take l.token-index l.tokens);
}
