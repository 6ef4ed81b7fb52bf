-- The places of a source's tokens.
use Rattle.std.specs.Prelude.{◌≡◌, ◌+◌, ◌≤◌, ℕ, List, map, length, slice_get, unwrap_or}
pub use Rattle.cir_token.specs.declared.token.Token.{Token}
pub use Rattle.cir_ast.specs.declared.program.Spot.{Spot}
use Rattle.cir_ast.specs.Spot.{start, spot_at}
use Rattle.cir_sources.specs.declared.place.Places.{Places}

-- the bytes that a file may have
abbrev pub most_bytes : ℕ
most_bytes = 16777216

-- the places of the tokens, each that of its first byte
abbrev pub spots_of : List ℕ → List Token → List Spot
spots_of bytes tokens = map (λ t. spot_at bytes t.offset) tokens

-- the place of a token by its number, the start of the text where there is none
abbrev pub spot_of : List Spot → ℕ → Spot
spot_of spots n = unwrap_or (slice_get spots n) start

-- the walk stands at this place
pub record IsRight (places : Places) : Type 0 where
  pub small : length places.bytes.now ≤ most_bytes
  pub within : places.at ≤ length places.bytes.now
  pub line : places.spot.line ≤ places.at + 1
  pub column : places.spot.column ≤ places.at + 1
  pub spot : places.spot ≡ spot_at places.bytes.now places.at
