-- The names of signals: a declared name, and for an array's element its indices in brackets.
use Rattle.std.specs.Prelude.{◌≡◌, ◌≢◌, ℕ, ◌-◌, ◌^◌, ◌<◌, List, [], ◌∷◌, ◌++◌, Some, slice_get}
pub use Rattle.cir_meaning.specs.Places.{brackets}
use Rattle.cir_values.specs.declared.signals.SignalName.{SignalName}
use Rattle.cir_values.specs.declared.signals.Signals.{Signals}
use Rattle.cir_values.specs.Places.{elements, place_of}

-- no `[` is among the bytes
abbrev pub IsPlain : List ℕ → Type 0
IsPlain [] = Unit {0}
IsPlain (b ∷ bs) = (b ≢ 91) × IsPlain bs

abbrev pub AreWords : List ℕ → Type 0
AreWords [] = Unit {0}
AreWords (n ∷ ns) = (n < 2 ^ 32) × AreWords ns

-- a base: the declared name, followed for an array by its dimensions
pub record IsBase (declared dims base : List ℕ) : Type 0 where
  pub spelled : base ≡ declared ++ brackets dims
  pub plain : IsPlain declared
  pub small : AreWords dims

-- the base has this form, and the array has an element at the place
pub record IsNamed (n : SignalName) : Type 0 where
  pub declared : List ℕ
  pub dims : List ℕ
  pub base : IsBase declared dims n.base
  pub inside : n.place < elements dims

-- the element's name has the indices of its place
abbrev pub IsNameOf : SignalName → List ℕ → Type 0
IsNameOf n text = (declared dims index : List ℕ) → IsBase declared dims n.base
    → place_of dims index ≡ Some n.place → text ≡ declared ++ brackets index

-- signal `s` is in the table, and has a name
pub record HasName (signals : Signals) (s : ℕ) : Type 0 where
  pub first : 0 < s
  pub entry : SignalName
  pub there : slice_get signals.names (s - 1) ≡ Some entry
  pub named : IsNamed entry

-- the name of signal s, wherever it has an entry
abbrev pub NamesSignal : Signals → ℕ → List ℕ → Type 0
NamesSignal signals s text =
    (n : SignalName) → slice_get signals.names (s - 1) ≡ Some n → IsNameOf n text
