-- The sizes of the groups of signals, and that they grow.
use Rattle.std.proofs.Common.{◌≡◌, ℕ, ◌+◌, ◌≤◌, List, Ok, refl, arith}
use Rattle.std.specs.Prelude.{◌^◌, ◌-◌}
use Rattle.std.proofs.Math.Nat.{min-le_right, le-min}
use Rattle.cir_meaning.specs.Tried.{Where}
use Rattle.cir_meaning.specs.Limits.{count_sum}
use Rattle.cir_meaning.specs.Arrays.{Datum}
use Rattle.cir_meaning.specs.Frame.{Group, Outputs, PublicInputs, PrivateInputs, Others, Sizes}
use Rattle.cir_meaning.specs.Frame.{Signals, World, Maker, size_in, more_in}

-- group by group
abbrev pub Less : Sizes → Sizes → Type 0
Less a b = (g : Group) → size_in g a ≤ size_in g b

-- no more than a count can say
abbrev pub Fits : Sizes → Type 0
Fits a = (g : Group) → size_in g a ≤ 2 ^ 64 - 1

pub less_itself : (a : Sizes) → Less a a
less_itself a g = omega arith

pub less_then : (a b c : Sizes) → Less a b → Less b c → Less a c
less_then a b c h g x =
    let one : size_in x a ≤ size_in x b = h x in
    let two : size_in x b ≤ size_in x c = g x in omega arith

sum_more : (a n : ℕ) → a ≤ 2 ^ 64 - 1 → a ≤ count_sum a n
sum_more a n h = le-min (omega arith) h

sum_fits : (a n : ℕ) → count_sum a n ≤ 2 ^ 64 - 1
sum_fits a n = min-le_right (a + n) (2 ^ 64 - 1)

pub more_less : (g : Group) (n : ℕ) (s : Sizes) → Fits s → Less s (more_in g n s)
more_less Outputs n s h Outputs = sum_more s.outputs n (h Outputs)
more_less Outputs n s h PublicInputs = omega arith
more_less Outputs n s h PrivateInputs = omega arith
more_less Outputs n s h Others = omega arith
more_less PublicInputs n s h Outputs = omega arith
more_less PublicInputs n s h PublicInputs = sum_more s.public_inputs n (h PublicInputs)
more_less PublicInputs n s h PrivateInputs = omega arith
more_less PublicInputs n s h Others = omega arith
more_less PrivateInputs n s h Outputs = omega arith
more_less PrivateInputs n s h PublicInputs = omega arith
more_less PrivateInputs n s h PrivateInputs = sum_more s.private_inputs n (h PrivateInputs)
more_less PrivateInputs n s h Others = omega arith
more_less Others n s h Outputs = omega arith
more_less Others n s h PublicInputs = omega arith
more_less Others n s h PrivateInputs = omega arith
more_less Others n s h Others = sum_more s.others n (h Others)

pub more_fits : (g : Group) (n : ℕ) (s : Sizes) → Fits s → Fits (more_in g n s)
more_fits Outputs n s h Outputs = sum_fits s.outputs n
more_fits Outputs n s h PublicInputs = h PublicInputs
more_fits Outputs n s h PrivateInputs = h PrivateInputs
more_fits Outputs n s h Others = h Others
more_fits PublicInputs n s h Outputs = h Outputs
more_fits PublicInputs n s h PublicInputs = sum_fits s.public_inputs n
more_fits PublicInputs n s h PrivateInputs = h PrivateInputs
more_fits PublicInputs n s h Others = h Others
more_fits PrivateInputs n s h Outputs = h Outputs
more_fits PrivateInputs n s h PublicInputs = h PublicInputs
more_fits PrivateInputs n s h PrivateInputs = sum_fits s.private_inputs n
more_fits PrivateInputs n s h Others = h Others
more_fits Others n s h Outputs = h Outputs
more_fits Others n s h PublicInputs = h PublicInputs
more_fits Others n s h PrivateInputs = h PrivateInputs
more_fits Others n s h Others = sum_fits s.others n

pub more_here : (g : Group) (n : ℕ) (s : Sizes) → size_in g (more_in g n s) ≡ count_sum
    (size_in g s) n
more_here Outputs n s = refl
more_here PublicInputs n s = refl
more_here PrivateInputs n s = refl
more_here Others n s = refl

-- what a template's body adds
abbrev pub IsGrowing : Maker → Type 0
IsGrowing make =
    (w : Where) (t : ℕ) (ds : List Datum) (path : List ℕ) (world : World) (signals : Signals)
    (after : World) → make w t ds path world ≡ Ok (signals, after) → Fits world.sizes
    → Fits after.sizes × Less world.sizes after.sizes
