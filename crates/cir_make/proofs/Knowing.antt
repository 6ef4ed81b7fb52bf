-- The value of a call, from what it is where it stands.
use Rattle.std.proofs.Common.{◌≡◌, Some, Result, Ok, Err, OnOk, ap}
use Rattle.cir_meaning.specs.Arrays.{Datum}
use Rattle.cir_meaning.specs.Costs.{datum_of}
use Rattle.cir_meaning.specs.Frame.{State}
use Rattle.cir_meaning.specs.Run.{known_numbers, known_value}
use Rattle.cir_meaning.specs.Tried.{Tried}

pub told_known : (m : Tried (Datum × State)) (d : Datum) → Some d ≡ datum_of m
    → known_value m ≡ known_numbers d
told_known (Ok (x, s)) d e =
    let same : x ≡ d = cc in
    ap known_numbers same
told_known (Err f) d e = cc

pub on_ok : {A B : Type 0} (r : Result A B) {C : Type 0} → C → OnOk r C
on_ok (Ok a) c = c
on_ok (Err b) c = tt
