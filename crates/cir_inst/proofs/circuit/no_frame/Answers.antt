use Rattle.std.proofs.Common.{◌≡◌, List, map, subst}
use Rattle.std.specs.Prelude.{IfOk}
use Rattle.cir_meaning.specs.Frame.{begun}
use Rattle.cir_arrays.specs.declared.arrays.Datum.{Datum}
use Rattle.cir_arrays.specs.Shown.{datum_of}
use Rattle.cir_frame.specs.Shown.{frame_of}
use Rattle.cir_inst.proofs.circuit.no_frame.Goals as goal

pub returns : goal.returns
returns c = λ k.
    subst (λ (ds : List Datum). IfOk c.begun.result (λ f. frame_of f k
    ≡ record (begun (map datum_of ds) 0 0 0) { added = k })) c.new.ensures.items
    (c.begun.ensures k)
