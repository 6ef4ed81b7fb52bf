use Rattle.std.proofs.Common.{◌≡◌, List, Bool, [], sym}
use Rattle.std.proofs.lemmas.Bool.{eqb-true}
use Rattle.std.proofs.lemmas.List.{nil_from_length}
use Rattle.cir_frame.proofs.SignalsRead.{unmarked}
use Rattle.cir_frame.proofs.reading.is_each_written.Goals as goal

pub returns-then-is_empty : goal.returns-then-is_empty
returns-then-is_empty c =
    let ws : List Bool = c.args.entry.now.written.items in
    let none = eqb-true _ _ (sym c.if-is_empty.ensures) in
    let e : ws ≡ [] = nil_from_length ws none in
    unmarked c.args.entry.now e _
