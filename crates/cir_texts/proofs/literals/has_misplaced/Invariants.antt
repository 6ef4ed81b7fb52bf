use Rattle.std.proofs.Common.{◌≡◌, drop}
use Rattle.std.specs.Prelude.{map}
use Rattle.std.specs.List.{list_any}
use Rattle.cir_meaning.specs.Reached.{is_misplaced}
use Rattle.cir_texts.specs.Shown.{wanted_of}
use Rattle.cir_texts.proofs.literals.has_misplaced.Given as goal

abbrev pub invariant-loop-each : goal.invariant-loop-each
invariant-loop-each l =
    list_any (λ x. is_misplaced x.want x.expr) (map wanted_of (drop l.each-index l.wanted))
    ≡ list_any (λ x. is_misplaced x.want x.expr) (map wanted_of l.wanted)
