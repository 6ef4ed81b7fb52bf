-- What simplification answers.
use Rattle.std.specs.Prelude.{◌≡◌, ℕ, List, map, Result, Ok, Err}
use Rattle.gold_field.specs.declared.form.Constraint.{Constraint}
use Rattle.cir_simplify.specs.declared.types.Rules.{Rules}
use Rattle.cir_simplify.specs.declared.types.Simple.{Simple}
use Rattle.cir_simplify.specs.declared.types.SimpFault.{SimpFault}
use Rattle.cir_simplify.specs.declared.types.SimpFault.TheVariants.{Terms, OutOfMemory}
use Rattle.cir_simplify.specs.Turn.{Simplified, simplified}
use Rattle.cir_simplify.specs.Wires.{is_kept, kept_below, wire_of, renamed_in}

-- the wires are the kept signals, and the constraints stand over their places
pub record IsOverWires (r : Rules) (end : Simplified) (simple : Simple) : Type 0 where
  pub wires : simple.wires ≡ kept_below (is_kept r.level r.kept end.list) r.bound
  pub constraints : simple.constraints
      ≡ map (renamed_in (wire_of (is_kept r.level r.kept end.list))) end.list
  pub solved : simple.solved ≡ end.solved

-- a list has too many terms: their count
abbrev pub AnswersFault : SimpFault → Result Simplified ℕ → Type 0
AnswersFault (Terms count) wanted = wanted ≡ Err count
AnswersFault OutOfMemory wanted = Unit {0}

abbrev pub Simplifies : Rules → List Constraint → Result Simple SimpFault → Type 0
Simplifies r list (Ok simple) =
    (end : Simplified) × (simplified r list ≡ Ok end) × IsOverWires r end simple
Simplifies r list (Err fault) = AnswersFault fault (simplified r list)
