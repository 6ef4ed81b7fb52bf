-- How the run of a circuit ends, as a user sees it.
use Rattle.std.specs.Prelude.{◌≡◌, ℕ, List, [], length, slice_get, slice_index, unwrap_or}
use Rattle.iden_files.specs.File.{File}
use Rattle.cir_ast.specs.declared.refusal.Place.{Place}
use Rattle.wit_circuit.specs.declared.code.StepPlace.{StepPlace}
use Rattle.wit_code.specs.declared.code.Stop.{Stop}
use Rattle.wit_run.specs.declared.ending.RunEnd.{RunEnd}
use Rattle.wit_run.specs.declared.ending.RunEnd.TheVariants as end
use Rattle.circom_files.specs.declared.outcome.Halt.{Halt}
use Rattle.circom_files.specs.declared.outcome.Ran.{Ran}
use Rattle.circom_files.specs.declared.outcome.Ran.TheVariants.{Ended, Halted}
use Rattle.circom_files.specs.declared.outcome.Generated.{Generated}
use Rattle.circom_files.specs.declared.outcome.Generated.TheVariants as made
use Rattle.circom_gold.specs.Witness.{values_by_wire}

-- a place with the names of its file and its instance
abbrev pub shown_place : (files instances : List (List ℕ)) → StepPlace → Place
shown_place files instances place = record {
  file = unwrap_or (slice_get files place.file) [];
  line = place.spot.line;
  column = place.spot.column;
  path = unwrap_or (slice_get instances place.instance) [];
}

-- the stop at this place, with the lines that were logged before it
pub record IsHaltAt (files instances : List (List ℕ)) (stop : Stop) (place : StepPlace)
    (log : List (List ℕ)) (h : Halt) : Type 0 where
  pub stops : h.stop ≡ stop
  pub there : h.place ≡ shown_place files instances place
  pub behind : h.log ≡ log

-- how `witness` tells the end of a run: with the values of the file's wires, or where it stops
abbrev pub EndsIn : (files instances : List (List ℕ)) → File → RunEnd → Ran → Type 0
EndsIn files instances file (end.Ended numbers log) (Ended values lines) =
    (values ≡ values_by_wire file numbers) × (lines ≡ log)
EndsIn files instances file (end.Ended numbers log) (Halted h) = ⊥
EndsIn files instances file (end.Stopped stop place log) (Ended values lines) = ⊥
EndsIn files instances file (end.Stopped stop place log) (Halted h) =
    IsHaltAt files instances stop place log h

-- how `generate` tells it: with the sizes of the file and the number of its output
abbrev pub GeneratesIn : (files instances : List (List ℕ)) → File → RunEnd → Generated → Type 0
GeneratesIn files instances file (end.Ended numbers log) (made.Ended wires constraints out lines) =
    (wires ≡ file.wires) × (constraints ≡ length file.constraints)
    × (out ≡ slice_index numbers 1) × (lines ≡ log)
GeneratesIn files instances file (end.Ended numbers log) (made.Halted h) = ⊥
GeneratesIn files instances file (end.Stopped stop place log) (made.Ended w c out lines) = ⊥
GeneratesIn files instances file (end.Stopped stop place log) (made.Halted h) =
    IsHaltAt files instances stop place log h
