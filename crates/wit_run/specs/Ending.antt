-- What the end of a circuit's run tells of the program's run.
use Rattle.std.specs.Prelude.{◌≡◌, ℕ, List, map, slice_get, Some, Ok, Err}
use Rattle.wit_code.specs.declared.code.Stop.{Stop}
use Rattle.wit_code.specs.Table.{stop_number}
use Rattle.cir_meaning.specs.Tried.{Where}
use Rattle.cir_meaning.specs.Run.{RunTried, Stopped as StoppedSo}
use Rattle.cir_meaning.specs.RunBodies.{Ending}
use Rattle.wit_circuit.specs.declared.code.StepPlace.{StepPlace}
use Rattle.wit_circuit.specs.Whole.{place_of}
use Rattle.wit_run.specs.declared.ending.RunEnd.{RunEnd}
use Rattle.wit_run.specs.declared.ending.RunEnd.TheVariants.{Ended, Stopped}

-- the run stops so, at this place among instances with these paths, and behind these lines
pub record StopsBy (instances : List (List ℕ)) (why : Stop) (there : StepPlace)
    (log : List (List ℕ)) (r : RunTried Ending) : Type 0 where
  pub number : ℕ
  pub at : Where
  pub run : r ≡ Err (StoppedSo number at log)
  pub stop : stop_number why ≡ Some number
  pub place : there ≡ place_of at
  pub path : slice_get instances there.instance ≡ Some at.path

-- the run ends with these values of all signals and these lines, or stops so
abbrev pub IsEndOf : List (List ℕ) → RunEnd → RunTried Ending → Type 0
IsEndOf instances (Ended values log) r =
    r ≡ Ok (record { values = map Some values; log = log })
IsEndOf instances (Stopped stop place log) r = StopsBy instances stop place log r
