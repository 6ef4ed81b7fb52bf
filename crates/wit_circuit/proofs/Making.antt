-- Steps as they are made, taken apart: their places and their log lines.
use Rattle.std.proofs.Common.{◌≡◌, ℕ, ◌+◌, List, [], ◌∷◌, ◌++◌, map, refl, ap, Some}
use Rattle.std.proofs.Common.{Option, None}
use Rattle.std.proofs.lemmas.List.{append-nil, append_assoc}
use Rattle.cir_steps.specs.Step.{Step}
use Rattle.wit_circuit.specs.declared.code.LogLine.{LogLine}
use Rattle.wit_circuit.specs.declared.code.LogPart.{LogPart}
use Rattle.wit_circuit.specs.declared.code.StepPlace.{StepPlace}
use Rattle.wit_circuit.specs.declared.columns.MadeStep.{MadeStep}
use Rattle.wit_circuit.specs.Whole.{place_of, log_of, logs_from, AreStepsOf}

abbrev pub places_of : List MadeStep → List StepPlace
places_of ms = map (λ (m : MadeStep). m.place) ms

abbrev pub logs_of : ℕ → List MadeStep → List LogLine
logs_of n [] = []
logs_of n (m ∷ ms) = log_of n m.line (logs_of (n + 1) ms)

pub log_more : (n : ℕ) (line : Option (List LogPart)) (logs rest : List LogLine)
    → (logs ++ log_of n line []) ++ rest ≡ logs ++ log_of n line rest
log_more n None logs rest = ap (λ l. l ++ rest) (append-nil logs)
log_more n (Some parts) logs rest =
    append_assoc logs (record { step = n; parts = parts } ∷ []) rest

pub places_are : (ss : List Step) (ms : List MadeStep) → AreStepsOf ss ms
    → places_of ms ≡ map (λ (s : Step). place_of s.place) ss
places_are [] [] h = refl
places_are [] (m ∷ ms) h = absurd h
places_are (s ∷ ss) [] h = absurd h
places_are (s ∷ ss) (m ∷ ms) h =
    let rest = places_are ss ms h.1 in λ i. h.0.place i ∷ rest i

pub logs_are : (n : ℕ) (ss : List Step) (ms : List MadeStep) → AreStepsOf ss ms
    → logs_of n ms ≡ logs_from n ss
logs_are n [] [] h = refl
logs_are n [] (m ∷ ms) h = absurd h
logs_are n (s ∷ ss) [] h = absurd h
logs_are n (s ∷ ss) (m ∷ ms) h =
    let rest = logs_are (n + 1) ss ms h.1 in λ i. log_of n (h.0.line i) (rest i)
