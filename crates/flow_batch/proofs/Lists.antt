-- Tasks of one flow, a list of start values each
use Rattle.std.proofs.Common.{◌≡◌, ℕ, ◌*◌, ◌≤◌, List, [], ◌∷◌, length, map}
use Rattle.std.proofs.Common.{Vec}
use Rattle.std.proofs.Common.{Global, refl, ap, arith}
use Rattle.std.specs.List.{AllZip}
use Rattle.std.proofs.lemmas.List.{length-map}
use Rattle.std.proofs.lemmas.List.Elements.{All-map}
use Rattle.std.proofs.Math.Nat.{mul-le-mul_left}
use Rattle.wit_flow.specs.Plan.{Plan}
use Rattle.wit_flow.specs.declared.Outcome.{Outcome}
use Rattle.flow_engine.specs.Task.{Task, task, AreNumbered, IsOneThread}
use Rattle.flow_batch.specs.Batch.{AreFew, size_each}

pub zip_of_map : {A B C : Type 0} (f : A → B) (R : B → C → Type 0) (xs : List A) (ys : List C)
    → AllZip R (map f xs) ys → AllZip (λ x y. R (f x) y) xs ys
zip_of_map f R [] [] h = tt
zip_of_map f R [] (y ∷ ys) h = absurd h
zip_of_map f R (x ∷ xs) [] h = absurd h
zip_of_map f R (x ∷ xs) (y ∷ ys) h = (h.0, zip_of_map f R xs ys h.1)

abbrev pub tasks_of : Plan → ℕ → List (Vec ℕ Global) → List Task
tasks_of p fuel starts = map (λ (s : Vec ℕ Global). task p s.items fuel) starts

pub tasks_fit : (p : Plan) (fuel : ℕ) (starts : List (Vec ℕ Global))
    → AreFew p (length starts) → AreNumbered p.graph.strands (tasks_of p fuel starts)
tasks_fit p fuel starts few =
    let long = length-map starts (λ (s : Vec ℕ Global). task p s.items fuel) in
    let le : p.graph.strands ≤ size_each p = omega arith in
    let all = mul-le-mul_left (length starts) le in
    let same : length (tasks_of p fuel starts) * p.graph.strands
    ≡ length starts * p.graph.strands = ap (λ (n : ℕ). n * p.graph.strands) long in record {
      each = All-map (λ (t : Task). t.plan.graph.strands ≡ p.graph.strands)
          (λ (s : Vec ℕ Global). task p s.items fuel) starts (λ k d lt. refl);
      few = omega arith;
    }

pub outcomes_of : (p : Plan) (fuel : ℕ) (starts : List (Vec ℕ Global)) (os : List Outcome)
    → AllZip IsOneThread (tasks_of p fuel starts) os
    → AllZip (λ s o. IsOneThread (task p s.items fuel) o) starts os
outcomes_of p fuel starts os h =
    zip_of_map (λ (s : Vec ℕ Global). task p s.items fuel) IsOneThread starts os h
