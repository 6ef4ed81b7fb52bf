-- Heads and tables from one statement or definition to the next.
use Rattle.std.proofs.Common.{◌≡◌, ◌∙◌, ℕ, ◌+◌, List, [], ◌∷◌, ◌++◌, length, length-append}
use Rattle.std.proofs.Common.{refl, arith}
use Rattle.std.specs.Prelude.{map}
use Rattle.std.proofs.lemmas.List.{drop_all, append-nil}
use Rattle.std.proofs.lemmas.Option.{slice_get-map}
use Rattle.cir_ast.specs.declared.operators.Direction.TheVariants.{Input, Output}
use Rattle.cir_ast.specs.declared.program.Spot.{Spot}
use Rattle.cir_ast.specs.declared.program.Meant.{Meant}
use Rattle.cir_ast.specs.Tree.{Signal, Signals, Statement, Ended, Statements, empty, then_more}
use Rattle.cir_ast.specs.Program.{Template}
use Rattle.cir_checks.specs.Faults.{Names, no_names, and_name, and_names}
use Rattle.cir_checks.specs.Heads.{Head, head_of, all_declared}
use Rattle.cir_checks.specs.Answers.{with_statement, with_statements}

-- a head with so many parameters, and with these signals besides those that it had
abbrev with_all : Head → List (Signal Meant) → List (Signal Meant) → Head
with_all h inputs outputs =
    record {
      parameters = h.parameters;
      is_input = and_names h.is_input (map (λ s. s.name) inputs);
      inputs = h.inputs + length inputs;
      outputs = h.outputs + length outputs;
    }

and_names-append : (names : Names) (xs ys : List (Signal Meant))
    → and_names names (map (λ s. s.name) (xs ++ ys))
    ≡ and_names (and_names names (map (λ s. s.name) xs)) (map (λ s. s.name) ys)
and_names-append names [] ys = refl
and_names-append names (x ∷ xs) ys = and_names-append (and_name names x.name) xs ys

more : (n : ℕ) (xs ys : List (Signal Meant)) → n + length xs + length ys ≡ n + length (xs ++ ys)
more n xs ys = omega (arith, length-append xs ys)

with_one : (h : Head) (s : Statement Spot Meant) (ss : Statements Spot Meant)
    → with_all (with_statement h s) (all_declared Input ss) (all_declared Output ss)
    ≡ with_all h (all_declared Input (then_more s ss)) (all_declared Output (then_more s ss))
with_one h (Ended spot (Signals Input xs)) ss =
    cc (
      and_names-append h.is_input xs (all_declared Input ss),
      more h.inputs xs (all_declared Input ss),
    )
with_one h (Ended spot (Signals Output xs)) ss = cc (more h.outputs xs (all_declared Output ss))
with_one h _ ss = refl

-- statements add up to what they declare
declared_by : (h : Head) (ss : Statements Spot Meant)
    → with_statements h ss ≡ with_all h (all_declared Input ss) (all_declared Output ss)
declared_by h empty =
    let none : (n : ℕ) → n + 0 ≡ n = λ n. omega arith in
    rw (none h.inputs, none h.outputs) refl
declared_by h (then_more s ss) = declared_by (with_statement h s) ss ∙ with_one h s ss

pub head_is : (t : Template)
    → head_of t
    ≡ with_statements
    (record { parameters = length t.parameters; is_input = no_names; inputs = 0; outputs = 0 })
    t.body
head_is t =
    let none : (n : ℕ) → 0 + n ≡ n = λ n. omega arith in
    rw (
      declared_by,
      none (length (all_declared Input t.body)),
      none (length (all_declared Output t.body)),
    ) refl

pub ruleset rules = (slice_get-map, append-nil, drop_all)
