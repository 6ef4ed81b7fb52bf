-- The numbers of a log line are in the cells that its step writes.
use Rattle.std.proofs.Common.{◌≡◌, ℕ, suc, ◌+◌, ◌<◌, List, [], ◌∷◌, sym, subst, arith}
use Rattle.std.specs.Prelude.{cond}
use Rattle.std.proofs.lemmas.List.Sums.{sum_by-cons}
use Rattle.cir_ast.specs.declared.program.Meant.{Meant}
use Rattle.cir_ast.specs.Tree.{LogArgument, Words, LogValue}
use Rattle.cir_meaning.specs.Places.{numbers_from}
use Rattle.cir_meaning.specs.Steps.{is_value, logged_cells}
use Rattle.cir_steps.specs.Step.{LogPart, Text, Logged}
use Rattle.cir_steps.specs.Written.{times}
use Rattle.cir_steps.specs.Lines.{NumbersOf}
use Rattle.cir_steps.specs.Making.{log_parts}
use Rattle.cir_steps.proofs.FreshSteps.{here_once}

more_targets : (t : ℕ) (ts : List ℕ) (parts : List LogPart) → NumbersOf ts parts
    → NumbersOf (t ∷ ts) parts
more_targets t ts [] h = tt
more_targets t ts (Text text ∷ rest) h = more_targets t ts rest h
more_targets t ts (Logged c ∷ rest) h =
    let there : 0 < times c ts = h.0 in (omega arith, more_targets t ts rest h.1)

pub log_numbers : (arguments : List (LogArgument Meant)) (next : ℕ)
    → NumbersOf (numbers_from next (logged_cells arguments)) (log_parts next arguments)
log_numbers [] next = tt
log_numbers (Words text ∷ rest) next =
    subst (λ n. NumbersOf (numbers_from next n) (log_parts next rest)) (sym count)
    (log_numbers rest next)
  where
    count : logged_cells (Words text ∷ rest) ≡ logged_cells rest
    count =
        let all : logged_cells (Words text ∷ rest) ≡ 0 + logged_cells rest =
        sum_by-cons (λ (a : LogArgument Meant). cond (is_value a) 1 0) (Words text) rest in
        omega arith
log_numbers (LogValue e ∷ rest) next =
    subst (λ n. NumbersOf (numbers_from next n) (log_parts next (LogValue e ∷ rest))) (sym count) (
      (let once : times next (next ∷ others) ≡ 1 + times next others = here_once next others in
          omega arith),
      more_targets next others (log_parts (next + 1) rest) (log_numbers rest (next + 1)),
    )
  where
    others : List ℕ
    others = numbers_from (next + 1) (logged_cells rest)

    count : logged_cells (LogValue e ∷ rest) ≡ suc (logged_cells rest)
    count =
        let all : logged_cells (LogValue e ∷ rest) ≡ 1 + logged_cells rest =
        sum_by-cons (λ (a : LogArgument Meant). cond (is_value a) 1 0) (LogValue e) rest in
        omega arith
