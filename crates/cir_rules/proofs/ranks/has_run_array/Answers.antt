use Rattle.std.proofs.Common.{◌≡◌, ◌∙◌, ap, sym, arith}
use Rattle.std.proofs.lemmas.List.{length-map}
use Rattle.std.specs.Prelude.{◌||◌, map}
use Rattle.cir_ast.specs.Program.{bare_program}
use Rattle.cir_meaning.specs.Reached.{same_call, ranked_calls, returns_array}
use Rattle.cir_rules.specs.Shown.{made_of}
use Rattle.cir_rules.specs.Ranked.{ranked_of, ranked_made}
use Rattle.cir_rules.proofs.Reaching.{visits_more, visits_all}
use Rattle.cir_rules.proofs.ranks.has_run_array.Goals as goal
use Rattle.cir_rules.proofs.ranks.has_run_array.Goals.{then-found, else-found}

pub visits-preserved : goal.visits-preserved
visits-preserved c =
    let p = bare_program c.args.program.now in
    let returns = c.in_ok-returns.returns in
    let either : c.if-found.found ≡ (c.visits.found || returns) =
    elim c.if-found.branch [
      | then-found w ↦ w.found-is ∙ w.if-found.true ∙ ap (λ b. b || returns) (sym w.if-found.true)
      | else-found w ↦ w.found-is ∙ ap (λ b. b || returns) (sym w.if-found.false)
    ] in
    rw either (visits_more same_call (ranked_calls p) (returns_array p)
    (map ranked_made (map made_of c.args.made.now)) (map ranked_of c.visits.known.items) _
    c.visits.at c.visits.found returns c.visits.invariant
    (let size = length-map c.visits.known.items ranked_of in omega (arith, size, c.len.ensures))
    c.in_ok-returns.ensures.more c.in_ok-returns.ensures.told)

pub returns : goal.returns
returns c =
    let p = bare_program c.args.program.now in
    visits_all same_call (ranked_calls p) (returns_array p)
    (map ranked_made (map made_of c.args.made.now)) (map ranked_of c.visits.known.items)
    c.visits.at c.visits.found c.visits.invariant
    (let size = length-map c.visits.known.items ranked_of in omega (arith, size, c.len.ensures))
    (omega (arith, c.visits.auto.at-fits))
