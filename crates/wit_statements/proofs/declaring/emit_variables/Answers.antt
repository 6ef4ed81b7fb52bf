use Rattle.std.proofs.Common.{◌∙◌, ◌+◌, ◌++◌, length, drop, ap, sym, append-nil}
use Rattle.std.specs.Prelude.{map}
use Rattle.std.proofs.lemmas.List.{at_drop_all}
use Rattle.cir_ast.specs.Tree.{bare_variable}
use Rattle.cir_arrays.proofs.Lists.{at_read}
use Rattle.wit_lower.specs.Homes as L
use Rattle.wit_lower.specs.Pieces as P
use Rattle.wit_lower.specs.Statements as S
use Rattle.wit_sourced.specs.Shown.{scope_of}
use Rattle.wit_emit.specs.Grounds.{ground_of}
use Rattle.wit_emit.proofs.Chained.{chained}
use Rattle.wit_sourced.proofs.Left.{begins_then}
use Rattle.wit_statements.proofs.declaring.emit_variables.Goals as goal

pub loop-v-preserved : goal.loop-v-preserved
loop-v-preserved c =
    let g = ground_of c.args.ground.now in
    let loop = c.loop-v in
    let s = scope_of loop.scope in
    let vs = c.args.vs.now in
    let x = c.v-item.result in
    let v = bare_variable x in
    let rest = map bare_variable (drop (loop.v-index + 1) vs) in
    let behind = S.variable_scope g s v in
    let made = c.in_ok-emit_variable.ensures in
    let new = c.emit_variable.new.code in
    let code = at_read (λ l. loop.code ++ S.variables_code g s (length loop.code)
    (map bare_variable l)) vs loop.v-index x c.loop-v-test.true c.v-item.is in
    let scope = at_read (λ l. S.variables_scope g s (map bare_variable l)) vs loop.v-index x
    c.loop-v-test.true c.v-item.is in (
      ap (λ (y : L.Scope). new ++ S.variables_code g y (length new) rest) made.scope.shows
          ∙ ap (λ (k : P.Code). k ++ S.variables_code g behind (length k) rest) made.code
          ∙ chained loop.code (S.variable_code g s (length loop.code) v)
          (λ p. S.variables_code g behind p rest)
          ∙ sym code ∙ loop.invariant.0,
      ap (λ (y : L.Scope). S.variables_scope g y rest) made.scope.shows ∙ sym scope
          ∙ loop.invariant.1,
      begins_then c.args.scope.now.homes.items loop.scope.homes.items
          c.emit_variable.new.scope.homes.items loop.invariant.2 made.scope.begins,
    )

pub returns-clause-code : goal.returns-clause-code
returns-clause-code c =
    let g = ground_of c.args.ground.now in
    let loop = c.loop-v in
    sym (append-nil loop.code)
    ∙ sym (at_drop_all (λ l. loop.code ++ S.variables_code g (scope_of loop.scope)
    (length loop.code) (map bare_variable l)) c.args.vs.now loop.v-index c.loop-v-test.false)
    ∙ loop.invariant.0

pub returns-clause-scope : goal.returns-clause-scope
returns-clause-scope c =
    let g = ground_of c.args.ground.now in
    let loop = c.loop-v in record {
      shows = sym (at_drop_all (λ l. S.variables_scope g (scope_of loop.scope)
          (map bare_variable l)) c.args.vs.now loop.v-index c.loop-v-test.false)
          ∙ loop.invariant.1;
      begins = loop.invariant.2;
    }
