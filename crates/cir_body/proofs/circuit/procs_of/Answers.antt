use Rattle.std.proofs.Common.{List, ◌++◌, map, sym, subst}
use Rattle.cir_ast.specs.Program.{bare_program}
use Rattle.cir_meaning.specs.Costs.{Made as Key}
use Rattle.cir_rules.specs.Shown.{made_of}
use Rattle.wit_code.specs.declared.code.Proc.{Proc}
use Rattle.wit_lower.specs.Procedures.{IsTable}
use Rattle.cir_body.proofs.circuit.procs_of.Goals as goal

pub returns-in-Ok : goal.returns-in-Ok
returns-in-Ok c = λ runnable.
    let p = bare_program c.args.program.now in
    let t = c.in-Ok.table in
    let grows = c.in-Ok.ensures.grows in
    let keys : List Key = map made_of c.args.keys.calls.items ++ grows.later in (
      grows.later,
      subst (λ (ps : List Proc). IsTable p keys ps) (sym c.finish.ensures)
          (subst (λ (ks : List Key). IsTable p ks t.procs.items) grows.is
          (c.in-Ok.ensures.table runnable)),
    )
