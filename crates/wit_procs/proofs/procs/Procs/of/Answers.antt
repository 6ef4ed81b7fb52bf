use Rattle.std.proofs.Common.{◌≡◌, [], map, length, drop, ap, refl, subst}
use Rattle.cir_ast.specs.Program.{bare_program}
use Rattle.cir_rules.specs.Shown.{made_of}
use Rattle.wit_lower.specs.Procedures.{IsTable}
use Rattle.wit_procs.specs.Promised.{Refuses}
use Rattle.wit_procs.proofs.Tables.{no_table, err_is}
use Rattle.wit_procs.proofs.procs.Procs.of.Goals as goal

pub returns-clause-whole : goal.returns-clause-whole
returns-clause-whole c = λ runs.
    c.in_ok-fill.ensures.whole record {
      runnable = runs;
      before = [];
      later = map made_of c.args.keys.calls.items;
      is = refl;
      count = ap length c.new-none.ensures.items;
      table = no_table (bare_program c.args.program.now) c.new-none.result.items
          c.new-none.ensures.items;
    }

pub returns-clause-table : goal.returns-clause-table
returns-clause-table c = λ runs.
    subst (λ p. IsTable (bare_program p.now) (map made_of c.fill.new.self.keys.calls.items)
    c.fill.new.self.procs.items) c.in_ok-fill.ensures.program
    (c.in_ok-fill.ensures.whole record {
      runnable = runs;
      before = [];
      later = map made_of c.args.keys.calls.items;
      is = refl;
      count = ap length c.new-none.ensures.items;
      table = no_table (bare_program c.args.program.now) c.new-none.result.items
          c.new-none.ensures.items;
    }).table

pub returns-in_err-fill-clause-refused : goal.returns-in_err-fill-clause-refused
returns-in_err-fill-clause-refused c =
    err_is c.from_residual.result c.in_err-fill.field-0.0
    (Refuses (bare_program c.args.program.now) (map made_of c.args.keys.calls.items))
    c.from_residual.ensures.1
    (subst (λ ks. Refuses (bare_program c.args.program.now)
    (drop (length ks) (map made_of c.args.keys.calls.items)) c.in_err-fill.field-0.0)
    c.new-none.ensures.items c.in_err-fill.ensures.refused)
