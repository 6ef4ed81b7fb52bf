use Rattle.std.proofs.Common.{◌∙◌}
use Rattle.cir_ast.specs.Program.{bare_main}
use Rattle.cir_make.specs.Cells.{wires_by}
use Rattle.cir_homes.specs.Started.{is_chosen}
use Rattle.cir_homes.proofs.Starting.{inputs_end, inputs_next}
use Rattle.cir_homes.proofs.starts.add_inputs.Goals as goal

pub loop-n-preserved : goal.loop-n-preserved
loop-n-preserved c =
    inputs_next (is_chosen (bare_main c.args.main.now) c.args.public) (wires_by c.args.ports.now)
    c.loop-n.starts.items c.add_input.new.starts.items c.loop-n.n c.index-signals-n.result
    c.args.signals.now c.loop-n-test.true c.index-signals-n.is c.in_ok-add_input.ensures
    ∙ c.loop-n.invariant

pub returns : goal.returns
returns c =
    inputs_end (is_chosen (bare_main c.args.main.now) c.args.public) (wires_by c.args.ports.now)
    c.loop-n.starts.items c.loop-n.n c.args.signals.now c.loop-n-test.false
    ∙ c.loop-n.invariant
