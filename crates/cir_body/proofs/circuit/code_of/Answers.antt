use Rattle.std.proofs.Common.{◌≡◌, ◌∙◌, [], ◌++◌}
use Rattle.cir_ast.specs.Program.{bare_program}
use Rattle.cir_steps.proofs.CheckedPlaces.{checked_places}
use Rattle.cir_make.proofs.Coding.{made_code, made_steps}
use Rattle.cir_make.specs.Shows.{keys_of}
use Rattle.cir_make.proofs.Growing.{made_grows}
use Rattle.cir_body.proofs.circuit.code_of.Goals as goal

pub returns : goal.returns
returns c = λ b is counts runnable.
    let p = bare_program c.args.program.now in
    let keys = keys_of c.args.made in
    let steps = c.args.cast.steps.items in
    let table = c.in_ok-procs.ensures runnable in
    c.of.ensures p b (made_steps keys b.steps steps is.steps)
    (c.code_of_circuits_is_made.ensures p b (keys ++ table.0) c.in_ok-procs.procs.items _
    c.requires.resolved (checked_places p c.requires.checked) counts is.emitted
    (made_code (keys ++ table.0) b.steps steps (made_grows keys table.0 b.steps steps is.steps))
    table.1)
    is.cells
    ((rw (c.as_slice.ensures.value, c.as_slice-2.ensures.value) at c.in_ok-starts.ensures)
    ∙ is.starts)
    ((rw (
      c.as_slice-3.ensures.value,
      c.as_slice-4.ensures.value,
      c.as_slice-5.ensures.value,
    ) at c.in_ok-homes.ensures) ∙ is.homes)
