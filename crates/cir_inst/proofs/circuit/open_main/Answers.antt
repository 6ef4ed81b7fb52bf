use Rattle.std.proofs.Common.{◌≡◌, ℕ, List, map, Some, sym, ap, subst, ◌∙◌, slice_get}
use Rattle.std.specs.Prelude.{codes, option_map}
use Rattle.std.proofs.lemmas.Option.{slice_get-map}
use Rattle.cir_ast.specs.Program.{Program, Template, bare_program, bare_template}
use Rattle.cir_meaning.specs.Tried.{Tried}
use Rattle.cir_meaning.specs.Frame.{Signals, World}
use Rattle.cir_meaning.specs.Bodies.{call_at, make_at, most_open}
use Rattle.cir_meaning.specs.Compile.{group_size, main_group}
use Rattle.cir_arrays.specs.Shown.{datum_of}
use Rattle.cir_frame.specs.Shown.{world_of}
use Rattle.cir_evaluate.specs.Within.{at_spot}
use Rattle.cir_create.specs.Makes.{Creates}
use Rattle.cir_inst.specs.Opened.{template_made}
use Rattle.cir_inst.proofs.Mains.{opening_found}
use Rattle.cir_inst.proofs.circuit.open_main.Goals as goal

pub returns-clause-creates : goal.returns-clause-creates
returns-clause-creates g c = λ qs.
    let p : Program = bare_program c.args.context.now.program.now in
    let t : Template = bare_template c.in-Some.template.now in
    let there : slice_get p.templates c.args.t ≡ Some t =
    slice_get-map bare_template c.args.context.now.program.now.templates c.args.t
    ∙ ap (option_map bare_template) (sym c.in-Some.ensures.value) in
    subst (λ (m : Tried (Signals × World)).
    Creates qs c.args.world.now c.run_template.new.world c.run_template.result m)
    (sym (opening_found p c.args.main.now.public
    (at_spot c.args.context.now c.args.main.now.spot) c.args.t t
    (map datum_of c.args.arguments.items) (world_of c.args.world.now qs) there))
    (subst (λ (names : List (List ℕ)). Creates qs c.args.world.now c.run_template.new.world
    c.run_template.result (template_made p (call_at p group_size most_open)
    (make_at p group_size 255) (main_group names) t (map datum_of c.args.arguments.items)
    (codes "main") (world_of c.args.world.now qs))) c.as_slice.ensures
    (c.run_template.ensures.creates qs))
