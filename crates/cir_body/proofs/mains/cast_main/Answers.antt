use Rattle.std.proofs.Common.{◌≡◌, ℕ, List, map, Some, sym, ap, subst, ◌∙◌, slice_get}
use Rattle.std.specs.Prelude.{codes, option_map}
use Rattle.std.proofs.lemmas.Option.{slice_get-map}
use Rattle.cir_ast.specs.Program.{Program, Template, bare_program, bare_template}
use Rattle.cir_meaning.specs.Tried.{Tried}
use Rattle.cir_meaning.specs.Frame.{Signals, World}
use Rattle.cir_meaning.specs.Bodies.{call_at, make_at, most_open}
use Rattle.cir_meaning.specs.Compile.{group_size, main_group}
use Rattle.cir_arrays.specs.Shown.{datum_of}
use Rattle.cir_frame.specs.Shown.{world_of}
use Rattle.cir_evaluate.specs.Within.{at_spot}
use Rattle.cir_steps.specs.Making as S
use Rattle.cir_steps.specs.Statements.{cast_at}
use Rattle.cir_make.specs.Means.{Casts}
use Rattle.cir_body.specs.Bodies.{template_cast}
use Rattle.cir_body.proofs.MainCasts.{main_found}
use Rattle.cir_body.proofs.mains.cast_main.Goals as goal

pub returns-clause-casts : goal.returns-clause-casts
returns-clause-casts g c = λ qs resolved listed.
    let p : Program = bare_program c.args.context.now.program.now in
    let t : Template = bare_template c.in-Some.template.now in
    let there : slice_get p.templates c.args.t ≡ Some t =
    slice_get-map bare_template c.args.context.now.program.now.templates c.args.t
    ∙ ap (option_map bare_template) (sym c.in-Some.ensures.value) in
    let ds = map datum_of c.args.arguments.items in
    let old = c.args.whole.now in
    let w : World = world_of old.world qs in
    let new = c.cast_template.new.whole in
    let r = c.cast_template.result in
    subst (λ (m : Tried ((Signals × World) × S.Cast)). Casts qs old new r m)
    (sym (main_found p c.args.main.now.public
    (at_spot c.args.context.now c.args.main.now.spot) c.args.t t ds w old.made.next there))
    (subst (λ (names : List (List ℕ)). Casts qs old new r (template_cast p
    (call_at p group_size most_open) (make_at p group_size 255) (main_group names)
    (cast_at p group_size 255) t ds (codes "main") w old.made.next)) c.as_slice.ensures
    (c.cast_template.ensures.casts qs c.args.t resolved there listed))
