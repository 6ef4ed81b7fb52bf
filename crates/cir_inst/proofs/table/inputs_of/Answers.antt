use Rattle.std.proofs.Common.{◌≡◌, ℕ, ◌+◌, List, ◌++◌, map, sym, ap, ◌∙◌, arith}
use Rattle.cir_values.specs.declared.signals.InputShape.{InputShape}
use Rattle.cir_frame.specs.declared.world.Group.TheVariants.{PublicInputs, PrivateInputs}
use Rattle.cir_meaning.specs.Frame as F
use Rattle.cir_meaning.specs.Compile as M
use Rattle.cir_meaning.specs.Compile.{shapes_of}
use Rattle.cir_inst.specs.Table.{shape_of}
use Rattle.cir_inst.proofs.Tables.{rows_in, total_of, shapes_append}
use Rattle.cir_inst.proofs.table.inputs_of.Goals as goal

pub returns : goal.returns
returns c =
    let xs : List F.Row = rows_in PublicInputs c.args.rows.now in
    let ys : List F.Row = rows_in PrivateInputs c.args.rows.now in
    let first : c.from-first.result + 1 ≡ 1 + c.args.outputs =
    omega (arith, c.in_ok-narrow.ensures.ok) in
    let next : c.in_ok-next.next ≡ 1 + c.args.outputs + total_of xs =
    c.in_ok-next.ensures.next ∙ ap (λ (n : ℕ). n + total_of xs) first in
    c.in_ok-_end.ensures.shapes
    ∙ ap (λ (ss : List M.InputShape). ss ++ shapes_of c.in_ok-next.next ys)
    (c.in_ok-next.ensures.shapes
    ∙ ap (λ (is : List InputShape). map shape_of is ++ shapes_of (c.from-first.result + 1) xs)
    c.new-inputs.ensures.items)
    ∙ ap (λ (n : ℕ). shapes_of n xs ++ shapes_of c.in_ok-next.next ys) first
    ∙ ap (λ (n : ℕ). shapes_of (1 + c.args.outputs) xs ++ shapes_of n ys) next
    ∙ sym (shapes_append (1 + c.args.outputs) xs ys)
