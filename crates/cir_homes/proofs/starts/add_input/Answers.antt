use Rattle.std.proofs.Common.{◌≡◌, ◌∙◌, ℕ, List, ◌++◌, length, map, ap, sym, subst}
use Rattle.std.specs.Prelude.{OnOk}
use Rattle.std.proofs.lemmas.List.{append-nil}
use Rattle.cir_ast.specs.Program.{bare_main}
use Rattle.cir_meaning.specs.Places.{numbers_from}
use Rattle.cir_steps.specs.Emission.{wire_cell}
use Rattle.cir_make.specs.Cells.{wires_by}
use Rattle.cir_homes.specs.Started.{is_chosen}
use Rattle.cir_homes.proofs.Starting.{chosen_is}
use Rattle.cir_homes.proofs.starts.add_input.Goals as goal

pub returns-then-is_chosen : goal.returns-then-is_chosen
returns-then-is_chosen c =
    let starts = c.args.starts.now.items in
    let new = c.add_elements.new.starts.items in
    let r = c.add_elements.result in
    let many : c.len.result ≡ length c.in-Some.entry.written.items =
    c.len.ensures.value in
    subst (λ (l : List ℕ). OnOk r (new ≡ starts ++ l))
    (sym (chosen_is (is_chosen (bare_main c.args.main.now) c.args.public)
    (wires_by c.args.ports.now) c.args.n c.args.signal.now c.in-Some.entry _ c.in-Some.is
    (sym c.is_chosen.ensures ∙ c.if-is_chosen.true)))
    (subst (λ (k : ℕ). OnOk r (new ≡ starts
    ++ map (wire_cell (wires_by c.args.ports.now) c.args.n) (numbers_from 0 k))) many
    c.add_elements.ensures)

pub returns : goal.returns
returns c =
    sym (ap (λ l. c.args.starts.now.items ++ l)
    (chosen_is (is_chosen (bare_main c.args.main.now) c.args.public)
    (wires_by c.args.ports.now) c.args.n c.args.signal.now c.in-Some.entry _ c.in-Some.is
    (sym c.is_chosen.ensures ∙ c.if-is_chosen.false))
    ∙ append-nil c.args.starts.now.items)
