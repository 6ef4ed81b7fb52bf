use Rattle.std.proofs.Common.{◌≡◌, ◌∙◌, ◌+◌, List, [], ◌++◌, ap, refl, subst, sym, ℕ}
use Rattle.cir_ast.specs.Tree.{bare_signal}
use Rattle.cir_meaning.specs.Declaring.{declare_signal}
use Rattle.cir_meaning.specs.Frame.{State}
use Rattle.cir_arrays.proofs.Exits.{exits}
use Rattle.cir_evaluate.specs.Within.{Kept}
use Rattle.cir_frame.specs.Shown.{state_of}
use Rattle.cir_steps.specs.Emission.{behind, made_elements, put_signal, with_signal, with_state}
use Rattle.cir_make.specs.Means.{emitting_in}
use Rattle.cir_make.specs.Cells.{wires_by}
use Rattle.cir_make.specs.Shows.{IsKept, SameWires, equations_in}
use Rattle.cir_write.proofs.Creations.{still_listed}
use Rattle.cir_write.proofs.Declaring.{kept_signal, signal_goes, signal_stops}
use Rattle.cir_make.proofs.Going.{emits_refused}
use Rattle.cir_make.proofs.Leading.{none_more}
use Rattle.cir_write.proofs.signals.declare.Goals as goal

pub returns-in_err-number : goal.returns-in_err-number
returns-in_err-number g c = λ m d shows.
    emits_refused m.first _ _ c.from_residual.result _ _ c.from_residual.ensures.1
    (exits _ _ _ ((rw c.here-here.ensures at c.in_err-number.ensures) _))

pub returns-in_err-dims : goal.returns-in_err-dims
returns-in_err-dims g c = λ m d shows.
    let q = emitting_in c.args.body.now m in
    let qs = equations_in d.state in
    emits_refused m.first _ _ c.from_residual-in_err-dims.result _ _
    c.from_residual-in_err-dims.ensures.1
    (signal_stops q c.args.spot c.args.direction (bare_signal c.args.d.now) c.in_ok-number.number d
    _ _ shows.state (rw c.here-here.ensures at c.in_ok-number.ensures)
    ((rw (c.as_slice.ensures, c.here-here.ensures) at c.in_err-dims.ensures.value) m.means qs))

pub returns : goal.returns
returns g c = λ m d shows.
    let q = emitting_in c.args.body.now m in
    let k = q.context in
    let b = bare_signal c.args.d.now in
    let n = c.in_ok-number.number in
    let dims = c.in_ok-dims.dims.items in
    let i = c.args.inside.now in
    let w0 = c.args.whole.now in
    let w1 = c.dims_in.new.world in
    let w2 = c.declare_signal.new.world in
    let h = c.declare_signal.new.frame in
    let qs = equations_in d.state in
    let s1 = state_of i.frame w1 qs in
    let s = declare_signal k c.args.spot c.args.direction n b.name dims s1 in
    let got = (rw (c.as_slice.ensures, c.here-here.ensures) at c.in_ok-dims.ensures.value) m.means
    qs
    in
    let declared = (rw (c.as_slice-3.ensures, c.here-here.ensures)
    at c.in_ok-declare_signal.ensures.state) k qs
    record { size = refl; group = refl; same_instance = refl } in
    let y = with_signal n (made_elements dims) (with_state s d.state) in
    let count : c.made_elements-count.result ≡ made_elements dims =
    c.made_elements-count.ensures
    ∙ ap (λ (l : List ℕ). made_elements l) c.as_slice-2.ensures.value in
    let kept = (rw c.here-here.ensures at c.in_ok-dims.ensures.keeps) m.means in (
      record { state = y; steps = d.steps ++ [] },
      ap (λ z. behind d.steps z) (signal_goes q c.args.spot c.args.direction b n dims d.state s1
          (state_of i.frame w0.world qs) shows.state
          (rw c.here-here.ensures at c.in_ok-number.ensures) got),
      record {
        state = sym declared;
        are_listed = still_listed qs w0.world w2 (c.in_ok-declare_signal.ensures.constraints
            ∙ ap (λ (k : Kept). k.constraints) kept) shows.are_listed;
        kept = none_more (λ l. IsKept m.first h (record (i.cells) {
          signals = c.add_cells.new.signals;
        }) (record (w0.made) { next = c.in_ok-whole.field-0 }) y l) d.steps
            (kept_signal m.first i.frame h i.cells c.add_cells.new.signals w0.made _ d.state d.steps
            n (made_elements dims) s record {
              variables = ap (λ (z : State). z.frame.variables) declared;
              parts = ap (λ (z : State). z.frame.parts) declared;
            } (λ own same. subst (λ (i : ℕ). SameWires (put_signal n w0.made.next i own)
            (wires_by c.add_cells.new.signals.items)) count
            (c.in_ok-whole.ensures.wires own same))
            (c.in_ok-whole.ensures.next ∙ ap (λ (i : ℕ). w0.made.next + i) count) shows.kept);
      },
    )
