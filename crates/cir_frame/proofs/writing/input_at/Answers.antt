use Rattle.std.proofs.Common.{sym, ◌∙◌, refl}
use Rattle.cir_arrays.specs.Stopped.{where_of}
use Rattle.cir_frame.specs.Shown.{signal_of, frame_of}
use Rattle.cir_frame.proofs.Numbered.{entry_got}
use Rattle.cir_frame.proofs.Targeting.{no_component, no_input}
use Rattle.cir_frame.proofs.writing.input_at.Goals as goal

pub returns-in_err-part : goal.returns-in_err-part
returns-in_err-part c =
    λ k world go. no_component (where_of c.args.r.now.site.now) c.args.n c.args.r.now.indices.now
    c.args.name.now record { frame = frame_of c.args.frame.now k; world = world } go
    c.from_residual.result c.in_err-part.field-0.0 c.from_residual.ensures.1
    (c.in_err-part.ensures k)

pub returns-in_err-i : goal.returns-in_err-i
returns-in_err-i c =
    λ k world go. no_input (where_of c.args.r.now.site.now) c.args.n c.args.r.now.indices.now
    c.args.name.now record { frame = frame_of c.args.frame.now k; world = world } go
    c.from_residual-in_err-i.result c.in_err-i.field-0.0 c.in_ok-part.part
    c.from_residual-in_err-i.ensures.1 (c.in_ok-part.ensures k)
    (rw (← c.signals_of-signals.ensures k) c.in_err-i.ensures)

pub returns-then-is_input_at : goal.returns-then-is_input_at
returns-then-is_input_at c =
    let named = c.in_ok-i.ensures in
    let there = entry_got signal_of c.signals_of-signals.result.now c.in_ok-i.i named.0 named.1 in
    let input = sym (c.is_input_at.ensures (signal_of named.0) there) ∙ c.if-is_input_at.true in
    λ k world go. (
      signal_of named.0,
      rw (← c.signals_of-signals.ensures k) there,
      rw (c.in_ok-part.ensures k, ← c.signals_of-signals.ensures k, named.2, input) refl,
    )

pub returns-else-is_input_at : goal.returns-else-is_input_at
returns-else-is_input_at c =
    let named = c.in_ok-i.ensures in
    let there = entry_got signal_of c.signals_of-signals.result.now c.in_ok-i.i named.0 named.1 in
    let other = sym (c.is_input_at.ensures (signal_of named.0) there) ∙ c.if-is_input_at.false in
    λ k world go.
    rw (c.in_ok-part.ensures k, ← c.signals_of-signals.ensures k, named.2, other) c.refused.ensures
