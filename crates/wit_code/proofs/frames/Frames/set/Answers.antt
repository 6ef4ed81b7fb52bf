use Rattle.std.proofs.Common.{ap, ◌∙◌, arith}
use Rattle.std.specs.Prelude.{slice_set}
use Rattle.wit_code.specs.Frames.{Frames}
use Rattle.wit_code.proofs.Stack.{shown_set}
use Rattle.wit_code.proofs.Clearing.{own_set_noted}
use Rattle.wit_code.proofs.frames.Frames.set.Goals as goal

pub returns-then-self : goal.returns-then-self
returns-then-self c = shown_set c.self.inside.first c.self.inside.base c.self.inside.callers.items
    c.self.inside.numbers.items c.args.slot c.args.v c.self.invariant.base_is
    ∙ ap (λ (f : Frames). record {
      slots = slice_set f.slots c.args.slot c.args.v;
      open_calls = f.open_calls;
    }) c.self.view_is

pub returns-then-len-gt0 : goal.returns-then-len-gt0
returns-then-len-gt0 c =
    shown_set c.self.inside.first c.self.inside.base c.self.inside.callers.items
    c.self.inside.numbers.items c.args.slot c.args.v c.self.invariant.base_is
    ∙ ap (λ (f : Frames). record {
      slots = slice_set f.slots c.args.slot c.args.v;
      open_calls = f.open_calls;
    }) c.self.view_is

pub invariant_of-self-2 : goal.invariant_of-self-2
invariant_of-self-2 c =
    let inside = c.self.inside in
    own_set_noted inside.first inside.base inside.is_full inside.callers.items inside.places.items
    inside.numbers.items c.args.slot c.args.v c.note-self-inside.result
    c.note-self-inside.new.places.items c.self.invariant c.if-self.false
    (omega (arith, c.len.ensures, c.if-len-gt0.false)) c.note-self-inside.ensures

pub returns : goal.returns
returns c = shown_set c.self.inside.first c.self.inside.base c.self.inside.callers.items
    c.self.inside.numbers.items c.args.slot c.args.v c.self.invariant.base_is
    ∙ ap (λ (f : Frames). record {
      slots = slice_set f.slots c.args.slot c.args.v;
      open_calls = f.open_calls;
    }) c.self.view_is
