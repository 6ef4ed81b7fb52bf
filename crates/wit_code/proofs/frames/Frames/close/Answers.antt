use Rattle.std.proofs.Common.{ap, sym, ◌∙◌}
use Rattle.wit_code.specs.Frames.{Frames}
use Rattle.wit_code.proofs.Stack.{shown_close}
use Rattle.wit_code.proofs.Clearing.{laid_close}
use Rattle.wit_code.proofs.frames.Frames.close.Goals as goal

pub returns : goal.returns
returns c =
    rw (c.truncate.ensures.items) (ap (λ (f : Frames). f.open_calls) (sym c.self.view_is)
    ∙ shown_close c.self.inside.first c.self.inside.base c.self.inside.callers.items
    c.pop.new.self.items c.in_ok-caller.caller c.self.inside.numbers.items
    c.self.invariant.base_is c.in_ok-caller.ensures.items)

pub invariant_of-self-2 : goal.invariant_of-self-2
invariant_of-self-2 c =
    rw (c.truncate.ensures.items) (laid_close c.self.inside.first c.self.inside.base
    c.self.inside.is_full c.self.inside.callers.items c.self.inside.places.items
    c.self.inside.numbers.items c.pop.new.self.items c.in_ok-caller.caller c.self.invariant
    c.in_ok-caller.ensures.items)
