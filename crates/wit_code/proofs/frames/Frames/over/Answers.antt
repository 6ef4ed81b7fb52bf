use Rattle.std.proofs.Common.{◌-◌, arith}
use Rattle.wit_code.proofs.Clearing.{shown_over}
use Rattle.wit_code.proofs.frames.Frames.over.Goals as goal

pub returns : goal.returns
returns c =
    shown_over (c.len.result - c.args.slots) c.args.slots c.clear-2.new.self.items
    c.in_ok-numbers.numbers.items c.in_ok-numbers.ensures.clear
    (omega (arith, c.in_ok-numbers.ensures.long, c.len.ensures)) c.clear-2.ensures.items
