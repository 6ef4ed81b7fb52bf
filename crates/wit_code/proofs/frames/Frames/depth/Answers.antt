use Rattle.std.proofs.Common.{ap, arith, length, [], drop}
use Rattle.wit_code.specs.Frames.{Frames}
use Rattle.wit_code.proofs.Stack.{length_opened}
use Rattle.wit_code.proofs.frames.Frames.depth.Goals as goal

pub returns : goal.returns
returns c =
    omega (
      arith,
      length_opened [] c.self.inside.callers.items
          (drop c.self.inside.first c.self.inside.numbers.items),
      ap (λ (f : Frames). length f.open_calls) c.self.view_is,
    )
