use Rattle.std.proofs.Common.{◌∙◌, ◌++◌, ◌-◌, drop, ap, append_assoc}
use Rattle.wit_lower.specs.Homes.{slots_of}
use Rattle.wit_lower.specs.Pieces as L
use Rattle.wit_sourced.specs.Shown.{home_of}
use Rattle.wit_emit.proofs.ReadParts.{read_behind}
use Rattle.wit_emit.proofs.reading.read.Goals as goal

pub returns : goal.returns
returns c =
    let h = home_of c.in-Some.home.now in
    rw c.in-Some.is ((rw (
      c.in_ok-offset.ensures,
      c.made_elements-2.ensures,
      c.left.ensures,
      c.as_slice-dims.ensures,
    ) at c.in_ok-loads.ensures)
    ∙ append_assoc c.args.code.now (L.offset_code c.args.top h.dims (c.args.count - 1))
    (L.loads c.args.top h.base (slots_of (drop c.args.count h.dims)))
    ∙ ap (λ x. c.args.code.now ++ x) (read_behind h c.args.top c.args.count c.if-count-eq0.false))
