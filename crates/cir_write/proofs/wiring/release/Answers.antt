use Rattle.std.proofs.Common.{◌<◌, arith, length, refl}
use Rattle.std.proofs.lemmas.Option.{slice_get_read}
use Rattle.cir_write.proofs.wiring.release.Goals as goal

pub returns-then-j-len : goal.returns-then-j-len
returns-then-j-len c =
    let parts = c.args.cells.now.parts.items in
    let h : c.args.j < length parts = omega (arith, c.if-j-len.true, c.len.ensures) in record {
      part = c.index_mut.result.now;
      there = slice_get_read parts (length parts) c.args.j c.index_mut.result.now refl h
          c.index_mut.ensures.value;
      left = record (c.index_mut.result.now) { steps = c.append.new.other };
      ports = refl;
      inside = refl;
      parts = refl;
      steps = c.in_ok-append.ensures.items;
      variables = refl;
      signals = refl;
    }
