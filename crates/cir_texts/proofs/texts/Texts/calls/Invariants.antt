use Rattle.std.proofs.Common.{◌≡◌, ◌++◌, drop}
use Rattle.std.specs.Prelude.{map, flat_map}
use Rattle.cir_meaning.specs.Texts.{calls_of}
use Rattle.cir_texts.specs.Shown.{wanted_of, called_of}
use Rattle.cir_texts.proofs.texts.Texts.calls.Given as goal

abbrev pub invariant-loop-wanted : goal.invariant-loop-wanted
invariant-loop-wanted l =
    map called_of l.calls.items
    ++ flat_map (λ x. calls_of x.expr) (map wanted_of (drop l.wanted-index l.wanted-items))
    ≡ flat_map (λ x. calls_of x.expr) (map wanted_of l.fn.self.wanted.items)
