use Rattle.std.proofs.Common.{◌≡◌, drop}
use Rattle.std.specs.Prelude.{bytes_eq}
use Rattle.std.specs.List.{list_any}
use Rattle.cir_frame.proofs.world.is_among.Given as goal

abbrev pub invariant-loop-other : goal.invariant-loop-other
invariant-loop-other l =
    list_any (λ n. bytes_eq n l.name) (drop l.other-index l.names)
    ≡ list_any (λ n. bytes_eq n l.name) l.names
