use Rattle.std.proofs.Common.{◌≡◌, ◌∙◌, List, ◌++◌, map, Some, ap, subst}
use Rattle.std.specs.Prelude.{IfOk}
use Rattle.cir_frame.specs.Shown.{sizes_of}
use Rattle.cir_make.specs.declared.cells.Homes.{Homes}
use Rattle.cir_homes.specs.Filled.{homes_by}
use Rattle.cir_homes.specs.Homed.{signal_homes}
use Rattle.cir_homes.proofs.filling.homes_of.Goals as goal

pub returns : goal.returns
returns c =
    let own : List Homes = signal_homes c.args.signals.now c.args.ports.now in
    subst (λ (hs : List Homes). IfOk c.all_homes.result (λ cells. map Some cells.items
    ≡ homes_by (sizes_of c.args.sizes.now) hs))
    (c.as_slice.ensures.value ∙ c.in_ok-extend_from_slice.ensures.items
    ∙ ap (λ l. l ++ c.args.inside.now)
    (c.in_ok-add_signals.ensures ∙ ap (λ l. l ++ own) c.new-homes.ensures.items))
    c.all_homes.ensures
