-- A circuit starts with one cell more than main has inputs.
use Rattle.std.proofs.Common.{◌≡◌, ℕ, ◌+◌, ◌≤◌, ◌<◌, length, Ok, sym, ap, subst, ◌∙◌, arith}
use Rattle.cir_ast.specs.declared.program.Meant.{Meant}
use Rattle.cir_ast.specs.declared.program.Meant.TheVariants as meant
use Rattle.cir_ast.specs.Program.{Program, Main}
use Rattle.cir_meaning.specs.Frame.{Signals, World}
use Rattle.cir_meaning.specs.Compile as compile
use Rattle.cir_meaning.specs.Compile.{exec_main, compiled, group_size}
use Rattle.cir_meaning.specs.Run.{Wires}
use Rattle.cir_meaning.specs.Scoped.{IsResolved}
use Rattle.cir_meaning.proofs.MainNames.{few_names, few_inputs}
use Rattle.cir_meaning.proofs.MainRuns.{executed}
use Rattle.cir_steps.specs.Circuit.{Circuit, start_cells, circuit_of}
use Rattle.cir_steps.proofs.Mains.{room_top, names_fit, Made, made_of}
use Rattle.cir_steps.proofs.MainInputs.{all_inputs, all_count}

module _ (p : Program) (resolved : IsResolved p) (size : ℕ) (top : size ≤ 1048576) where
  counted : (m : Main) (y : Meant) (x : Signals × World) (own : Wires)
      → exec_main p size m y ≡ Ok x
      → x.1.sizes.public_inputs + x.1.sizes.private_inputs < size
      → length (start_cells m own x.0)
      ≡ 1 + (x.1.sizes.public_inputs + x.1.sizes.private_inputs)
  counted m (meant.Template t) x own exec few =
      let inputs : length (all_inputs p resolved size m t x.0 x.1
      (executed p size m t x.0 x.1 exec) own)
      ≡ x.1.sizes.public_inputs + x.1.sizes.private_inputs =
      all_count p resolved size m t x.0 x.1 (executed p size m t x.0 x.1 exec) own top few in
      omega arith
  counted m meant.Other x own exec few = cc
  counted m (meant.Variable n) x own exec few = cc
  counted m (meant.Signal direction n) x own exec few = cc
  counted m (meant.Component n) x own exec few = cc
  counted m (meant.Function n) x own exec few = cc

pub starts_counted : (p : Program) (c : compile.Circuit) (b : Circuit) → IsResolved p
    → compiled p ≡ Ok c → circuit_of p ≡ Ok b
    → length b.starts ≡ 1 + (c.public_inputs + c.private_inputs)
starts_counted p c b resolved compiles made =
    ap (λ (d : Circuit). length d.starts) (sym its.is_circuit)
    ∙ counted p resolved group_size room_top its.main its.main.meant its.given its.cast.own its.exec
    (subst (λ (d : compile.Circuit). d.public_inputs + d.private_inputs < group_size)
    (sym its.is_told) (few_inputs p resolved group_size c compiles room_top
    (names_fit (length c.names) (few_names p group_size c compiles))))
    ∙ ap (λ (d : compile.Circuit). 1 + (d.public_inputs + d.private_inputs)) its.is_told
  where
    its : Made p c b
    its = made_of p c b compiles made
