-- What holds of a circuit, where it holds of what main and its steps give together.
use Rattle.std.proofs.Common.{◌≡◌, ℕ, Ok, Err, subst}
use Rattle.cir_ast.specs.Program.{Program, Main}
use Rattle.cir_meaning.specs.Tried.{Tried, next}
use Rattle.cir_meaning.specs.Frame.{Signals, World}
use Rattle.cir_meaning.specs.Compile.{the_main, exec_main}
use Rattle.cir_meaning.proofs.Twins.{Twin}
use Rattle.cir_steps.specs.Emission.{Emission, Emitted}
use Rattle.cir_steps.specs.Making.{Cast}
use Rattle.cir_steps.specs.Circuit.{Circuit, emit_main, circuit_with}
use Rattle.cir_steps.proofs.Templates.{AreTemplates}
use Rattle.cir_steps.proofs.Casting.{Giving, Bodies, MainGives, main_fits}
use Rattle.cir_steps.proofs.Mains.{the_circuit}

module _ (size : ℕ) (R : Emission → Emitted → Type 0) (G : Giving) (b : Bodies size R G)
    (p : Program) (plain : AreTemplates p) (Q : Circuit → Type 0)
    (of_main : (m : Main) (z : Signals × World) (o : Cast) → MainGives size R G b p plain z o
    → Q (the_circuit size m z o)) where
  given : (m : Main) (e : Tried (Signals × World)) (r : Tried Cast) (c : Circuit)
      → Twin (MainGives size R G b p plain) e r
      → next e (λ z. next r (λ o. Ok (the_circuit size m z o))) ≡ Ok c → Q c
  unfolding Twin
  given m (Ok z) (Ok o) c h is =
      let same : the_circuit size m z o ≡ c = cc in subst Q same (of_main m z o h)
  given m (Ok z) (Err f) c h is = cc
  given m (Err f) r c h is = cc

  pub circuit_has : (c : Circuit) → circuit_with size p ≡ Ok c → Q c
  circuit_has c is = at (the_main p) is
    where
      at : (m : Tried Main)
          → next m (λ m. next (exec_main p size m m.meant) (λ z.
          next (emit_main p size m m.meant) (λ o. Ok (the_circuit size m z o)))) ≡ Ok c → Q c
      at (Ok m) e =
          given m (exec_main p size m m.meant) (emit_main p size m m.meant) c
          (main_fits size R G b p plain m m.meant) e
      at (Err f) e = cc
