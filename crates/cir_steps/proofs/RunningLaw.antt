-- The steps of a template's body do what the body does.
use Rattle.std.proofs.Common.{◌≡◌, ℕ, true, List, [], ◌∷◌, All, Ok, Err, refl, subst}
use Rattle.std.specs.List.{AllByRecursion}
use Rattle.std.proofs.ByRecursion.{all_from_every}
use Rattle.cir_ast.specs.Program.{Program}
use Rattle.cir_meaning.specs.Tried.{Where}
use Rattle.cir_meaning.specs.Arrays.{Datum, is_all_known}
use Rattle.cir_meaning.specs.Values.{IsValue}
use Rattle.cir_meaning.specs.Source.{IsDifference}
use Rattle.cir_meaning.specs.Frame.{World}
use Rattle.cir_meaning.specs.Bodies.{most_open}
use Rattle.cir_meaning.specs.Scoped.{IsResolved}
use Rattle.cir_meaning.specs.Run.{RunTried, Rejected, Stopped, Wires, RunPart}
use Rattle.cir_meaning.specs.RunSimple.{Outcome}
use Rattle.cir_meaning.specs.RunStatements.{run_call}
use Rattle.cir_meaning.specs.RunBodies.{body_at}
use Rattle.cir_meaning.proofs.FineValues.{IsDatum}
use Rattle.cir_steps.specs.RunSteps.{Progress, run_steps}
use Rattle.cir_steps.specs.Making.{Cast}
use Rattle.cir_steps.specs.Statements.{cast_at}
use Rattle.cir_steps.specs.Running.{Wired, TablesWired, Begins, Starts, IsRunBy}
use Rattle.cir_steps.proofs.Alike.{Alike}
use Rattle.cir_steps.proofs.Related.{Ran}
use Rattle.cir_steps.proofs.FreshSteps.{fresh_steps}
use Rattle.cir_steps.proofs.SimBodies.{calling, casts_run}

by_recursion : {A : Type 0} (Q : A → Type 0) (xs : List A) → All Q xs → AllByRecursion Q xs
by_recursion Q xs h = all_from_every Q xs (λ k d z l. h k d l)

data_of : (ds : List Datum) → AllByRecursion (λ (d : Datum). All IsValue d.items) ds
    → AllByRecursion IsDatum ds
data_of [] h = tt
data_of (d ∷ ds) h = (by_recursion IsValue d.items h.0, data_of ds h.1)

module _ (p : Program) (resolved : IsResolved p) (size fuel : ℕ) where
  run_by : (room : ℕ) (o : Cast) (x : RunPart) → x.ports ≡ o.own → x.inside ≡ o.inside
      → (m : RunTried Outcome) (s : RunTried Progress)
      → Alike (Ran (calling p resolved size fuel) fuel (body_at p size fuel room) x) m s
      → IsRunBy o m s
  unfolding Alike
  run_by room o x own inside (Ok out) s h = (
    h.0,
    h.1,
    subst (Wired h.0.cells out.own) own h.2.0,
    subst (TablesWired h.0.cells out.inside) inside h.2.1,
    h.2.2,
  )
  run_by room o x own inside (Err (Rejected e)) s h = tt
  run_by room o x own inside (Err (Stopped stop w log)) s h = h

  pub bodies_run : (room n next : ℕ) (w : Where) (ds : List Datum) (path : List ℕ)
      (world : World) (o : Cast) (given : Wires) (q : Progress) → Begins ds world
      → cast_at p size room w n ds path world next ≡ Ok o → Starts o given q
      → IsRunBy o (body_at p size fuel room w n ds path world given q.log)
      (run_steps (run_call p most_open) fuel o.steps q)
  bodies_run room n next w ds path world o given q begins made starts =
      run_by room o record {
        where_made = w;
        template = n;
        arguments = ds;
        path = path;
        before = world;
        ports = o.own;
        inside = o.inside;
      } refl refl _ _
      (casts_run p resolved size fuel room w n ds path world next o
      (by_recursion (λ d. is_all_known d ≡ true) ds begins.known) (
        data_of ds (by_recursion (λ (d : Datum). All IsValue d.items) ds begins.values),
        by_recursion IsDifference world.equations begins.equations,
      ) made given q starts.one starts.wired
      (fresh_steps o.steps q.cells starts.once starts.free))
