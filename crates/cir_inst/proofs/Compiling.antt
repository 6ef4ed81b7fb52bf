-- A program's first main component, and what it compiles to.
use Rattle.std.proofs.Common.{◌≡◌, ◌≤◌, List, [], ◌∷◌, Option, Some, Ok, Err, length, get_or, refl}
use Rattle.std.proofs.Common.{sym, ap, subst, ◌∙◌, slice_get, arith}
use Rattle.std.specs.Prelude.{◌↔◌, All, option_map}
use Rattle.std.proofs.lemmas.Option.{slice_get-map, slice_get_read}
use Rattle.gold_field.specs.Form.{Holds}
use Rattle.cir_lc.specs.Number.{Assignment}
use Rattle.cir_ast.specs.declared.program.Main.{Main as CodeMain}
use Rattle.cir_ast.specs.declared.program.Program.{Program as CodeProgram}
use Rattle.cir_ast.specs.Program.{Program, Main, bare_main, bare_program}
use Rattle.cir_ast.specs.declared.refusal.Refusal.{Refusal}
use Rattle.cir_ast.specs.declared.refusal.Kind.TheVariants.{Main as MainKind}
use Rattle.cir_meaning.specs.Tried.{Tried, Refused, next, found}
use Rattle.cir_meaning.specs.Source.{Equation}
use Rattle.cir_meaning.specs.Frame as F
use Rattle.cir_meaning.specs.Compile.{Circuit, exec_main, circuit_of, compiled, group_size, shown}
use Rattle.cir_meaning.specs.Compile.{the_main, refusal_of, Satisfies}
use Rattle.cir_meaning.proofs.FineLaws.{list_holds}
use Rattle.cir_frame.specs.declared.world.World.{World as CodeWorld}
use Rattle.cir_arrays.specs.declared.stop.Fault.{Fault}
use Rattle.cir_arrays.specs.declared.stop.Fault.TheVariants as fault
use Rattle.cir_arrays.specs.Stopped.{IsRefusal, refused_of}
use Rattle.cir_frame.specs.Shown.{world_of}
use Rattle.cir_inst.specs.declared.circuit.Circuit.{Circuit as CodeCircuit}
use Rattle.cir_inst.specs.declared.circuit.InstFault.{InstFault}
use Rattle.cir_inst.specs.declared.circuit.InstFault.TheVariants.{Refused as NotInstantiated}
use Rattle.cir_inst.specs.declared.circuit.InstFault.TheVariants.{OutOfMemory}
use Rattle.cir_inst.specs.Compiled.{Instantiates}
use Rattle.cir_inst.specs.Made.{Compiles, Shows}
use Rattle.cir_arrays.proofs.Exits.{exits}

abbrev pub of_main : Program → Main → Tried Circuit
of_main p m =
    next (exec_main p group_size m m.meant) (λ (signals, w). Ok (circuit_of group_size w))

compiled_by : (p : Program) (m : Main) → the_main p ≡ Ok m → compiled p ≡ of_main p m
compiled_by p m e = ap (λ (t : Tried Main). next t (of_main p)) e

pub made_by : (p : Program) (m : Main) (w : CodeWorld) (es : List Equation) (signals : F.Signals)
    → the_main p ≡ Ok m
    → exec_main p group_size m m.meant ≡ Ok (signals, world_of w es)
    → compiled p ≡ Ok (circuit_of group_size (world_of w es))
made_by p m w es signals first e =
    compiled_by p m first
    ∙ ap (λ (t : Tried (F.Signals × F.World)). next t (λ (signals, w).
    Ok (circuit_of group_size w))) e

pub main_refused : (p : Program) (f : Fault) → IsRefusal f (the_main p)
    → IsRefusal f (compiled p)
main_refused p f h = exits f (the_main p) (of_main p) h

pub refused_by : (p : Program) (m : Main) (f : Fault) → the_main p ≡ Ok m
    → IsRefusal f (exec_main p group_size m m.meant) → IsRefusal f (compiled p)
refused_by p m f first h =
    subst (λ (t : Tried Circuit). IsRefusal f t) (sym (compiled_by p m first))
    (exits f (exec_main p group_size m m.meant) _ h)

pub first_main : (p : CodeProgram) (mains : List CodeMain) (m : CodeMain) → mains ≡ p.mains
    → 1 ≤ length mains → m ≡ get_or mains 0 m
    → the_main (bare_program p) ≡ Ok (bare_main m)
first_main p mains m same long e =
    ap (λ (o : Option Main). found record {
      file = 0;
      spot = record { line = 1; column = 1 };
      instance = 0;
      path = 45 ∷ [];
    } MainKind o)
    (slice_get-map bare_main p.mains 0
    ∙ ap (option_map bare_main) (subst (λ (ms : List CodeMain). slice_get ms 0 ≡ Some m) same
    (slice_get_read mains (length mains) 0 m refl (omega arith) e)))

-- as a user sees it
pub instantiated : (p : Program) (c : CodeCircuit) → Compiles (Ok c) (compiled p)
    → Instantiates p (Ok c)
instantiated p c (x, e, is) = (x, ap (λ (t : Tried Circuit). shown p t) e, is)

pub not_instantiated : (p : Program) (f : Fault) (r : InstFault) → IsRefusal f (compiled p)
    → Shows p f r → Instantiates p (Err r)
not_instantiated p f OutOfMemory h s = tt
not_instantiated p fault.OutOfMemory (NotInstantiated r) h s = absurd s
not_instantiated p (fault.Refused stop) (NotInstantiated r) h s =
    at (compiled p) h
  where
    at : (t : Tried Circuit) → IsRefusal (fault.Refused stop) t → shown p t ≡ Err r
    at (Ok c) h = cc
    at (Err e) h =
        let same : e ≡ refused_of stop = cc in
        ap (λ (x : Refused). Err (refusal_of p x)) same ∙ ap (λ (x : Refusal). Err x) s

pub satisfied : (p : Program) (c : CodeCircuit) → Compiles (Ok c) (compiled p)
    → (s : Assignment) → Satisfies p s ↔ All (Holds s.at) c.constraints
satisfied p c (x, e, is) s = list_holds p x _ c.constraints s e is.source
