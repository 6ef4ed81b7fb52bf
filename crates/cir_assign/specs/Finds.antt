-- Which elements of a signal are found to be written.
use Rattle.std.specs.Prelude.{◌≡◌, ℕ, true, List, ◌∷◌, is_some, Option, Some, None}
use Rattle.std.specs.Prelude.{Result, Ok, Err}
use Rattle.std.proofs.Common.{Bor}
use Rattle.cir_ast.specs.declared.program.Meant.{Meant}
use Rattle.cir_ast.specs.declared.marked.Accessor.{Accessor}
use Rattle.cir_ast.specs.declared.marked.Accessor.TheVariants.{Member}
use Rattle.cir_meaning.specs.Tried.{Tried}
use Rattle.cir_meaning.specs.Places.{all_known}
use Rattle.cir_meaning.specs.Frame.{Frame, State}
use Rattle.cir_meaning.specs.Writing.{Target}
use Rattle.cir_arrays.specs.declared.stop.Fault.{Fault}
use Rattle.cir_frame.specs.declared.writing.Target.{Target as CodeTarget}
use Rattle.cir_arrays.specs.Stopped.{IsRefusal}
use Rattle.cir_frame.specs.Targets.{IsTarget}

-- a member comes first, or none does
abbrev pub IsMember : List (Accessor Meant)
    → Option (Bor (List ℕ) × Bor (List (Accessor Meant))) → Type 0
IsMember rest (Some m) = rest ≡ Member m.0.now ∷ m.1.now
IsMember rest None =
    (name : List ℕ) (inner : List (Accessor Meant)) → rest ≡ Member name ∷ inner → ⊥

-- all indices are known
pub record IsFound (f : Frame) (t : CodeTarget) (x : Target) : Type 0 where
  pub indices : List (Option ℕ)
  pub known : is_some (all_known indices) ≡ true
  pub target : IsTarget f indices t x

abbrev pub Finds : State → Result CodeTarget Fault → Tried (Target × State) → Type 0
Finds s (Ok t) m = (x : Target) × (m ≡ Ok (x, s)) × IsFound s.frame t x
Finds s (Err f) m = IsRefusal f m
