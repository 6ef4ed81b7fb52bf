-- What is promised of lowering: why there is no code, and that every key has its procedure.
use Rattle.std.specs.Prelude.{◌≡◌, List, ◌++◌, map, length, Some, None}
use Rattle.cir_ast.specs.declared.refusal.Kind.TheVariants.{NotInProfile, ShapeDiffers}
use Rattle.cir_ast.specs.Program.{Program, bare_program}
use Rattle.cir_meaning.specs.Costs.{Made}
use Rattle.cir_meaning.specs.Functions.{function_fault, function_elements}
use Rattle.cir_meaning.specs.Limits.{standing}
use Rattle.cir_scope.specs.Runnable.{AreRunnable}
use Rattle.cir_rules.specs.Shown.{made_of}
use Rattle.wit_lower.specs.Procedures.{IsTable}
use Rattle.wit_procs.specs.declared.procs.LowerFault.{LowerFault}
use Rattle.wit_procs.specs.declared.procs.LowerFault.TheVariants as fault
use Rattle.wit_procs.specs.declared.procs.Procs.{Procs}

-- why there is no code: the first rule that is broken in what a call reaches
abbrev pub Refuses : Program → List Made → LowerFault → Type 0
Refuses p made (fault.Form form) = function_fault p made ≡ Some (NotInProfile form)
Refuses p made fault.Shape = function_fault p made ≡ Some ShapeDiffers
Refuses p made (fault.Elements n) =
    (function_fault p made ≡ None) × (n ≡ standing (function_elements p made)) × (n ≡ 0 → ⊥)
Refuses p made fault.OutOfMemory = Unit {0}

abbrev pub keys_in : Procs → List Made
keys_in t = map made_of t.keys.calls.items

-- every key has its procedure
pub record IsWhole (t : Procs) : Type 0 where
  pub count : length t.procs.items ≡ length t.keys.calls.items
  pub table : IsTable (bare_program t.program.now) (keys_in t) t.procs.items

-- the first keys have their procedures, and the others none
pub record CanFill (t : Procs) : Type 0 where
  pub runnable : AreRunnable (bare_program t.program.now)
  pub before : List Made
  pub later : List Made
  pub is : keys_in t ≡ before ++ later
  pub count : length t.procs.items ≡ length before
  pub table : IsTable (bare_program t.program.now) before t.procs.items
