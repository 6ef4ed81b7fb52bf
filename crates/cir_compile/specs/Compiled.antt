-- What the compilation of a source answers.
use Rattle.std.specs.Prelude.{◌≡◌, ℕ, List, [], ◌∷◌, Option, None, Result, Ok, Err, ⊤, ◌⊎◌}
use Rattle.std.specs.Prelude.{slice_get, unwrap_or, codes}
use Rattle.out_io.specs.Contents.{Contents}
use Rattle.out_io.specs.Faults.{one_more_fault}
use Rattle.out_io.specs.Held.{OfAll}
use Rattle.iden_files.specs.File.{File}
use Rattle.cir_ast.specs.Program.{Program, Main}
use Rattle.cir_ast.specs.Spot.{start}
use Rattle.cir_ast.specs.declared.refusal.Refusal.{Refusal}
use Rattle.cir_ast.specs.declared.refusal.Kind.{Kind}
use Rattle.cir_ast.specs.declared.refusal.Kind.TheVariants.{Limit}
use Rattle.cir_ast.specs.declared.refusal.Which.TheVariants.{Terms}
use Rattle.cir_names.specs.Loading.{IsLoaded, IsLoadFault}
use Rattle.cir_compile.specs.declared.compiling.Site.{Site}
use Rattle.cir_inst.specs.declared.circuit.Circuit.{Circuit}
use Rattle.cir_inst.specs.declared.circuit.InstFault.TheVariants.{Refused as NotInstantiated}
use Rattle.cir_inst.specs.Compiled.{Instantiates}
use Rattle.cir_simplify.specs.declared.types.Level.{Level}
use Rattle.cir_simplify.specs.declared.types.Simple.{Simple}
use Rattle.cir_simplify.specs.Answer.{Simplifies}
use Rattle.cir_simplify.specs.Turn.{simplified}
use Rattle.cir_compile.specs.declared.fault.CompileFault.{CompileFault}
use Rattle.cir_compile.specs.declared.fault.CompileFault.TheVariants as fault
use Rattle.cir_compile.specs.Written.{rules_of, file_of, Means}

-- the program's circuit, simplified at the level, is written as the file
pub record IsWritten (program : Program) (level : Level) (f : File) : Type 0 where
  pub circuit : Circuit
  pub instantiated : Instantiates program (Ok circuit)
  pub simple : Simple
  pub simplified : Simplifies (rules_of level circuit) circuit.constraints (Ok simple)
  pub file : f ≡ file_of circuit simple
  pub means : Means program f

-- a refusal at a place among the program's files, with the path of an instance
abbrev pub refusal_of : List (List ℕ) → Site → Kind → List ℕ → Refusal
refusal_of files site kind path = record {
  kind = kind;
  place = record {
    file = unwrap_or (slice_get files site.file) [];
    line = site.spot.line;
    column = site.spot.column;
    path = path;
  };
}

-- the program's meaning refuses it
pub record IsMeaningless (program : Program) (r : Refusal) : Type 0 where
  pub instantiated : Instantiates program (Err (NotInstantiated r))

-- where the statement of the main component stands; a program with a circuit has just one
abbrev pub main_site : List Main → Site
main_site [] = record { file = 0; spot = start }
main_site (main ∷ mains) = record { file = main.file; spot = main.spot }

-- too many terms are refused at the statement of the main component, with their count
abbrev pub terms_refusal : Program → ℕ → Refusal
terms_refusal program count =
    refusal_of program.files (main_site program.mains) (Limit Terms count) (codes "main")

-- simplification at the level comes to too many terms
pub record IsTooLarge (program : Program) (level : Level) (r : Refusal) : Type 0 where
  pub circuit : Circuit
  pub instantiated : Instantiates program (Ok circuit)
  pub count : ℕ
  pub terms : simplified (rules_of level circuit) circuit.constraints ≡ Err count
  pub refusal : r ≡ terms_refusal program count

-- why a program that is loaded is refused
abbrev pub IsUnwritten : Program → Level → Refusal → Type 0
IsUnwritten program level r = IsMeaningless program r ⊎ IsTooLarge program level r

-- what the compilation of a program answers; want of memory is free
abbrev pub Writes : Program → Level → Result File CompileFault → Type 0
Writes program level (Ok f) = IsWritten program level f
Writes program level (Err (fault.Refused r)) = IsUnwritten program level r
Writes program level (Err fault.Missing) = ⊥
Writes program level (Err fault.Fault) = ⊥
Writes program level (Err fault.OutOfMemory) = ⊤

-- what is compiled: the source's name, the folder of libraries if any, and the level
pub record Task : Type 0 where
  pub name : List ℕ
  pub library : Option (List ℕ)
  pub level : Level

-- the source loads as a program that is written as the file
pub record IsCompiled (files : Contents) (task : Task) (f : File) : Type 0 where
  pub program : Program
  pub loaded : IsLoaded files task.name task.library program
  pub written : IsWritten program task.level f

-- the source doesn't load, or its program is refused
abbrev pub IsRefused : Contents → Task → Refusal → Type 0
IsRefused files task r =
    IsLoadFault files task.name task.library r
    ⊎ ((program : Program) × IsLoaded files task.name task.library program
    × IsUnwritten program task.level r)

-- Why a source doesn't compile, over all contents that there may be. It fails only where the store
-- did; want of memory is free.
abbrev pub NotCompiled : (held : Contents → Type 0) → Task → (failed : Type 0) → CompileFault
    → Type 0
NotCompiled held task failed (fault.Refused r) = OfAll held (λ files. IsRefused files task r)
NotCompiled held task failed fault.Missing = OfAll held (λ files. files task.name ≡ None)
NotCompiled held task failed fault.Fault = failed
NotCompiled held task failed fault.OutOfMemory = ⊤

-- the count of faults after the compilation: one more where the store's fault ended it, and else as
-- it was
abbrev pub faults_by : {T : Type 0} → Result T CompileFault → ℕ → ℕ
faults_by (Err fault.Fault) faults = one_more_fault faults
faults_by _ faults = faults

-- what it compiles to, or why it doesn't
abbrev pub Compiles : (held : Contents → Type 0) → Task → (failed : Type 0)
    → Result File CompileFault → Type 0
Compiles held task failed (Ok f) = OfAll held (λ files. IsCompiled files task f)
Compiles held task failed (Err e) = NotCompiled held task failed e
