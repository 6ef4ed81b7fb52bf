-- Which code is well formed: it names nothing that isn't there, its constants are numbers of the
-- field, and it goes back only to a Turn.
use Rattle.std.specs.Prelude.{◌≡◌, ℕ, ◌+◌, ◌<◌, ◌≤◌, List, Some, slice_get, length}
use Rattle.gold_field.specs.declared.gold.TheConstants.{P}
use Rattle.wit_code.specs.declared.code.Op.{Op}
use Rattle.wit_code.specs.declared.code.Op.TheVariants.{Const, Move, Read, Un, Bin, Bound, Load}
use Rattle.wit_code.specs.declared.code.Op.TheVariants.{Store, Jump, JumpZero, Turn, Call, Return}
use Rattle.wit_code.specs.declared.code.Op.TheVariants.{Check, Assert, Write}
use Rattle.wit_code.specs.declared.code.Proc.{Proc}
use Rattle.wit_code.specs.declared.code.Stands.{Stands}
use Rattle.wit_code.specs.declared.code.Stands.TheVariants.{InStep, InProc}

abbrev pub StandsInStep : Stands → Type 0
StandsInStep (InStep reads) = Unit {0}
StandsInStep InProc = ⊥

abbrev pub StandsInProc : Stands → Type 0
StandsInProc (InStep reads) = ⊥
StandsInProc InProc = Unit {0}

abbrev pub MayRead : Stands → ℕ → Type 0
MayRead (InStep reads) i = i < reads
MayRead InProc i = ⊥

pub record Leads (body : List Op) (place to : ℕ) : Type 0 where
  pub within : to ≤ length body
  pub back : to ≤ place → slice_get body to ≡ Some Turn

-- a procedure that is there, whose parameters are slots of the caller
pub record MayCall (procs : List Proc) (slots f first : ℕ) : Type 0 where
  pub callee : Proc
  pub there : slice_get procs f ≡ Some callee
  pub params : first + callee.params ≤ slots

-- what an instruction names is there, where so many slots are
abbrev pub Names : List Proc → Stands → ℕ → Op → Type 0
Names procs stands slots (Const d v) = (d < slots) × (v < P)
Names procs stands slots (Move d s) = (d < slots) × (s < slots)
Names procs stands slots (Read d i) = (d < slots) × MayRead stands i
Names procs stands slots (Un op d a) = (d < slots) × (a < slots)
Names procs stands slots (Bin op d a b) = (d < slots) × (a < slots) × (b < slots)
Names procs stands slots (Bound s n) = s < slots
Names procs stands slots (Load d base s) = (d < slots) × (s < slots)
Names procs stands slots (Store base s a) = (s < slots) × (a < slots)
Names procs stands slots (Jump to) = Unit {0}
Names procs stands slots (JumpZero s to) = s < slots
Names procs stands slots Turn = Unit {0}
Names procs stands slots (Call f first d) = (d < slots) × MayCall procs slots f first
Names procs stands slots (Return s) = (s < slots) × StandsInProc stands
Names procs stands slots (Check a b) = (a < slots) × (b < slots) × StandsInStep stands
Names procs stands slots (Assert s) = s < slots
Names procs stands slots (Write s) = (s < slots) × StandsInStep stands

-- a jump at this place leads on, at most to the end of the code, or to a Turn
abbrev pub MayJump : List Op → ℕ → Op → Type 0
MayJump body place (Jump to) = Leads body place to
MayJump body place (JumpZero s to) = Leads body place to
MayJump body place _ = Unit {0}

-- what is asked of an instruction at this place
pub record Fits (procs : List Proc) (stands : Stands) (code : Proc) (place : ℕ)
    (op : Op) : Type 0 where
  pub names : Names procs stands code.slots op
  pub jumps : MayJump code.body place op

-- every instruction fits
abbrev pub EachFits : List Proc → Stands → Proc → Type 0
EachFits procs stands code =
    (place : ℕ) (op : Op) → slice_get code.body place ≡ Some op → Fits procs stands code place op

pub record IsCode (procs : List Proc) (stands : Stands) (code : Proc) : Type 0 where
  pub params : code.params ≤ code.slots
  pub each : EachFits procs stands code

abbrev pub AreProcs : List Proc → Type 0
AreProcs procs =
    (f : ℕ) (callee : Proc) → slice_get procs f ≡ Some callee → IsCode procs InProc callee

-- the code of a step that reads this many numbers, with the procedures that it calls
pub record IsWellFormed (procs : List Proc) (reads : ℕ) (code : Proc) : Type 0 where
  pub no_params : code.params ≡ 0
  pub own : IsCode procs (InStep reads) code
  pub called : AreProcs procs
