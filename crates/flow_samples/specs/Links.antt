-- Steps that add a number to what an earlier cell holds, or turn until their fuel is spent
use Rattle.std.specs.Prelude.{◌≡◌, ℕ, ◌+◌, ◌<◌, ◌≤◌, ◌⊎◌, List, [], ◌∷◌, length}
use Rattle.gold_field.specs.declared.operators.Op2.TheVariants.{Add}
use Rattle.wit_code.specs.declared.code.Op.{Op}
use Rattle.wit_code.specs.declared.code.Op.TheVariants.{Const, Read, Bin, Turn, Jump, Assert}
use Rattle.wit_code.specs.declared.code.Op.TheVariants.{Write}
use Rattle.wit_code.specs.declared.code.Proc.{Proc}
use Rattle.wit_code.specs.declared.code.Step.{Step}
use Rattle.wit_code.specs.Code.{IsWellFormed}
use Rattle.wit_flow.specs.Run.{step_at}

abbrev pub add : Op
add = Bin Add 0 0 1

-- adds v to what it reads, 16 times, and stops where that is 0
abbrev pub adds : ℕ → Proc
adds v = record {
  params = 0;
  slots = 2;
  body =
      Read 0 0 ∷ Const 1 v
      ∷ add ∷ add ∷ add ∷ add ∷ add ∷ add ∷ add ∷ add
      ∷ add ∷ add ∷ add ∷ add ∷ add ∷ add ∷ add ∷ add
      ∷ Assert 0 ∷ Write 0 ∷ [];
}

-- turns until its fuel is spent
abbrev pub spins : Proc
spins = record { params = 0; slots = 1; body = Turn ∷ Jump 0 ∷ [] }

abbrev pub IsSample : Proc → Type 0
IsSample code = ((v : ℕ) × (code ≡ adds v)) ⊎ (code ≡ spins)

-- the step k reads an earlier cell and writes the cell k + 1
pub record IsLink (s : Step) (k : ℕ) : Type 0 where
  pub from : ℕ
  pub earlier : from ≤ k
  pub reads : s.reads ≡ from ∷ []
  pub writes : s.writes ≡ (k + 1) ∷ []
  pub code : IsSample s.code
  pub well_formed : IsWellFormed [] 1 s.code

abbrev pub AreLinks : List Step → Type 0
AreLinks steps = (k : ℕ) → k < length steps → IsLink (step_at steps k) k
