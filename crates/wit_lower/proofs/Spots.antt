-- The state of the machine while one body runs.
use Rattle.std.proofs.Common.{◌≡◌, ℕ, ◌≤◌, List, Some, Result, sym, ap, subst, ◌∙◌}
use Rattle.std.specs.Prelude.{slice_get}
use Rattle.wit_code.specs.declared.code.Op.{Op}
use Rattle.wit_code.specs.declared.frames.Running.{Running}
use Rattle.wit_code.specs.Frames.{Open}
use Rattle.wit_code.specs.Table.{State, Goes, act, code_of}
use Rattle.wit_lower.specs.Pieces.{named}
use Rattle.wit_lower.proofs.Does.{Setting, takes, Does, goes}

-- what stays the same: whose code runs, the calls that wait, and what was written
pub record Spot : Type 0 where
  pub running : Running
  pub others : List Open
  pub written : List ℕ

abbrev pub here : Spot → (place : ℕ) → (slots : List ℕ) → (units : ℕ) → State
here sp place slots units = record {
  running = sp.running;
  place = place;
  frames = record { slots = slots; open_calls = sp.others };
  units = units;
  written = sp.written;
}

abbrev pub body_at : Setting → Spot → List Op
body_at k sp = (code_of k.procs k.own sp.running).body

-- every instruction names slots of the frame
abbrev pub IsWide : (params : ℕ → ℕ) → (width : ℕ) → List Op → Type 0
IsWide params width body =
    (p : ℕ) (o : Op) → slice_get body p ≡ Some o → named params o ≤ width

pub step_at : (k : Setting) (sp : Spot) (p : ℕ) (f : List ℕ) (u : ℕ) (o : Op)
    → slice_get (body_at k sp) p ≡ Some o
    → takes k (here sp p f u) ≡ act k.procs k.reads (Some o) (here sp p f u)
step_at k sp p f u o e = ap (λ x. act k.procs k.reads x (here sp p f u)) e

-- one instruction, and then
pub op_goes : {A : Type 0} (k : Setting) (sp : Spot) (Q : A → State → Type 0) (p : ℕ)
    (f : List ℕ) (u : ℕ) (o : Op) (t : State) (m : Result A ℕ)
    → slice_get (body_at k sp) p ≡ Some o
    → act k.procs k.reads (Some o) (here sp p f u) ≡ Goes t
    → Does k t m Q → Does k (here sp p f u) m Q
op_goes k sp Q p f u o t m e a d = goes k Q (here sp p f u) t m (step_at k sp p f u o e ∙ a) d

pub at_place : {A : Type 0} (k : Setting) (sp : Spot) (Q : A → State → Type 0) (p q : ℕ)
    (f : List ℕ) (u : ℕ) (m : Result A ℕ) → p ≡ q → Does k (here sp p f u) m Q
    → Does k (here sp q f u) m Q
at_place k sp Q p q f u m e d = subst (λ x. Does k (here sp x f u) m Q) e d

pub at_state : {A : Type 0} (k : Setting) (Q : A → State → Type 0) (s t : State)
    (m : Result A ℕ) → t ≡ s → Does k s m Q → Does k t m Q
at_state k Q s t m e d = subst (λ x. Does k x m Q) (sym e) d
