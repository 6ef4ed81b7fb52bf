-- In a function no signal and no component is in scope.
use Rattle.std.proofs.Common.{◌≡◌, ℕ, List, Option, Some, None}
use Rattle.std.specs.Prelude.{⊤}
use Rattle.std.specs.Option.{option_or}
use Rattle.cir_ast.specs.declared.program.Meant.{Meant}
use Rattle.cir_ast.specs.declared.program.Meant.TheVariants as meant
use Rattle.cir_resolve.specs.Scope.{Lookup, State, in_scope, meaning, read_at, entered, left}
use Rattle.cir_resolve.specs.Scope.{counted, with_name}
use Rattle.cir_checks.specs.Checked.{IsRead, IsWritten, IsDriven}
use Rattle.cir_meaning.specs.SignalFree.{IsVariable}
use Rattle.cir_scope.proofs.Lookups.{of_first, of_more}

abbrev pub IsFreeName : Option Meant → Type 0
IsFreeName (Some (meant.Signal d n)) = ⊥
IsFreeName (Some (meant.Component n)) = ⊥
IsFreeName _ = ⊤

abbrev pub AreFreeNames : Lookup → Type 0
AreFreeNames names = (name : List ℕ) → IsFreeName (names name)

pub record IsFreeState (st : State) : Type 0 where
  pub defined : AreFreeNames st.defined
  pub outer : AreFreeNames st.outer
  pub inner : AreFreeNames st.inner

free_meaning : (o : Option Meant) → IsFreeName o → IsFreeName (Some (meaning o))
free_meaning None h = tt
free_meaning (Some m) h = h

pub free_read : (st : State) → IsFreeState st → (name : List ℕ)
    → IsFreeName (Some (read_at st name))
free_read st f name =
    free_meaning (option_or (in_scope st name) (st.defined name))
    (of_first IsFreeName (in_scope st name) (st.defined name)
    (of_first IsFreeName (st.inner name) (st.outer name) (f.inner name) (f.outer name))
    (f.defined name))

pub free_variable : (st : State) (n : ℕ) (name : List ℕ) → IsFreeState st
    → IsFreeState (with_name (counted st (meant.Variable n)) name (meant.Variable n))
free_variable st n name f =
    record {
      defined = f.defined;
      outer = f.outer;
      inner = of_more IsFreeName st.inner name (meant.Variable n) tt f.inner;
    }

pub free_entered : (st : State) → IsFreeState st → IsFreeState (entered st)
free_entered st f =
    record {
      defined = f.defined;
      outer = λ name. of_first IsFreeName (st.inner name) (st.outer name) (f.inner name)
          (f.outer name);
      inner = λ name. tt;
    }

pub free_left : (st after : State) → IsFreeState st → IsFreeState after
    → IsFreeState (left st after)
free_left st after f g =
    record { defined = g.defined; outer = f.outer; inner = f.inner }

-- ---- what a name may be used as, there
pub read_variable : (m : Meant) (dots : ℕ) → IsFreeName (Some m) → IsRead m dots
    → IsVariable m × (dots ≡ 0)
read_variable (meant.Variable n) dots f h = (tt, h)
read_variable (meant.Signal d n) dots f h = absurd f
read_variable (meant.Component n) dots f h = absurd f
read_variable meant.Other dots f h = absurd h
read_variable (meant.Template n) dots f h = absurd h
read_variable (meant.Function n) dots f h = absurd h

pub written_variable : (m : Meant) (dots : ℕ) → IsWritten m dots → IsVariable m × (dots ≡ 0)
written_variable (meant.Variable n) dots h = (tt, h)
written_variable meant.Other dots h = absurd h
written_variable (meant.Signal d n) dots h = absurd h
written_variable (meant.Component n) dots h = absurd h
written_variable (meant.Template n) dots h = absurd h
written_variable (meant.Function n) dots h = absurd h

pub not_driven : (m : Meant) (dots : ℕ) → IsFreeName (Some m) → IsDriven m dots → ⊥
not_driven (meant.Signal d n) dots f h = f
not_driven (meant.Component n) dots f h = f
not_driven meant.Other dots f h = h
not_driven (meant.Variable n) dots f h = h
not_driven (meant.Template n) dots f h = h
not_driven (meant.Function n) dots f h = h
