-- Assignments to variables with their steps.
use Rattle.std.proofs.Common.{◌≡◌, ◌∙◌, ℕ, Bool, true, false, cond, List, [], ◌∷◌, ◌++◌, None, Ok}
use Rattle.std.proofs.Common.{ap, length, refl, subst, sym}
use Rattle.std.specs.Prelude.{if◌then◌else◌}
use Rattle.cir_ast.specs.declared.program.Meant.{Meant}
use Rattle.cir_ast.specs.Tree.{Accessors, Assign, Expr}
use Rattle.cir_meaning.specs.Tried.{Where}
use Rattle.cir_meaning.specs.Frame.{Context, State}
use Rattle.cir_meaning.specs.Writing.{VariableAssignment, is_unknown}
use Rattle.cir_meaning.specs.Places.{numbers_from}
use Rattle.cir_meaning.specs.Steps.{variable_cost}
use Rattle.cir_steps.specs.Step.{Assigning, Step}
use Rattle.cir_steps.specs.Emission.{Emission, known_in, quiet, step_of, with_state}
use Rattle.cir_steps.specs.Making.{make_assignment, new_places, with_cells}
use Rattle.cir_write.specs.Assigned.{assigned_after, assigned_step, assigned_steps}

pub assignment_makes : (k : Context) (w : Where) (written : Assign Meant) (n : ℕ)
    (accessors : Accessors Meant) (e : Expr Meant) (a : VariableAssignment) (s : State)
    (x : Emission)
    → (if is_unknown n a then make_assignment k w written n accessors e a s x
    else quiet (with_state s x)) ≡ Ok record {
      state = assigned_after n a s x;
      steps = assigned_steps k w written n accessors e a x;
    }
assignment_makes k w written n accessors e a s x = at (is_unknown n a)
  where
    at : (b : Bool) → cond b (make_assignment k w written n accessors e a s x)
        (quiet (with_state s x)) ≡ Ok record {
          state = cond b (with_cells n (new_places n a) s x) (with_state s x);
          steps = cond b (assigned_step k w written n accessors e a x ∷ []) [];
        }
    at true = refl
    at false = refl

pub means_same : (n : ℕ) (a : VariableAssignment) (s : State) (x : Emission)
    → known_in (assigned_after n a s x) ≡ s
means_same n a s x = at (is_unknown n a)
  where
    at : (b : Bool)
        → known_in (cond b (with_cells n (new_places n a) s x) (with_state s x)) ≡ s
    at true = refl
    at false = refl

module _ (k : Context) (w : Where) (written : Assign Meant) (n : ℕ) (accessors : Accessors Meant)
    (e : Expr Meant) where
  pub known_after : (a : VariableAssignment) (s : State) (x : Emission) (steps : List Step)
      → is_unknown n a ≡ false → (P : Emission → List Step → Type 0)
      → P (with_state s x) (steps ++ [])
      → P (assigned_after n a s x) (steps ++ assigned_steps k w written n accessors e a x)
  known_after a s x steps is P h = at (is_unknown n a) is
    where
      at : (b : Bool) → b ≡ false
          → P (cond b (with_cells n (new_places n a) s x) (with_state s x))
          (steps ++ cond b (assigned_step k w written n accessors e a x ∷ []) [])
      at true e = absurd (cc)
      at false e = h

  pub unknown_after : (y a : VariableAssignment) (s : State) (x : Emission) (steps : List Step)
      → y ≡ a → is_unknown n y ≡ true → (P : Emission → List Step → Type 0)
      → P (with_cells n (new_places n y) s x)
      (steps ++ assigned_step k w written n accessors e y x ∷ [])
      → P (assigned_after n a s x) (steps ++ assigned_steps k w written n accessors e a x)
  unknown_after y a s x steps same is P h =
      subst (λ (z : VariableAssignment). P (assigned_after n z s x)
      (steps ++ assigned_steps k w written n accessors e z x)) same (at (is_unknown n y) is)
    where
      at : (b : Bool) → b ≡ true
          → P (cond b (with_cells n (new_places n y) s x) (with_state s x))
          (steps ++ cond b (assigned_step k w written n accessors e y x ∷ []) [])
      at true e = h
      at false e = absurd (cc)

  -- the step that the code makes
  pub step_is : (y : VariableAssignment) (x : Emission) (places targets : List ℕ) (first : ℕ)
      → places ≡ new_places n y → targets ≡ numbers_from first (length places)
      → x.next ≡ first
      → step_of k w (known_in x) (variable_cost k w written n accessors e y (known_in x))
      (Assigning n accessors e places) targets None x ≡ assigned_step k w written n accessors e y x
  step_is y x places targets first are is next =
      ap (λ (ts : List ℕ). by places ts) is
      ∙ ap (λ (ps : List ℕ). by ps (numbers_from first (length ps))) are
      ∙ ap (λ (i : ℕ). by (new_places n y) (numbers_from i (length (new_places n y)))) (sym next)
    where
      by : (places targets : List ℕ) → Step
      by places targets =
          step_of k w (known_in x) (variable_cost k w written n accessors e y (known_in x))
          (Assigning n accessors e places) targets None x
