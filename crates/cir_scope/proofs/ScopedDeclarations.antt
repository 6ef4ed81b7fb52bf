-- Declarations get the next numbers of a scope, and their values are in scope.
use Rattle.std.proofs.Common.{◌≡◌, List, [], ◌∷◌, Ok, refl, ap}
use Rattle.cir_ast.specs.declared.operators.Direction.{Direction}
use Rattle.cir_ast.specs.declared.program.Spot.{Spot}
use Rattle.cir_ast.specs.declared.program.Meant.{Meant}
use Rattle.cir_ast.specs.declared.program.Meant.TheVariants as meant
use Rattle.cir_ast.specs.Tree.{Variable, Signal, Component}
use Rattle.cir_resolve.specs.Steps.{made, in_turn}
use Rattle.cir_resolve.specs.Scope.{State, declared}
use Rattle.cir_resolve.specs.Naming.{named_exprs, named_value, named_signal_value, named_variable}
use Rattle.cir_resolve.specs.Naming.{named_signal, named_component}
use Rattle.cir_checks.specs.declared.positions.Position.{Position}
use Rattle.cir_checks.specs.Heads.{Table}
use Rattle.cir_checks.specs.Statements.{other_room}
use Rattle.cir_checks.specs.Checked.{Each, IsVariable, IsSignal}
use Rattle.cir_meaning.specs.Scoped.{Scope, with_variable, with_variables, IsVariableScoped}
use Rattle.cir_meaning.specs.Scoped.{AreVariablesScoped, with_signal, with_signals}
use Rattle.cir_meaning.specs.Scoped.{AreSignalsScoped}
use Rattle.cir_meaning.proofs.WiderScopes.{wide_value}
use Rattle.cir_scope.proofs.Given.{OnGiven, given_behind, given_made, given_declared}
use Rattle.cir_scope.proofs.Agreement.{Agrees, agrees_variable, agrees_signal, agrees_component}
use Rattle.cir_scope.proofs.ScopedExprs.{meant_exprs, meant_option, meant_signal_value}

-- a name is declared, and behind it there is this scope
abbrev pub Declares : Table → Meant → Scope → Meant → State → Type 0
Declares t is after m st = (m ≡ is) × Agrees t after st

abbrev pub VariableFits : Table → Position → Scope → Variable Meant → State → Type 0
VariableFits t p s v after =
    (IsVariable t p v → IsVariableScoped s v) × Agrees t (with_variable s) after

given_variable : {N : Type 0} (t : Table) (p : Position) (spot : Spot) (s : Scope) (st : State)
    → Agrees t s st → (v : Variable N) → OnGiven (VariableFits t p s) (named_variable spot st v)
given_variable t p spot s st a v =
    given_behind (Declares t (meant.Variable s.variables) (with_variable s)) (VariableFits t p s)
    (declared spot st v.name (meant.Variable st.variables))
    (λ m after.
    Ok (
      record {
        name = v.name;
        meant = m;
        dimensions = named_exprs st v.dimensions;
        value = named_value after v.value;
      },
      after,
    ))
    (given_declared (Declares t (meant.Variable s.variables) (with_variable s)) spot st v.name
    (meant.Variable st.variables)
    (ap meant.Variable a.variables, agrees_variable t s st v.name a))
    (λ m after d. (
      λ h. (
        d.0,
        meant_exprs t s st a (other_room p) v.dimensions h.0,
        meant_option t (with_variable s) after d.1 (other_room p) v.value h.1,
      ),
      d.1,
    ))

abbrev pub VariablesFit : Table → Position → Scope → List (Variable Meant) → State → Type 0
VariablesFit t p s vs after =
    (Each (IsVariable t p) vs → AreVariablesScoped s vs) × Agrees t (with_variables s vs) after

pub given_variables : {N : Type 0} (t : Table) (p : Position) (spot : Spot) (s : Scope)
    (st : State) → Agrees t s st → (vs : List (Variable N))
    → OnGiven (VariablesFit t p s) (in_turn (named_variable spot) st vs)
given_variables t p spot s st a [] = (λ h. tt, a)
given_variables t p spot s st a (v ∷ vs) =
    given_behind (VariableFits t p s) (VariablesFit t p s) (named_variable spot st v)
    (λ w y. made (λ ws. w ∷ ws) (in_turn (named_variable spot) y vs))
    (given_variable t p spot s st a v)
    (λ w y f. given_made (VariablesFit t p (with_variable s)) (VariablesFit t p s) (λ ws. w ∷ ws)
    (in_turn (named_variable spot) y vs)
    (given_variables t p spot (with_variable s) y f.1 vs)
    (λ ws x g. (λ h. (f.0 h.0, g.0 h.1), g.1)))

abbrev SignalFits : Table → Position → Direction → Scope → Signal Meant → State → Type 0
SignalFits t p d s x after =
    (IsSignal t p d x → AreSignalsScoped d s (x ∷ [])) × Agrees t (with_signal s) after

given_signal : {N : Type 0} (t : Table) (p : Position) (spot : Spot) (d : Direction) (s : Scope)
    (st : State) → Agrees t s st → (x : Signal N)
    → OnGiven (SignalFits t p d s) (named_signal spot d st x)
given_signal t p spot d s st a x =
    given_behind (Declares t (meant.Signal d s.signals) (with_signal s)) (SignalFits t p d s)
    (declared spot st x.name (meant.Signal d st.signals))
    (λ m after.
    Ok (
      record {
        name = x.name;
        meant = m;
        dimensions = named_exprs st x.dimensions;
        value = named_signal_value after x.value;
      },
      after,
    ))
    (given_declared (Declares t (meant.Signal d s.signals) (with_signal s)) spot st x.name
    (meant.Signal d st.signals)
    (ap (meant.Signal d) a.signals, agrees_signal t s st d x.name a))
    (λ m after e. (
      λ h. (
        e.0,
        wide_value (with_signal s) s (refl, λ n f. f) (named_signal_value after x.value)
            (meant_signal_value t (with_signal s) after e.1 p d x.value h.1),
        tt,
      ),
      e.1,
    ))

abbrev pub SignalsFit : Table → Position → Direction → Scope → List (Signal Meant) → State
    → Type 0
SignalsFit t p d s xs after =
    (Each (IsSignal t p d) xs → AreSignalsScoped d s xs) × Agrees t (with_signals s xs) after

pub given_signals : {N : Type 0} (t : Table) (p : Position) (spot : Spot) (d : Direction)
    (s : Scope) (st : State) → Agrees t s st → (xs : List (Signal N))
    → OnGiven (SignalsFit t p d s) (in_turn (named_signal spot d) st xs)
given_signals t p spot d s st a [] = (λ h. tt, a)
given_signals t p spot d s st a (x ∷ xs) =
    given_behind (SignalFits t p d s) (SignalsFit t p d s) (named_signal spot d st x)
    (λ w y. made (λ ws. w ∷ ws) (in_turn (named_signal spot d) y xs))
    (given_signal t p spot d s st a x)
    (λ w y f. given_made (SignalsFit t p d (with_signal s)) (SignalsFit t p d s) (λ ws. w ∷ ws)
    (in_turn (named_signal spot d) y xs)
    (given_signals t p spot d (with_signal s) y f.1 xs)
    (λ ws z g. (λ h. ((f.0 h.0).0, (f.0 h.0).1, g.0 h.1), g.1)))

-- components have no number in a scope
abbrev Still : {A : Type 0} → Table → Scope → A → State → Type 0
Still t s x after = Agrees t s after

given_component : {N : Type 0} (t : Table) (spot : Spot) (s : Scope) (st : State)
    → Agrees t s st → (c : Component N) → OnGiven (Still t s) (named_component spot st c)
given_component t spot s st a c =
    given_behind (Still t s) (Still t s)
    (declared spot st c.name (meant.Component st.components))
    (λ m after.
    Ok (record { name = c.name; meant = m; dimensions = named_exprs st c.dimensions }, after))
    (given_declared (Still t s) spot st c.name (meant.Component st.components)
    (agrees_component t s st st.components c.name a))
    (λ m after e. e)

pub given_components : {N : Type 0} (t : Table) (spot : Spot) (s : Scope) (st : State)
    → Agrees t s st → (cs : List (Component N))
    → OnGiven (λ ds after. Agrees t s after) (in_turn (named_component spot) st cs)
given_components t spot s st a [] = a
given_components t spot s st a (c ∷ cs) =
    given_behind (Still t s) (Still t s) (named_component spot st c)
    (λ w y. made (λ ws. w ∷ ws) (in_turn (named_component spot) y cs))
    (given_component t spot s st a c)
    (λ w y e. given_made (Still t s) (Still t s) (λ ws. w ∷ ws)
    (in_turn (named_component spot) y cs) (given_components t spot s y e cs) (λ ws z g. g))
