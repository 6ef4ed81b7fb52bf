-- What is in scope is in scope where more is.
use Rattle.std.proofs.Common.{◌≡◌, ℕ, true, List, [], ◌∷◌, subst}
use Rattle.std.specs.List.{AllByRecursion}
use Rattle.cir_ast.specs.declared.program.Meant.{Meant}
use Rattle.cir_ast.specs.declared.program.Meant.TheVariants as meant
use Rattle.cir_ast.specs.Tree.{Expr, Number, Place, Call, Anonymous, Parentheses, Array, Unary}
use Rattle.cir_ast.specs.Tree.{Binary, Choice, Exprs, none, more, Accessors, done, index, member}
use Rattle.cir_ast.specs.Tree.{Inputs, Listed, Named, NamedInputs, unnamed, named, SignalValue}
use Rattle.cir_ast.specs.Tree.{Nothing, Given, Assign, Set, Compound, Left, Increment, Decrement}
use Rattle.cir_ast.specs.Tree.{LogArgument, Words, LogValue, Source, One, Values}
use Rattle.cir_meaning.specs.SignalFree.{IsFunction}
use Rattle.cir_meaning.specs.Scoped.{Scope, IsSeen, AreCallsMeant, AreAllMeant, AreIndicesMeant}
use Rattle.cir_meaning.specs.Scoped.{AreInputsMeant, AreNamedMeant, IsSetMeant, IsAssignMeant}
use Rattle.cir_meaning.specs.Scoped.{IsSignalValueMeant, IsSourceMeant, IsArgumentMeant}

abbrev pub Wider : Scope → Scope → Type 0
Wider s t = (s.functions ≡ t.functions) × ((n : ℕ) → s.seen n ≡ true → t.seen n ≡ true)

module _ (s t : Scope) (wider : Wider s t) where
  wide_seen : (m : Meant) → IsSeen s m → IsSeen t m
  wide_seen (meant.Variable n) h = wider.1 n h
  wide_seen meant.Other h = tt
  wide_seen (meant.Signal direction n) h = tt
  wide_seen (meant.Component n) h = tt
  wide_seen (meant.Template n) h = tt
  wide_seen (meant.Function n) h = tt

  wide_function : (m : Meant) → IsFunction s.functions m → IsFunction t.functions m
  wide_function m h = subst (λ n. IsFunction n m) wider.0 h

  mutual
    pub wide : (e : Expr Meant) → AreCallsMeant s e → AreCallsMeant t e
    wide (Number n) h = tt
    wide (Place name m accessors) h = (wide_seen m h.0, wide_indices accessors h.1)
    wide (Call parallel name m arguments) h = (wide_function m h.0, wide_all arguments h.1)
    wide (Anonymous parallel name m arguments inputs) h = wide_inputs inputs h
    wide (Parentheses e) h = wide e h
    wide (Array elements) h = wide_all elements h
    wide (Unary op a) h = wide a h
    wide (Binary op a b) h = (wide a h.0, wide b h.1)
    wide (Choice c a b) h = (wide c h.0, wide a h.1, wide b h.2)

    wide_all : (es : Exprs Meant) → AreAllMeant s es → AreAllMeant t es
    wide_all none h = tt
    wide_all (more e es) h = (wide e h.0, wide_all es h.1)

    pub wide_indices : (accessors : Accessors Meant) → AreIndicesMeant s accessors
        → AreIndicesMeant t accessors
    wide_indices done h = tt
    wide_indices (index e rest) h = (wide e h.0, wide_indices rest h.1)
    wide_indices (member name rest) h = wide_indices rest h

    pub wide_inputs : (is : Inputs Meant) → AreInputsMeant s is → AreInputsMeant t is
    wide_inputs (Listed es) h = wide_all es h
    wide_inputs (Named is) h = wide_named is h

    wide_named : (is : NamedInputs Meant) → AreNamedMeant s is → AreNamedMeant t is
    wide_named unnamed h = tt
    wide_named (named name arrow e rest) h = (wide e h.0, wide_named rest h.1)

  pub wide_set : (m : Meant) (accessors : Accessors Meant) (e : Expr Meant)
      → IsSetMeant s m accessors e → IsSetMeant t m accessors e
  wide_set (meant.Component n) accessors e h = tt
  wide_set (meant.Variable n) accessors e h =
      (wide_seen (meant.Variable n) h.0, wide_indices accessors h.1, wide e h.2)
  wide_set meant.Other accessors e h = (tt, wide_indices accessors h.1, wide e h.2)
  wide_set (meant.Signal direction n) accessors e h =
      (tt, wide_indices accessors h.1, wide e h.2)
  wide_set (meant.Template n) accessors e h = (tt, wide_indices accessors h.1, wide e h.2)
  wide_set (meant.Function n) accessors e h = (tt, wide_indices accessors h.1, wide e h.2)

  pub wide_assign : (a : Assign Meant) → IsAssignMeant s a → IsAssignMeant t a
  wide_assign (Set name m accessors e) h = wide_set m accessors e h
  wide_assign (Compound name m accessors op e) h =
      (wide_seen m h.0, wide_indices accessors h.1, wide e h.2)
  wide_assign (Left name m accessors arrow e) h = wide e h
  wide_assign (Increment name m accessors) h = (wide_seen m h.0, wide_indices accessors h.1)
  wide_assign (Decrement name m accessors) h = (wide_seen m h.0, wide_indices accessors h.1)

  pub wide_value : (v : SignalValue Meant) → IsSignalValueMeant s v → IsSignalValueMeant t v
  wide_value Nothing h = tt
  wide_value (Given arrow e) h = wide e h

  pub wide_each : (es : List (Expr Meant)) → AllByRecursion (AreCallsMeant s) es
      → AllByRecursion (AreCallsMeant t) es
  wide_each [] h = tt
  wide_each (e ∷ es) h = (wide e h.0, wide_each es h.1)

  pub wide_source : (source : Source Meant) → IsSourceMeant s source → IsSourceMeant t source
  wide_source (One e) h = wide e h
  wide_source (Values es) h = wide_each es h

  pub wide_arguments : (as' : List (LogArgument Meant)) → AllByRecursion (IsArgumentMeant s) as'
      → AllByRecursion (IsArgumentMeant t) as'
  wide_arguments [] h = tt
  wide_arguments (Words text ∷ rest) h = (tt, wide_arguments rest h.1)
  wide_arguments (LogValue e ∷ rest) h = (wide e h.0, wide_arguments rest h.1)
