-- Where names are in scope, what stands has its calls in scope.
use Rattle.std.proofs.Common.{◌≡◌, true, ℕ, List, Option, Some, None}
use Rattle.std.specs.List.{AllByRecursion}
use Rattle.cir_ast.specs.declared.program.Meant.{Meant}
use Rattle.cir_ast.specs.declared.program.Meant.TheVariants as meant
use Rattle.cir_ast.specs.Tree.{Expr, Exprs, none, more, Accessors, done, index, member, Assign, Set}
use Rattle.cir_ast.specs.Tree.{Compound, Left, Increment, Decrement}
use Rattle.cir_meaning.specs.Costs.{Made}
use Rattle.cir_meaning.specs.Scoped.{Scope, AreCallsMeant, AreAllMeant, AreIndicesMeant, IsSetMeant}
use Rattle.cir_meaning.specs.Scoped.{IsAssignMeant, IsOptionMeant}
use Rattle.cir_meaning.specs.Texts.{list_of, indices_of}
use Rattle.cir_meaning.specs.Writing.{plain}
use Rattle.cir_meaning.proofs.ScopeLaws.{set_meant}
use Rattle.wit_lower.specs.Homes.{Homes, Ground, Name}
use Rattle.wit_lower.specs.Sources.{Sources}
use Rattle.cir_emit.proofs.Fitting.{ground_of, IsHeld, IsReady}
use Rattle.cir_emit.proofs.Scanned.{SetReady, PlainReady, ValueReady}

module _ (There : Name → Type 0) (scope : Scope) (keys : List Made) (sources : Sources)
    (changed : List ℕ)
    (free : ℕ → Type 0) (homes : Homes) where
  abbrev g : Ground
  g = ground_of keys sources changed

  abbrev AnyReady : Homes → Expr Meant → Type 0
  AnyReady homes e = IsHeld There keys sources changed homes e

  abbrev ScopeReady : Homes → Expr Meant → Type 0
  ScopeReady homes e = IsReady There scope keys sources changed homes e

  abbrev Ready : Expr Meant → Type 0
  Ready e = AnyReady homes e

  abbrev InReady : Expr Meant → Type 0
  InReady e = ScopeReady homes e

  pub ready_in : (e : Expr Meant) → Ready e → AreCallsMeant scope e → InReady e
  ready_in e h is = (h, is)

  pub dims_ready : (es : Exprs Meant) → AllByRecursion Ready (list_of es) → AreAllMeant scope es
      → AllByRecursion InReady (list_of es)
  dims_ready none h is = tt
  dims_ready (more e es) h is = (ready_in e h.0 is.0, dims_ready es h.1 is.1)

  indices_ready : (rest : Accessors Meant) → AllByRecursion Ready (indices_of rest)
      → AreIndicesMeant scope rest → AllByRecursion InReady (indices_of rest)
  indices_ready done h is = tt
  indices_ready (index e rest) h is = (ready_in e h.0 is.0, indices_ready rest h.1 is.1)
  indices_ready (member name rest) h is = indices_ready rest h is

  set_ready : (m : Meant) (accessors : Accessors Meant) (e : Expr Meant)
      → SetReady AnyReady g free homes m accessors e → IsSetMeant scope m accessors e
      → SetReady ScopeReady g free homes m accessors e
  set_ready (meant.Variable n) accessors e h is = record {
    home = h.home;
    found = h.found;
    may = h.may;
    are = h.are;
    indices = indices_ready accessors h.indices is.1;
    value = ready_in e h.value is.2;
  }
  set_ready meant.Other accessors e h is = tt
  set_ready (meant.Signal d n) accessors e h is = tt
  set_ready (meant.Component n) accessors e h is = tt
  set_ready (meant.Template n) accessors e h is = tt
  set_ready (meant.Function n) accessors e h is = tt

  pub assign_ready : (a : Assign Meant) → PlainReady AnyReady g free homes (plain a)
      → IsAssignMeant scope a
      → PlainReady ScopeReady g free homes (plain a)
  assign_ready (Set name m accessors e) h is = set_ready m accessors e h is
  assign_ready (Compound name m accessors op e) h is =
      set_ready m accessors _ h (set_meant scope m accessors _ is.0 is.1 ((is.0, is.1), is.2))
  assign_ready (Increment name m accessors) h is =
      set_ready m accessors _ h (set_meant scope m accessors _ is.0 is.1 ((is.0, is.1), tt))
  assign_ready (Decrement name m accessors) h is =
      set_ready m accessors _ h (set_meant scope m accessors _ is.0 is.1 ((is.0, is.1), tt))
  assign_ready (Left name m accessors arrow e) h is = tt

  pub value_ready : (n : ℕ) (o : Option (Expr Meant)) → scope.seen n ≡ true
      → ValueReady AnyReady g free homes (meant.Variable n) o → IsOptionMeant scope o
      → ValueReady ScopeReady g free homes (meant.Variable n) o
  value_ready n None seen h is = tt
  value_ready n (Some e) seen h is = set_ready (meant.Variable n) done e h (seen, tt, is)
