-- What the code's refusals stand for.
use Rattle.std.specs.Prelude.{◌≡◌, Bool, true, Option, Some, None, Result, Ok, Err}
use Rattle.cir_arrays.specs.declared.stop.Site.{Site}
use Rattle.cir_arrays.specs.declared.stop.Stop.{Stop}
use Rattle.cir_arrays.specs.declared.stop.Fault.{Fault}
use Rattle.cir_arrays.specs.declared.stop.Fault.TheVariants as fault
use Rattle.cir_ast.specs.declared.refusal.Kind.{Kind}
use Rattle.cir_meaning.specs.Tried.{Where, Refused, Tried, needed}

abbrev pub where_of : Site → Where
where_of s = record { file = s.file; spot = s.spot; instance = s.instance; path = s.path.now }

abbrev pub refused_of : Stop → Refused
refused_of s = record {
  kind = s.kind;
  place = record { file = s.file; spot = s.spot; instance = s.instance; path = s.path };
}

-- what a meaning is refused by
abbrev pub cause_of : {A : Type 0} → Tried A → Option Refused
cause_of (Ok a) = None
cause_of (Err e) = Some e

abbrev pub IsCause : Fault → Option Refused → Type 0
IsCause (fault.Refused s) cause = cause ≡ Some (refused_of s)
IsCause fault.OutOfMemory cause = Unit {0}

-- a fault is the meaning's refusal, or want of memory
abbrev pub IsRefusal : {A : Type 0} → Fault → Tried A → Type 0
IsRefusal f m = IsCause f (cause_of m)

-- this refusal, or want of memory
abbrev pub Refuses : Where → Kind → Fault → Type 0
Refuses w kind f = IsCause f (Some record { kind = kind; place = w })

-- the answer is the meaning's
abbrev pub Gives : {A B : Type 0} → (A → B) → Result A Fault → Tried B → Type 0
Gives view (Ok a) m = m ≡ Ok (view a)
Gives view (Err f) m = IsRefusal f m

-- the test holds, or this refusal
abbrev pub Tests : {A : Type 0} → Bool → Where → Kind → Result A Fault → Type 0
Tests test w kind (Ok a) = test ≡ true
Tests test w kind (Err f) = IsRefusal f (needed test w kind (Ok test))
