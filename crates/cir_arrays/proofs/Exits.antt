-- Refusals that are handed on, and what a fault says of a meaning.
use Rattle.std.proofs.Common.{◌≡◌, Bool, true, false, Ok, Err}
use Rattle.std.specs.Prelude.{Result, IsErrAnd}
use Rattle.cir_ast.specs.declared.refusal.Kind.{Kind}
use Rattle.cir_arrays.specs.declared.stop.Fault.{Fault}
use Rattle.cir_arrays.specs.declared.stop.Fault.TheVariants.{Refused, OutOfMemory}
use Rattle.cir_arrays.specs.declared.stop.Stop.{Stop}
use Rattle.cir_arrays.specs.Stopped.{IsRefusal, Gives, refused_of}
use Rattle.cir_meaning.specs.Tried.{Where, Tried, next, needed}

-- what refuses a step refuses all
pub exits : {A B : Type 0} (f : Fault) (m : Tried A) (go : A → Tried B) → IsRefusal f m
    → IsRefusal f (next m go)
exits f (Err e) go h = h
exits (Refused s) (Ok a) go h = absurd (cc)
exits OutOfMemory (Ok a) go h = tt

-- the step that refuses is told
pub told : {A : Type 0} (s : Stop) (m : Tried A) → IsRefusal (Refused s) m
    → m ≡ Err (refused_of s)
told s (Err e) h = cc
told s (Ok a) h = absurd (cc)

-- a fault that is handed on
pub exit_gives : {A B : Type 0} (view : A → B) (r : Result A Fault) (e : Fault) (m : Tried B)
    → IsErrAnd r (λ x. x ≡ e) → IsRefusal e m → Gives view r m
exit_gives view (Ok a) e m is h = absurd is
exit_gives view (Err x) e m is h = rw is h

-- and by a test, whatever follows it
pub tests_exit : {A B : Type 0} (t : Bool) (w : Where) (kind : Kind) (f : Fault) (x : A) (y : B)
    → IsRefusal f (needed t w kind (Ok x)) → IsRefusal f (needed t w kind (Ok y))
tests_exit true w kind f x y h = h
tests_exit false w kind f x y h = h
