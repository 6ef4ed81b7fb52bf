-- A call of a function whose arguments are known answers what is known, the same whatever is
-- counted, and changes nothing but what is counted.
use Rattle.std.proofs.Common.{◌≡◌, ℕ, zero, suc, ◌-◌, true, List, [], ◌∷◌, ◌++◌, length, replicate}
use Rattle.std.proofs.Common.{Option, Some, None, Ok, refl, sym, subst, slice_get}
use Rattle.std.specs.List.{list_all, AllByRecursion}
use Rattle.cir_ast.specs.declared.refusal.Kind.TheVariants.{WrongKind}
use Rattle.cir_ast.specs.Program.{Program, Function}
use Rattle.cir_meaning.specs.SignalFree.{AreFreeStatements, AreFunctionsFree}
use Rattle.cir_meaning.specs.Tried.{Where, next, found}
use Rattle.cir_meaning.specs.Limits.{Counts, nothing}
use Rattle.cir_meaning.specs.Arrays.{Datum, single, is_all_known}
use Rattle.cir_meaning.specs.Values.{Known}
use Rattle.cir_meaning.specs.Frame.{World, Caller, begun}
use Rattle.cir_meaning.specs.Statement.{Flow, Going, Returned, exec_all}
use Rattle.cir_meaning.specs.Bodies.{emptied, function_context, exec_function, call_at, answer_of}
use Rattle.cir_meaning.specs.Bodies.{counted_in}
use Rattle.cir_meaning.proofs.Good.{good_ok, good_bad, good_on}
use Rattle.cir_meaning.proofs.Likes.{CallKeeps}
use Rattle.cir_meaning.proofs.Rows.{all_append, all_replicate}
use Rattle.cir_meaning.proofs.Twins.{Twin, twin_ok, twin_bad, twin_next, twin_weaker, twin_left}
use Rattle.cir_meaning.proofs.Twins.{Below, below_itself, nothing_below, at_twin}
use Rattle.cir_meaning.proofs.ValueTwins.{WorldTwin, CallTwin}
use Rattle.cir_meaning.proofs.KnownValues.{KnownDatum, KnownStore, CallKnown, all_known_data}
use Rattle.cir_meaning.proofs.FunctionTwins.{FlowTwin, exec_all_both}

abbrev pub KnownWorldTwin : Datum × World → Datum × World → Type 0
KnownWorldTwin x y = KnownDatum x.0 × WorldTwin x y

abbrev pub CallBoth : Caller → Type 0
CallBoth call =
    (w : Where) (n : ℕ) (ds : List Datum) (world : World) (c : Counts)
    → list_all is_all_known ds ≡ true → Below c world.counts
    → Twin KnownWorldTwin (call w n ds world) (call w n ds (record world { counts = c }))

pub both_twin : (call : Caller) → CallBoth call → CallTwin call
both_twin call h w n ds world c known below =
    twin_weaker KnownWorldTwin WorldTwin (call w n ds world)
    (call w n ds (record world { counts = c })) (λ x y p. p.1) (h w n ds world c known below)

pub both_known : (call : Caller) → CallBoth call → CallKnown call
both_known call h w n ds world known =
    twin_left (λ x. KnownDatum x.0) KnownWorldTwin (call w n ds world)
    (call w n ds (record world { counts = world.counts })) (λ x y p. p.0)
    (h w n ds world world.counts known (below_itself world.counts))

pub all_get : {A : Type 0} (P : A → Type 0) (xs : List A) (n : ℕ) (x : A)
    → AllByRecursion P xs → slice_get xs n ≡ Some x → P x
all_get P [] n x h e = cc
all_get P (y ∷ ys) zero x h e = let same : y ≡ x = cc in subst P same h.0
all_get P (y ∷ ys) (suc n) x h e = all_get P ys n x h.1 e

answer_twin : (world : World) (c : Counts) (f g : Flow) → FlowTwin f g
    → KnownWorldTwin (counted_in world (answer_of f))
    (counted_in (record world { counts = c }) (answer_of g))
answer_twin world c (Going s) (Going t) h =
    at_twin (λ u. KnownWorldTwin (counted_in world (single (Known 0), s.world))
    (counted_in (record world { counts = c }) (single (Known 0), u.world))) s t h.0
    (λ a b i j. ((refl, tt), (refl, (b, refl, j))))
answer_twin world c (Returned d inner) (Returned e other) h =
    subst (λ o. KnownWorldTwin (counted_in world (d, inner))
    (counted_in (record world { counts = c }) (e, o))) (sym h.1.1.1)
    (h.0, (h.1.0, (h.1.1.0, refl, h.1.1.2)))
answer_twin world c (Going s) (Returned e other) h = absurd h
answer_twin world c (Returned d inner) (Going t) h = absurd h

pub begun_known : (arguments : List Datum) (variables : ℕ) → KnownStore arguments
    → KnownStore (arguments ++ replicate variables (single (Known 0)))
begun_known arguments variables h =
    all_append KnownDatum arguments (replicate variables (single (Known 0))) h
    (all_replicate KnownDatum variables (single (Known 0)) (refl, tt))

function_both : (p : Program) (size : ℕ) (call : Caller) → AreFunctionsFree p → CallBoth call
    → CallBoth (exec_function p size call)
function_both p size call free h w n ds world c known below =
    at (slice_get p.functions n) refl
  where
    at : (o : Option Function) → slice_get p.functions n ≡ o
        → Twin KnownWorldTwin
        (next (found w WrongKind o) (λ f.
        next (exec_all (function_context p size call w f) f.body
        record { frame = begun ds (f.variables - length ds) 0 0; world = emptied world })
        (λ flow. Ok (counted_in world (answer_of flow)))))
        (next (found w WrongKind o) (λ f.
        next (exec_all (function_context p size call w f) f.body record {
          frame = begun ds (f.variables - length ds) 0 0;
          world = emptied (record world { counts = c });
        }) (λ flow. Ok (counted_in (record world { counts = c }) (answer_of flow)))))
    at None e = twin_bad KnownWorldTwin _ _
    at (Some f) e =
        twin_next FlowTwin KnownWorldTwin (exec_all (function_context p size call w f) f.body
        record { frame = begun ds (f.variables - length ds) 0 0; world = emptied world })
        (exec_all (function_context p size call w f) f.body record {
          frame = begun ds (f.variables - length ds) 0 0;
          world = emptied (record world { counts = c });
        }) _ _
        (exec_all_both (function_context p size call w f) (both_twin call h) (both_known call h)
        (length p.functions) f.body
        (all_get (λ g. AreFreeStatements (length p.functions) g.body) p.functions n f free e)
        record { frame = begun ds (f.variables - length ds) 0 0; world = emptied world } nothing c
        (nothing_below nothing) below
        (begun_known ds (f.variables - length ds) (all_known_data ds known)))
        (λ flow other q. twin_ok KnownWorldTwin _ _ (answer_twin world c flow other q))

pub calls_both : (p : Program) (size room : ℕ) → AreFunctionsFree p
    → CallBoth (call_at p size room)
calls_both p size zero free w n ds world c known below = twin_bad KnownWorldTwin _ _
calls_both p size (suc room) free w n ds world c known below =
    function_both p size (call_at p size room) free (calls_both p size room free) w n ds world c
    known below

pub calls_keep : (p : Program) (size room : ℕ) → CallKeeps (call_at p size room)
calls_keep p size zero w n ds world = good_bad (λ x. x.1 ≡ record world { counts = x.1.counts }) _
calls_keep p size (suc room) w n ds world =
    good_on (λ x. x.1 ≡ record world { counts = x.1.counts })
    (found w WrongKind (slice_get p.functions n)) _ (λ f.
    good_on (λ x. x.1 ≡ record world { counts = x.1.counts })
    (exec_all (function_context p size (call_at p size room) w f) f.body
    record { frame = begun ds (f.variables - length ds) 0 0; world = emptied world }) _ (λ flow.
    good_ok (λ x. x.1 ≡ record world { counts = x.1.counts })
    (counted_in world (answer_of flow)) refl))
