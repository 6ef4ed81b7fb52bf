use Rattle.std.proofs.Common.{◌≡◌, ◌∙◌, ℕ, List, Ok, ap, sym, refl, subst}
use Rattle.std.specs.Prelude.{Option, Result, sum_by}
use Rattle.cir_ast.specs.declared.program.Spot.{Spot}
use Rattle.cir_ast.specs.declared.program.Meant.{Meant}
use Rattle.cir_ast.specs.Tree.{Statement}
use Rattle.cir_arrays.specs.declared.stop.Fault.{Fault as CodeFault}
use Rattle.cir_arrays.specs.Stopped.{Gives, IsRefusal}
use Rattle.cir_arrays.specs.Counted.{counts_of}
use Rattle.cir_arrays.proofs.Exits.{exit_gives, exits}
use Rattle.cir_frame.specs.Shown.{state_of}
use Rattle.cir_meaning.specs.Frame.{State, Context, at, settle, variable_at}
use Rattle.cir_meaning.specs.Limits.{standing}
use Rattle.cir_meaning.specs.Places.{elements}
use Rattle.cir_meaning.specs.Scan.{allowed, forget, scan, undecided}
use Rattle.cir_meaning.specs.Steps.{start_reads, stepped}
use Rattle.cir_meaning.specs.Tried.{next}
use Rattle.cir_meaning.specs.Costs.{Cost}
use Rattle.cir_meaning.specs.Unknown.{Fault, outer_assigned}
use Rattle.cir_evaluate.specs.Within.{context_of}
use Rattle.cir_cost.specs.declared.cost.Cost.{Cost as CodeCost}
use Rattle.cir_cost.specs.Adds.{IsCost, read_alone}
use Rattle.cir_execute.specs.Again.{IsOnce}
use Rattle.cir_execute.specs.Rests.{inside, rest_by, rest_fault}
use Rattle.cir_execute.proofs.Going.{given, refusal}
use Rattle.cir_execute.proofs.Leaving.{allowed_stops, enclosing, memory_refuses, none_faulty}
use Rattle.cir_execute.proofs.Leaving.{scan_goes, scan_stops}
use Rattle.cir_execute.proofs.undecided.undecided.Goals as goal

-- what is left behind the scan: of lemmas' variables, since a `let` is written out where it stands
module _ (k : Context) (spot : Spot) (fault : Option Fault) (a : Statement Spot Meant) (s : State)
    (free : allowed k fault (Ok s) ≡ Ok s) where
  whole : (xs : List ℕ) (s0 s1 s2 : State) (cost : CodeCost) (count : ℕ)
      (once : IsOnce cost (inside k (at k spot) a s1)) → xs ≡ outer_assigned a
      → s0 ≡ forget xs s → scan k (at k spot) a s0 ≡ Ok s1
      → count ≡ standing (sum_by (λ n. elements (variable_at s.frame n).dims) xs) → s2 ≡ s1
      → undecided k spot fault a s
      ≡ next (stepped k (at k spot) (enclosing k spot fault a s free once.once) count s2)
      (settle (at k spot))
  whole xs s0 s1 s2 cost count once is begun went cells same =
      scan_goes k spot fault a s free s1 s2 once.once count
      (ap (scan k (at k spot) a) (sym (begun ∙ ap (λ l. forget l s) is)) ∙ went) once.repeats
      (cells ∙ ap (λ l. standing (sum_by (λ n. elements (variable_at s.frame n).dims) l)) is) same

  stops_whole : (f : CodeFault) (xs : List ℕ) (s0 s1 s2 : State) (cost : CodeCost) (count : ℕ)
      (once : IsOnce cost (inside k (at k spot) a s1))
      → xs ≡ outer_assigned a → s0 ≡ forget xs s → scan k (at k spot) a s0 ≡ Ok s1
      → count ≡ standing (sum_by (λ n. elements (variable_at s.frame n).dims) xs) → s2 ≡ s1
      → ((c : Cost) → IsCost cost c
      → IsRefusal f (stepped k (at k spot) (enclosing k spot fault a s free c) count s2))
      → IsRefusal f (undecided k spot fault a s)
  stops_whole f xs s0 s1 s2 cost count once is begun went cells same step =
      refusal f (undecided k spot fault a s)
      (next (stepped k (at k spot) (enclosing k spot fault a s free once.once) count s2)
      (settle (at k spot))) (whole xs s0 s1 s2 cost count once is begun went cells same)
      (exits f _ _ (step once.once once.is))

  given_whole : {A : Type 0} (view : A → State) (r : Result A CodeFault) (xs : List ℕ)
      (s0 s1 s2 s3 : State) (cost : CodeCost) (count : ℕ)
      (once : IsOnce cost (inside k (at k spot) a s1)) → xs ≡ outer_assigned a
      → s0 ≡ forget xs s → scan k (at k spot) a s0 ≡ Ok s1
      → count ≡ standing (sum_by (λ n. elements (variable_at s.frame n).dims) xs) → s2 ≡ s1
      → ((c : Cost) → IsCost cost c
      → stepped k (at k spot) (enclosing k spot fault a s free c) count s2 ≡ Ok s3)
      → Gives view r (settle (at k spot) s3) → Gives view r (undecided k spot fault a s)
  given_whole view r xs s0 s1 s2 s3 cost count once is begun went cells same step last =
      given view r (undecided k spot fault a s) (settle (at k spot) s3)
      (whole xs s0 s1 s2 cost count once is begun went cells same
      ∙ ap (λ z. next z (settle (at k spot))) (step once.once once.is)) last

pub returns-in_err-allowed-clause-state : goal.returns-in_err-allowed-clause-state
returns-in_err-allowed-clause-state g c =
    λ m qs.
    let s = state_of c.args.frame.now c.args.world.now qs in
    let k = context_of c.args.context.now m.call m.make in
    exit_gives _ _ _ _ c.from_residual.ensures.1
    (allowed_stops k (rest_fault c.args.rest.now) s _ _ (c.in_err-allowed.ensures m.call m.make s))

pub returns-in_err-scan_rest-clause-state : goal.returns-in_err-scan_rest-clause-state
returns-in_err-scan_rest-clause-state g c =
    let spot = c.args.spot in
    let a = rest_by spot c.args.rest.now in
    let old = c.args.world.now in
    let scans = rw (c.dark-dark.ensures, c.here-here.ensures) at c.in_err-scan_rest.ensures.state in
    let is = c.as_slice-variables.ensures.value ∙ (c.in_ok-touched.ensures spot).assigned in
    λ m qs.
    let s = state_of c.args.frame.now old qs in
    let k = context_of c.args.context.now m.call m.make in
    let forgotten = c.forget.ensures old qs ∙ ap (λ l. forget l s) is in
    exit_gives _ _ _ _ c.from_residual-in_err-scan_rest.ensures.1
    (scan_stops k spot (rest_fault c.args.rest.now) a s (c.in_ok-allowed.ensures m.call m.make s) _
    (refusal _ _ _ (ap (scan k (at k spot) a) (sym forgotten)) (scans m spot qs refl)))

pub returns-in_err-inside-clause-state : goal.returns-in_err-inside-clause-state
returns-in_err-inside-clause-state g c =
    λ m qs. exit_gives _ _ _ _ c.from_residual-in_err-inside.ensures.1
    (memory_refuses _ _ c.in_err-inside.ensures.memory)

pub returns-in_err-stepped-clause-state : goal.returns-in_err-stepped-clause-state
returns-in_err-stepped-clause-state g c =
    let spot = c.args.spot in
    let a = rest_by spot c.args.rest.now in
    let fault = rest_fault c.args.rest.now in
    let old = c.args.world.now in
    let f = c.scan_rest.new.frame in
    let scans = rw (c.dark-dark.ensures, c.here-here.ensures) at c.in_ok-scan_rest.ensures.state in
    let costs = rw (c.dark-dark.ensures, c.here-here.ensures) at c.in_ok-inside.ensures.cost in
    let sames = rw (c.dark-dark.ensures, c.here-here.ensures) at c.in_ok-inside.ensures.same in
    let steps = rw c.here-here.ensures at c.in_err-stepped.ensures.step in
    let touched = c.in_ok-touched.ensures spot in
    let is = c.as_slice-variables.ensures.value ∙ touched.assigned in
    let begun = c.in_ok-cost.ensures in
    λ m qs.
    let s = state_of c.args.frame.now old qs in
    let k = context_of c.args.context.now m.call m.make in
    let free = c.in_ok-allowed.ensures m.call m.make s in
    exit_gives _ _ _ _ c.from_residual-in_err-stepped.ensures.1
    (stops_whole k spot fault a s free _ c.as_slice-variables.result.now
    (state_of c.forget.new.frame old qs) (state_of f c.scan_rest.new.world qs)
    (state_of f c.inside_cost.new.world qs) c.in_ok-inside.inside c.in_ok-cost.cells
    (costs m spot qs refl (none_faulty k fault s free)) is
    (c.forget.ensures old qs) (scans m spot qs refl)
    (begun.cells (counts_of old.added)) ((sames m).states f qs)
    (λ d once. steps m.call m.make (enclosing k spot fault a s free d) f qs
    (c.in_ok-enclose.ensures a (start_reads _ s) d touched
    (subst (λ l. IsCost c.in_ok-cost.cost (read_alone (start_reads l s))) is (begun.reads old qs))
    once)))

pub returns-clause-state : goal.returns-clause-state
returns-clause-state g c =
    let spot = c.args.spot in
    let a = rest_by spot c.args.rest.now in
    let fault = rest_fault c.args.rest.now in
    let old = c.args.world.now in
    let f = c.scan_rest.new.frame in
    let scans = rw (c.dark-dark.ensures, c.here-here.ensures) at c.in_ok-scan_rest.ensures.state in
    let costs = rw (c.dark-dark.ensures, c.here-here.ensures) at c.in_ok-inside.ensures.cost in
    let sames = rw (c.dark-dark.ensures, c.here-here.ensures) at c.in_ok-inside.ensures.same in
    let steps = rw c.here-here.ensures at c.in_ok-stepped.ensures.step in
    let touched = c.in_ok-touched.ensures spot in
    let is = c.as_slice-variables.ensures.value ∙ touched.assigned in
    let begun = c.in_ok-cost.ensures in
    λ m qs.
    let s = state_of c.args.frame.now old qs in
    let k = context_of c.args.context.now m.call m.make in
    let free = c.in_ok-allowed.ensures m.call m.make s in
    given_whole k spot fault a s free _ c.settle.result c.as_slice-variables.result.now
    (state_of c.forget.new.frame old qs) (state_of f c.scan_rest.new.world qs)
    (state_of f c.inside_cost.new.world qs) _ c.in_ok-inside.inside c.in_ok-cost.cells
    (costs m spot qs refl (none_faulty k fault s free)) is
    (c.forget.ensures old qs) (scans m spot qs refl)
    (begun.cells (counts_of old.added)) ((sames m).states f qs)
    (λ d once. steps m.call m.make (enclosing k spot fault a s free d) f qs
    (c.in_ok-enclose.ensures a (start_reads _ s) d touched
    (subst (λ l. IsCost c.in_ok-cost.cost (read_alone (start_reads l s))) is (begun.reads old qs))
    once))
    (c.settle.ensures.value f qs)
