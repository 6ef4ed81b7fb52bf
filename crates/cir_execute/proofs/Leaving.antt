-- What is left of a statement where its condition isn't known, step by step.
use Rattle.std.proofs.Common.{◌≡◌, ◌∙◌, ℕ, ◌+◌, ◌<◌, ◌≤◌, ◌++◌, List, drop, get_or, length, Ok, Err}
use Rattle.std.proofs.Common.{ap, sym, refl, subst, append-nil}
use Rattle.std.specs.Prelude.{IfOk, Option, Result, Some, None, filter, not, sum_by, ◌==◌}
use Rattle.std.specs.List.{list_any}
use Rattle.std.proofs.lemmas.List.{at_drop_more, drop_all}
use Rattle.std.proofs.lemmas.List.Sums.{sum_by-cons}
use Rattle.cir_ast.specs.declared.program.Spot.{Spot}
use Rattle.cir_ast.specs.declared.program.Meant.{Meant}
use Rattle.cir_ast.specs.Tree.{Assign, Expr, Statement}
use Rattle.cir_meaning.specs.Tried.{Tried, next}
use Rattle.cir_meaning.specs.Frame.{State, Context, at, settle, variable_at}
use Rattle.cir_meaning.specs.Costs.{Cell, Cost, unknown_at}
use Rattle.cir_meaning.specs.Limits.{standing}
use Rattle.cir_meaning.specs.Places.{elements, numbers_from}
use Rattle.cir_meaning.specs.Unknown as U
use Rattle.cir_meaning.specs.Statement.{loop_of}
use Rattle.cir_meaning.specs.Steps.{is_outer, start_reads, stepped, undecided_cells, undecided_cost}
use Rattle.cir_meaning.specs.Scan.{allowed, forget, forget_one, scan, undecided}
use Rattle.cir_arrays.specs.declared.stop.Fault.{Fault}
use Rattle.cir_arrays.specs.declared.stop.Fault.TheVariants.{OutOfMemory}
use Rattle.cir_arrays.specs.Stopped.{IsRefusal, Refuses}
use Rattle.cir_arrays.proofs.Exits.{exits}
use Rattle.cir_cost.specs.declared.cost.Cost.{Cost as CodeCost}
use Rattle.cir_cost.specs.Adds.{Adds, read_alone}
use Rattle.cir_cost.proofs.Adding.{adds_both, adds_none}
use Rattle.cir_known.specs.declared.variables.Touched.{Touched}
use Rattle.cir_assign.proofs.Assignments.{stepped_standing}
use Rattle.cir_assign.proofs.Repeats.{stepped_alike}
use Rattle.cir_execute.specs.Again.{Repeats}
use Rattle.cir_execute.specs.Rests.{IsTouched, inside}
use Rattle.cir_execute.proofs.Going.{refusal}
use Rattle.cir_execute.proofs.Agains.{enclosed_alike}

abbrev pub outer_of : (declared written : List ℕ) → List ℕ
outer_of declared written = U.rising (filter (λ n. not (list_any (λ m. m == n) declared)) written)

-- a test stops all, or lets all go on
allowed_next : (k : Context) (fault : Option U.Fault) (s : State) (go : Tried State)
    → allowed k fault go ≡ next (allowed k fault (Ok s)) (λ _. go)
allowed_next k None s go = refl
allowed_next k (Some f) s go = refl

pub allowed_stops : (k : Context) (fault : Option U.Fault) (s : State) (go : Tried State)
    (f : Fault) → IsRefusal f (allowed k fault (Ok s)) → IsRefusal f (allowed k fault go)
allowed_stops k fault s go f h =
    refusal f _ _ (allowed_next k fault s go) (exits f (allowed k fault (Ok s)) (λ _. go) h)

allowed_goes : (k : Context) (fault : Option U.Fault) (s : State) (go : Tried State)
    → allowed k fault (Ok s) ≡ Ok s → allowed k fault go ≡ go
allowed_goes k fault s go h = allowed_next k fault s go ∙ ap (λ z. next z (λ _. go)) h

pub none_faulty : (k : Context) (fault : Option U.Fault) (s : State)
    → allowed k fault (Ok s) ≡ Ok s → fault ≡ None
none_faulty k None s h = refl
none_faulty k (Some f) s h = absurd (cc)

-- the writes and declarations of a loop that is left
loop_writes : (spot step_spot : Spot) (c : Expr Meant) (body : Statement Spot Meant)
    (a : Assign Meant) → U.writes (loop_of spot c body step_spot a)
    ≡ U.writes body ++ U.assign_writes a
loop_writes spot step_spot c body a =
    ap (λ l. U.writes body ++ l) (append-nil (U.assign_writes a))

loop_declares : (spot step_spot : Spot) (c : Expr Meant) (body : Statement Spot Meant)
    (a : Assign Meant) → U.declares (loop_of spot c body step_spot a) ≡ U.declares body
loop_declares spot step_spot c body a = append-nil (U.declares body)

loop_touched : (spot step_spot : Spot) (c : Expr Meant) (body : Statement Spot Meant)
    (a : Assign Meant) (t : Touched)
    → t.assigned.items ≡ outer_of (U.declares body) (U.writes body ++ U.assign_writes a)
    → t.written.items ≡ U.writes body ++ U.assign_writes a
    → t.declared.items ≡ U.declares body → IsTouched (loop_of spot c body step_spot a) t
loop_touched spot step_spot c body a t assigned written declared =
    let left = loop_of spot c body step_spot a in
    let writes = U.writes body ++ U.assign_writes a in record {
      assigned = assigned
          ∙ ap (λ ds. outer_of ds writes) (sym (loop_declares spot step_spot c body a))
          ∙ ap (outer_of (U.declares left)) (sym (loop_writes spot step_spot c body a));
      written = written ∙ sym (loop_writes spot step_spot c body a);
      declared = declared ∙ sym (loop_declares spot step_spot c body a);
    }

-- what an answer says of what is touched
pub all_touched : {E : Type 0} (r : Result Touched E) (a : Statement Spot Meant)
    → IfOk r (λ t. t.assigned.items ≡ U.outer_assigned a)
    → IfOk r (λ t. t.written.items ≡ U.writes a) → IfOk r (λ t. t.declared.items ≡ U.declares a)
    → IfOk r (IsTouched a)
all_touched (Ok t) a h g e = record { assigned = h; written = g; declared = e }
all_touched (Err x) a h g e = tt

pub loop_touches : {E : Type 0} (r : Result Touched E) (spot step_spot : Spot) (c : Expr Meant)
    (body : Statement Spot Meant) (a : Assign Meant)
    → IfOk r (λ t. t.assigned.items
    ≡ outer_of (U.declares body) (U.writes body ++ U.assign_writes a))
    → IfOk r (λ t. t.written.items ≡ U.writes body ++ U.assign_writes a)
    → IfOk r (λ t. t.declared.items ≡ U.declares body)
    → IfOk r (IsTouched (loop_of spot c body step_spot a))
loop_touches (Ok t) spot step_spot c body a h g e =
    loop_touched spot step_spot c body a t h g e
loop_touches (Err x) spot step_spot c body a h g e = tt

-- what isn't allowed is refused at its own place
pub allowed_refused : (k : Context) (fault : Option U.Fault) (s : State) (f : U.Fault) (x : Fault)
    → fault ≡ Some f → Refuses (at k f.spot) f.kind x → IsRefusal x (allowed k fault (Ok s))
allowed_refused k fault s f x is h =
    subst (λ o. IsRefusal x (allowed k o (Ok s))) (sym is) h

pub memory_refuses : {A : Type 0} (f : Fault) (m : Tried A) → f ≡ OutOfMemory → IsRefusal f m
memory_refuses f m h = rw h tt

-- ---- variables in turn
pub forget_more : (ns : List ℕ) (i : ℕ) (s : State) → i < length ns
    → forget (drop i ns) s ≡ forget (drop (i + 1) ns) (forget_one (get_or ns i 0) s)
forget_more ns i s less = at_drop_more (λ l. forget l s) ns i 0 less

pub forget_end : (ns : List ℕ) (i : ℕ) (s : State) → length ns ≤ i → forget (drop i ns) s ≡ s
forget_end ns i s h = ap (λ l. forget l s) (drop_all i ns h)

abbrev pub read_at : ℕ → State → List Cell
read_at n s =
    unknown_at n (variable_at s.frame n) (numbers_from 0 (elements (variable_at s.frame n).dims))

pub reads_more : (ns : List ℕ) (i : ℕ) (s : State) (a b c : CodeCost) → i < length ns
    → Adds a b (read_alone (read_at (get_or ns i 0) s))
    → Adds b c (read_alone (start_reads (drop (i + 1) ns) s))
    → Adds a c (read_alone (start_reads (drop i ns) s))
reads_more ns i s a b c less h rest =
    subst (λ l. Adds a c (read_alone l)) (sym (at_drop_more (λ l. start_reads l s) ns i 0 less))
    (adds_both a b c (read_alone (read_at (get_or ns i 0) s))
    (read_alone (start_reads (drop (i + 1) ns) s)) h rest)

pub reads_end : (ns : List ℕ) (i : ℕ) (s : State) (a : CodeCost) → length ns ≤ i
    → Adds a a (read_alone (start_reads (drop i ns) s))
reads_end ns i s a h =
    subst (λ l. Adds a a (read_alone (start_reads l s))) (sym (drop_all i ns h)) (adds_none a)

pub sum_more : (f : ℕ → ℕ) (ns : List ℕ) (i : ℕ) → i < length ns
    → sum_by f (drop i ns) ≡ f (get_or ns i 0) + sum_by f (drop (i + 1) ns)
sum_more f ns i less =
    at_drop_more (sum_by f) ns i 0 less ∙ sum_by-cons f (get_or ns i 0) (drop (i + 1) ns)

pub sum_end : (f : ℕ → ℕ) (ns : List ℕ) (i : ℕ) → length ns ≤ i → sum_by f (drop i ns) ≡ 0
sum_end f ns i h = ap (sum_by f) (drop_all i ns h)

module _ (k : Context) (spot : Spot) (fault : Option U.Fault) (a : Statement Spot Meant) (s : State)
    (free : allowed k fault (Ok s) ≡ Ok s) where
  abbrev scanned : Tried State
  scanned = scan k (at k spot) a (forget (U.outer_assigned a) s)

  abbrev behind : State → Tried State
  behind s1 =
      next (stepped k (at k spot) (undecided_cost k (at k spot) a s s1) (undecided_cells a s) s1)
      (settle (at k spot))

  pub scan_stops : (f : Fault) → IsRefusal f scanned → IsRefusal f (undecided k spot fault a s)
  scan_stops f h =
      refusal f _ _ (allowed_goes k fault s (next scanned behind) free) (exits f scanned behind h)

  -- what stands in it, behind what it reads when it begins
  abbrev pub enclosing : Cost → Cost
  enclosing c =
      record c { reads = start_reads (U.outer_assigned a) s ++ filter (is_outer a) c.reads }

  -- the step, of a cost that is the same but for what is read or called again
  step_is : (s1 s2 : State) (c : Cost) (count : ℕ) → Repeats c (inside k (at k spot) a s1)
      → count ≡ standing (undecided_cells a s) → s2 ≡ s1
      → stepped k (at k spot) (undecided_cost k (at k spot) a s s1) (undecided_cells a s) s1
      ≡ stepped k (at k spot) (enclosing c) count s2
  step_is s1 s2 c count h cells same =
      let step : Cost → ℕ → State → Tried State = stepped k (at k spot) in
      let begun : Cost = enclosing c in
      sym (stepped_alike k (at k spot) begun _ (undecided_cells a s) s1
      (enclosed_alike k.program (start_reads (U.outer_assigned a) s) (is_outer a) c
      (inside k (at k spot) a s1) h))
      ∙ sym (stepped_standing k (at k spot) begun (undecided_cells a s) s1)
      ∙ ap (λ n. step begun n s1) (sym cells) ∙ ap (step begun count) (sym same)

  -- what is left behind the scan
  pub scan_goes : (s1 s2 : State) (c : Cost) (count : ℕ) → scanned ≡ Ok s1
      → Repeats c (inside k (at k spot) a s1) → count ≡ standing (undecided_cells a s) → s2 ≡ s1
      → undecided k spot fault a s
      ≡ next (stepped k (at k spot) (enclosing c) count s2) (settle (at k spot))
  scan_goes s1 s2 c count went h cells same =
      allowed_goes k fault s (next scanned behind) free ∙ ap (λ z. next z behind) went
      ∙ ap (λ z. next z (settle (at k spot))) (step_is s1 s2 c count h cells same)
