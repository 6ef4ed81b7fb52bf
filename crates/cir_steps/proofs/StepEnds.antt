-- A statement that runs under a condition that isn't known ends with as many numbers of each outer
-- variable as it began with.
use Rattle.std.proofs.Common.{◌≡◌, ◌≢◌, ◌⊎◌, inl, inr, ℕ, zero, suc, Bool, true, false, cond, List}
use Rattle.std.proofs.Common.{[], ◌∷◌, ◌++◌, map, length, Option, Some, None, Ok, Err, refl, sym}
use Rattle.std.proofs.Common.{ap, subst, ◌∙◌, slice_get, slice_set}
use Rattle.std.specs.Prelude.{⊤, unwrap_or, ◌==◌}
use Rattle.cir_ast.specs.declared.program.Spot.{Spot}
use Rattle.cir_ast.specs.declared.program.Meant.{Meant}
use Rattle.cir_ast.specs.declared.program.Meant.TheVariants as meant
use Rattle.cir_ast.specs.Tree.{Expr, Accessors, done, index, member, Variable, Assign, Set}
use Rattle.cir_ast.specs.Tree.{Compound, Left, Increment, Decrement, First, FirstVars, FirstAssign}
use Rattle.cir_ast.specs.Tree.{Simple, Vars, Signals, Declared, Created, Assigned, Constrain, Right}
use Rattle.cir_ast.specs.Tree.{TargetLeft, TargetRight, Alone, Statement, Block, If, IfElse, While}
use Rattle.cir_ast.specs.Tree.{For, Return, Assert, Log, Ended, Statements, empty, then_more}
use Rattle.cir_meaning.specs.Tried.{next}
use Rattle.cir_meaning.specs.Places.{is_inside}
use Rattle.cir_meaning.specs.Arrays.{filled, single}
use Rattle.cir_meaning.specs.Writing.{plain}
use Rattle.cir_meaning.specs.Unknown.{variable_of, vars_declare, first_declares, simple_declares}
use Rattle.cir_meaning.specs.Unknown.{declares, all_declares}
use Rattle.cir_meaning.specs.RunValues.{Ran, Numbers, Environment, Store, stored, number_in}
use Rattle.cir_meaning.specs.RunValues.{index_numbers, dims_numbers, the_number}
use Rattle.cir_meaning.specs.RunStatements.{StepFlow, StepGoing, StepReturned, step_goes}
use Rattle.cir_meaning.specs.RunStatements.{step_going, spend, step_set, step_plain, step_assign}
use Rattle.cir_meaning.specs.RunStatements.{step_value, declared, step_variable, step_variables}
use Rattle.cir_meaning.specs.RunStatements.{step_first, step_simple, step_turns, step_statement}
use Rattle.cir_meaning.specs.RunStatements.{step_statements}
use Rattle.cir_meaning.proofs.Assigning.{put_count}
use Rattle.cir_meaning.proofs.Writing.{get_set}
use Rattle.cir_meaning.proofs.PartWrites.{get_other, same_or_not}
use Rattle.cir_steps.proofs.Templates.{IsPlain, ArePlain, Apart}
use Rattle.cir_steps.proofs.Putting.{set_none}

-- what is told of an answer
unfoldable pub On : {A : Type 0} → (A → Type 0) → Ran A → Type 0
On Q (Ok (a, u)) = Q a
On Q (Err stop) = ⊤

on_ok : {A : Type 0} (Q : A → Type 0) (a : A) (u : ℕ) → Q a → On Q (Ok (a, u))
unfolding On
on_ok Q a u h = h

on_err : {A : Type 0} (Q : A → Type 0) (stop : ℕ) → On Q (Err stop)
unfolding On
on_err Q stop = tt

on_next : {A B : Type 0} (P : A → Type 0) (Q : B → Type 0) (m : Ran A) (go : A × ℕ → Ran B)
    → On P m → ((a : A) (u : ℕ) → P a → On Q (go (a, u))) → On Q (next m go)
unfolding On
on_next P Q (Ok (a, u)) go h f = f a u h
on_next P Q (Err stop) go h f = tt

on_any : {A B : Type 0} (Q : B → Type 0) (m : Ran A) (go : A × ℕ → Ran B)
    → ((a : A) (u : ℕ) → On Q (go (a, u))) → On Q (next m go)
unfolding On
on_any Q (Ok (a, u)) go f = f a u
on_any Q (Err stop) go f = tt

pub on_is : {A : Type 0} (Q : A → Type 0) (m : Ran A) (a : A) (u : ℕ) → On Q m → m ≡ Ok (a, u)
    → Q a
unfolding On
on_is Q (Ok (b, v)) a u h e =
    let same : (b, v) ≡ (a, u) = cc in
    subst Q (ap (λ (y : _ × ℕ). y.0) same) h
on_is Q (Err stop) a u h e = cc

on_if : {A : Type 0} (Q : A → Type 0) (b : Bool) (m r : Ran A) → On Q m → On Q r
    → On Q (cond b m r)
on_if Q true m r h g = h
on_if Q false m r h g = g

on_spend : {A : Type 0} (Q : A → Type 0) (u : ℕ) (go : ℕ → Ran A) → ((v : ℕ) → On Q (go v))
    → On Q (spend u go)
on_spend Q zero go h = on_err Q _
on_spend Q (suc u) go h = h u

-- lists that a number is apart from
pub apart_front : (n : ℕ) (xs ys : List ℕ) → Apart n (xs ++ ys) → Apart n xs
apart_front n [] ys h = tt
apart_front n (x ∷ xs) ys h = (h.0, apart_front n xs ys h.1)

pub apart_back : (n : ℕ) (xs ys : List ℕ) → Apart n (xs ++ ys) → Apart n ys
apart_back n [] ys h = h
apart_back n (x ∷ xs) ys h = apart_back n xs ys h.1

module _ (n count : ℕ) (env : Environment) where
  abbrev pub Fits : Store → Type 0
  Fits store = length (stored store n).items ≡ count

  abbrev pub FlowFits : StepFlow → Type 0
  FlowFits (StepGoing store) = Fits store
  FlowFits (StepReturned d) = ⊥

  set_fits : (m : ℕ) (d : Numbers) (store : Store) → length d.items ≡ length (stored store m).items
      → Fits store → Fits (slice_set store m d)
  set_fits m d store same h = at (slice_get store m) refl (same_or_not m n)
    where
      at : (o : Option Numbers) → slice_get store m ≡ o → (m ≡ n) ⊎ (m ≢ n)
          → Fits (slice_set store m d)
      at o is (inr ne) =
          ap (λ q. length (unwrap_or q (single 0)).items) (get_other store m n d ne) ∙ h
      at (Some old) is (inl e) =
          subst (λ (i : ℕ). length (stored (slice_set store m d) i).items ≡ count) e
          (ap (λ q. length (unwrap_or q (single 0)).items) (get_set store m old d is) ∙ same
          ∙ ap (λ (i : ℕ). length (stored store i).items) e ∙ h)
      at None is (inl e) =
          subst (λ (i : ℕ). length (stored (slice_set store m d) i).items ≡ count) e
          (ap (λ q. length (unwrap_or q (single 0)).items) (set_none store m d is)
          ∙ ap (λ q. length (unwrap_or q (single 0)).items) (sym is)
          ∙ ap (λ (i : ℕ). length (stored store i).items) e ∙ h)

  other_fits : (m : ℕ) (d : Numbers) (store : Store) → n ≢ m → Fits store
      → Fits (slice_set store m d)
  other_fits m d store ne h =
      ap (λ q. length (unwrap_or q (single 0)).items) (get_other store m n d (λ e. ne (sym e))) ∙ h

  on_indices : {A : Type 0} (Q : A → Type 0) (store : Store) (indices : List ℕ)
      (accessors : Accessors Meant) (u : ℕ) (go : List ℕ → ℕ → Ran A)
      → ((is : List ℕ) (v : ℕ) → On Q (go is v))
      → On Q (index_numbers env store indices accessors u go)
  on_indices Q store indices done u go h = h indices u
  on_indices Q store indices (member name rest) u go h = h indices u
  on_indices Q store indices (index e rest) u go h =
      on_any Q (number_in env store e u) _
      (λ d v. on_indices Q store (indices ++ the_number d ∷ []) rest v go h)

  set_ends : (m : Meant) (accessors : Accessors Meant) (e : Expr Meant) (store : Store) (u : ℕ)
      → Fits store → On Fits (step_set env m accessors e store u)
  set_ends (meant.Variable m) accessors e store u h =
      on_any Fits (number_in env store e u) _ (λ d v.
      on_indices Fits store [] accessors v _ (λ is u2.
      on_if Fits (is_inside (stored store m).dims (map (λ i. Some i) is)) _ _
      (on_ok Fits _ u2 (set_fits m _ store (put_count (λ v. ⊥) _ d.items (stored store m).items) h))
      (on_err Fits _)))
  set_ends meant.Other accessors e store u h = on_err Fits _
  set_ends (meant.Signal direction m) accessors e store u h = on_err Fits _
  set_ends (meant.Component m) accessors e store u h = on_err Fits _
  set_ends (meant.Template m) accessors e store u h = on_err Fits _
  set_ends (meant.Function m) accessors e store u h = on_err Fits _

  plain_ends : (a : Assign Meant) (store : Store) (u : ℕ) → Fits store
      → On Fits (step_plain env a store u)
  plain_ends (Set name m accessors e) store u h = set_ends m accessors e store u h
  plain_ends (Compound name m accessors op e) store u h = on_err Fits _
  plain_ends (Left name m accessors arrow e) store u h = on_err Fits _
  plain_ends (Increment name m accessors) store u h = on_err Fits _
  plain_ends (Decrement name m accessors) store u h = on_err Fits _

  value_ends : (m : Meant) (o : Option (Expr Meant)) (store : Store) (u : ℕ) → Fits store
      → On Fits (step_value env m o store u)
  value_ends m None store u h = on_ok Fits store u h
  value_ends m (Some e) store u h = set_ends m done e store u h

  declared_fits : (m : Meant) (dims : List ℕ) (store : Store) → Apart n (variable_of m)
      → Fits store → Fits (declared m dims store)
  declared_fits (meant.Variable m) dims store apart h = other_fits m (filled dims 0) store apart.0 h
  declared_fits meant.Other dims store apart h = h
  declared_fits (meant.Signal direction m) dims store apart h = h
  declared_fits (meant.Component m) dims store apart h = h
  declared_fits (meant.Template m) dims store apart h = h
  declared_fits (meant.Function m) dims store apart h = h

  variables_end : (vs : List (Variable Meant)) (store : Store) (u : ℕ)
      → Apart n (vars_declare vs) → Fits store → On Fits (step_variables env vs store u)
  variables_end [] store u apart h = on_ok Fits store u h
  variables_end (v ∷ vs) store u apart h =
      on_next Fits Fits (step_variable env v store u) _
      (on_any Fits (dims_numbers env store v.dimensions u) _ (λ dims u1.
      value_ends v.meant v.value (declared v.meant dims store) u1
      (declared_fits v.meant dims store
      (apart_front n (variable_of v.meant) (vars_declare vs) apart) h)))
      (λ store1 u1 h1. variables_end vs store1 u1
      (apart_back n (variable_of v.meant) (vars_declare vs) apart) h1)

  first_ends : (f : First Meant) (store : Store) (u : ℕ) → Apart n (first_declares f)
      → Fits store → On Fits (step_first env f store u)
  first_ends (FirstVars vs) store u apart h = variables_end vs store u apart h
  first_ends (FirstAssign a) store u apart h = plain_ends (plain a) store u h

  simple_ends : (x : Simple Meant) (store : Store) (u : ℕ) → Apart n (simple_declares x)
      → Fits store → On Fits (step_simple env x store u)
  simple_ends (Vars vs) store u apart h = variables_end vs store u apart h
  simple_ends (Assigned a) store u apart h = plain_ends (plain a) store u h
  simple_ends (Signals direction ds) store u apart h = on_err Fits _
  simple_ends (Declared cs) store u apart h = on_err Fits _
  simple_ends (Created name m e) store u apart h = on_err Fits _
  simple_ends (Constrain a b) store u apart h = on_err Fits _
  simple_ends (Right e arrow name m accessors) store u apart h = on_err Fits _
  simple_ends (TargetLeft target arrow source) store u apart h = on_err Fits _
  simple_ends (TargetRight source arrow target) store u apart h = on_err Fits _
  simple_ends (Alone parallel name m arguments inputs) store u apart h = on_err Fits _

  going_ends : (flow : StepFlow) (u : ℕ) (go : Store → ℕ → Ran StepFlow) → FlowFits flow
      → ((store : Store) (v : ℕ) → Fits store → On FlowFits (go store v))
      → On FlowFits (step_going flow u go)
  going_ends (StepGoing store) u go h f = f store u h
  going_ends (StepReturned d) u go h f = absurd h

  goes_ends : (m : Ran Store) → On Fits m → On FlowFits (step_goes m)
  goes_ends m h = on_next Fits FlowFits m _ h (λ store u f. on_ok FlowFits (StepGoing store) u f)

  turns_end : (most : ℕ) (c : Expr Meant) (f : Store → ℕ → Ran StepFlow)
      → ((store : Store) (u : ℕ) → Fits store → On FlowFits (f store u)) → (store : Store) (u : ℕ)
      → Fits store → On FlowFits (step_turns most env c f store u)
  turns_end zero c f ends store u h = on_err FlowFits _
  turns_end (suc most) c f ends store u h =
      on_any FlowFits (number_in env store c u) _ (λ d u1.
      on_if FlowFits (the_number d == 0) _ _ (on_ok FlowFits (StepGoing store) u1 h)
      (on_spend FlowFits u1 _ (λ u2.
      on_next FlowFits FlowFits (f store u2) _ (ends store u2 h)
      (λ flow u3 g. going_ends flow u3 _ g (turns_end most c f ends)))))

  mutual
    pub statement_ends : (a : Statement Spot Meant) (store : Store) (u : ℕ) → IsPlain a
        → Apart n (declares a) → Fits store → On FlowFits (step_statement env a store u)
    statement_ends (Block spot ss) store u pl apart h = statements_end ss store u pl apart h
    statement_ends (If spot c a) store u pl apart h =
        on_any FlowFits (number_in env store c u) _ (λ d u1.
        on_if FlowFits (the_number d == 0) _ _ (on_ok FlowFits (StepGoing store) u1 h)
        (statement_ends a store u1 pl apart h))
    statement_ends (IfElse spot c a b) store u pl apart h =
        on_any FlowFits (number_in env store c u) _ (λ d u1.
        on_if FlowFits (the_number d == 0) _ _
        (statement_ends b store u1 pl.1 (apart_back n (declares a) (declares b) apart) h)
        (statement_ends a store u1 pl.0 (apart_front n (declares a) (declares b) apart) h))
    statement_ends (While spot c a) store u pl apart h =
        turns_end (suc u) c (step_statement env a)
        (λ st v g. statement_ends a st v pl.0 apart g) store u h
    statement_ends (For spot first_spot f c step_spot a body) store u pl apart h =
        on_next Fits FlowFits (step_first env f store u) _
        (first_ends f store u (apart_front n (first_declares f) (declares body) apart) h)
        (λ store1 u1 h1. turns_end (suc u1) c (λ store2 u2.
        next (step_statement env body store2 u2) (λ (flow, u3). step_going flow u3
        (λ store3 u4. step_goes (step_assign env a store3 u4)))) (λ store2 u2 h2.
        on_next FlowFits FlowFits (step_statement env body store2 u2)
        (λ (flow, u3). step_going flow u3 (λ store3 u4.
        step_goes (step_assign env a store3 u4)))
        (statement_ends body store2 u2 pl.0
        (apart_back n (first_declares f) (declares body) apart) h2)
        (λ flow u3 g. going_ends flow u3 _ g (λ store3 u4 h3.
        goes_ends (step_assign env a store3 u4) (plain_ends (plain a) store3 u4 h3))))
        store1 u1 h1)
    statement_ends (Return spot e) store u pl apart h = absurd pl
    statement_ends (Assert spot e) store u pl apart h =
        on_any FlowFits (number_in env store e u) _ (λ d u1.
        on_if FlowFits (the_number d == 0) _ _ (on_err FlowFits _)
        (on_ok FlowFits (StepGoing store) u1 h))
    statement_ends (Log spot arguments) store u pl apart h = on_err FlowFits _
    statement_ends (Ended spot x) store u pl apart h =
        goes_ends (step_simple env x store u) (simple_ends x store u apart h)

    statements_end : (ss : Statements Spot Meant) (store : Store) (u : ℕ) → ArePlain ss
        → Apart n (all_declares ss) → Fits store → On FlowFits (step_statements env ss store u)
    statements_end empty store u pl apart h = on_ok FlowFits (StepGoing store) u h
    statements_end (then_more a rest) store u pl apart h =
        on_next FlowFits FlowFits (step_statement env a store u) _
        (statement_ends a store u pl.0 (apart_front n (declares a) (all_declares rest) apart) h)
        (λ flow u1 g. going_ends flow u1 _ g (λ store1 u2 h1.
        statements_end rest store1 u2 pl.1
        (apart_back n (declares a) (all_declares rest) apart) h1))
