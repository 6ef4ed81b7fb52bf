-- A scan that is accepted has declared no array that is too large.
use Rattle.std.proofs.Common.{◌≡◌, ℕ, zero, suc, ◌<◌, ◌≤◌, ◌^◌, ◌-◌, Bool, true, false, cond, List}
use Rattle.std.proofs.Common.{[], ◌∷◌, Option, Some, None, Ok, Err, refl, sym, ap, ◌∙◌, arith}
use Rattle.std.specs.Prelude.{◌==◌, nat_le, min}
use Rattle.std.specs.List.{AllByRecursion}
use Rattle.std.proofs.lemmas.Bool.{eqb-true, leb-true, ltb-true}
use Rattle.cir_ast.specs.declared.program.Spot.{Spot}
use Rattle.cir_ast.specs.declared.program.Meant.{Meant}
use Rattle.cir_ast.specs.declared.refusal.Kind.{Kind}
use Rattle.cir_ast.specs.declared.refusal.Kind.TheVariants.{Limit}
use Rattle.cir_ast.specs.Tree.{Statement}
use Rattle.cir_meaning.specs.Tried.{Where, Tried, next, refused}
use Rattle.cir_meaning.specs.Limits.{Counts, nothing, Limited, limits, standing, tested, plus}
use Rattle.cir_meaning.specs.Limits.{size_of, is_too_large, with_array}
use Rattle.cir_meaning.specs.Frame.{State, Context, at, settle, adding}
use Rattle.cir_meaning.specs.Functions.{function_fault, function_elements}
use Rattle.cir_meaning.specs.Costs.{Cost}
use Rattle.cir_meaning.specs.Scan.{scan_declared, scan, forget, undecided}
use Rattle.cir_meaning.specs.Steps.{with_step, unless_faulty, stepped, undecided_cost}
use Rattle.cir_meaning.specs.Steps.{undecided_cells}
use Rattle.cir_meaning.specs.Unknown.{Fault, outer_assigned}
use Rattle.cir_meaning.proofs.Good.{OnGood, good_is}
use Rattle.cir_meaning.proofs.ScanPoints.{next_to}
use Rattle.cir_meaning.proofs.ValueKeepings.{Valued, value_keeps}
use Rattle.cir_steps.proofs.ReadLeaves.{same_ok}

any_good : {A : Type 0} (P : Type 0) (m : Tried A) → P → OnGood (λ a. P) m
unfolding OnGood
any_good P (Ok a) h = h
any_good P (Err e) h = tt

-- an array that is too large has been counted
abbrev pub IsOver : State → Type 0
IsOver s = 1 ≤ s.frame.added.elements

first_stays : (n size : ℕ) → 1 ≤ n → 1 ≤ cond (n == 0) size n
first_stays n size h = by (n == 0) refl
  where
    by : (b : Bool) → (n == 0) ≡ b → 1 ≤ cond b size n
    by true e = let none : n ≡ 0 = eqb-true n 0 e in absurd (omega arith)
    by false e = h

none_at_first : (n size : ℕ) → cond (n == 0) size n ≡ 0 → n ≡ 0
none_at_first n size h = by (n == 0) refl h
  where
    by : (b : Bool) → (n == 0) ≡ b → cond b size n ≡ 0 → n ≡ 0
    by true e g = eqb-true n 0 e
    by false e g = g

array_over : (dims : List ℕ) (c : Counts) → 1 ≤ c.elements → 1 ≤ (with_array dims c).elements
array_over dims c h = by (is_too_large dims)
  where
    by : (b : Bool) → 1 ≤ (cond b (record c {
      elements = cond (c.elements == 0) (standing (size_of dims)) c.elements;
    }) c).elements
    by true = first_stays c.elements (standing (size_of dims)) h
    by false = h

pub array_small : (dims : List ℕ) (c : Counts) → (with_array dims c).elements ≡ 0
    → is_too_large dims ≡ false
array_small dims c h = by (is_too_large dims) refl h
  where
    stands : (n : ℕ) → 1048576 < n → min n (2 ^ 64 - 1) ≡ 0 → ⊥
    stands n large e = omega (arith, large, e)

    none : (n size : ℕ) → 1048576 < size → cond (n == 0) (standing size) n ≡ 0 → ⊥
    none n size large g = at (n == 0) refl g
      where
        at : (b : Bool) → (n == 0) ≡ b → cond b (standing size) n ≡ 0 → ⊥
        at true e i = stands size large i
        at false e i =
            let not_none : (n == 0) ≡ true = ap (λ m. m == 0) i in
            let bad : false ≡ true = sym e ∙ not_none in cc

    by : (b : Bool) → is_too_large dims ≡ b → (cond b (record c {
      elements = cond (c.elements == 0) (standing (size_of dims)) c.elements;
    }) c).elements ≡ 0 → b ≡ false
    by true e g = absurd (none c.elements (size_of dims) (ltb-true 1048576 (size_of dims) e) g)
    by false e g = refl

-- a scan goes on with what is counted
pub over_valued : (k : Context) → Valued k IsOver true
over_valued k w want e s h =
    value_keeps IsOver k (λ dims t g. array_over dims t.frame.added g)
    (λ w n ds t g. any_good (IsOver t) (k.call w n ds t.world) g) w true want e s h

pub over_declared : (n : ℕ) (dims : List ℕ) (s : State) → IsOver s → IsOver (scan_declared n dims s)
over_declared n dims s h = array_over dims s.frame.added h

pub none_before : (go : State → Tried State) → ((s : State) → IsOver s → OnGood IsOver (go s))
    → (t t1 : State) → go t ≡ Ok t1 → t1.frame.added.elements ≡ 0 → t.frame.added.elements ≡ 0
none_before go keeps t t1 ex none = by t.frame.added.elements refl
  where
    by : (n : ℕ) → t.frame.added.elements ≡ n → n ≡ 0
    by zero e = refl
    by (suc n) e =
        let over : 1 ≤ t1.frame.added.elements =
        good_is IsOver (go t) t1 ex (keeps t (omega (arith, e))) in absurd (omega (arith, none))

-- limits that are passed
passed : (ls : List Limited) (w : Where) (c d : Counts) → tested ls w c ≡ Ok d
    → AllByRecursion (λ l. l.count c ≤ l.most) ls
passed [] w c d e = tt
passed (l ∷ ls) w c d e = by (nat_le (l.count c) l.most) refl e (passed ls w c d)
  where
    by : (b : Bool) → nat_le (l.count c) l.most ≡ b
        → cond b (tested ls w c) (refused w (Limit l.which (standing (l.count c)))) ≡ Ok d
        → (tested ls w c ≡ Ok d → AllByRecursion (λ l. l.count c ≤ l.most) ls)
        → AllByRecursion (λ l. l.count c ≤ l.most) (l ∷ ls)
    by true t g rest = (leb-true (l.count c) l.most t, rest g)
    by false t g rest = cc

settled_none : (w : Where) (s t : State) → settle w s ≡ Ok t → s.frame.added.elements ≡ 0
settled_none w s t e =
    let one : (c : Counts) × (tested limits w (plus s.world.counts s.frame.added) ≡ Ok c)
    × (settled c ≡ Ok t) =
    next_to (tested limits w (plus s.world.counts s.frame.added)) settled t e in
    let few = passed limits w (plus s.world.counts s.frame.added) one.0 one.1 in
    let none : s.frame.added.elements ≤ 0 = few.1.1.1.0 in omega (arith, none)
  where
    settled : Counts → Tried State
    settled c = Ok record {
      frame = record (s.frame) { added = nothing };
      world = record (s.world) { counts = record c { elements = 0 } };
    }

stepped_none : (k : Context) (w : Where) (cost : Cost) (cells : ℕ) (s t : State)
    → stepped k w cost cells s ≡ Ok t → t.frame.added.elements ≡ 0 → s.frame.added.elements ≡ 0
stepped_none k w cost cells s t e none = by (function_fault k.program cost.calls) e
  where
    too_many : ℕ
    too_many = function_elements k.program cost.calls

    by : (o : Option Kind)
        → unless_faulty w o (Ok (adding (with_step cost cells too_many) s)) ≡ Ok t
        → s.frame.added.elements ≡ 0
    by (Some kind) g = cc
    by None g =
        none_at_first s.frame.added.elements (standing too_many)
        (ap (λ (u : State). u.frame.added.elements)
        (same_ok (adding (with_step cost cells too_many) s) t g) ∙ none)

pub scanned_none : (k : Context) (spot : Spot) (fault : Option Fault) (a : Statement Spot Meant)
    (f s : State) → undecided k spot fault a f ≡ Ok s → (t : State)
    → scan k (at k spot) a (forget (outer_assigned a) f) ≡ Ok t → t.frame.added.elements ≡ 0
scanned_none k spot (Some x) a f s e t scans = cc
scanned_none k spot None a f s e t scans =
    let one : (s1 : State) × (scan k (at k spot) a (forget (outer_assigned a) f) ≡ Ok s1)
    × (ends s1 ≡ Ok s) = next_to (scan k (at k spot) a (forget (outer_assigned a) f)) ends s e in
    let two : (s2 : State)
    × (stepped k (at k spot) (undecided_cost k (at k spot) a f one.0) (undecided_cells a f) one.0
    ≡ Ok s2) × (settle (at k spot) s2 ≡ Ok s) =
    next_to (stepped k (at k spot) (undecided_cost k (at k spot) a f one.0) (undecided_cells a f)
    one.0) (settle (at k spot)) s one.2 in
    ap (λ (u : State). u.frame.added.elements) (same_ok t one.0 (sym scans ∙ one.1)) ∙
    stepped_none k (at k spot) (undecided_cost k (at k spot) a f one.0) (undecided_cells a f) one.0
    two.0 two.1 (settled_none (at k spot) two.0 s two.2)
  where
    ends : State → Tried State
    ends s1 =
        next (stepped k (at k spot) (undecided_cost k (at k spot) a f s1) (undecided_cells a f) s1)
        (settle (at k spot))
