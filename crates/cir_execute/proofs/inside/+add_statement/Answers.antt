use Rattle.std.proofs.Common.{◌≡◌, ◌∙◌, map, ap, sym, refl, subst, inl, inr}
use Rattle.std.specs.Prelude.{None, flat_map}
use Rattle.std.proofs.lemmas.Result.{on_ok_weaker}
use Rattle.cir_ast.specs.declared.program.Spot.{Spot}
use Rattle.cir_ast.specs.declared.program.Meant.{Meant}
use Rattle.cir_ast.specs.Tree.{Block, Ended, If, IfElse, Statement, as_statements, bare}
use Rattle.cir_ast.specs.Tree.{bare_assign, bare_first, bare_simple, bare_statement, bare_variable}
use Rattle.cir_ast.proofs.Rows.{block_is}
use Rattle.cir_frame.specs.Shown.{state_of}
use Rattle.cir_meaning.specs.Arrays.{Scalar}
use Rattle.cir_meaning.specs.Texts.{all_wanted, assign_wanted, variable_wanted, wanted}
use Rattle.cir_meaning.specs.Unknown.{assign_fault, fault_in, fault_of, first_fault, first_of}
use Rattle.cir_meaning.specs.Unknown.{simple_fault}
use Rattle.cir_evaluate.specs.Within.{context_at, where_at}
use Rattle.cir_execute.specs.Again.{AddsOnce}
use Rattle.cir_execute.specs.Rests.{assign_inside, inside}
use Rattle.cir_execute.proofs.Standing.{all_end, all_more, at_both, else_stands, for_stands}
use Rattle.cir_execute.proofs.Standing.{form_of, formed, if_stands, none_first, none_more}
use Rattle.cir_execute.proofs.Standing.{none_then, simple_stands, stands_one, unchanged}
use Rattle.cir_execute.proofs.Standing.{unchanged_all, unchanged_by, unchanged_next}
use Rattle.cir_execute.proofs.Fors.{for_shown}
use Rattle.cir_execute.proofs.inside.+add_statement.Goals as goal

-- ---- a block
pub loop-inner-init : goal.loop-inner-init
loop-inner-init g t c = record {
  cost = λ m qs new dark free h. h;
  fault = λ free. free;
  same = λ m. unchanged c.args.world.now;
}

pub loop-inner-preserved : goal.loop-inner-preserved
loop-inner-preserved g t c =
    let h = c.args.dark.now in
    let f = c.args.frame.now in
    let loop = c.loop-inner in
    let all = c.as_slice-inner-items.result.now in
    let x = c.inner-item.result in
    let added = c.in_ok-add_statement-in-Block.ensures in
    let here = none_more all loop.inner-index x c.loop-inner-test.true c.inner-item.is in record {
      cost = λ m qs new dark free rest. loop.invariant.cost m qs new dark free
          (all_more (context_at h m) (where_at h) (state_of f c.args.world.now qs) loop.cost
          c.add_statement.new.cost new all loop.inner-index x (state_of f loop.world qs)
          c.loop-inner-test.true c.inner-item.is ((loop.invariant.same m).states f qs)
          (added.cost m qs dark (here (loop.invariant.fault free)).0) rest);
      fault = λ free. (here (loop.invariant.fault free)).1;
      same = λ m. unchanged_next _ _ _ (loop.invariant.same m) (added.same m);
    }

pub returns-after-loop-inner-clause-cost : goal.returns-after-loop-inner-clause-cost
returns-after-loop-inner-clause-cost g t c =
    let h = c.args.dark.now in
    let a = c.args.statement.now in
    let loop = c.loop-inner in
    let all = c.as_slice-inner-items.result.now in
    λ m qs dark free.
    let k = context_at h m in
    let w = where_at h in
    let s = state_of c.args.frame.now c.args.world.now qs in
    let is = block_is _ _ c.in-Block.block
    ∙ ap (λ xs. as_statements (map bare_statement xs)) (sym c.as_slice-inner-items.ensures) in
    let none = subst (λ xs. fault_in xs ≡ None) is
    (form_of (λ x. fault_of x ≡ None) a _ c.in-Block.is free) in
    formed (λ x. AddsOnce c.args.cost.now loop.cost (inside k w x s)) a _ c.in-Block.is
    (subst (λ xs. AddsOnce c.args.cost.now loop.cost (inside k w (Block a.spot xs) s)) (sym is)
    (simple_stands k w s c.args.cost.now c.node.new.self loop.cost _
    (all_wanted (as_statements (map bare_statement all))) c.node.ensures
    (loop.invariant.cost m qs loop.cost dark none
    (all_end k w s loop.cost all loop.inner-index c.loop-inner-test.false))))

-- ---- branches
pub returns-in_ok-add-in-If-clause-cost : goal.returns-in_ok-add-in-If-clause-cost
returns-in_ok-add-in-If-clause-cost g t c =
    let h = c.args.dark.now in
    let a = c.args.statement.now in
    let e = c.in-If in
    let old = c.args.cost.now in
    let test = c.in_ok-add-in-If.ensures in
    let two = c.add-in-If.new.self in
    let x = c.deref-in-If in
    let tail = c.add_statement-in-If in
    λ m qs dark free.
    let k = context_at h m in
    let w = where_at h in
    let s = state_of c.args.frame.now c.args.world.now qs in
    let Free : Statement Spot Meant → Type 0 = λ z. fault_of z ≡ None in
    let Stood : Statement Spot Meant → Type 0 = λ z. AddsOnce old tail.new.cost (inside k w z s) in
    let none : Free (bare_statement e.chosen.value) =
    elim e.is [ inl i ↦ form_of Free a _ i free | inr i ↦ form_of Free a _ i free ] in
    let whole : Stood (If a.spot (bare e.condition) (bare_statement e.chosen.value))
    → Stood (bare_statement a) =
    λ z. elim e.is [ inl i ↦ formed Stood a _ i z | inr i ↦ formed Stood a _ i z ] in
    on_ok_weaker tail.result (λ z. whole
    (subst (λ v. Stood (If a.spot (bare e.condition) (bare_statement v))) x.ensures
    (if_stands k w s old c.node.new.self two tail.new.cost a.spot (bare e.condition)
    (bare_statement x.result.now) c.node.ensures
    (stands_one k w s c.node.new.self two Scalar (bare e.condition) h.shaded s dark refl
    (test.cost m qs))
    (subst (λ u. AddsOnce two tail.new.cost (inside k w (bare_statement x.result.now) u))
    (test.same m c.args.frame.now qs) z))))
    (tail.ensures.cost m qs dark (subst (λ v. Free (bare_statement v)) (sym x.ensures) none))

pub returns-in_ok-add-in-If-clause-same : goal.returns-in_ok-add-in-If-clause-same
returns-in_ok-add-in-If-clause-same g t c =
    let test = c.in_ok-add-in-If.ensures in
    λ m. on_ok_weaker c.add_statement-in-If.result
    (unchanged_next _ _ _ (unchanged_by c.args.world.now c.add-in-If.new.world (test.same m)
    (test.keeps m))) (c.add_statement-in-If.ensures.same m)

pub returns-in_ok-add_statement-in-IfElse-clause-cost :
    goal.returns-in_ok-add_statement-in-IfElse-clause-cost
returns-in_ok-add_statement-in-IfElse-clause-cost g t c =
    let h = c.args.dark.now in
    let f = c.args.frame.now in
    let a = c.args.statement.now in
    let e = c.in-IfElse in
    let old = c.args.cost.now in
    let test = c.in_ok-add-in-IfElse.ensures in
    let stood = c.in_ok-add_statement-in-IfElse.ensures in
    let tail = c.add_statement-in-IfElse-2 in
    let two = c.add.new.self in
    let three = c.add_statement-in-IfElse.new.cost in
    let x = c.deref in
    let y = c.deref-in-IfElse in
    λ m qs dark free.
    let k = context_at h m in
    let w = where_at h in
    let s = state_of f c.args.world.now qs in
    let first = test.same m f qs in
    let second = (stood.same m).states f qs ∙ first in
    let faults = at_both
    (λ u v. first_of (fault_of (bare_statement u)) (fault_of (bare_statement v)) ≡ None) _ _ _ _
    (sym x.ensures) (sym y.ensures) (form_of (λ z. fault_of z ≡ None) a _ e.is free) in
    on_ok_weaker tail.result (λ z. formed (λ z. AddsOnce old tail.new.cost (inside k w z s)) a _
    e.is (at_both (λ u v. AddsOnce old tail.new.cost (inside k w
    (IfElse a.spot (bare e.condition) (bare_statement u) (bare_statement v)) s)) _ _ _ _ x.ensures
    y.ensures (else_stands k w s old c.node.new.self two three tail.new.cost a.spot
    (bare e.condition) (bare_statement x.result.now) (bare_statement y.result.now) c.node.ensures
    (stands_one k w s c.node.new.self two Scalar (bare e.condition) h.shaded s dark refl
    (test.cost m qs))
    (subst (λ u. AddsOnce two three (inside k w (bare_statement x.result.now) u)) first
    (stood.cost m qs dark (none_first (fault_of (bare_statement x.result.now)) _ faults)))
    (subst (λ u. AddsOnce three tail.new.cost (inside k w (bare_statement y.result.now) u)) second
    z))))
    (tail.ensures.cost m qs dark (none_then (fault_of (bare_statement x.result.now)) _ faults))

pub returns-in_ok-add_statement-in-IfElse-clause-same :
    goal.returns-in_ok-add_statement-in-IfElse-clause-same
returns-in_ok-add_statement-in-IfElse-clause-same g t c =
    let test = c.in_ok-add-in-IfElse.ensures in
    λ m. on_ok_weaker c.add_statement-in-IfElse-2.result
    (unchanged_next _ _ _ (unchanged_next _ _ _
    (unchanged_by c.args.world.now c.add.new.world (test.same m) (test.keeps m))
    (c.in_ok-add_statement-in-IfElse.ensures.same m))) (c.add_statement-in-IfElse-2.ensures.same m)

-- ---- a `for`
pub returns-in_ok-add_statement-in-For-clause-cost :
    goal.returns-in_ok-add_statement-in-For-clause-cost
returns-in_ok-add_statement-in-For-clause-cost g t c =
    let h = c.args.dark.now in
    let f = c.args.frame.now in
    let a = c.args.statement.now in
    let e = c.in-For in
    let old = c.args.cost.now in
    let begun = c.in_ok-add_first-in-For.ensures in
    let test = c.in_ok-add-in-For.ensures in
    let stood = c.in_ok-add_statement-in-For.ensures in
    let tail = c.add_assign in
    let one = c.add_first.new.cost in
    let two = c.add-in-For.new.self in
    let three = c.add_statement-in-For.new.cost in
    let begin = c.deref-in-For.result.now in
    let x = c.deref-in-For-2.result.now in
    let last = c.deref-in-For-3.result.now in
    let head = bare_first begin.form in
    let step = bare_assign last.assign in
    let shown = for_shown a _ _ begin _ _ last _ x e.is refl c.deref-in-For.ensures
    c.deref-in-For-3.ensures c.deref-in-For-2.ensures in
    λ m qs dark free.
    let k = context_at h m in
    let w = where_at h in
    let s = state_of f c.args.world.now qs in
    let first = (begun.same m).states f qs in
    let second = test.same m f qs ∙ first in
    let third = (stood.same m).states f qs ∙ second in
    let faults = subst (λ u. fault_of u ≡ None) shown free in
    let rest = none_then (first_fault begin.spot head) _ faults in
    on_ok_weaker tail.result
    (λ z. subst (λ u. AddsOnce old tail.new.cost (inside k w u s)) (sym shown)
    (for_stands k w s old c.node.new.self one two three tail.new.cost a.spot begin.spot last.spot
    head (bare e.condition) step (bare_statement x) c.node.ensures
    (begun.cost m begin.spot qs dark (none_first (first_fault begin.spot head) _ faults))
    (stands_one k w s one two Scalar (bare e.condition) h.shaded
    (state_of f c.add_first.new.world qs) dark first (test.cost m qs))
    (subst (λ u. AddsOnce two three (inside k w (bare_statement x) u)) second
    (stood.cost m qs dark (none_then (assign_fault last.spot step) _ rest)))
    (subst (λ u. AddsOnce three tail.new.cost (assign_inside k w step u)) third z)))
    (tail.ensures.cost m last.spot qs dark (none_first (assign_fault last.spot step) _ rest))

pub returns-in_ok-add_statement-in-For-clause-same :
    goal.returns-in_ok-add_statement-in-For-clause-same
returns-in_ok-add_statement-in-For-clause-same g t c =
    let test = c.in_ok-add-in-For.ensures in
    λ m. on_ok_weaker c.add_assign.result
    (unchanged_next _ _ _ (unchanged_next _ _ _ (unchanged_next _ _ _
    (c.in_ok-add_first-in-For.ensures.same m)
    (unchanged_by c.add_first.new.world c.add-in-For.new.world (test.same m) (test.keeps m)))
    (c.in_ok-add_statement-in-For.ensures.same m))) (c.add_assign.ensures.same m)

-- ---- others
pub returns-in-Assert-clause-cost : goal.returns-in-Assert-clause-cost
returns-in-Assert-clause-cost g t c =
    let h = c.args.dark.now in
    let a = c.args.statement.now in
    let e = c.in-Assert.condition in
    let tail = c.add-in-Assert in
    let last = tail.new.self in
    λ m qs dark free.
    let k = context_at h m in
    let w = where_at h in
    let s = state_of c.args.frame.now c.args.world.now qs in
    on_ok_weaker tail.result
    (λ z. formed (λ x. AddsOnce c.args.cost.now last (inside k w x s)) a _ c.in-Assert.is
    (simple_stands k w s c.args.cost.now c.node.new.self last _ (wanted Scalar (bare e))
    c.node.ensures (stands_one k w s c.node.new.self last Scalar (bare e) h.shaded s dark refl z)))
    (tail.ensures.cost m qs)

pub returns-in-Assert-clause-same : goal.returns-in-Assert-clause-same
returns-in-Assert-clause-same g t c =
    let tail = c.add-in-Assert in
    λ m. unchanged_all tail.result c.args.world.now tail.new.world (tail.ensures.same m)
    (tail.ensures.keeps m)

pub returns-in-Vars-clause-cost : goal.returns-in-Vars-clause-cost
returns-in-Vars-clause-cost g t c =
    let h = c.args.dark.now in
    let a = c.args.statement.now in
    let e = c.in-Vars in
    let old = c.args.cost.now in
    let tail = c.add_variables in
    λ m qs dark free.
    let k = context_at h m in
    let w = where_at h in
    let s = state_of c.args.frame.now c.args.world.now qs in
    on_ok_weaker tail.result
    (λ z. formed (λ x. AddsOnce old tail.new.cost (inside k w x s)) a _ c.in-Simple.is
    (subst (λ x. AddsOnce old tail.new.cost (inside k w (Ended a.spot (bare_simple x)) s))
    (sym e.is) (simple_stands k w s old c.node.new.self tail.new.cost _
    (flat_map variable_wanted (map bare_variable e.vars.variables)) c.node.ensures z)))
    (rw c.as_slice.ensures at (tail.ensures.cost m qs dark))

pub returns-in-Assign-clause-cost : goal.returns-in-Assign-clause-cost
returns-in-Assign-clause-cost g t c =
    let h = c.args.dark.now in
    let a = c.args.statement.now in
    let e = c.in-Assign in
    let old = c.args.cost.now in
    let tail = c.add_assign-in-Assign in
    λ m qs dark free.
    let k = context_at h m in
    let w = where_at h in
    let s = state_of c.args.frame.now c.args.world.now qs in
    on_ok_weaker tail.result
    (λ z. formed (λ x. AddsOnce old tail.new.cost (inside k w x s)) a _ c.in-Simple.is
    (subst (λ x. AddsOnce old tail.new.cost (inside k w (Ended a.spot (bare_simple x)) s))
    (sym e.is) (simple_stands k w s old c.node.new.self tail.new.cost _
    (assign_wanted (bare_assign e.assign)) c.node.ensures z)))
    (tail.ensures.cost m a.spot qs dark
    (subst (λ x. simple_fault a.spot (bare_simple x) ≡ None) e.is
    (form_of (λ x. fault_of x ≡ None) a _ c.in-Simple.is free)))
