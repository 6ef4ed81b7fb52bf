-- Two executions that differ in what is counted: where the first one, which has counted more, isn't
-- refused, the second isn't either, and a relation holds.
use Rattle.std.proofs.Common.{◌≡◌, ℕ, ◌+◌, ◌≤◌, Bool, true, false, cond, List, [], ◌∷◌, Ok, Err}
use Rattle.std.proofs.Common.{refl, sym, subst, zero-le, arith}
use Rattle.std.specs.Prelude.{⊤, ◌==◌, nat_le, min, ◌^◌, ◌-◌}
use Rattle.std.specs.List.{AllByRecursion}
use Rattle.std.proofs.Math.Nat.{min-le_left, min-le_right, le-min}
use Rattle.std.proofs.lemmas.Bool.{leb-true, le-leb, eqb-true, eq-eqb}
use Rattle.cir_ast.specs.declared.refusal.Kind.{Kind}
use Rattle.cir_ast.specs.declared.refusal.Kind.TheVariants.{Limit}
use Rattle.cir_meaning.specs.Tried.{Where, Refused, Tried, next, refused, needed}
use Rattle.cir_meaning.specs.Limits.{Counts, nothing, Limited, limits, standing, count_sum, plus}
use Rattle.cir_meaning.specs.Limits.{tested, with_array, is_too_large, size_of}
use Rattle.cir_meaning.specs.Frame.{State, adding, settle, one_statement, counted}
use Rattle.cir_meaning.proofs.Good.{OnGood}

unfoldable pub Twin : {A B : Type 0} → (A → B → Type 0) → Tried A → Tried B → Type 0
Twin R (Ok a) (Ok b) = R a b
Twin R (Ok a) (Err e) = ⊥
Twin R (Err e) r = ⊤

pub twin_ok : {A B : Type 0} (R : A → B → Type 0) (a : A) (b : B) → R a b → Twin R (Ok a) (Ok b)
unfolding Twin
twin_ok R a b h = h

pub twin_bad : {A B : Type 0} (R : A → B → Type 0) (e : Refused) (r : Tried B) → Twin R (Err e) r
unfolding Twin
twin_bad R e r = tt

pub twin_next : {A B C D : Type 0} (P : A → C → Type 0) (R : B → D → Type 0) (m : Tried A)
    (r : Tried C) (go : A → Tried B) (on : C → Tried D)
    → Twin P m r → ((a : A) (c : C) → P a c → Twin R (go a) (on c))
    → Twin R (next m go) (next r on)
unfolding Twin
twin_next P R (Ok a) (Ok c) go on h f = f a c h
twin_next P R (Ok a) (Err e) go on h f = absurd h
twin_next P R (Err e) r go on h f = tt

pub twin_itself : {A : Type 0} (m : Tried A) → Twin (λ a b. b ≡ a) m m
unfolding Twin
twin_itself (Ok a) = refl
twin_itself (Err e) = tt

pub twin_if : {A B : Type 0} (R : A → B → Type 0) (b : Bool) (x y : Tried A) (z u : Tried B)
    → Twin R x z → Twin R y u → Twin R (cond b x y) (cond b z u)
twin_if R true x y z u h g = h
twin_if R false x y z u h g = g

-- the same step in both
pub twin_same : {A B D : Type 0} (R : B → D → Type 0) (m : Tried A) (go : A → Tried B)
    (on : A → Tried D)
    → ((a : A) → Twin R (go a) (on a)) → Twin R (next m go) (next m on)
unfolding Twin
twin_same R (Ok a) go on f = f a
twin_same R (Err e) go on f = tt

pub twin_needed : {A B : Type 0} (R : A → B → Type 0) (test other : Bool) (w : Where) (kind : Kind)
    (go : Tried A) (on : Tried B)
    → (test ≡ true → other ≡ true) → (test ≡ true → Twin R go on)
    → Twin R (needed test w kind go) (needed other w kind on)
unfolding Twin
twin_needed R true other w kind go on i h =
    subst (λ b. Twin R go (needed b w kind on)) (sym (i refl)) (h refl)
twin_needed R false other w kind go on i h = tt

-- what holds of the first besides
pub twin_good : {A B : Type 0} (P : A → Type 0) (R : A → B → Type 0) (m : Tried A) (r : Tried B)
    → OnGood P m → Twin R m r → Twin (λ a b. P a × R a b) m r
unfolding Twin OnGood
twin_good P R (Ok a) (Ok b) h g = (h, g)
twin_good P R (Ok a) (Err e) h g = g
twin_good P R (Err e) r h g = tt

pub twin_weaker : {A B : Type 0} (P R : A → B → Type 0) (m : Tried A) (r : Tried B)
    → ((a : A) (b : B) → P a b → R a b) → Twin P m r → Twin R m r
unfolding Twin
twin_weaker P R (Ok a) (Ok b) f h = f a b h
twin_weaker P R (Ok a) (Err e) f h = h
twin_weaker P R (Err e) r f h = tt

-- and what holds of the first by what holds of both
pub twin_left : {A B : Type 0} (P : A → Type 0) (R : A → B → Type 0) (m : Tried A) (r : Tried B)
    → ((a : A) (b : B) → R a b → P a) → Twin R m r → OnGood P m
unfolding Twin OnGood
twin_left P R (Ok a) (Ok b) f h = f a b h
twin_left P R (Ok a) (Err e) f h = absurd h
twin_left P R (Err e) r f h = tt

-- counts that pass wherever others pass
pub record Below (x y : Counts) : Type 0 where
  pub signals : x.signals ≤ y.signals
  pub constraints : x.constraints ≤ y.constraints
  pub terms : x.terms ≤ y.terms
  pub elements : y.elements ≡ 0 → x.elements ≡ 0
  pub cells : x.cells ≤ y.cells
  pub steps : x.steps ≤ y.steps
  pub nodes : x.nodes ≤ y.nodes
  pub reads : x.reads ≤ y.reads
  pub statements : x.statements ≤ y.statements

pub below_itself : (x : Counts) → Below x x
below_itself x = record {
  signals = omega arith;
  constraints = omega arith;
  terms = omega arith;
  elements = λ e. e;
  cells = omega arith;
  steps = omega arith;
  nodes = omega arith;
  reads = omega arith;
  statements = omega arith;
}

pub nothing_below : (x : Counts) → Below nothing x
nothing_below x = record {
  signals = zero-le;
  constraints = zero-le;
  terms = zero-le;
  elements = λ e. refl;
  cells = zero-le;
  steps = zero-le;
  nodes = zero-le;
  reads = zero-le;
  statements = zero-le;
}

-- the size that is kept of arrays that are too large
first_count : (n x y : ℕ) → (y ≡ 0 → x ≡ 0) → cond (y == 0) n y ≡ 0 → cond (x == 0) n x ≡ 0
first_count n x y i e = at (y == 0) refl
  where
    at : (b : Bool) → (y == 0) ≡ b → cond (x == 0) n x ≡ 0
    at true f =
        let none : y ≡ 0 = eqb-true y 0 f in
        let size : n ≡ 0 = subst (λ b. cond b n y ≡ 0) f e in
        subst (λ a. cond (a == 0) n a ≡ 0) (sym (i none)) size
    at false f =
        let none : y ≡ 0 = subst (λ b. cond b n y ≡ 0) f e in
        let yes : (y == 0) ≡ true = eq-eqb y 0 none in
        cc

pub below_with_array : (dims : List ℕ) (x y : Counts) → Below x y
    → Below (with_array dims x) (with_array dims y)
below_with_array dims x y h = at (standing (size_of dims)) (is_too_large dims)
  where
    at : (n : ℕ) (b : Bool)
        → Below (cond b record x { elements = cond (x.elements == 0) n x.elements } x)
        (cond b record y { elements = cond (y.elements == 0) n y.elements } y)
    at n true = record {
      signals = h.signals;
      constraints = h.constraints;
      terms = h.terms;
      elements = first_count n x.elements y.elements h.elements;
      cells = h.cells;
      steps = h.steps;
      nodes = h.nodes;
      reads = h.reads;
      statements = h.statements;
    }
    at n false = h

-- counts that stand still are in order where those that go on are
sums_less : (k l m n : ℕ) → k ≤ l → m ≤ n → count_sum k m ≤ count_sum l n
sums_less k l m n u v =
    let smaller : min (k + m) (2 ^ 64 - 1) ≤ k + m = min-le_left (k + m) (2 ^ 64 - 1) in
    let less : min (k + m) (2 ^ 64 - 1) ≤ l + n = omega arith in
    le-min less (min-le_right (k + m) (2 ^ 64 - 1))

pub below_one : (x y : Counts) → Below x y → Below (one_statement x) (one_statement y)
below_one x y h = record {
  signals = h.signals;
  constraints = h.constraints;
  terms = h.terms;
  elements = h.elements;
  cells = h.cells;
  steps = h.steps;
  nodes = h.nodes;
  reads = h.reads;
  statements = sums_less x.statements y.statements 1 1 h.statements (omega arith);
}

below_plus : (x y a b : Counts) → Below x y → Below a b → Below (plus x a) (plus y b)
below_plus x y a b h g = record {
  signals = sums_less x.signals y.signals a.signals b.signals h.signals g.signals;
  constraints = sums_less x.constraints y.constraints a.constraints b.constraints h.constraints
      g.constraints;
  terms = sums_less x.terms y.terms a.terms b.terms h.terms g.terms;
  elements = g.elements;
  cells = sums_less x.cells y.cells a.cells b.cells h.cells g.cells;
  steps = sums_less x.steps y.steps a.steps b.steps h.steps g.steps;
  nodes = sums_less x.nodes y.nodes a.nodes b.nodes h.nodes g.nodes;
  reads = sums_less x.reads y.reads a.reads b.reads h.reads g.reads;
  statements = sums_less x.statements y.statements a.statements b.statements h.statements
      g.statements;
}

below_emptied : (x y : Counts) → Below x y
    → Below (record x { elements = 0 }) (record y { elements = 0 })
below_emptied x y h = record {
  signals = h.signals;
  constraints = h.constraints;
  terms = h.terms;
  elements = λ e. refl;
  cells = h.cells;
  steps = h.steps;
  nodes = h.nodes;
  reads = h.reads;
  statements = h.statements;
}

-- limits
abbrev Passes : Counts → Counts → Limited → Type 0
Passes x y l = nat_le (l.count y) l.most ≡ true → nat_le (l.count x) l.most ≡ true

less_passes : (m n most : ℕ) → m ≤ n → nat_le n most ≡ true → nat_le m most ≡ true
less_passes m n most l e =
    let upper : n ≤ most = leb-true n most e in
    le-leb m most (omega arith)

none_passes : (m n : ℕ) → (n ≡ 0 → m ≡ 0) → nat_le n 0 ≡ true → nat_le m 0 ≡ true
none_passes m n i e =
    let upper : n ≤ 0 = leb-true n 0 e in
    let none : n ≡ 0 = omega arith in
    let zero_too : m ≡ 0 = i none in
    le-leb m 0 (omega arith)

limits_pass : (x y : Counts) → Below x y → AllByRecursion (Passes x y) limits
limits_pass x y h = (
  less_passes x.signals y.signals 1048575 h.signals,
  (
    less_passes x.constraints y.constraints 1048576 h.constraints,
    (
      less_passes x.terms y.terms 8388608 h.terms,
      (
        none_passes x.elements y.elements h.elements,
        (
          less_passes x.cells y.cells 2097152 h.cells,
          (
            less_passes x.steps y.steps 2097152 h.steps,
            (
              less_passes x.nodes y.nodes 33554432 h.nodes,
              (
                less_passes x.reads y.reads 16777216 h.reads,
                (
                  less_passes x.statements y.statements 16777216 h.statements,
                  tt,
                ),
              ),
            ),
          ),
        ),
      ),
    ),
  ),
)

tested_twin : (ls : List Limited) (w : Where) (x y : Counts) → Below x y
    → AllByRecursion (Passes x y) ls → Twin (λ c d. Below d c) (tested ls w y) (tested ls w x)
tested_twin [] w x y h p = twin_ok (λ c d. Below d c) y x h
tested_twin (l ∷ ls) w x y h p =
    at (nat_le (l.count y) l.most) (nat_le (l.count x) l.most) p.0 (tested_twin ls w x y h p.1)
  where
    at : (b c : Bool) → (b ≡ true → c ≡ true)
        → Twin (λ c d. Below d c) (tested ls w y) (tested ls w x)
        → Twin (λ c d. Below d c)
        (cond b (tested ls w y) (refused w (Limit l.which (min (l.count y) (2 ^ 64 - 1)))))
        (cond c (tested ls w x) (refused w (Limit l.which (min (l.count x) (2 ^ 64 - 1)))))
    at true true i rest = rest
    at true false i rest = let no : false ≡ true = i refl in cc
    at false c i rest = twin_bad (λ c d. Below d c) _ _

-- the same state with other counts
abbrev pub counted_as : State → (added counts : Counts) → State
counted_as s a c =
    record {
      frame = record (s.frame) { added = a };
      world = record (s.world) { counts = c };
    }

pub record IsTwin (s t : State) : Type 0 where
  pub added : Counts
  pub counts : Counts
  pub is : t ≡ counted_as s added counts
  pub added_below : Below added s.frame.added
  pub counts_below : Below counts s.world.counts

pub at_twin : (R : State → Type 0) (s t : State) → IsTwin s t
    → ((a c : Counts) → Below a s.frame.added → Below c s.world.counts → R (counted_as s a c))
    → R t
at_twin R s t h go = subst R (sym h.is) (go h.added h.counts h.added_below h.counts_below)

pub twin_of : (s : State) (a c : Counts) → Below a s.frame.added → Below c s.world.counts
    → IsTwin s (counted_as s a c)
twin_of s a c h g =
    record { added = a; counts = c; is = refl; added_below = h; counts_below = g }

pub settle_twin : (w : Where) (s : State) (a c : Counts) → Below a s.frame.added
    → Below c s.world.counts → Twin IsTwin (settle w s) (settle w (counted_as s a c))
settle_twin w s a c h g =
    twin_next (λ x y. Below y x) IsTwin (tested limits w (plus s.world.counts s.frame.added))
    (tested limits w (plus c a)) _ _
    (tested_twin limits w (plus c a) (plus s.world.counts s.frame.added)
    (below_plus c s.world.counts a s.frame.added g h)
    (limits_pass (plus c a) (plus s.world.counts s.frame.added)
    (below_plus c s.world.counts a s.frame.added g h)))
    (λ x y b. twin_ok IsTwin _ _ record {
      added = nothing;
      counts = record y { elements = 0 };
      is = refl;
      added_below = nothing_below nothing;
      counts_below = below_emptied y x b;
    })

pub counted_twin : (w : Where) (s : State) (a c : Counts) → Below a s.frame.added
    → Below c s.world.counts → Twin IsTwin (counted w s) (counted w (counted_as s a c))
counted_twin w s a c h g =
    settle_twin w (adding one_statement s) (one_statement a) c
    (below_one a s.frame.added h) g
