-- How often a cell is written, and how often it is to be written yet.
use Rattle.std.proofs.Common.{◌≡◌, ◌≢◌, ℕ, zero, suc, ◌+◌, ◌≤◌, Bool, true, false, cond, nat_eq}
use Rattle.std.proofs.Common.{nat_le, List, [], ◌∷◌, ◌++◌, Some, None, refl, ap, arith}
use Rattle.std.proofs.lemmas.Bool.{leb-true, le-leb, eqb-true, eq-eqb}
use Rattle.cir_meaning.specs.Places.{numbers_from}
use Rattle.cir_meaning.specs.Frame.{SignalEntry, Signals, Part, is_input, is_fed}
use Rattle.cir_meaning.specs.Run.{Wires, RunPart}
use Rattle.cir_steps.specs.Step.{Step}
use Rattle.cir_steps.specs.Written.{times}
use Rattle.cir_steps.specs.Emission.{Emission, known_in, wire_cell}

abbrev pub one : Bool → ℕ
one b = cond b 1 0

abbrev pub writes : ℕ → List Step → ℕ
writes c [] = 0
writes c (s ∷ ss) = times c s.targets + writes c ss

-- a cell that isn't made yet
abbrev pub past : (next c : ℕ) → ℕ
past next c = one (nat_le next c)

-- the elements of a signal that aren't written, and all of them
abbrev pub unwritten : ℕ → (cell : ℕ → ℕ) → (place : ℕ) → List Bool → ℕ
unwritten c cell k [] = 0
unwritten c cell k (true ∷ bs) = unwritten c cell (suc k) bs
unwritten c cell k (false ∷ bs) = one (nat_eq (cell k) c) + unwritten c cell (suc k) bs

abbrev pub whole : ℕ → (cell : ℕ → ℕ) → (place : ℕ) → List Bool → ℕ
whole c cell k [] = 0
whole c cell k (b ∷ bs) = one (nat_eq (cell k) c) + whole c cell (suc k) bs

abbrev pub over : (ℕ → SignalEntry → ℕ) → ℕ → Signals → ℕ
over f n [] = 0
over f n (None ∷ rest) = over f (suc n) rest
over f n (Some e ∷ rest) = f n e + over f (suc n) rest

-- a body's own inputs are written from outside
abbrev pub inputs_entry : ℕ → Wires → ℕ → SignalEntry → ℕ
inputs_entry c wires n e =
    cond (is_input e.direction) (whole c (wire_cell wires n) 0 e.written) 0

abbrev pub own_entry : ℕ → Wires → ℕ → SignalEntry → ℕ
own_entry c wires n e =
    inputs_entry c wires n e + unwritten c (wire_cell wires n) 0 e.written

abbrev pub port_entry : ℕ → Wires → ℕ → SignalEntry → ℕ
port_entry c wires n e =
    cond (is_input e.direction) (unwritten c (wire_cell wires n) 0 e.written) 0

-- inputs of a component that aren't written, and what its waiting steps will write
abbrev pub part_weight : ℕ → Part → RunPart → List Step → ℕ
part_weight c p r steps =
    over (port_entry c r.ports) 0 p.signals + cond (is_fed p.signals) 0 (writes c steps)

abbrev pub parts_weight : ℕ → List Part → List RunPart → List (List Step) → ℕ
parts_weight c [] rs bs = 0
parts_weight c (p ∷ ps) [] bs = 0
parts_weight c (p ∷ ps) (r ∷ rs) [] = 0
parts_weight c (p ∷ ps) (r ∷ rs) (b ∷ bs) = part_weight c p r b + parts_weight c ps rs bs

abbrev pub weight_of : ℕ → Wires → Signals → List Part → List RunPart → List (List Step) → ℕ → ℕ
weight_of c own signals ps rs bs next =
    over (own_entry c own) 0 signals + (parts_weight c ps rs bs + past next c)

abbrev pub weight : ℕ → Emission → ℕ
weight c x =
    weight_of c x.cells.own (known_in x).frame.signals (known_in x).frame.parts x.cells.parts
    x.bodies x.next

-- sequences
pub times_more : (c : ℕ) (xs ys : List ℕ) → times c (xs ++ ys) ≡ times c xs + times c ys
times_more c [] ys = omega arith
times_more c (x ∷ xs) ys =
    let rest : times c (xs ++ ys) ≡ times c xs + times c ys = times_more c xs ys in omega arith

pub writes_more : (c : ℕ) (xs ys : List Step) → writes c (xs ++ ys) ≡ writes c xs + writes c ys
writes_more c [] ys = omega arith
writes_more c (x ∷ xs) ys =
    let rest : writes c (xs ++ ys) ≡ writes c xs + writes c ys = writes_more c xs ys in omega arith

-- new cells are made in order
pub past_one : (a c : ℕ) → one (nat_eq a c) + past (a + 1) c ≡ past a c
past_one a c = at (nat_eq a c) (nat_le (a + 1) c) (nat_le a c) refl refl refl
  where
    at : (e f g : Bool) → nat_eq a c ≡ e → nat_le (a + 1) c ≡ f → nat_le a c ≡ g
        → one e + one f ≡ one g
    at true true g i j l =
        let same : a ≡ c = eqb-true a c i in
        let above : a + 1 ≤ c = leb-true (a + 1) c j in absurd (omega arith)
    at true false true i j l = refl
    at true false false i j l =
        let same : a ≡ c = eqb-true a c i in
        let is : nat_le a c ≡ true = le-leb a c (omega arith) in cc
    at false true true i j l = refl
    at false true false i j l =
        let above : a + 1 ≤ c = leb-true (a + 1) c j in
        let is : nat_le a c ≡ true = le-leb a c (omega arith) in cc
    at false false true i j l =
        let below : a ≤ c = leb-true a c l in
        let other : a ≢ c = λ same. (let is : nat_eq a c ≡ true = eq-eqb a c same in cc) in
        let is : nat_le (a + 1) c ≡ true = le-leb (a + 1) c (omega arith) in cc
    at false false false i j l = refl

pub past_more : (c a count : ℕ) → times c (numbers_from a count) + past (a + count) c ≡ past a c
past_more c a zero =
    let number : a + 0 ≡ a = omega arith in
    let same : past (a + 0) c ≡ past a c = ap (λ (b : ℕ). past b c) number in omega arith
past_more c a (suc count) =
    let rest : times c (numbers_from (a + 1) count) + past (a + 1 + count) c ≡ past (a + 1) c =
    past_more c (a + 1) count in
    let first : one (nat_eq a c) + past (a + 1) c ≡ past a c = past_one a c in
    let number : a + 1 + count ≡ a + suc count = omega arith in
    let same : past (a + 1 + count) c ≡ past (a + suc count) c =
    ap (λ (b : ℕ). past b c) number in
    omega arith
