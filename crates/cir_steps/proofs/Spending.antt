-- What a write of signals takes from what is to be written.
use Rattle.std.proofs.Common.{◌≡◌, ◌≢◌, ◌⊎◌, inl, inr, ℕ, zero, suc, ◌+◌, Bool, true, false, not}
use Rattle.std.proofs.Common.{cond, nat_eq, List, [], ◌∷◌, map, Some, None, refl, sym, ap, subst}
use Rattle.std.proofs.Common.{◌∙◌, slice_get, slice_set, arith}
use Rattle.std.specs.Prelude.{◌&&◌}
use Rattle.std.specs.List.{list_all}
use Rattle.cir_ast.specs.declared.operators.Arrow.{Arrow}
use Rattle.cir_ast.specs.declared.refusal.Kind.TheVariants.{ReadBeforeWrite, SecondWrite}
use Rattle.cir_lc.specs.Number.{signal}
use Rattle.cir_meaning.specs.Tried.{Where}
use Rattle.cir_meaning.specs.Values.{Value, Linear}
use Rattle.cir_meaning.specs.Frame.{SignalEntry, Signals, State, Context, entry_at, put_at}
use Rattle.cir_meaning.specs.Frame.{is_input, is_written, is_all_written}
use Rattle.cir_meaning.specs.Writing.{Target, signals_of, marked, write_element, constrained_by}
use Rattle.cir_meaning.specs.Writing.{write_elements}
use Rattle.cir_meaning.specs.Run.{Wires}
use Rattle.cir_meaning.proofs.Good.{OnGood, good_ok, good_next, good_needed_as, good_found_as}
use Rattle.cir_meaning.proofs.Good.{good_weaker}
use Rattle.cir_meaning.proofs.Reaching.{and_true}
use Rattle.cir_meaning.proofs.Marking.{put_entry}
use Rattle.cir_meaning.proofs.Writing.{signals_put, constrained_signals, unwritten as is_free}
use Rattle.cir_steps.specs.Written.{times}
use Rattle.cir_steps.specs.Emission.{wire_cell}
use Rattle.cir_steps.specs.Making.{written_elements}
use Rattle.cir_steps.proofs.Counting.{one, unwritten, whole, over, inputs_entry, own_entry}
use Rattle.cir_steps.proofs.Counting.{port_entry}

-- marks alone change
unwritten_set : (c : ℕ) (cell : ℕ → ℕ) (i k : ℕ) (bs : List Bool) → slice_get bs k ≡ Some false
    → unwritten c cell i (slice_set bs k true) + one (nat_eq (cell (i + k)) c)
    ≡ unwritten c cell i bs
unwritten_set c cell i k [] h = cc
unwritten_set c cell i zero (true ∷ bs) h = cc
unwritten_set c cell i zero (false ∷ bs) h =
    let number : i + 0 ≡ i = omega arith in
    let same : one (nat_eq (cell (i + 0)) c) ≡ one (nat_eq (cell i) c) =
    ap (λ (j : ℕ). one (nat_eq (cell j) c)) number in
    omega arith
unwritten_set c cell i (suc k) (true ∷ bs) h =
    let rest : unwritten c cell (suc i) (slice_set bs k true) + one (nat_eq (cell (suc i + k)) c)
    ≡ unwritten c cell (suc i) bs = unwritten_set c cell (suc i) k bs h in
    let number : i + suc k ≡ suc i + k = omega arith in
    let same : one (nat_eq (cell (i + suc k)) c) ≡ one (nat_eq (cell (suc i + k)) c) =
    ap (λ (j : ℕ). one (nat_eq (cell j) c)) number in
    omega arith
unwritten_set c cell i (suc k) (false ∷ bs) h =
    let rest : unwritten c cell (suc i) (slice_set bs k true) + one (nat_eq (cell (suc i + k)) c)
    ≡ unwritten c cell (suc i) bs = unwritten_set c cell (suc i) k bs h in
    let number : i + suc k ≡ suc i + k = omega arith in
    let same : one (nat_eq (cell (i + suc k)) c) ≡ one (nat_eq (cell (suc i + k)) c) =
    ap (λ (j : ℕ). one (nat_eq (cell j) c)) number in
    omega arith

whole_set : (c : ℕ) (cell : ℕ → ℕ) (i k : ℕ) (b : Bool) (bs : List Bool)
    → whole c cell i (slice_set bs k b) ≡ whole c cell i bs
whole_set c cell i k b [] = refl
whole_set c cell i zero b (x ∷ bs) = refl
whole_set c cell i (suc k) b (x ∷ bs) =
    ap (λ (n : ℕ). one (nat_eq (cell i) c) + n) (whole_set c cell (suc i) k b bs)

moved : (f : ℕ → SignalEntry → ℕ) (i n w : ℕ) (e d : SignalEntry)
    → f (i + suc n) d + w ≡ f (i + suc n) e → f (suc i + n) d + w ≡ f (suc i + n) e
moved f i n w e d h =
    let number : i + suc n ≡ suc i + n = omega arith in
    subst (λ (j : ℕ). f j d + w ≡ f j e) number h

over_put : (f : ℕ → SignalEntry → ℕ) (i n w : ℕ) (e d : SignalEntry) (xs : Signals)
    → entry_at xs n ≡ Some e → f (i + n) d + w ≡ f (i + n) e
    → over f i (put_at n d xs) + w ≡ over f i xs
over_put f i n w e d [] there h = cc
over_put f i zero w e d (None ∷ xs) there h = cc
over_put f i zero w e d (Some a ∷ xs) there h =
    let same : a ≡ e = cc in
    let number : i + 0 ≡ i = omega arith in
    let new : f (i + 0) d ≡ f i d = ap (λ (j : ℕ). f j d) number in
    let old : f (i + 0) e ≡ f i a =
    ap (λ (j : ℕ). f j e) number ∙ ap (λ (b : SignalEntry). f i b) (sym same) in
    omega arith
over_put f i (suc n) w e d (None ∷ xs) there h =
    over_put f (suc i) n w e d xs there (moved f i n w e d h)
over_put f i (suc n) w e d (Some a ∷ xs) there h =
    let rest : over f (suc i) (put_at n d xs) + w ≡ over f (suc i) xs =
    over_put f (suc i) n w e d xs there (moved f i n w e d h) in
    omega arith

-- what falls where an element of an entry is written
abbrev pub Falls : (c : ℕ) → (weigh : ℕ → SignalEntry → ℕ) → (cell : ℕ → ℕ → ℕ)
    → (SignalEntry → Type 0) → Type 0
Falls c weigh cell P =
    (n place : ℕ) (e : SignalEntry) → P e → slice_get e.written place ≡ Some false
    → weigh n (marked e place) + one (nat_eq (cell n place) c) ≡ weigh n e

pub own_falls : (c : ℕ) (wires : Wires)
    → Falls c (own_entry c wires) (wire_cell wires) (λ e. Unit {0})
own_falls c wires n place e p free =
    let less : unwritten c (wire_cell wires n) 0 (slice_set e.written place true)
    + one (nat_eq (wire_cell wires n (0 + place)) c) ≡ unwritten c (wire_cell wires n) 0 e.written =
    unwritten_set c (wire_cell wires n) 0 place e.written free in
    let number : 0 + place ≡ place = omega arith in
    let one_cell : one (nat_eq (wire_cell wires n (0 + place)) c)
    ≡ one (nat_eq (wire_cell wires n place) c) =
    ap (λ (k : ℕ). one (nat_eq (wire_cell wires n k) c)) number in
    let inputs : inputs_entry c wires n (marked e place) ≡ inputs_entry c wires n e =
    ap (λ (k : ℕ). cond (is_input e.direction) k 0)
    (whole_set c (wire_cell wires n) 0 place true e.written) in
    omega arith

pub port_falls : (c : ℕ) (wires : Wires)
    → Falls c (port_entry c wires) (wire_cell wires) (λ e. is_input e.direction ≡ true)
port_falls c wires n place e input free =
    let less : unwritten c (wire_cell wires n) 0 (slice_set e.written place true)
    + one (nat_eq (wire_cell wires n (0 + place)) c) ≡ unwritten c (wire_cell wires n) 0 e.written =
    unwritten_set c (wire_cell wires n) 0 place e.written free in
    let number : 0 + place ≡ place = omega arith in
    let one_cell : one (nat_eq (wire_cell wires n (0 + place)) c)
    ≡ one (nat_eq (wire_cell wires n place) c) =
    ap (λ (k : ℕ). one (nat_eq (wire_cell wires n k) c)) number in
    let new : port_entry c wires n (marked e place)
    ≡ unwritten c (wire_cell wires n) 0 (slice_set e.written place true) =
    ap (λ (b : Bool). cond b (unwritten c (wire_cell wires n) 0 (slice_set e.written place true)) 0)
    input in
    let old : port_entry c wires n e ≡ unwritten c (wire_cell wires n) 0 e.written =
    ap (λ (b : Bool). cond b (unwritten c (wire_cell wires n) 0 e.written) 0) input in
    omega arith

-- a body's own inputs count as written
abbrev pub AreGiven : Signals → Type 0
AreGiven xs =
    (n : ℕ) (e : SignalEntry) → entry_at xs n ≡ Some e → is_input e.direction ≡ true
    → is_all_written e ≡ true

set_all : (xs : List Bool) (k : ℕ) → list_all (λ b. b) xs ≡ true
    → list_all (λ b. b) (slice_set xs k true) ≡ true
set_all [] k h = h
set_all (x ∷ xs) zero h = (and_true x _ h).1
set_all (x ∷ xs) (suc k) h =
    let both : (x ≡ true) × (list_all (λ b. b) xs ≡ true) = and_true x _ h in
    ap (λ (b : Bool). b && list_all (λ b. b) (slice_set xs k true)) both.0 ∙ set_all xs k both.1

given_put : (n place : ℕ) (e : SignalEntry) (xs : Signals) → entry_at xs n ≡ Some e
    → AreGiven xs → AreGiven (put_at n (marked e place) xs)
given_put n place e xs there h m d here input =
    at (put_entry n m (marked e place) d xs here)
  where
    at : ((n ≡ m) × (marked e place ≡ d)) ⊎ ((n ≢ m) × (entry_at xs m ≡ Some d))
        → is_all_written d ≡ true
    at (inl i) =
        let its : is_input e.direction ≡ true = ap (λ (a : SignalEntry). is_input a.direction) i.1
        ∙ input in
        ap is_all_written (sym i.1) ∙ set_all e.written place (h n e there its)
    at (inr i) = h m d i.1 input

module _ (c : ℕ) (weigh : ℕ → SignalEntry → ℕ) (cell : ℕ → ℕ → ℕ) (P : SignalEntry → Type 0)
    (falls : Falls c weigh cell P) (marks : (e : SignalEntry) (k : ℕ) → P e → P (marked e k))
    (t : Target) where
  -- the entry that is written is one of those
  abbrev pub Chosen : Signals → Type 0
  Chosen xs = (e : SignalEntry) → entry_at xs t.number ≡ Some e → P e

  pub record Spent (places : List ℕ) (f s : Signals) : Type 0 where
    pub sum : over weigh 0 s + times c (map (cell t.number) places) ≡ over weigh 0 f
    pub given : AreGiven f → AreGiven s
    pub chosen : Chosen s

  spent_none : (xs : Signals) → Chosen xs → Spent [] xs xs
  spent_none xs h = record { sum = omega arith; given = λ g. g; chosen = h }

  spent_then : (place : ℕ) (places : List ℕ) (xs ys zs : Signals) → Spent (place ∷ []) xs ys
      → Spent places ys zs → Spent (place ∷ places) xs zs
  spent_then place places xs ys zs h g = record {
    sum = (
        let first : over weigh 0 ys + times c (map (cell t.number) (place ∷ []))
        ≡ over weigh 0 xs = h.sum in
        let second : over weigh 0 zs + times c (map (cell t.number) places)
        ≡ over weigh 0 ys = g.sum in
        omega arith
        );
    given = λ i. g.given (h.given i);
    chosen = g.chosen;
  }

  abbrev Behind : List ℕ → State → State → Type 0
  Behind places f s = Spent places (signals_of t.part f.frame) (signals_of t.part s.frame)

  element_spent : (w : Where) (place : ℕ) (s : State) → Chosen (signals_of t.part s.frame)
      → OnGood (λ x. Behind (place ∷ []) s x.1) (write_element w t place s)
  element_spent w place s chosen =
      good_found_as (λ x. Behind (place ∷ []) s x.1) w ReadBeforeWrite
      (entry_at (signals_of t.part s.frame) t.number) _ (λ e there.
      good_needed_as (λ x. Behind (place ∷ []) s x.1) (not (is_written e place)) w SecondWrite _
      (λ free. good_ok (λ x. Behind (place ∷ []) s x.1) _
      (subst (Spent (place ∷ []) (signals_of t.part s.frame))
      (sym (signals_put t.part t.number e (put_at t.number (marked e place)
      (signals_of t.part s.frame)) s.frame there))
      (put_spent e there (is_free (slice_get e.written place) free)))))
    where
      put_spent : (e : SignalEntry) → entry_at (signals_of t.part s.frame) t.number ≡ Some e
          → slice_get e.written place ≡ Some false
          → Spent (place ∷ []) (signals_of t.part s.frame)
          (put_at t.number (marked e place) (signals_of t.part s.frame))
      put_spent e there free = record {
        sum = (
            let number : 0 + t.number ≡ t.number = omega arith in
            let less : weigh t.number (marked e place) + one (nat_eq (cell t.number place) c)
            ≡ weigh t.number e = falls t.number place e (chosen e there) free in
            let all : over weigh 0 (put_at t.number (marked e place) (signals_of t.part s.frame))
            + one (nat_eq (cell t.number place) c) ≡ over weigh 0 (signals_of t.part s.frame) =
            over_put weigh 0 t.number (one (nat_eq (cell t.number place) c)) e (marked e place)
            (signals_of t.part s.frame) there (subst (λ (m : ℕ). weigh m (marked e place)
            + one (nat_eq (cell t.number place) c) ≡ weigh m e) (sym number) less) in
            omega arith
            );
        given = given_put t.number place e (signals_of t.part s.frame) there;
        chosen = λ d here. at d (put_entry t.number t.number (marked e place) d
            (signals_of t.part s.frame) here);
      }
        where
          at : (d : SignalEntry) → ((t.number ≡ t.number) × (marked e place ≡ d))
              ⊎ ((t.number ≢ t.number) × (entry_at (signals_of t.part s.frame) t.number ≡ Some d))
              → P d
          at d (inl i) = subst P i.1 (marks e place (chosen e there))
          at d (inr i) = absurd (i.0 refl)

  pub elements_spent : (k : Context) (w : Where) (arrow : Arrow) (places : List ℕ)
      (vs : List Value) (s : State) → Chosen (signals_of t.part s.frame)
      → OnGood (Behind (written_elements places vs) s) (write_elements k w arrow t places vs s)
  elements_spent k w arrow [] vs s chosen =
      good_ok (Behind [] s) s (spent_none (signals_of t.part s.frame) chosen)
  elements_spent k w arrow (place ∷ places) [] s chosen =
      good_ok (Behind [] s) s (spent_none (signals_of t.part s.frame) chosen)
  elements_spent k w arrow (place ∷ places) (v ∷ vs) s chosen =
      good_next (λ x. Behind (place ∷ []) s x.1)
      (Behind (place ∷ written_elements places vs) s) (write_element w t place s) _
      (element_spent w place s chosen) (λ x h.
      good_next (λ s2. signals_of t.part s2.frame ≡ signals_of t.part x.1.frame)
      (Behind (place ∷ written_elements places vs) s)
      (constrained_by k w arrow (Linear (signal (x.0.first + place))) v x.1) _
      (constrained_signals k w t.part arrow (Linear (signal (x.0.first + place))) v x.1)
      (λ s2 same.
      good_weaker (Behind (written_elements places vs) s2)
      (Behind (place ∷ written_elements places vs) s) (write_elements k w arrow t places vs s2)
      (elements_spent k w arrow places vs s2 (subst Chosen (sym same) h.chosen))
      (λ s3 g. spent_then place (written_elements places vs) (signals_of t.part s.frame)
      (signals_of t.part x.1.frame) (signals_of t.part s3.frame) h
      (subst (λ ys. Spent (written_elements places vs) ys (signals_of t.part s3.frame)) same g))))
