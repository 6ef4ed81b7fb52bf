-- Declarations of signals, creations and the ends of bodies keep the account of cells.
use Rattle.std.proofs.Common.{◌≡◌, ◌≢◌, ◌⊎◌, inl, inr, ℕ, zero, suc, ◌+◌, ◌<◌, Bool, true, false}
use Rattle.std.proofs.Common.{cond, nat_eq, List, [], ◌∷◌, replicate, Option, Some, None, Ok, refl}
use Rattle.std.proofs.Common.{sym, ap, subst, ◌∙◌, arith}
use Rattle.std.specs.Prelude.{◌&&◌, nat_lt, unwrap_or}
use Rattle.std.specs.List.{list_all}
use Rattle.std.proofs.lemmas.Bool.{eq-eqb, ne_eqb, lt-ltb}
use Rattle.cir_ast.specs.declared.program.Spot.{Spot}
use Rattle.cir_ast.specs.declared.program.Meant.{Meant}
use Rattle.cir_ast.specs.declared.operators.Arrow.{Arrow}
use Rattle.cir_ast.specs.declared.operators.Direction.{Direction}
use Rattle.cir_ast.specs.Tree.{Expr, Accessors, Assign}
use Rattle.cir_meaning.specs.Tried.{Where, next}
use Rattle.cir_meaning.specs.Places.{elements, numbers_from}
use Rattle.cir_meaning.specs.Limits.{is_too_large}
use Rattle.cir_meaning.specs.Frame.{SignalEntry, Signals, State, Context, entry_at, put_at}
use Rattle.cir_meaning.specs.Frame.{is_input, is_all_written}
use Rattle.cir_meaning.specs.Writing.{SignalAssignment, signal_assignment, write_signal}
use Rattle.cir_meaning.specs.Writing.{write_elements}
use Rattle.cir_meaning.specs.Declaring.{declare_signal, new_signal}
use Rattle.cir_meaning.specs.Costs.{Cost}
use Rattle.cir_meaning.specs.Steps.{signal_cost}
use Rattle.cir_meaning.specs.Simple.{set_signal, wired}
use Rattle.cir_meaning.specs.Run.{Wires}
use Rattle.cir_meaning.specs.RunBodies.{or_else}
use Rattle.cir_meaning.proofs.Good.{good_is}
use Rattle.cir_meaning.proofs.Likes.{CallKeeps, like_itself}
use Rattle.cir_meaning.proofs.Marking.{put_entry}
use Rattle.cir_meaning.proofs.SignalWrites.{put_here}
use Rattle.cir_meaning.proofs.Entries.{put_else}
use Rattle.cir_meaning.proofs.PartWrites.{same_or_not}
use Rattle.cir_meaning.proofs.SignalTargets.{SignalLike, assignment_target}
use Rattle.cir_steps.specs.Written.{times}
use Rattle.cir_steps.specs.Emission.{Emission, Emitted, known_in, with_state, wire_cell}
use Rattle.cir_steps.specs.Emission.{made_elements, put_signal, with_signal}
use Rattle.cir_steps.specs.Making.{Emitting}
use Rattle.cir_steps.specs.Emit.{make_wiring}
use Rattle.cir_steps.proofs.Still.{Still, still_like, still_itself}
use Rattle.cir_steps.proofs.Following.{still_at}
use Rattle.cir_steps.proofs.Counting.{one, past, unwritten, whole, over, own_entry, weight}
use Rattle.cir_steps.proofs.Counting.{past_more}
use Rattle.cir_steps.proofs.Once.{Accounts, accounts_still}
use Rattle.cir_steps.proofs.Spending.{AreGiven}
use Rattle.cir_steps.proofs.Wiring.{wired_to, own_wired, part_wired}

-- an assignment to signals
pub wiring_accounts : (q : Emitting) (calls : CallKeeps q.context.call) (w : Where)
    (written : Assign Meant) (m : Meant) (accessors : Accessors Meant) (a : Arrow)
    (e : Expr Meant) (x : Emission) (b : SignalAssignment) (s : State) (y : Emitted)
    → signal_assignment q.context w m accessors e (known_in x) ≡ Ok b
    → set_signal q.context w written m accessors a e (known_in x) ≡ Ok s
    → make_wiring q w written accessors e b s b.target.reach.places x ≡ Ok y → Accounts x y
wiring_accounts q calls w written m accessors a e x b s y is made emitted =
    at b.target.reach.places refl emitted
  where
    its : SignalLike q.context calls (known_in x) w b
    its =
        good_is (SignalLike q.context calls (known_in x) w)
        (signal_assignment q.context w m accessors e (known_in x)) b is
        (assignment_target q.context calls (known_in x) w m accessors e (known_in x)
        (like_itself (known_in x)))

    cost : Cost
    cost = signal_cost q.context w written accessors e (known_in x)

    done : next (write_signal q.context w a b) (wired q.context w cost b.target.reach.places)
        ≡ Ok s
    done =
        sym (ap (λ n. next n (λ c. next (write_signal q.context w a c)
        (wired q.context w cost c.target.reach.places))) is) ∙ made

    by_part : (part : Option ℕ) → b.target.part ≡ part
        → Accounts x (wired_to q w written accessors e x b s)
    by_part None same =
        own_wired q w written accessors e x b s cost a its.0 its.1 done same
    by_part (Some j) same =
        part_wired q w written accessors e x b s cost a its.0 its.1 done j same

    at : (places : List ℕ) → b.target.reach.places ≡ places
        → make_wiring q w written accessors e b s places x ≡ Ok y → Accounts x y
    at [] same out =
        let stays : Ok b.state ≡ Ok s =
        sym (ap (λ ps. next (write_elements q.context w a b.target ps b.value.items b.state)
        (wired q.context w cost ps)) same) ∙ done in
        let is_s : b.state ≡ s = cc in
        let is_y : still_at s x ≡ y = cc in
        subst (Accounts x) is_y (accounts_still x s (subst (Still (known_in x)) is_s
        (still_like (known_in x) (known_in x) b.state (still_itself (known_in x)) its.0)))
    at (place ∷ places) same out =
        let is_y : wired_to q w written accessors e x b s ≡ y = cc in
        subst (Accounts x) is_y (by_part b.target.part refl)

-- a signal that is declared
moved : (f : ℕ → SignalEntry → ℕ) (i n : ℕ) (e : SignalEntry) (k : ℕ)
    → k + f (suc i + n) e ≡ k + f (i + suc n) e
moved f i n e k =
    let number : suc i + n ≡ i + suc n = omega arith in ap (λ (j : ℕ). k + f j e) number

further : (f g : ℕ → SignalEntry → ℕ) (i m : ℕ) (d : SignalEntry)
    → f (i + suc m) d ≡ g (i + suc m) d → f (suc i + m) d ≡ g (suc i + m) d
further f g i m d h =
    let number : i + suc m ≡ suc i + m = omega arith in
    subst (λ (j : ℕ). f j d ≡ g j d) number h

here : (f g : ℕ → SignalEntry → ℕ) (i : ℕ) (d : SignalEntry) → f (i + 0) d ≡ g (i + 0) d
    → f i d ≡ g i d
here f g i d h =
    let number : i + 0 ≡ i = omega arith in subst (λ (j : ℕ). f j d ≡ g j d) number h

over_new : (f : ℕ → SignalEntry → ℕ) (i n : ℕ) (e : SignalEntry) (xs : Signals)
    → entry_at xs n ≡ None → over f i (put_at n e xs) ≡ over f i xs + f (i + n) e
over_new f i zero e [] h =
    let same : f (i + 0) e ≡ f i e = ap (λ (j : ℕ). f j e) (omega arith) in omega arith
over_new f i (suc n) e [] h =
    over_new f (suc i) n e [] (blank n) ∙ moved f i n e 0
  where
    blank : (n : ℕ) → entry_at {A = SignalEntry} [] n ≡ None
    blank n = refl
over_new f i zero e (None ∷ xs) h =
    let same : f (i + 0) e ≡ f i e = ap (λ (j : ℕ). f j e) (omega arith) in omega arith
over_new f i zero e (Some d ∷ xs) h = cc
over_new f i (suc n) e (None ∷ xs) h =
    over_new f (suc i) n e xs h ∙ moved f i n e (over f (suc i) xs)
over_new f i (suc n) e (Some d ∷ xs) h =
    let rest : over f (suc i) (put_at n e xs) ≡ over f (suc i) xs + f (i + suc n) e =
    over_new f (suc i) n e xs h ∙ moved f i n e (over f (suc i) xs) in
    omega arith

over_same : (f g : ℕ → SignalEntry → ℕ) (i : ℕ) (xs : Signals)
    → ((m : ℕ) (d : SignalEntry) → entry_at xs m ≡ Some d → f (i + m) d ≡ g (i + m) d)
    → over f i xs ≡ over g i xs
over_same f g i [] h = refl
over_same f g i (None ∷ xs) h =
    over_same f g (suc i) xs (λ m d there. further f g i m d (h (suc m) d there))
over_same f g i (Some e ∷ xs) h =
    let first : f i e ≡ g i e = here f g i e (h 0 e refl) in
    let rest : over f (suc i) xs ≡ over g (suc i) xs =
    over_same f g (suc i) xs (λ m d there. further f g i m d (h (suc m) d there)) in
    omega arith

-- all cells of a new signal
whole_new : (c first i m : ℕ) (cell : ℕ → ℕ) (b : Bool)
    → ((k : ℕ) → k < m → cell (i + k) ≡ first + (i + k))
    → whole c cell i (replicate m b) ≡ times c (numbers_from (first + i) m)
whole_new c first i zero cell b h = refl
whole_new c first i (suc m) cell b h =
    let number : i + 0 ≡ i = omega arith in
    let its : cell (i + 0) ≡ first + (i + 0) = h 0 (omega arith) in
    let its_cell : cell i ≡ first + i = subst (λ (j : ℕ). cell j ≡ first + j) number its in
    let one_cell : one (nat_eq (cell i) c) ≡ one (nat_eq (first + i) c) =
    ap (λ (j : ℕ). one (nat_eq j c)) its_cell in
    let rest : whole c cell (suc i) (replicate m b) ≡ times c (numbers_from (first + suc i) m) =
    whole_new c first (suc i) m cell b (λ k less.
    let next : i + suc k ≡ suc i + k = omega arith in
    subst (λ (j : ℕ). cell j ≡ first + j) next (h (suc k) (omega arith))) in
    let behind : first + suc i ≡ first + i + 1 = omega arith in
    let same : times c (numbers_from (first + suc i) m)
    ≡ times c (numbers_from (first + i + 1) m) = ap (λ (j : ℕ). times c (numbers_from j m)) behind
    in
    omega arith

unwritten_new : (c i m : ℕ) (cell : ℕ → ℕ)
    → unwritten c cell i (replicate m false) ≡ whole c cell i (replicate m false)
unwritten_new c i zero cell = refl
unwritten_new c i (suc m) cell =
    ap (λ (n : ℕ). one (nat_eq (cell i) c) + n) (unwritten_new c (suc i) m cell)

pub unwritten_none : (c i : ℕ) (cell : ℕ → ℕ) (bs : List Bool) → list_all (λ b. b) bs ≡ true
    → unwritten c cell i bs ≡ 0
unwritten_none c i cell [] h = refl
unwritten_none c i cell (true ∷ bs) h = unwritten_none c (suc i) cell bs h
unwritten_none c i cell (false ∷ bs) h = cc

all_given : (m : ℕ) → list_all (λ b. b) (replicate m true) ≡ true
all_given zero = refl
all_given (suc m) = all_given m

-- cells of other signals stay
or_none : (o : Option ℕ) → or_else o None ≡ o
or_none None = refl
or_none (Some c) = refl

other_cell : (n m first count k : ℕ) (wires : Wires) → n ≢ m
    → put_signal n first count wires m k ≡ wires m k
other_cell n m first count k wires ne =
    ap (λ (b : Bool). or_else (wires m k) (cond (b && nat_lt k count) (Some (first + k)) None))
    (ne_eqb n m ne) ∙ or_none (wires m k)

other_cells : (c n m first count : ℕ) (d : SignalEntry) (wires : Wires) → n ≢ m
    → own_entry c (put_signal n first count wires) m d ≡ own_entry c wires m d
other_cells c n m first count d wires ne =
    λ i. cond (is_input d.direction) (whole c (λ k. unwrap_or
    (other_cell n m first count k wires ne i) 0) 0 d.written) 0
    + unwritten c (λ k. unwrap_or (other_cell n m first count k wires ne i) 0) 0 d.written

new_cell : (n first count k : ℕ) (wires : Wires) → wires n k ≡ None → k < count
    → wire_cell (put_signal n first count wires) n k ≡ first + k
new_cell n first count k wires blank below =
    ap (λ o. unwrap_or (or_else o (cond (nat_eq n n && nat_lt k count) (Some (first + k)) None)) 0)
    blank
    ∙ ap (λ (b : Bool). unwrap_or (cond (b && nat_lt k count) (Some (first + k)) None) 0)
    (eq-eqb n n refl)
    ∙ ap (λ (b : Bool). unwrap_or (cond b (Some (first + k)) None) 0) (lt-ltb k count below)

-- an entry as it is declared: all is given of an input, and nothing of another
new_weight : (c first m : ℕ) (cell : ℕ → ℕ) (input : Bool)
    → ((k : ℕ) → k < m → cell k ≡ first + k)
    → cond input (whole c cell 0 (replicate m input)) 0 + unwritten c cell 0 (replicate m input)
    ≡ times c (numbers_from first m)
new_weight c first m cell input h =
    let number : first + 0 ≡ first = omega arith in
    let cells : (k : ℕ) → k < m → cell (0 + k) ≡ first + (0 + k) = λ k less.
    let same : k ≡ 0 + k = omega arith in subst (λ (j : ℕ). cell j ≡ first + j) same (h k less) in
    let all : whole c cell 0 (replicate m input) ≡ times c (numbers_from first m) =
    whole_new c first 0 m cell input cells
    ∙ ap (λ (j : ℕ). times c (numbers_from j m)) number in
    at input all
  where
    at : (b : Bool) → whole c cell 0 (replicate m b) ≡ times c (numbers_from first m)
        → cond b (whole c cell 0 (replicate m b)) 0 + unwritten c cell 0 (replicate m b)
        ≡ times c (numbers_from first m)
    at true all =
        let none : unwritten c cell 0 (replicate m true) ≡ 0 =
        unwritten_none c 0 cell (replicate m true) (all_given m) in omega arith
    at false all =
        let all_of : unwritten c cell 0 (replicate m false) ≡ whole c cell 0 (replicate m false) =
        unwritten_new c 0 m cell in omega arith

pub declared_accounts : (k : Context) (spot : Spot) (direction : Direction) (n : ℕ)
    (name dims : List ℕ) (x : Emission) → entry_at (known_in x).frame.signals n ≡ None
    → Accounts x record {
      state = with_signal n (made_elements dims)
          (with_state (declare_signal k spot direction n name dims (known_in x)) x);
      steps = [];
    }
declared_accounts k spot direction n name dims x free h = (
  record { parts = h.parts; bodies = h.bodies; inputs = given; blank = blank },
  sum,
)
  where
    entry : SignalEntry
    entry = new_signal k spot direction name dims (known_in x).world

    blank : (m k : ℕ) → entry_at (put_at n entry (known_in x).frame.signals) m ≡ None
        → put_signal n x.next (made_elements dims) x.cells.own m k ≡ None
    blank m k none = at (same_or_not n m)
      where
        at : (n ≡ m) ⊎ (n ≢ m) → put_signal n x.next (made_elements dims) x.cells.own m k ≡ None
        at (inl same) =
            let no : Some entry ≡ None = sym (put_here n entry (known_in x).frame.signals)
            ∙ ap (entry_at (put_at n entry (known_in x).frame.signals)) same ∙ none in cc
        at (inr ne) =
            other_cell n m x.next (made_elements dims) k x.cells.own ne
            ∙ h.blank m k (sym (put_else n m entry (known_in x).frame.signals ne) ∙ none)

    given : AreGiven (put_at n entry (known_in x).frame.signals)
    given m d there input = at (put_entry n m entry d (known_in x).frame.signals there)
      where
        written : (large : Bool) → list_all (λ b. b)
            (cond large [] (replicate (elements dims) true)) ≡ true
        written true = refl
        written false = all_given (elements dims)

        at : ((n ≡ m) × (entry ≡ d)) ⊎ ((n ≢ m) × (entry_at (known_in x).frame.signals m ≡ Some d))
            → is_all_written d ≡ true
        at (inl i) =
            let its : is_input direction ≡ true =
            ap (λ (a : SignalEntry). is_input a.direction) i.1 ∙ input in
            ap is_all_written (sym i.1) ∙ ap (λ (b : Bool). list_all (λ b. b)
            (cond (is_too_large dims) [] (replicate (elements dims) b))) its
            ∙ written (is_too_large dims)
        at (inr i) = h.inputs m d i.1 input

    sum : (c : ℕ) → 0 + weight c (with_signal n (made_elements dims)
        (with_state (declare_signal k spot direction n name dims (known_in x)) x)) ≡ weight c x
    sum c =
        let all : over (own_entry c wires) 0 (put_at n entry (known_in x).frame.signals)
        ≡ over (own_entry c wires) 0 (known_in x).frame.signals
        + own_entry c wires (0 + n) entry =
        over_new (own_entry c wires) 0 n entry (known_in x).frame.signals free in
        let number : 0 + n ≡ n = omega arith in
        let its : own_entry c wires (0 + n) entry ≡ own_entry c wires n entry =
        ap (λ (j : ℕ). own_entry c wires j entry) number in
        let others : over (own_entry c wires) 0 (known_in x).frame.signals
        ≡ over (own_entry c x.cells.own) 0 (known_in x).frame.signals =
        over_same (own_entry c wires) (own_entry c x.cells.own) 0 (known_in x).frame.signals
        others_at in
        let new : own_entry c wires n entry ≡ times c (numbers_from x.next (made_elements dims)) =
        by_size (is_too_large dims)
        (λ k less. new_cell n x.next _ k x.cells.own (h.blank n k free) less) in
        let past : times c (numbers_from x.next (made_elements dims))
        + past (x.next + made_elements dims) c ≡ past x.next c =
        past_more c x.next (made_elements dims) in
        omega arith
      where
        wires : Wires
        wires = put_signal n x.next (made_elements dims) x.cells.own

        others_at : (m : ℕ) (d : SignalEntry) → entry_at (known_in x).frame.signals m ≡ Some d
            → own_entry c wires (0 + m) d ≡ own_entry c x.cells.own (0 + m) d
        others_at m d there =
            let number : m ≡ 0 + m = omega arith in
            subst (λ (j : ℕ). own_entry c wires j d ≡ own_entry c x.cells.own j d) number
            (other_cells c n m x.next (made_elements dims) d x.cells.own (λ same.
            let no : Some d ≡ None = sym there ∙ ap (entry_at (known_in x).frame.signals) (sym same)
            ∙ free in cc))

        by_size : (large : Bool)
            → ((k : ℕ) → k < cond large 0 (elements dims) → wire_cell wires n k ≡ x.next + k)
            → cond (is_input direction) (whole c (wire_cell wires n) 0
            (cond large [] (replicate (elements dims) (is_input direction)))) 0
            + unwritten c (wire_cell wires n) 0
            (cond large [] (replicate (elements dims) (is_input direction)))
            ≡ times c (numbers_from x.next (cond large 0 (elements dims)))
        by_size true cells = new_weight c x.next 0 (wire_cell wires n) (is_input direction) cells
        by_size false cells =
            new_weight c x.next (elements dims) (wire_cell wires n) (is_input direction) cells
