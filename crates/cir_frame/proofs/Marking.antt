-- An element more of a signal is written, and as many are missing.
use Rattle.std.proofs.Common.{◌≡◌, ℕ, zero, suc, ◌+◌, ◌<◌, Bool, true, false, List, [], ◌∷◌, length}
use Rattle.std.proofs.Common.{get_or, set, Option, Some, None, Ok, Err, ap, sym, subst, ◌∙◌, refl}
use Rattle.std.proofs.Common.{arith}
use Rattle.std.specs.Prelude.{Result, not, slice_get, slice_set, unwrap_or, count_by, cond}
use Rattle.std.proofs.lemmas.List.Sums.{sum_by-cons}
use Rattle.std.proofs.lemmas.Option.{same_Some}
use Rattle.cir_ast.specs.declared.refusal.Kind.TheVariants.{SecondWrite}
use Rattle.cir_meaning.specs.Tried.{Where, Tried, next, needed}
use Rattle.cir_meaning.specs.Frame as M
use Rattle.cir_meaning.specs.Frame.{State, is_input, is_written, put_at, entry_at, in_frame}
use Rattle.cir_meaning.specs.Writing.{Target, marked}
use Rattle.cir_frame.specs.declared.signal.SignalEntry.{SignalEntry}
use Rattle.cir_arrays.specs.declared.stop.Fault.{Fault}
use Rattle.cir_arrays.specs.Stopped.{Gives}
use Rattle.cir_frame.specs.Missing.{missing_of, missing_in}
use Rattle.cir_frame.specs.Shown.{signal_of}
use Rattle.cir_frame.specs.Targets.{first_written, marked_once, marked_inside}
use Rattle.cir_arrays.proofs.Exits.{exits}

-- what a mark that isn't refused tells
pub marked_ok : (w : Where) (place : ℕ) (e x : M.SignalEntry) (first : ℕ)
    → marked_once w place e ≡ Ok (first, x) → (is_written e place ≡ false) × (x ≡ marked e place)
marked_ok w place e x first h = at (is_written e place) h
  where
    entry_in : Tried (ℕ × M.SignalEntry) → M.SignalEntry
    entry_in (Ok p) = p.1
    entry_in (Err r) = x

    at : (b : Bool) → ◌≡◌ {A = Tried (ℕ × M.SignalEntry)}
        (needed (not b) w SecondWrite (Ok (e.first, marked e place))) (Ok (first, x))
        → (b ≡ false) × (x ≡ marked e place)
    at true k = absurd (cc)
    at false k = (refl, sym (ap entry_in k))

-- a step whose answer is put into the state
gives_next : {A B C : Type 0} (view : A → B) (go : B → C) (r : Result A Fault) (m : Tried B)
    → Gives view r m → Gives (λ a. go (view a)) r (next m (λ b. Ok (go b)))
gives_next view go (Ok a) m h = rw h refl
gives_next view go (Err f) m h = exits f m (λ b. Ok (go b)) h

abbrev own_put : Target → State → ℕ × M.SignalEntry → ℕ × State
own_put t s (first, e) =
    (first, in_frame (λ f. record f { signals = put_at t.number e f.signals }) s)

own_same : (w : Where) (t : Target) (place : ℕ) (s : State) (e : M.SignalEntry) (b : Bool)
    → t.part ≡ None → entry_at s.frame.signals t.number ≡ Some e → is_written e place ≡ b
    → first_written w t place s ≡ next (marked_once w place e) (λ x. Ok (own_put t s x))
own_same w t place s e true own there is = rw (own, there, is) refl
own_same w t place s e false own there is = rw (own, there, is) refl

-- an own signal
pub own_gives : (w : Where) (t : Target) (place : ℕ) (s : State) (e new : M.SignalEntry)
    (after : M.Signals) (r : Result ℕ Fault) → t.part ≡ None
    → entry_at s.frame.signals t.number ≡ Some e
    → after ≡ put_at t.number new s.frame.signals
    → Gives (λ first. (first, new)) r (marked_once w place e)
    → Gives (λ first. (first, in_frame (λ f. record f { signals = after }) s)) r
    (first_written w t place s)
own_gives w t place s e new after r own there put h =
    subst (λ (es : M.Signals). Gives (λ first. (first, in_frame (λ f. record f { signals = es }) s))
    r (first_written w t place s)) (sym put)
    (subst (λ (m : Tried (ℕ × State)). Gives (λ first. own_put t s (first, new)) r m)
    (sym (own_same w t place s e (is_written e place) own there refl))
    (gives_next (λ first. (first, new)) (own_put t s) r (marked_once w place e) h))

abbrev inside_put : ℕ → State → ℕ × M.Part → ℕ × State
inside_put j s (first, p) =
    (first, in_frame (λ f. record f { parts = slice_set f.parts j p }) s)

inside_same : (w : Where) (t : Target) (place : ℕ) (s : State) (j : ℕ) (p : M.Part)
    → t.part ≡ Some j → slice_get s.frame.parts j ≡ Some p
    → first_written w t place s
    ≡ next (marked_inside w t.number place p) (λ x. Ok (inside_put j s x))
inside_same w t place s j p own there = at (entry_at p.signals t.number) refl
  where
    told : (e : M.SignalEntry) (b : Bool) → entry_at p.signals t.number ≡ Some e
        → is_written e place ≡ b → first_written w t place s
        ≡ next (marked_inside w t.number place p) (λ x. Ok (inside_put j s x))
    told e true found is = rw (own, there, found, is) refl
    told e false found is = rw (own, there, found, is) refl

    at : (o : Option M.SignalEntry) → entry_at p.signals t.number ≡ o → first_written w t place s
        ≡ next (marked_inside w t.number place p) (λ x. Ok (inside_put j s x))
    at None found = rw (own, there, found) refl
    at (Some e) found = told e (is_written e place) found refl

-- an input of a part
pub inside_gives : (w : Where) (t : Target) (place : ℕ) (s : State) (j : ℕ) (p new : M.Part)
    (after : List M.Part) (r : Result ℕ Fault) → t.part ≡ Some j
    → slice_get s.frame.parts j ≡ Some p → after ≡ slice_set s.frame.parts j new
    → Gives (λ first. (first, new)) r (marked_inside w t.number place p)
    → Gives (λ first. (first, in_frame (λ f. record f { parts = after }) s)) r
    (first_written w t place s)
inside_gives w t place s j p new after r own there put h =
    subst (λ (ps : List M.Part). Gives (λ first. (first, in_frame (λ f. record f { parts = ps }) s))
    r (first_written w t place s)) (sym put)
    (subst (λ (m : Tried (ℕ × State)). Gives (λ first. inside_put j s (first, new)) r m)
    (sym (inside_same w t place s j p own there))
    (gives_next (λ first. (first, new)) (inside_put j s) r (marked_inside w t.number place p) h))

-- one entry is replaced
pub missing_put : (es : List (Option SignalEntry)) (n : ℕ) (x : Option SignalEntry)
    (old new : SignalEntry) → n < length es → x ≡ get_or es n x → x ≡ Some old
    → missing_in (set es n (Some new)) + missing_of old ≡ missing_in es + missing_of new
missing_put [] n x old new h e is = absurd (omega arith)
missing_put (None ∷ es) zero x old new h e is = absurd (cc)
missing_put (Some y ∷ es) zero x old new h e is =
    let same : y ≡ old = same_Some y old (sym e ∙ is) in
    let count : missing_of y ≡ missing_of old = ap missing_of same in
    omega arith
missing_put (None ∷ es) (suc n) x old new h e is = missing_put es n x old new (omega arith) e is
missing_put (Some y ∷ es) (suc n) x old new h e is =
    let later = missing_put es n x old new (omega arith) e is in omega arith

count_more : (b : Bool) (ws : List Bool)
    → count_by not (b ∷ ws) ≡ cond (not b) 1 0 + count_by not ws
count_more b ws = sum_by-cons (λ m. cond (not m) 1 0) b ws

count_set : (ws : List Bool) (k : ℕ) → unwrap_or (slice_get ws k) true ≡ false
    → suc (count_by not (set ws k true)) ≡ count_by not ws
count_set [] k h = absurd (cc)
count_set (false ∷ ws) zero h =
    let fewer : count_by not (true ∷ ws) ≡ 0 + count_by not ws = count_more true ws in
    let more : count_by not (false ∷ ws) ≡ 1 + count_by not ws = count_more false ws in
    ap suc fewer ∙ (omega arith ∙ sym more)
count_set (true ∷ ws) zero h = absurd (cc)
count_set (b ∷ ws) (suc k) h =
    let fewer = count_more b (set ws k true) in
    let more = count_more b ws in
    let later = count_set ws k h in
    ap suc fewer ∙ (omega (arith, later) ∙ sym more)

-- an input's element is missing no more
less_of : (old new : SignalEntry) (place : ℕ) → is_written (signal_of old) place ≡ false
    → signal_of new ≡ marked (signal_of old) place → is_input new.direction ≡ true
    → suc (missing_of new) ≡ missing_of old
less_of old new place unwritten is input =
    let way : new.direction ≡ old.direction = ap (λ e. e.direction) is in
    let marks : new.written.items ≡ set old.written.items place true = ap (λ e. e.written) is in
    let was : is_input old.direction ≡ true = rw (← way) input in
    rw (input, was, marks) (count_set old.written.items place unwritten)

same_of : (old new : SignalEntry) (place : ℕ) → signal_of new ≡ marked (signal_of old) place
    → is_input new.direction ≡ false → missing_of new ≡ missing_of old
same_of old new place is other =
    let way : new.direction ≡ old.direction = ap (λ e. e.direction) is in
    let was : is_input old.direction ≡ false = rw (← way) other in
    rw (other, was) refl

pub less_in : (es : List (Option SignalEntry)) (n : ℕ) (x : Option SignalEntry)
    (old new : SignalEntry) (place : ℕ) → n < length es → x ≡ get_or es n x → x ≡ Some old
    → is_written (signal_of old) place ≡ false → signal_of new ≡ marked (signal_of old) place
    → is_input new.direction ≡ true → suc (missing_in (set es n (Some new))) ≡ missing_in es
less_in es n x old new place h e there unwritten is input =
    let one = missing_put es n x old new h e there in
    let less = less_of old new place unwritten is input in
    omega arith

pub same_in : (es : List (Option SignalEntry)) (n : ℕ) (x : Option SignalEntry)
    (old new : SignalEntry) (place : ℕ) → n < length es → x ≡ get_or es n x → x ≡ Some old
    → signal_of new ≡ marked (signal_of old) place
    → is_input new.direction ≡ false → missing_in (set es n (Some new)) ≡ missing_in es
same_in es n x old new place h e there is other =
    let one = missing_put es n x old new h e there in
    let same = same_of old new place is other in
    omega arith
