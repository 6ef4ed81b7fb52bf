-- An account of cells: what is written of a cell and what is to be written of it yet stay the same
-- in sum, where signals and components stay as they are.
use Rattle.std.proofs.Common.{◌≡◌, ℕ, ◌+◌, true, ◌++◌, length, Some, None, refl, sym, ap, ◌∙◌}
use Rattle.std.proofs.Common.{arith}
use Rattle.cir_meaning.specs.Places.{numbers_from}
use Rattle.cir_meaning.specs.Frame.{SignalEntry, State, entry_at, is_input, is_all_written}
use Rattle.cir_steps.specs.Step.{Step}
use Rattle.cir_steps.specs.Written.{times}
use Rattle.cir_steps.specs.Emission.{Emission, Emitted, known_in}
use Rattle.cir_steps.proofs.Still.{Still}
use Rattle.cir_steps.proofs.Following.{Keeps, still_at}
use Rattle.cir_steps.proofs.Walk.{IsFresh, one_step}
use Rattle.cir_steps.proofs.Counting.{writes, past, weight, weight_of, writes_more, past_more}

pub record Laid (x : Emission) : Type 0 where
  pub parts : length (known_in x).frame.parts ≡ length x.cells.parts
  pub bodies : length x.cells.parts ≡ length x.bodies
  pub inputs : (n : ℕ) (e : SignalEntry) → entry_at (known_in x).frame.signals n ≡ Some e
      → is_input e.direction ≡ true → is_all_written e ≡ true
  pub blank : (n k : ℕ) → entry_at (known_in x).frame.signals n ≡ None → x.cells.own n k ≡ None

abbrev pub Accounts : Emission → Emitted → Type 0
Accounts x y =
    Laid x → Laid y.state × ((c : ℕ) → writes c y.steps + weight c y.state ≡ weight c x)

module _ (x y : Emission) (still : Still (known_in x) (known_in y))
    (own : y.cells.own ≡ x.cells.own) (parts : y.cells.parts ≡ x.cells.parts)
    (bodies : y.bodies ≡ x.bodies) where
  laid_same : Laid x → Laid y
  laid_same h = record {
    parts = ap length still.1 ∙ h.parts ∙ sym (ap length parts);
    bodies = ap length parts ∙ h.bodies ∙ sym (ap length bodies);
    inputs = λ n e there i. h.inputs n e (ap (λ xs. entry_at xs n) (sym still.0) ∙ there) i;
    blank = λ n k free. ap (λ w. w n k) own
        ∙ h.blank n k (ap (λ xs. entry_at xs n) (sym still.0) ∙ free);
  }

  weight_same : (c : ℕ) → weight c y ≡ weight_of c x.cells.own (known_in x).frame.signals
      (known_in x).frame.parts x.cells.parts x.bodies y.next
  weight_same c =
      λ i. weight_of c (own i) (still.0 i) (still.1 i) (parts i) (bodies i) y.next

pub fresh_accounts : (x y : Emission) (step : Step) → IsFresh x y step
    → Accounts x (one_step step y)
fresh_accounts x y step f h = (
  laid_same x y f.still f.own f.parts f.bodies h,
  (λ c.
      let targets : times c step.targets ≡ times c (numbers_from x.next f.count) =
      ap (times c) f.targets in
      let moved : weight c y ≡ weight_of c x.cells.own (known_in x).frame.signals
      (known_in x).frame.parts x.cells.parts x.bodies y.next =
      weight_same x y f.still f.own f.parts f.bodies c in
      let at : past y.next c ≡ past (x.next + f.count) c = ap (λ (b : ℕ). past b c) f.next in
      let made : times c (numbers_from x.next f.count) + past (x.next + f.count) c ≡ past x.next c =
      past_more c x.next f.count in
      omega arith),
)

pub accounts_still : (x : Emission) (s : State) → Still (known_in x) s
    → Accounts x (still_at s x)
accounts_still x s h laid = (
  laid_same x (still_at s x).state h refl refl refl laid,
  (λ c.
      let moved : weight c (still_at s x).state ≡ weight_of c x.cells.own
      (known_in x).frame.signals (known_in x).frame.parts x.cells.parts x.bodies x.next =
      weight_same x (still_at s x).state h refl refl refl c in
      omega arith),
)

pub accounts_keep : Keeps Accounts
accounts_keep = record {
  still = λ x s h. accounts_still x s h.0;
  joins = λ x y z h g laid. (
    (g (h laid).0).0,
    (λ c.
        let more : writes c (y.steps ++ z.steps) ≡ writes c y.steps + writes c z.steps =
        writes_more c y.steps z.steps in
        let first : writes c y.steps + weight c y.state ≡ weight c x = (h laid).1 c in
        let second : writes c z.steps + weight c z.state ≡ weight c y.state =
        (g (h laid).0).1 c in
        omega arith),
  );
}
