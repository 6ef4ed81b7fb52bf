-- A run of well-formed code ends: with each instruction a number falls.
use Rattle.std.proofs.Common.{◌≡◌, ℕ, zero, suc, ◌+◌, ◌*◌, ◌-◌, ◌<◌, ◌≤◌, Bool, true, false, cond}
use Rattle.std.proofs.Common.{max, List, [], ◌∷◌, length, drop, replicate, Option, Some, None, refl}
use Rattle.std.proofs.Common.{sym, ap, subst, ◌∙◌, arith, length-set, length-append, inl, inr}
use Rattle.std.proofs.lemmas.List.{length-replicate, length-take-le, length-drop}
use Rattle.std.proofs.lemmas.Option.{slice_get_within, slice_get-get_or}
use Rattle.std.specs.Prelude.{slice_get, slice_set, slice_range, ◌==◌, nat_lt, unwrap_or}
use Rattle.std.proofs.lemmas.Bool.{cases_lt, ltb-true}
use Rattle.gold_field.specs.Operators.{binary_of}
use Rattle.wit_code.specs.declared.code.Op.{Op}
use Rattle.wit_code.specs.declared.code.Op.TheVariants.{Const, Move, Read, Un, Bin, Bound, Load}
use Rattle.wit_code.specs.declared.code.Op.TheVariants.{Store, Jump, JumpZero, Turn, Call, Return}
use Rattle.wit_code.specs.declared.code.Op.TheVariants.{Check, Assert, Write}
use Rattle.wit_code.specs.declared.code.Proc.{Proc}
use Rattle.wit_code.specs.declared.code.Stop.{Stop}
use Rattle.wit_code.specs.declared.code.Stop.TheVariants.{FuelSpent}
use Rattle.wit_code.specs.declared.frames.Running.{Running}
use Rattle.wit_code.specs.declared.frames.Running.TheVariants.{Own, Called}
use Rattle.wit_code.specs.Code.{Leads, Fits, IsWellFormed}
use Rattle.wit_code.specs.Frames.{Open}
use Rattle.wit_code.specs.Table.{no_code, State, Outcome, Stopped, RunsTo, Next, Goes, Over, act}
use Rattle.wit_code.specs.Table.{answer, code_of, exec, frame_of, go_on, jump_to, longest}
use Rattle.wit_code.specs.Table.{most_steps, outcome_of, outcome_or, next_of, proc_at, put}
use Rattle.wit_code.specs.Table.{put_result, slot_of, start_of, step, unless}
use Rattle.wit_code.specs.Seen.{IsThere, stands_of}

-- a frame of some code, at one of its places
pub record IsFrame (procs : List Proc) (own : Proc) (running : Running) (place : ℕ)
    (slots : List ℕ) : Type 0 where
  pub there : IsThere procs running
  pub within : place ≤ length (code_of procs own running).body
  pub width : length slots ≡ (code_of procs own running).slots

abbrev pub AreFrames : List Proc → Proc → List Open → Type 0
AreFrames procs own [] = Unit {0}
AreFrames procs own (o ∷ os) = IsFrame procs own o.resume.running o.resume.place o.slots
    × (o.resume.answer < length o.slots) × AreFrames procs own os

pub record IsGood (procs : List Proc) (own : Proc) (s : State) : Type 0 where
  pub frame : IsFrame procs own s.running s.place s.frames.slots
  pub open_calls : AreFrames procs own s.frames.open_calls

abbrev is_turn : Option Op → Bool
is_turn (Some Turn) = true
is_turn _ = false

-- how far the code leads on, at most, before it pays a unit, ends or goes back to a Turn
left : List Op → ℕ → ℕ
left body place = cond (is_turn (slice_get body place)) 0 (length body + 1 - place)

abbrev left_open : List Proc → Proc → List Open → ℕ
left_open procs own [] = 0
left_open procs own (o ∷ os) =
    left (code_of procs own o.resume.running).body o.resume.place + left_open procs own os

-- more than any code leads on
abbrev weight : List Proc → Proc → ℕ
weight procs own = max (length own.body) (longest procs) + 2

pub measure : List Proc → Proc → State → ℕ
measure procs own s =
    s.units * weight procs own + left (code_of procs own s.running).body s.place
    + left_open procs own s.frames.open_calls

left_le : (body : List Op) (place : ℕ) → left body place ≤ length body + 1
unfolding left
left_le body place =
    elim (is_turn (slice_get body place)) as
    (λ b. cond b 0 (length body + 1 - place) ≤ length body + 1) [
      | true ↦ omega arith
      | false ↦
          omega arith
    ]

left_turn : (body : List Op) (place : ℕ) → slice_get body place ≡ Some Turn → left body place ≡ 0
unfolding left
left_turn body place h = ap (λ o. cond (is_turn o) 0 (length body + 1 - place)) h

left_other : (body : List Op) (place : ℕ) → is_turn (slice_get body place) ≡ false
    → left body place ≡ length body + 1 - place
unfolding left
left_other body place h = ap (λ b. cond b 0 (length body + 1 - place)) h

left_further : (body : List Op) (place to : ℕ) → place < to → left body to ≤ length body + 1 - to
unfolding left
left_further body place to h =
    elim (is_turn (slice_get body to)) as
    (λ b. cond b 0 (length body + 1 - to) ≤ length body + 1 - to) [
      | true ↦ omega arith
      | false ↦
          omega arith
    ]

-- a jump brings the end nearer
left_leads : (body : List Op) (place to : ℕ) → place ≤ length body
    → is_turn (slice_get body place) ≡ false → Leads body place to → left body to < left body place
left_leads body place to within other l =
    let here = left_other body place other in
    elim (cases_lt place to) [
      | inl h ↦ omega (arith, here, left_further body place to h, l.within, within)
      | inr h ↦ omega (arith, here, left_turn body to (l.back h), within)
    ]

-- the next place is one of the code's
next_leads : (body : List Op) (place : ℕ) (op : Op) → slice_get body place ≡ Some op
    → Leads body place (place + 1)
next_leads body place op h =
    record {
      within = omega (arith, slice_get_within body place op h);
      back = λ le. absurd (omega (arith, le));
    }

longest_at : (procs : List Proc) (f : ℕ) → length (proc_at procs f).body ≤ longest procs
longest_at [] f = omega arith
longest_at (p ∷ ps) zero = omega arith
longest_at (p ∷ ps) (suc f) = omega (arith, longest_at ps f)

light : (procs : List Proc) (own : Proc) (running : Running)
    → length (code_of procs own running).body + 2 ≤ weight procs own
light procs own Own = omega arith
light procs own (Called f) = omega (arith, longest_at procs f)

one_unit : (units w : ℕ) → 0 < units → units * w ≡ (units - 1) * w + w
one_unit units w h =
    let e : units ≡ (units - 1) + 1 = omega arith in
    ap (λ n. n * w) e ∙ omega arith

unless_goes : (stop : Stop) (b : Bool) (n : Next) (t : State) → unless stop b n ≡ Goes t
    → (b ≡ true) × (n ≡ Goes t)
unless_goes stop true n t e = (refl, e)
unless_goes stop false n t e = cc

there_at : (procs : List Proc) (f : ℕ) → f < length procs
    → slice_get procs f ≡ Some (proc_at procs f)
there_at procs f h =
    let here = slice_get-get_or procs f no_code h in
    here ∙ ap Some (sym (ap (λ o. unwrap_or o no_code) here))

length_frame : (callee : Proc) (slots : List ℕ) (first : ℕ) → first + callee.params ≤ length slots
    → callee.params ≤ callee.slots → length (frame_of callee slots first) ≡ callee.slots
length_frame callee slots first params le =
    omega (
      arith,
      length-append (slice_range slots first (first + callee.params))
          (replicate (callee.slots - callee.params) 0),
      length-replicate {A = ℕ} (callee.slots - callee.params) 0,
      length-take-le (first + callee.params - first) (drop first slots)
          (omega (arith, length-drop first slots)),
      length-drop first slots,
    )

ltb_less : {a b : ℕ} → nat_lt a b ≡ true → a < b
ltb_less {a} {b} h = ltb-true a b h

-- a step from a good state leads to a good one, and the measure falls
pub record Falls (procs : List Proc) (own : Proc) (s t : State) : Type 0 where
  pub good : IsGood procs own t
  pub less : measure procs own t < measure procs own s

module _ (procs : List Proc) (own : Proc) where
  along : (s u t : State) → Goes u ≡ Goes t → Falls procs own s u → Falls procs own s t
  along s u t e f = let same : u ≡ t = cc in subst (Falls procs own s) same f

  -- on at another place of the same code
  moves : (s : State) (to : ℕ) (slots written : List ℕ) → IsGood procs own s
      → length slots ≡ length s.frames.slots
      → is_turn (slice_get (code_of procs own s.running).body s.place) ≡ false
      → Leads (code_of procs own s.running).body s.place to
      → Falls procs own s
      (record {
        running = s.running;
        place = to;
        frames = record { slots = slots; open_calls = s.frames.open_calls };
        units = s.units;
        written = written;
      })
  unfolding measure
  moves s to slots written g same other l =
      record {
        good = record {
          frame = record { there = g.frame.there; within = l.within; width = same ∙ g.frame.width };
          open_calls = g.open_calls;
        };
        less = omega (
          arith,
          left_leads (code_of procs own s.running).body s.place to g.frame.within other
              l,
        );
      }

  answered : (s : State) (v : ℕ) (o : Open) (os : List Open) → IsGood procs own s
      → s.frames.open_calls ≡ o ∷ os
      → is_turn (slice_get (code_of procs own s.running).body s.place) ≡ false
      → AreFrames procs own (o ∷ os)
      → Falls procs own s
      (record {
        running = o.resume.running;
        place = o.resume.place;
        frames = record { slots = slice_set o.slots o.resume.answer v; open_calls = os };
        units = s.units;
        written = s.written;
      })
  unfolding measure
  answered s v o os g same other w =
      record {
        good = record {
          frame =
              record {
                there = w.0.there;
                within = w.0.within;
                width = length-set o.slots o.resume.answer v ∙ w.0.width;
              };
          open_calls = w.2;
        };
        less = omega (
          arith,
          ap (left_open procs own) same,
          left_other (code_of procs own s.running).body s.place other,
          g.frame.within,
        );
      }

  -- the answer to the innermost call that waits
  answers : (s t : State) (v : ℕ) (os : List Open) → IsGood procs own s → s.frames.open_calls ≡ os
      → is_turn (slice_get (code_of procs own s.running).body s.place) ≡ false
      → answer v s os ≡ Goes t → Falls procs own s t
  answers s t v [] g same other e = cc
  answers s t v (o ∷ os) g same other e =
      let w = subst (AreFrames procs own) same g.open_calls in
      along s _ t e (answered s v o os g same other w)

  puts : (s t : State) (d v : ℕ) → IsGood procs own s
      → is_turn (slice_get (code_of procs own s.running).body s.place) ≡ false
      → Leads (code_of procs own s.running).body s.place (s.place + 1) → put d v s ≡ Goes t
      → Falls procs own s t
  puts s t d v g other l e =
      along s _ t e
      (moves s (s.place + 1) (slice_set s.frames.slots d v) s.written g
      (length-set s.frames.slots d v) other l)

  puts_result : (s t : State) (d : ℕ) (o : Option ℕ) → IsGood procs own s
      → is_turn (slice_get (code_of procs own s.running).body s.place) ≡ false
      → Leads (code_of procs own s.running).body s.place (s.place + 1) → put_result d o s ≡ Goes t
      → Falls procs own s t
  puts_result s t d None g other l e = cc
  puts_result s t d (Some v) g other l e = puts s t d v g other l e

  jumps : (s t : State) (to : ℕ) → IsGood procs own s
      → is_turn (slice_get (code_of procs own s.running).body s.place) ≡ false
      → Leads (code_of procs own s.running).body s.place to → jump_to to s ≡ Goes t
      → Falls procs own s t
  jumps s t to g other l e = along s _ t e (moves s to s.frames.slots s.written g refl other l)

  jumps_if : (s t : State) (to : ℕ) (b : Bool) → IsGood procs own s
      → is_turn (slice_get (code_of procs own s.running).body s.place) ≡ false
      → Leads (code_of procs own s.running).body s.place (s.place + 1)
      → Leads (code_of procs own s.running).body s.place to → cond b (jump_to to s) (go_on s)
      ≡ Goes t → Falls procs own s t
  jumps_if s t to true g other next l e = jumps s t to g other l e
  jumps_if s t to false g other next l e = jumps s t (s.place + 1) g other next e

  -- a unit is paid at a Turn
  turns : (s : State) → IsGood procs own s → slice_get (code_of procs own s.running).body s.place
      ≡ Some Turn → 0 < s.units
      → Falls procs own s
      (record {
        running = s.running;
        place = s.place + 1;
        frames = s.frames;
        units = s.units - 1;
        written = s.written;
      })
  unfolding measure
  turns s g h u =
      let l = next_leads (code_of procs own s.running).body s.place Turn h in
      record {
        good = record {
          frame = record { there = g.frame.there; within = l.within; width = g.frame.width };
          open_calls = g.open_calls;
        };
        less = omega (
          arith,
          one_unit s.units (weight procs own) u,
          left_le (code_of procs own s.running).body (s.place + 1),
          light procs own s.running,
        );
      }

  -- a unit is paid for a call
  calls : (s : State) (f first d : ℕ) (callee : Proc) → IsGood procs own s
      → slice_get (code_of procs own s.running).body s.place ≡ Some (Call f first d)
      → slice_get procs f ≡ Some callee → d < length s.frames.slots
      → first + callee.params ≤ length s.frames.slots → callee.params ≤ callee.slots → 0 < s.units
      → Falls procs own s (record {
        running = Called f;
        place = 0;
        frames = record {
          slots = frame_of (proc_at procs f) s.frames.slots first;
          open_calls =
              record {
                resume = record { running = s.running; place = s.place + 1; answer = d };
                slots = s.frames.slots;
              } ∷ s.frames.open_calls;
        };
        units = s.units - 1;
        written = s.written;
      })
  unfolding measure
  calls s f first d callee g h there d_in params slots u =
      let l = next_leads (code_of procs own s.running).body s.place (Call f first d) h in
      let other : is_turn (slice_get (code_of procs own s.running).body s.place) ≡ false =
      ap is_turn h in
      let is : proc_at procs f ≡ callee = ap (λ o. unwrap_or o no_code) there in
      record {
        good = record {
          frame = record {
            there = slice_get_within procs f callee there;
            within = omega arith;
            width = ap (λ p. length (frame_of p s.frames.slots first)) is
                ∙ length_frame callee s.frames.slots first params slots
                ∙ ap (λ (p : Proc). p.slots) (sym is);
          };
          open_calls = (
            record { there = g.frame.there; within = l.within; width = g.frame.width },
            d_in,
            g.open_calls,
          );
        };
        less = omega (
          arith,
          one_unit s.units (weight procs own) u,
          left_le (proc_at procs f).body 0,
          light procs own (Called f),
          left_leads (code_of procs own s.running).body s.place (s.place + 1) g.frame.within other
              l,
        );
      }

  -- what is asked of the next instruction
  fits_in : (reads : ℕ) (running : Running) (place : ℕ) (op : Op) → IsWellFormed procs reads own
      → IsThere procs running → slice_get (code_of procs own running).body place ≡ Some op
      → Fits procs (stands_of reads running) (code_of procs own running) place op
  fits_in reads Own place op w there h = w.own.each place op h
  fits_in reads (Called f) place op w there h =
      (w.called f (proc_at procs f) (there_at procs f there)).each place op h

  pub fits_at : (reads : ℕ) (s : State) (op : Op) → IsWellFormed procs reads own
      → IsThere procs s.running → slice_get (code_of procs own s.running).body s.place ≡ Some op
      → Fits procs (stands_of reads s.running) (code_of procs own s.running) s.place op
  fits_at reads s op w there h = fits_in reads s.running s.place op w there h

  falls_at : (reads : List ℕ) (s t : State) (o : Option Op) → IsWellFormed procs (length reads) own
      → IsGood procs own s → slice_get (code_of procs own s.running).body s.place ≡ o
      → act procs reads o s ≡ Goes t → Falls procs own s t
  falls_at reads s t None w g h e = answers s t 0 s.frames.open_calls g refl (ap is_turn h) e
  falls_at reads s t (Some (Const d v)) w g h e =
      puts s t d v g (ap is_turn h) (next_leads _ _ _ h) e
  falls_at reads s t (Some (Move d a)) w g h e =
      puts s t d _ g (ap is_turn h) (next_leads _ _ _ h) e
  falls_at reads s t (Some (Read d i)) w g h e =
      puts s t d _ g (ap is_turn h) (next_leads _ _ _ h) e
  falls_at reads s t (Some (Un op d a)) w g h e =
      puts s t d _ g (ap is_turn h) (next_leads _ _ _ h) e
  falls_at reads s t (Some (Bin op d a b)) w g h e =
      puts_result s t d (binary_of op (slot_of s a) (slot_of s b)) g (ap is_turn h)
      (next_leads _ _ _ h) e
  falls_at reads s t (Some (Bound a n)) w g h e =
      jumps s t (s.place + 1) g (ap is_turn h) (next_leads _ _ _ h) (unless_goes _ _ _ t e).1
  falls_at reads s t (Some (Load d base a)) w g h e =
      puts s t d _ g (ap is_turn h) (next_leads _ _ _ h) (unless_goes _ _ _ t e).1
  falls_at reads s t (Some (Store base a b)) w g h e =
      puts s t (base + slot_of s a) (slot_of s b) g (ap is_turn h) (next_leads _ _ _ h)
      (unless_goes _ _ _ t e).1
  falls_at reads s t (Some (Jump to)) w g h e =
      jumps s t to g (ap is_turn h) (fits_at (length reads) s (Jump to) w g.frame.there h).jumps e
  falls_at reads s t (Some (JumpZero a to)) w g h e =
      jumps_if s t to (slot_of s a == 0) g (ap is_turn h) (next_leads _ _ _ h)
      (fits_at (length reads) s (JumpZero a to) w g.frame.there h).jumps e
  falls_at reads s t (Some Turn) w g h e =
      let u = unless_goes _ _ _ t e in
      along s _ t u.1 (turns s g h (ltb_less u.0))
  falls_at reads s t (Some (Call f first d)) w g h e =
      let u = unless_goes _ _ _ t e in
      let k = unless_goes _ _ _ t u.1 in
      let n = (fits_at (length reads) s (Call f first d) w g.frame.there h).names in
      let width = g.frame.width in
      along s _ t k.1
      (calls s f first d n.1.callee g h n.1.there (omega (arith, n.0))
      (omega (arith, n.1.params)) (w.called f n.1.callee n.1.there).params (ltb_less u.0))
  falls_at reads s t (Some (Return a)) w g h e =
      answers s t _ s.frames.open_calls g refl (ap is_turn h) e
  falls_at reads s t (Some (Check a b)) w g h e =
      jumps s t (s.place + 1) g (ap is_turn h) (next_leads _ _ _ h) (unless_goes _ _ _ t e).1
  falls_at reads s t (Some (Assert a)) w g h e =
      jumps s t (s.place + 1) g (ap is_turn h) (next_leads _ _ _ h) (unless_goes _ _ _ t e).1
  falls_at reads s t (Some (Write a)) w g h e =
      along s _ t e
      (moves s (s.place + 1) s.frames.slots _ g refl (ap is_turn h) (next_leads _ _ _ h))

  pub falls : (reads : List ℕ) (s t : State) → IsWellFormed procs (length reads) own
      → IsGood procs own s → step procs own reads s ≡ Goes t → Falls procs own s t
  falls reads s t w g e =
      falls_at reads s t (slice_get (code_of procs own s.running).body s.place) w g refl e

  over_from : (reads : List ℕ) (n : ℕ) (s : State) (x : Next) → step procs own reads s ≡ x
      → ((t : State) → x ≡ Goes t → (o : Outcome) × (exec procs own reads n t ≡ Over o))
      → (o : Outcome) × (exec procs own reads (suc n) s ≡ Over o)
  over_from reads n s (Goes t) e later =
      let l = later t refl in
      (l.0, ap (λ x. next_of x (exec procs own reads n)) e ∙ l.1)
  over_from reads n s (Over o) e later = (o, ap (λ x. next_of x (exec procs own reads n)) e)

  -- as many steps as the measure says, and one more, are enough
  pub ends_within : (reads : List ℕ) (n : ℕ) (s : State) → IsWellFormed procs (length reads) own
      → IsGood procs own s → measure procs own s < n → (o : Outcome)
      × (exec procs own reads n s ≡ Over o)
  ends_within reads zero s w g h = absurd (omega (arith, h))
  ends_within reads (suc n) s w g h =
      over_from reads n s (step procs own reads s) refl (λ t e.
      let f = falls reads s t w g e in
      ends_within reads n t w f.good (omega (arith, f.less, h)))

  start_measure : (fuel : ℕ) → measure procs own (start_of own fuel) < most_steps procs own fuel
  unfolding measure
  start_measure fuel = omega (arith, left_le own.body 0)

  pub good_start : (fuel : ℕ) → IsGood procs own (start_of own fuel)
  good_start fuel =
      record {
        frame = record { there = tt; within = omega arith; width = length-replicate own.slots 0 };
        open_calls = tt;
      }

  pub ends_so : (reads : List ℕ) (fuel : ℕ) → IsWellFormed procs (length reads) own
      → RunsTo procs own reads fuel (outcome_of procs own reads fuel)
  unfolding outcome_of
  ends_so reads fuel w =
      let e = ends_within reads (most_steps procs own fuel) (start_of own fuel) w (good_start fuel)
      (start_measure fuel) in
      (most_steps procs own fuel, e.1 ∙ ap Over (sym (ap (outcome_or (Stopped FuelSpent)) e.1)))

  same_from : (reads : List ℕ) (n m : ℕ) (x : Next) (a b : Outcome)
      → next_of x (exec procs own reads n) ≡ Over a → next_of x (exec procs own reads m) ≡ Over b
      → ((t : State) → exec procs own reads n t ≡ Over a → exec procs own reads m t ≡ Over b
      → a ≡ b) → a ≡ b
  same_from reads n m (Goes t) a b e f later = later t e f
  same_from reads n m (Over o) a b e f later = cc

  pub one_outcome : (reads : List ℕ) (n m : ℕ) (s : State) (a b : Outcome)
      → exec procs own reads n s ≡ Over a → exec procs own reads m s ≡ Over b → a ≡ b
  one_outcome reads zero m s a b e f = cc
  one_outcome reads (suc n) zero s a b e f = cc
  one_outcome reads (suc n) (suc m) s a b e f =
      same_from reads n m (step procs own reads s) a b e f
      (λ t g h. one_outcome reads n m t a b g h)
