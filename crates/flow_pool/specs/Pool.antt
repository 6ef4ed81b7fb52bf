-- What a pool of strands holds, and what each call does to it
use Rattle.std.specs.Prelude.{◌≡◌, ℕ, ◌+◌, ◌-◌, ◌≤◌, Bool, false, cond, ◌&&◌, ◌||◌, ◌==◌, nat_lt}
use Rattle.std.specs.Prelude.{List, [], ◌∷◌, ◌++◌, length, Option, Some, None}

pub record Pooled : Type 0 where
  -- the strands that wait for a worker
  pub ready : List ℕ
  -- how many strands there is room for
  pub room : ℕ
  -- how many workers have entered, and how many of them rest
  pub workers : ℕ
  pub idle : ℕ
  pub closed : Bool

abbrev pub pooled : List ℕ → ℕ → ℕ → ℕ → Bool → Pooled
pooled ready room workers idle closed =
    record { ready = ready; room = room; workers = workers; idle = idle; closed = closed }

pub record IsPooled (p : Pooled) : Type 0 where
  pub fits : length p.ready ≤ p.room
  pub rested : p.idle ≤ p.workers
  pub few : p.workers ≤ 64

-- no worker has entered
abbrev pub opening : ℕ → List ℕ → Pooled
opening strands ready = pooled ready strands 0 0 false

abbrev pub entered : Pooled → Pooled
entered p = cond (nat_lt p.workers 64) (record p { workers = p.workers + 1 }) p

abbrev pub has_room : Pooled → Bool
has_room p = nat_lt (length p.ready) p.room

-- the strand comes last, where there is room for it
abbrev pub put_in : Pooled → ℕ → Pooled
put_in p k = cond (has_room p) (record p { ready = p.ready ++ k ∷ [] }) p

-- the last strand leaves, if there is one
abbrev pub Leaves : Pooled → Pooled → Option ℕ → Type 0
Leaves p q None = (p.ready ≡ []) × (q ≡ p)
Leaves p q (Some k) = (p.ready ≡ q.ready ++ k ∷ []) × (q ≡ record p { ready = q.ready })

abbrev pub with_rest : Pooled → Pooled
with_rest p = cond (nat_lt p.idle p.workers) (record p { idle = p.idle + 1 }) p

-- every worker rests, and no strand is left
abbrev pub at_end : Pooled → Bool
at_end p = (p.idle == p.workers) && (length p.ready == 0)

-- one more rests, and where it is the last one the pool closes
abbrev pub after_rest : Pooled → Pooled
after_rest p = record (with_rest p) { closed = at_end (with_rest p) || p.closed }

abbrev pub after_wake : Pooled → Pooled
after_wake p = record p { idle = p.idle - 1 }
