-- What a seat knows: at first, once it is cut or joined, and after a step of each kind
use Rattle.std.specs.Prelude.{◌≡◌, ℕ, ◌+◌, ◌-◌, ◌++◌, Bool, cond, min, List, [], ◌∷◌, Option}
use Rattle.std.specs.Prelude.{Some, None}
use Rattle.flow_core.specs.declared.Hold.{Hold}
use Rattle.flow_core.specs.Net.{net}
use Rattle.flow_core.specs.Flow.{Flow}
use Rattle.flow_core.specs.Events.{hold}
use Rattle.flow_board.specs.declared.view.View.{View}

-- the view of the first seat: nothing is done, and every part is its own
abbrev pub first : Flow → View
first f = record {
  flow = f;
  holding = None;
  done = [];
  refused = [];
  seen = f.net.strands;
  word = 0;
  found = 0;
  steps = 0;
  share = 65;
}

-- the view of a seat that was joined into another
abbrev pub spent : View
spent = record (first (record { net = net 0 0 [] [] [] []; start = []; answers = [] }))
    { share = 0 }

-- a seat is cut in two, and one of its parts goes to the new one
abbrev pub after_split : View → View
after_split v = record v { share = v.share - 1; steps = v.steps + 1 }

abbrev pub cut_from : View → View
cut_from v = record (first v.flow) { seen = v.seen; share = 1 }

-- a seat takes in another
abbrev pub joined_with : View → View → View
joined_with v w = record v {
  done = v.done ++ w.done;
  refused = v.refused ++ w.refused;
  seen = min v.seen w.seen;
  steps = v.steps + w.steps + 1;
  share = v.share + w.share;
}

abbrev pub one_published : Option Hold → Option Hold
one_published None = None
one_published (Some h) = Some (hold h.strand (h.published + 1) h.released)

abbrev pub one_released : Option Hold → Option Hold
one_released None = None
one_released (Some h) = Some (hold h.strand h.published (h.released + 1))

-- the strand that is held, if one is, in front of a list
abbrev pub with_held : Option Hold → List ℕ → List ℕ
with_held None ks = ks
with_held (Some h) ks = h.strand ∷ ks

-- A view after one more step, on the word i, where it found the number n. A store finds what it
-- puts.
abbrev pub after_step : View → ℕ → ℕ → View
after_step v i n = record v { word = i; found = n; steps = v.steps + 1 }

-- it has tried the strand k, and got it or not
abbrev pub after_take : View → ℕ → ℕ → ℕ → Bool → View
after_take v i n k got = record (after_step v i n) {
  holding = cond got (Some (hold k 0 0)) v.holding;
}

abbrev pub after_publish : View → ℕ → ℕ → View
after_publish v i n = record (after_step v i n) { holding = one_published v.holding }

abbrev pub after_release : View → ℕ → ℕ → View
after_release v i n = record (after_step v i n) { holding = one_released v.holding }

-- it has seen what it found as the least refusal
abbrev pub after_look : View → ℕ → ℕ → View
after_look v i n = record (after_step v i n) { seen = n }

-- it has given up its strand as done
abbrev pub after_finish : View → ℕ → ℕ → View
after_finish v i n = record (after_look v i n) {
  holding = None;
  done = with_held v.holding v.done;
}

-- it has given up its strand as refused, and seen l as the least refusal
abbrev pub after_refuse : View → ℕ → ℕ → ℕ → View
after_refuse v i n l = record (after_step v i n) {
  holding = None;
  refused = with_held v.holding v.refused;
  seen = l;
}

-- Each call by a seat makes one step: the count of the seat's view is one more. A seat that takes
-- in another has the steps of both, and the one of joining.
pub record CountsOneStep (v : View) : Type 0 where
  pub take : (i n k : ℕ) (got : Bool) → (after_take v i n k got).steps ≡ v.steps + 1
  pub publish : (i n : ℕ) → (after_publish v i n).steps ≡ v.steps + 1
  pub release : (i n : ℕ) → (after_release v i n).steps ≡ v.steps + 1
  pub read : (i n : ℕ) → (after_step v i n).steps ≡ v.steps + 1
  pub look : (i n : ℕ) → (after_look v i n).steps ≡ v.steps + 1
  pub finish : (i n : ℕ) → (after_finish v i n).steps ≡ v.steps + 1
  pub refuse : (i n l : ℕ) → (after_refuse v i n l).steps ≡ v.steps + 1
  pub split : (after_split v).steps ≡ v.steps + 1
  pub join : (w : View) → (joined_with v w).steps ≡ v.steps + w.steps + 1
