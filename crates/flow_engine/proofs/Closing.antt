-- Boards that are closed one after another, the last one first
use Rattle.std.proofs.Common.{◌≡◌, ℕ, suc, ◌<◌, ◌≤◌, List, [], ◌∷◌}
use Rattle.std.proofs.Common.{◌++◌, length, take, drop}
use Rattle.std.proofs.Common.{reverse, get_or, Vec, Global, sym, ap, subst, subst₂, ◌∙◌}
use Rattle.std.proofs.Common.{arith}
use Rattle.std.proofs.Common.{length-append}
use Rattle.std.proofs.Math.ListN.{drop_of_length-le}
use Rattle.std.specs.Prelude.{All}
use Rattle.std.specs.List.{AllZip}
use Rattle.std.proofs.lemmas.List.{reverse-append, take_all}
use Rattle.flow_board.specs.Seats.{Place, Worker}
use Rattle.wit_flow.specs.declared.Outcome.{Outcome}
use Rattle.flow_engine.specs.Task.{Task, IsOneThread, answers_of}
use Rattle.flow_engine.specs.Lent.{AreBoards, IsHandBack, IsOwn}
use Rattle.flow_engine.proofs.Zips.{zip_before, zip_front, zip_last, zip_length}
use Rattle.flow_engine.proofs.Hands.{Shows, boards_long}

-- these boards are left, with the caller's seats and the hands, and the outcomes of the tasks
-- behind them are there, the last task's first
pub record Closes (ts : List Task) (lent : ℕ) (ps : List Place) (own : List Worker)
    (hands : List (Vec Worker Global)) (os : List Outcome) : Type 0 where
  pub few : length ps ≤ length ts
  pub flows : AreBoards (take (length ps) ts) ps
  pub seats : AllZip (IsOwn lent) ps own
  pub backs : All (λ h. IsHandBack ps h.items) hands
  pub ends : AllZip IsOneThread (drop (length ps) ts) (reverse os)

pub none_closed : (ts : List Task) (lent : ℕ) (ps : List Place) (own : List Worker)
    (hands : List (Vec Worker Global)) (os : List Outcome) → AreBoards ts ps
    → AllZip (IsOwn lent) ps own → All (λ h. IsHandBack ps h.items) hands → os ≡ []
    → Closes ts lent ps own hands os
none_closed ts lent ps own hands os boards seats back none =
    let long = boards_long ts ps boards in
    let le : length ts ≤ length ps = omega arith in record {
      few = omega arith;
      flows = subst (λ us. AreBoards us ps) (sym (take_all (length ps) ts le)) boards;
      seats = seats;
      backs = back;
      ends = subst₂ (AllZip IsOneThread) (sym (drop_of_length-le ts le))
          (sym (ap (λ (xs : List Outcome). reverse xs) none)) tt;
    }

pub all_closed : (ts : List Task) (lent : ℕ) (ps : List Place) (own : List Worker)
    (hands : List (Vec Worker Global)) (os : List Outcome) → Closes ts lent ps own hands os
    → ps ≡ [] → AllZip IsOneThread ts (reverse os)
all_closed ts lent ps own hands os h none =
    subst (λ (qs : List Place). AllZip IsOneThread (drop (length qs) ts) (reverse os)) none
    h.ends

-- the last board p goes
module _ (ts : List Task) (lent : ℕ) (ps : List Place) (own : List Worker)
    (hands : List (Vec Worker Global)) (os : List Outcome) (h : Closes ts lent ps own hands os)
    (front : List Place) (p : Place) (last : ps ≡ front ++ p ∷ []) where
  long : length ps ≡ suc (length front)
  long = let a = length-append front (p ∷ []) in
      let b : length ps ≡ length (front ++ p ∷ []) = ap length last in omega arith

  before : AreBoards (take (length front) ts) front
      × ((t : Task) → t ≡ get_or ts (length front) t → p.flow ≡ answers_of t)
  before = zip_before Shows ts front p (length ps)
      (subst (λ qs. AreBoards (take (length ps) ts) qs) last h.flows) long

  pub task_near : length front < length ts
  task_near = let n = long in let few = h.few in omega arith

  pub flow_is : (t : Task) → t ≡ get_or ts (length front) t → p.flow ≡ answers_of t
  flow_is = before.1

  pub has_seat : length own ≡ 0 → ⊥
  has_seat none = let n = long in let same = zip_length (IsOwn lent) ps own h.seats in
      omega arith

  pub hands_are : All (λ x. IsHandBack (front ++ p ∷ []) x.items) hands
  hands_are =
      subst (λ (qs : List Place). All (λ x. IsHandBack qs x.items) hands) last h.backs

  module _ (seats : List Worker) (w : Worker) (seat : own ≡ seats ++ w ∷ []) where
    parts : AllZip (IsOwn lent) front seats × IsOwn lent p w
    parts = zip_last (IsOwn lent) front p seats w (subst₂ (AllZip (IsOwn lent)) last seat h.seats)

    pub seat_is : IsOwn lent p w
    seat_is = parts.1

    pub closes_more : (rest : List (Vec Worker Global)) (same : ℕ) (t : Task) (o : Outcome)
        (more : List Outcome) → same ≡ lent → All (λ x. IsHandBack front x.items) rest
        → t ≡ get_or ts (length front) t → IsOneThread t o → more ≡ os ++ o ∷ []
        → Closes ts same front seats rest more
    closes_more rest same t o more lent-is back t-is one more-is = record {
      few = let near = task_near in omega arith;
      flows = before.0;
      seats = subst (λ n. AllZip (IsOwn n) front seats) (sym lent-is) parts.0;
      backs = back;
      ends =
          subst (AllZip IsOneThread (drop (length front) ts))
          (sym (ap (λ (xs : List Outcome). reverse xs) more-is ∙ reverse-append os (o ∷ [])))
          (zip_front IsOneThread ts (reverse os) t o (length front) (length ps) task_near
          h.ends long t-is one);
    }
