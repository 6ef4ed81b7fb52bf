-- Steps of strands among all steps
use Rattle.std.proofs.Common.{◌≡◌, ℕ, zero, suc, ◌+◌, ◌-◌, ◌<◌, ◌≤◌, List, [], ◌∷◌, ◌++◌, length}
use Rattle.std.proofs.Common.{take, drop}
use Rattle.std.proofs.Common.{refl, sym, ◌∙◌, ap, subst, inl, inr, arith, append_assoc}
use Rattle.std.proofs.lemmas.Bool.{cases_lt}
use Rattle.std.proofs.lemmas.List.{get_or-take, get_or-drop, length-drop, length-take}
use Rattle.std.proofs.lemmas.List.{length-take-le}
use Rattle.wit_code.specs.declared.code.Step.{Step}
use Rattle.flow_core.specs.Counts.{times, IsIn}
use Rattle.wit_flow.specs.declared.flow.Strand.{Strand}
use Rattle.wit_flow.specs.Run.{no_step, step_at, reads_at, writes_at, reads_in, writes_in}
use Rattle.wit_flow.specs.Cut.{strand_at, part, Follow}
use Rattle.wit_flow.proofs.Values.{times-append, in_left, in_right, in_either}

-- what is among the lists of steps is in the list of one of them
pub read_in : (ss : List Step) (c : ℕ) → IsIn c (reads_in ss) → (q : ℕ) × (q < length ss)
    × IsIn c (reads_at ss q)
read_in [] c h = absurd (omega arith)
read_in (s ∷ ss) c h = elim (in_either c s.reads (reads_in ss) h) [
  | inl here ↦ (0, omega arith, here)
  | inr later ↦ (let r = read_in ss c later in (suc r.0, (let l = r.1 in omega arith), r.2))
]

pub wrote_in : (ss : List Step) (c : ℕ) → IsIn c (writes_in ss) → (q : ℕ) × (q < length ss)
    × IsIn c (writes_at ss q)
wrote_in [] c h = absurd (omega arith)
wrote_in (s ∷ ss) c h = elim (in_either c s.writes (writes_in ss) h) [
  | inl here ↦ (0, omega arith, here)
  | inr later ↦ (let r = wrote_in ss c later in (suc r.0, (let l = r.1 in omega arith), r.2))
]

pub writes_of_one : (ss : List Step) (q c : ℕ) → IsIn c (writes_at ss q) → IsIn c (writes_in ss)
writes_of_one [] q c h = absurd (omega arith)
writes_of_one (s ∷ ss) zero c h = in_left c s.writes (writes_in ss) h
writes_of_one (s ∷ ss) (suc q) c h = in_right c s.writes (writes_in ss) (writes_of_one ss q c h)

pub reads_of_one : (ss : List Step) (q c : ℕ) → IsIn c (reads_at ss q) → IsIn c (reads_in ss)
reads_of_one [] q c h = absurd (omega arith)
reads_of_one (s ∷ ss) zero c h = in_left c s.reads (reads_in ss) h
reads_of_one (s ∷ ss) (suc q) c h = in_right c s.reads (reads_in ss) (reads_of_one ss q c h)

pub writes-append : (ss ts : List Step) → writes_in (ss ++ ts) ≡ writes_in ss ++ writes_in ts
writes-append [] ts = refl
writes-append (s ∷ ss) ts = ap (λ x. s.writes ++ x) (writes-append ss ts)
    ∙ sym (append_assoc s.writes (writes_in ss) (writes_in ts))

-- a strand's steps among all steps
pub part_at : (steps : List Step) (s : Strand) (j : ℕ) → j < s.count
    → step_at (part steps s) j ≡ step_at steps (s.first + j)
part_at steps s j lt = let l : j < s.first + s.count - s.first = omega arith
    in get_or-take (s.first + s.count - s.first) (drop s.first steps) j no_step l
    ∙ get_or-drop s.first steps j no_step

pub length-part : (steps : List Step) (s : Strand) → s.first + s.count ≤ length steps
    → length (part steps s) ≡ s.count
length-part steps s le =
    let d = length-drop s.first steps in
    let t = length-take-le (s.first + s.count - s.first) (drop s.first steps) (omega arith)
    in omega arith

-- a strand's steps are among the steps
pub strand_within : (ss : List Strand) (n end k : ℕ) → Follow ss n end → k < length ss
    → (n ≤ (strand_at ss k).first) × ((strand_at ss k).first + (strand_at ss k).count ≤ end)
strand_within [] n end k h lt = absurd (omega arith)
strand_within (s ∷ ss) n end zero h lt =
    let e = h.0 in let b = follow_le ss (n + s.count) end h.2 in (omega arith, omega arith)
  where
    follow_le : (ss : List Strand) (n end : ℕ) → Follow ss n end → n ≤ end
    follow_le [] n end h = omega arith
    follow_le (s ∷ ss) n end h = let r = follow_le ss (n + s.count) end h.2 in omega arith
strand_within (s ∷ ss) n end (suc k) h lt = let r =
    strand_within ss (n + s.count) end k h.2 (omega arith) in let a =
    r.0 in let b = r.1 in (omega arith, b)

-- a cell that a strand's steps read is read by one of them, and so for writes
part_near : (steps : List Step) (s : Strand) (q : ℕ) → q < length (part steps s) → q < s.count
part_near steps s q h =
    let l = length-take (s.first + s.count - s.first) (drop s.first steps) in omega arith

pub part_reads : (steps : List Step) (s : Strand) (c : ℕ) → IsIn c (reads_in (part steps s))
    → (j : ℕ) × (s.first ≤ j) × (j < s.first + s.count) × IsIn c (reads_at steps j)
part_reads steps s c h =
    let r = read_in (part steps s) c h in let lt = part_near steps s r.0 r.1 in (
      s.first + r.0,
      omega arith,
      omega arith,
      subst (λ (x : Step). IsIn c x.reads) (part_at steps s r.0 lt) r.2,
    )

pub part_writes : (steps : List Step) (s : Strand) (c : ℕ) → IsIn c (writes_in (part steps s))
    → (j : ℕ) × (s.first ≤ j) × (j < s.first + s.count) × IsIn c (writes_at steps j)
part_writes steps s c h =
    let r = wrote_in (part steps s) c h in let lt = part_near steps s r.0 r.1 in (
      s.first + r.0,
      omega arith,
      omega arith,
      subst (λ (x : Step). IsIn c x.writes) (part_at steps s r.0 lt) r.2,
    )

-- a step of an earlier strand comes before a step of a later one
pub in_order : (ss : List Strand) (n end p k i j : ℕ) → Follow ss n end → p < length ss
    → k < length ss
    → (strand_at ss p).first ≤ i → j < (strand_at ss k).first + (strand_at ss k).count → i ≤ j
    → p ≤ k
in_order [] n end p k i j h lp lk from to le = absurd (omega arith)
in_order (s ∷ ss) n end zero k i j h lp lk from to le = omega arith
in_order (s ∷ ss) n end (suc p) zero i j h lp lk from to le =
    let w = (strand_within ss (n + s.count) end p h.2 (omega arith)).0 in let e = h.0 in
    absurd (omega arith)
in_order (s ∷ ss) n end (suc p) (suc k) i j h lp lk from to le =
    let r = in_order ss (n + s.count) end p k i j h.2 (omega arith) (omega arith) from to le in
    omega arith

-- a cell that one step at most writes, and once, stands once among what steps write
pub writes_once_in : (c : ℕ) (ss : List Step) → ((k : ℕ) → times c (writes_at ss k) ≤ 1)
    → ((p q : ℕ) → IsIn c (writes_at ss p) → IsIn c (writes_at ss q) → p ≡ q)
    → times c (writes_in ss) ≤ 1
writes_once_in c [] once one = omega arith
writes_once_in c (s ∷ ss) once one =
    let e = times-append c s.writes (writes_in ss) in let first = once 0 in
    let rest = writes_once_in c ss (λ k. once (suc k))
    (λ p q a b. let z = one (suc p) (suc q) a b in omega arith) in
    elim (cases_lt 0 (times c (writes_in ss))) [
      | inr none ↦ omega arith
      | inl later ↦ elim (cases_lt 0 (times c s.writes)) [
        | inr none ↦ omega arith
        | inl here ↦ (let w = wrote_in ss c later in
            let z = one 0 (suc w.0) here w.2 in absurd (omega arith))
      ]
    ]

-- what a part of steps writes, all of them write
pub drop_writes : (c n : ℕ) (ss : List Step)
    → times c (writes_in (drop n ss)) ≤ times c (writes_in ss)
drop_writes c zero ss = omega arith
drop_writes c (suc n) [] = omega arith
drop_writes c (suc n) (s ∷ ss) =
    let r = drop_writes c n ss in let e = times-append c s.writes (writes_in ss) in omega arith

pub take_writes : (c n : ℕ) (ss : List Step)
    → times c (writes_in (take n ss)) ≤ times c (writes_in ss)
take_writes c zero ss = omega arith
take_writes c (suc n) [] = omega arith
take_writes c (suc n) (s ∷ ss) =
    let r = take_writes c n ss in let e = times-append c s.writes (writes_in ss) in
    let d = times-append c s.writes (writes_in (take n ss)) in omega arith
