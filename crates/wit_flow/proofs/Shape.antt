-- The answers of a plan's strands have the shape of a flow
use Rattle.std.proofs.Common.{◌≡◌, ◌≢◌, ℕ, zero, suc, ◌+◌, ◌-◌, ◌<◌, ◌≤◌, ◌⊎◌, cond, Bool, true}
use Rattle.std.proofs.Common.{false, List, [], ◌∷◌, map, length, get_or, refl, sym, ◌∙◌, ap, subst}
use Rattle.std.proofs.Common.{inl, inr, arith, Option, Some, None, unwrap_or}
use Rattle.std.specs.List.{range_with_len}
use Rattle.std.proofs.lemmas.List.{ext_get_or, length-map, get_or-map, get_or_past}
use Rattle.std.proofs.lemmas.List.FromFn.{length-map-range_with_len, get_or-map-range_with_len}
use Rattle.std.proofs.lemmas.Bool.{cases_lt, cases_Bool}
use Rattle.wit_code.specs.declared.code.Step.{Step}
use Rattle.flow_core.specs.Counts.{IsIn}
use Rattle.flow_core.specs.Net.{reads_of, writes_of}
use Rattle.flow_core.specs.Flow.{Answer, Unreached, Refuses, Gives, Flow, start_of, answer_of}
use Rattle.flow_core.specs.Flow.{Writes, HasValue, LacksRead, IsFlow}
use Rattle.flow_core.proofs.Nets.{in_range}
use Rattle.flow_core.proofs.Totals.{is_in_at, place_of}
use Rattle.wit_flow.specs.declared.flow.Strand.{Strand}
use Rattle.wit_flow.specs.Cells.{Cells, no_values, with_values, number_at, numbers_at, have_values}
use Rattle.wit_flow.specs.Run.{writes_at, End, Ran, StopsAt}
use Rattle.wit_flow.specs.Cut.{strand_at, part, Follow}
use Rattle.wit_flow.specs.Plan.{Plan, IsPlan}
use Rattle.wit_flow.specs.Answers.{start_cells, strand_end, answer_end, with_answer, cells_before}
use Rattle.wit_flow.specs.Answers.{answer_at, flow_of}
use Rattle.std.specs.Prelude.{◌&&◌, is_some}
use Rattle.wit_flow.proofs.Values.{HasOne, cases_in, here_first, here_later, with_values_else}
use Rattle.wit_flow.proofs.Values.{with_values_has, with_values_at, have_one, have_all}
use Rattle.wit_flow.proofs.Runs.{Fills}
use Rattle.wit_flow.proofs.Spans.{strand_within, wrote_in, writes_of_one, part_at, length-part}
use Rattle.wit_flow.proofs.Cuts.{answers_alone, strand_fills}

-- the strand of a step
strand_of : (ss : List Strand) (n end j : ℕ) → Follow ss n end → n ≤ j → j < end
    → (k : ℕ) × (k < length ss) × ((strand_at ss k).first ≤ j)
    × (j < (strand_at ss k).first + (strand_at ss k).count)
strand_of [] n end j h le lt = absurd (omega arith)
strand_of (s ∷ ss) n end j h le lt = let e = h.0 in elim (cases_lt j (n + s.count)) [
  | inl less ↦ (0, omega arith, omega arith, omega arith)
  | inr ge ↦
      (let r = strand_of ss (n + s.count) end j h.2 ge lt
      in (suc r.0, (let l = r.1 in omega arith), r.2, r.3))
]

step_in : (ss : List Step) (j c : ℕ) → IsIn c (writes_at ss j) → j < length ss
step_in [] j c h = absurd (omega arith)
step_in (s ∷ ss) zero c h = omega arith
step_in (s ∷ ss) (suc j) c h = let r = step_in ss j c h in omega arith

with_answer_else : (a : Cells) (cs : List ℕ) (w : Answer) (c : ℕ) → (IsIn c cs → ⊥)
    → with_answer a cs w c ≡ a c
with_answer_else a cs Unreached c out = refl
with_answer_else a cs Refuses c out = refl
with_answer_else a cs (Gives xs) c out = with_values_else a cs xs c out

-- a strand that has no value for a read, or has all
lacks_one : (a : Cells) (cs : List ℕ) → have_values a cs ≡ false
    → ((c : ℕ) → IsIn c cs → HasOne a c) → ⊥
lacks_one a cs is all = let t = have_all a cs all in clash (have_values a cs) is t
  where
    clash : (b : Bool) → b ≡ false → b ≡ true → ⊥
    clash true e t = cc
    clash false e t = cc

end_unreached : (e : End) → answer_end e ≢ Unreached
end_unreached (Ran vs) = λ q. cc
end_unreached (StopsAt n stop vs) = λ q. cc

end_gives : (n : ℕ) (e : End) (xs : List ℕ) → Fills n e → answer_end e ≡ Gives xs → length xs ≡ n
end_gives n (Ran vs) xs h is = let e : vs ≡ xs = cc in sym (ap length e) ∙ h
end_gives n (StopsAt k stop vs) xs h is = absurd (refused xs is)
  where
    refused : (xs : List ℕ) → Refuses ≡ Gives xs → ⊥
    refused xs e = cc

first_none : (a : Cells) (d : ℕ) (cs : List ℕ) (o : Option ℕ) → a d ≡ o
    → have_values a (d ∷ cs) ≡ false
    → (have_values a cs ≡ false → (c : ℕ) × IsIn c cs × (a c ≡ None)) → (c : ℕ) × IsIn c (d ∷ cs)
    × (a c ≡ None)
first_none a d cs None e is rest = (d, here_first d cs, e)
first_none a d cs (Some x) e is rest =
    let r = rest (sym (ap (λ (q : Option ℕ). is_some q && have_values a cs) e) ∙ is)
    in (r.0, here_later r.0 d cs r.1, r.2)

-- a cell without a value among those of a list
find_none : (a : Cells) (cs : List ℕ) → have_values a cs ≡ false → (c : ℕ) × IsIn c cs
    × (a c ≡ None)
find_none a [] is = absurd (off is)
  where
    off : true ≡ false → ⊥
    off e = cc
find_none a (d ∷ cs) is = first_none a d cs (a d) refl is (λ u. find_none a cs u)

module _ (p : Plan) (ok : IsPlan p) (start : List ℕ) (fuel : ℕ)
    (each : length start ≡ length p.starts) where
  abbrev f : Flow
  f = flow_of p start fuel

  abbrev cells_at : ℕ → Cells
  cells_at k = cells_before p fuel (start_cells p start) k

  start_is : (c : ℕ) → start_of f c ≡ start_cells p start c
  start_is c = elim (cases_lt c p.graph.cells) [
    | inl near ↦ get_or-map-range_with_len (start_cells p start) 0 p.graph.cells c c None near
        (omega arith)
    | inr far ↦ (let l = length-map-range_with_len (start_cells p start) 0 p.graph.cells in
        get_or_past (map (start_cells p start) (range_with_len 0 p.graph.cells)) c None
        (omega arith)
        ∙ sym (with_values_else no_values p.starts start c (λ h. let n = ok.can_cut.starts_near c h
        in omega arith)))
  ]

  answer_is : (k : ℕ) → k < p.graph.strands → answer_of f k ≡ answer_at p start fuel k
  answer_is k near =
      get_or-map-range_with_len (answer_at p start fuel) 0 p.graph.strands k k Unreached near
      (omega arith)

  answer_far : (k : ℕ) → p.graph.strands ≤ k → answer_of f k ≡ Unreached
  answer_far k far = let l = length-map-range_with_len (answer_at p start fuel) 0 p.graph.strands
      in get_or_past (map (answer_at p start fuel) (range_with_len 0 p.graph.strands)) k Unreached
      (omega arith)

  strand_near : (k c : ℕ) → IsIn c (writes_of p.graph k) → k < p.graph.strands
  strand_near k c h =
      let w = ok.net.writes_each in let r = in_range p.graph.writes k c h in omega arith

  -- a step of the strand writes what the strand writes
  step_writes : (k c : ℕ) → IsIn c (writes_of p.graph k) → (j : ℕ) × IsIn c (writes_at p.steps j)
  step_writes k c h =
      let near = strand_near k c h in let e = ok.strands_each in
      let lt : k < length p.strands = omega arith in
      let s = strand_at p.strands k in
      let le = (strand_within p.strands 0 (length p.steps) k ok.follow lt).1 in
      let l = length-part p.steps s le in
      let w = wrote_in (part p.steps s) c (subst (IsIn c) (ok.draws k lt).writes_all h) in
      let q = w.1 in (
        s.first + w.0,
        subst (λ (x : Step). IsIn c x.writes) (part_at p.steps s w.0 (omega arith)) w.2,
      )

  not_start : (k c : ℕ) → IsIn c (writes_of p.graph k) → start_of f c ≡ None
  not_start k c h = let w = step_writes k c h
      in start_is c
      ∙ with_values_else no_values p.starts start c
      (λ begun. ok.can_cut.starts_unwritten w.0 c begun w.1)

  strand_writes : (j c : ℕ) → IsIn c (writes_at p.steps j) → (k : ℕ) × IsIn c (writes_of p.graph k)
  strand_writes j c h =
      let r = strand_of p.strands 0 (length p.steps) j ok.follow (omega arith)
      (step_in p.steps j c h) in let s = strand_at p.strands r.0 in
      let a = r.2 in let b = r.3 in let i : ℕ = j - s.first in
      let n : j ≡ s.first + i = omega arith in
      let W : ℕ → Type 0 = λ m. IsIn c (writes_at p.steps m) in
      let own : IsIn c (writes_at (part p.steps s) i) =
      subst (λ (x : Step). IsIn c x.writes) (sym (part_at p.steps s i (omega arith)))
      (subst W n h) in (
        r.0,
        subst (IsIn c) (sym (ok.draws r.0 r.1).writes_all)
            (writes_of_one (part p.steps s) i c own),
      )

  written : (c : ℕ) → c < p.graph.cells → start_of f c ≡ None
      → (k : ℕ) × IsIn c (writes_of p.graph k)
  written c near none = elim (ok.can_cut.written c near) [
    | inl begun ↦
        (let o = with_values_has no_values p.starts start c (sym each) begun
        in absurd (some_none o.0 (sym o.1 ∙ sym (start_is c) ∙ none)))
    | inr by ↦ strand_writes by.0 c by.1
  ]
    where
      some_none : (x : ℕ) → Some x ≡ None → ⊥
      some_none x e = cc

  -- a strand that has all its reads answers as its steps end
  fits : (k : ℕ) (xs : List ℕ) → k < length p.strands → answer_at p start fuel k ≡ Gives xs
      → length xs ≡ length (writes_of p.graph k)
  fits k xs near is = elim (cases_Bool (have_values (cells_at k) (reads_of p.graph k))) [
    | inl t ↦ (let all = have_one (cells_at k) (reads_of p.graph k) t in
        end_gives (length (writes_of p.graph k))
        (strand_end p fuel k (numbers_at (cells_at k) (reads_of p.graph k))) xs
        (strand_fills p ok fuel k near (cells_at k) all)
        (sym (answers_alone p ok fuel k near (cells_at k) all) ∙ is))
    | inr u ↦
        absurd (unreached xs
        (sym (ap (λ (b : Bool). cond b
        (answer_end (strand_end p fuel k (numbers_at (cells_at k) (reads_of p.graph k)))) Unreached)
        u) ∙ is))
  ]
    where
      unreached : (xs : List ℕ) → Unreached ≡ Gives xs → ⊥
      unreached xs e = cc

  gives_each : (k : ℕ) (xs : List ℕ) → answer_of f k ≡ Gives xs
      → length xs ≡ length (writes_of p.graph k)
  gives_each k xs is = elim (cases_lt k p.graph.strands) [
    | inl near ↦ (let e = ok.strands_each in fits k xs (omega arith) (sym (answer_is k near) ∙ is))
    | inr far ↦ absurd (unreached xs (sym (answer_far k far) ∙ is))
  ]
    where
      unreached : (xs : List ℕ) → Unreached ≡ Gives xs → ⊥
      unreached xs e = cc

  -- the cell of a place gets its value
  gets : (k : ℕ) (vs : List ℕ) (i : ℕ) → length vs ≡ length (writes_of p.graph k)
      → i < length (writes_of p.graph k)
      → with_values (cells_at k) (writes_of p.graph k) vs (get_or (writes_of p.graph k) i 0)
      ≡ Some (get_or vs i 0)
  gets k vs i wide near =
      with_values_at (cells_at k) (writes_of p.graph k) vs i (sym wide) near
      (ok.net.writes_once k (get_or (writes_of p.graph k) i 0))

  -- after a strand's answer, a cell has its old value, or that of the strand
  after_answer : (k : ℕ) (w : Answer) (c x : ℕ) → k < p.graph.strands → answer_at p start fuel k ≡ w
      → with_answer (cells_at k) (writes_of p.graph k) w c ≡ Some x → (cells_at k c ≡ Some x)
      ⊎ Writes f c x k
  after_answer k Unreached c x near is h = inl h
  after_answer k Refuses c x near is h = inl h
  after_answer k (Gives vs) c x near is h = elim (cases_in c (writes_of p.graph k)) [
    | inr out ↦ inl (sym (with_values_else (cells_at k) (writes_of p.graph k) vs c out) ∙ h)
    | inl here ↦ (
        let g = answer_is k near ∙ is in let wide = gives_each k vs g in
        let i = place_of c (writes_of p.graph k) here in
        let v = subst (λ d. with_values (cells_at k) (writes_of p.graph k) vs d
        ≡ Some (get_or vs i.0 0)) i.2 (gets k vs i.0 wide i.1) in
        let e : get_or vs i.0 0 ≡ x = same (get_or vs i.0 0) x (sym v ∙ h) in
        inr record { values = vs; place = i.0; gives = g; near = i.1; cell = i.2; value = e })
  ]
    where
      same : (y x : ℕ) → Some y ≡ Some x → y ≡ x
      same y x e = cc

  -- what a cell holds is a value of it
  pub held_value : (k c x : ℕ) → k ≤ p.graph.strands → cells_at k c ≡ Some x → HasValue f c x
  held_value zero c x le h = inl (start_is c ∙ h)
  held_value (suc k) c x le h =
      elim (after_answer k (answer_at p start fuel k) c x (omega arith) refl h) [
        | inl old ↦ held_value k c x (omega arith) old
        | inr new ↦ inr (k, new)
      ]

  start_stays : (k c x : ℕ) → start_of f c ≡ Some x → cells_at k c ≡ Some x
  start_stays zero c x h = sym (start_is c) ∙ h
  start_stays (suc k) c x h =
      with_answer_else (cells_at k) (writes_of p.graph k) (answer_at p start fuel k) c
      (λ here. some_none x (sym h ∙ not_start k c here)) ∙ start_stays k c x h
    where
      some_none : (x : ℕ) → Some x ≡ None → ⊥
      some_none x e = cc

  writes_in_list : (c x j : ℕ) → Writes f c x j → IsIn c (writes_of p.graph j)
  writes_in_list c x j w =
      subst (λ d. IsIn d (writes_of p.graph j)) w.cell
      (is_in_at (writes_of p.graph j) w.place w.near)

  written_stays : (k c x j : ℕ) → j < k → Writes f c x j → cells_at k c ≡ Some x
  written_stays zero c x j lt w = absurd (omega arith)
  written_stays (suc k) c x j lt w = elim (cases_lt j k) [
    | inl less ↦ with_answer_else (cells_at k) (writes_of p.graph k) (answer_at p start fuel k) c
        (λ here. let e = ok.net.one_writer j k c (writes_in_list c x j w) here in omega arith)
        ∙ written_stays k c x j less w
    | inr ge ↦ (
        let e : j ≡ k = omega arith in let mine : Writes f c x k = subst (Writes f c x) e w in
        let near = strand_near k c (writes_in_list c x k mine) in
        let g : answer_at p start fuel k ≡ Gives mine.values =
        sym (answer_is k near) ∙ mine.gives in
        let v = gets k mine.values mine.place (gives_each k mine.values mine.gives) mine.near in
        let c-is =
        subst (λ d. with_values (cells_at k) (writes_of p.graph k) mine.values d
        ≡ Some (get_or mine.values mine.place 0)) mine.cell v in
        ap (λ (a : Answer). with_answer (cells_at k) (writes_of p.graph k) a c) g ∙ c-is
        ∙ ap Some mine.value)
  ]

  -- a value of a cell that the strand k reads is held before the strand k
  pub value_held : (k c x : ℕ) → IsIn c (reads_of p.graph k) → HasValue f c x
      → cells_at k c ≡ Some x
  value_held k c x reads h = elim h [
    | inl begun ↦ start_stays k c x begun
    | inr by ↦
        written_stays k c x by.0
        (ok.net.preds_below by.0 k
        ((ok.net.preds_feed by.0 k).1 (c, writes_in_list c x by.0 by.1, reads))) by.1
  ]

  -- once all strands have answered, a cell holds its value
  pub value_at_end : (c x : ℕ) → HasValue f c x → cells_at p.graph.strands c ≡ Some x
  value_at_end c x h = elim h [
    | inl begun ↦ start_stays p.graph.strands c x begun
    | inr by ↦ written_stays p.graph.strands c x by.0
        (strand_near by.0 c (writes_in_list c x by.0 by.1)) by.1
  ]

  lacks : (k : ℕ) → k < p.graph.strands → answer_of f k ≡ Unreached → LacksRead f k
  lacks k near is =
      let e = ok.strands_each in let lt : k < length p.strands = omega arith in
      let is' = sym (answer_is k near) ∙ is in
      elim (cases_Bool (have_values (cells_at k) (reads_of p.graph k))) [
        | inl t ↦ (let all = have_one (cells_at k) (reads_of p.graph k) t in
            absurd (end_unreached
            (strand_end p fuel k (numbers_at (cells_at k) (reads_of p.graph k)))
            (sym (answers_alone p ok fuel k lt (cells_at k) all) ∙ is')))
        | inr u ↦
            (let m = find_none (cells_at k) (reads_of p.graph k) u
            in (m.0, m.1, λ x h. some_none x (sym (value_held k m.0 x m.1 h) ∙ m.2)))
      ]
    where
      some_none : (x : ℕ) → Some x ≡ None → ⊥
      some_none x e = cc

  lacking : (k : ℕ) → k < p.graph.strands → LacksRead f k → answer_of f k ≡ Unreached
  lacking k near h = elim (cases_Bool (have_values (cells_at k) (reads_of p.graph k))) [
    | inl t ↦
        (let o = have_one (cells_at k) (reads_of p.graph k) t h.0 h.1
        in absurd (h.2 o.0 (held_value k h.0 o.0 (omega arith) o.1)))
    | inr u ↦ answer_is k near
        ∙ ap (λ (b : Bool). cond b
        (answer_end (strand_end p fuel k (numbers_at (cells_at k) (reads_of p.graph k)))) Unreached)
        u
  ]

  pub is_flow : IsFlow f
  is_flow = record {
    answer_each = length-map-range_with_len (answer_at p start fuel) 0 p.graph.strands;
    start_each = length-map-range_with_len (start_cells p start) 0 p.graph.cells;
    written_or_start = written;
    written_no_start = not_start;
    values_each = gives_each;
    unreached = λ k near. (lacks k near, lacking k near);
  }

  -- the answer of a strand is how its steps end on the values of what it reads
  pub answers_for : (k : ℕ) (xs : List ℕ) → k < p.graph.strands
      → length xs ≡ length (reads_of p.graph k)
      → ((i : ℕ) → i < length xs → HasValue f (get_or (reads_of p.graph k) i 0) (get_or xs i 0))
      → answer_of f k ≡ answer_end (strand_end p fuel k xs)
  answers_for k xs near wide h =
      let R = reads_of p.graph k in let a = cells_at k in let e = ok.strands_each in
      let lt : k < length p.strands = omega arith in
      let holds : (i : ℕ) → i < length R → a (get_or R i 0) ≡ Some (get_or xs i 0) =
      λ i l. value_held k (get_or R i 0) (get_or xs i 0) (is_in_at R i l) (h i (omega arith)) in
      let all : (c : ℕ) → IsIn c R → HasOne a c = λ c here. let i = place_of c R here
      in (get_or xs i.0 0, subst (λ d. a d ≡ Some (get_or xs i.0 0)) i.2 (holds i.0 i.1)) in
      let l = length-map R (number_at a) in
      let same : numbers_at a R ≡ xs =
      ext_get_or 0 (numbers_at a R) xs (omega arith) (λ i near-i. let n : i < length R =
      omega arith in
      get_or-map (number_at a) R i 0 0 n ∙ ap (λ (o : Option ℕ). unwrap_or o 0) (holds i n)) in
      answer_is k near ∙ answers_alone p ok fuel k lt a all
      ∙ ap (λ (ys : List ℕ). answer_end (strand_end p fuel k ys)) same
