-- What is known of the strands as a step is added and as the open strand is closed
use Rattle.std.proofs.Common.{◌≡◌, ℕ, ◌+◌, ◌-◌, ◌<◌, ◌≤◌, ◌⊎◌, List, [], ◌∷◌, ◌++◌, length, take}
use Rattle.std.proofs.Common.{drop, get_or, refl, sym, ◌∙◌, ap, subst, inl, inr, arith, slice_range}
use Rattle.std.proofs.lemmas.List.{append-nil, get_or_append_left, get_or_push, length_push}
use Rattle.std.proofs.lemmas.List.{take_more, flat_map_more, length-drop, get_or-drop}
use Rattle.std.proofs.lemmas.Bool.{cases_lt}
use Rattle.wit_code.specs.declared.code.Step.{Step}
use Rattle.flow_core.specs.Counts.{times, IsIn}
use Rattle.flow_core.specs.Drawn.{row}
use Rattle.flow_core.proofs.Totals.{place_of}
use Rattle.wit_flow.specs.declared.flow.Source.{Source}
use Rattle.wit_flow.specs.declared.flow.Strand.{Strand}
use Rattle.wit_flow.specs.declared.drafting.Draft.{Draft}
use Rattle.wit_flow.specs.Run.{no_step, step_at, reads_at, writes_at, reads_in, writes_in}
use Rattle.wit_flow.specs.Cut.{strand_at, part, Follow, IsByRule, Joins}
use Rattle.wit_flow.specs.Sources.{AreSources, sources_of, source_at}
use Rattle.wit_flow.specs.Draft.{WritesFirst, Marks, number_of_open, IsStrand, open_of, IsDraft}
use Rattle.wit_flow.specs.Draft.{ReadsMore, WritesMore, next_of, MayAdd, CanClose, HasCome}
use Rattle.wit_flow.specs.Draft.{IsClosed}
use Rattle.wit_flow.proofs.Values.{in_left, in_right, in_either}
use Rattle.wit_flow.proofs.Spans.{part_reads}
use Rattle.wit_flow.proofs.Marking.{sources_stay, source_in, marks_none}

abbrev pub strand : ℕ → ℕ → Strand
strand first count = record { first = first; count = count }

-- a range of steps with the next one
pub range_more : (steps : List Step) (a b : ℕ) → a ≤ b → b < length steps
    → slice_range steps a (b + 1) ≡ slice_range steps a b ++ step_at steps b ∷ []
range_more steps a b le near =
    let e : b + 1 - a ≡ b - a + 1 = omega arith in
    let l : length (drop a steps) ≡ length steps - a = length-drop a steps in
    let at : a + (b - a) ≡ b = omega arith in
    ap (λ n. take n (drop a steps)) e ∙ take_more (drop a steps) (b - a) no_step (omega arith)
    ∙ ap (λ (s : Step). take (b - a) (drop a steps) ++ s ∷ []) (get_or-drop a steps (b - a) no_step
    ∙ ap (λ n. step_at steps n) at)

pub range_none : (steps : List Step) (a : ℕ) → slice_range steps a (a + 0) ≡ []
range_none steps a = let e : a + 0 - a ≡ 0 = omega arith in ap (λ n. take n (drop a steps)) e

pub writes_more : (steps : List Step) (a b : ℕ) → a ≤ b → b < length steps
    → writes_in (slice_range steps a (b + 1)) ≡ writes_in (slice_range steps a b)
    ++ writes_at steps b
writes_more steps a b le near = ap writes_in (range_more steps a b le near)
    ∙ sym (flat_map_more (λ (s : Step). s.writes) [] (slice_range steps a b) (step_at steps b))

pub reads_more_in : (steps : List Step) (a b : ℕ) → a ≤ b → b < length steps
    → reads_in (slice_range steps a (b + 1)) ≡ reads_in (slice_range steps a b) ++ reads_at steps b
reads_more_in steps a b le near = ap reads_in (range_more steps a b le near)
    ∙ sym (flat_map_more (λ (s : Step). s.reads) [] (slice_range steps a b) (step_at steps b))

-- other steps' sources change nothing for a strand
pub strand_stays : (steps : List Step) (sources : List (List Source)) (more : List Source)
    (s : Strand) (reads writes : List ℕ) → IsStrand steps sources s reads writes
    → IsStrand steps (sources ++ more ∷ []) s reads writes
strand_stays steps sources more s reads writes h = record {
  within = (let w = h.within in let l = length_push sources more in omega arith);
  writes_all = h.writes_all;
  reads_read = h.reads_read;
  read = h.read;
  reads_once = h.reads_once;
  apart = h.apart;
  joined = h.joined;
  finds = λ j from to. (let w = h.within in
      subst (λ x. AreSources reads writes (length (writes_in (slice_range steps s.first j))) x
      (reads_at steps j)) (sym (get_or_append_left sources (more ∷ []) [] j (omega arith)))
      (h.finds j from to));
}

-- the open strand with one more step
pub strand_more : (steps : List Step) (sources : List (List Source)) (found : List Source)
    (first count : ℕ) (reads more writes : List ℕ) → length sources ≡ first + count
    → first + count < length steps
    → (count ≡ 0) ⊎ Joins steps first (first + count)
    → IsStrand steps sources (strand first count) reads writes
    → ((c : ℕ) → IsIn c more → IsIn c (reads_at steps (first + count)))
    → AreSources (reads ++ more) writes (length writes) found (reads_at steps (first + count))
    → WritesFirst steps → ((c : ℕ) → times c (reads ++ more) ≤ 1)
    → ((c : ℕ) → IsIn c more → IsIn c writes → ⊥)
    → IsStrand steps (sources ++ found ∷ []) (strand first (count + 1)) (reads ++ more)
    (writes ++ writes_at steps (first + count))
strand_more steps sources found first count reads more writes each near may h listed are before once
    fresh =
    let n : first + (count + 1) ≡ first + count + 1 = omega arith in
    let at : ℕ = first + count in
    let ws : writes_in (part steps (strand first (count + 1)))
    ≡ writes_in (part steps (strand first count)) ++ writes_at steps at =
    ap (λ m. writes_in (slice_range steps first m)) n
    ∙ writes_more steps first at (omega arith) near in
    let rs : reads_in (part steps (strand first (count + 1)))
    ≡ reads_in (part steps (strand first count)) ++ reads_at steps at =
    ap (λ m. reads_in (slice_range steps first m)) n
    ∙ reads_more_in steps first at (omega arith) near in
    let done : length (writes_in (slice_range steps first at)) ≡ length writes =
    sym (ap length h.writes_all) in
    record {
      within = (let l = length_push sources found in omega arith);
      writes_all = ap (λ xs. xs ++ writes_at steps at) h.writes_all ∙ sym ws;
      reads_read = λ c here. subst (IsIn c) (sym rs) (elim (in_either c reads more here) [
        | inl old ↦ in_left c (reads_in (part steps (strand first count))) (reads_at steps at)
            (h.reads_read c old)
        | inr new ↦ in_right c (reads_in (part steps (strand first count))) (reads_at steps at)
            (listed c new)
      ]);
      read = λ c here. elim (in_either c (reads_in (part steps (strand first count)))
          (reads_at steps at) (subst (IsIn c) rs here)) [
            | inl old ↦
                elim (h.read c old) [
                  | inl r ↦ inl (in_left c reads more r)
                  | inr w ↦
                      inr (in_left c writes (writes_at steps at) w)
                ]
            | inr new ↦ (let p = place_of c (reads_at steps at) new in
                let i = source_in (reads ++ more) writes (length writes) (source_at found p.0)
                (get_or (reads_at steps at) p.0 0) are.few (are.found p.0 p.1) in
                subst (λ x. IsIn x (reads ++ more) ⊎ IsIn x (writes ++ writes_at steps at)) p.2
                (elim i [
                  | inl r ↦ inl r
                  | inr w ↦
                      inr (in_left (get_or (reads_at steps at) p.0 0) writes (writes_at steps at) w)
                ]))
          ];
      reads_once = once;
      apart = λ c here own. elim (in_either c writes (writes_at steps at) own) [
        | inl old ↦
            elim (in_either c reads more here) [ inl r ↦ h.apart c r old | inr n ↦ fresh c n old ]
        | inr new ↦ elim (in_either c reads more here) [
          | inl r ↦ (let p = part_reads steps (strand first count) c (h.reads_read c r) in
              let lt = before at p.0 c new p.3 in let le = p.2 in absurd (omega arith))
          | inr n ↦ (let lt = before at at c new (listed c n) in absurd (omega arith))
        ]
      ];
      joined = λ i after less. elim (cases_lt i at) [
        | inl lt ↦ h.joined i after lt
        | inr ge ↦
            (let e : i ≡ at = omega arith
            in subst (Joins steps first) (sym e)
            (elim may [ inl z ↦ absurd (omega arith) | inr j ↦ j ]))
      ];
      finds = λ j from to. elim (cases_lt j at) [
        | inl less ↦ (
            let old =
            sources_stay reads more writes (writes_at steps at)
            (length (writes_in (slice_range steps first j))) (sources_of sources j)
            (reads_at steps j) (h.finds j from less) in
            subst (λ x. AreSources (reads ++ more) (writes ++ writes_at steps at)
            (length (writes_in (slice_range steps first j))) x (reads_at steps j))
            (sym (get_or_append_left sources (found ∷ []) [] j (omega arith))) old)
        | inr ge ↦ (let e : j ≡ at = omega arith in
            let new =
            sources_stay (reads ++ more) [] writes (writes_at steps at) (length writes) found
            (reads_at steps at) are in
            let new' =
            subst (λ rs'. AreSources rs' (writes ++ writes_at steps at) (length writes) found
            (reads_at steps at)) (append-nil (reads ++ more)) new in
            let row' : sources_of (sources ++ found ∷ []) at ≡ found =
            get_or_push sources found [] at each in
            let P : ℕ
            → Type 0 = λ m. AreSources (reads ++ more) (writes ++ writes_at steps at)
            (length (writes_in (slice_range steps first m)))
            (sources_of (sources ++ found ∷ []) m) (reads_at steps m) in
            let Q : List Source
            → Type 0 = λ x. AreSources (reads ++ more) (writes ++ writes_at steps at)
            (length (writes_in (slice_range steps first at))) x (reads_at steps at) in
            let R : ℕ
            → Type 0 = λ m. AreSources (reads ++ more) (writes ++ writes_at steps at) m found
            (reads_at steps at) in
            subst P (sym e) (subst Q (sym row') (subst R (sym done) new')))
      ];
    }

-- a step is added
pub added : (steps : List Step) (a b d new : Draft) (found : List Source) → IsDraft steps a
    → WritesFirst steps → next_of a < length steps → MayAdd steps a
    → ReadsMore a b (reads_at steps (next_of a))
    → AreSources b.open_reads b.open_writes (length b.open_writes) found
    (reads_at steps (next_of a)) → WritesMore b d (writes_at steps (next_of a))
    → new ≡ record d { sources = d.sources ++ found ∷ []; count = d.count + 1 }
    → HasCome steps (length a.marks) (next_of a + 1) new
added steps a b d new found h first near may r are w is =
    let at : ℕ = next_of a in
    let last : Draft = record d { sources = d.sources ++ found ∷ []; count = d.count + 1 } in
    let via : d
    ≡ record a { open_reads = b.open_reads; open_writes = d.open_writes; marks = d.marks } =
    w.same ∙ ap (λ (x : Draft). record x { open_writes = d.open_writes; marks = d.marks }) r.same in
    let ow : b.open_writes ≡ a.open_writes = ap (λ (x : Draft). x.open_writes) r.same in
    let full : new
    ≡ record a {
      sources = a.sources ++ found ∷ [];
      count = a.count + 1;
      open_reads =
          b.open_reads;
      open_writes = d.open_writes;
      marks = d.marks;
    } =
    is ∙ ap (λ (x : Draft). record x { sources = x.sources ++ found ∷ []; count = x.count + 1 })
    via in
    let A : List ℕ → Type 0 =
    λ ws. AreSources b.open_reads ws (length ws) found (reads_at steps at) in
    let B : List ℕ → Type 0 =
    λ rs. AreSources rs a.open_writes (length a.open_writes) found (reads_at steps at) in
    let are' = subst B r.grown (subst A ow are) in
    let once : (c : ℕ) → times c (a.open_reads ++ r.more) ≤ 1 =
    λ c. let o = r.marked.once c in let e = ap (times c) r.grown in omega arith in
    let more =
    strand_more steps a.sources found a.first a.count a.open_reads r.more a.open_writes
    h.sources_each near may h.opened r.listed are' first once r.fresh in
    let writes : d.open_writes ≡ a.open_writes ++ writes_at steps at =
    w.grown ∙ ap (λ ws. ws ++ writes_at steps at) ow in
    let opened =
    subst (λ rs. IsStrand steps (a.sources ++ found ∷ []) (strand a.first (a.count + 1)) rs
    d.open_writes) (sym r.grown)
    (subst (IsStrand steps (a.sources ++ found ∷ []) (strand a.first (a.count + 1))
    (a.open_reads ++ r.more)) (sym writes) more) in
    let strands : d.strands ≡ a.strands = ap (λ (x : Draft). x.strands) via in
    let reads' : d.open_reads ≡ b.open_reads = ap (λ (x : Draft). x.open_reads) via in
    let marked : Marks (length a.strands + 1) d.marks b.open_reads d.open_writes =
    subst (λ (n : List Strand). Marks (length n + 1) d.marks b.open_reads d.open_writes) strands
    (subst (λ rs. Marks (number_of_open d) d.marks rs d.open_writes) reads' w.marked) in
    subst (HasCome steps (length a.marks) (at + 1)) (sym full) record {
      draft = record {
        reads_each = h.reads_each;
        writes_each = h.writes_each;
        sources_each =
            (let e = h.sources_each in let l = length_push a.sources found in omega arith);
        follow = h.follow;
        few = h.few;
        closed = λ k lt. strand_stays steps a.sources found (strand_at a.strands k) (row a.reads k)
            (row a.writes k) (h.closed k lt);
        by_rule = h.by_rule;
        opened = opened;
        marked = marked;
      };
      next = omega arith;
      wide = w.wide ∙ r.wide;
    }

-- one strand more
pub follow_more : (ss : List Strand) (n m count : ℕ) → Follow ss n m → 0 < count
    → Follow (ss ++ strand m count ∷ []) n (m + count)
follow_more [] n m count h some =
    (sym h, some, (let e : n + count ≡ m + count = ap (λ x. x + count) h in e))
follow_more (s ∷ ss) n m count h some = (h.0, h.1, follow_more ss (n + s.count) m count h.2 some)

none_strand : (steps : List Step) (sources : List (List Source)) (n : ℕ) → n ≤ length sources
    → IsStrand steps sources (strand n 0) [] []
none_strand steps sources n le = let none = range_none steps n in record {
  within = omega arith;
  writes_all = sym (ap writes_in none);
  reads_read = λ c here. absurd (omega arith);
  reads_once = λ c. omega arith;
  apart = λ c here. absurd (omega arith);
  read = λ c here. (let gone : IsIn c [] = subst (λ (x : List Step). IsIn c (reads_in x)) none here
      in absurd (omega arith));
  joined = λ i after before. absurd (omega arith);
  finds = λ j from to. absurd (omega arith);
}

-- the open strand is closed
pub closes : (steps : List Step) (a new : Draft) → IsDraft steps a → CanClose steps a
    → IsClosed a new → HasCome steps (length a.marks) (next_of a) new
closes steps a new h can is =
    let s : Strand = open_of a in
    let same : new
    ≡ record {
      strands = a.strands ++ s ∷ [];
      reads = a.reads ++ a.open_reads ∷ [];
      writes =
          a.writes ++ a.open_writes ∷ [];
      sources = a.sources;
      first = a.first + a.count;
      count =
          0;
      open_reads = [];
      open_writes = [];
      marks = a.marks;
    } =
    λ i. record {
      strands = is.strands i;
      reads = is.reads i;
      writes = is.writes i;
      sources =
          is.sources i;
      first = is.first i;
      count = is.count i;
      open_reads = is.open_reads i;
      open_writes = is.open_writes i;
      marks = is.marks i;
    } in
    let ls = length_push a.strands s in let lr = length_push a.reads a.open_reads in
    let lw = length_push a.writes a.open_writes in
    let er = h.reads_each in let ew = h.writes_each in let es = h.sources_each in let few = h.few in
    let some = can.some in
    let count = length a.strands in
    let at_old : (k : ℕ) → k < count → strand_at (a.strands ++ s ∷ []) k ≡ strand_at a.strands k =
    λ k lt. get_or_append_left a.strands (s ∷ []) (strand 0 0) k lt in
    let at_new : (k : ℕ) → count ≤ k → k < length (a.strands ++ s ∷ [])
    → (count ≡ k) × (strand_at (a.strands ++ s ∷ []) k ≡ s) =
    λ k ge lt. let e : count ≡ k = omega arith in (e, get_or_push a.strands s (strand 0 0) k e) in
    subst (HasCome steps (length a.marks) (next_of a)) (sym same) record {
      draft = record {
        reads_each = omega arith;
        writes_each = omega arith;
        sources_each = omega arith;
        follow = follow_more a.strands 0 a.first a.count h.follow some;
        few = omega arith;
        closed = λ k lt. elim (cases_lt k count) [
          | inl less ↦ (
              let rr = get_or_append_left a.reads (a.open_reads ∷ []) [] k (omega arith) in
              let ww = get_or_append_left a.writes (a.open_writes ∷ []) [] k (omega arith) in
              let P : Strand
              → Type 0 = λ x. IsStrand steps a.sources x (row (a.reads ++ a.open_reads ∷ []) k)
              (row (a.writes ++ a.open_writes ∷ []) k) in
              let Q : List ℕ
              → Type 0 =
              λ x. IsStrand steps a.sources (strand_at a.strands k) x
              (row (a.writes ++ a.open_writes ∷ []) k) in
              subst P (sym (at_old k less))
              (subst Q (sym rr)
              (subst (IsStrand steps a.sources (strand_at a.strands k) (row a.reads k)) (sym ww)
              (h.closed k less))))
          | inr ge ↦ (
              let n = at_new k ge lt in let rr = get_or_push a.reads a.open_reads [] k (er ∙ n.0) in
              let ww = get_or_push a.writes a.open_writes [] k (ew ∙ n.0) in
              let P : Strand
              → Type 0 = λ x. IsStrand steps a.sources x (row (a.reads ++ a.open_reads ∷ []) k)
              (row (a.writes ++ a.open_writes ∷ []) k) in
              let Q : List ℕ → Type 0 =
              λ x. IsStrand steps a.sources s x (row (a.writes ++ a.open_writes ∷ []) k) in
              subst P (sym n.1)
              (subst Q (sym rr)
              (subst (IsStrand steps a.sources s a.open_reads) (sym ww) h.opened)))
        ];
        by_rule = λ k lt. elim (cases_lt k count) [
          | inl less ↦ subst (IsByRule steps) (sym (at_old k less)) (h.by_rule k less)
          | inr ge ↦
              subst (IsByRule steps) (sym (at_new k ge lt).1) record {
                joined = h.opened.joined;
                ended = can.ended;
              }
        ];
        opened = none_strand steps a.sources (a.first + a.count) (omega arith);
        marked = marks_none (number_of_open a) (length (a.strands ++ s ∷ []) + 1) a.marks
            a.open_reads a.open_writes h.marked (omega arith);
      };
      next = omega arith;
      wide = refl;
    }
