-- Marks and sources, as the open strand reads and writes more cells
use Rattle.std.proofs.Common.{◌≡◌, ◌≢◌, ℕ, ◌+◌, ◌<◌, ◌≤◌, ◌⊎◌, List, [], ◌∷◌, ◌++◌, length, take}
use Rattle.std.proofs.Common.{get_or, set, refl, sym, ◌∙◌, ap, subst, inl, inr, arith, append_assoc}
use Rattle.std.proofs.Common.{length-append}
use Rattle.std.proofs.lemmas.List.{append-nil, get_or_append_left, get_or_default, get_or_push}
use Rattle.std.proofs.lemmas.List.{length_push, length-set, take_more}
use Rattle.std.proofs.lemmas.Bool.{cases_eq, cases_lt}
use Rattle.flow_core.specs.Counts.{times, IsIn}
use Rattle.flow_core.proofs.Lists.{set_all}
use Rattle.flow_core.proofs.Totals.{is_in_at, same_le}
use Rattle.wit_flow.specs.declared.flow.Source.{Source}
use Rattle.wit_flow.specs.declared.flow.Source.TheVariants.{Read, Written}
use Rattle.wit_flow.specs.declared.drafting.Mark.{Mark}
use Rattle.wit_flow.specs.declared.drafting.Draft.{Draft}
use Rattle.wit_flow.specs.Sources.{IsSource, AreSources, source_at}
use Rattle.wit_flow.specs.Draft.{mark_of, IsWritten, Marks, AreMarked, number_of_open, ReadsMore}
use Rattle.wit_flow.specs.Draft.{WritesMore, with_reads}
use Rattle.wit_flow.proofs.Values.{times-append, in_cons, in_either, in_left, in_right}

abbrev pub mark : ℕ → Source → Mark
mark n s = record { strand = n; source = s }

abbrev pub blank : Mark
blank = mark 0 (Read 0)

pub in_one : (c d : ℕ) → IsIn c (d ∷ []) → c ≡ d
in_one c d h = elim (in_cons c d [] h) [ inl e ↦ e | inr out ↦ absurd (omega arith) ]

times_one : (c d : ℕ) → times c (d ∷ []) ≤ 1
times_one c d = let y = same_le c d in omega arith

-- a source stays one as the strand reads and writes more
pub source_stays : (reads more writes others : List ℕ) (n m : ℕ) (s : Source) (c : ℕ)
    → n ≤ length writes → n ≤ m → IsSource reads writes n s c
    → IsSource (reads ++ more) (writes ++ others) m s c
source_stays reads more writes others n m (Read p) c few le h = let l = h.0 in
    let a = length-append reads more in (omega arith, get_or_append_left reads more 0 p l ∙ h.1)
source_stays reads more writes others n m (Written p) c few le h =
    let l = h.0 in (omega arith, get_or_append_left writes others 0 p (omega arith) ∙ h.1)

-- the same as the strand reads more alone, or writes more alone
pub source_reads : (reads more writes : List ℕ) (n : ℕ) (s : Source) (c : ℕ)
    → IsSource reads writes n s c → IsSource (reads ++ more) writes n s c
source_reads reads more writes n (Read p) c h = let l = h.0 in
    let a = length-append reads more in (omega arith, get_or_append_left reads more 0 p l ∙ h.1)
source_reads reads more writes n (Written p) c h = h

pub source_writes : (reads writes others : List ℕ) (n m : ℕ) (s : Source) (c : ℕ)
    → n ≤ length writes → n ≤ m → IsSource reads writes n s c
    → IsSource reads (writes ++ others) m s c
source_writes reads writes others n m (Read p) c few le h = h
source_writes reads writes others n m (Written p) c few le h =
    let l = h.0 in (omega arith, get_or_append_left writes others 0 p (omega arith) ∙ h.1)

pub sources_stay : (reads more writes others : List ℕ) (n : ℕ) (sources : List Source)
    (cells : List ℕ) → AreSources reads writes n sources cells
    → AreSources (reads ++ more) (writes ++ others) n sources cells
sources_stay reads more writes others n sources cells h = record {
  each = h.each;
  few = (let f = h.few in let a = length-append writes others in omega arith);
  found = λ i near. source_stays reads more writes others n n (source_at sources i)
      (get_or cells i 0) h.few (omega arith) (h.found i near);
}

pub source_in : (reads writes : List ℕ) (n : ℕ) (s : Source) (c : ℕ) → n ≤ length writes
    → IsSource reads writes n s c → IsIn c reads ⊎ IsIn c writes
source_in reads writes n (Read p) c few h =
    inl (subst (λ x. IsIn x reads) h.1 (is_in_at reads p h.0))
source_in reads writes n (Written p) c few h =
    let l = h.0 in inr (subst (λ x. IsIn x writes) h.1 (is_in_at writes p (omega arith)))

module _ (n : ℕ) (ms : List Mark) (reads writes : List ℕ) (h : Marks n ms reads writes) (c : ℕ)
    (near : c < length ms) where
  pub marks_read : (mark_of ms c).strand ≢ n
      → Marks n (set ms c (mark n (Read (length reads)))) (reads ++ c ∷ []) writes
  marks_read new = let all = set_all ms c (mark n (Read (length reads))) blank in record {
    found = all (λ j m. m.strand ≡ n → IsSource (reads ++ c ∷ []) writes (length writes) m.source j)
        near
        (λ e. (
          let a = length_push reads c
              in omega arith,
          get_or_push reads c 0 (length reads) refl,
        ))
        (λ j ne e. source_reads reads (c ∷ []) writes (length writes) (mark_of ms j).source j
        (h.found j e));
    read = all (λ j m. IsIn j (reads ++ c ∷ []) → m.strand ≡ n) near (λ _. refl)
        (λ j ne here. elim (in_either j reads (c ∷ []) here) [
          | inl old ↦ h.read j old
          | inr last ↦
              absurd (ne (in_one j c last))
        ]);
    written =
        all (λ j m. IsIn j writes → (m.strand ≡ n) × IsWritten m.source) near
        (λ here. absurd (new (h.written c here).0)) (λ j ne here. h.written j here);
    early = all (λ j m. m.strand ≤ n) near (omega arith) (λ j ne. h.early j);
    once = λ j. (let e = times-append j reads (c ∷ []) in let o = h.once j in elim (cases_eq j c) [
      | inl is ↦ elim (cases_lt 0 (times j reads)) [
        | inl old ↦ absurd (new (ap (λ i. (mark_of ms i).strand) (sym is) ∙ h.read j old))
        | inr none ↦ (let one = times_one j c in omega arith)
      ]
      | inr ne ↦ elim (cases_lt 0 (times j (c ∷ []))) [
        | inl last ↦ absurd (ne (in_one j c last))
        | inr none ↦ omega arith
      ]
    ]);
  }

  pub marks_write : Marks n (set ms c (mark n (Written (length writes)))) reads (writes ++ c ∷ [])
  marks_write = let all = set_all ms c (mark n (Written (length writes))) blank in
      let a = length_push writes c in record {
        found = all (λ j m. m.strand ≡ n
            → IsSource reads (writes ++ c ∷ []) (length (writes ++ c ∷ [])) m.source j) near
            (λ e. (omega arith, get_or_push writes c 0 (length writes) refl))
            (λ j ne e. source_writes reads writes (c ∷ []) (length writes)
            (length (writes ++ c ∷ [])) (mark_of ms j).source j (omega arith) (omega arith)
            (h.found j e));
        read = all (λ j m. IsIn j reads → m.strand ≡ n) near (λ _. refl)
            (λ j ne here. h.read j here);
        written = all (λ j m. IsIn j (writes ++ c ∷ []) → (m.strand ≡ n) × IsWritten m.source) near
            (λ _. (refl, tt))
            (λ j ne here. elim (in_either j writes (c ∷ []) here) [
              | inl old ↦
                  h.written j old
              | inr last ↦ absurd (ne (in_one j c last))
            ]);
        early = all (λ j m. m.strand ≤ n) near (omega arith) (λ j ne. h.early j);
        once = h.once;
      }

-- a cell is written where its mark is the open strand's and its source is among the written ones
pub written_in : (n : ℕ) (ms : List Mark) (reads writes : List ℕ) → Marks n ms reads writes
    → (c : ℕ) → (mark_of ms c).strand ≡ n → IsWritten (mark_of ms c).source → IsIn c writes
written_in n ms reads writes h c e w = here (mark_of ms c).source w (h.found c e)
  where
    here : (s : Source) → IsWritten s → IsSource reads writes (length writes) s c → IsIn c writes
    here (Read p) out f = absurd out
    here (Written p) w f = subst (λ x. IsIn x writes) f.1 (is_in_at writes p f.0)

pub marks_none : (n m : ℕ) (ms : List Mark) (reads writes : List ℕ) → Marks n ms reads writes
    → n < m → Marks m ms [] []
marks_none n m ms reads writes h less = record {
  found = λ c e. (let l = h.early c in absurd (omega arith));
  read = λ c here. absurd (omega arith);
  written = λ c here. absurd (omega arith);
  early = λ c. (let l = h.early c in omega arith);
  once = λ c. omega arith;
}

pub reads_none : (d : Draft) → AreMarked d → (cells : List ℕ) → ReadsMore d d cells
reads_none d h cells =
    record {
      same = refl;
      wide = refl;
      more = [];
      grown = sym (append-nil d.open_reads);
      listed =
          λ c here. absurd (omega arith);
      fresh = λ c here. absurd (omega arith);
      marked = h;
    }

pub reads_more : (a b d : Draft) (xs ys : List ℕ) → ReadsMore a b xs → ReadsMore b d ys
    → ReadsMore a d (xs ++ ys)
reads_more a b d xs ys f g = record {
  same = g.same ∙ ap (λ x. with_reads x d) f.same;
  wide = g.wide ∙ f.wide;
  more = f.more ++ g.more;
  grown = g.grown ∙ ap (λ x. x ++ g.more) f.grown ∙ append_assoc a.open_reads f.more g.more;
  listed = λ c here. elim (in_either c f.more g.more here) [
    | inl old ↦
        in_left c xs ys (f.listed c old)
    | inr new ↦ in_right c xs ys (g.listed c new)
  ];
  fresh = λ c here. elim (in_either c f.more g.more here) [
    | inl old ↦ f.fresh c old
    | inr new ↦
        (let same : b.open_writes ≡ a.open_writes = ap (λ (x : Draft). x.open_writes) f.same in
        λ own. g.fresh c new (subst (IsIn c) (sym same) own))
  ];
  marked = g.marked;
}

pub sources_none : (reads writes : List ℕ) → AreSources reads writes (length writes) [] []
sources_none reads writes =
    record { each = refl; few = omega arith; found = λ i near. absurd (omega arith) }

pub sources_push : (reads writes : List ℕ) (n : ℕ) (sources : List Source) (cells : List ℕ)
    (s : Source) (c : ℕ) → AreSources reads writes n sources cells → IsSource reads writes n s c
    → AreSources reads writes n (sources ++ s ∷ []) (cells ++ c ∷ [])
sources_push reads writes n sources cells s c h is =
    let a = length_push sources s in let b = length_push cells c in let e = h.each in record {
      each = omega arith;
      few = h.few;
      found = λ i near. elim (cases_lt i (length cells)) [
        | inl less ↦ (let p = get_or_append_left sources (s ∷ []) (Read 0) i (omega arith) in
            let q = get_or_append_left cells (c ∷ []) 0 i less in
            subst (λ x. IsSource reads writes n x (get_or (cells ++ c ∷ []) i 0)) (sym p)
            (subst (IsSource reads writes n (source_at sources i)) (sym q) (h.found i less)))
        | inr ge ↦ (let p = get_or_push sources s (Read 0) i (omega arith) in
            let q = get_or_push cells c 0 i (omega arith) in
            subst (λ x. IsSource reads writes n x (get_or (cells ++ c ∷ []) i 0)) (sym p)
            (subst (IsSource reads writes n s) (sym q) is))
      ];
    }

-- one more read of a step
pub finds_more : (a b d : Draft) (cells : List ℕ) (i : ℕ) (sources : List Source) (s : Source)
    → i < length cells → ReadsMore a b (take i cells)
    → AreSources b.open_reads b.open_writes (length b.open_writes) sources (take i cells)
    → ReadsMore b d (get_or cells i 0 ∷ [])
    → IsSource d.open_reads d.open_writes (length d.open_writes) s (get_or cells i 0)
    → ReadsMore a d (take (i + 1) cells)
    × AreSources d.open_reads d.open_writes (length d.open_writes) (sources ++ s ∷ [])
    (take (i + 1) cells)
finds_more a b d cells i sources s near f old g is =
    let more = take_more cells i 0 near in let c : ℕ = get_or cells i 0 in
    let w : d.open_writes ≡ b.open_writes = ap (λ (x : Draft). x.open_writes) g.same in
    let P : List ℕ → Type 0 = λ ws. AreSources d.open_reads ws (length ws) sources (take i cells) in
    let Q : List ℕ → Type 0 =
    λ rs. AreSources rs b.open_writes (length b.open_writes) sources (take i cells) in
    let nils : b.open_writes ++ [] ≡ b.open_writes = append-nil b.open_writes in
    let stay = sources_stay b.open_reads g.more b.open_writes [] (length b.open_writes) sources
    (take i cells) old in
    let stay' =
    subst (λ ws. AreSources (b.open_reads ++ g.more) ws (length b.open_writes) sources
    (take i cells)) nils stay in
    let kept : AreSources d.open_reads d.open_writes (length d.open_writes) sources (take i cells) =
    subst P (sym w) (subst Q (sym g.grown) stay') in (
      subst (ReadsMore a d) (sym more) (reads_more a b d (take i cells) (c ∷ []) f g),
      subst (AreSources d.open_reads d.open_writes (length d.open_writes) (sources ++ s ∷ []))
          (sym more)
          (sources_push d.open_reads d.open_writes (length d.open_writes) sources
          (take i cells) s c kept is),
    )

module _ (d : Draft) (c n p : ℕ) (near : c < length d.marks) (is-n : n ≡ number_of_open d)
    (h : AreMarked d) (ms : List Mark) (cs : List ℕ) where
  -- the open strand begins to read a cell
  pub read_step : (x : Mark) → ((get_or d.marks c x).strand ≡ n → ⊥) → p ≡ length d.open_reads
      → cs ≡ d.open_reads ++ c ∷ [] → ms ≡ set d.marks c (mark n (Read p))
      → ReadsMore d (record d { open_reads = cs; marks = ms }) (c ∷ [])
  read_step x out is-p grown set-is =
      let new : (mark_of d.marks c).strand ≢ number_of_open d =
      λ e. out (ap (λ (m : Mark). m.strand) (get_or_default d.marks c x blank near) ∙ e
      ∙ sym is-n) in
      let one : ms ≡ set d.marks c (mark (number_of_open d) (Read (length d.open_reads))) =
      set-is ∙ (λ i. set d.marks c (mark (is-n i) (Read (is-p i)))) in
      record {
        same = refl;
        wide = ap length set-is ∙ length-set d.marks c (mark n (Read p));
        more = c ∷ [];
        grown = grown;
        listed = λ e here. here;
        fresh = λ e here own. new
            (subst (λ y. (mark_of d.marks y).strand ≡ number_of_open d) (in_one e c here)
            (h.written e own).0);
        marked = subst (λ x. Marks (number_of_open d) x cs d.open_writes) (sym one)
            (subst (λ x. Marks (number_of_open d)
            (set d.marks c (mark (number_of_open d) (Read (length d.open_reads)))) x
            d.open_writes) (sym grown)
            (marks_read (number_of_open d) d.marks d.open_reads d.open_writes h c near new));
      }

  write_marked : p ≡ length d.open_writes → cs ≡ d.open_writes ++ c ∷ []
      → ms ≡ set d.marks c (mark n (Written p)) → Marks (number_of_open d) ms d.open_reads cs
  write_marked is-p grown set-is =
      let one : ms ≡ set d.marks c (mark (number_of_open d) (Written (length d.open_writes))) =
      set-is ∙ (λ i. set d.marks c (mark (is-n i) (Written (is-p i)))) in
      subst (λ x. Marks (number_of_open d) x d.open_reads cs) (sym one)
      (subst (λ x. Marks (number_of_open d)
      (set d.marks c (mark (number_of_open d) (Written (length d.open_writes)))) d.open_reads x)
      (sym grown)
      (marks_write (number_of_open d) d.marks d.open_reads d.open_writes h c near))

-- the open strand writes one cell more of a list
pub write_step : (a d : Draft) (cells : List ℕ) (i n p : ℕ) (ms : List Mark) (cs : List ℕ)
    → i < length cells → get_or cells i 0 < length d.marks → n ≡ number_of_open a
    → WritesMore a d (take i cells) → p ≡ length d.open_writes
    → cs ≡ d.open_writes ++ get_or cells i 0 ∷ []
    → ms ≡ set d.marks (get_or cells i 0) (mark n (Written p))
    → WritesMore a (record d { open_writes = cs; marks = ms }) (take (i + 1) cells)
write_step a d cells i n p ms cs less near is-n f is-p grown set-is =
    let c : ℕ = get_or cells i 0 in
    let strands : number_of_open a ≡ number_of_open d =
    ap (λ (x : Draft). length x.strands + 1) (sym f.same) in
    record {
      same = ap (λ (x : Draft). record x { open_writes = cs; marks = ms }) f.same;
      wide = ap length set-is ∙ length-set d.marks c (mark n (Written p)) ∙ f.wide;
      grown = grown ∙ ap (λ x. x ++ c ∷ []) f.grown
          ∙ append_assoc a.open_writes (take i cells) (c ∷ [])
          ∙ ap (λ x. a.open_writes ++ x) (sym (take_more cells i 0 less));
      marked = write_marked d c n p near (is-n ∙ strands) f.marked ms cs is-p grown set-is;
    }

pub writes_none : (d : Draft) → AreMarked d → WritesMore d d []
writes_none d h =
    record { same = refl; wide = refl; grown = sym (append-nil d.open_writes); marked = h }

module _ (n : ℕ) (ms : List Mark) (reads writes : List ℕ) (h : Marks n ms reads writes)
    (cells : List ℕ) (i m : ℕ) (less : i < length cells) (near : get_or cells i 0 < length ms)
    (is-m : m ≡ n) (x : Mark) where
  -- a cell of the list has the open strand's mark, among what it writes
  pub names_hit : (get_or ms (get_or cells i 0) x).strand ≡ m
      → IsWritten (get_or ms (get_or cells i 0) x).source → (c : ℕ) × IsIn c cells × IsIn c writes
  names_hit e w =
      let c : ℕ = get_or cells i 0 in
      let same : get_or ms c x ≡ mark_of ms c = get_or_default ms c x blank near in (
        c,
        is_in_at cells i less,
        written_in n ms reads writes h c (ap (λ (q : Mark). q.strand) (sym same) ∙ e ∙ is-m)
            (subst (λ (q : Mark). IsWritten q.source) same w),
      )

  -- or it hasn't, and nor has any before it
  pub names_miss : ((get_or ms (get_or cells i 0) x).strand ≡ m
      → IsWritten (get_or ms (get_or cells i 0) x).source → ⊥)
      → ((c : ℕ) → IsIn c (take i cells) → IsIn c writes → ⊥) → (c : ℕ)
      → IsIn c (take (i + 1) cells) → IsIn c writes → ⊥
  names_miss out before c here own =
      let d : ℕ = get_or cells i 0 in
      let same : get_or ms d x ≡ mark_of ms d = get_or_default ms d x blank near in
      elim (in_either c (take i cells) (d ∷ []) (subst (IsIn c) (take_more cells i 0 less) here)) [
        | inl old ↦ before c old own
        | inr last ↦ (let e : c ≡ d = in_one c d last in
            let w = h.written d (subst (λ y. IsIn y writes) e own) in
            out (ap (λ (q : Mark). q.strand) same ∙ w.0 ∙ sym is-m)
            (subst (λ (q : Mark). IsWritten q.source) (sym same) w.1))
      ]
