-- Marking the cells of a list one after another
use Rattle.std.proofs.Common.{◌≡◌, ℕ, zero, suc, ◌+◌, ◌-◌, ◌<◌, ◌≤◌, List, [], ◌∷◌, length, take}
use Rattle.std.proofs.Common.{get_or, set, refl, sym, ◌∙◌, ap, subst, inl, inr, arith}
use Rattle.std.proofs.Common.{get_or-set_other, get_or-set_same}
use Rattle.std.proofs.lemmas.Bool.{cases_eq, cases_lt}
use Rattle.std.proofs.lemmas.List.{take_all, get_or_past}
use Rattle.flow_core.specs.Counts.{times, IsIn}
use Rattle.flow_core.specs.Drawn.{row, NamesOnce, OneWriter, CanMark, IsMarked, IsClaimed}
use Rattle.flow_core.proofs.Nets.{in_range}
use Rattle.flow_core.proofs.Totals.{same_yes, same_no, same_le, times_more, times_take-le, is_in_at}

pub marked_none : (ms cells : List ℕ) (tag bound : ℕ) → IsMarked ms ms (take 0 cells) tag bound
marked_none ms cells tag bound = record {
  could = record {
    near = λ c h. absurd (omega arith);
    once = λ c. omega arith;
    free =
        λ c h. absurd (omega arith);
  };
  marked = λ c h. absurd (omega arith);
  others = λ c _. refl;
}

module _ (old ms cells : List ℕ) (tag bound i : ℕ) (le : bound ≤ tag)
    (h : IsMarked old ms (take i cells) tag bound) (in-list : i < length cells)
    (long : length ms ≡ length old) where
  -- a cell that has a mark below the bound is new
  fresh : get_or ms (get_or cells i 0) 0 < bound → times (get_or cells i 0) (take i cells) ≡ 0
  fresh free = let x : ℕ = get_or cells i 0 in elim (cases_lt 0 (times x (take i cells))) [
    | inl here ↦ (let m = h.marked x here in absurd (omega arith))
    | inr ge ↦ omega arith
  ]

  pub marked_more : get_or cells i 0 < length ms → get_or ms (get_or cells i 0) 0 < bound
      → IsMarked old (set ms (get_or cells i 0) tag) (take (i + 1) cells) tag bound
  marked_more near free = let x : ℕ = get_or cells i 0 in let new = fresh free in
      let was = h.others x new in record {
        could = record {
          near = λ c here. let m = times_more c i cells in-list in
              elim (cases_eq c x) [
                | inl e ↦ omega arith
                | inr ne ↦ (let z = same_no c x ne in
                    h.could.near c (omega arith))
              ];
          once = λ c. let m = times_more c i cells in-list in let o = h.could.once c in
              elim (cases_eq c x) [
                | inl e ↦ (let y = same_le c x in
                    let z : times c (take i cells) ≡ 0 =
                    ap (λ (d : ℕ). times d (take i cells)) e ∙ new in
                    omega arith)
                | inr ne ↦ (let z = same_no c x ne in omega arith)
              ];
          free = λ c here. let m = times_more c i cells in-list in elim (cases_eq c x) [
            | inl e ↦ (let z : get_or old c 0 ≡ get_or old x 0 = ap (λ (d : ℕ). get_or old d 0) e in
                omega arith)
            | inr ne ↦ (let z = same_no c x ne in h.could.free c (omega arith))
          ];
        };
        marked = λ c here. let m = times_more c i cells in-list in elim (cases_eq c x) [
          | inl e ↦ ap (λ (d : ℕ). get_or (set ms x tag) d 0) e ∙ get_or-set_same ms x tag 0 near
          | inr ne ↦ (let z = same_no c x ne in
              get_or-set_other ms x c tag 0 ne ∙ h.marked c (omega arith))
        ];
        others = λ c none-here. let m = times_more c i cells in-list in elim (cases_eq c x) [
          | inl e ↦ (let y = same_yes c x e in absurd (omega arith))
          | inr ne ↦ get_or-set_other ms x c tag 0 ne ∙ h.others c (omega arith)
        ];
      }

  pub far_no : length ms ≤ get_or cells i 0 → CanMark old cells bound → ⊥
  far_no far can = let near = can.near (get_or cells i 0) (is_in_at cells i in-list) in omega arith

  pub taken_no : bound ≤ get_or ms (get_or cells i 0) 0 → CanMark old cells bound → ⊥
  taken_no taken can = let x : ℕ = get_or cells i 0 in elim (cases_lt 0 (times x (take i cells))) [
    | inl here ↦ (let m = times_more x i cells in-list in let y = same_yes x x refl in
        let le' = times_take-le x (i + 1) cells in let o = can.once x in omega arith)
    | inr ge ↦ (let was = h.others x (omega arith) in
        let free = can.free x (is_in_at cells i in-list) in omega arith)
  ]

pub marked_all : (old new cells : List ℕ) (tag bound n : ℕ) → length cells ≤ n
    → IsMarked old new (take n cells) tag bound → IsMarked old new cells tag bound
marked_all old new cells tag bound n le h = let e : take n cells ≡ cells = take_all n cells le in
    let P : List ℕ → Type 0 = λ cs. IsMarked old new cs tag bound in subst P e h

-- the strands below n have claimed the cells that they write
pub record Claims (marks : List ℕ) (writes : List (List ℕ)) (n : ℕ) : Type 0 where
  pub says : (c k : ℕ) → get_or marks c 0 ≡ k + 1 → (k < n) × IsIn c (row writes k)
  pub marked : (c k : ℕ) → k < n → IsIn c (row writes k) → get_or marks c 0 ≡ k + 1
  pub near : (k c : ℕ) → k < n → IsIn c (row writes k) → c < length marks
  pub once : (k c : ℕ) → k < n → times c (row writes k) ≤ 1

pub claims_none : (marks : List ℕ) (writes : List (List ℕ)) → ((c : ℕ) → get_or marks c 0 ≡ 0)
    → Claims marks writes 0
claims_none marks writes blank = record {
  says = λ c k e. let b = blank c in absurd (omega arith);
  marked = λ c k less here. absurd (omega arith);
  near = λ k c less here. absurd (omega arith);
  once = λ k c less. absurd (omega arith);
}

module _ (marks new : List ℕ) (writes : List (List ℕ)) (n : ℕ) (h : Claims marks writes n) where
  pub claims_more : length new ≡ length marks → IsMarked marks new (row writes n) (n + 1) 1
      → Claims new writes (n + 1)
  claims_more long m = record {
    says = λ c k e. elim (cases_lt 0 (times c (row writes n))) [
      | inl here ↦ (let t = m.marked c here in let k-is : k ≡ n = omega arith in
          let Q : ℕ → Type 0 = λ j. IsIn c (row writes j) in
          ((omega arith), subst Q (sym k-is) here))
      | inr ge ↦ (let o = m.others c (omega arith) in let s = h.says c k (omega arith) in
          ((let l = s.0 in omega arith), s.1))
    ];
    marked = λ c k less here. elim (cases_eq k n) [
      | inl e ↦ (let Q : ℕ → Type 0 = λ j. IsIn c (row writes j) in
          let t = m.marked c (subst Q e here) in omega arith)
      | inr ne ↦ (let was = h.marked c k (omega arith) here in
          elim (cases_lt 0 (times c (row writes n))) [
            | inl there ↦ (let free = m.could.free c there in absurd (omega arith))
            | inr ge ↦ (let o = m.others c (omega arith) in omega arith)
          ])
    ];
    near = λ k c less here. elim (cases_eq k n) [
      | inl e ↦ (let Q : ℕ → Type 0 = λ j. IsIn c (row writes j) in
          let l = m.could.near c (subst Q e here) in omega arith)
      | inr ne ↦ (let l = h.near k c (omega arith) here in omega arith)
    ];
    once = λ k c less. elim (cases_eq k n) [
      | inl e ↦ (let o = m.could.once c in
          let z : times c (row writes k) ≡ times c (row writes n) =
          ap (λ (j : ℕ). times c (row writes j)) e in omega arith)
      | inr ne ↦ h.once k c (omega arith)
    ];
  }

  -- where the next strand can't claim its cells, no graph has these writes
  pub claims_no : (CanMark marks (row writes n) 1 → ⊥) → NamesOnce (length marks) writes
      → OneWriter writes → ⊥
  claims_no refused names one = refused record {
    near = λ c here. names.near n c here;
    once = λ c. names.once n c;
    free = λ c here. elim (cases_lt (get_or marks c 0) 1) [
      | inl less ↦ less
      | inr ge ↦ (let s = h.says c (get_or marks c 0 - 1) (omega arith) in
          let e = one (get_or marks c 0 - 1) n c s.1 here in let l = s.0 in absurd (omega arith))
    ];
  }

  pub claims_all : length writes ≤ n → IsClaimed marks writes
  claims_all le = record {
    names_once = record {
      near = λ k c here. h.near k c (let l = in_range writes k c here in omega arith) here;
      once = λ k c. elim (cases_lt k n) [
        | inl less ↦ h.once k c less
        | inr ge ↦ (let e : times c (row writes k) ≡ 0 =
            ap (times c) (get_or_past writes k [] (omega arith)) in omega arith)
      ];
    };
    one_writer = λ p q c here there. let a = h.marked c p (let l = in_range writes p c here in
        omega arith) here in let b = h.marked c q (let l = in_range writes q c there in
        omega arith) there in omega arith;
    marks_writers = record {
      says = λ c k e. (h.says c k e).1;
      marked =
          λ c k here. h.marked c k (let l = in_range writes k c here in omega arith) here;
    };
  }

pub row_read : (lists : List (List ℕ)) (i : ℕ) (x : List ℕ) → i < length lists
    → x ≡ get_or lists i x → x ≡ row lists i
row_read [] i x near is = absurd (omega arith)
row_read (y ∷ ys) zero x near is = is
row_read (y ∷ ys) (suc i) x near is = row_read ys i x (omega arith) is

pub claims_kept : (old marks : List ℕ) (writes : List (List ℕ)) → length marks ≡ length old
    → (NamesOnce (length marks) writes → OneWriter writes → ⊥) → NamesOnce (length old) writes
    → OneWriter writes → ⊥
claims_kept old marks writes e h names = let P : ℕ → Type 0 = λ n. NamesOnce n writes in
    h (subst P (sym e) names)

pub names_no : (marks : List ℕ) (lists : List (List ℕ)) (n cells : ℕ) → length marks ≡ cells
    → ((c : ℕ) → get_or marks c 0 ≤ n) → (CanMark marks (row lists n) (n + 1) → ⊥)
    → NamesOnce cells lists → ⊥
names_no marks lists n cells long low refused names = refused record {
  near = λ c here. let l = names.near n c here in omega arith;
  once = λ c. names.once n c;
  free = λ c here. let l = low c in omega arith;
}

pub row_default : (lists : List (List ℕ)) (i : ℕ) (x : List ℕ) → i < length lists
    → get_or lists i x ≡ row lists i
row_default [] i x near = absurd (omega arith)
row_default (y ∷ ys) zero x near = refl
row_default (y ∷ ys) (suc i) x near = row_default ys i x (omega arith)
