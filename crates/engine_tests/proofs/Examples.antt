-- The answers of the tests' graphs have the shape of a flow's
use Rattle.std.proofs.Common.{◌≡◌, ◌≢◌, ℕ, zero, suc, ◌<◌, ◌≤◌, ◌⊎◌, List, [], ◌∷◌, length, get_or}
use Rattle.std.proofs.Common.{refl, sym, ◌∙◌, ap, subst, inl, inr, arith, Option, Some, None}
use Rattle.std.proofs.Common.{unwrap_or}
use Rattle.flow_core.specs.Counts.{IsIn}
use Rattle.flow_core.specs.Net.{Net, writes_of}
use Rattle.flow_core.specs.Flow.{IsFlow, Answer, Unreached, Refuses, Gives}
use Rattle.flow_core.proofs.Totals.{same_some, same_yes}
use Rattle.std.specs.Prelude.{slice_get}
use Rattle.engine_tests.specs.Examples.{chain, pair}
use Rattle.flow_board.specs.Seats.{ListsStarts}

given : Answer → List ℕ
given Unreached = []
given Refuses = []
given (Gives xs) = xs

some_same : (x y : ℕ) → Some x ≡ Some y → x ≡ y
some_same x y e = ap (λ (o : Option ℕ). unwrap_or o x) e

one_le : (v i : ℕ) → get_or (v ∷ []) i 0 ≤ v
one_le v zero = omega arith
one_le v (suc i) = omega arith

-- the lists of two strands of one entry each
two_rows : (a b k c : ℕ) → IsIn c (get_or ((a ∷ []) ∷ (b ∷ []) ∷ []) k []) → ((k ≡ 0) × (c ≡ a))
    ⊎ ((k ≡ 1) × (c ≡ b))
two_rows a b zero c h = inl (refl, same_some c a (omega arith))
two_rows a b (suc zero) c h = inr (refl, same_some c b (omega arith))
two_rows a b (suc (suc k)) c h = absurd (omega arith)

row_one : (a b k : ℕ) → k < 2 → length (get_or ((a ∷ []) ∷ (b ∷ []) ∷ []) k []) ≡ 1
row_one a b zero h = refl
row_one a b (suc zero) h = refl
row_one a b (suc (suc k)) h = absurd (omega arith)

chain_values : (k : ℕ) (xs : List ℕ) → get_or (Gives (33 ∷ []) ∷ Gives (34 ∷ []) ∷ []) k Unreached
    ≡ Gives xs → (k < 2) × ((v : ℕ) × (v < 35) × (xs ≡ v ∷ []))
unfolding given
chain_values zero xs e = ((omega arith), (33, (omega arith), sym (ap given e)))
chain_values (suc zero) xs e = ((omega arith), (34, (omega arith), sym (ap given e)))
chain_values (suc (suc k)) xs e = cc

chain_start : (c x : ℕ) → get_or (Some 3 ∷ None ∷ None ∷ []) c None ≡ Some x → (c ≡ 0) × (x ≡ 3)
chain_start zero x e = (refl, sym (some_same 3 x e))
chain_start (suc zero) x e = cc
chain_start (suc (suc zero)) x e = cc
chain_start (suc (suc (suc c))) x e = cc

chain_empty : (c : ℕ) → c < 3 → get_or {A = Option ℕ} (Some 3 ∷ None ∷ None ∷ []) c None ≡ None
    → (k : ℕ) × IsIn c (get_or {A = List ℕ} ((1 ∷ []) ∷ (2 ∷ []) ∷ []) k [])
chain_empty zero h e = cc
chain_empty (suc zero) h e = (0, let y = same_yes 1 1 refl in omega arith)
chain_empty (suc (suc zero)) h e = (1, let y = same_yes 2 2 refl in omega arith)
chain_empty (suc (suc (suc c))) h e = absurd (omega arith)

chain_reached : (k : ℕ) → k < 2
    → get_or (Gives (33 ∷ []) ∷ Gives (34 ∷ []) ∷ []) k Unreached ≢ Unreached
chain_reached zero h = λ e. cc
chain_reached (suc zero) h = λ e. cc
chain_reached (suc (suc k)) h = λ e. absurd (omega arith)

chain_free : (c : ℕ) → (c ≡ 1) ⊎ (c ≡ 2) → get_or {A = Option ℕ} (Some 3 ∷ None ∷ None ∷ []) c None
    ≡ None
chain_free zero h = absurd (elim h [ inl e ↦ omega arith | inr e ↦ omega arith ])
chain_free (suc zero) h = refl
chain_free (suc (suc zero)) h = refl
chain_free (suc (suc (suc c))) h = refl

pub chain_is_flow : (n : Net) → n.strands ≡ 2 → n.cells ≡ 3 → n.reads ≡ (0 ∷ []) ∷ (1 ∷ []) ∷ []
    → n.writes ≡ (1 ∷ []) ∷ (2 ∷ []) ∷ [] → IsFlow (chain n)
chain_is_flow n two three reads writes = let in-writes =
    λ (k c : ℕ) (h : IsIn c (writes_of n k)). two_rows 1 2 k c (let P : List (List ℕ)
    → Type 0 = λ ws. IsIn c (get_or ws k []) in subst P writes h) in record {
      answer_each = sym two;
      start_each = sym three;
      written_or_start = λ c lt e. let r = chain_empty c (omega arith) e in let P : List (List ℕ)
          → Type 0 = λ ws. IsIn c (get_or ws r.0 []) in (r.0, subst P (sym writes) r.1);
      written_no_start = λ k c h. chain_free c
          (elim (in-writes k c h) [ inl e ↦ inl e.1 | inr e ↦ inr e.1 ]);
      values_each = λ k xs e. let v = chain_values k xs e in let P : List (List ℕ)
          → Type 0 = λ ws. length (get_or ws k []) ≡ 1 in
          ap length v.1.2 ∙ sym (subst P (sym writes) (row_one 1 2 k v.0));
      unreached = λ k lt. (
        (λ e. absurd (chain_reached k (omega arith) e)),
        λ lacks.
            let P : List (List ℕ) → Type 0 = λ rs. IsIn lacks.0 (get_or rs k []) in
            elim (two_rows 0 1 k lacks.0 (subst P reads lacks.1)) [
              | inl e ↦ absurd (lacks.2 3 (inl
                  (ap (λ (c : ℕ). get_or {A = Option ℕ} (Some 3 ∷ None ∷ None ∷ []) c None) e.1)))
              | inr e ↦ absurd (lacks.2 33 (inr (
                0,
                record {
                  values = 33 ∷ [];
                  place = 0;
                  gives = refl;
                  near = (let Q : List (List ℕ) → Type 0 = λ ws. 0 < length (get_or ws 0 []) in
                      subst Q (sym writes) (omega arith));
                  cell = (let Q : List (List ℕ) → Type 0 = λ ws. get_or (get_or ws 0 []) 0 0 ≡ 1 in
                      subst Q (sym writes) refl) ∙ sym e.1;
                  value = refl;
                },
              )))
            ],
      );
    }

first_pair : (a b c x : ℕ) → ◌≡◌ {A = Option (ℕ × ℕ)} (Some (a, b)) (Some (c, x))
    → (a ≡ c) × (b ≡ x)
first_pair a b c x e = let same-pair : ◌≡◌ {A = ℕ × ℕ} (a, b) (c, x) =
    ap (λ (o : Option (ℕ × ℕ)). unwrap_or o (a, b)) e in
    (ap (λ (p : ℕ × ℕ). p.0) same-pair, ap (λ (p : ℕ × ℕ). p.1) same-pair)

chain_listed : (three : ℕ) → three ≡ 3 → (i c x : ℕ) → slice_get {X = ℕ × ℕ} ((0, three) ∷ []) i
    ≡ Some (c, x) → get_or (Some 3 ∷ None ∷ None ∷ []) c None ≡ Some x
chain_listed three e zero c x at = let r = first_pair 0 three c x at in
    ap (λ (d : ℕ). get_or {A = Option ℕ} (Some 3 ∷ None ∷ None ∷ []) d None) (sym r.0)
    ∙ ap Some (sym e ∙ r.1)
chain_listed three e (suc i) c x at = cc

pub chain_starts : (n : Net) (three : ℕ) → three ≡ 3 → ListsStarts (chain n) ((0, three) ∷ [])
chain_starts n three e = record {
  true_each = chain_listed three e;
  all = λ c x s. let r =
      chain_start c x s in (0, λ z. Some (sym r.0 z, (e ∙ sym r.1) z));
}

pair_values : (k : ℕ) (xs : List ℕ) → get_or (Refuses ∷ Gives (7 ∷ []) ∷ []) k Unreached ≡ Gives xs
    → (k < 2) × ((v : ℕ) × (v < 35) × (xs ≡ v ∷ []))
unfolding given
pair_values zero xs e = cc
pair_values (suc zero) xs e = ((omega arith), (7, (omega arith), sym (ap given e)))
pair_values (suc (suc k)) xs e = cc

pair_start : (c x : ℕ) → get_or {A = Option ℕ} (None ∷ None ∷ []) c None ≢ Some x
pair_start zero x = λ e. cc
pair_start (suc zero) x = λ e. cc
pair_start (suc (suc c)) x = λ e. cc

pair_none : (c : ℕ) → get_or {A = Option ℕ} (None ∷ None ∷ []) c None ≡ None
pair_none zero = refl
pair_none (suc zero) = refl
pair_none (suc (suc c)) = refl

pair_written : (c : ℕ) → c < 2
    → (k : ℕ) × IsIn c (get_or {A = List ℕ} ((0 ∷ []) ∷ (1 ∷ []) ∷ []) k [])
pair_written zero h = (0, let y = same_yes 0 0 refl in omega arith)
pair_written (suc zero) h = (1, let y = same_yes 1 1 refl in omega arith)
pair_written (suc (suc c)) h = absurd (omega arith)

pair_reached : (k : ℕ) → k < 2 → get_or (Refuses ∷ Gives (7 ∷ []) ∷ []) k Unreached ≢ Unreached
pair_reached zero h = λ e. cc
pair_reached (suc zero) h = λ e. cc
pair_reached (suc (suc k)) h = λ e. absurd (omega arith)

pair_reads : (k c : ℕ) → ¬ IsIn c (get_or {A = List ℕ} ([] ∷ [] ∷ []) k [])
pair_reads zero c = λ h. omega arith
pair_reads (suc zero) c = λ h. omega arith
pair_reads (suc (suc k)) c = λ h. omega arith

pub pair_is_flow : (n : Net) → n.strands ≡ 2 → n.cells ≡ 2 → n.reads ≡ [] ∷ [] ∷ []
    → n.writes ≡ (0 ∷ []) ∷ (1 ∷ []) ∷ [] → IsFlow (pair n)
pair_is_flow n two cells reads writes = record {
  answer_each = sym two;
  start_each = sym cells;
  written_or_start = λ c lt e. let r = pair_written c (omega arith) in let P : List (List ℕ)
      → Type 0 = λ ws. IsIn c (get_or ws r.0 []) in (r.0, subst P (sym writes) r.1);
  written_no_start = λ k c h. pair_none c;
  values_each = λ k xs e. let v = pair_values k xs e in let P : List (List ℕ)
      → Type 0 = λ ws. length (get_or ws k []) ≡ 1 in
      ap length v.1.2 ∙ sym (subst P (sym writes) (row_one 0 1 k v.0));
  unreached = λ k lt. (
    (λ e. absurd (pair_reached k (omega arith) e)),
    λ lacks. let P : List (List ℕ) → Type 0 = λ rs. IsIn lacks.0 (get_or rs k []) in
        absurd (pair_reads k lacks.0 (subst P reads lacks.1)),
  );
}

pub pair_starts : (n : Net) → ListsStarts (pair n) []
pair_starts n = record { true_each = λ i c x at. cc; all = λ c x s. absurd (pair_start c x s) }
