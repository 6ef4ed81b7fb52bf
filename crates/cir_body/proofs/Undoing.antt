-- Variables are put back one by one.
use Rattle.std.proofs.Common.{◌≡◌, ◌≢◌, ◌⊎◌, inl, inr, ℕ, zero, suc, ◌+◌, ◌<◌, ◌≤◌, ◌==◌, Bool}
use Rattle.std.proofs.Common.{false, List, [], ◌∷◌, ◌++◌, Option, Some, None, length, drop, ap, sym}
use Rattle.std.proofs.Common.{refl, ◌∙◌, arith, get_or, slice_get}
use Rattle.std.specs.Prelude.{◌||◌, slice_set}
use Rattle.std.specs.List.{list_any}
use Rattle.std.proofs.lemmas.Bool.{ne_eqb}
use Rattle.std.proofs.lemmas.List.{at_drop_more, drop_all}
use Rattle.std.proofs.lemmas.Option.{slice_get_within}
use Rattle.cir_meaning.specs.Arrays.{Datum}
use Rattle.cir_meaning.proofs.PartWrites.{get_other, same_or_not, set_count}
use Rattle.cir_meaning.proofs.Writing.{get_set}
use Rattle.cir_arrays.specs.Shown.{datum_of}
use Rattle.cir_make.specs.declared.make.Before.{Before}
use Rattle.cir_make.specs.Steps.{put_before}
use Rattle.cir_body.specs.Undone.{put_back, put_one}

pub put_back_more : (ns : List ℕ) (i : ℕ) (before ds : List Datum) → i < length ns
    → put_back (drop i ns) before ds
    ≡ put_back (drop (i + 1) ns) before
    (put_one (slice_get before (get_or ns i 0)) (get_or ns i 0) ds)
put_back_more ns i before ds less = at_drop_more (λ l. put_back l before ds) ns i 0 less

pub put_back_end : (ns : List ℕ) (i : ℕ) (before ds : List Datum) → length ns ≤ i
    → put_back (drop i ns) before ds ≡ ds
put_back_end ns i before ds h = ap (λ l. put_back l before ds) (drop_all i ns h)

pub put_behind : (bs : List Before) (b : Before) (ds : List Datum)
    → put_before (bs ++ b ∷ []) ds
    ≡ slice_set (put_before bs ds) b.variable (datum_of b.value)
put_behind [] b ds = refl
put_behind (a ∷ bs) b ds = put_behind bs b (slice_set ds a.variable (datum_of a.value))

pub put_back_both : (ns ms : List ℕ) (before ds : List Datum)
    → put_back (ns ++ ms) before ds ≡ put_back ms before (put_back ns before ds)
put_back_both [] ms before ds = refl
put_back_both (n ∷ ns) ms before ds =
    put_back_both ns ms before (put_one (slice_get before n) n ds)

-- ---- variables of which only some are other than before
pub record Differ (ns : List ℕ) (before after : List Datum) : Type 0 where
  pub count : length after ≡ length before
  pub others : (n : ℕ) → list_any (λ m. m == n) ns ≡ false
      → slice_get after n ≡ slice_get before n

same_lists : (xs ys : List Datum) → length xs ≡ length ys
    → ((n : ℕ) → slice_get xs n ≡ slice_get ys n) → xs ≡ ys
same_lists [] [] e h = refl
same_lists [] (y ∷ ys) e h = absurd (cc)
same_lists (x ∷ xs) [] e h = absurd (cc)
same_lists (x ∷ xs) (y ∷ ys) e h =
    let first : Some x ≡ Some y = h zero in
    let same : x ≡ y = cc in
    let count : length xs ≡ length ys = cc in
    ap (λ (z : Datum). z ∷ xs) same
    ∙ ap (λ (l : List Datum). y ∷ l) (same_lists xs ys count (λ n. h (suc n)))

absent : (xs ys : List Datum) (n : ℕ) → length ys ≡ length xs → slice_get xs n ≡ None
    → slice_get ys n ≡ None
absent xs ys n count none = at (slice_get ys n) refl
  where
    at : (o : Option Datum) → slice_get ys n ≡ o → slice_get ys n ≡ None
    at None is = is
    at (Some y) is =
        let less : n < length ys = slice_get_within ys n y is in
        absurd (present xs n none (omega (arith, less, count)))
      where
        present : (zs : List Datum) (k : ℕ) → slice_get zs k ≡ None → k < length zs → ⊥
        present [] k e h = omega (arith, h)
        present (z ∷ zs) zero e h = cc
        present (z ∷ zs) (suc k) e h = present zs k e (omega (arith, h))

others_both : (n m : ℕ) (ms : List ℕ) → n ≢ m → list_any (λ i. i == m) ms ≡ false
    → list_any (λ i. i == m) (n ∷ ms) ≡ false
others_both n m ms ne h =
    ap (λ (b : Bool). b || list_any (λ i. i == m) ms) (ne_eqb n m ne) ∙ h

-- one of them is as before
one_back : (n : ℕ) (ns : List ℕ) (before after : List Datum) → Differ (n ∷ ns) before after
    → Differ ns before (put_one (slice_get before n) n after)
one_back n ns before after h = at (slice_get before n) refl
  where
    at : (o : Option Datum) → slice_get before n ≡ o → Differ ns before (put_one o n after)
    at None is = record {
      count = h.count;
      others = λ m out. missing m out (same_or_not n m);
    }
      where
        missing : (m : ℕ) → list_any (λ i. i == m) ns ≡ false → (n ≡ m) ⊎ (n ≢ m)
            → slice_get after m ≡ slice_get before m
        missing m out (inl same) =
            let none : slice_get before m ≡ None = ap (slice_get before) (sym same) ∙ is in
            absent before after m h.count none ∙ sym none
        missing m out (inr ne) = h.others m (others_both n m ns ne out)
    at (Some d) is = record {
      count = set_count after n d ∙ h.count;
      others = λ m out. put m out (same_or_not n m);
    }
      where
        there : (o : Option Datum) → slice_get after n ≡ o
            → slice_get (slice_set after n d) n ≡ Some d
        there (Some y) e = get_set after n y d e
        there None e =
            let none : slice_get before n ≡ None = absent after before n (sym h.count) e in
            let no : Some d ≡ None = sym is ∙ none in absurd (cc)

        put : (m : ℕ) → list_any (λ i. i == m) ns ≡ false → (n ≡ m) ⊎ (n ≢ m)
            → slice_get (slice_set after n d) m ≡ slice_get before m
        put m out (inl same) =
            ap (slice_get (slice_set after n d)) (sym same) ∙ there (slice_get after n) refl
            ∙ sym is ∙ ap (slice_get before) same
        put m out (inr ne) =
            get_other after n m d ne ∙ h.others m (others_both n m ns ne out)

pub undone : (ns : List ℕ) (before after : List Datum) → Differ ns before after
    → put_back ns before after ≡ before
undone [] before after h = same_lists after before h.count (λ n. h.others n refl)
undone (n ∷ ns) before after h =
    undone ns before (put_one (slice_get before n) n after) (one_back n ns before after h)
