-- Procedures that are added one by one.
use Rattle.std.proofs.Common.{◌≡◌, ◌∙◌, ℕ, zero, suc, ◌+◌, ◌<◌, ◌≤◌, List, [], ◌∷◌, ◌++◌, length}
use Rattle.std.proofs.Common.{Some, get_or, refl, ap, sym, subst, arith, inl, inr, length-append}
use Rattle.std.specs.Prelude.{slice_get}
use Rattle.std.proofs.lemmas.Bool.{cases_lt}
use Rattle.std.proofs.lemmas.Option.{slice_get_within}
use Rattle.wit_code.specs.declared.code.Proc.{Proc}
use Rattle.cir_ast.specs.Program.{Program}
use Rattle.cir_meaning.specs.Costs.{Made}
use Rattle.wit_procs.specs.Table.{IsMade, IsMadeAt, AreAdded}
use Rattle.wit_procs.proofs.KeyLists.{front_get}

pub record AddedTo (p : Program) (keys : List Made) (before now : List Proc)
    (at : ℕ) : Type 0 where
  pub count : length now ≡ at
  pub old : (n : ℕ) (code : Proc) → slice_get before n ≡ Some code → slice_get now n ≡ Some code
  pub made : (n : ℕ) (key : Made) → length before ≤ n → n < at → slice_get keys n ≡ Some key
      → IsMadeAt p keys now n key

pub none_added : (p : Program) (keys : List Made) (before : List Proc)
    → AddedTo p keys before before (length before)
none_added p keys before = record {
  count = refl;
  old = λ n code h. h;
  made = λ n key le lt there. absurd (omega (arith, le, lt));
}

pub read_at : {A : Type 0} (xs : List A) (k : ℕ) (x : A) → k < length xs → x ≡ get_or xs k x
    → slice_get xs k ≡ Some x
read_at [] k x less h = absurd (omega (arith, less))
read_at (y ∷ ys) zero x less h = ap Some (sym h)
read_at (y ∷ ys) (suc k) x less h = read_at ys k x (omega (arith, less)) h

behind_get : {A : Type 0} (xs : List A) (x : A) (n : ℕ) → n ≡ length xs
    → slice_get (xs ++ x ∷ []) n ≡ Some x
behind_get [] x zero h = refl
behind_get [] x (suc n) h = absurd (omega (arith, h))
behind_get (y ∷ ys) x zero h = absurd (omega (arith, h))
behind_get (y ∷ ys) x (suc n) h = behind_get ys x n (omega (arith, h))

pub one_added : (p : Program) (keys : List Made) (before now : List Proc) (at : ℕ) (key : Made)
    (code : Proc) → AddedTo p keys before now at → slice_get keys at ≡ Some key
    → IsMade p keys key code → AddedTo p keys before (now ++ code ∷ []) (at + 1)
one_added p keys before now at key code a here made = record {
  count = length-append now (code ∷ []) ∙ omega (arith, a.count);
  old = λ n c h.
      let old : slice_get now n ≡ Some c = a.old n c h in
      front_get now (code ∷ []) n (slice_get_within now n c old) ∙ old;
  made = λ n k le lt there. elim (cases_lt n at) [
    | inl less ↦
        let is : IsMadeAt p keys now n k = a.made n k le less there in
        record {
          code = is.code;
          there = front_get now (code ∷ []) n (slice_get_within now n is.code is.there)
              ∙ is.there;
          made = is.made;
        }
    | inr more ↦
        let same : n ≡ at = omega (arith, lt, more) in
        let key_is : key ≡ k =
        some_is key k (sym here ∙ ap (slice_get keys) (sym same) ∙ there) in
        record {
          code = code;
          there = behind_get now code n (omega (arith, same, a.count));
          made = subst (λ x. IsMade p keys x code) key_is made;
        }
  ];
}
  where
    some_is : (x y : Made) → Some x ≡ Some y → x ≡ y
    some_is x y e = cc

pub all_added : (p : Program) (keys : List Made) (before now : List Proc) (at : ℕ)
    → AddedTo p keys before now at → at ≡ length keys → AreAdded p keys before now
all_added p keys before now at a end = record {
  count = a.count ∙ end;
  old = a.old;
  made = λ n key le there.
      a.made n key le (omega (arith, end, slice_get_within keys n key there)) there;
}
