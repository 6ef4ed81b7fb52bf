use Rattle.std.proofs.Common.{◌≡◌, ◌∙◌, ◌++◌, [], ◌∷◌, ◌+◌, ◌<◌, List, ℕ, length, get_or, drop, ap}
use Rattle.std.proofs.Common.{true, false, sym, refl, append-nil, arith}
use Rattle.std.specs.Prelude.{Bool, not, ◌||◌, ◌&&◌, map, filter, cond, nat_le}
use Rattle.std.proofs.lemmas.Bool.Decides.{nat_tests}
use Rattle.std.specs.List.{list_any, list_all}
use Rattle.cir_ast.specs.declared.program.Meant.{Meant}
use Rattle.cir_ast.specs.Tree.{Expr, bare}
use Rattle.cir_meaning.specs.Evaluate.{is_literal}
use Rattle.cir_meaning.specs.Limits.{standing}
use Rattle.cir_meaning.specs.Reached.{RankedCall, same_call, rank_of, is_followed}
use Rattle.cir_meaning.specs.Texts.{Called}
use Rattle.cir_rules.specs.Queue.{with_new}
use Rattle.cir_texts.specs.declared.texts.Called.{Called as CodeCalled}
use Rattle.cir_texts.specs.Shown.{called_of}
use Rattle.cir_rules.specs.Ranked.{ranked_of, ranks_in, followed}
use Rattle.cir_rules.proofs.Reaching.{walked}
use Rattle.cir_rules.proofs.ranks.add_ranked.Goals as goal
use Rattle.cir_rules.proofs.ranks.add_ranked.Goals.{else-is_followed}
use Rattle.cir_rules.proofs.ranks.add_ranked.Goals.{then-is_followed+in_ok-add_new}

small_stands : (n : ℕ) → nat_le (standing n) 300 ≡ nat_le n 300
small_stands n = grind (arith, nat_tests)

all_small : (rank : Expr Meant → ℕ) (es : List (Expr Meant))
    → list_all (λ r. nat_le r 300) (map (λ e. standing (rank e)) es)
    ≡ list_all (λ e. nat_le (rank e) 300) es
all_small rank [] = refl
all_small rank (e ∷ es) =
    ap (λ b. b && list_all (λ r. nat_le r 300) (map (λ e. standing (rank e)) es))
    (small_stands (rank e))
    ∙ ap (λ b. nat_le (rank e) 300 && b) (all_small rank es)

both : (a b : Bool) → a && b ≡ true → (a ≡ true) × (b ≡ true)
both true true h = (refl, refl)
both true false h = (refl, h)
both false b h = absurd (differs h)
  where
    differs : false ≡ true → ⊥
    differs d = cc

stands : (n : ℕ) → nat_le n 300 ≡ true → standing n ≡ n
stands n h = grind (arith, nat_tests, h)

stands_small : (rank : Expr Meant → ℕ) (es : List (Expr Meant))
    → list_all (λ e. nat_le (rank e) 300) es ≡ true
    → map (λ e. standing (rank e)) es ≡ map rank es
stands_small rank [] h = refl
stands_small rank (e ∷ es) h =
    let (first, rest) = both _ _ h in
    ap (λ n. n ∷ map (λ e. standing (rank e)) es) (stands (rank e) first)
    ∙ ap (λ ns. rank e ∷ ns) (stands_small rank es rest)

abbrev as_call : (ranks : ℕ → ℕ) → Called → RankedCall
as_call ranks d = record { function = d.function; ranks = map (rank_of ranks) d.arguments }

followed_one : (ranks : ℕ → ℕ) (d : Called) (ds : List Called) (b : Bool)
    → is_followed (rank_of ranks) d.arguments ≡ b
    → followed ranks (d ∷ ds) ≡ cond b (as_call ranks d ∷ []) [] ++ followed ranks ds
followed_one ranks d ds b h = ap (λ c. map (as_call ranks) (cond c (d ∷ more) more)) h ∙ at b
  where
    more : List Called
    more = filter (λ c. is_followed (rank_of ranks) c.arguments) ds

    at : (b : Bool) → map (as_call ranks) (cond b (d ∷ more) more)
        ≡ cond b (as_call ranks d ∷ []) [] ++ followed ranks ds
    at true = refl
    at false = refl

-- the test of the ranks that the code finds is that of the ranks
tests_ranks : (rank : Expr Meant → ℕ) (es : List (Expr Meant)) (found : List ℕ) (b : Bool)
    → b ≡ not (list_any is_literal es) || list_all (λ r. nat_le r 300) found
    → found ≡ map (λ e. standing (rank e)) es → is_followed rank es ≡ b
tests_ranks rank es found b told at_most =
    sym (told ∙ ap (λ c. not (list_any is_literal es) || c)
    (ap (list_all (λ r. nat_le r 300)) at_most ∙ all_small rank es))

-- where a call is followed the ranks that the code finds are its ranks
ranks_found : (rank : Expr Meant → ℕ) (es : List (Expr Meant)) (found : List ℕ)
    → is_followed rank es ≡ true
    → (list_any is_literal es ≡ false → found ≡ map rank es)
    → found ≡ map (λ e. standing (rank e)) es → found ≡ map rank es
ranks_found rank es found is whole at_most = by (list_any is_literal es) refl
  where
    by : (b : Bool) → list_any is_literal es ≡ b → found ≡ map rank es
    by false h = whole h
    by true h =
        at_most ∙ stands_small rank es
        (sym (ap (λ b. not b || list_all (λ e. nat_le (rank e) 300) es) h) ∙ is)

one_inner : (ranks : ℕ → ℕ) (calls : List CodeCalled) (i : ℕ) (x : CodeCalled) (b : Bool)
    (known new total : List RankedCall) → i < length calls → x ≡ get_or calls i x
    → is_followed (rank_of ranks) (map bare x.arguments.now) ≡ b
    → new ≡ with_new same_call known (cond b (as_call ranks (called_of x) ∷ []) [])
    → with_new same_call known (followed ranks (map called_of (drop i calls))) ≡ total
    → with_new same_call new (followed ranks (map called_of (drop (i + 1) calls))) ≡ total
one_inner ranks calls i x b known new total lt is told e before =
    walked same_call (λ cs. followed ranks (map called_of cs)) calls i x
    (cond b (as_call ranks (called_of x) ∷ []) []) known new total lt is
    (followed_one ranks (called_of x) (map called_of (drop (i + 1) calls)) b told) e before

pub loop-inner-preserved : goal.loop-inner-preserved
loop-inner-preserved c =
    let known = map ranked_of c.loop-inner.known.items in
    let ranks = ranks_in c.args.ranks.now c.args.texts.now in
    let es = map bare c.inner-item.result.arguments.now in
    let found = c.in_ok-ranks.ranks.items in
    let at_most = c.in_ok-ranks.ensures.at_most in
    let slice = c.as_slice.ensures.value in
    elim c.if-is_followed.branch [
      | then-is_followed+in_ok-add_new w ↦
          let is = tests_ranks (rank_of ranks) es c.as_slice.result.now true
          (sym w.if-is_followed.true ∙ c.is_followed.ensures) (slice ∙ at_most) in
          one_inner ranks c.args.calls.now c.loop-inner.inner-index c.inner-item.result true known
          _ _ c.loop-inner-test.true c.inner-item.is is
          (ap (λ k. map ranked_of k.items) w.known-is ∙ w.in_ok-add_new.ensures
          ∙ ap (λ rs. with_new same_call known
          (record { function = c.inner-item.result.function; ranks = rs } ∷ []))
          (ranks_found (rank_of ranks) es found is c.in_ok-ranks.ensures.whole at_most))
          c.loop-inner.invariant
      | else-is_followed w ↦
          let is = tests_ranks (rank_of ranks) es c.as_slice.result.now false
          (sym w.if-is_followed.false ∙ c.is_followed.ensures) (slice ∙ at_most) in
          one_inner ranks c.args.calls.now c.loop-inner.inner-index c.inner-item.result false known
          _ _ c.loop-inner-test.true c.inner-item.is is
          (ap (λ k. map ranked_of k.items) w.known-is ∙ sym (append-nil known))
          c.loop-inner.invariant
    ]
