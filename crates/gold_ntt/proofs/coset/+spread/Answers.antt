use Rattle.std.proofs.Common.{◌≡◌, ℕ, suc, ◌+◌, ◌-◌, ◌*◌, ◌%◌, ◌^◌, ◌<◌, ◌≤◌, inr, sym, ap}
use Rattle.std.proofs.Common.{◌∙◌, subst, arith, List, length, get_or}
use Rattle.std.proofs.Math.Nat.{two-pow-succ}
use Rattle.std.proofs.lemmas.Grind.{get_or_default_zero}
use Rattle.std.proofs.lemmas.Nat.{one_shl, pow_pos}
use Rattle.gold_field.specs.declared.gold.TheConstants.{P}
use Rattle.gold_ntt.specs.Coset.{AreTwiddles, AreParts, HasSpread}
use Rattle.gold_ntt.proofs.Level.{half_fits}
use Rattle.gold_ntt.proofs.Spreading.{block_fits, start_of, one_spread, whole_at, first_at}
use Rattle.gold_ntt.proofs.Spreading.{second_at, halved, in_table, pair_spread}
use Rattle.gold_ntt.proofs.coset.+spread.Goals as goal

-- the numbers that the code computes
record AreSizes (d log b start half shifted : ℕ) : Type 0 where
  start_is : start ≡ b * 2 ^ log
  half_is : half ≡ 2 ^ (log - 1)
  shifted_is : shifted ≡ 2 ^ d
  whole : 2 ^ log ≡ half + half
  fits : b * 2 ^ log + 2 ^ log ≤ 2 ^ (d + log)
  deeper : d + 1 + (log - 1) ≡ d + log
  two : 2 ^ (d + 1) ≡ 2 ^ d + 2 ^ d

sizes : (d log b : ℕ) → 0 < log → d + log ≤ 20 → b < 2 ^ d
    → AreSizes d log b (b * 2 ^ log % 2 ^ 64) (1 * 2 ^ (log - 1) % 2 ^ 64) (1 * 2 ^ d % 2 ^ 64)
sizes d log b pos small low =
    let half : 1 * 2 ^ (log - 1) % 2 ^ 64 ≡ 2 ^ (log - 1) = one_shl (log - 1) 64 (omega arith) in
    let next : d + 1 ≡ suc d = omega arith in
    record {
      start_is = start_of d log b small low;
      half_is = half;
      shifted_is = one_shl d 64 (omega arith);
      whole = half_fits log pos ∙ ap (λ (y : ℕ). y + y) (sym half);
      fits = block_fits d log b low;
      deeper = omega arith;
      two = ap (λ (y : ℕ). 2 ^ y) next ∙ two-pow-succ d;
    }

-- the zeros of each half
first_zeros : (old new : List ℕ) (d log b start half shifted t count i : ℕ) → 0 < log
    → AreSizes d log b start half shifted → AreParts old new start half t count
    → count ≤ i → i < 2 ^ (log - 1) → get_or new (2 * b * 2 ^ (log - 1) + i) 0 ≡ 0
first_zeros old new d log b start half shifted t count i pos sizes parts from low =
    let at : 2 * b * 2 ^ (log - 1) ≡ start = first_at b log pos ∙ sym sizes.start_is in
    ap (λ (y : ℕ). get_or new (y + i) 0) at
    ∙ parts.low_zeros i from (let h = sizes.half_is in omega arith)

second_zeros : (old new one : List ℕ) (e d log b start half shifted t count i : ℕ) → 0 < log
    → AreSizes d log b start half shifted → AreParts old new start half t count
    → HasSpread new one e (2 * b * 2 ^ (log - 1)) (log - 1)
    → count ≤ i → i < 2 ^ (log - 1) → get_or one ((2 * b + 1) * 2 ^ (log - 1) + i) 0 ≡ 0
second_zeros old new one e d log b start half shifted t count i pos sizes parts spread from low =
    let begin : start ≡ b * 2 ^ log = sizes.start_is in
    let size : half ≡ 2 ^ (log - 1) = sizes.half_is in
    let first : 2 * b * 2 ^ (log - 1) ≡ b * 2 ^ log = first_at b log pos in
    let second : (2 * b + 1) * 2 ^ (log - 1) ≡ b * 2 ^ log + 2 ^ (log - 1) = second_at b log pos in
    let at : (2 * b + 1) * 2 ^ (log - 1) + i ≡ start + half + i = omega arith in
    spread.others ((2 * b + 1) * 2 ^ (log - 1) + i) (inr (omega arith))
    ∙ ap (λ (y : ℕ). get_or new y 0) at ∙ parts.high_zeros i from (omega arith)

pub bounds-twiddles-depth : goal.bounds-twiddles-depth
bounds-twiddles-depth t c =
    let s = sizes c.args.depth c.args.log c.args.block (omega arith) c.requires.small
    c.requires.block in
    in_table c.args.depth c.args.log c.args.block (1 * 2 ^ c.args.depth % 2 ^ 64)
    c.args.twiddles.now (omega arith) c.requires.block s.shifted_is c.requires.twiddles

pub part-requires-clause-fits : goal.part-requires-clause-fits
part-requires-clause-fits t c =
    let s = sizes c.args.depth c.args.log c.args.block (omega arith) c.requires.small
    c.requires.block in
    omega (arith, s.start_is, s.whole, s.fits, c.requires.whole)

pub part-requires-clause-zeros : goal.part-requires-clause-zeros
part-requires-clause-zeros t c = λ i from low.
    let s = sizes c.args.depth c.args.log c.args.block (omega arith) c.requires.small
    c.requires.block in
    ap (λ (y : ℕ). get_or c.args.a.now (y + i) 0) s.start_is
    ∙ c.requires.zeros i from (omega (arith, s.whole))

pub spread-requires : goal.spread-requires
spread-requires t c =
    let s = sizes c.args.depth c.args.log c.args.block (omega arith) c.requires.small
    c.requires.block in
    let Table : ℕ → Type 0 = λ y. AreTwiddles y c.args.twiddles.now in (
      omega arith,
      (
        omega (arith, s.deeper, c.requires.small),
        (
          c.part.auto.a ∙ c.requires.whole ∙ ap (λ (y : ℕ). 2 ^ y) (sym s.deeper),
          (
            omega (arith, s.two, c.requires.block),
            (
              subst Table (sym s.deeper) c.requires.twiddles,
              λ i from low. first_zeros c.args.a.now c.part.new.a c.args.depth c.args.log
                  c.args.block (c.args.block * 2 ^ c.args.log % 2 ^ 64)
                  (1 * 2 ^ (c.args.log - 1) % 2 ^ 64) (1 * 2 ^ c.args.depth % 2 ^ 64)
                  c.index-twiddles-depth.result c.args.count i (omega arith) s c.part.ensures
                  from low,
            ),
          ),
        ),
      ),
    )

pub spread-requires-else-log-eq1 : goal.spread-requires-else-log-eq1
spread-requires-else-log-eq1 t c =
    let s = sizes c.args.depth c.args.log c.args.block (omega arith) c.requires.small
    c.requires.block in
    let Table : ℕ → Type 0 = λ y. AreTwiddles y c.args.twiddles.now in (
      omega arith,
      (
        omega (arith, s.deeper, c.requires.small),
        (
          c.spread.auto.a ∙ c.part.auto.a ∙ c.requires.whole
              ∙ ap (λ (y : ℕ). 2 ^ y) (sym s.deeper),
          (
            omega (arith, s.two, c.requires.block),
            (
              subst Table (sym s.deeper) c.requires.twiddles,
              λ i from low. second_zeros c.args.a.now c.part.new.a c.spread.new.a
                  (c.args.depth + 1 + (c.args.log - 1)) c.args.depth c.args.log
                  c.args.block (c.args.block * 2 ^ c.args.log % 2 ^ 64)
                  (1 * 2 ^ (c.args.log - 1) % 2 ^ 64) (1 * 2 ^ c.args.depth % 2 ^ 64)
                  c.index-twiddles-depth.result c.args.count i (omega arith) s c.part.ensures
                  c.spread.ensures from low,
            ),
          ),
        ),
      ),
    )

pub returns-then-log-eq0 : goal.returns-then-log-eq0
returns-then-log-eq0 t c =
    let start = start_of c.args.depth c.args.log c.args.block c.requires.small c.requires.block in
    let fits = block_fits c.args.depth c.args.log c.args.block c.requires.block in
    one_spread c.args.a.now (c.args.depth + c.args.log) (c.args.block * 2 ^ c.args.log) c.args.log
    c.index-a-start.result c.if-log-eq0.true
    (omega (arith, fits, pow_pos c.args.log, c.requires.whole))
    (c.index-a-start.is
    ∙ ap (λ (y : ℕ). get_or c.args.a.now y c.index-a-start.result) start)
    (omega (arith, c.get-value.ensures.value, c.get-value.ensures.below))

-- a block's factor as the table has it
factor_is : (d log b shifted factor : ℕ) (twiddles : List ℕ) → 0 < log → b < 2 ^ d
    → shifted ≡ 2 ^ d → AreTwiddles (d + log) twiddles
    → factor ≡ get_or twiddles (shifted + b) factor → factor ≡ get_or twiddles (2 ^ d + b) 0
factor_is d log b shifted factor twiddles pos low is are read =
    let known : shifted + b < length twiddles = in_table d log b shifted twiddles pos low is are in
    read ∙ get_or_default_zero twiddles (shifted + b) factor known
    ∙ ap (λ (y : ℕ). get_or twiddles (y + b) 0) is

below_p : (x y : ℕ) → x ≡ y % P → x < P
below_p x y is = omega arith

pub returns-then-log-eq1 : goal.returns-then-log-eq1
returns-then-log-eq1 t c =
    let s = sizes c.args.depth c.args.log c.args.block (omega arith) c.requires.small
    c.requires.block in
    let half = 1 * 2 ^ (c.args.log - 1) % 2 ^ 64 in
    let start = c.args.block * 2 ^ c.args.log % 2 ^ 64 in
    let old = c.args.a.now in
    let new = c.halve.new.a in
    let x = c.index-twiddles-depth.result in
    let factor = factor_is c.args.depth c.args.log c.args.block (1 * 2 ^ c.args.depth % 2 ^ 64) x
    c.args.twiddles.now (omega arith) c.requires.block s.shifted_is c.requires.twiddles
    c.index-twiddles-depth.is in
    let one : half ≡ 1 = s.half_is ∙ (let none : c.args.log - 1 ≡ 0 = omega arith in
    ap (λ (y : ℕ). 2 ^ y) none) in
    let At : ℕ → Type 0 = λ y. AreParts old new y half x 2 in
    let By : ℕ → Type 0 = λ y. AreParts old new (c.args.block * 2 ^ c.args.log) half y 2 in
    let first = below_p (get_or new (start + 0) 0) _ (c.halve.ensures.low 0 (omega (arith, one))) in
    let second = below_p (get_or new (start + half + 0) 0) _
    (c.halve.ensures.high 0 (omega (arith, one))) in
    let Low : ℕ → Type 0 = λ y. get_or new (y + 0) 0 < P in
    let High : ℕ → Type 0 = λ y. get_or new (y + half + 0) 0 < P in
    pair_spread old new c.args.twiddles.now c.args.depth c.args.block c.args.log half
    c.if-log-eq1.true s.half_is c.requires.small c.requires.block c.requires.twiddles
    (subst By factor (subst At s.start_is
    (halved old new start half x 2 (omega (arith, one)) c.halve.ensures.low c.halve.ensures.high
    c.halve.ensures.others)))
    (omega (arith, s.fits, c.halve.auto.a, c.requires.whole))
    (subst Low s.start_is first) (subst High s.start_is second)

pub returns-else-log-eq1 : goal.returns-else-log-eq1
returns-else-log-eq1 t c =
    let s = sizes c.args.depth c.args.log c.args.block (omega arith) c.requires.small
    c.requires.block in
    let half = 1 * 2 ^ (c.args.log - 1) % 2 ^ 64 in
    let factor = factor_is c.args.depth c.args.log c.args.block (1 * 2 ^ c.args.depth % 2 ^ 64)
    c.index-twiddles-depth.result c.args.twiddles.now (omega arith) c.requires.block s.shifted_is
    c.requires.twiddles c.index-twiddles-depth.is in
    let At : ℕ → Type 0 = λ y. AreParts c.args.a.now c.part.new.a y half
    c.index-twiddles-depth.result c.args.count in
    let By : ℕ → Type 0 = λ y. AreParts c.args.a.now c.part.new.a
    (c.args.block * 2 ^ c.args.log) half y c.args.count in
    whole_at c.args.a.now c.part.new.a c.spread.new.a c.spread-else-log-eq1.new.a
    c.args.twiddles.now c.args.depth c.args.block c.args.log half c.args.count (omega arith)
    s.half_is c.requires.small c.requires.block c.requires.twiddles
    (subst By factor (subst At s.start_is c.part.ensures)) c.spread.ensures
    c.spread-else-log-eq1.ensures
