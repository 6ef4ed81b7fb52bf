use Rattle.std.proofs.Common.{◌≡◌, ◌+◌, ◌-◌, ◌*◌, ◌%◌, ◌^◌, arith}
use Rattle.std.proofs.lemmas.Nat.{one_shl, pow_pos}
use Rattle.gold_ntt.proofs.Level.{one_place, whole_block_at, square_halves, half_fits}
use Rattle.gold_ntt.proofs.transform.+transform.Goals as goal

pub transform-requires : goal.transform-requires
transform-requires t c =
    let double : 2 ^ c.args.log ≡ 2 ^ (c.args.log - 1) + 2 ^ (c.args.log - 1) =
    half_fits c.args.log (omega arith) in (
      omega arith,
      (
        omega arith,
        (
          omega arith,
          square_halves c.args.root c.mul-square.result c.args.log
              (omega arith) c.requires.root c.mul-square.ensures,
        ),
      ),
    )

pub transform-requires-else-log-eq0 : goal.transform-requires-else-log-eq0
transform-requires-else-log-eq0 t c =
    let double : 2 ^ c.args.log ≡ 2 ^ (c.args.log - 1) + 2 ^ (c.args.log - 1) =
    half_fits c.args.log (omega arith) in
    let half : (1 * 2 ^ (c.args.log - 1)) % 2 ^ 64 ≡ 2 ^ (c.args.log - 1) =
    one_shl (c.args.log - 1) 64 (omega arith) in (
      omega arith,
      (
        omega arith,
        (
          omega arith,
          square_halves c.args.root c.mul-square.result c.args.log
              (omega arith) c.requires.root c.mul-square.ensures,
        ),
      ),
    )

pub merge-requires : goal.merge-requires
merge-requires t c =
    let double : 2 ^ c.args.log ≡ 2 ^ (c.args.log - 1) + 2 ^ (c.args.log - 1) =
    half_fits c.args.log (omega arith) in
    let half : (1 * 2 ^ (c.args.log - 1)) % 2 ^ 64 ≡ 2 ^ (c.args.log - 1) =
    one_shl (c.args.log - 1) 64 (omega arith) in
    omega arith

pub returns-then-log-eq0 : goal.returns-then-log-eq0
returns-then-log-eq0 t c =
    one_place c.args.a.now c.args.start c.args.log c.args.root c.index-a-start.result
    c.if-log-eq0.true
    (omega (arith, pow_pos c.args.log)) c.index-a-start.is
    (omega (arith, c.get-value.ensures.value, c.get-value.ensures.below))

pub returns-else-log-eq0 : goal.returns-else-log-eq0
returns-else-log-eq0 t c =
    let half : (1 * 2 ^ (c.args.log - 1)) % 2 ^ 64 ≡ 2 ^ (c.args.log - 1) =
    one_shl (c.args.log - 1) 64 (omega arith) in
    whole_block_at c.args.a.now c.transform.new.a c.transform-else-log-eq0.new.a c.merge.new.a
    c.args.start c.args.log c.args.root
    c.mul-square.result ((1 * 2 ^ (c.args.log - 1)) % 2 ^ 64) (omega arith) half c.requires.root
    c.mul-square.ensures
    c.transform.ensures c.transform-else-log-eq0.ensures c.merge.ensures.low c.merge.ensures.high
    c.merge.ensures.others
