use Rattle.std.proofs.Common.{◌≡◌, ◌≢◌, length, sym, ltb, arith}
use Rattle.std.specs.Str.{is_utf8}
use Rattle.std.proofs.lemmas.Bool.{and_from, and_right, lt-ltb, false_from_ne_true, eqb-false}
use Rattle.std.proofs.lemmas.Str.{is_utf8-from_IsUtf8, IsUtf8-from_is_utf8}
use Rattle.sym_file.proofs.line.is_name.Goals as goal

pub returns-in-Ok : goal.returns-in-Ok
returns-in-Ok c =
    let some : length c.args.bytes.now ≢ 0 =
    eqb-false (length c.args.bytes.now) 0 (sym c.if-is_empty.ensures) in
    sym (and_from (ltb 0 (length c.args.bytes.now)) (is_utf8 c.args.bytes.now)
    (lt-ltb 0 (length c.args.bytes.now) (omega (arith, some)))
    (is_utf8-from_IsUtf8 c.args.bytes.now c.in-Ok.ensures.cases.1))

pub returns-in-Err : goal.returns-in-Err
returns-in-Err c =
    sym (and_right (ltb 0 (length c.args.bytes.now)) (is_utf8 c.args.bytes.now)
    (false_from_ne_true (is_utf8 c.args.bytes.now)
    (λ t. c.in-Err.ensures.cases.0 (IsUtf8-from_is_utf8 c.args.bytes.now t))))
