use Rattle.std.proofs.Common.{arith, sym, ap, length}
use Rattle.std.proofs.lemmas.List.{length-drop}
use Rattle.cir_lexer.proofs.Taking.{decimal_at, hexadecimal_at, take_rest}
use Rattle.cir_lexer.proofs.front.numeral.Goals as goal

pub overflow_add-result : goal.overflow_add-result
overflow_add-result c = let rest = ap length (take_rest c.args.text.now 2) in
    omega (arith, c.hexadecimals_len-len.ensures.within, rest, length-drop 2 c.args.text.now)

pub returns-then-begins_hexadecimal : goal.returns-then-begins_hexadecimal
returns-then-begins_hexadecimal c =
    hexadecimal_at c.args.text.now _ c.hexadecimals_len-len.result c.number_in.result
    (take_rest c.args.text.now 2) c.requires.class (sym c.if-begins_hexadecimal.ensures)
    c.hexadecimals_len-len.ensures.value c.number_in.ensures

pub returns-else-begins_hexadecimal : goal.returns-else-begins_hexadecimal
returns-else-begins_hexadecimal c =
    decimal_at c.args.text.now c.digits_len-len.result c.number_in-else-begins_hexadecimal.result
    c.requires.some c.requires.class (sym c.if-begins_hexadecimal.ensures)
    c.digits_len-len.ensures c.number_in-else-begins_hexadecimal.ensures
