-- How reserved words and symbols are spelled.
use Rattle.std.specs.Prelude.{ℕ, List, [], ◌∷◌, codes}
use Rattle.cir_token.specs.declared.token.Reserved.{Reserved}
use Rattle.cir_token.specs.declared.token.Reserved.TheVariants as word
use Rattle.cir_token.specs.declared.token.Symbol.{Symbol}
use Rattle.cir_token.specs.declared.token.Symbol.TheVariants as symbol

abbrev pub reserved_bytes : Reserved → List ℕ
reserved_bytes word.Pragma = codes "pragma"
reserved_bytes word.Include = codes "include"
reserved_bytes word.Template = codes "template"
reserved_bytes word.Function = codes "function"
reserved_bytes word.Parallel = codes "parallel"
reserved_bytes word.Component = codes "component"
reserved_bytes word.Main = codes "main"
reserved_bytes word.Public = codes "public"
reserved_bytes word.Signal = codes "signal"
reserved_bytes word.Input = codes "input"
reserved_bytes word.Output = codes "output"
reserved_bytes word.Var = codes "var"
reserved_bytes word.If = codes "if"
reserved_bytes word.Else = codes "else"
reserved_bytes word.For = codes "for"
reserved_bytes word.While = codes "while"
reserved_bytes word.Return = codes "return"
reserved_bytes word.Assert = codes "assert"
reserved_bytes word.Log = codes "log"
reserved_bytes word.Bus = codes "bus"

abbrev pub symbol_bytes : Symbol → List ℕ
symbol_bytes symbol.ConstrainLeft = codes "<=="
symbol_bytes symbol.ConstrainRight = codes "==>"
symbol_bytes symbol.AssignLeft = codes "<--"
symbol_bytes symbol.AssignRight = codes "-->"
symbol_bytes symbol.Constrain = codes "==="
symbol_bytes symbol.StarStarEqual = codes "**="
symbol_bytes symbol.ShiftLeftEqual = codes "<<="
symbol_bytes symbol.ShiftRightEqual = codes ">>="
symbol_bytes symbol.PlusEqual = codes "+="
symbol_bytes symbol.MinusEqual = codes "-="
symbol_bytes symbol.StarEqual = codes "*="
symbol_bytes symbol.SlashEqual = codes "/="
symbol_bytes symbol.BackslashEqual = codes "\\="
symbol_bytes symbol.PercentEqual = codes "%="
symbol_bytes symbol.AmpersandEqual = codes "&="
symbol_bytes symbol.BarEqual = codes "|="
symbol_bytes symbol.CaretEqual = codes "^="
symbol_bytes symbol.AmpersandAmpersand = codes "&&"
symbol_bytes symbol.BarBar = codes "||"
symbol_bytes symbol.EqualEqual = codes "=="
symbol_bytes symbol.BangEqual = codes "!="
symbol_bytes symbol.LessEqual = codes "<="
symbol_bytes symbol.GreaterEqual = codes ">="
symbol_bytes symbol.ShiftLeft = codes "<<"
symbol_bytes symbol.ShiftRight = codes ">>"
symbol_bytes symbol.StarStar = codes "**"
symbol_bytes symbol.PlusPlus = codes "++"
symbol_bytes symbol.MinusMinus = codes "--"
symbol_bytes symbol.Less = codes "<"
symbol_bytes symbol.Greater = codes ">"
symbol_bytes symbol.Plus = codes "+"
symbol_bytes symbol.Minus = codes "-"
symbol_bytes symbol.Star = codes "*"
symbol_bytes symbol.Slash = codes "/"
symbol_bytes symbol.Backslash = codes "\\"
symbol_bytes symbol.Percent = codes "%"
symbol_bytes symbol.Ampersand = codes "&"
symbol_bytes symbol.Bar = codes "|"
symbol_bytes symbol.Caret = codes "^"
symbol_bytes symbol.Bang = codes "!"
symbol_bytes symbol.Tilde = codes "~"
symbol_bytes symbol.Equal = codes "="
symbol_bytes symbol.Question = codes "?"
symbol_bytes symbol.Colon = codes ":"
symbol_bytes symbol.Comma = codes ","
symbol_bytes symbol.Semicolon = codes ";"
symbol_bytes symbol.Dot = codes "."
symbol_bytes symbol.OpenParenthesis = codes "("
symbol_bytes symbol.CloseParenthesis = codes ")"
symbol_bytes symbol.OpenBracket = codes "["
symbol_bytes symbol.CloseBracket = codes "]"
symbol_bytes symbol.OpenBrace = codes "{"
symbol_bytes symbol.CloseBrace = codes "}"

-- every reserved word
abbrev pub all_reserved : List Reserved
all_reserved =
    word.Pragma ∷ word.Include ∷ word.Template ∷ word.Function ∷ word.Parallel ∷ word.Component ∷
    word.Main ∷ word.Public ∷ word.Signal ∷ word.Input ∷ word.Output ∷ word.Var ∷ word.If ∷
    word.Else ∷ word.For ∷ word.While ∷ word.Return ∷ word.Assert ∷ word.Log ∷ word.Bus ∷ []

-- every symbol, the longest first
abbrev pub all_symbols : List Symbol
all_symbols =
    symbol.ConstrainLeft ∷ symbol.ConstrainRight ∷ symbol.AssignLeft ∷ symbol.AssignRight ∷
    symbol.Constrain ∷ symbol.StarStarEqual ∷ symbol.ShiftLeftEqual ∷ symbol.ShiftRightEqual ∷
    symbol.PlusEqual ∷ symbol.MinusEqual ∷ symbol.StarEqual ∷ symbol.SlashEqual ∷
    symbol.BackslashEqual ∷ symbol.PercentEqual ∷ symbol.AmpersandEqual ∷ symbol.BarEqual ∷
    symbol.CaretEqual ∷ symbol.AmpersandAmpersand ∷ symbol.BarBar ∷ symbol.EqualEqual ∷
    symbol.BangEqual ∷ symbol.LessEqual ∷ symbol.GreaterEqual ∷ symbol.ShiftLeft ∷
    symbol.ShiftRight ∷ symbol.StarStar ∷ symbol.PlusPlus ∷ symbol.MinusMinus ∷ symbol.Less ∷
    symbol.Greater ∷ symbol.Plus ∷ symbol.Minus ∷ symbol.Star ∷ symbol.Slash ∷ symbol.Backslash ∷
    symbol.Percent ∷ symbol.Ampersand ∷ symbol.Bar ∷ symbol.Caret ∷ symbol.Bang ∷ symbol.Tilde ∷
    symbol.Equal ∷ symbol.Question ∷ symbol.Colon ∷ symbol.Comma ∷ symbol.Semicolon ∷ symbol.Dot ∷
    symbol.OpenParenthesis ∷ symbol.CloseParenthesis ∷ symbol.OpenBracket ∷ symbol.CloseBracket ∷
    symbol.OpenBrace ∷ symbol.CloseBrace ∷ []
