-- What the crate `clap` calls the forms and what it finds.
use Rattle.std.specs.Prelude.{◌≡◌, List, false}
use Rattle.clap.specs.Matches.{found_of}
use Rattle.clap.specs.Walk.{Row, Rule, rows_of, rule_of}
use Rattle.clap.specs.declared.builder.arg.Arg.{Arg}
use Rattle.clap.specs.declared.parser.matches.ArgMatches.{ArgMatches}

-- what was found, by the names of the form
abbrev pub rows_in : ArgMatches → List Row
rows_in matches = rows_of (found_of matches)

-- the argument has this rule
pub record IsArg (rule : Rule) (a : Arg) : Type 0 where
  pub rule_is : rule_of a ≡ rule
  pub not_global : a.global ≡ false
