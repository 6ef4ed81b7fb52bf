-- What `clap` finds in the words of a form.
use Rattle.std.proofs.Common.{◌≡◌, ◌∙◌, true, List, [], ◌∷◌, Option, Some, None, refl, ap, sym}
use Rattle.clap.specs.Faults.{fault_of, is_simple_and_free}
use Rattle.clap.specs.Kinds.{Kinds, IsAmong}
use Rattle.clap.specs.Simple.{App, is_simple, matches_of}
use Rattle.clap.specs.Matches.{first_value}
use Rattle.clap.specs.Walk.{Row, Text, first_of, rows_of}
use Rattle.clap.specs.declared.parser.matches.Found.{Found}
use Rattle.clap.specs.declared.error.kind.ErrorKind.{ErrorKind}
use Rattle.clap.proofs.WalkLemmas.{both as each, first_value-rows}
use Rattle.std.specs.Option.{option_and_then}
use Rattle.circom_words.specs.Words.{Command, found, reading, unless}

-- a value by its name in the form is the row's
pub first_rows : (f : Found) (name : Text) → first_value f name ≡ first_of name (rows_of f)
first_rows f name = first_value-rows f name

pub simple : (form : App) → is_simple_and_free form ≡ true → is_simple form ≡ true
simple form h = (each _ _ h).0

-- where there is no fault, the rows are found
pub found_rows : (form : App) (words : List Text) (rows : List Row) → fault_of form words ≡ []
    → rows ≡ matches_of form words → Some rows ≡ found form words
found_rows form words rows e same =
    ap Some same ∙ sym (ap (λ (k : Kinds). unless k (matches_of form words)) e)

-- where there is a fault, nothing is found
pub nothing_found : (kinds : Kinds) (rows : List Row) (kind : ErrorKind) → IsAmong kind kinds
    → None ≡ unless kinds rows
nothing_found [] rows kind h = absurd h
nothing_found (k ∷ ks) rows kind h = refl

-- the reading of the words of a form, where nothing is found in them
pub no_reading : (form app : App) (command : List Row → Option Command) (words : List Text)
    → app ≡ form → None ≡ found app words → None ≡ reading form command words
no_reading form app command words same none =
    ap (option_and_then command) (none ∙ ap (λ (a : App). found a words) same)

-- and where these rows are
pub rows_reading : (form app : App) (command : List Row → Option Command) (words : List Text)
    (rows : List Row) (result : Option Command) → app ≡ form → Some rows ≡ found app words
    → result ≡ command rows → result ≡ reading form command words
rows_reading form app command words rows result same some is =
    is ∙ ap (option_and_then command) (some ∙ ap (λ (a : App). found a words) same)
