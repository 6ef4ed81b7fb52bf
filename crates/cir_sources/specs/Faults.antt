-- Why a program's sources are refused.
use Rattle.std.specs.Prelude.{◌≡◌, ℕ, ◌+◌, ◌<◌, ◌≤◌, List, length, Option, None, Some, Ok, Err}
use Rattle.cir_token.specs.declared.token.LexCause.{LexCause}
use Rattle.cir_lexer.specs.declared.fault.LexFault.TheVariants.{At}
use Rattle.cir_lexer.specs.Reading.{IsReading}
use Rattle.cir_ast.specs.declared.refusal.Form.{Form}
use Rattle.cir_ast.specs.declared.refusal.Form.TheVariants.{Version}
use Rattle.cir_ast.specs.declared.refusal.Kind.TheVariants.{Lexical, Syntax, Include, Limit}
use Rattle.cir_ast.specs.declared.refusal.Kind.TheVariants.{NotInProfile}
use Rattle.cir_ast.specs.declared.refusal.Which.TheVariants.{Source as SourceLimit, Files}
pub use Rattle.cir_ast.specs.declared.refusal.Refusal.{Refusal}
use Rattle.cir_ast.specs.Spot.{start, spot_at, refusal_at}
use Rattle.cir_expression.specs.Answers.{kinds}
use Rattle.cir_parse.specs.Contract.{IsTree, IsFirstUnread}
use Rattle.cir_parse.specs.LeftOut.{first_left_out}
use Rattle.cir_sources.specs.Places.{Token, Spot, spots_of, spot_of, most_bytes}
use Rattle.cir_sources.specs.Includes.{Contents, PlainFile, Site, IsFile, other_version, bytes_at}
use Rattle.cir_sources.specs.Includes.{included_name}

-- the files that a program may have
abbrev pub most_files : ℕ
most_files = 1024

-- why tokens with these places are of no file, the first of the three causes in their order
pub data IsUnfit (name : List ℕ) (tokens : List Token) (spots : List Spot) : Refusal → Type 0 where
  -- a form stands in them that is left out of the language
  LeftOut : (token : ℕ) (form : Form) → first_left_out 0 (kinds tokens) ≡ Some (token, form)
      → IsUnfit name tokens spots (refusal_at name (NotInProfile form) (spot_of spots token))
  -- they have no tree
  NoTree : (token : ℕ) → first_left_out 0 (kinds tokens) ≡ None
      → ((file : PlainFile (Unit {0})) → ¬ IsTree (kinds tokens) file)
      → IsFirstUnread Spot (kinds tokens) token
      → IsUnfit name tokens spots (refusal_at name Syntax (spot_of spots token))
  -- their tree is of another version
  OtherVersion : (tree : PlainFile Spot) (spot : Spot) → IsFile tokens spots tree
      → other_version tree ≡ Some spot
      → IsUnfit name tokens spots (refusal_at name (NotInProfile Version) spot)

-- why the file of this name and these bytes is no source, the first of the causes in their order
pub data IsFault (name bytes : List ℕ) : Refusal → Type 0 where
  -- it is too long
  Long : most_bytes < length bytes
      → IsFault name bytes (refusal_at name (Limit SourceLimit (length bytes)) start)
  -- it has no reading as tokens
  NoTokens : (cause : LexCause) (offset : ℕ) → length bytes ≤ most_bytes
      → IsReading bytes (Err (At cause offset))
      → IsFault name bytes (refusal_at name (Lexical cause) (spot_at bytes offset))
  -- its tokens are of no file
  Unfit : (tokens : List Token) (r : Refusal) → length bytes ≤ most_bytes
      → IsReading bytes (Ok tokens) → IsUnfit name tokens (spots_of bytes tokens) r
      → IsFault name bytes r

-- why an include can't be followed, where so many files are loaded
pub data IsStop (files : Contents) (library : Option (List ℕ)) (count : ℕ) (site : Site)
    : Refusal → Type 0 where
  -- there is no such file
  Absent : included_name files library site ≡ None
      → IsStop files library count site (refusal_at site.file Include site.spot)
  -- there are as many files as there may be
  Full : (name : List ℕ) → included_name files library site ≡ Some name → count ≡ most_files
      → IsStop files library count site
      (refusal_at site.file (Limit Files (count + 1)) site.spot)
  -- the file has a fault
  Fault : (name bytes : List ℕ) (r : Refusal) → included_name files library site ≡ Some name
      → count < most_files → bytes_at files name ≡ Some bytes → IsFault name bytes r
      → IsStop files library count site r
