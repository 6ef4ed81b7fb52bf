-- The printed lines, and the exit status of a verdict.
use Rattle.std.specs.Prelude.{ℕ, List, [], ◌∷◌, ◌++◌, codes, decimal}
use Rattle.iden_files.specs.declared.fault.FileCause.{FileCause}
use Rattle.iden_files.specs.declared.fault.FileCause.TheVariants.{Magic, Version, Truncated}
use Rattle.iden_files.specs.declared.fault.FileCause.TheVariants.{SectionMissing, SectionTwice}
use Rattle.iden_files.specs.declared.fault.FileCause.TheVariants.{WrongPrime, ValueTooLarge}
use Rattle.iden_files.specs.declared.fault.FileCause.TheVariants.{WireOutOfRange, BadCount}
use Rattle.iden_files.specs.declared.fault.FileCause.TheVariants.{CustomGates, Limit}
use Rattle.cir_token.specs.declared.token.LexCause.{LexCause}
use Rattle.cir_token.specs.declared.token.LexCause.TheVariants as lex
use Rattle.cir_ast.specs.declared.refusal.Kind.{Kind}
use Rattle.cir_ast.specs.declared.refusal.Kind.TheVariants as kind
use Rattle.cir_ast.specs.declared.refusal.Which.{Which}
use Rattle.cir_ast.specs.declared.refusal.Which.TheVariants as which
use Rattle.cir_ast.specs.declared.refusal.Form.{Form}
use Rattle.cir_ast.specs.declared.refusal.Form.TheVariants as form
use Rattle.cir_ast.specs.declared.refusal.Place.{Place}
use Rattle.cir_ast.specs.declared.refusal.Refusal.{Refusal as SourceRefusal}
use Rattle.circom_lines.specs.declared.answer.Refusal.{Refusal}
use Rattle.circom_lines.specs.declared.answer.Refusal.TheVariants.{NoSuchFile, BadFile, BadLines}
use Rattle.circom_lines.specs.declared.answer.Refusal.TheVariants.{BadSource, LargeBatch}
use Rattle.circom_lines.specs.declared.answer.Refusal.TheVariants.{BadInput as BadInputs}
use Rattle.circom_lines.specs.declared.answer.BadInput.{BadInput}
use Rattle.circom_lines.specs.declared.answer.BadInput.TheVariants.{NotJson, Missing, UnknownSignal}
use Rattle.circom_lines.specs.declared.answer.BadInput.TheVariants.{WrongCount, BadNumber}
use Rattle.circom_lines.specs.declared.answer.LineKind.{LineKind}
use Rattle.circom_lines.specs.declared.answer.LineKind.TheVariants.{Rule, Symbol}
use Rattle.circom_lines.specs.declared.answer.LineCause.{LineCause}
use Rattle.circom_lines.specs.declared.answer.LineCause.TheVariants as cause
use Rattle.circom_lines.specs.declared.answer.Verdict.{Verdict}
use Rattle.circom_lines.specs.declared.answer.Verdict.TheVariants.{CountsDiffer, WireZero}
use Rattle.circom_lines.specs.declared.answer.Verdict.TheVariants.{ConstraintFails, Satisfied}

-- 0 for success, 1 for a refusal, 2 for values that fail
abbrev pub verdict_status : Verdict → ℕ
verdict_status (CountsDiffer values wires) = 1
verdict_status WireZero = 2
verdict_status (ConstraintFails index) = 2
verdict_status Satisfied = 0

-- the parts one after another, and a line feed
abbrev pub line : List (List ℕ) → List ℕ
line [] = 10 ∷ []
line (part ∷ parts) = part ++ line parts

abbrev pub cause_text : FileCause → List ℕ
cause_text Magic = codes "F1 Magic"
cause_text Version = codes "F2 Version"
cause_text Truncated = codes "F3 Truncated"
cause_text SectionMissing = codes "F4 SectionMissing"
cause_text SectionTwice = codes "F5 SectionTwice"
cause_text WrongPrime = codes "F6 WrongPrime"
cause_text ValueTooLarge = codes "F7 ValueTooLarge"
cause_text WireOutOfRange = codes "F8 WireOutOfRange"
cause_text BadCount = codes "F9 BadCount"
cause_text CustomGates = codes "F10 CustomGates"
cause_text Limit = codes "F11 Limit"

abbrev pub bad_file_line : List ℕ → List ℕ → List ℕ → List ℕ
bad_file_line name cause offset =
    line (codes "refused: " ∷ name ∷ codes ": " ∷ cause ∷ codes " at byte " ∷ offset ∷ [])

abbrev pub line_cause_text : LineKind → LineCause → List ℕ
line_cause_text Rule cause.BadLine = codes "C1 BadLine"
line_cause_text Rule cause.Limit = codes "C2 Limit"
line_cause_text Symbol cause.BadLine = codes "S1 BadLine"
line_cause_text Symbol cause.Limit = codes "S2 Limit"

abbrev pub bad_lines_line : (name cause number : List ℕ) → List ℕ
bad_lines_line name cause number =
    line (codes "refused: " ∷ name ∷ codes ": " ∷ cause ∷ codes " at line "
    ∷ number ∷ [])

abbrev pub lex_text : LexCause → List ℕ
lex_text lex.BadChar = codes " BadChar"
lex_text lex.OpenComment = codes " OpenComment"
lex_text lex.OpenString = codes " OpenString"
lex_text lex.NumberTooWide = codes " NumberTooWide"

abbrev pub which_text : Which → List ℕ
which_text which.Source = codes " Source "
which_text which.Files = codes " Files "
which_text which.Signals = codes " Signals "
which_text which.Constraints = codes " Constraints "
which_text which.Terms = codes " Terms "
which_text which.Elements = codes " Elements "
which_text which.Cells = codes " Cells "
which_text which.Steps = codes " Steps "
which_text which.Nodes = codes " Nodes "
which_text which.Reads = codes " Reads "
which_text which.Statements = codes " Statements "

abbrev pub form_text : Form → List ℕ
form_text form.Version = codes " Version"
form_text form.CustomTemplate = codes " CustomTemplate"
form_text form.Bus = codes " Bus"
form_text form.Tag = codes " Tag"
form_text form.NoReturn = codes " NoReturn"
form_text form.MixedComponents = codes " MixedComponents"
form_text form.LiteralPlace = codes " LiteralPlace"
form_text form.DeclarationPlace = codes " DeclarationPlace"
form_text form.LogPlace = codes " LogPlace"
form_text form.RunArray = codes " RunArray"
form_text form.RunDimension = codes " RunDimension"
form_text form.AnonymousPlace = codes " AnonymousPlace"

abbrev pub kind_text : Kind → List ℕ
kind_text (kind.Lexical cause) = codes "E1 Lexical"
kind_text kind.Syntax = codes "E2 Syntax"
kind_text kind.Include = codes "E3 Include"
kind_text kind.Duplicate = codes "E4 Duplicate"
kind_text kind.Main = codes "E5 Main"
kind_text kind.UnknownName = codes "E6 UnknownName"
kind_text kind.Arity = codes "E7 Arity"
kind_text kind.WrongKind = codes "E8 WrongKind"
kind_text kind.UnknownControl = codes "E9 UnknownControl"
kind_text kind.UnknownIndex = codes "E10 UnknownIndex"
kind_text kind.NonQuadratic = codes "E11 NonQuadratic"
kind_text kind.ReadBeforeWrite = codes "E12 ReadBeforeWrite"
kind_text kind.SecondWrite = codes "E13 SecondWrite"
kind_text kind.NeverWritten = codes "E14 NeverWritten"
kind_text kind.InputsMissing = codes "E15 InputsMissing"
kind_text kind.OutOfBounds = codes "E16 OutOfBounds"
kind_text kind.ZeroDivisor = codes "E17 ZeroDivisor"
kind_text kind.AssertFalse = codes "E18 AssertFalse"
kind_text (kind.Limit which count) = codes "E19 Limit"
kind_text kind.TooDeep = codes "E20 TooDeep"
kind_text (kind.NotInProfile form) = codes "E21 NotInProfile"
kind_text kind.ShapeDiffers = codes "E22 ShapeDiffers"

-- what stands behind the kind's name: the cause, the quantity, or the form
abbrev pub detail_text : Kind → List ℕ
detail_text (kind.Lexical cause) = lex_text cause
detail_text (kind.Limit which count) = which_text which
detail_text (kind.NotInProfile form) = form_text form
detail_text _ = []

-- and the count of a limit
abbrev pub count_text : Kind → List ℕ
count_text (kind.Limit which count) = decimal count
count_text _ = []

-- a refusal at a place
abbrev pub placed_line : (what detail count : List ℕ) → Place → List ℕ
placed_line what detail count place =
    line
    (codes "refused: " ∷ what ∷ detail ∷ count ∷ codes " at " ∷ place.file ∷ codes ":"
    ∷ decimal place.line ∷ codes ":" ∷ decimal place.column ∷ codes " in " ∷ place.path ∷ [])

abbrev pub source_line : SourceRefusal → List ℕ
source_line r = placed_line (kind_text r.kind) (detail_text r.kind) (count_text r.kind) r.place

abbrev pub count_line : (name has wants : List ℕ) → List ℕ
count_line name has wants =
    line (codes "refused: I4 WrongCount " ∷ name ∷ codes " " ∷ has ∷ codes " " ∷ wants ∷ [])

abbrev pub input_line : BadInput → List ℕ
input_line NotJson = line (codes "refused: I1 NotJson" ∷ [])
input_line (Missing name) = line (codes "refused: I2 Missing " ∷ name ∷ [])
input_line (UnknownSignal key) = line (codes "refused: I3 UnknownSignal " ∷ key ∷ [])
input_line (WrongCount name has wants) = count_line name (decimal has) (decimal wants)
input_line (BadNumber name index) =
    line (codes "refused: I5 BadNumber " ∷ name ∷ codes " " ∷ decimal index ∷ [])

abbrev pub refusal_line : Refusal → List ℕ
refusal_line (NoSuchFile name) = line (codes "refused: " ∷ name ∷ codes ": no such file" ∷ [])
refusal_line (BadFile name cause offset) = bad_file_line name (cause_text cause) (decimal offset)
refusal_line (BadLines name kind what number) =
    bad_lines_line name (line_cause_text kind what) (decimal number)
refusal_line (BadSource r) = source_line r
refusal_line (BadInputs r) = input_line r
refusal_line (LargeBatch size) = line (codes "refused: B1 Limit " ∷ decimal size ∷ [])

abbrev pub verdict_line : Verdict → List ℕ
verdict_line (CountsDiffer values wires) =
    line
    (codes "refused: " ∷ decimal values ∷ codes " values for " ∷ decimal wires ∷ codes " wires"
    ∷ [])
verdict_line WireZero = line (codes "unsatisfied: wire 0" ∷ [])
verdict_line (ConstraintFails index) = line (codes "unsatisfied: constraint " ∷ decimal index ∷ [])
verdict_line Satisfied = line (codes "satisfied" ∷ [])

abbrev pub compiled_line : ℕ → ℕ → List ℕ
compiled_line wires constraints =
    line
    (codes "compiled: wires " ∷ decimal wires ∷ codes ", constraints " ∷ decimal constraints ∷ [])

abbrev pub usage_line : List ℕ
usage_line =
    line
    (codes "usage: circom_gold check, compile, witness, prove, public, audit, sym, batch, series, "
    ∷ codes "determine, confirm or generate" ∷ [])

-- what is said where the store failed
abbrev pub fault_line : List ℕ
fault_line = line (codes "fault: store" ∷ [])
