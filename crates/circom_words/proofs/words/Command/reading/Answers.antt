use Rattle.clap.specs.Simple.{app_of}
use Rattle.circom_words.specs.Forms.{form_of}
use Rattle.circom_words.specs.Matches.{rows_in}
use Rattle.circom_words.specs.Words.{command_in, texts}
use Rattle.circom_words.proofs.Found.{no_reading, rows_reading}
use Rattle.circom_words.proofs.words.Command.reading.Goals as goal

pub returns-in-None-clause-meant : goal.returns-in-None-clause-meant
returns-in-None-clause-meant c =
    no_reading (form_of c.args.word) (app_of c.in_ok-form.form) (command_in c.args.word)
    (texts c.args.words.now) c.in_ok-form.ensures.form (rw c.in-None.is at c.in_ok-found.ensures)

pub returns-in-Some-clause-meant : goal.returns-in-Some-clause-meant
returns-in-Some-clause-meant c =
    rows_reading (form_of c.args.word) (app_of c.in_ok-form.form) (command_in c.args.word)
    (texts c.args.words.now) (rows_in c.in-Some.matches) _ c.in_ok-form.ensures.form
    (rw c.in-Some.is at c.in_ok-found.ensures) c.read.ensures.meant
