use Rattle.std.proofs.Common.{◌∙◌, sym}
use Rattle.wit_sourced.proofs.Places.{found, missing}
use Rattle.wit_sourced.proofs.reads.Reads.place.Goals as goal

pub returns-in-Some : goal.returns-in-Some
returns-in-Some c =
    let reads = c.args.self.now in
    found reads.cells c.args.cell c.in-Some.place.now
    (sym (reads.told c.args.cell) ∙ sym (rw c.in-Some.is at c.get.ensures.value))

pub returns-in-None : goal.returns-in-None
returns-in-None c =
    let reads = c.args.self.now in
    rw (c.len.ensures ∙ sym (missing reads.cells c.args.cell
    (sym (reads.told c.args.cell) ∙ sym (rw c.in-None.is at c.get.ensures.value))))
    at c.narrow.ensures.ok
