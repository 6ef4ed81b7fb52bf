use Rattle.wit_code.proofs.well_formed.is_code.Goals as goal

pub returns-then-code : goal.returns-then-code
returns-then-code c = (
  λ e. record { params = c.if-code.true; each = c.each_fits.ensures.0 e },
  λ i. c.each_fits.ensures.1 i.each,
)
