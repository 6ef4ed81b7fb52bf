use Rattle.cir_names.proofs.Asking.{loaded_again}
use Rattle.cir_names.proofs.laws.unasked_files_change_nothing.Goals as goal

pub returns : goal.returns
returns c = λ files after source library name p loaded unasked others.
    loaded_again files after library name others source p loaded unasked
