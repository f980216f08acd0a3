use Rattle.rules.proofs.Worked.{worked_examples_lem}
use Rattle.rules.proofs.worked_examples.Goals as goal

pub returns : goal.returns
returns c = worked_examples_lem
